-- The bytes of a name determine its fields.
use Rattle.std.specs.Prelude.{◌≡◌, length, take}
use Rattle.std.proofs.Common.{sym}
use Rattle.std.proofs.lemmas.List.{length-take-le}
use Rattle.plain_values.specs.NameBytes.{padded, spelt, KeepsName}
use Rattle.plain_values.specs.declared.name.Name.TheInside.{Inside}

-- padded again, the bytes of a name are its array
pub same_fields : (n : Inside) → KeepsName n.bytes n.len n.front → ◌≡◌ {A = Inside} (record { bytes = padded (take n.len n.bytes); len = length (take n.len n.bytes); front = spelt 8 0 (take n.len n.bytes) }) n
same_fields n kept = λ i. record { bytes = sym kept.whole i; len = length-take-le n.len n.bytes kept.within i; front = sym kept.first i }
