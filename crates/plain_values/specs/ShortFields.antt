-- The bytes of a short text determine its fields.
use Rattle.std.specs.Prelude.{◌≡◌, length, take}
use Rattle.std.proofs.Common.{sym}
use Rattle.std.proofs.lemmas.List.{length-take-le}
use Rattle.plain_values.specs.ShortBytes.{padded, KeepsShort}
use Rattle.plain_values.specs.declared.short_text.ShortText.TheInside.{Inside}

-- padded again, the bytes of a short text are its array
pub same_fields : (s : Inside) → KeepsShort s.bytes s.len → ◌≡◌ {A = Inside} (record { bytes = padded (take s.len s.bytes); len = length (take s.len s.bytes) }) s
same_fields s kept = λ i. record { bytes = sym kept.whole i; len = length-take-le s.len s.bytes kept.within i }
