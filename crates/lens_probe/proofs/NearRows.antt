-- What is known of the first join down a lens.
use Rattle.std.proofs.Common.{◌≡◌, ◌∙◌, ◌+◌, ◌*◌, ◌≤◌, ℕ, Some, ap, arith, sym, true}
use Rattle.plain_values.proofs.Common.{mul-le, same_Some, Row}
use Rattle.lens_specs.specs.Common.{Lens, base, select, drop, rename, Names, Rows, agree, join}
use Rattle.lens_laws.proofs.Common.{find_by, find_alike}
use Rattle.lens_probe.specs.NearRows.{first_join}
use Rattle.lens_probe.specs.Viewed.{only_source}

-- the rows by a key are those by each other key that agrees with it
pub known_by : (C D : Names) (k q : Row) (M rows : Rows) → C ≡ D → agree D q k ≡ true → rows ≡ find_by C k M → rows ≡ find_by D q M
known_by C D k q M rows same alike found = found ∙ ap (λ S. find_by S k M) same ∙ sym (find_alike D q k M alike)

-- the first join down a lens with one source is that down its source
pub join_of_source : (L C : Lens) → only_source L ≡ Some C → first_join L ≡ first_join C
join_of_source (base t s) C e = cc
join_of_source (select P D) C e = ap first_join (same_Some D C e)
join_of_source (drop A X v D) C e = ap first_join (same_Some D C e)
join_of_source (rename A B D) C e = ap first_join (same_Some D C e)
join_of_source (join kind A B) C e = cc

-- the rows on both sides are sought one after the other
pub near_looks : (size n a b old mid new : ℕ) → size ≤ n → mid ≤ old + size * a → new ≤ mid + size * b → new ≤ old + n * (a + b)
near_looks size n a b old mid new some first second =
    let p : size * (a + b) ≤ n * (a + b) = mul-le size (a + b) n (a + b) some (omega arith) in
    omega (arith, first, second, p)
