-- How many rows are looked at by key, at each step of a change.
use Rattle.std.proofs.Common.{Result, Ok, Err, ◌≡◌, ℕ, ◌+◌, ◌*◌, ◌≤◌, ap, arith}
use Rattle.serde_json.specs.Data.{Items}
use Rattle.lens_specs.specs.Common.{Rows, Delta, diff, Lens, Tables, get, sort_of}
use Rattle.server_specs.specs.Common.{set_in, EditRefusal, Listed, in_rows}
use Rattle.plain_values.proofs.Common.{mul-le}
use Rattle.lens_laws.proofs.Common.{count_of, rows_of, size, work}
use Rattle.lens_laws.proofs.Work.{keyed_work, work_grows}
use Rattle.view_changes.specs.Sizes.{changed_by, sent_of}

-- a test of the edges, for each added row
pub check_within : (L : Lens) (d : Delta) (e w old new : ℕ) → e ≤ 64 → new ≤ old + size L w * count_of d.add * e → new ≤ old + work L (rows_of d) w
check_within L d e w old new edges h =
    let n = size L w in
    let a : n * count_of d.add ≤ n * rows_of d = mul-le n (count_of d.add) n (rows_of d) (omega arith) (omega arith) in
    let p : n * count_of d.add * e ≤ n * rows_of d * e = mul-le (n * count_of d.add) e (n * rows_of d) e a (omega arith) in
    let q : n * rows_of d * e ≡ e * rows_of d * n = grind arith in
    let k = keyed_work L (rows_of d) e w (omega arith) in
    omega (arith, h, p, q, k)

pub once_of_two : (x old new : ℕ) → new ≤ old + x → new ≤ old + 2 * x
once_of_two x old new h = omega (arith, h)

pub twice : (x old mid new : ℕ) → mid ≤ old + x → new ≤ mid + x → new ≤ old + 2 * x
twice x old mid new h k = omega (arith, h, k)

-- the rows that are sent are looked for, and then fewer are carried down
pub carried_few : (L : Lens) (d r w old mid new : ℕ) → d ≤ r → mid ≤ old + size L w * r → new ≤ mid + 2 * work L d w → new ≤ old + (size L w * r + 2 * work L r w)
carried_few L d r w old mid new few h k = let g = work_grows L d r w w few (omega arith) in omega (arith, g, h, k)

-- what is near the rows is looked for before them
pub near_first : (L : Lens) (r w old mid new : ℕ) → mid ≤ old + size L w * r → new ≤ mid + (size L w * r + 2 * work L r w) → new ≤ old + 3 * work L r w
near_first L r w old mid new h k =
    let g = keyed_work L r 2 w (omega arith) in
    let q : size L w * r + size L w * r ≡ 2 * r * size L w = grind arith in
    omega (arith, g, q, h, k)

pub near_alone : (L : Lens) (r w old new : ℕ) → new ≤ old + size L w * r → new ≤ old + 3 * work L r w
near_alone L r w old new h = near_first L r w old old new (omega arith) (omega (arith, h))

-- ---- rows that are sent

pub sent_is : (which : Listed) (L : Lens) (items : Items) (rows : Rows) → set_in which (sort_of L).columns items ≡ Ok rows → sent_of which L items ≡ count_of rows
sent_is which L items rows e = ap (λ (r : Result Rows EditRefusal). elim r as (λ _. ℕ) [ Ok rows ↦ count_of rows | Err bad ↦ 0 ]) e

pub changed_is : (db : Tables) (L : Lens) (items : Items) (rows : Rows) → set_in in_rows (sort_of L).columns items ≡ Ok rows → changed_by db L items ≡ rows_of (diff (get L db) rows)
changed_is db L items rows e = ap (λ (r : Result Rows EditRefusal). elim r as (λ _. ℕ) [ Ok rows ↦ rows_of (diff (get L db) rows) | Err bad ↦ 0 ]) e
