-- How many looks an edit of a selection takes.
use Rattle.std.proofs.Common.{◌≡◌, ℕ, ◌+◌, ◌*◌, ◌≤◌, ap, arith}
use Rattle.plain_values.proofs.Common.{mul-le}
use Rattle.lens_specs.specs.Common.{Delta, Rows}
use Rattle.lens_laws.proofs.Common.{count_of, node_work, rows_of}

within_node : (r a n e : ℕ) → e ≤ 64 → 1 ≤ n → n * a * e ≤ 8192 * (r + a) * n * n
within_node r a n e few some =
    let p : n * a * e ≤ n * a * 64 = mul-le (n * a) e (n * a) 64 (omega arith) few in
    let q : n * a ≤ n * (r + a) = mul-le n a n (r + a) (omega arith) (omega arith) in
    let s : n * (r + a) * 1 ≤ n * (r + a) * n = mul-le (n * (r + a)) 1 (n * (r + a)) n (omega arith) some in
    let t : 8192 * (r + a) * n * n ≡ 8192 * (n * (r + a) * n) = grind arith in
    omega arith

-- rows are revised by the added ones alone, along at most 64 edges
pub looks_are : (d : Delta) (plus : Rows) (e n old new : ℕ) → plus ≡ d.add → new ≤ old + n * count_of plus * e → e ≤ 64 → 1 ≤ n → new ≤ old + node_work (rows_of d) n
looks_are d plus e n old new is h few some =
    let same : n * count_of plus * e ≡ n * count_of d.add * e = ap (λ M. n * count_of M * e) is in
    let w = within_node (count_of d.remove) (count_of d.add) n e few some in
    omega arith
