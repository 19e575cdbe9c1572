-- How many looks an edit of a join takes, where a and b bound one question on the left and on the right.
use Rattle.std.proofs.Common.{◌≡◌, ℕ, ◌+◌, ◌*◌, ◌≤◌, arith}
use Rattle.plain_values.proofs.Common.{mul-le}
use Rattle.join_delta.proofs.JoinLooks.{one_a}

-- those of the merge, and a question on the left for each pair
pub after_asking : (a b : ℕ) → 1 ≤ a → 1 ≤ b → (d p old l1 l2 : ℕ) → l1 ≤ old + 582 * (d * (a * b) * (a * b)) → p ≤ 129 * (d * (a * b)) → l2 ≤ l1 + a * p → l2 ≤ old + 711 * (d * (a * b) * (a * b))
after_asking a b some_a some_b d p old l1 l2 h few looks =
    let q : a * p ≤ a * b * (129 * (d * (a * b))) = mul-le a p (a * b) (129 * (d * (a * b))) (one_a a b some_a some_b) few in
    let s : a * b * (129 * (d * (a * b))) ≡ 129 * (d * (a * b) * (a * b)) = grind arith in
    omega arith
