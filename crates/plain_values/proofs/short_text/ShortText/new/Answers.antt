use Rattle.std.proofs.Common.{◌≤◌, ◌<◌, ℕ, arith, length, get_or, sym, subst, IsTrue}
use Rattle.std.proofs.Math.Facts.{Fits-lt-pow}
use Rattle.plain_values.specs.Bytes.{is_text}
use Rattle.plain_values.proofs.ShortLemmas.{keeps_short}
use Rattle.plain_values.proofs.short_text.ShortText.new.Goals as goal

pub invariant_of-result : goal.invariant_of-result
invariant_of-result c =
    let same = sym c.as_bytes-text.ensures.value in
    let small : (k : ℕ) → get_or c.as_bytes-text.result.now k 0 < 256 = λ k. subst (λ t. get_or t k 0 < 256) same (Fits-lt-pow (c.type_inv.s k)) in
    let short : length c.as_bytes-text.result.now ≤ 22 = omega (arith, c.if-text-gt-SHORT.false) in
    rw c.copy_from_slice.ensures.after (keeps_short c.as_bytes-text.result.now small (subst (λ t. IsTrue (is_text t)) same c.requires) c.as_bytes-text.ensures.utf8 short)
