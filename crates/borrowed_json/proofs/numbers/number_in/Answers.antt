use Rattle.std.proofs.Common.{◌≡◌, ◌∙◌, ◌==◌, ap, sym, arith, drop, get_or, length-drop, take_all, true, false}
use Rattle.fast_float.specs.Text.{scan}
use Rattle.serde_json.specs.Read.{number_of, number_from}
use Rattle.borrowed_json.proofs.numbers.number_in.Goals as goal

pub returns-then-begins_with_minus : goal.returns-then-begins_with_minus
unfolding number_of
returns-then-begins_with_minus c =
    let s = c.as_bytes-bytes.result.now in
    let begins : (get_or s 0 0 == 45) ≡ true = sym c.if-begins_with_minus.ensures.begins in
    let rest : c.scan.result ≡ scan (drop 1 s) = c.scan.ensures.parts ∙ ap scan (take_all _ (drop 1 s) (omega (arith, length-drop 1 s))) in
    let meant : number_from true (scan (drop 1 s)) ≡ number_of s = rw begins in
    c.below_zero.ensures ∙ ap (number_from true) rest ∙ meant ∙ ap number_of c.as_bytes-bytes.ensures.value

pub returns-else-begins_with_minus : goal.returns-else-begins_with_minus
unfolding number_of
returns-else-begins_with_minus c =
    let s = c.as_bytes-bytes.result.now in
    let begins : (get_or s 0 0 == 45) ≡ false = sym c.if-begins_with_minus.ensures.begins in
    let meant : number_from false (scan s) ≡ number_of s = rw begins in
    c.from_zero.ensures ∙ ap (number_from false) c.scan-else-begins_with_minus.ensures.parts ∙ meant ∙ ap number_of c.as_bytes-bytes.ensures.value
