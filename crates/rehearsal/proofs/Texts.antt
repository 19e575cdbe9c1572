-- The texts of the lines.
use Rattle.std.proofs.Common.{◌≡◌, ◌∙◌, ◌≤◌, ℕ, List, ap, String, Global, string_bytes, IfOk}
use Rattle.std.specs.declared.result.Result.{Result}
use Rattle.std.proofs.lemmas.Result.{IfOk-weaker}
use Rattle.serde_json.specs.Data.{Data}
use Rattle.server_specs.specs.Common.{marked}
use Rattle.rehearsal.specs.Rehearsal.{json_text, line_of}
use Rattle.rehearsal.proofs.Short.{most, marked-short}

-- a text makes a line, where it has no room to be too long
pub line-made : (text : List ℕ) (d : Data) → text ≡ json_text d → most d ≤ 16777216 → marked text ≡ line_of d
line-made text d is few = ap marked is ∙ marked-short d few

pub line-made_if_ok : {E : Type 0} (r : Result (String Global) E) (d d' : Data) → IfOk r (λ text. string_bytes text ≡ json_text d) → d ≡ d' → most d' ≤ 16777216 → IfOk r (λ text. marked (string_bytes text) ≡ line_of d')
line-made_if_ok r d d' ok same few = IfOk-weaker r _ _ (λ text is. line-made (string_bytes text) d' (is ∙ ap json_text same) few) ok
