use Rattle.std.proofs.Common.{◌≡◌, ◌∙◌, sym, ap, subst, cond, IfOk, option_map, true, false, refl, None}
use Rattle.std.specs.Str.{is_utf8}
use Rattle.std.proofs.lemmas.Str.{is_utf8-from_IsUtf8, IsUtf8-from_is_utf8}
use Rattle.serde_json.specs.Read.{read}
use Rattle.borrowed_json.specs.Meaning.{value_data}
use Rattle.borrowed_json.proofs.reading.read_line.Goals as goal

pub returns-in-Ok : goal.returns-in-Ok
returns-in-Ok c =
    subst (λ o. IfOk c.read_text.result (λ found. option_map value_data found ≡ o))
    (ap read c.in-Ok.ensures.0 ∙ sym (ap (λ b. cond b (read c.args.line.now) None) (is_utf8-from_IsUtf8 c.args.line.now c.in-Ok.ensures.1)))
    c.read_text.ensures

pub returns-in-Err : goal.returns-in-Err
returns-in-Err c =
    sym (elim (is_utf8 c.args.line.now) as (λ b. is_utf8 c.args.line.now ≡ b → cond b (read c.args.line.now) None ≡ None) [
      | true ↦ λ e. absurd (c.in-Err.ensures (IsUtf8-from_is_utf8 c.args.line.now e))
      | false ↦ λ e. refl
    ] refl)
