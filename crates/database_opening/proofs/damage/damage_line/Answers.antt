use Rattle.std.proofs.Common.{◌≡◌, ◌∙◌, ◌++◌, ◌∷◌, ◌||◌, [], false, ap}
use Rattle.serde_json.specs.View.{view}
use Rattle.serde_json.specs.Written.{compact_text, has_float}
use Rattle.opening_specs.specs.Opening.{damage_text}
use Rattle.database_opening.specs.Openings.{damage_view}
use Rattle.database_opening.proofs.Told.{plain_damage}
use Rattle.database_opening.proofs.damage.damage_line.Goals as goal

pub returns : goal.returns
unfolding damage_text
returns c =
    let damage = damage_view c.args.damage.now in
    let json = c.in_ok-told_json.field-0 in
    let plain : has_float (view json) ≡ false = ap has_float c.in_ok-told_json.ensures ∙ ap (λ b. b || false) (plain_damage damage) in
    c.in_ok-push.ensures.items ∙ ap (λ text. text ++ 10 ∷ []) (c.in_ok-line.ensures.text plain ∙ ap compact_text c.in_ok-told_json.ensures)
