-- The line that tells a damage.
use Rattle.std.proofs.Common.{◌≡◌, ◌∙◌, ◌||◌, false, ap, refl}
use Rattle.serde_json.specs.Written.{has_float}
use Rattle.plain_values.proofs.Common.{Row}
use Rattle.server_specs.specs.Common.{row_data}
use Rattle.server_specs.specs.Answer.{pair_data}
use Rattle.server_specs.proofs.Plain.{plain_row}
use Rattle.opening_specs.specs.Opening.{Damage, definition, missing, strange, bad_row, clash_in, damage_data}

plain_pair : (first second : Row) → has_float (pair_data first second) ≡ false
plain_pair first second = ap (λ b. b || (has_float (row_data second) || false)) (plain_row first) ∙ ap (λ b. b || false) (plain_row second)

-- it has no number with a fraction
pub plain_damage : (damage : Damage) → has_float (damage_data damage) ≡ false
plain_damage (definition index) = refl
plain_damage (missing table) = refl
plain_damage (strange table) = refl
plain_damage (bad_row table row) = ap (λ b. b || (false || false)) (plain_row row)
plain_damage (clash_in table first second) = ap (λ b. b || (false || false)) (plain_pair first second)
