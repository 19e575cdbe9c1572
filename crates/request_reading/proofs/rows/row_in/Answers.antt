use Rattle.std.proofs.Common.{◌≡◌, ◌∙◌, ap, sym, subst}
use Rattle.serde_json.specs.Data.{object}
use Rattle.server_specs.specs.Sending as spec
use Rattle.borrowed_json.specs.Meaning.{value_data, members_data}
use Rattle.borrowed_json.proofs.Trees.{data-Object}
use Rattle.request_reading.specs.Blames.{Finds}
use Rattle.request_reading.proofs.rows.row_in.Goals as goal

pub returns-in-Object : goal.returns-in-Object
returns-in-Object c =
    let meant : value_data c.args.json ≡ object (members_data c.in-Object.members.items) = ap value_data c.in-Object.is ∙ data-Object c.in-Object.members in
    subst (λ d. Finds (λ row. row) c.row_of_members.result (spec.row_in c.args.columns.now d)) (sym meant)
    (subst (λ ms. Finds (λ row. row) c.row_of_members.result (spec.row_of_members c.args.columns.now (members_data ms))) c.deref.ensures.value c.row_of_members.ensures)
