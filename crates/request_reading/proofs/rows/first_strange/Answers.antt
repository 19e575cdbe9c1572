use Rattle.std.proofs.Common.{◌≡◌, ◌∙◌, ap, sym, cond, option_map, take, Some, Bool, true, false, refl}
use Rattle.server_specs.specs.Common.{first_other, least_of, is_column_of}
use Rattle.borrowed_json.specs.Meaning.{members_data}
use Rattle.request_reading.proofs.Columns.{column_told}
use Rattle.request_reading.proofs.Others.{other_more}
use Rattle.request_reading.proofs.rows.first_strange.Goals as goal
use Rattle.request_reading.proofs.rows.first_strange.Goals.{then-not-is_column, else-not-is_column}

pub loop-member-preserved : goal.loop-member-preserved
loop-member-preserved c =
    let passes = is_column_of c.args.columns.now in
    let sent = c.args.members.now in
    let i = c.loop-member.member-index in
    let here = c.member-item.result in
    let before = first_other passes (members_data (take i sent)) in
    let more = other_more passes sent i here c.loop-member-test.true c.member-item.is in
    let told : (b : Bool) → c.is_column.result ≡ b → passes here.0.now ≡ b =
    λ b is. column_told c.args.columns.now c.pairs.result.now here.0.now here.0.now c.is_column.result b c.pairs.ensures refl c.is_column.ensures is in
    elim c.if-not-is_column.branch [
      | then-not-is_column w ↦
          ap (option_map (λ name. name.now)) w.first-is ∙ ap Some (w.least_of.ensures ∙ ap (least_of here.0.now) c.loop-member.invariant)
          ∙ sym (more ∙ ap (λ b. cond b before (Some (least_of here.0.now before))) (told false w.if-not-is_column.true))
      | else-not-is_column w ↦
          ap (option_map (λ name. name.now)) w.first-is ∙ c.loop-member.invariant
          ∙ sym (more ∙ ap (λ b. cond b before (Some (least_of here.0.now before))) (told true w.if-not-is_column.false))
    ]
