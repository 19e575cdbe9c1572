use Rattle.std.proofs.Common.{◌≡◌, ◌∙◌, ap, sym, cond, map, option_map, take, Some, true, false}
use Rattle.server_specs.specs.Common.{first_other, least_of}
use Rattle.borrowed_json.specs.Meaning.{members_data}
use Rattle.request_reading.specs.RequestKinds.{is_among}
use Rattle.request_reading.proofs.Others.{other_more}
use Rattle.request_reading.proofs.request_kind.first_unknown.Goals as goal
use Rattle.request_reading.proofs.request_kind.first_unknown.Goals.{then-not-is_known, else-not-is_known}

pub loop-member-preserved : goal.loop-member-preserved
loop-member-preserved c =
    let passes = is_among (map (λ name. name.now) c.args.names.now) in
    let sent = c.args.members.now in
    let i = c.loop-member.member-index in
    let here = c.member-item.result in
    let before = first_other passes (members_data (take i sent)) in
    let more = other_more passes sent i here c.loop-member-test.true c.member-item.is in
    elim c.if-not-is_known.branch [
      | then-not-is_known w ↦
          let unknown : passes here.0.now ≡ false = sym c.is_known.ensures ∙ w.if-not-is_known.true in
          ap (option_map (λ name. name.now)) w.first-is ∙ ap Some (w.least_of.ensures ∙ ap (least_of here.0.now) c.loop-member.invariant)
          ∙ sym (more ∙ ap (λ b. cond b before (Some (least_of here.0.now before))) unknown)
      | else-not-is_known w ↦
          let known : passes here.0.now ≡ true = sym c.is_known.ensures ∙ w.if-not-is_known.false in
          ap (option_map (λ name. name.now)) w.first-is ∙ c.loop-member.invariant
          ∙ sym (more ∙ ap (λ b. cond b before (Some (least_of here.0.now before))) known)
    ]
