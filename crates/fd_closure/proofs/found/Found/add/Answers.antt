use Rattle.std.proofs.Common.{◌≡◌, ◌∙◌, sym, ap, subst, false}
use Rattle.plain_values.proofs.Common.{not-true}
use Rattle.lens_specs.specs.Common.{is_among}
use Rattle.fd_closure.specs.Arrival.{IsOnce}
use Rattle.fd_closure.proofs.Arrivals.{tree_push, once_push}
use Rattle.fd_closure.proofs.found.Found.add.Goals as goal

pub returns-in_ok-push-clause-kept : goal.returns-in_ok-push-clause-kept
returns-in_ok-push-clause-kept c =
    let old = c.args.self.now.order.items in
    let new : is_among c.args.name old ≡ false = sym (c.requires.0 c.args.name) ∙ not-true _ (sym c.in_ok-insert.ensures.added ∙ c.if-branch.true) in (
      λ k. tree_push c.args.self.now.members.keys c.insert.new.self.keys old c.args.name c.requires.0 c.in_ok-insert.ensures.updates.0 k ∙ ap (is_among k) (sym c.in_ok-push.ensures.items),
      subst IsOnce (sym c.in_ok-push.ensures.items) (once_push old c.args.name c.requires.1 new),
    )
