use Rattle.std.proofs.Common.{◌∙◌, ap, length, take}
use Rattle.lens_specs.specs.Common.{is_among}
use Rattle.fd_closure.proofs.Arrivals.{front_with, members_more}
use Rattle.fd_closure.proofs.found.Found.add_all.Goals as goal

pub loop-name-preserved : goal.loop-name-preserved
loop-name-preserved c =
    let first = c.args.self.now.order.items in
    let old = c.loop-name.self.order.items in
    let name = c.name-item.result in
    record {
      kept = c.in_ok-add.ensures.kept;
      front = ap (take (length first)) c.in_ok-add.ensures.names ∙ front_with first old name c.loop-name.invariant.front;
      members = λ k. ap (is_among k) c.in_ok-add.ensures.names
          ∙ members_more old first c.args.names.now c.loop-name.name-index name name k c.loop-name-test.true c.name-item.is (c.loop-name.invariant.members k);
    }
