use Rattle.std.proofs.Common.{◌∙◌, IfSome, ap, arith, subst, sym}
use Rattle.drop_delta.specs.Dropped.{Fills, filling_for}
use Rattle.drop_delta.proofs.Filling.{filling_alike, first_fills}
use Rattle.drop_delta.proofs.editing.filling_of.Goals as goal

pub returns-then-agree_on : goal.returns-then-agree_on
returns-then-agree_on g c =
    let k = c.args.dropped.now in
    let M = (g.S.Look.relation c.args.source.now).rows in
    let known = c.in-Some.known in
    let fills : Fills k.col.now k.by.now k.fill.now M known = subst (λ o. IfSome o (Fills k.col.now k.by.now k.fill.now M)) c.in-Some.is c.requires.known in
    record {
      fills = fills;
      value = fills ∙ filling_alike k.col.now k.by.now k.fill.now M known.key c.args.row.now (sym c.agree_on.ensures ∙ c.if-agree_on.true);
      looks = λ n w. omega arith;
    }

pub returns : goal.returns
returns g c =
    let k = c.args.dropped.now in
    let M = (g.S.Look.relation c.args.source.now).rows in
    let value = first_fills k.col.now k.by.now k.fill.now c.in_ok-value.value M c.in_ok-found.found c.args.row.now c.in_ok-found.ensures.found c.in_ok-value.ensures in
    record {
      fills = value ∙ ap (filling_for k.col.now k.by.now k.fill.now M) (sym c.in_ok-key.ensures);
      value = value;
      looks = c.find.ensures.looks;
    }
