use Rattle.std.proofs.Common.{sym, ◌∙◌}
use Rattle.edit_batches.proofs.Unions.{rise_behind}
use Rattle.edit_batches.proofs.uniting.rise_on.Goals as goal

pub returns-in-Some-Some : goal.returns-in-Some-Some
returns-in-Some-Some c = λ less.
    rise_behind c.args.ones.now c.args.others.now c.in-Some-Some.last.now c.in-Some-Some.first.now c.in-Some-Some.ensures.value c.in-Some-Some.ensures'.value
    (sym c.lt.ensures ∙ less) c.requires.ones c.requires.others
