use Rattle.std.proofs.Common.{sym, subst}
use Rattle.base_index.specs.Parts.{IsWhole, parts_of}
use Rattle.base_index.proofs.Bodies.{cut_whole}
use Rattle.base_index.proofs.body.Body.truncate.Goals as goal

pub returns-clause-whole : goal.returns-clause-whole
returns-clause-whole c =
    let p = parts_of c.args.self.now in
    subst IsWhole (sym (λ i. record p { indexes = c.truncate.ensures.items i })) (cut_whole p c.requires.whole c.requires.calm c.args.shown c.requires.shown c.requires.held)

pub returns-clause-parts : goal.returns-clause-parts
returns-clause-parts c = λ i. record (parts_of c.args.self.now) { indexes = c.truncate.ensures.items i }
