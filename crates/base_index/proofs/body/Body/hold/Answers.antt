use Rattle.std.proofs.Common.{ap, ◌∙◌, Some}
use Rattle.base_index.specs.Parts.{parts_of}
use Rattle.base_index.proofs.Settled.{holding_held}
use Rattle.base_index.proofs.Settled.{holding_whole}
use Rattle.base_index.proofs.body.Body.hold.Goals as goal

pub returns-clause-whole : goal.returns-clause-whole
returns-clause-whole c = holding_whole (parts_of c.unstage.new.self) c.unstage.ensures.whole c.unstage.ensures.calm (c.unstage.ensures.kept.is_held ∙ c.requires.free)

pub returns-clause-held : goal.returns-clause-held
returns-clause-held c =
    holding_held (parts_of c.unstage.new.self) c.unstage.ensures.whole c.unstage.ensures.calm (c.unstage.ensures.kept.is_held ∙ c.requires.free)
    ∙ ap Some c.unstage.ensures.kept.seen
