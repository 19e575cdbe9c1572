use Rattle.base_index.proofs.Bodies.{kept_twice}
use Rattle.base_index.proofs.body.Body.stage.Goals as goal

pub returns-then-is_err-clause-kept : goal.returns-then-is_err-clause-kept
returns-then-is_err-clause-kept c = kept_twice _ _ _ (kept_twice _ _ _ c.unstage.ensures.kept c.list-staged.ensures.kept) c.unstage-then-is_err.ensures.kept

pub returns-else-is_err-clause-kept : goal.returns-else-is_err-clause-kept
returns-else-is_err-clause-kept c = kept_twice _ _ _ c.unstage.ensures.kept c.list-staged.ensures.kept
