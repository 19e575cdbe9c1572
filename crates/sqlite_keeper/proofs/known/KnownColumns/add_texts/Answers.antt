use Rattle.sqlite_keeper.specs.Knowing.{known_in}
use Rattle.sqlite_keeper.proofs.KnownTables.{extends_further, extends_itself}
use Rattle.sqlite_keeper.proofs.known.KnownColumns.add_texts.Goals as goal

pub loop-text-init : goal.loop-text-init
loop-text-init c = extends_itself (known_in c.args.self.now)

pub loop-text-preserved : goal.loop-text-preserved
loop-text-preserved c = extends_further _ _ _ c.loop-text.invariant c.in_ok-add_text.ensures
