use Rattle.sqlite_keeper.specs.Knowing.{known_in}
use Rattle.sqlite_keeper.proofs.KnownTables.{extends_after}
use Rattle.sqlite_keeper.proofs.known.KnownColumns.add_text.Goals as goal

pub returns-in-Ok : goal.returns-in-Ok
returns-in-Ok c = extends_after c.add.result c.in-Ok.definition (known_in c.args.self.now) (known_in c.add.new.self) c.add.ensures.ok c.add.ensures.err
