-- What a request sees of the state of a server when its view is opened.
use Rattle.std.specs.Prelude.{[]}
use Rattle.lens_specs.specs.Lens.{Lens, Tables}
use Rattle.server_specs.specs.State.{State}
use Rattle.opened_view.specs.declared.opened.Opened.{Opened}

-- the lens of the view
abbrev pub lens_of : Opened → Lens
lens_of opened = opened.view.lens

-- the tables that the view is over
abbrev pub tables_under : Opened → Tables
tables_under opened = opened.view.tables.present.relations

-- The state, as far as a view goes by it: its tables, its version and its last changes. Whatever its definitions and its history are,
-- what is asked of the view is answered alike.
abbrev pub seen : Opened → State
seen opened = record { texts = []; tables = tables_under opened; version = opened.version; last = opened.last.now; past = [] }
