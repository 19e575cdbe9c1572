-- What the structs of the code stand for: a text as its bytes.
use Rattle.std.specs.Option.{option_copied}
use Rattle.arguments.specs.Options.{Entries}
use Rattle.arguments.specs.Settings.{Settings}
use Rattle.arguments.specs.declared.parsing.Options as options
use Rattle.arguments.specs.declared.settings.Settings as settings

-- the values of the options
abbrev pub options_view : options.Options → Entries
options_view o = record { store = option_copied o.store; max_input = option_copied o.max_input; rehearse = option_copied o.rehearse }

-- the settings
abbrev pub settings_view : settings.Settings → Settings
settings_view s = record { store = option_copied s.store; max_input = s.max_input; rehearse = s.rehearse }
