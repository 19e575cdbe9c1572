-- The options of the command line, in the words of `clap`.
use Rattle.std.specs.Prelude.{List, [], ◌∷◌, Bool, true, false, Option, Some, None, codes, if◌then◌else◌}
use Rattle.clap.specs.Walk.{Row, Rule, Text, first_of}
use Rattle.clap.specs.Kinds.{Kinds}
use Rattle.clap.specs.Simple.{App, new_app, new_rule, with_rule, matches_of}
use Rattle.clap.specs.Faults.{fault_of}

-- the option of this name, which takes one value and stands once at most
abbrev pub option : Text → Rule
option name = record (new_rule name) { long = Some name }

-- the command: it has three options, and takes no other words
abbrev pub command : App
command = with_rule (with_rule (with_rule (new_app (codes "view_program")) (option (codes "store"))) (option (codes "max-input"))) (option (codes "rehearse"))

-- the values of the options, as they are written
pub record Entries : Type 0 where
  pub store : Option Text
  pub max_input : Option Text
  pub rehearse : Option Text

-- the values among what a parse matched
abbrev pub entries_in : List Row → Entries
entries_in rows = record { store = first_of (codes "store") rows; max_input = first_of (codes "max-input") rows; rehearse = first_of (codes "rehearse") rows }

-- whether a parse has no fault
abbrev pub passes : Kinds → Bool
passes [] = true
passes (kind ∷ kinds) = false

-- the values that the words give, the program's name being the first; none where the command does not take the words
abbrev pub entries : List Text → Option Entries
entries words = if passes (fault_of command words) then Some (entries_in (matches_of command words)) else None
