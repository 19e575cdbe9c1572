-- What the program does where the words of its command line cannot be read.
use Rattle.std.specs.Prelude.{ℕ}
use Rattle.view_program.specs.declared.words.ArgumentsReadFault.{ArgumentsReadFault}
use Rattle.view_program.specs.declared.words.ArgumentsReadFault.TheVariants.{NoMemory, Unreadable}

-- the status for such a fault
abbrev pub word_status : ArgumentsReadFault → ℕ
word_status NoMemory = 3
word_status Unreadable = 2
