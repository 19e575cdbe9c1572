-- The bytes of a reply.
use Rattle.std.specs.Prelude.{ℕ, List}
use Rattle.reply_printing.specs.declared.reply.Source.{Source}
use Rattle.reply_printing.specs.declared.reply.Source.TheVariants.{Fixed, Made}

-- what a reply holds, fixed or made
abbrev pub bytes_of : Source → List ℕ
bytes_of (Fixed bytes) = bytes.now
bytes_of (Made bytes) = bytes.items
