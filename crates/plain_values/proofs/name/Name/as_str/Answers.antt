use Rattle.std.proofs.Common.{sym, subst}
use Rattle.std.specs.Str.{IsUtf8}
use Rattle.plain_values.proofs.NameLemmas.{name_utf8}
use Rattle.plain_values.proofs.name.Name.as_str.Goals as goal

pub from_utf8_unchecked-requires : goal.from_utf8_unchecked-requires
from_utf8_unchecked-requires c = subst IsUtf8 (sym c.as_bytes.ensures.value) (name_utf8 _ c.as_bytes.ensures.name)
