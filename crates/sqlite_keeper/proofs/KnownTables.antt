-- Columns that become known.
use Rattle.std.proofs.Common.{◌≡◌, ◌∙◌, ℕ, List, [], ◌∷◌, ◌++◌, Bool, true, false, Result, Ok, Err, ap, sym, subst, refl, append_assoc, append-nil, OnErr, OnOk, is_some, if◌then◌else◌}
use Rattle.plain_values.proofs.Common.{Columns}
use Rattle.view_lang.specs.declared.definition.Definition.{Definition}
use Rattle.view_lang.specs.declared.definition.Definition.TheVariants.{Table, View}
use Rattle.sqlite_keeper.specs.Knowing.{ByTable, Extends, columns_at, with_defined}

pub extends_itself : (known : ByTable) → Extends known known
extends_itself known = ([], sym (append-nil known))

with_new : (b : Bool) (known : ByTable) (t : List ℕ × Columns) → Extends known (if b then known else known ++ t ∷ [])
with_new true known t = extends_itself known
with_new false known t = (t ∷ [], refl)

extends_defined : (d : Definition) (known : ByTable) → Extends known (with_defined d known)
extends_defined (Table name cols deps pred) known = with_new (is_some (columns_at known name)) known (name, cols)
extends_defined (View name expr) known = extends_itself known

-- whatever comes of a definition, what was known stays
pub extends_after : {T E : Type 0} (r : Result T E) (d : Definition) (old new : ByTable) → OnOk r (new ≡ with_defined d old) → OnErr r (new ≡ old) → Extends old new
extends_after (Ok x) d old new made left = subst (Extends old) (sym made) (extends_defined d old)
extends_after (Err e) d old new made left = subst (Extends old) (sym left) (extends_itself old)

-- and so it does after more of them
pub extends_further : (a b c : ByTable) → Extends a b → Extends b c → Extends a c
extends_further a b c m n = (m.0 ++ n.0, n.1 ∙ ap (λ x. x ++ n.0) m.1 ∙ append_assoc a m.0 n.0)
