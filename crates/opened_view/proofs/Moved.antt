-- Last changes of tables that are changed again.
use Rattle.std.proofs.Common.{◌≡◌, ◌∙◌, ◌∷◌, ℕ, Bool, List, [], Option, Some, ap, cond, is_some, refl, true, false}
use Rattle.std.specs.FinMap as finmap
use Rattle.plain_values.proofs.Common.{eq_by_cmp, bytes_cmp}
use Rattle.fd_laws.proofs.Common.{name_total}
use Rattle.lens_specs.specs.Common.{Name, TableDelta}
use Rattle.opened_view.specs.Moving.{AreThere}

still_some : (b : Bool) (v : ℕ) (o : Option ℕ) → is_some o ≡ true → is_some (cond b (Some v) o) ≡ true
still_some true v o h = refl
still_some false v o h = h

-- tables that have last changes have them after one more
pub still_there : (last : finmap.FinMap bytes_cmp ℕ) (t : Name) (v : ℕ) (changes : List TableDelta) → AreThere last changes → AreThere (finmap.insert last t v) changes
still_there last t v [] there = tt
still_there last t v (change ∷ changes) there =
    (ap is_some (finmap.get-insert name_total last t v change.table) ∙ still_some (eq_by_cmp bytes_cmp change.table t) v (finmap.get last change.table) there.0, still_there last t v changes there.1)
