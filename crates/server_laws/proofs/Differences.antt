-- Differences of rows and of tables that are empty.
use Rattle.std.proofs.Common.{◌≡◌, true, cond, List, [], ◌∷◌, refl, sym, ap, ◌∙◌}
use Rattle.lens_specs.specs.Common.{Name, Rows, Tables, table, diff, is_empty, differences, new_view}
use Rattle.std.specs.FinMap as finmap
use Rattle.lens_laws.proofs.Alone.{no_diff}
use Rattle.lens_laws.proofs.Common.{diff_leads}
use Rattle.lens_laws.proofs.Moves.{after_nothing, empty_is, nothing_empty}

-- where the difference is empty, the rows are the same
pub empty_same : (old new : Rows) → is_empty (diff old new) ≡ true → old ≡ new
empty_same old new h = sym (ap (λ r. r.rows) (after_nothing (record { columns = finmap.empty; rows = old }))) ∙ ap (new_view old) (sym (empty_is (diff old new) h)) ∙ diff_leads old new

pub none_differ : (ts : List Name) (db : Tables) → differences ts db db ≡ []
none_differ [] db = refl
none_differ (t ∷ ts) db =
    ap (λ b. cond b (differences ts db db) (record { table = t; delta = diff (table db t) (table db t) } ∷ differences ts db db)) (ap is_empty (no_diff (table db t)) ∙ nothing_empty)
    ∙ none_differ ts db
