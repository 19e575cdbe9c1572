-- Contents after changes.
use Rattle.std.proofs.Common.{◌≡◌, List, [], ◌∷◌, ◌++◌, refl, map}
use Rattle.lens_specs.specs.Common.{Kept, changed}
use Rattle.table_keeper.specs.Changes.{change_view}
use Rattle.table_keeper.specs.declared.keeper.Change.{Change}
use Rattle.memory_store.specs.InMemory.{after}

-- one change more is made behind the others
pub one_more : (changes : List Change) (last : Change) (kept : Kept) → after (map change_view (changes ++ last ∷ [])) kept ≡ changed (change_view last) (after (map change_view changes) kept)
one_more [] last kept = refl
one_more (first ∷ rest) last kept = one_more rest last (changed (change_view first) kept)
