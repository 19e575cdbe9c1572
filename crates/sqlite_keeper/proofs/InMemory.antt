-- What a keeper in memory keeps, call after call.
use Rattle.std.proofs.Common.{◌≡◌, ◌∙◌, List, [], ◌∷◌, Option, None, Some, ap, sym}
use Rattle.std.specs.FinMap as finmap
use Rattle.plain_values.proofs.Common.{nil_from_length, bytes_cmp}
use Rattle.lens_specs.specs.Common.{Name, Relation, Change, Follows, Kept, IfObserved, changed, nothing}
use Rattle.server_specs.specs.Common.{State, fresh, kept, rows_of_each}
use Rattle.memory_store.specs.InMemory.{after}
use Rattle.sqlite_keeper.specs.Turns.{KeepsInMemory, LeadFrom, TakesAll, Turn, changes_in, gave, gave_nothing, made, refused}
use Rattle.sqlite_keeper.specs.Unattached.{held}
use Rattle.sqlite_keeper.specs.declared.keeper.SqliteKeeper.{SqliteKeeper}

one_value : (a b : Kept) → Some a ≡ Some b → a ≡ b
one_value a b e = cc

-- after a change that was made
changed_some : (change : Change) (old new : Option Kept) (k : Kept) → old ≡ Some k → Follows (λ before later. later ≡ changed change before) old new → new ≡ Some (changed change k)
changed_some change None None k is f = cc
changed_some change None (Some b) k is f = absurd f
changed_some change (Some a) None k is f = absurd f
changed_some change (Some a) (Some b) k is f = ap Some (f ∙ ap (changed change) (one_value a k is))

kept_after : (turns : List Turn) (first last : SqliteKeeper) (k : Kept) → held first ≡ Some k → TakesAll turns first last → held last ≡ Some (after (changes_in turns) k)
kept_after [] first last k is takes = takes ∙ is
kept_after (gave contents ∷ turns) first last k is takes = kept_after turns takes.0 last k (takes.1.1 ∙ is) takes.2
kept_after (gave_nothing ∷ turns) first last k is takes = kept_after turns takes.0 last k (takes.1 ∙ is) takes.2
kept_after (made change ∷ turns) first last k is takes =
    kept_after turns takes.0 last (changed change k) (changed_some change (held first) (held takes.0) k is takes.1) takes.2
kept_after (refused change ∷ turns) first last k is takes = kept_after turns takes.0 last k (takes.1 ∙ is) takes.2

told_is : (told : Option Kept) (contents k : Kept) → told ≡ Some k → IfObserved told contents → contents ≡ k
told_is None contents k is tells = cc
told_is (Some t) contents k is tells = sym tells ∙ one_value t k is

led : (changes : List Change) (first last : State) (k : Kept) → kept first ≡ k → LeadFrom changes first last → after changes k ≡ kept last
led [] first last k is leads = sym (leads ∙ is)
led (change ∷ changes) first last k is leads = led changes leads.0 last (changed change k) (leads.1 ∙ ap (changed change) is) leads.2

-- nothing is kept of a state without definitions
nothing_of_fresh : kept fresh ≡ nothing
nothing_of_fresh =
    let kept_of : List (Name × Relation) → Kept = λ tables. record { texts = []; rows = finmap.from_entries (rows_of_each tables) } in
    ap kept_of (nil_from_length (finmap.entries fresh.tables) (sym (finmap.len-entries fresh.tables) ∙ finmap.len-empty bytes_cmp Relation))

pub keeps_in_memory : KeepsInMemory
keeps_in_memory = record {
  keeps = λ turns first last empty takes. kept_after turns first last nothing empty takes;
  gives = λ turns first last next contents empty takes given.
      told_is (held last) contents (after (changes_in turns) nothing) (kept_after turns first last nothing empty takes) given.0;
  last_state = λ turns first last end empty takes leads.
      kept_after turns first last nothing empty takes ∙ ap Some (led (changes_in turns) fresh end nothing nothing_of_fresh leads);
}
