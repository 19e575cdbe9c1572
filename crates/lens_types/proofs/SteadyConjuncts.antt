-- The least output that a conjunct mentions which is not steady, as the code finds it.
use Rattle.std.proofs.Common.{◌≡◌, not, List, ap, ◌∙◌, filter, find}
use Rattle.plain_values.specs.SortedSet as set
use Rattle.lens_laws.proofs.Common.{mentioned_is}
use Rattle.lens_specs.specs.Common.{Edge, Name, Names, Predicate, names_of, unsteady, outputs, is_steady}

-- the conjuncts that are not steady
abbrev pub others : List Edge → Predicate → Predicate
others T P = filter (λ f. not (is_steady T f)) P

-- the first output among their names
pub unsteady_is : (P : Predicate) (T : List Edge) (ns : List Name) (C : Names) → ns ≡ names_of (others T P) → C ≡ set.from_list ns → find (set.contains C) (set.items (outputs T)) ≡ unsteady P T
unsteady_is P T ns C list made =
    ap (λ D. find (set.contains D) (set.items (outputs T))) (made ∙ ap set.from_list list)
    ∙ (λ i. find (λ c. mentioned_is (others T P) c i) (set.items (outputs T)))
