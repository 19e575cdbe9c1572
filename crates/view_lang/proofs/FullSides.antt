-- The dependency of two sides.
use Rattle.std.proofs.Common.{◌≡◌, ℕ, Bool, true, false, cond, List, [], ◌∷◌, length, refl, sym, ap, ◌∙◌, arith, ◌||◌, nat_eq, not, Ok, Err}
use Rattle.plain_values.proofs.Common.{list_any, eq_by_cmp, is_eq, nat_tests, tied_itself, nat_list_cmp_total, bytes_cmp}
use Rattle.plain_values.specs.SortedSet as set
use Rattle.lens_specs.specs.Common.{Names, Edge, edge}
use Rattle.fd_closure.specs.Sides.{dep_of, empty_side}
use Rattle.grammar_specs.specs.Common.{is_some_list}

abbrev names_set : List (List ℕ) → Names
names_set names = set.from_list names

-- a set of a name or more has a member
some_member : (name : List ℕ) (names members : List (List ℕ)) → set.items (names_set (name ∷ names)) ≡ members → nat_eq (length members) 0 ≡ false
some_member name names [] e =
    let there : list_any (eq_by_cmp bytes_cmp name) (set.items (names_set (name ∷ names))) ≡ true =
    sym (set.contains-items (names_set (name ∷ names)) name) ∙ set.contains-from_list nat_list_cmp_total (name ∷ names) name
    ∙ ap (λ b. b || list_any (eq_by_cmp bytes_cmp name) names) (ap is_eq (tied_itself nat_list_cmp_total name)) in
    sym there ∙ ap (list_any (eq_by_cmp bytes_cmp name)) e
some_member name names (member ∷ members) e = grind (arith, nat_tests)

-- a set of names is empty where there are none
is_full : (names : List (List ℕ)) → nat_eq (length (set.items (names_set names))) 0 ≡ not (is_some_list names)
is_full [] = ap (λ (members : List (List ℕ)). nat_eq (length members) 0) (set.items-from_list nat_list_cmp_total [] (set.nothing_rises nat_list_cmp_total))
is_full (name ∷ names) = some_member name names (set.items (names_set (name ∷ names))) refl

made_where : (a b : Bool) (e : Edge) → a ≡ false → b ≡ false → cond (a || b) (Err empty_side) (Ok e) ≡ Ok e
made_where a b e f g = rw (f, g) refl

-- the dependency of two sides that have a name is made
pub dep_made : (left right : List (List ℕ)) (X Y : Names) → X ≡ set.from_list left → Y ≡ set.from_list right → is_some_list left ≡ true → is_some_list right ≡ true
    → dep_of X Y ≡ Ok (edge (set.from_list left) (set.from_list right))
dep_made left right X Y l r some others =
    (λ i. dep_of (l i) (r i))
    ∙ made_where (nat_eq (length (set.items (names_set left))) 0) (nat_eq (length (set.items (names_set right))) 0) (edge (names_set left) (names_set right)) (is_full left ∙ ap not some) (is_full right ∙ ap not others)
