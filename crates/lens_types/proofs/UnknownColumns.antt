-- Unknown columns of dependencies.
use Rattle.std.proofs.Common.{◌≡◌, ◌∙◌, ◌+◌, ◌<◌, ℕ, suc, List, ◌∷◌, length, drop, get_or, add-one, ap, sym, refl, Option, Some, None, is_some}
use Rattle.plain_values.proofs.Common.{drop-cons}
use Rattle.std.specs.FinMap as finmap
use Rattle.plain_values.specs.SortedSet as set
use Rattle.fd_laws.proofs.Common.{names-get}
use Rattle.lens_specs.specs.Common.{Name, Columns, names, Edge, Refusal, or_else, unknown_in}
use Rattle.lens_types.specs.Unknown.{unknown_of_edge}

-- a column is there where it has a kind
pub in_names : (U : Columns) (c : Name) → is_some (finmap.get U c) ≡ set.contains (names U) c
in_names U c = sym (names-get U c)

regrouped : (a b r : Option Refusal) → or_else a (or_else b r) ≡ or_else (or_else a b) r
regrouped None b r = refl
regrouped (Some x) b r = refl

-- the first unknown column of the dependencies that are left
unknown_at : (U : Columns) (deps : List Edge) (i : ℕ) (d : Edge) → i < length deps → d ≡ get_or deps i d
    → unknown_in U (drop i deps) ≡ or_else (unknown_of_edge U d) (unknown_in U (drop (i + 1) deps))
unknown_at U deps i d h e =
    ap (unknown_in U) (drop-cons deps i d h) ∙ ap (λ k. unknown_in U (k ∷ drop (suc i) deps)) (sym e)
    ∙ regrouped _ _ (unknown_in U (drop (suc i) deps)) ∙ ap (λ j. or_else (unknown_of_edge U d) (unknown_in U (drop j deps))) (sym (add-one i))

pub unknown_here : (U : Columns) (deps : List Edge) (i : ℕ) (d : Edge) (r : Refusal) → i < length deps → d ≡ get_or deps i d → unknown_of_edge U d ≡ Some r
    → unknown_in U (drop i deps) ≡ Some r
unknown_here U deps i d r h e is = unknown_at U deps i d h e ∙ ap (λ o. or_else o (unknown_in U (drop (i + 1) deps))) is

pub unknown_later : (U : Columns) (deps : List Edge) (i : ℕ) (d : Edge) → i < length deps → d ≡ get_or deps i d → unknown_of_edge U d ≡ None
    → unknown_in U (drop i deps) ≡ unknown_in U (drop (i + 1) deps)
unknown_later U deps i d h e is = unknown_at U deps i d h e ∙ ap (λ o. or_else o (unknown_in U (drop (i + 1) deps))) is
