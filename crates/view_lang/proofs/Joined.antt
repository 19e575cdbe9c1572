-- The tokens of several members, one after another.
use Rattle.std.proofs.Common.{◌≡◌, ◌∙◌, ◌<◌, ◌≤◌, ◌+◌, ℕ, eqb, false, List, [], ◌∷◌, ◌++◌, map, take, length, length-take, get_or, refl, ap, sym, append_assoc, append-nil, arith, codes, flat_map}
use Rattle.plain_values.proofs.Common.{true≢false, take_more, map_push, flat_map-append}
use Rattle.lens_specs.specs.Common.{Edge, Formula, Predicate}
use Rattle.grammar_specs.specs.Common.{Token, word, comma, All, only, joined, Pred, alone, either, part_tokens, all_tokens, pred_tokens, dep_tokens, deps_tokens, part_of, all_parts, more_parts, all_of_formula, any_alls, more_alls, joined_parts, predicate_written, pred_of, dep_written}
use Rattle.lens_pred.specs.View.{formula_view, list_view, predicate_view}
use Rattle.lens_pred.specs.declared.formula.Formula.{Formula as Declared}
use Rattle.view_lang.specs.PrintAdds.{before_item}

-- ---- one member more

taken : {X : Type 0} (xs : List X) (i : ℕ) (x : X) → i < length xs → x ≡ get_or xs i x → take (i + 1) xs ≡ take i xs ++ x ∷ []
taken xs i x h e = take_more xs i x h ∙ ap (λ y. take i xs ++ y ∷ []) (sym e)

-- where each member is one token
pub map_taken : {X Y : Type 0} (f : X → Y) (xs : List X) (i : ℕ) (x : X) → i < length xs → x ≡ get_or xs i x
    → map f (take i xs) ++ f x ∷ [] ≡ map f (take (i + 1) xs)
map_taken f xs i x h e = sym (ap (map f) (taken xs i x h e) ∙ map_push f (take i xs) x)

-- the tokens of members, with this one between them
abbrev pub between : {X : Type 0} → Token → (X → List Token) → List X → List Token
between t f [] = []
between t f (x ∷ xs) = f x ++ flat_map (λ y. t ∷ f y) xs

between_push : {X : Type 0} (t : Token) (f : X → List Token) (xs : List X) (x : X) → between t f xs ++ (before_item (length xs) t ++ f x) ≡ between t f (xs ++ x ∷ [])
between_push t f [] x = sym (append-nil (f x))
between_push t f (y ∷ xs) x =
    append_assoc (f y) (flat_map (λ y. t ∷ f y) xs) (t ∷ f x)
    ∙ ap (λ ts. f y ++ ts) (sym (flat_map-append (λ y. t ∷ f y) xs (x ∷ []) ∙ ap (λ ts. flat_map (λ y. t ∷ f y) xs ++ ts) (append-nil (t ∷ f x))))

-- those of one member more
pub between_more : {X : Type 0} (t : Token) (f : X → List Token) (xs : List X) (i : ℕ) (x : X) → i < length xs → x ≡ get_or xs i x
    → between t f (take i xs) ++ (before_item i t ++ f x) ≡ between t f (take (i + 1) xs)
between_more t f xs i x h e =
    let long : i ≡ length (take i xs) = omega (arith, length-take i xs) in
    ap (λ k. between t f (take i xs) ++ (before_item k t ++ f x)) long ∙ between_push t f (take i xs) x ∙ ap (between t f) (sym (taken xs i x h e))

flat_seen : {X Y : Type 0} (f : Y → List Token) (h : X → Y) (xs : List X) → flat_map (λ x. f (h x)) xs ≡ flat_map f (map h xs)
flat_seen f h [] = refl
flat_seen f h (x ∷ xs) = ap (λ ts. f (h x) ++ ts) (flat_seen f h xs)

-- ---- dependencies

pub deps_between : (ds : List Edge) → eqb (length ds) 0 ≡ false → word (codes "with") ∷ between comma (λ d. dep_tokens (dep_written d)) ds ≡ deps_tokens (map dep_written ds)
deps_between [] some = absurd (true≢false some)
deps_between (d ∷ ds) some = ap (λ ts. word (codes "with") ∷ (dep_tokens (dep_written d) ++ ts)) (flat_seen (λ e. comma ∷ dep_tokens e) dep_written ds)

-- ---- conjuncts and disjuncts

abbrev and_part : Formula → List Token
and_part f = word (codes "and") ∷ part_tokens (part_of f)

abbrev and_parts : Predicate → List Token
and_parts fs = flat_map and_part fs

abbrev or_all : Formula → List Token
or_all f = word (codes "or") ∷ all_tokens (all_of_formula f)

abbrev or_alls : Predicate → List Token
or_alls fs = flat_map or_all fs

parts_on : (a : All) (fs : Predicate) → all_tokens (more_parts a (list_view fs)) ≡ all_tokens a ++ and_parts fs
parts_on a [] = sym (append-nil (all_tokens a))
parts_on a (f ∷ fs) =
    parts_on (joined a (part_of f)) fs ∙ append_assoc (all_tokens a) (and_part f) (and_parts fs)

-- parts with "and" between them
pub parts_between : (fs : List Declared) → eqb (length fs) 0 ≡ false → between (word (codes "and")) (λ f. part_tokens (part_of (formula_view f))) fs ≡ all_tokens (all_parts (list_view (predicate_view fs)))
parts_between [] some = absurd (true≢false some)
parts_between (f ∷ fs) some =
    ap (λ ts. part_tokens (part_of (formula_view f)) ++ ts) (flat_seen and_part formula_view fs) ∙ sym (parts_on (only (part_of (formula_view f))) (predicate_view fs))

alls_on : (o : Pred) (fs : Predicate) → pred_tokens (more_alls o (list_view fs)) ≡ pred_tokens o ++ or_alls fs
alls_on o [] = sym (append-nil (pred_tokens o))
alls_on o (f ∷ fs) =
    alls_on (either o (all_of_formula f)) fs ∙ append_assoc (pred_tokens o) (or_all f) (or_alls fs)

-- members with "or" between them
pub alls_between : (fs : List Declared) → eqb (length fs) 0 ≡ false → between (word (codes "or")) (λ f. all_tokens (all_of_formula (formula_view f))) fs ≡ pred_tokens (any_alls (list_view (predicate_view fs)))
alls_between [] some = absurd (true≢false some)
alls_between (f ∷ fs) some =
    ap (λ ts. all_tokens (all_of_formula (formula_view f)) ++ ts) (flat_seen or_all formula_view fs) ∙ sym (alls_on (alone (all_of_formula (formula_view f))) (predicate_view fs))

-- ---- predicates

parts_joined : (a : All) (fs : Predicate) → more_parts a (list_view fs) ≡ joined_parts a fs
parts_joined a [] = refl
parts_joined a (f ∷ fs) = parts_joined (joined a (part_of f)) fs

-- several conjuncts as the members of a conjunction
pub conjuncts_joined : (fs : List Declared) → 2 ≤ length fs → all_tokens (all_parts (list_view (predicate_view fs))) ≡ pred_tokens (predicate_written (predicate_view fs))
conjuncts_joined [] several = absurd (omega arith)
conjuncts_joined (f ∷ []) several = absurd (omega arith)
conjuncts_joined (f ∷ g ∷ fs) several = ap all_tokens (parts_joined (only (part_of (formula_view f))) (predicate_view (g ∷ fs)))

-- no conjunct
pub nothing_joined : (fs : List Declared) → length fs < 1 → word (codes "true") ∷ [] ≡ pred_tokens (predicate_written (predicate_view fs))
nothing_joined [] none = refl
nothing_joined (f ∷ fs) none = absurd (omega arith)

-- one conjunct by itself
pub conjunct_alone : (fs : List Declared) (f : Declared) → length fs < 2 → 1 ≤ length fs → f ≡ get_or fs 0 f → pred_tokens (pred_of (formula_view f)) ≡ pred_tokens (predicate_written (predicate_view fs))
conjunct_alone [] f few some is = absurd (omega arith)
conjunct_alone (g ∷ []) f few some is = ap (λ f. pred_tokens (pred_of (formula_view f))) is
conjunct_alone (g ∷ h ∷ fs) f few some is = absurd (omega arith)
