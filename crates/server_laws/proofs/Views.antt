-- Which views are taken, by the sort of the whole lens.
use Rattle.std.proofs.Common.{◌≡◌, ℕ, Bool, true, false, cond, List, Option, Some, None, Result, Ok, Err, refl, sym, ap, ◌∙◌, ◌⊎◌, inl, inr, nat_le}
use Rattle.plain_values.proofs.Common.{lt-leb, le-leb, map_none}
use Rattle.std.specs.FinMap as finmap
use Rattle.grammar_laws.proofs.Options.{map_some}
use Rattle.plain_values.specs.declared.value.Value.{Value}
use Rattle.lens_specs.specs.Common.{Name, Names, Predicate, Sort, Lens, select, drop, rename, select_sort, drop_sort, rename_sort, join_sort, sort_of, tables_of, nodes_of, Refusal, too_large, views_limit, unless_refused, select_fault, drop_fault, rename_fault, join_fault, sort, join, and_then, shared_table}
use Rattle.plain_values.specs.declared.join_kind.JoinKind.{JoinKind}
use Rattle.grammar_specs.specs.Meaning as meaning
use Rattle.grammar_specs.specs.Common.{view, Expr, named}
use Rattle.server_specs.specs.Common.{Line, Catalogue, catalogue, lens_of, CatalogFault, rule, view_count, unless_full, lens_named, where_typed, over, lens_in, where_lensed, judged, State}
use Rattle.catalog_specs.specs.Catalogue.{join_of}
use Rattle.catalog_specs.specs.Judging as judging
use Rattle.catalog_specs.specs.Judging.{over_both}
use Rattle.server_laws.specs.DefineLaws.{judgement}
use Rattle.server_laws.specs.ViewLaws.{DefinesView, HasName, IsLeftSide, TakenWhereSorted, UnknownIsTold, RulesAreTold, FullIsTold, TypedIsTaken}
use Rattle.server_laws.proofs.Definitions.{taken_is_added, refused_stays}
use Rattle.server_laws.proofs.Taken.{AllKnown, all_known, lens_is, lens_is_known}

-- ---- the lens of an expression is judged as a whole

pub joined : (kind : JoinKind) (l r : Option Lens) (L : Lens) → join_of kind l r ≡ Some L → (A : Lens) × (B : Lens) × (l ≡ Some A) × (r ≡ Some B) × (join kind A B ≡ L)
joined kind None r L e = cc
joined kind (Some A) None L e = cc
joined kind (Some A) (Some B) L e = (A, B, refl, refl, cc)

-- the node over an operand, where what refuses the operand refuses the node
over_from : (node : Lens → Lens) (C : Lens) (r : Result Sort Refusal) → ((first : Refusal) → r ≡ Err first → sort (node C) ≡ Err first) → over node (where_typed C r) ≡ where_typed (node C) (sort (node C))
over_from node C (Ok s) fails = refl
over_from node C (Err first) fails = sym (ap (where_typed (node C)) (fails first refl))

select_fails : (P : Predicate) (C : Lens) (first : Refusal) → sort C ≡ Err first → sort (select P C) ≡ Err first
unfolding sort
select_fails P C first e = ap (λ r. and_then r (λ s. unless_refused (select_fault (nodes_of (select P C)) s P) (select_sort s P))) e

drop_fails : (A : Name) (X : Names) (a : Value) (C : Lens) (first : Refusal) → sort C ≡ Err first → sort (drop A X a C) ≡ Err first
unfolding sort
drop_fails A X a C first e = ap (λ r. and_then r (λ s. unless_refused (drop_fault (nodes_of (drop A X a C)) s A X a) (drop_sort s A))) e

rename_fails : (A B : Name) (C : Lens) (first : Refusal) → sort C ≡ Err first → sort (rename A B C) ≡ Err first
unfolding sort
rename_fails A B C first e = ap (λ r. and_then r (λ s. unless_refused (rename_fault (nodes_of (rename A B C)) s A B) (rename_sort s A B))) e

-- the sort of a join of lenses with these sorts
abbrev joined_sort : JoinKind → Lens → Lens → Result Sort Refusal → Result Sort Refusal → Result Sort Refusal
joined_sort kind A B l r = and_then l (λ s. and_then r (λ t. unless_refused (join_fault (nodes_of (join kind A B)) s t (shared_table (tables_of A) (tables_of B))) (join_sort s t)))

left_fails : (kind : JoinKind) (A B : Lens) (first : Refusal) → sort A ≡ Err first → sort (join kind A B) ≡ Err first
unfolding sort
left_fails kind A B first e = ap (λ l. joined_sort kind A B l (sort B)) e

right_fails : (kind : JoinKind) (A B : Lens) (s : Sort) (first : Refusal) → sort A ≡ Ok s → sort B ≡ Err first → sort (join kind A B) ≡ Err first
unfolding sort
right_fails kind A B s first e f = ap (λ l. joined_sort kind A B l (sort B)) e ∙ ap (joined_sort kind A B (Ok s)) f

both_from : (kind : JoinKind) (A B : Lens) (l : Result Sort Refusal) → sort A ≡ l → over_both kind (where_typed A l) (where_typed B (sort B)) ≡ where_typed (join kind A B) (sort (join kind A B))
both_from kind A B (Ok s) e = over_from (join kind A) B (sort B) (λ first f. right_fails kind A B s first e f)
both_from kind A B (Err first) e = sym (ap (where_typed (join kind A B)) (left_fails kind A B first e))

-- an expression over lenses with sorts is refused exactly as its whole lens is
whole : (known : Catalogue) → AllKnown known → (expr : Expr) (L : Lens) → lens_of expr known ≡ Some L → lens_in known expr ≡ where_typed L (sort L)
whole known all (named name) L e = ap (lens_named name) e ∙ sym (ap (where_typed L) (all name L e).sorted)
whole known all (meaning.select P of) L e =
    let w = map_some (select P) (lens_of of known) L e in
    ap (over (select P)) (whole known all of w.0 w.1) ∙ over_from (select P) w.0 (sort w.0) (select_fails P w.0) ∙ ap (λ M. where_typed M (sort M)) w.2
whole known all (meaning.drop A X a of) L e =
    let w = map_some (drop A X a) (lens_of of known) L e in
    ap (over (drop A X a)) (whole known all of w.0 w.1) ∙ over_from (drop A X a) w.0 (sort w.0) (drop_fails A X a w.0) ∙ ap (λ M. where_typed M (sort M)) w.2
whole known all (meaning.rename A B of) L e =
    let w = map_some (rename A B) (lens_of of known) L e in
    ap (over (rename A B)) (whole known all of w.0 w.1) ∙ over_from (rename A B) w.0 (sort w.0) (rename_fails A B w.0) ∙ ap (λ M. where_typed M (sort M)) w.2
whole known all (meaning.join kind left right) L e =
    let w = joined kind (lens_of left known) (lens_of right known) L e in
    ap (λ l. over_both kind l (lens_in known right)) (whole known all left w.0 w.2) ∙ ap (over_both kind (where_typed w.0 (sort w.0))) (whole known all right w.1 w.3)
    ∙ both_from kind w.0 w.1 (sort w.0) refl ∙ ap (λ M. where_typed M (sort M)) w.4

pub taken_where_sorted : TakenWhereSorted
taken_where_sorted s v expr L =
    let known = catalogue s.texts in
    let all = all_known s.texts v.definitions in (
      λ e. (lens_is known expr L e, (lens_is_known known all expr L e).sorted),
      λ w. whole known all expr L w.0 ∙ ap (where_typed L) w.1,
    )

-- ---- an expression with no lens

unjoined : (kind : JoinKind) (A : Lens) (o : Option Lens) → join_of kind (Some A) o ≡ None → o ≡ None
unjoined kind A None e = refl
unjoined kind A (Some B) e = cc

-- a name in it has no lens, or a left side in it has one that is refused; and this is the refusal
abbrev Fails : Catalogue → Expr → Result Lens CatalogFault → Type 0
Fails known expr r = ((name : Name) × HasName expr name × (finmap.get known name ≡ None) × (r ≡ Err (judging.unknown_name name)))
    ⊎ ((part : Expr) × IsLeftSide part expr × (lens : Lens) × (lens_of part known ≡ Some lens) × (first : Refusal) × (sort lens ≡ Err first) × (r ≡ Err (rule first)))

under : (node : Lens → Lens) (known : Catalogue) (of : Expr) (r : Result Lens CatalogFault) → Fails known of r → Fails known of (over node r)
under node known of r (inl w) = inl (w.0, w.1, w.2, ap (over node) w.3)
under node known of r (inr w) = inr (w.0, w.1, w.2, w.3, w.4, w.5, ap (over node) w.6)

left_missing : (known : Catalogue) (kind : JoinKind) (left right : Expr) (l r : Result Lens CatalogFault) → Fails known left l → Fails known (meaning.join kind left right) (over_both kind l r)
left_missing known kind left right l r (inl w) = inl (w.0, inl w.1, w.2, ap (λ x. over_both kind x r) w.3)
left_missing known kind left right l r (inr w) = inr (w.0, inr (inl w.1), w.2, w.3, w.4, w.5, ap (λ x. over_both kind x r) w.6)

right_missing : (known : Catalogue) (kind : JoinKind) (left right : Expr) (A : Lens) (l r : Result Lens CatalogFault) → l ≡ Ok A → Fails known right r → Fails known (meaning.join kind left right) (over_both kind l r)
right_missing known kind left right A l r e (inl w) = inl (w.0, inr w.1, w.2, ap (λ x. over_both kind x r) e ∙ ap (over (join kind A)) w.3)
right_missing known kind left right A l r e (inr w) = inr (w.0, inr (inr w.1), w.2, w.3, w.4, w.5, ap (λ x. over_both kind x r) e ∙ ap (over (join kind A)) w.6)

both_missing : (known : Catalogue) → AllKnown known → (kind : JoinKind) (left right : Expr) → (lens_of left known ≡ None → Fails known left (lens_in known left)) → (lens_of right known ≡ None → Fails known right (lens_in known right))
    → join_of kind (lens_of left known) (lens_of right known) ≡ None → Fails known (meaning.join kind left right) (over_both kind (lens_in known left) (lens_in known right))
both_missing known all kind left right no_left no_right e = by_left (lens_of left known) refl
  where
    by_sort : (A : Lens) → lens_of left known ≡ Some A → (r : Result Sort Refusal) → sort A ≡ r → Fails known (meaning.join kind left right) (over_both kind (lens_in known left) (lens_in known right))
    by_sort A is (Ok s) sorted =
        right_missing known kind left right A (lens_in known left) (lens_in known right) (whole known all left A is ∙ ap (where_typed A) sorted)
        (no_right (unjoined kind A (lens_of right known) (ap (λ o. join_of kind o (lens_of right known)) (sym is) ∙ e)))
    by_sort A is (Err first) failed =
        inr (left, inl refl, A, is, first, failed, ap (λ x. over_both kind x (lens_in known right)) (whole known all left A is ∙ ap (where_typed A) failed))

    by_left : (o : Option Lens) → lens_of left known ≡ o → Fails known (meaning.join kind left right) (over_both kind (lens_in known left) (lens_in known right))
    by_left None is = left_missing known kind left right (lens_in known left) (lens_in known right) (no_left is)
    by_left (Some A) is = by_sort A is (sort A) refl

missing : (known : Catalogue) → AllKnown known → (expr : Expr) → lens_of expr known ≡ None → Fails known expr (lens_in known expr)
missing known all (named name) e = inl (name, refl, e, ap (lens_named name) e)
missing known all (meaning.select P of) e = under (select P) known of (lens_in known of) (missing known all of (map_none (select P) (lens_of of known) e))
missing known all (meaning.drop A X a of) e = under (drop A X a) known of (lens_in known of) (missing known all of (map_none (drop A X a) (lens_of of known) e))
missing known all (meaning.rename A B of) e = under (rename A B) known of (lens_in known of) (missing known all of (map_none (rename A B) (lens_of of known) e))
missing known all (meaning.join kind left right) e = both_missing known all kind left right (missing known all left) (missing known all right) e

-- ---- the answer

-- the judgement of a view whose name is free, by the lens of its expression
free_judged : (s : State) (l : Line) (text : List ℕ) (name : Name) (expr : Expr) → DefinesView s l text name expr
    → (r : Result Lens CatalogFault) → lens_in (catalogue s.texts) expr ≡ r → judgement s text ≡ where_lensed r (catalogue s.texts) (view name expr)
free_judged s l text name expr h r e =
    let known = catalogue s.texts in
    ap (judged known) h.says
    ∙ ap (λ b. cond b (Err (judging.name_taken name)) (where_lensed (lens_in known expr) known (view name expr))) h.free
    ∙ ap (λ o. where_lensed o known (view name expr)) e

pub unknown_told : UnknownIsTold
unknown_told s l text name expr h e = elim (missing (catalogue s.texts) (all_known s.texts h.valid.definitions) expr e) [
  | inl w ↦ inl (w.0, w.1, w.2, refused_stays s l text (judging.unknown_name w.0) h.asked (free_judged s l text name expr h (Err (judging.unknown_name w.0)) w.3))
  | inr w ↦ inr (w.0, w.1, w.2, w.3, w.4, w.5, refused_stays s l text (rule w.4) h.asked (free_judged s l text name expr h (Err (rule w.4)) w.6))
]

-- the lens of the expression, by the sort of the whole lens
lens_is_typed : (s : State) (l : Line) (text : List ℕ) (name : Name) (expr : Expr) → DefinesView s l text name expr
    → (L : Lens) → lens_of expr (catalogue s.texts) ≡ Some L → (r : Result Sort Refusal) → sort L ≡ r → lens_in (catalogue s.texts) expr ≡ where_typed L r
lens_is_typed s l text name expr h L e r is = whole (catalogue s.texts) (all_known s.texts h.valid.definitions) expr L e ∙ ap (where_typed L) is

pub rules_told : RulesAreTold
rules_told s l text name expr h L e first is =
    refused_stays s l text (rule first) h.asked (free_judged s l text name expr h (Err (rule first)) (lens_is_typed s l text name expr h L e (Err first) is))

-- the judgement of a view whose lens has a sort, by how many views there are
typed_judged : (s : State) (l : Line) (text : List ℕ) (name : Name) (expr : Expr) → DefinesView s l text name expr
    → (L : Lens) → lens_of expr (catalogue s.texts) ≡ Some L → sort L ≡ Ok (sort_of L) → (b : Bool) → nat_le 256 (view_count (catalogue s.texts)) ≡ b
    → judgement s text ≡ unless_full b views_limit (view name expr)
typed_judged s l text name expr h L e is b full =
    free_judged s l text name expr h (Ok L) (lens_is_typed s l text name expr h L e (Ok (sort_of L)) is) ∙ ap (λ f. unless_full f views_limit (view name expr)) full

pub full_told : FullIsTold
full_told s l text name expr h L e is full =
    refused_stays s l text (rule (too_large views_limit)) h.asked (typed_judged s l text name expr h L e is true (le-leb 256 (view_count (catalogue s.texts)) full))

pub typed_taken : TypedIsTaken
typed_taken s l text name expr h L e is few =
    taken_is_added s l text (view name expr) h.asked (typed_judged s l text name expr h L e is false (lt-leb 256 (view_count (catalogue s.texts)) few))
