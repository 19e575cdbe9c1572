use Rattle.std.proofs.Common.{◌≡◌, Bool, true, false, List, map, ap, sym, ◌∙◌, refl, not, ◌&&◌}
use Rattle.plain_values.proofs.Common.{list_all}
use Rattle.std.proofs.lemmas.List.Folds.{list_all-map}
use Rattle.lens_specs.specs.Predicate as spec
use Rattle.lens_pred.specs.NormalForm.{is_normal, are_normal, has_two, none_is, is_all_of, is_any_of}
use Rattle.lens_pred.specs.View.{formula_view, list_view, predicate_view}
use Rattle.lens_pred.specs.declared.formula.Formula.{Formula}
use Rattle.lens_pred.proofs.Conjuncts.{none_is-list_view}
use Rattle.lens_pred.proofs.Views.{view-And, view-Or}
use Rattle.lens_pred.proofs.+normal.Goals as goal
use Rattle.lens_pred.proofs.+normal.Goals.{formula::Formula::is_normal-then-has_two, formula::Formula::is_normal-else-has_two, formula::Formula::is_normal-then-has_two-2, formula::Formula::is_normal-else-has_two-2}

-- where the first two tests hold, the third decides
third : (h n a : Bool) → h ≡ true → n ≡ true → a ≡ (h && (n && a))
third h n a p q = rw (p, q) refl

-- where the second fails, all do
no_second : (h n a : Bool) → n ≡ false → false ≡ (h && (n && a))
no_second true n a q = rw q refl
no_second false n a q = refl

-- where the first fails, all do
no_first : (h n a : Bool) → h ≡ false → false ≡ (h && (n && a))
no_first h n a p = rw p refl

-- no member of this kind, as the code looks for it
none_of : (p : spec.Formula → Bool) (fs : List Formula) (b : Bool) → b ≡ list_all (λ f. not (p (formula_view f))) fs → none_is p (list_view (predicate_view fs)) ≡ b
none_of p fs b e = none_is-list_view p (map formula_view fs) ∙ list_all-map (λ f. not (p f)) formula_view fs ∙ sym e

pub formula::Formula::is_normal-returns-then-none_is_and : goal.formula::Formula::is_normal-returns-then-none_is_and
formula::Formula::is_normal-returns-then-none_is_and t c =
    let fs = c.as_slice-members.result.now in
    let seen = ap is_normal (ap formula_view c.in-And.is ∙ view-And c.in-And.members ∙ ap spec.all_of (sym c.as_slice-members.ensures.view)) in
    elim c.if-has_two.branch [
      | formula::Formula::is_normal-then-has_two w ↦
          c.are_normal.ensures
          ∙ third (has_two (list_view (predicate_view fs))) (none_is is_all_of (list_view (predicate_view fs))) (are_normal (list_view (predicate_view fs)))
          (sym c.has_two.ensures ∙ w.if-has_two.true) (none_of is_all_of fs w.none_is_and.result w.none_is_and.ensures ∙ sym w.value-is ∙ c.if-none_is_and.true)
          ∙ sym seen
      | formula::Formula::is_normal-else-has_two w ↦ cc
    ]

pub formula::Formula::is_normal-returns-else-none_is_and : goal.formula::Formula::is_normal-returns-else-none_is_and
formula::Formula::is_normal-returns-else-none_is_and t c =
    let fs = c.as_slice-members.result.now in
    let h = has_two (list_view (predicate_view fs)) in
    let n = none_is is_all_of (list_view (predicate_view fs)) in
    let a = are_normal (list_view (predicate_view fs)) in
    let seen = ap is_normal (ap formula_view c.in-And.is ∙ view-And c.in-And.members ∙ ap spec.all_of (sym c.as_slice-members.ensures.view)) in
    c.if-none_is_and.false
    ∙ elim c.if-has_two.branch [
      | formula::Formula::is_normal-then-has_two w ↦ no_second h n a (none_of is_all_of fs w.none_is_and.result w.none_is_and.ensures ∙ sym w.value-is ∙ c.if-none_is_and.false)
      | formula::Formula::is_normal-else-has_two w ↦ no_first h n a (sym c.has_two.ensures ∙ w.if-has_two.false)
    ]
    ∙ sym seen

pub formula::Formula::is_normal-returns-then-none_is_or : goal.formula::Formula::is_normal-returns-then-none_is_or
formula::Formula::is_normal-returns-then-none_is_or t c =
    let fs = c.as_slice-members-in-Or.result.now in
    let seen = ap is_normal (ap formula_view c.in-Or.is ∙ view-Or c.in-Or.members ∙ ap spec.any_of (sym c.as_slice-members-in-Or.ensures.view)) in
    elim c.if-has_two-2.branch [
      | formula::Formula::is_normal-then-has_two-2 w ↦
          c.are_normal-then-none_is_or.ensures
          ∙ third (has_two (list_view (predicate_view fs))) (none_is is_any_of (list_view (predicate_view fs))) (are_normal (list_view (predicate_view fs)))
          (sym c.has_two-in-Or.ensures ∙ w.if-has_two-2.true) (none_of is_any_of fs w.none_is_or.result w.none_is_or.ensures ∙ sym w.value-is ∙ c.if-none_is_or.true)
          ∙ sym seen
      | formula::Formula::is_normal-else-has_two-2 w ↦ cc
    ]

pub formula::Formula::is_normal-returns-else-none_is_or : goal.formula::Formula::is_normal-returns-else-none_is_or
formula::Formula::is_normal-returns-else-none_is_or t c =
    let fs = c.as_slice-members-in-Or.result.now in
    let h = has_two (list_view (predicate_view fs)) in
    let n = none_is is_any_of (list_view (predicate_view fs)) in
    let a = are_normal (list_view (predicate_view fs)) in
    let seen = ap is_normal (ap formula_view c.in-Or.is ∙ view-Or c.in-Or.members ∙ ap spec.any_of (sym c.as_slice-members-in-Or.ensures.view)) in
    c.if-none_is_or.false
    ∙ elim c.if-has_two-2.branch [
      | formula::Formula::is_normal-then-has_two-2 w ↦ no_second h n a (none_of is_any_of fs w.none_is_or.result w.none_is_or.ensures ∙ sym w.value-is ∙ c.if-none_is_or.false)
      | formula::Formula::is_normal-else-has_two-2 w ↦ no_first h n a (sym c.has_two-in-Or.ensures ∙ w.if-has_two-2.false)
    ]
    ∙ sym seen
