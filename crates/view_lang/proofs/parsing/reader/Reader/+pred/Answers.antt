use Rattle.std.proofs.Common.{◌≡◌, Bool, suc, ◌-◌, ◌++◌, length, refl, ap, ◌∙◌, rules, arith}
use Rattle.plain_values.proofs.Common.{then_some}
use Rattle.lens_specs.specs.Common.{negation}
use Rattle.lens_pred.specs.View.{formula_view, predicate_view}
use Rattle.lens_pred.specs.declared.formula.Formula.{Not, the_lemmas}
use Rattle.grammar_specs.specs.Common.{only, joined, alone, either, conjuncts, disjuncts, conjunction}
use Rattle.grammar_laws.specs.Steps.{read, and_then}
use Rattle.grammar_laws.specs.PredRules as pred
use Rattle.view_lang.specs.Outcomes.{reader_view, IsPart, IsAll, IsPred}
use Rattle.view_lang.proofs.Turns.{parts_turn, alls_turn, given_ok, then_err, stops, unread, fewer_passed}
use Rattle.view_lang.proofs.parsing.reader.Reader.+pred.Goals as goal

pub all-loop-alloc-init : goal.all-loop-alloc-init
all-loop-alloc-init t c =
    let one = given_ok IsPart _ c.in_ok-part.field-0 _ c.in_ok-part.ensures.0 in (
      only one.0,
      c.in_ok-push_conjuncts.ensures ∙ (λ i. predicate_view (c.new-ands.ensures.items i) ++ conjuncts (one.2 i)),
      ap (λ o. and_then o (λ p. pred.more_parts (pred.part c.args.room) (only p))) one.1,
      c.in_ok-part.ensures.1,
    )

pub all-returns-in_err-part-2 : goal.all-returns-in_err-part-2
all-returns-in_err-part-2 t c =
    let done = c.loop-alloc.invariant in (
      rw (done.2, parts_turn c.args.room done.0 (reader_view c.loop-alloc.self), ← c.take_word.ensures.0, c.loop-alloc-test.true)
          (stops IsAll IsAll _ _ _ _ _ (then_err IsPart IsAll _ _ _ _ c.in_err-part-2.ensures.0) c.from_residual-in_err-part-2.ensures.1),
      omega (arith, done.3, fewer_passed _ _ _ c.loop-alloc-test.true c.take_word.ensures.2, c.part-in-loop-alloc.ensures.1),
    )

pub all-loop-alloc-preserved : goal.all-loop-alloc-preserved
all-loop-alloc-preserved t c =
    let done = c.loop-alloc.invariant in
    let one = given_ok IsPart _ c.in_ok-part-2.field-0 _ c.in_ok-part-2.ensures.0 in (
      joined done.0 one.0,
      c.in_ok-push_conjuncts-2.ensures ∙ (λ i. done.1 i ++ conjuncts (one.2 i)),
      rw (done.2, parts_turn c.args.room done.0 (reader_view c.loop-alloc.self), ← c.take_word.ensures.0, c.loop-alloc-test.true)
          (ap (λ o. and_then (and_then o (λ p. read (joined done.0 p))) (pred.more_parts (pred.part c.args.room))) one.1),
      omega (arith, done.3, fewer_passed _ _ _ c.loop-alloc-test.true c.take_word.ensures.2, c.part-in-loop-alloc.ensures.1),
    )

pub pred-loop-alloc-init : goal.pred-loop-alloc-init
pred-loop-alloc-init t c =
    let one = given_ok IsAll _ c.in_ok-all.field-0 _ c.in_ok-all.ensures.0 in (
      alone one.0,
      c.in_ok-push_disjuncts.ensures ∙ (λ i. predicate_view (c.new-ors.ensures.items i) ++ disjuncts ((c.conjunction.ensures ∙ ap conjunction one.2) i)),
      ap (λ o. and_then o (λ a. pred.more_alls (pred.part c.args.room) (alone a))) one.1,
      c.in_ok-all.ensures.1,
    )

pub pred-returns-in_err-all-2 : goal.pred-returns-in_err-all-2
pred-returns-in_err-all-2 t c =
    let done = c.loop-alloc.invariant in (
      rw (done.2, alls_turn c.args.room done.0 (reader_view c.loop-alloc.self), ← c.take_word.ensures.0, c.loop-alloc-test.true)
          (stops IsPred IsPred _ _ _ _ _ (then_err IsAll IsPred _ _ _ _ c.in_err-all-2.ensures.0) c.from_residual-in_err-all-2.ensures.1),
      omega (arith, done.3, fewer_passed _ _ _ c.loop-alloc-test.true c.take_word.ensures.2, c.all-in-loop-alloc.ensures.1),
    )

pub pred-loop-alloc-preserved : goal.pred-loop-alloc-preserved
pred-loop-alloc-preserved t c =
    let done = c.loop-alloc.invariant in
    let one = given_ok IsAll _ c.in_ok-all-2.field-0 _ c.in_ok-all-2.ensures.0 in (
      either done.0 one.0,
      c.in_ok-push_disjuncts-2.ensures ∙ (λ i. done.1 i ++ disjuncts ((c.conjunction-in-loop-alloc.ensures ∙ ap conjunction one.2) i)),
      rw (done.2, alls_turn c.args.room done.0 (reader_view c.loop-alloc.self), ← c.take_word.ensures.0, c.loop-alloc-test.true)
          (ap (λ o. and_then (and_then o (λ a. read (either done.0 a))) (pred.more_alls (pred.part c.args.room))) one.1),
      omega (arith, done.3, fewer_passed _ _ _ c.loop-alloc-test.true c.take_word.ensures.2, c.all-in-loop-alloc.ensures.1),
    )

-- ---- a part behind "not", or a predicate in parentheses: one fewer may be opened within

pub part-returns-then-room-eq0 : goal.part-returns-then-room-eq0
part-returns-then-room-eq0 t c =
    let back = ap reader_view (c.in_default.ensures.1 refl) in
    let again = ap reader_view (c.in_default-take_flag.ensures.1 refl) in (
      rw (← c.in_default.ensures.0, ← back, ← c.in_default-take_flag.ensures.0, ← again, ← c.take_word.ensures.0, c.if-take_word.true, c.if-room-eq0.true) tt,
      omega (arith, ap length back, ap length again, fewer_passed _ _ _ c.if-take_word.true c.take_word.ensures.2),
    )

pub part-returns-in_err-part : goal.part-returns-in_err-part
part-returns-in_err-part t c =
    let back = ap reader_view (c.in_default.ensures.1 refl) in
    let again = ap reader_view (c.in_default-take_flag.ensures.1 refl) in
    let one_less : c.args.room ≡ suc (c.args.room - 1) = omega (arith, c.if-room-eq0.false) in (
      rw (← c.in_default.ensures.0, ← back, ← c.in_default-take_flag.ensures.0, ← again, ← c.take_word.ensures.0, c.if-take_word.true, ap pred.within one_less) (stops IsPart IsPart _ _ _ _ _ c.in_err-part.ensures.0 c.from_residual.ensures.1),
      omega (arith, ap length back, ap length again, fewer_passed _ _ _ c.if-take_word.true c.take_word.ensures.2, c.part.ensures.1),
    )

pub part-returns-then-take_word : goal.part-returns-then-take_word
part-returns-then-take_word t c =
    let back = ap reader_view (c.in_default.ensures.1 refl) in
    let again = ap reader_view (c.in_default-take_flag.ensures.1 refl) in
    let one_less : c.args.room ≡ suc (c.args.room - 1) = omega (arith, c.if-room-eq0.false) in
    let one = given_ok IsPart _ c.in_ok-part.part _ c.in_ok-part.ensures.0 in
    let seen : formula_view (Not c.in_ok-new.field-0) ≡ negation (formula_view c.in_ok-new.field-0.value) = search (rules, the_lemmas) in (
      rw (← c.in_default.ensures.0, ← back, ← c.in_default-take_flag.ensures.0, ← again, ← c.take_word.ensures.0, c.if-take_word.true, ap pred.within one_less, one.1) (seen ∙ ap (λ f. negation (formula_view f)) c.in_ok-new.ensures.ok ∙ ap negation one.2, refl),
      omega (arith, ap length back, ap length again, fewer_passed _ _ _ c.if-take_word.true c.take_word.ensures.2, c.part.ensures.1),
    )

pub part-returns-then-room-eq0-2 : goal.part-returns-then-room-eq0-2
part-returns-then-room-eq0-2 t c =
    let back = ap reader_view (c.in_default.ensures.1 refl) in
    let again = ap reader_view (c.in_default-take_flag.ensures.1 refl) in
    let same = ap reader_view (c.take_word.ensures.1 (ap (λ (b : Bool). then_some b (tt {0})) c.if-take_word.false)) in (
      rw (← c.in_default.ensures.0, ← back, ← c.in_default-take_flag.ensures.0, ← again, ← c.take_word.ensures.0, c.if-take_word.false, ← same, ← c.in_ok-need.ensures.0.0, c.if-room-eq0-2.true) tt,
      omega (arith, ap length back, ap length again, ap length same, c.in_ok-need.ensures.0.2 refl),
    )

pub part-returns-in_err-inner : goal.part-returns-in_err-inner
part-returns-in_err-inner t c =
    let back = ap reader_view (c.in_default.ensures.1 refl) in
    let again = ap reader_view (c.in_default-take_flag.ensures.1 refl) in
    let same = ap reader_view (c.take_word.ensures.1 (ap (λ (b : Bool). then_some b (tt {0})) c.if-take_word.false)) in
    let one_less : c.args.room ≡ suc (c.args.room - 1) = omega (arith, c.if-room-eq0-2.false) in (
      rw (← c.in_default.ensures.0, ← back, ← c.in_default-take_flag.ensures.0, ← again, ← c.take_word.ensures.0, c.if-take_word.false, ← same, ← c.in_ok-need.ensures.0.0, ap pred.within one_less) (stops IsPred IsPart _ _ _ _ _ c.in_err-inner.ensures.0 c.from_residual-in_err-inner.ensures.1),
      omega (arith, ap length back, ap length again, ap length same, c.in_ok-need.ensures.0.2 refl, c.pred.ensures.1),
    )

pub part-returns-in_err-need-2 : goal.part-returns-in_err-need-2
part-returns-in_err-need-2 t c =
    let back = ap reader_view (c.in_default.ensures.1 refl) in
    let again = ap reader_view (c.in_default-take_flag.ensures.1 refl) in
    let same = ap reader_view (c.take_word.ensures.1 (ap (λ (b : Bool). then_some b (tt {0})) c.if-take_word.false)) in
    let one_less : c.args.room ≡ suc (c.args.room - 1) = omega (arith, c.if-room-eq0-2.false) in
    let one = given_ok IsPred _ c.in_ok-inner.inner _ c.in_ok-inner.ensures.0 in
    let unchanged = ap reader_view (c.in_err-need-2.ensures.0.1 refl) in (
      rw (← c.in_default.ensures.0, ← back, ← c.in_default-take_flag.ensures.0, ← again, ← c.take_word.ensures.0, c.if-take_word.false, ← same, ← c.in_ok-need.ensures.0.0, ap pred.within one_less, one.1, ← c.in_err-need-2.ensures.0.0) (unread IsPart _ _ _ _ unchanged c.in_err-need-2.ensures.1 c.from_residual-in_err-need-2.ensures.1),
      omega (arith, ap length back, ap length again, ap length same, c.in_ok-need.ensures.0.2 refl, ap length unchanged, c.pred.ensures.1),
    )

pub part-returns : goal.part-returns
part-returns t c =
    let back = ap reader_view (c.in_default.ensures.1 refl) in
    let again = ap reader_view (c.in_default-take_flag.ensures.1 refl) in
    let same = ap reader_view (c.take_word.ensures.1 (ap (λ (b : Bool). then_some b (tt {0})) c.if-take_word.false)) in
    let one_less : c.args.room ≡ suc (c.args.room - 1) = omega (arith, c.if-room-eq0-2.false) in
    let one = given_ok IsPred _ c.in_ok-inner.inner _ c.in_ok-inner.ensures.0 in (
      rw (← c.in_default.ensures.0, ← back, ← c.in_default-take_flag.ensures.0, ← again, ← c.take_word.ensures.0, c.if-take_word.false, ← same, ← c.in_ok-need.ensures.0.0, ap pred.within one_less, one.1, ← c.in_ok-need-2.ensures.0.0) (one.2, refl),
      omega (arith, ap length back, ap length again, ap length same, c.in_ok-need.ensures.0.2 refl, c.pred.ensures.1, c.in_ok-need-2.ensures.0.2 refl),
    )
