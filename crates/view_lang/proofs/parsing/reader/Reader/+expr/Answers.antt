use Rattle.std.proofs.Common.{◌≡◌, suc, ◌-◌, length, refl, ap, ◌∙◌, rules, arith, Option, Some, None, Err}
use Rattle.std.specs.Option.{ok_or}
use Rattle.plain_values.proofs.Common.{from_list}
use Rattle.grammar_specs.specs.Meaning as meaning
use Rattle.grammar_laws.specs.ExprRules as expr
use Rattle.view_lang.specs.declared.expr.Expr.{Select, Drop, Rename, Join, the_lemmas}
use Rattle.view_lang.specs.declared.parsing.reader.Halt.{Halt}
use Rattle.view_lang.specs.declared.parsing.reader.Halt.TheVariants.{Stopped}
use Rattle.view_lang.specs.ExprViews.{expr_view}
use Rattle.view_lang.specs.Outcomes.{reader_view, AreItems, IsPredicate, IsExpr, IsOperand}
use Rattle.view_lang.proofs.Turns.{given_ok, stops, unread, fewer}
use Rattle.view_lang.proofs.parsing.reader.Reader.+expr.Goals as goal

-- the rule halts so where nothing was taken
halted : {A : Type 0} (o : Option A) (why : Halt) → o ≡ None → Err why ≡ ok_or o Stopped → why ≡ Stopped
halted None why none e = cc
halted (Some a) why none e = cc

pub dropped-returns-in_err-need-2 : goal.dropped-returns-in_err-need-2
dropped-returns-in_err-need-2 t c =
    let by = given_ok AreItems _ c.in_ok-names.field-0 _ c.in_ok-names.ensures.value.0 in
    let same = ap reader_view (c.in_err-need-2.ensures.0.1 refl) in (
      rw (← c.in_ok-col.ensures.0.0, ← c.in_ok-need_word.ensures.0.0, ← c.in_ok-need_word-2.ensures.0.0, ← c.in_ok-need.ensures.0.0, by.1, ← c.in_err-need-2.ensures.0.0) (unread IsExpr _ _ _ _ same c.in_err-need-2.ensures.1 c.from_residual-in_err-need-2.ensures.1),
      omega (arith, ap length same, c.in_ok-col.ensures.0.2 refl, c.in_ok-need_word.ensures.0.2 refl, c.in_ok-need_word-2.ensures.0.2 refl, c.in_ok-need.ensures.0.2 refl, c.names.ensures.value.1),
    )

pub dropped-returns-in_err-fill : goal.dropped-returns-in_err-fill
dropped-returns-in_err-fill t c =
    let by = given_ok AreItems _ c.in_ok-names.field-0 _ c.in_ok-names.ensures.value.0 in
    let none = c.in_err-fill.ensures.ok_part in
    let same = ap reader_view (c.take_fill.ensures.1 none) in (
      rw (← c.in_ok-col.ensures.0.0, ← c.in_ok-need_word.ensures.0.0, ← c.in_ok-need_word-2.ensures.0.0, ← c.in_ok-need.ensures.0.0, by.1, ← c.in_ok-need-2.ensures.0.0, ← c.take_fill.ensures.0, none) (unread IsExpr _ _ _ _ same (halted _ _ none c.in_err-fill.ensures.value) c.from_residual-in_err-fill.ensures.1),
      omega (arith, ap length same, c.in_ok-col.ensures.0.2 refl, c.in_ok-need_word.ensures.0.2 refl, c.in_ok-need_word-2.ensures.0.2 refl, c.in_ok-need.ensures.0.2 refl, c.names.ensures.value.1, c.in_ok-need-2.ensures.0.2 refl),
    )

pub dropped-returns-in_err-need-3 : goal.dropped-returns-in_err-need-3
dropped-returns-in_err-need-3 t c =
    let by = given_ok AreItems _ c.in_ok-names.field-0 _ c.in_ok-names.ensures.value.0 in
    let same = ap reader_view (c.in_err-need-3.ensures.0.1 refl) in (
      rw (← c.in_ok-col.ensures.0.0, ← c.in_ok-need_word.ensures.0.0, ← c.in_ok-need_word-2.ensures.0.0, ← c.in_ok-need.ensures.0.0, by.1, ← c.in_ok-need-2.ensures.0.0, ← c.take_fill.ensures.0, c.in_ok-fill.ensures.ok_part, ← c.in_err-need-3.ensures.0.0) (unread IsExpr _ _ _ _ same c.in_err-need-3.ensures.1 c.from_residual-in_err-need-3.ensures.1),
      omega (arith, ap length same, c.in_ok-col.ensures.0.2 refl, c.in_ok-need_word.ensures.0.2 refl, c.in_ok-need_word-2.ensures.0.2 refl, c.in_ok-need.ensures.0.2 refl, c.names.ensures.value.1, c.in_ok-need-2.ensures.0.2 refl, fewer _ _ _ _ c.in_ok-fill.ensures.ok_part c.take_fill.ensures.2),
    )

pub dropped-returns-in_err-need_word-3 : goal.dropped-returns-in_err-need_word-3
dropped-returns-in_err-need_word-3 t c =
    let by = given_ok AreItems _ c.in_ok-names.field-0 _ c.in_ok-names.ensures.value.0 in
    let same = ap reader_view (c.in_err-need_word-3.ensures.0.1 refl) in (
      rw (← c.in_ok-col.ensures.0.0, ← c.in_ok-need_word.ensures.0.0, ← c.in_ok-need_word-2.ensures.0.0, ← c.in_ok-need.ensures.0.0, by.1, ← c.in_ok-need-2.ensures.0.0, ← c.take_fill.ensures.0, c.in_ok-fill.ensures.ok_part, ← c.in_ok-need-3.ensures.0.0, ← c.in_err-need_word-3.ensures.0.0) (unread IsExpr _ _ _ _ same c.in_err-need_word-3.ensures.1 c.from_residual-in_err-need_word-3.ensures.1),
      omega (arith, ap length same, c.in_ok-col.ensures.0.2 refl, c.in_ok-need_word.ensures.0.2 refl, c.in_ok-need_word-2.ensures.0.2 refl, c.in_ok-need.ensures.0.2 refl, c.names.ensures.value.1, c.in_ok-need-2.ensures.0.2 refl, fewer _ _ _ _ c.in_ok-fill.ensures.ok_part c.take_fill.ensures.2, c.in_ok-need-3.ensures.0.2 refl),
    )

pub dropped-returns-in_err-operand : goal.dropped-returns-in_err-operand
dropped-returns-in_err-operand t c =
    let by = given_ok AreItems _ c.in_ok-names.field-0 _ c.in_ok-names.ensures.value.0 in (
      rw (← c.in_ok-col.ensures.0.0, ← c.in_ok-need_word.ensures.0.0, ← c.in_ok-need_word-2.ensures.0.0, ← c.in_ok-need.ensures.0.0, by.1, ← c.in_ok-need-2.ensures.0.0, ← c.take_fill.ensures.0, c.in_ok-fill.ensures.ok_part, ← c.in_ok-need-3.ensures.0.0, ← c.in_ok-need_word-3.ensures.0.0) (stops IsOperand IsExpr _ _ _ _ _ c.in_err-operand.ensures.0 c.from_residual-in_err-operand.ensures.1),
      omega (arith, c.in_ok-col.ensures.0.2 refl, c.in_ok-need_word.ensures.0.2 refl, c.in_ok-need_word-2.ensures.0.2 refl, c.in_ok-need.ensures.0.2 refl, c.names.ensures.value.1, c.in_ok-need-2.ensures.0.2 refl, fewer _ _ _ _ c.in_ok-fill.ensures.ok_part c.take_fill.ensures.2, c.in_ok-need-3.ensures.0.2 refl, c.in_ok-need_word-3.ensures.0.2 refl, c.operand.ensures.1),
    )

pub dropped-returns : goal.dropped-returns
dropped-returns t c =
    let by = given_ok AreItems _ c.in_ok-names.field-0 _ c.in_ok-names.ensures.value.0 in
    let one = given_ok IsOperand _ c.in_ok-operand.field-0 _ c.in_ok-operand.ensures.0 in
    let seen : expr_view (Drop c.in_ok-col.col c.in_ok-by.by c.in_ok-fill.fill c.in_ok-of.of) ≡ meaning.drop c.in_ok-col.col c.in_ok-by.by c.in_ok-fill.fill (expr_view c.in_ok-of.of.value) = search (rules, the_lemmas) in
    let inside = ap expr_view c.in_ok-of.ensures.ok ∙ one.2 in (
      rw (← c.in_ok-col.ensures.0.0, ← c.in_ok-need_word.ensures.0.0, ← c.in_ok-need_word-2.ensures.0.0, ← c.in_ok-need.ensures.0.0, by.1, ← c.in_ok-need-2.ensures.0.0, ← c.take_fill.ensures.0, c.in_ok-fill.ensures.ok_part, ← c.in_ok-need-3.ensures.0.0, ← c.in_ok-need_word-3.ensures.0.0, one.1) (seen ∙ (λ i. meaning.drop c.in_ok-col.col ((c.in_ok-by.ensures ∙ ap from_list by.2) i) c.in_ok-fill.fill (inside i)), refl),
      omega (arith, c.in_ok-col.ensures.0.2 refl, c.in_ok-need_word.ensures.0.2 refl, c.in_ok-need_word-2.ensures.0.2 refl, c.in_ok-need.ensures.0.2 refl, c.names.ensures.value.1, c.in_ok-need-2.ensures.0.2 refl, fewer _ _ _ _ c.in_ok-fill.ensures.ok_part c.take_fill.ensures.2, c.in_ok-need-3.ensures.0.2 refl, c.in_ok-need_word-3.ensures.0.2 refl, c.operand.ensures.1),
    )

pub join-returns-in_err-operand : goal.join-returns-in_err-operand
join-returns-in_err-operand t c = (
  stops IsOperand IsExpr _ _ _ _ _ c.in_err-operand.ensures.0 c.from_residual.ensures.1,
  c.operand.ensures.1,
)

pub join-returns-in_err-need_word : goal.join-returns-in_err-need_word
join-returns-in_err-need_word t c =
    let one = given_ok IsOperand _ c.in_ok-operand.field-0 _ c.in_ok-operand.ensures.0 in
    let same = ap reader_view (c.in_err-need_word.ensures.0.1 refl) in (
      rw (one.1, ← c.in_err-need_word.ensures.0.0) (unread IsExpr _ _ _ _ same c.in_err-need_word.ensures.1 c.from_residual-in_err-need_word.ensures.1),
      omega (arith, ap length same, c.operand.ensures.1),
    )

pub join-returns-in_err-operand-2 : goal.join-returns-in_err-operand-2
join-returns-in_err-operand-2 t c =
    let one = given_ok IsOperand _ c.in_ok-operand.field-0 _ c.in_ok-operand.ensures.0 in (
      rw (one.1, ← c.in_ok-need_word.ensures.0.0) (stops IsOperand IsExpr _ _ _ _ _ c.in_err-operand-2.ensures.0 c.from_residual-in_err-operand-2.ensures.1),
      omega (arith, c.operand.ensures.1, c.in_ok-need_word.ensures.0.2 refl, c.operand-2.ensures.1),
    )

pub join-returns : goal.join-returns
join-returns t c =
    let one = given_ok IsOperand _ c.in_ok-operand.field-0 _ c.in_ok-operand.ensures.0 in
    let two = given_ok IsOperand _ c.in_ok-operand-2.field-0 _ c.in_ok-operand-2.ensures.0 in
    let seen : expr_view (Join c.args.kind c.in_ok-left.left c.in_ok-right.right) ≡ meaning.join c.args.kind (expr_view c.in_ok-left.left.value) (expr_view c.in_ok-right.right.value) = search (rules, the_lemmas) in
    let left = ap expr_view c.in_ok-left.ensures.ok ∙ one.2 in
    let right = ap expr_view c.in_ok-right.ensures.ok ∙ two.2 in (
      rw (one.1, ← c.in_ok-need_word.ensures.0.0, two.1) (seen ∙ (λ i. meaning.join c.args.kind (left i) (right i)), refl),
      omega (arith, c.operand.ensures.1, c.in_ok-need_word.ensures.0.2 refl, c.operand-2.ensures.1),
    )

pub operand-returns-then-room-eq0 : goal.operand-returns-then-room-eq0
operand-returns-then-room-eq0 t c =
    let back = ap reader_view (c.in_default.ensures.1 refl) in (
      rw (← c.in_default.ensures.0, ← back, ← c.in_ok-need.ensures.0.0, c.if-room-eq0.true) tt,
      omega (arith, ap length back, c.in_ok-need.ensures.0.2 refl),
    )

pub operand-returns-in_err-expr : goal.operand-returns-in_err-expr
operand-returns-in_err-expr t c =
    let back = ap reader_view (c.in_default.ensures.1 refl) in
    let one_less : c.args.room ≡ suc (c.args.room - 1) = omega (arith, c.if-room-eq0.false) in (
      rw (← c.in_default.ensures.0, ← back, ← c.in_ok-need.ensures.0.0, ap expr.within one_less) (stops IsExpr IsOperand _ _ _ _ _ c.in_err-expr.ensures.0 c.from_residual-in_err-expr.ensures.1),
      omega (arith, ap length back, c.in_ok-need.ensures.0.2 refl, c.expr.ensures.1),
    )

pub operand-returns-in_err-need-2 : goal.operand-returns-in_err-need-2
operand-returns-in_err-need-2 t c =
    let back = ap reader_view (c.in_default.ensures.1 refl) in
    let one_less : c.args.room ≡ suc (c.args.room - 1) = omega (arith, c.if-room-eq0.false) in
    let one = given_ok IsExpr _ c.in_ok-expr.expr _ c.in_ok-expr.ensures.0 in
    let same = ap reader_view (c.in_err-need-2.ensures.0.1 refl) in (
      rw (← c.in_default.ensures.0, ← back, ← c.in_ok-need.ensures.0.0, ap expr.within one_less, one.1, ← c.in_err-need-2.ensures.0.0) (unread IsOperand _ _ _ _ same c.in_err-need-2.ensures.1 c.from_residual-in_err-need-2.ensures.1),
      omega (arith, ap length back, ap length same, c.in_ok-need.ensures.0.2 refl, c.expr.ensures.1),
    )

pub operand-returns : goal.operand-returns
operand-returns t c =
    let back = ap reader_view (c.in_default.ensures.1 refl) in
    let one_less : c.args.room ≡ suc (c.args.room - 1) = omega (arith, c.if-room-eq0.false) in
    let one = given_ok IsExpr _ c.in_ok-expr.expr _ c.in_ok-expr.ensures.0 in (
      rw (← c.in_default.ensures.0, ← back, ← c.in_ok-need.ensures.0.0, ap expr.within one_less, one.1, ← c.in_ok-need-2.ensures.0.0) (one.2, refl),
      omega (arith, ap length back, c.in_ok-need.ensures.0.2 refl, c.expr.ensures.1, c.in_ok-need-2.ensures.0.2 refl),
    )

pub rename-returns-in_err-operand : goal.rename-returns-in_err-operand
rename-returns-in_err-operand t c = (
  rw (← c.in_ok-col.ensures.0.0, ← c.in_ok-need_word.ensures.0.0, ← c.in_ok-to.ensures.0.0, ← c.in_ok-need_word-2.ensures.0.0) (stops IsOperand IsExpr _ _ _ _ _ c.in_err-operand.ensures.0 c.from_residual-in_err-operand.ensures.1),
  omega (arith, c.in_ok-col.ensures.0.2 refl, c.in_ok-need_word.ensures.0.2 refl, c.in_ok-to.ensures.0.2 refl, c.in_ok-need_word-2.ensures.0.2 refl, c.operand.ensures.1),
)

pub rename-returns : goal.rename-returns
rename-returns t c =
    let one = given_ok IsOperand _ c.in_ok-operand.field-0 _ c.in_ok-operand.ensures.0 in
    let seen : expr_view (Rename c.in_ok-col.col c.in_ok-to.to c.in_ok-of.of) ≡ meaning.rename c.in_ok-col.col c.in_ok-to.to (expr_view c.in_ok-of.of.value) = search (rules, the_lemmas) in
    let inside = ap expr_view c.in_ok-of.ensures.ok ∙ one.2 in (
      rw (← c.in_ok-col.ensures.0.0, ← c.in_ok-need_word.ensures.0.0, ← c.in_ok-to.ensures.0.0, ← c.in_ok-need_word-2.ensures.0.0, one.1) (seen ∙ ap (meaning.rename c.in_ok-col.col c.in_ok-to.to) inside, refl),
      omega (arith, c.in_ok-col.ensures.0.2 refl, c.in_ok-need_word.ensures.0.2 refl, c.in_ok-to.ensures.0.2 refl, c.in_ok-need_word-2.ensures.0.2 refl, c.operand.ensures.1),
    )

pub select-returns-in_err-operand : goal.select-returns-in_err-operand
select-returns-in_err-operand t c = (
  rw (← c.in_ok-need_word.ensures.0.0) (stops IsOperand IsExpr _ _ _ _ _ c.in_err-operand.ensures.0 c.from_residual-in_err-operand.ensures.1),
  omega (arith, c.in_ok-need_word.ensures.0.2 refl, c.operand.ensures.1),
)

pub select-returns-in_err-need_word-2 : goal.select-returns-in_err-need_word-2
select-returns-in_err-need_word-2 t c =
    let one = given_ok IsOperand _ c.in_ok-operand.field-0 _ c.in_ok-operand.ensures.0 in
    let same = ap reader_view (c.in_err-need_word-2.ensures.0.1 refl) in (
      rw (← c.in_ok-need_word.ensures.0.0, one.1, ← c.in_err-need_word-2.ensures.0.0) (unread IsExpr _ _ _ _ same c.in_err-need_word-2.ensures.1 c.from_residual-in_err-need_word-2.ensures.1),
      omega (arith, ap length same, c.in_ok-need_word.ensures.0.2 refl, c.operand.ensures.1),
    )

pub select-returns-in_err-pred : goal.select-returns-in_err-pred
select-returns-in_err-pred t c =
    let one = given_ok IsOperand _ c.in_ok-operand.field-0 _ c.in_ok-operand.ensures.0 in (
      rw (← c.in_ok-need_word.ensures.0.0, one.1, ← c.in_ok-need_word-2.ensures.0.0) (stops IsPredicate IsExpr _ _ _ _ _ c.in_err-pred.ensures.0 c.from_residual-in_err-pred.ensures.1),
      omega (arith, c.in_ok-need_word.ensures.0.2 refl, c.operand.ensures.1, c.in_ok-need_word-2.ensures.0.2 refl, c.predicate.ensures.1),
    )

pub select-returns : goal.select-returns
select-returns t c =
    let one = given_ok IsOperand _ c.in_ok-operand.field-0 _ c.in_ok-operand.ensures.0 in
    let two = given_ok IsPredicate _ c.in_ok-pred.pred _ c.in_ok-pred.ensures.0 in
    let seen : expr_view (Select c.in_ok-pred.pred c.in_ok-of.of) ≡ meaning.select c.in_ok-pred.pred (expr_view c.in_ok-of.of.value) = search (rules, the_lemmas) in
    let inside = ap expr_view c.in_ok-of.ensures.ok ∙ one.2 in (
      rw (← c.in_ok-need_word.ensures.0.0, one.1, ← c.in_ok-need_word-2.ensures.0.0, two.1) (seen ∙ (λ i. meaning.select (two.2 i) (inside i)), refl),
      omega (arith, c.in_ok-need_word.ensures.0.2 refl, c.operand.ensures.1, c.in_ok-need_word-2.ensures.0.2 refl, c.predicate.ensures.1),
    )
