use Rattle.std.proofs.Common.{◌++◌, [], ◌∷◌, ap, sym, ◌∙◌, arith}
use Rattle.plain_values.proofs.Common.{map_push}
use Rattle.grammar_specs.specs.Common.{dep_meaning, Dep}
use Rattle.grammar_laws.specs.Steps.{Outcome, read, and_then}
use Rattle.grammar_laws.specs.DefRules.{more_deps}
use Rattle.view_lang.specs.Outcomes.{reader_view, IsDep, AreDeps}
use Rattle.view_lang.proofs.Turns.{deps_turn, given_ok, then_err, stops, fewer_passed}
use Rattle.view_lang.proofs.parsing.reader.Reader.deps.Goals as goal

pub returns-in_err-dep : goal.returns-in_err-dep
returns-in_err-dep c = (
  rw (← c.take_word.ensures.0, c.if-not-take_word.false) (stops IsDep AreDeps _ _ _ _ _ c.in_err-dep.ensures.0 c.from_residual.ensures.1),
  omega (arith, fewer_passed _ _ _ c.if-not-take_word.false c.take_word.ensures.2, c.dep.ensures.1),
)

pub loop-alloc-init : goal.loop-alloc-init
loop-alloc-init c =
    let one = given_ok IsDep _ c.in_ok-dep.field-0 _ c.in_ok-dep.ensures.0 in (
      one.0 ∷ [],
      c.in_ok-push.ensures.items ∙ (λ i. c.new-deps.ensures.items i ++ one.2 i ∷ []),
      rw (← c.take_word.ensures.0, c.if-not-take_word.false) (ap (λ (o : Outcome Dep). and_then o (λ d. more_deps (d ∷ []))) one.1),
      omega (arith, fewer_passed _ _ _ c.if-not-take_word.false c.take_word.ensures.2, c.dep.ensures.1),
    )

pub returns-in_err-dep-2 : goal.returns-in_err-dep-2
returns-in_err-dep-2 c =
    let done = c.loop-alloc.invariant in (
      rw (done.2, deps_turn done.0 (reader_view c.loop-alloc.self), ← c.take.ensures.0, c.loop-alloc-test.true)
          (stops AreDeps AreDeps _ _ _ _ _ (then_err IsDep AreDeps _ _ _ _ c.in_err-dep-2.ensures.0) c.from_residual-in_err-dep-2.ensures.1),
      omega (arith, done.3, fewer_passed _ _ _ c.loop-alloc-test.true c.take.ensures.2, c.dep-in-loop-alloc.ensures.1),
    )

pub loop-alloc-preserved : goal.loop-alloc-preserved
loop-alloc-preserved c =
    let done = c.loop-alloc.invariant in
    let one = given_ok IsDep _ c.in_ok-dep-2.field-0 _ c.in_ok-dep-2.ensures.0 in (
      done.0 ++ one.0 ∷ [],
      c.in_ok-push-2.ensures.items ∙ (λ i. done.1 i ++ one.2 i ∷ []) ∙ sym (map_push dep_meaning done.0 one.0),
      rw (done.2, deps_turn done.0 (reader_view c.loop-alloc.self), ← c.take.ensures.0, c.loop-alloc-test.true) (ap (λ (o : Outcome Dep). and_then (and_then o (λ d. read (done.0 ++ d ∷ []))) more_deps) one.1),
      omega (arith, done.3, fewer_passed _ _ _ c.loop-alloc-test.true c.take.ensures.2, c.dep-in-loop-alloc.ensures.1),
    )
