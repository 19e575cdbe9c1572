use Rattle.std.proofs.Common.{◌∙◌, ap, sym, subst, Err}
use Rattle.grammar_specs.specs.Common.{has_few_columns, has_few_nodes}
use Rattle.grammar_laws.specs.Reading.{limited}
use Rattle.view_limits.specs.declared.limit.Limit.{Limit}
use Rattle.view_lang.specs.declared.definition.LangFault.TheVariants.{TooLarge}
use Rattle.view_lang.specs.DefViews.{definition_view}
use Rattle.view_lang.specs.Reads.{Reads}
use Rattle.view_lang.proofs.Small.{few_columns, many_columns, within_limits, too_wide, too_big}
use Rattle.view_lang.proofs.parsing.limits.limited.Goals as goal
use Rattle.view_lang.proofs.parsing.limits.limited.Goals.{in_default-via-in-Table-2+else-not-is_small, in_default-via-in-View+else-not-has_small_predicates, in-Table, in-Table-2, in-View}

pub returns-in_default : goal.returns-in_default
returns-in_default c =
    let d = definition_view c.args.definition in
    elim c.in_default.branch [
      | in_default-via-in-Table-2+else-not-is_small w ↦
          within_limits d
          (ap (λ d. has_few_columns (definition_view d)) w.in-Table.is ∙ few_columns w.in-Table.cols w.pairs.result.now w.pairs.ensures w.if-pairs-gt-MAX_COLUMNS.false)
          (ap (λ d. has_few_nodes (definition_view d)) w.in-Table-2.is ∙ sym w.is_small.ensures ∙ w.if-not-is_small.false)
      | in_default-via-in-View+else-not-has_small_predicates w ↦
          within_limits d (ap (λ d. has_few_columns (definition_view d)) w.in-View.is)
          (ap (λ d. has_few_nodes (definition_view d)) w.in-View.is ∙ sym w.has_small_predicates.ensures ∙ w.if-not-has_small_predicates.false)
    ]

pub returns : goal.returns
returns c =
    let d = definition_view c.args.definition in
    let P : Limit → Type 0 = λ what. Reads (Err (TooLarge what)) (limited d) in
    elim c.match-definition.branch [
      | in-Table w ↦
          subst P (sym w.what-is)
          (too_wide d (ap (λ d. has_few_columns (definition_view d)) w.in-Table.is ∙ many_columns w.in-Table.cols w.pairs.result.now w.pairs.ensures w.if-pairs-gt-MAX_COLUMNS.true))
      | in-Table-2 w ↦
          subst P (sym w.what-is)
          (too_big d
          (ap (λ d. has_few_columns (definition_view d)) w.in-Table.is ∙ few_columns w.in-Table.cols w.pairs.result.now w.pairs.ensures w.if-pairs-gt-MAX_COLUMNS.false)
          (ap (λ d. has_few_nodes (definition_view d)) w.in-Table-2.is ∙ sym w.is_small.ensures ∙ w.if-not-is_small.true))
      | in-View w ↦
          subst P (sym w.what-is)
          (too_big d (ap (λ d. has_few_columns (definition_view d)) w.in-View.is)
          (ap (λ d. has_few_nodes (definition_view d)) w.in-View.is ∙ sym w.has_small_predicates.ensures ∙ w.if-not-has_small_predicates.true))
    ]
