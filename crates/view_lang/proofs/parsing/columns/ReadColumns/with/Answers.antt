use Rattle.std.proofs.Common.{◌∙◌, ap, subst, sym}
use Rattle.grammar_specs.specs.Common.{is_column_of}
use Rattle.view_lang.specs.DefBounds.{HasNoRepeat}
use Rattle.view_lang.proofs.DistinctColumns.{column_more, still_distinct}
use Rattle.view_lang.proofs.parsing.columns.ReadColumns.with.Goals as goal

pub invariant_of-self : goal.invariant_of-self
invariant_of-self c = (
  λ name.
      c.in_ok-insert.ensures.updates.0 name
      ∙ column_more c.self.inside.list.items c.args.name c.args.kind name _ (c.self.invariant.0 name)
      ∙ ap (λ cs. is_column_of cs name) (sym c.in_ok-push.ensures.items),
  subst HasNoRepeat (sym c.in_ok-push.ensures.items) (still_distinct c.self.inside.list.items c.args.name c.args.kind (ap (λ cs. is_column_of cs c.args.name) c.self.view_is ∙ c.requires) c.self.invariant.1),
)
