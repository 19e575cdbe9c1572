-- What a definition of the code stands for.
use Rattle.grammar_specs.specs.Meaning as meaning
use Rattle.view_lang.specs.declared.definition.Definition as code
use Rattle.view_lang.specs.declared.definition.Definition.TheVariants as whole
use Rattle.view_lang.specs.ExprViews.{expr_view}

-- what a definition of the code stands for
abbrev pub definition_view : code.Definition → meaning.Definition
definition_view (whole.Table n cols deps p) = meaning.table n cols deps p
definition_view (whole.View n e) = meaning.view n (expr_view e)
