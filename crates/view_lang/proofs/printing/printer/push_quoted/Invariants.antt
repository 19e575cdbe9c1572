use Rattle.std.proofs.Common.{◌≡◌, ◌++◌, string_bytes}
use Rattle.std.specs.Str.Iter.{chars_rest}
use Rattle.grammar_specs.specs.Common.{quotes_doubled}
use Rattle.view_lang.proofs.printing.printer.push_quoted.Given as goal

-- the text and what is left of the value make up the whole
abbrev pub invariant-loop-c : goal.invariant-loop-c
invariant-loop-c l = string_bytes l.text ++ quotes_doubled (chars_rest l.c-iterator) ≡ string_bytes l.initial.text ++ quotes_doubled l.value
