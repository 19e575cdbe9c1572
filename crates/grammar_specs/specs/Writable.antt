-- Which definitions can be written: those that a text says.
use Rattle.std.specs.Prelude.{pos, negsuc, Bool, true, false, not, ◌&&◌, ◌^◌, nat_lt}
use Rattle.std.specs.List.{list_all}
use Rattle.std.specs.FinMap as map_of
use Rattle.plain_values.specs.Bytes.{is_text}
use Rattle.plain_values.specs.SortedSet as set
use Rattle.plain_values.specs.SortedMap.{keys_of}
use Rattle.plain_values.specs.Value.{is_null}
use Rattle.plain_values.specs.declared.value.Value.{Value}
use Rattle.plain_values.specs.declared.value.Value.TheVariants.{Null, Int, Text, Flag}
use Rattle.lens_specs.specs.Common.{Edge, Names, Formula, truth, falsity, compare, compare_columns, one_of, null_at, negation, all_of, any_of, Formulas, no_formulas, formulas, Predicate}
use Rattle.grammar_specs.specs.Tokens.{is_free_name}
use Rattle.grammar_specs.specs.Written.{is_some_list, are_constants}
use Rattle.grammar_specs.specs.Meaning.{Expr, named, select, drop, rename, join, Definition, table, view}

-- null, a number of 64 bits, a text, or a truth value
abbrev pub is_literal : Value → Bool
is_literal Null = true
is_literal (Int (pos n)) = nat_lt n (2 ^ 63)
is_literal (Int (negsuc n)) = nat_lt n (2 ^ 63)
is_literal (Text bytes) = is_text bytes
is_literal (Flag b) = true

-- one name or more, and none of them reserved
abbrev pub are_free : Names → Bool
are_free names = is_some_list (set.items names) && list_all is_free_name (set.items names)

-- whether it is a conjunction
abbrev pub is_conjunction : Formula → Bool
is_conjunction (all_of fs) = true
is_conjunction other = false

-- whether it is a disjunction
abbrev pub is_disjunction : Formula → Bool
is_disjunction (any_of fs) = true
is_disjunction other = false

-- two formulas or more
abbrev pub are_several : Formulas → Bool
are_several no_formulas = false
are_several (formulas f no_formulas) = false
are_several (formulas f (formulas g fs)) = true

-- Names are free, literals can be written and are compared where they are not null, and conjunctions and disjunctions have two members or more, none of its own kind.
abbrev mutual
  pub is_written_formula : Formula → Bool
  is_written_formula truth = true
  is_written_formula falsity = true
  is_written_formula (compare c op v) = is_free_name c && not (is_null v) && is_literal v
  is_written_formula (compare_columns c op d) = is_free_name c && is_free_name d
  is_written_formula (one_of c vs) = is_free_name c && are_constants vs && list_all is_literal vs
  is_written_formula (null_at c) = is_free_name c
  is_written_formula (negation f) = is_written_formula f
  is_written_formula (all_of fs) = are_several fs && are_in_all fs
  is_written_formula (any_of fs) = are_several fs && are_in_any fs

  -- members of a conjunction
  pub are_in_all : Formulas → Bool
  are_in_all no_formulas = true
  are_in_all (formulas f fs) = not (is_conjunction f) && is_written_formula f && are_in_all fs

  -- members of a disjunction
  pub are_in_any : Formulas → Bool
  are_in_any no_formulas = true
  are_in_any (formulas f fs) = not (is_disjunction f) && is_written_formula f && are_in_any fs

-- every conjunct can be written, and none is a conjunction
abbrev pub is_written_predicate : Predicate → Bool
is_written_predicate P = list_all (λ f. not (is_conjunction f) && is_written_formula f) P

-- every name in it is free, no "by" is empty, and no select is without a conjunct
abbrev pub is_written_expr : Expr → Bool
is_written_expr (named n) = is_free_name n
is_written_expr (select P e) = is_some_list P && is_written_predicate P && is_written_expr e
is_written_expr (drop A by v e) = is_free_name A && are_free by && is_literal v && is_written_expr e
is_written_expr (rename A B e) = is_free_name A && is_free_name B && is_written_expr e
is_written_expr (join k e f) = is_written_expr e && is_written_expr f

-- both sides have free names
abbrev pub is_written_dep : Edge → Bool
is_written_dep e = are_free e.left && are_free e.right

-- every name in it is free, a table has a column, no side and no "by" is empty, and no select is without a conjunct
abbrev pub is_writable : Definition → Bool
is_writable (table name U F P) =
    is_free_name name && is_some_list (map_of.entries U) && list_all is_free_name (keys_of (map_of.entries U)) && list_all is_written_dep F && is_written_predicate P
is_writable (view name e) = is_free_name name && is_written_expr e
