-- What spells a definition is read as it.
use Rattle.std.proofs.Common.{◌≡◌, ℕ, ◌+◌, Bool, true, false, List, [], ◌∷◌, ◌++◌, refl, sym, ap, ◌∙◌, append_assoc, append-nil, ◌&&◌, not, codes, map, flat_map, Option, Some, None}
use Rattle.plain_values.proofs.Common.{list_all, length-map, not-true, first_holds, second_holds, and_parts}
use Rattle.plain_values.specs.declared.value.Kind.{Kind}
use Rattle.plain_values.specs.declared.value.Kind.TheVariants as kind
use Rattle.lens_specs.specs.Common.{Name}
use Rattle.grammar_specs.specs.Common.{Token, word, close_paren, comma, arrow, is_free_name, Placed, at_each, where_nesting, nesting, pred_nesting, expr_nesting, max_nesting, Pred, Dep, Written, column_tokens, columns_tokens, dep_tokens, deps_tokens, where_tokens, pred_tokens, expr_tokens, written_tokens, is_some_list, are_free_names, is_column_of, are_columns, is_dep, is_expr, is_condition, is_definition}
use Rattle.grammar_specs.specs.Written.{table, view}
use Rattle.grammar_laws.specs.Tests.{is_keyword, is_comma}
use Rattle.grammar_laws.specs.Steps.{next, Outcome, read, and_then, passing}
use Rattle.grammar_laws.specs.PredRules.{pred}
use Rattle.grammar_laws.specs.ExprRules.{all_names, expr}
use Rattle.grammar_laws.specs.DefRules.{Columns, column, next_column, more_columns, all_columns, behind_left, dep, next_dep, more_deps, all_deps, behind_deps, behind_columns, behind_table, behind_view, definition, at_last, alone}
use Rattle.grammar_laws.proofs.Local.{repeat_turn}
use Rattle.grammar_laws.proofs.Completes.{Reads, placed, placed_append, no, choose_end, repeat_end, reads_flat, reads_map, reads_then, reads_token, reads_end}
use Rattle.grammar_laws.proofs.PredCompletes.{no_word}
use Rattle.grammar_laws.proofs.ExprCompletes.{no_name, names_at, pred_end, reads_name, expr_read}
use Rattle.grammar_laws.proofs.DefSound.{column_local, next_dep_local}

-- ---- columns

-- neither "null" nor a comma follows
abbrev no_null : Option Token → Bool
no_null = no_word (codes "null")

abbrev no_comma : Option Token → Bool
no_comma = no (passing is_comma)

abbrev no_column : Option Token → Bool
no_column t = no_null t && no_comma t

column_read : (cs : Columns) (c : Name) (k : Kind) (rest : Placed) → is_free_name c ≡ true → is_column_of cs c ≡ false → no_null (next rest) ≡ true → column cs (placed (column_tokens (c, k)) ++ rest) ≡ read (cs ++ (c, k) ∷ []) rest
column_read cs c kind.IntOrNull rest free other h = rw (free, other) refl
column_read cs c kind.TextOrNull rest free other h = rw (free, other) refl
column_read cs c kind.FlagOrNull rest free other h = rw (free, other) refl
column_read cs c bare rest free other h = rw (free, other) (choose_end (passing (is_keyword (codes "null"))) _ _ rest h)

abbrev columns_behind : Columns → List Token
columns_behind cs = flat_map (λ c. comma ∷ column_tokens c) cs

-- where a comma may follow, what stands behind commas may
nowhere : {A : Type 0} (f : A → List Token) (follows : Option Token → Bool) → follows (Some comma) ≡ true → (xs : List A) (rest : Placed) → follows (next rest) ≡ true → follows (next (placed (flat_map (λ x. comma ∷ f x) xs) ++ rest)) ≡ true
nowhere f follows ok [] rest h = h
nowhere f follows ok (x ∷ xs) rest h = ok

-- one column, and those behind it
column_then : (cs : Columns) (c : Name × Kind) (ds : Columns) (rest : Placed) → is_free_name c.0 ≡ true → is_column_of cs c.0 ≡ false → no_null (next rest) ≡ true
    → and_then (column cs (placed (column_tokens c ++ columns_behind ds) ++ rest)) more_columns ≡ more_columns (cs ++ c ∷ []) (placed (columns_behind ds) ++ rest)
column_then cs c ds rest free other h =
    ap (λ ps. and_then (column cs ps) more_columns) (placed_append (column_tokens c) (columns_behind ds) rest)
    ∙ ap (λ o. and_then o more_columns) (column_read cs c.0 c.1 (placed (columns_behind ds) ++ rest) free other (nowhere column_tokens no_null refl ds rest h))

columns_at : (cs ds : Columns) (rest : Placed) → are_columns cs ds ≡ true → no_column (next rest) ≡ true → more_columns cs (placed (columns_behind ds) ++ rest) ≡ read (cs ++ ds) rest
columns_at cs [] rest h end = repeat_end (passing is_comma) next_column cs rest (second_holds (no_null (next rest)) (no_comma (next rest)) end) ∙ ap (λ x. read x rest) (sym (append-nil cs))
columns_at cs (c ∷ ds) rest h end =
    let here = first_holds (is_free_name c.0 && not (is_column_of cs c.0)) (are_columns (cs ++ c ∷ []) ds) h in
    repeat_turn (passing is_comma) next_column column_local cs ((0, comma) ∷ (placed (column_tokens c ++ columns_behind ds) ++ rest))
    ∙ column_then cs c ds rest (first_holds (is_free_name c.0) (not (is_column_of cs c.0)) here) (not-true (is_column_of cs c.0) (second_holds (is_free_name c.0) (not (is_column_of cs c.0)) here)) (first_holds (no_null (next rest)) (no_comma (next rest)) end)
    ∙ columns_at (cs ++ c ∷ []) ds rest (second_holds (is_free_name c.0 && not (is_column_of cs c.0)) (are_columns (cs ++ c ∷ []) ds) h) end ∙ ap (λ x. read x rest) (append_assoc cs (c ∷ []) ds)

all_columns_at : (cs : Columns) (rest : Placed) → (is_some_list cs && are_columns [] cs) ≡ true → no_column (next rest) ≡ true → all_columns (placed (columns_tokens cs) ++ rest) ≡ read cs rest
all_columns_at [] rest h end = cc
all_columns_at (c ∷ cs) rest h end =
    let here = first_holds (is_free_name c.0 && true) (are_columns (c ∷ []) cs) h in
    column_then [] c cs rest (first_holds (is_free_name c.0) true here) refl (first_holds (no_null (next rest)) (no_comma (next rest)) end)
    ∙ columns_at (c ∷ []) cs rest (second_holds (is_free_name c.0 && true) (are_columns (c ∷ []) cs) h) end

-- ---- dependencies

-- no name, no comma and no "with" follows
abbrev no_dep : Option Token → Bool
no_dep t = no_name t && no_comma t

abbrev no_with : Option Token → Bool
no_with = no_word (codes "with")

abbrev no_deps : Option Token → Bool
no_deps t = no_dep t && no_with t

dep_at : (d : Dep) (rest : Placed) → is_dep d ≡ true → no_name (next rest) ≡ true → dep (placed (dep_tokens d) ++ rest) ≡ read d rest
dep_at d rest h end =
    ap (λ ps. and_then (all_names ps) behind_left) (placed_append (map word d.0) (arrow ∷ map word d.1) rest)
    ∙ ap (λ o. and_then o behind_left) (names_at d.0 ((0, arrow) ∷ (placed (map word d.1) ++ rest)) (first_holds (are_free_names d.0) (are_free_names d.1) h) refl)
    ∙ ap (λ o. and_then o (λ r. read (d.0, r))) (names_at d.1 rest (second_holds (are_free_names d.0) (are_free_names d.1) h) end)

abbrev deps_behind : List Dep → List Token
deps_behind ds = flat_map (λ d. comma ∷ dep_tokens d) ds

-- one dependency, and what goes on behind it
dep_then : {A : Type 0} (k : Dep → Placed → Outcome A) (d : Dep) (ds : List Dep) (rest : Placed) → is_dep d ≡ true → no_name (next rest) ≡ true
    → and_then (dep (placed (dep_tokens d ++ deps_behind ds) ++ rest)) k ≡ k d (placed (deps_behind ds) ++ rest)
dep_then k d ds rest h end =
    ap (λ ps. and_then (dep ps) k) (placed_append (dep_tokens d) (deps_behind ds) rest) ∙ ap (λ o. and_then o k) (dep_at d (placed (deps_behind ds) ++ rest) h (nowhere dep_tokens no_name refl ds rest end))

deps_at : (ds es : List Dep) (rest : Placed) → list_all is_dep es ≡ true → no_dep (next rest) ≡ true → more_deps ds (placed (deps_behind es) ++ rest) ≡ read (ds ++ es) rest
deps_at ds [] rest h end = repeat_end (passing is_comma) next_dep ds rest (second_holds (no_name (next rest)) (no_comma (next rest)) end) ∙ ap (λ x. read x rest) (sym (append-nil ds))
deps_at ds (e ∷ es) rest h end =
    let pushed : Dep → Placed → Outcome (List Dep) = λ d. read (ds ++ d ∷ []) in
    repeat_turn (passing is_comma) next_dep next_dep_local ds ((0, comma) ∷ (placed (dep_tokens e ++ deps_behind es) ++ rest))
    ∙ ap (λ o. and_then o more_deps) (dep_then pushed e es rest (first_holds (is_dep e) (list_all is_dep es) h) (first_holds (no_name (next rest)) (no_comma (next rest)) end))
    ∙ deps_at (ds ++ e ∷ []) es rest (second_holds (is_dep e) (list_all is_dep es) h) end ∙ ap (λ x. read x rest) (append_assoc ds (e ∷ []) es)

all_deps_at : (ds : List Dep) (rest : Placed) → list_all is_dep ds ≡ true → no_deps (next rest) ≡ true → all_deps (placed (deps_tokens ds) ++ rest) ≡ read ds rest
all_deps_at [] rest h end = choose_end (passing (is_keyword (codes "with"))) _ _ rest (second_holds (no_dep (next rest)) (no_with (next rest)) end)
all_deps_at (d ∷ ds) rest h end =
    let dep_end = first_holds (no_dep (next rest)) (no_with (next rest)) end in
    dep_then (λ d. more_deps (d ∷ [])) d ds rest (first_holds (is_dep d) (list_all is_dep ds) h) (first_holds (no_name (next rest)) (no_comma (next rest)) dep_end)
    ∙ deps_at (d ∷ []) ds rest (second_holds (is_dep d) (list_all is_dep ds) h) dep_end

all_deps_read : (ds : List Dep) → list_all is_dep ds ≡ true → Reads all_deps (at_each 0 (deps_tokens ds)) (deps_tokens ds) no_deps (read ds)
all_deps_read ds h = reads_flat 0 refl (λ rest end. all_deps_at ds rest h end)

-- ---- definitions

-- nothing follows
abbrev pub at_end : Option Token → Bool
at_end None = true
at_end (Some t) = false

-- what is read before something else is read at the end of the text
reads_last : {A : Type 0} {P R : Placed → Outcome A} {ns : List ℕ} {ts : List Token} {first : Option Token → Bool} {again : Placed → Outcome A} → first None ≡ true → R [] ≡ again [] → Reads P ns ts first R → Reads P ns ts at_end again
reads_last {A} {P} {R} {ns} {ts} {first} {again} ends same h = reads_end h at
  where
    at : (rest : Placed) → at_end (next rest) ≡ true → (first (next rest) ≡ true) × (R rest ≡ again rest)
    at [] e = (ends, same)
    at (p ∷ rest) e = cc

module _ (n : ℕ) (e : 0 + n ≡ max_nesting) where
  -- no condition, or one, behind the dependencies
  tail_read : (name : Name) (cs : Columns) (ds : List Dep) (p : Option Pred) → list_all is_dep ds ≡ true → is_condition p ≡ true
      → Reads (λ ps. and_then (all_deps ps) (behind_deps n name cs)) (at_each 0 (deps_tokens ds) ++ where_nesting p) (deps_tokens ds ++ where_tokens p) at_end (read (table name cs ds p))
  tail_read name cs ds None deps h =
      rw (append-nil (at_each 0 (deps_tokens ds)), append-nil (deps_tokens ds)) (reads_last refl refl (reads_map (behind_deps n name cs) (λ _. refl) (all_deps_read ds deps)))
  tail_read name cs ds (Some p) deps h =
      let last : Reads (pred n) (pred_nesting 0 p) (pred_tokens p) at_end (read p) = reads_last refl refl (pred_end n 0 p e h) in
      reads_then 0 (word (codes "where")) (reads_map (behind_deps n name cs) (λ _. refl) (all_deps_read ds deps)) refl (simp length-map) refl
      (reads_map (λ p. read (table name cs ds p)) (λ _. refl) (reads_map (λ p. read (Some p)) (λ _. refl) last))

  definition_read : (w : Written) → is_definition w ≡ true → Reads (definition n) (nesting w) (written_tokens w) at_end (read w)
  definition_read (table name cs ds p) h =
      let most = and_parts (is_free_name name && (is_some_list cs && are_columns [] cs) && list_all is_dep ds) (is_condition p) h in
      let front = and_parts (is_free_name name && (is_some_list cs && are_columns [] cs)) (list_all is_dep ds) most.0 in
      let first = and_parts (is_free_name name) (is_some_list cs && are_columns [] cs) front.0 in
      let columns : Reads all_columns (at_each 0 (columns_tokens cs)) (columns_tokens cs) no_column (read cs) = reads_flat 0 refl (λ rest end. all_columns_at cs rest first.1 end) in
      reads_token refl (reads_name (behind_table n) refl first.0 (reads_token refl
      (reads_then 0 close_paren (reads_map (behind_columns n name) (λ _. refl) columns) refl (simp length-map) refl (tail_read name cs ds p front.1 most.1))))
  definition_read (view name x) h =
      let both = and_parts (is_free_name name) (is_expr x) h in
      let last : Reads (expr n) (expr_nesting 0 x) (expr_tokens x) at_end (read x) = reads_last refl refl (expr_read n 0 x e both.1) in
      reads_token refl (reads_name (behind_view n) refl both.0 (reads_token refl (reads_map (λ x. read (view name x)) (λ _. refl) last)))

  -- a definition alone is read as it, or is too deep at the first token at which too many stand open
  pub alone_read : (w : Written) → is_definition w ≡ true → Reads (alone n) (nesting w) (written_tokens w) at_end (read w)
  alone_read w h = reads_last refl refl (reads_map at_last (λ _. refl) (definition_read w h))
