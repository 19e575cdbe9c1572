-- What a definition means can be written.
use Rattle.std.proofs.Common.{◌≡◌, true, List, [], ◌∷◌, ◌++◌, map, refl, sym, ap, ◌∙◌}
use Rattle.std.specs.FinMap as map_of
use Rattle.plain_values.proofs.Common.{nat_list_cmp_total, list_all, Less, Equal, Greater, and_parts, and_from, bytes_cmp, keys_of, entries-from_entries}
use Rattle.plain_values.specs.SortedSet as set
use Rattle.lens_specs.specs.Common.{Name, Names}
use Rattle.grammar_specs.specs.Common.{close_paren, is_free_name, Operand, bare, enclosed, select, drop, rename, join, Dep, Written, columns_tokens, deps_tokens, where_tokens, written_tokens, is_some_list, are_free_names, are_columns, is_dep, is_definition, operand_meaning, expr_meaning, dep_meaning, meaning, are_free, is_written_expr, is_written_dep, is_writable}
use Rattle.grammar_specs.specs.Written.{Expr, named, table, view}
use Rattle.grammar_laws.proofs.PrintTokens.{are_printable, each_printable}
use Rattle.grammar_laws.proofs.PrintTrees.{is_good_operand, is_good_expr, expr_good}
use Rattle.grammar_laws.proofs.PrintColumns.{Cols}
use Rattle.grammar_laws.proofs.PrintWritablePreds.{predicate_writable, condition_writable}

-- ---- names and columns

-- an entry more, in its place
put_some : {X : Type 0} (k : Name) (v : X) (es : List (Name × X)) → is_some_list (map_of.put bytes_cmp k v es) ≡ true
put_some k v [] = refl
put_some k v (e ∷ es) = elim (bytes_cmp k e.0) as (λ r. is_some_list (map_of.Entries.by_order r ((k, v) ∷ e ∷ es) ((e.0, v) ∷ es) (e ∷ map_of.put bytes_cmp k v es)) ≡ true) [ Less ↦ refl | Equal ↦ refl | Greater ↦ refl ]

put_free : {X : Type 0} (k : Name) (v : X) (es : List (Name × X)) → is_free_name k ≡ true → list_all is_free_name (keys_of es) ≡ true → list_all is_free_name (keys_of (map_of.put bytes_cmp k v es)) ≡ true
put_free k v [] h all = and_from _ true h refl
put_free k v (e ∷ es) h all =
    let both = and_parts _ _ all in
    elim (bytes_cmp k e.0) as (λ r. list_all is_free_name (keys_of (map_of.Entries.by_order r ((k, v) ∷ e ∷ es) ((e.0, v) ∷ es) (e ∷ map_of.put bytes_cmp k v es))) ≡ true) [
      | Less ↦ and_from _ _ h all
      | Equal ↦ all
      | Greater ↦ and_from _ _ both.0 (put_free k v es h both.1)
    ]

items_more : (s : Names) (k : Name) → set.items (set.insert s k) ≡ keys_of (map_of.put bytes_cmp k tt (map_of.entries s))
unfolding set.insert
items_more s k = ap keys_of (map_of.entries-insert nat_list_cmp_total s k tt)

items_none : set.items (set.from_list {R = bytes_cmp} []) ≡ []
items_none = set.items-from_list nat_list_cmp_total [] (set.nothing_rises nat_list_cmp_total)

items_free : (names : List Name) → list_all is_free_name names ≡ true → list_all is_free_name (set.items (set.from_list {R = bytes_cmp} names)) ≡ true
items_free [] h = ap (list_all is_free_name) items_none
items_free (n ∷ names) h =
    let both = and_parts _ _ h in
    ap (list_all is_free_name) (items_more (set.from_list names) n) ∙ put_free n tt (map_of.entries (set.from_list names)) both.0 (items_free names both.1)

-- a list of free names gives a set of them
names_free : (names : List Name) → are_free_names names ≡ true → are_free (set.from_list names) ≡ true
names_free [] h = cc
names_free (n ∷ names) h =
    and_from _ _ (ap is_some_list (items_more (set.from_list names) n) ∙ some_keys (map_of.put bytes_cmp n tt (map_of.entries (set.from_list names))) (put_some n tt (map_of.entries (set.from_list names)))) (items_free (n ∷ names) h)
  where
    some_keys : (es : List (Name × Unit {0})) → is_some_list es ≡ true → is_some_list (keys_of es) ≡ true
    some_keys [] h = h
    some_keys (e ∷ es) h = refl

columns_free : (before columns : Cols) → are_columns before columns ≡ true → list_all is_free_name (keys_of columns) ≡ true
columns_free before [] h = refl
columns_free before (c ∷ columns) h =
    let both = and_parts _ _ h in
    and_from _ _ (and_parts _ _ both.0).0 (columns_free (before ++ c ∷ []) columns both.1)

entries_free : (columns : Cols) → list_all is_free_name (keys_of columns) ≡ true → list_all is_free_name (keys_of (map_of.entries (map_of.from_entries {R = bytes_cmp} columns))) ≡ true
entries_free [] h = ap (λ es. list_all is_free_name (keys_of es)) (entries-from_entries bytes_cmp nat_list_cmp_total [] (set.nothing_rises nat_list_cmp_total))
entries_free (c ∷ columns) h =
    let both = and_parts _ _ h in
    ap (λ es. list_all is_free_name (keys_of es)) (map_of.entries-insert nat_list_cmp_total (map_of.from_entries columns) c.0 c.1)
    ∙ put_free c.0 c.1 (map_of.entries (map_of.from_entries columns)) both.0 (entries_free columns both.1)

entries_some : (columns : Cols) → is_some_list columns ≡ true → is_some_list (map_of.entries (map_of.from_entries {R = bytes_cmp} columns)) ≡ true
entries_some [] h = cc
entries_some (c ∷ columns) h = ap is_some_list (map_of.entries-insert nat_list_cmp_total (map_of.from_entries columns) c.0 c.1) ∙ put_some c.0 c.1 (map_of.entries (map_of.from_entries columns))

-- ---- expressions

mutual
  operand_writable : (o : Operand) → is_good_operand o ≡ true → is_written_expr (operand_meaning o) ≡ true
  operand_writable (bare n) h = h
  operand_writable (enclosed e) h = expr_writable e h

  expr_writable : (e : Expr) → is_good_expr e ≡ true → is_written_expr (expr_meaning e) ≡ true
  expr_writable (named n) h = h
  expr_writable (select o p) h = let both = and_parts _ _ h in and_from _ _ (predicate_writable p both.0) (operand_writable o both.1)
  expr_writable (drop c by v o) h =
      let both = and_parts _ _ h in
      let front = and_parts _ _ both.0 in
      let names = and_parts _ _ front.0 in
      and_from _ _ (and_from _ _ (and_from _ _ names.0 (names_free by names.1)) front.1) (operand_writable o both.1)
  expr_writable (rename c d o) h = let both = and_parts _ _ h in and_from _ _ both.0 (operand_writable o both.1)
  expr_writable (join kind o q) h = let both = and_parts _ _ h in and_from _ _ (operand_writable o both.0) (operand_writable q both.1)

-- ---- definitions

deps_writable : (deps : List Dep) → list_all is_dep deps ≡ true → list_all is_written_dep (map dep_meaning deps) ≡ true
deps_writable [] h = refl
deps_writable (d ∷ deps) h =
    let both = and_parts _ _ h in
    let sides = and_parts _ _ both.0 in
    and_from _ _ (and_from _ _ (names_free d.0 sides.0) (names_free d.1 sides.1)) (deps_writable deps both.1)

-- a definition whose tokens can be printed means one that can be written
pub meaning_writable : (w : Written) → is_definition w ≡ true → are_printable (written_tokens w) ≡ true → is_writable (meaning w) ≡ true
meaning_writable (table name columns deps condition) h k =
    let three = and_parts _ _ h in
    let two = and_parts _ _ three.0 in
    let one = and_parts _ _ two.0 in
    let distinct = and_parts _ _ one.1 in
    let behind = and_parts _ _ k in
    let tail = each_printable (columns_tokens columns) (close_paren ∷ (deps_tokens deps ++ where_tokens condition)) behind.1 in
    let last = each_printable (deps_tokens deps) (where_tokens condition) tail.1 in
    and_from _ _
    (and_from _ _ (and_from _ _ (and_from _ _ one.0 (entries_some columns distinct.0)) (entries_free columns (columns_free [] columns distinct.1))) (deps_writable deps two.1))
    (condition_writable condition three.1 last.1)
meaning_writable (view name e) h k =
    let both = and_parts _ _ h in
    and_from _ _ both.0 (expr_writable e (sym (expr_good e) ∙ and_from _ _ both.1 (and_parts _ _ k).1))
