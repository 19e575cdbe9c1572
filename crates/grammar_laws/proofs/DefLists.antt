-- The columns and the dependencies of a definition, and one more behind them.
use Rattle.std.proofs.Common.{◌≡◌, ℕ, ◌≤◌, ◌<◌, ◌^◌, true, false, cond, List, [], ◌∷◌, ◌++◌, length, refl, sym, ap, subst, ◌∙◌, append_assoc, append-nil, arith, length-append, ◌&&◌, ◌||◌, not, codes, map, flat_map}
use Rattle.plain_values.proofs.Common.{list_any, is_nullable, first_holds, second_holds, length-map}
use Rattle.plain_values.specs.declared.value.Kind.{Kind}
use Rattle.plain_values.specs.declared.value.Kind.TheVariants as kind
use Rattle.lens_specs.specs.Common.{Name}
use Rattle.grammar_specs.specs.Common.{word, comma, is_free_name, Dep, kind_word, column_tokens, columns_tokens, dep_tokens, deps_tokens, is_some_list, is_column_of, are_columns}
use Rattle.grammar_specs.specs.Written.{null_tokens}
use Rattle.grammar_laws.specs.Tests.{is_word, with_null}
use Rattle.grammar_laws.specs.DefRules.{Columns}
use Rattle.grammar_laws.proofs.FreshNames.{new_name, new_name_free, new_name_new}
use Rattle.grammar_laws.proofs.PredSound.{separated, conj}

-- ---- one more

pub columns_pushed : (d : Name × Kind) (cs : Columns) (c : Name × Kind) → columns_tokens (d ∷ (cs ++ c ∷ [])) ≡ (columns_tokens (d ∷ cs) ++ comma ∷ []) ++ column_tokens c
columns_pushed d cs c = separated column_tokens (column_tokens d) cs c

pub deps_pushed : (d : Dep) (ds : List Dep) (e : Dep) → deps_tokens (d ∷ (ds ++ e ∷ [])) ≡ (deps_tokens (d ∷ ds) ++ comma ∷ []) ++ dep_tokens e
deps_pushed d ds e = ap (λ l. word (codes "with") ∷ l) (separated dep_tokens (dep_tokens d) ds e)

some_more : {A : Type 0} (xs : List A) (x : A) → is_some_list (xs ++ x ∷ []) ≡ true
some_more [] x = refl
some_more (y ∷ xs) x = refl

columns_good : (front cs : Columns) (c : Name × Kind) → are_columns front cs ≡ true → is_free_name c.0 ≡ true → not (is_column_of (front ++ cs) c.0) ≡ true → are_columns front (cs ++ c ∷ []) ≡ true
columns_good front [] c h free other = rw (free, subst (λ x. not (is_column_of x c.0) ≡ true) (append-nil front) other) refl
columns_good front (d ∷ cs) c h free other =
    conj (first_holds (is_free_name d.0 && not (is_column_of front d.0)) (are_columns (front ++ d ∷ []) cs) h)
    (columns_good (front ++ d ∷ []) cs c (second_holds (is_free_name d.0 && not (is_column_of front d.0)) (are_columns (front ++ d ∷ []) cs) h) free (subst (λ x. not (is_column_of x c.0) ≡ true) (sym (append_assoc front (d ∷ []) cs)) other))

-- a new column
pub column_good : (cs : Columns) (c : Name) (k : Kind) → are_columns [] cs ≡ true → (is_free_name c && not (is_column_of cs c)) ≡ true → (is_some_list (cs ++ (c, k) ∷ []) && are_columns [] (cs ++ (c, k) ∷ [])) ≡ true
column_good cs c k ok new =
    conj (some_more cs (c, k))
    (columns_good [] cs (c, k) ok (first_holds (is_free_name c) (not (is_column_of cs c)) new) (second_holds (is_free_name c) (not (is_column_of cs c)) new))

-- ---- the tokens of a column

pub without_null : (c : Name) (k : Kind) → is_nullable k ≡ false → column_tokens (c, k) ≡ word c ∷ word (kind_word k) ∷ []
without_null c k base = ap (λ b. word c ∷ word (kind_word k) ∷ cond b (word (codes "null") ∷ []) []) base

pub null_behind : (c : Name) (k : Kind) → is_nullable k ≡ false → column_tokens (c, with_null k) ≡ word c ∷ word (kind_word k) ∷ word (codes "null") ∷ []
null_behind c kind.IntOrNull base = cc
null_behind c kind.TextOrNull base = cc
null_behind c kind.FlagOrNull base = cc
null_behind c other base = refl

-- ---- a name that is no column

sought : (cs : Columns) (n : Name) → is_column_of cs n ≡ list_any (λ m. is_word m n) (map (λ c. c.0) cs)
sought [] n = refl
sought (c ∷ cs) n = ap (λ x. is_word c.0 n || x) (sought cs n)

pub new_column : Columns → Name
new_column cs = new_name (map (λ c. c.0) cs)

pub new_column_good : (cs : Columns) → length cs < 2 ^ 64 → (is_free_name (new_column cs) && not (is_column_of cs (new_column cs))) ≡ true
unfolding new_column
new_column_good cs few =
    conj (new_name_free (map (λ c. c.0) cs))
    (ap not (sought cs (new_column cs) ∙ new_name_new (map (λ c. c.0) cs) (simp length-map few)))

more_each : (cs : Columns) → length cs ≤ length (flat_map (λ c. comma ∷ column_tokens c) cs)
more_each [] = omega arith
more_each (c ∷ cs) = omega (arith, more_each cs, length-append (null_tokens c.1) (flat_map (λ c. comma ∷ column_tokens c) cs))

-- there are no more columns than tokens
pub columns_few : (cs : Columns) (total : ℕ) → length (columns_tokens cs) < total → length cs < total
columns_few [] total h = omega (arith, h)
columns_few (c ∷ cs) total h = omega (arith, h, more_each cs, length-append (null_tokens c.1) (flat_map (λ c. comma ∷ column_tokens c) cs))
