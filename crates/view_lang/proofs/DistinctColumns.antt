-- Columns with distinct names.
use Rattle.std.proofs.Common.{◌≡◌, ℕ, suc, ◌+◌, ◌≤◌, Bool, true, false, cond, List, [], ◌∷◌, ◌++◌, refl, sym, ap, subst, ◌∙◌, arith, ◌||◌, nat_eq, count_by}
use Rattle.plain_values.proofs.Common.{pointwise, texts_ties, eq_by_cmp, true≢false, map_push, list_any-append, sum_by-cons, bytes_cmp, keys_of}
use Rattle.std.proofs.lemmas.List.Sums.{sum_by_push}
use Rattle.plain_values.specs.declared.value.Kind.{Kind}
use Rattle.lens_values.specs.Repeats.{count_of}
use Rattle.lens_specs.specs.Common.{Name}
use Rattle.grammar_specs.specs.Common.{is_column_of}
use Rattle.grammar_laws.proofs.Words.{same_word, word_itself}
use Rattle.view_lang.specs.DefBounds.{HasNoRepeat}

counted : (v : Bool) (n : ℕ) → cond v 1 0 + n ≡ cond v (suc n) n
counted true n = omega arith
counted false n = omega arith

count_by-cons : (p : List ℕ → Bool) (x : List ℕ) (xs : List (List ℕ)) → count_by p (x ∷ xs) ≡ cond (p x) (suc (count_by p xs)) (count_by p xs)
count_by-cons p x xs = sum_by-cons (λ y. cond (p y) 1 0) x xs ∙ counted (p x) (count_by p xs)

behind_or : (a b : Bool) → (a || b) ≡ false → b ≡ false
behind_or true b h = cc
behind_or false b h = h

-- a name that no column has is none of theirs
none_counted : (cs : List (Name × Kind)) (name : Name) → is_column_of cs name ≡ false → count_of name (keys_of cs) ≡ 0
none_counted [] name h = refl
none_counted (c ∷ cs) name h =
    count_by-cons (pointwise nat_eq name) c.0 (keys_of cs)
    ∙ elim (pointwise nat_eq name c.0) as (λ v. pointwise nat_eq name c.0 ≡ v → cond v (suc (count_of name (keys_of cs))) (count_of name (keys_of cs)) ≡ 0) [
      | true ↦ λ e. absurd (true≢false (sym (ap (λ b. b || is_column_of cs name) (ap (λ n. pointwise nat_eq c.0 n) (same_word name c.0 e) ∙ word_itself c.0)) ∙ h))
      | false ↦ λ e. none_counted cs name (behind_or (pointwise nat_eq c.0 name) (is_column_of cs name) h)
    ] refl

-- a column with a new name
pub still_distinct : (cs : List (Name × Kind)) (name : Name) (kind : Kind) → is_column_of cs name ≡ false → HasNoRepeat cs → HasNoRepeat (cs ++ (name, kind) ∷ [])
still_distinct cs name kind new h q =
    let P : ℕ → Type 0 = λ n. n ≤ 1 in
    let pushed : count_of q (keys_of (cs ++ (name, kind) ∷ [])) ≡ count_of q (keys_of cs) + cond (pointwise nat_eq q name) 1 0 =
    ap (count_of q) (map_push (λ c. c.0) cs (name, kind)) ∙ sum_by_push (λ y. cond (pointwise nat_eq q y) 1 0) (keys_of cs) name in
    subst P (sym pushed)
    (elim (pointwise nat_eq q name) as (λ v. pointwise nat_eq q name ≡ v → count_of q (keys_of cs) + cond v 1 0 ≤ 1) [
      | true ↦ λ e. omega (arith, ap (λ n. count_of n (keys_of cs)) (same_word q name e) ∙ none_counted cs name new)
      | false ↦ λ e. omega (arith, h q)
    ] refl)

either : (b h : Bool) → cond b true h ≡ (h || (b || false))
either true true = refl
either true false = refl
either false true = refl
either false false = refl

-- a name is that of a column where it was, or where it is the new one's
pub column_more : (cs : List (Name × Kind)) (name : Name) (kind : Kind) (q : Name) (h : Bool) → h ≡ is_column_of cs q → cond (eq_by_cmp bytes_cmp name q) true h ≡ is_column_of (cs ++ (name, kind) ∷ []) q
column_more cs name kind q h is =
    ap (λ b. cond b true h) (sym (texts_ties name q)) ∙ either (pointwise nat_eq name q) h ∙ ap (λ b. b || (pointwise nat_eq name q || false)) is
    ∙ sym (list_any-append (λ c. pointwise nat_eq c.0 q) cs ((name, kind) ∷ []))
