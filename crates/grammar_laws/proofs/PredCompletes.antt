-- What spells a predicate is read as it.
use Rattle.std.proofs.Common.{◌≡◌, ℕ, zero, suc, ◌+◌, Bool, true, false, List, [], ◌∷◌, ◌++◌, refl, sym, ap, ◌∙◌, append_assoc, append-nil, arith, not, codes, nat_lt, flat_map, Option, None}
use Rattle.plain_values.proofs.Common.{list_all, nat_tests, is_null, first_holds, second_holds, and_parts}
use Rattle.plain_values.specs.declared.value.Value.{Value}
use Rattle.plain_values.specs.declared.value.Value.TheVariants.{Flag}
use Rattle.lens_specs.specs.Common.{Name}
use Rattle.grammar_specs.specs.Common.{Token, word, close_paren, comma, is_free_name, Placed, part_nesting, all_nesting, pred_nesting, max_nesting, Part, literally, compares, compares_columns, is_in, tests_null, negated, grouped, All, only, joined, Pred, alone, either, literal, part_tokens, all_tokens, pred_tokens, are_constants, is_part, is_all, is_pred}
use Rattle.grammar_laws.specs.Tests.{is_keyword, free_in, literal_in, is_comma}
use Rattle.grammar_laws.specs.Steps.{next, Outcome, read, stopped, and_then, chosen, need, passing}
use Rattle.grammar_laws.specs.PredRules.{closed, more_values, more_parts, all_of, more_alls, pred_of, part}
use Rattle.grammar_laws.proofs.Local.{repeat_turn}
use Rattle.grammar_laws.proofs.TokenKinds.{literal_found}
use Rattle.grammar_laws.proofs.PredSound.{value_local, part_local, joined_local, either_local, all_long, pred_long, over}
use Rattle.grammar_laws.proofs.Completes.{Reads, placed, anything, reads_deep, reads_flat, reads_map, reads_then, reads_token, reads_end, reads_as, no, repeat_end}

-- ---- a part without a part in it

literal_no_name : (v : Value) → free_in (literal v) ≡ None
literal_no_name (Flag true) = refl
literal_no_name (Flag false) = refl
literal_no_name other = refl

-- one value more
value_turn : (vs : List Value) (v : Value) (ps : Placed) → not (is_null v) ≡ true → more_values vs ((0, comma) ∷ (0, literal v) ∷ ps) ≡ more_values (vs ++ v ∷ []) ps
value_turn vs v ps good =
    repeat_turn (passing is_comma) (λ vs _. need literal_in (λ v. read (vs ++ v ∷ []))) value_local vs ((0, comma) ∷ (0, literal v) ∷ ps)
    ∙ ap (λ o. and_then (chosen o (λ v. read (vs ++ v ∷ [])) stopped (0, literal v) ps) more_values) (literal_found v good)

values_read : (c : Name) (vs ws : List Value) (rest : Placed) → list_all (λ v. not (is_null v)) ws ≡ true
    → and_then (more_values vs (placed (flat_map (λ w. comma ∷ literal w ∷ []) ws ++ close_paren ∷ []) ++ rest)) (λ us. closed (is_in c us)) ≡ read (is_in c (vs ++ ws)) rest
values_read c vs [] rest h = ap (λ us. read (is_in c us) rest) (sym (append-nil vs))
values_read c vs (w ∷ ws) rest h =
    ap (λ o. and_then o (λ us. closed (is_in c us))) (value_turn vs w (placed (flat_map (λ w. comma ∷ literal w ∷ []) ws ++ close_paren ∷ []) ++ rest) (first_holds (not (is_null w)) (list_all (λ v. not (is_null v)) ws) h))
    ∙ values_read c (vs ++ w ∷ []) ws rest (second_holds (not (is_null w)) (list_all (λ v. not (is_null v)) ws) h) ∙ ap (λ us. read (is_in c us) rest) (append_assoc vs (w ∷ []) ws)

in_read : (n : ℕ) (c : Name) (vs : List Value) (rest : Placed) → is_free_name c ≡ true → are_constants vs ≡ true → part n (placed (part_tokens (is_in c vs)) ++ rest) ≡ read (is_in c vs) rest
in_read n c [] rest free some = cc
in_read n c (v ∷ vs) rest free some =
    let both = and_parts _ _ some in
    rw free
    (ap (λ o. and_then (chosen o (λ v. more_values (v ∷ [])) stopped (0, literal v) (placed (flat_map (λ w. comma ∷ literal w ∷ []) vs ++ close_paren ∷ []) ++ rest)) (λ us. closed (is_in c us))) (literal_found v both.0)
    ∙ values_read c (v ∷ []) vs rest both.1)

-- ---- parts, and what they are joined to

pub under : (n k : ℕ) → k + n ≡ max_nesting → nat_lt max_nesting k ≡ false
under n k e = grind (arith, nat_tests)

-- no such word follows
abbrev pub no_word : List ℕ → Option Token → Bool
no_word w = no (passing (is_keyword w))

-- behind the last part
pub parts_end : (part : Placed → Outcome Part) (a : All) (rest : Placed) → no_word (codes "and") (next rest) ≡ true → more_parts part a rest ≡ read a rest
parts_end part = repeat_end _ _

mutual
  pub part_read : (n k : ℕ) (p : Part) → k + n ≡ max_nesting → is_part p ≡ true → Reads (part n) (part_nesting k p) (part_tokens p) anything (read p)
  part_read n k (literally true) e h = reads_flat k (under n k e) (λ rest _. refl)
  part_read n k (literally false) e h = reads_flat k (under n k e) (λ rest _. refl)
  part_read n k (compares c op v) e h = let both = and_parts (is_free_name c) (not (is_null v)) h in reads_flat k (under n k e) (λ rest _. rw (both.0, literal_no_name v, literal_found v both.1) refl)
  part_read n k (compares_columns c op d) e h = let both = and_parts (is_free_name c) (is_free_name d) h in reads_flat k (under n k e) (λ rest _. rw (both.0, both.1) refl)
  part_read n k (is_in c vs) e h = let both = and_parts _ _ h in reads_flat k (under n k e) (λ rest _. in_read n c vs rest both.0 both.1)
  part_read n k (tests_null c) e h = reads_flat k (under n k e) (λ rest _. rw h refl)
  part_read zero k (negated p) e h = reads_deep (over k e) (λ rest. refl) refl
  part_read (suc n) k (negated p) e h =
      let deeper : suc k + n ≡ max_nesting = omega (arith, e) in
      reads_token (under n (suc k) deeper) (reads_map (λ p. read (negated p)) (λ _. refl) (part_read n (suc k) p deeper h))
  part_read zero k (grouped o) e h = reads_deep (over k e) (λ rest. refl) refl
  part_read (suc n) k (grouped o) e h =
      let deeper : suc k + n ≡ max_nesting = omega (arith, e) in
      let flat = under n (suc k) deeper in
      reads_token flat (reads_then (suc k) close_paren (reads_map (λ o. closed (grouped o)) (λ _. refl) (pred_read n (suc k) o deeper h)) refl (pred_long (suc k) o) flat (record { holds = λ rest _. refl }))

  pub all_read : (n k : ℕ) (a : All) → k + n ≡ max_nesting → is_all a ≡ true → Reads (all_of (part n)) (all_nesting k a) (all_tokens a) anything (more_parts (part n) a)
  all_read n k (only p) e h = reads_map (λ p. more_parts (part n) (only p)) (λ _. refl) (part_read n k p e h)
  all_read n k (joined a p) e h =
      let both = and_parts _ _ h in
      reads_then k (word (codes "and")) (all_read n k a e both.0) refl (all_long k a) (under n k e)
      (reads_as (λ ps. sym (repeat_turn (passing (is_keyword (codes "and"))) (λ a _ ps. and_then (part n ps) (λ p. read (joined a p))) (joined_local (part n) (part_local n)) a ((0, word (codes "and")) ∷ ps)))
      (reads_map (more_parts (part n)) (λ _. refl) (reads_map (λ p. read (joined a p)) (λ _. refl) (part_read n k p e both.1))))

  -- a predicate is read where no "and" follows
  pub pred_read : (n k : ℕ) (o : Pred) → k + n ≡ max_nesting → is_pred o ≡ true → Reads (pred_of (part n)) (pred_nesting k o) (pred_tokens o) (no_word (codes "and")) (more_alls (part n) o)
  pred_read n k (alone a) e h =
      reads_end (reads_map (λ a. more_alls (part n) (alone a)) (λ _. refl) (all_read n k a e h))
      (λ rest end. (refl, ap (λ o. and_then o (λ a. more_alls (part n) (alone a))) (parts_end (part n) a rest end)))
  pred_read n k (either o a) e h =
      let both = and_parts _ _ h in
      reads_then k (word (codes "or")) (pred_read n k o e both.0) refl (pred_long k o) (under n k e)
      (reads_as (λ ps. sym (repeat_turn (passing (is_keyword (codes "or"))) (λ o _ ps. and_then (all_of (part n) ps) (λ a. read (either o a))) (either_local (part n) (part_local n)) o ((0, word (codes "or")) ∷ ps)))
      (reads_map (more_alls (part n)) (λ _. refl) (reads_map (λ a. read (either o a)) (λ _. refl) (reads_end (all_read n k a e both.1) (λ rest end. (refl, parts_end (part n) a rest end))))))
