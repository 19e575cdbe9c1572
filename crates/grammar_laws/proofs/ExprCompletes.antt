-- What spells an expression is read as it.
use Rattle.std.proofs.Common.{◌≡◌, ℕ, zero, suc, ◌+◌, Bool, true, false, List, [], ◌∷◌, ◌++◌, refl, sym, ap, subst, ◌∙◌, append_assoc, append-nil, arith, ◌&&◌, codes, nat_lt, map, Option, Some}
use Rattle.plain_values.proofs.Common.{list_all, first_holds, second_holds, and_parts}
use Rattle.plain_values.specs.declared.join_kind.JoinKind.{JoinKind}
use Rattle.plain_values.specs.declared.join_kind.JoinKind.TheVariants.{DeleteLeft}
use Rattle.plain_values.specs.declared.value.Value.{Value}
use Rattle.lens_specs.specs.Common.{Name}
use Rattle.grammar_specs.specs.Common.{Token, word, close_paren, comma, is_free_name, Placed, operand_nesting, expr_nesting, pred_nesting, max_nesting, Pred, Operand, bare, enclosed, select, drop, rename, join, literal, join_word, pred_tokens, operand_tokens, expr_tokens, is_pred, is_operand, is_expr, are_free_names}
use Rattle.grammar_specs.specs.Written.{Expr, named}
use Rattle.grammar_laws.specs.Tests.{is_keyword, free_in, is_open, is_close}
use Rattle.grammar_laws.specs.Steps.{next, Outcome, read, stopped, and_then, chosen, need, passing}
use Rattle.grammar_laws.specs.PredRules.{pred}
use Rattle.grammar_laws.specs.ExprRules.{more_names, all_names, drop_from, join_of, expr_of, operand}
use Rattle.grammar_laws.proofs.TokenKinds.{fill_found}
use Rattle.grammar_laws.proofs.Local.{repeat_turn}
use Rattle.grammar_laws.proofs.ExprSound.{name_local, operand_long, expr_long, names_long, names_level}
use Rattle.grammar_laws.proofs.PredCompletes.{no_word, pred_read, under}
use Rattle.grammar_laws.proofs.PredSound.{over}
use Rattle.grammar_laws.proofs.Completes.{Reads, placed, anything, no, repeat_end, reads_deep, reads_flat, reads_map, reads_then, reads_token, reads_end, reads_as}

-- ---- names

-- no name follows
abbrev pub no_name : Option Token → Bool
no_name = no free_in

more_read : (ms ns : List Name) (rest : Placed) → list_all is_free_name ns ≡ true → more_names ms (placed (map word ns) ++ rest) ≡ more_names (ms ++ ns) rest
more_read ms [] rest h = ap (λ x. more_names x rest) (sym (append-nil ms))
more_read ms (n ∷ ns) rest h =
    repeat_turn free_in (λ names n. read (names ++ n ∷ [])) name_local ms ((0, word n) ∷ (placed (map word ns) ++ rest))
    ∙ rw (first_holds (is_free_name n) (list_all is_free_name ns) h)
    (more_read (ms ++ n ∷ []) ns rest (second_holds (is_free_name n) (list_all is_free_name ns) h) ∙ ap (λ x. more_names x rest) (append_assoc ms (n ∷ []) ns))

pub names_at : (ns : List Name) (rest : Placed) → are_free_names ns ≡ true → no_name (next rest) ≡ true → all_names (placed (map word ns) ++ rest) ≡ read ns rest
names_at [] rest h end = cc
names_at (n ∷ ns) rest h end = rw (first_holds (is_free_name n) (list_all is_free_name ns) h) (more_read (n ∷ []) ns rest (second_holds (is_free_name n) (list_all is_free_name ns) h) ∙ repeat_end free_in _ (n ∷ ns) rest end)

pub names_read : (k : ℕ) (ns : List Name) → nat_lt max_nesting k ≡ false → are_free_names ns ≡ true → Reads all_names (map (λ _. k) ns) (map word ns) no_name (read ns)
names_read k ns flat h = subst (λ l. Reads all_names l (map word ns) no_name (read ns)) (names_level k ns) (reads_flat k flat (λ rest end. names_at ns rest h end))

-- ---- operands and expressions

-- neither an "and" nor an "or" follows
abbrev pub no_joint : Option Token → Bool
no_joint t = no_word (codes "and") t && no_word (codes "or") t

-- a predicate up to its end
pub pred_end : (n k : ℕ) (p : Pred) → k + n ≡ max_nesting → is_pred p ≡ true → Reads (pred n) (pred_nesting k p) (pred_tokens p) no_joint (read p)
pred_end n k p e h = reads_end (pred_read n k p e h) (λ rest ok. let both = and_parts (no_word (codes "and") (next rest)) (no_word (codes "or") (next rest)) ok in (both.0, repeat_end _ _ p rest both.1))

-- the same, whatever may follow
weaker : {A : Type 0} {P : Placed → Outcome A} {ns : List ℕ} {ts : List Token} {follows : Option Token → Bool} {again : Placed → Outcome A} → Reads P ns ts anything again → Reads P ns ts follows again
weaker h = reads_end h (λ rest _. (refl, refl))

-- a name, and more
pub reads_name : {A : Type 0} (P : Name → Placed → Outcome A) {ms : List ℕ} {n : ℕ} {c : Name} {ys : List Token} {follows : Option Token → Bool} {again : Placed → Outcome A} → nat_lt max_nesting n ≡ false → is_free_name c ≡ true
    → Reads (P c) ms ys follows again → Reads (need free_in P) (n ∷ ms) (word c ∷ ys) follows again
reads_name P {c = c} flat free l =
    let found : Some c ≡ free_in (word c) = rw free refl in
    reads_token flat (reads_as (λ ps. ap (λ o. chosen o P stopped (0, word c) ps) found) l)

join_starts : (n : ℕ) (j : JoinKind) (ps : Placed) → join_of (operand n) j ps ≡ expr_of n (operand n) ((0, word (join_word j)) ∷ ps)
join_starts n DeleteLeft ps = refl
join_starts n other ps = refl

mutual
  pub operand_read : (n k : ℕ) (o : Operand) → k + n ≡ max_nesting → is_operand o ≡ true → Reads (operand n) (operand_nesting k o) (operand_tokens o) anything (read o)
  operand_read n k (bare c) e h = reads_flat k (under n k e) (λ rest _. rw h refl)
  operand_read zero k (enclosed x) e h = reads_deep (over k e) (λ rest. refl) refl
  operand_read (suc n) k (enclosed x) e h =
      let deeper : suc k + n ≡ max_nesting = omega (arith, e) in
      let flat = under n (suc k) deeper in
      reads_token flat (reads_then (suc k) close_paren (reads_map (λ x. need (passing is_close) (λ _. read (enclosed x))) (λ _. refl) (expr_read n (suc k) x deeper h)) refl (expr_long (suc k) x) flat (record { holds = λ rest _. refl }))

  -- an expression is read where neither an "and" nor an "or" follows
  pub expr_read : (n k : ℕ) (x : Expr) → k + n ≡ max_nesting → is_expr x ≡ true → Reads (expr_of n (operand n)) (expr_nesting k x) (expr_tokens x) no_joint (read x)
  expr_read n k (named c) e h = reads_flat k (under n k e) (λ rest _. rw h refl)
  expr_read n k (select o p) e h =
      let flat = under n k e in
      let both = and_parts (is_operand o) (is_pred p) h in
      reads_token flat (reads_token flat
      (reads_then k (word (codes "where")) (reads_map (λ o. need (passing (is_keyword (codes "where"))) (λ _ qs. and_then (pred n qs) (λ p. read (select o p)))) (λ _. refl) (operand_read n k o e both.0)) refl (operand_long k o) flat
      (reads_map (λ p. read (select o p)) (λ _. refl) (pred_end n k p e both.1))))
  expr_read n k (join j o q) e h =
      let flat = under n k e in
      let both = and_parts (is_operand o) (is_operand q) h in
      reads_token flat (reads_as (join_starts n j)
      (reads_then k (word (codes "with")) (reads_map (λ o. need (passing (is_keyword (codes "with"))) (λ _ qs. and_then (operand n qs) (λ q. read (join j o q)))) (λ _. refl) (operand_read n k o e both.0)) refl (operand_long k o) flat
      (weaker (reads_map (λ q. read (join j o q)) (λ _. refl) (operand_read n k q e both.1)))))
  expr_read n k (rename c d o) e h =
      let flat = under n k e in
      let both = and_parts (is_free_name c && is_free_name d) (is_operand o) h in
      let names = and_parts (is_free_name c) (is_free_name d) both.0 in
      let last : Name → Name → Placed → Outcome Expr = λ c d. need (passing (is_keyword (codes "from"))) (λ _ ps. and_then (operand n ps) (λ o. read (rename c d o))) in
      reads_token flat (reads_name (λ c. need (passing (is_keyword (codes "to"))) (λ _. need free_in (last c))) flat names.0 (reads_token flat (reads_name (last c) flat names.1
      (reads_token flat (weaker (reads_map (λ o. read (rename c d o)) (λ _. refl) (operand_read n k o e both.1)))))))
  expr_read n k (drop c by v o) e h =
      let flat = under n k e in
      let both = and_parts (is_free_name c && are_free_names by) (is_operand o) h in
      let names = and_parts (is_free_name c) (are_free_names by) both.0 in
      let behind_fill : Value → Placed → Outcome Expr = λ v. need (passing is_close) (λ _. need (passing (is_keyword (codes "from"))) (λ _ ps. and_then (operand n ps) (λ o. read (drop c by v o)))) in
      let behind_name : Name → Placed → Outcome Expr = λ c. need (passing (is_keyword (codes "determined"))) (λ _. need (passing (is_keyword (codes "by"))) (λ _. need (passing is_open) (λ _ ps. and_then (all_names ps) (drop_from (operand n) c)))) in
      reads_token flat (reads_name behind_name flat names.0 (reads_token flat (reads_token flat (reads_token flat
      (reads_then k comma (reads_map (drop_from (operand n) c) (λ _. refl) (names_read k by flat names.1)) refl (names_long k by) flat
      (reads_token flat (reads_as (λ ps. ap (λ o. chosen o behind_fill stopped (0, literal v) ps) (sym (fill_found v)))
      (reads_token flat (reads_token flat (weaker (reads_map (λ o. read (drop c by v o)) (λ _. refl) (operand_read n k o e both.1))))))))))))
