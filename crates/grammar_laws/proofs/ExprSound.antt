-- What the rules of expressions read is spelled so, and where they stop an expression begins.
use Rattle.std.proofs.Common.{◌≡◌, ℕ, zero, suc, ◌+◌, true, List, [], ◌∷◌, ◌++◌, length, refl, sym, ap, subst, append_assoc, arith, length-append, codes, map}
use Rattle.plain_values.proofs.Common.{map-append, length-map}
use Rattle.plain_values.specs.declared.join_kind.JoinKind.{JoinKind}
use Rattle.plain_values.specs.declared.value.Value.TheVariants.{Null}
use Rattle.lens_specs.specs.Common.{Name}
use Rattle.grammar_specs.specs.Common.{Token, word, open_paren, close_paren, comma, is_free_name, Placed, operand_nesting, expr_nesting, pred_nesting, max_nesting, literally, only, Pred, alone, Operand, bare, enclosed, select, drop, rename, join, literal, join_word, pred_tokens, operand_tokens, expr_tokens, is_operand, is_expr, are_free_names}
use Rattle.grammar_specs.specs.Written.{Expr, named}
use Rattle.grammar_laws.specs.Tests.{is_keyword, is_close}
use Rattle.grammar_laws.specs.Steps.{Outcome, read, too_deep, and_then, need, passing}
use Rattle.grammar_laws.specs.PredRules.{pred, part}
use Rattle.grammar_laws.specs.ExprRules.{all_names, operand_of, select_of, drop_from, drop_of, rename_of, join_of, expr_of, operand}
use Rattle.grammar_laws.proofs.Local.{IsLocal, local_read, local_then, local_repeat}
use Rattle.grammar_laws.proofs.Sound.{Trees, begun, Sound, sound_read, sound_deep, sound_choose, sound_need, sound_then, within, sound_last, one_longer, sound_repeat}
use Rattle.grammar_laws.proofs.TokenKinds.{keyword_kind, open_kind, close_kind, comma_kind, name_kind, fill_kind, join_kind}
use Rattle.grammar_laws.proofs.PredSound.{all_pushed, need_local, choose_local, conj, pred_of_local, part_local, pred_of_sound, part_sound, pred_long, over}

-- ---- the rules are local

pub name_local : (names : List Name) (n : Name) (ps : Placed) → IsLocal (read (names ++ n ∷ [])) ps
name_local names n = local_read

pub all_names_local : (ps : Placed) → IsLocal all_names ps
all_names_local = need_local _ _ (λ n. local_repeat _ _ name_local _)

pub word_local : {A : Type 0} (k : List ℕ) (P : Placed → Outcome A) → ((ps : Placed) → IsLocal P ps) → (ps : Placed) → IsLocal (need (passing (is_keyword k)) (λ _. P)) ps
word_local k P h = need_local _ _ (λ _. h)

pub operand_of_local : (within : Placed → Outcome Expr) → ((ps : Placed) → IsLocal within ps) → (ps : Placed) → IsLocal (operand_of within) ps
operand_of_local within h =
    choose_local _ _ _ (λ c. local_read) (need_local _ _ (λ _ ps.
    local_then within _ ps (h ps) (λ e rest _. need_local _ _ (λ _. local_read) rest)))

module _ (n : ℕ) (operand : Placed → Outcome Operand) (local : (ps : Placed) → IsLocal operand ps) where
  select_local : (ps : Placed) → IsLocal (select_of n operand) ps
  select_local =
      word_local _ _ (λ ps.
      local_then operand _ ps (local ps) (λ o rest _.
      word_local _ _ (λ qs. local_then (pred n) _ qs (pred_of_local (part n) (part_local n) qs) (λ p more _. local_read more)) rest))

  drop_from_local : (c : Name) (by : List Name) (ps : Placed) → IsLocal (drop_from operand c by) ps
  drop_from_local c by =
      need_local _ _ (λ _.
      need_local _ _ (λ v.
      need_local _ _ (λ _.
      word_local _ _ (λ ps. local_then operand _ ps (local ps) (λ o rest _. local_read rest)))))

  drop_local : (ps : Placed) → IsLocal (drop_of operand) ps
  drop_local =
      need_local _ _ (λ c.
      word_local _ _ (word_local _ _ (need_local _ _ (λ _ ps. local_then all_names _ ps (all_names_local ps) (λ by rest _. drop_from_local c by rest)))))

  rename_local : (ps : Placed) → IsLocal (rename_of operand) ps
  rename_local =
      need_local _ _ (λ c.
      word_local _ _ (need_local _ _ (λ d.
      word_local _ _ (λ ps. local_then operand _ ps (local ps) (λ o rest _. local_read rest)))))

  join_local : (k : JoinKind) (ps : Placed) → IsLocal (join_of operand k) ps
  join_local k ps =
      local_then operand _ ps (local ps) (λ o rest _.
      word_local _ _ (λ qs. local_then operand _ qs (local qs) (λ q more _. local_read more)) rest)

  pub expr_of_local : (ps : Placed) → IsLocal (expr_of n operand) ps
  expr_of_local =
      choose_local _ _ _ (λ c. local_read) (choose_local _ _ _ (λ _. select_local) (choose_local _ _ _ (λ _. drop_local)
      (choose_local _ _ _ (λ _. rename_local) (need_local _ _ join_local))))

pub operand_local : (n : ℕ) (ps : Placed) → IsLocal (operand n) ps
operand_local zero = operand_of_local (λ _. too_deep) (λ ps. tt)
operand_local (suc n) = operand_of_local (expr_of n (operand n)) (expr_of_local n (operand n) (operand_local n))

-- ---- what the rules read

abbrev pub names_trees : ℕ → Trees (List Name)
names_trees k = record { ok = are_free_names; tokens = map word; nesting = λ ns. map (λ _. k) ns }

abbrev pub operand_trees : ℕ → Trees Operand
operand_trees k = record { ok = is_operand; tokens = operand_tokens; nesting = operand_nesting k }

abbrev pub expr_trees : ℕ → Trees Expr
expr_trees k = record { ok = is_expr; tokens = expr_tokens; nesting = expr_nesting k }

-- a name, an operand and a predicate to end with
unfoldable pub some_name : Name
some_name = codes "a"

some_operand : Operand
unfolding some_name
some_operand = bare some_name

some_pred : Pred
some_pred = alone (only (literally true))

name_sound : (k : ℕ) (ns : List Name) (n : Name) (ps : Placed) → are_free_names ns ≡ true → is_free_name n ≡ true → Sound (names_trees k) (map word ns ++ word n ∷ []) ps (read (ns ++ n ∷ []) ps)
name_sound k [] n ps ok good = cc
name_sound k (m ∷ ns) n ps ok good = sound_read (all_pushed is_free_name (m ∷ ns) n ok good) (map-append word (m ∷ ns) (n ∷ []))

pub all_names_sound : (k : ℕ) (ps : Placed) → Sound (names_trees k) [] ps (all_names ps)
unfolding some_name
all_names_sound k ps =
    sound_need name_kind _ (record { tree = some_name ∷ []; more = word some_name ∷ []; good = refl; spelled = refl }) (λ n qs good _.
    sound_repeat name_kind _ name_local (name_sound k) _ (rw good refl))

-- ---- operands

-- an operand, where this is known of what is read behind a parenthesis
operand_of_sound : (k : ℕ) (within : Placed → Outcome Expr) (ps : Placed)
    → ((qs : Placed) → Sound (operand_trees k) (open_paren ∷ []) qs (and_then (within qs) (λ e. need (passing is_close) (λ _. read (enclosed e))))) → Sound (operand_trees k) [] ps (operand_of within ps)
unfolding some_name
operand_of_sound k within ps behind_open =
    sound_choose name_kind _ _ (λ c qs free _. sound_read free refl) (sound_need open_kind _
    (record { tree = bare some_name; more = word some_name ∷ []; good = refl; spelled = refl }) (λ _ qs _ _. behind_open qs))

-- ---- expressions

pub names_long : (k : ℕ) (by : List Name) → length (map (λ _. k) by) ≡ length (map word by)
names_long k by = simp length-map

pub names_level : (k : ℕ) (ns : List Name) → map (λ _. k) (map word ns) ≡ map (λ _. k) ns
names_level k [] = refl
names_level k (n ∷ ns) = ap (λ x. k ∷ x) (names_level k ns)

mutual
  pub operand_long : (k : ℕ) (o : Operand) → length (operand_nesting k o) ≡ length (operand_tokens o)
  operand_long k (bare c) = refl
  operand_long k (enclosed e) = ap suc (omega (arith, expr_long (suc k) e, length-append (expr_nesting (suc k) e) (suc k ∷ []), length-append (expr_tokens e) (close_paren ∷ [])))

  pub expr_long : (k : ℕ) (e : Expr) → length (expr_nesting k e) ≡ length (expr_tokens e)
  expr_long k (named c) = refl
  expr_long k (select o p) =
      omega (arith, operand_long k o, pred_long k p, length-append (operand_nesting k o) (k ∷ pred_nesting k p), length-append (operand_tokens o) (word (codes "where") ∷ pred_tokens p))
  expr_long k (drop c by v o) =
      omega (arith, operand_long k o, length-append (map (λ _. k) by) (k ∷ k ∷ k ∷ k ∷ operand_nesting k o), length-append (map word by) (comma ∷ literal v ∷ close_paren ∷ word (codes "from") ∷ operand_tokens o), names_long k by)
  expr_long k (rename c d o) = omega (arith, operand_long k o)
  expr_long k (join j o q) =
      omega (arith, operand_long k o, operand_long k q, length-append (operand_nesting k o) (k ∷ operand_nesting k q), length-append (operand_tokens o) (word (codes "with") ∷ operand_tokens q))

-- up to the names, and up to the operand
abbrev drop_front : Name → List Name → List Token
drop_front c by = word (codes "drop") ∷ word c ∷ word (codes "determined") ∷ word (codes "by") ∷ open_paren ∷ map word by

module _ (n k : ℕ) (flat : k + n ≡ max_nesting) (operand : Placed → Outcome Operand) (sound : (ps : Placed) → Sound (operand_trees k) [] ps (operand ps)) where
  select_sound : (ps : Placed) → Sound (expr_trees k) (word (codes "select") ∷ []) ps (select_of n operand ps)
  unfolding some_operand some_name some_pred
  select_sound ps =
      sound_need (keyword_kind (codes "from")) _ (begun (select some_operand some_pred) _ refl refl) (λ _ qs _ _.
      sound_then
      (within (λ o. select o some_pred) (word (codes "where") ∷ pred_tokens some_pred) (k ∷ k ∷ []) (k ∷ pred_nesting k some_pred) refl (λ o h. conj h refl) (λ o. refl) (λ o. refl)) _ (sound qs) (λ o rest good _.
      sound_need (keyword_kind (codes "where")) _ (begun (select o some_pred) _ (conj good refl) refl) (λ _ more _ _.
      let front : List Token = word (codes "select") ∷ word (codes "from") ∷ operand_tokens o in
      let levels : List ℕ = k ∷ k ∷ operand_nesting k o in
      sound_last (select o) (levels ++ k ∷ []) (one_longer levels front k (word (codes "where")) (ap (λ l. suc (suc l)) (operand_long k o))) (λ p h. conj good h)
      (λ p. sym (append_assoc front (word (codes "where") ∷ []) (pred_tokens p))) (λ p. sym (append_assoc levels (k ∷ []) (pred_nesting k p)))
      (pred_of_sound k (part n) (part_local n) (λ rs. part_sound n k rs flat) more))))

  rename_sound : (ps : Placed) → Sound (expr_trees k) (word (codes "rename") ∷ []) ps (rename_of operand ps)
  unfolding some_operand some_name
  rename_sound ps =
      sound_need name_kind _ (begun (rename some_name some_name some_operand) _ refl refl) (λ c qs free _.
      sound_need (keyword_kind (codes "to")) _ (begun (rename c some_name some_operand) _ (conj (conj free refl) refl) refl) (λ _ rs _ _.
      sound_need name_kind _ (begun (rename c some_name some_operand) _ (conj (conj free refl) refl) refl) (λ d ss other _.
      sound_need (keyword_kind (codes "from")) _ (begun (rename c d some_operand) _ (conj (conj free other) refl) refl) (λ _ more _ _.
      sound_last (rename c d) (k ∷ k ∷ k ∷ k ∷ k ∷ []) refl (λ o h. conj (conj free other) h) (λ o. refl) (λ o. refl) (sound more)))))

  join_sound : (j : JoinKind) (ps : Placed) → Sound (expr_trees k) (word (join_word j) ∷ []) ps (join_of operand j ps)
  unfolding some_operand some_name
  join_sound j ps =
      sound_then
      (within (λ o. join j o some_operand) (word (codes "with") ∷ operand_tokens some_operand) (k ∷ []) (k ∷ operand_nesting k some_operand) refl (λ o h. conj h refl) (λ o. refl) (λ o. refl)) _ (sound ps) (λ o rest good _.
      sound_need (keyword_kind (codes "with")) _ (begun (join j o some_operand) _ (conj good refl) refl) (λ _ more _ _.
      let front : List Token = word (join_word j) ∷ operand_tokens o in
      sound_last (join j o) (k ∷ (operand_nesting k o ++ k ∷ [])) (one_longer (k ∷ operand_nesting k o) front k (word (codes "with")) (ap suc (operand_long k o))) (λ q h. conj good h)
      (λ q. sym (append_assoc front (word (codes "with") ∷ []) (operand_tokens q))) (λ q. sym (append_assoc (k ∷ operand_nesting k o) (k ∷ []) (operand_nesting k q))) (sound more)))

  drop_from_sound : (c : Name) (by : List Name) (ps : Placed) → is_free_name c ≡ true → are_free_names by ≡ true → Sound (expr_trees k) (drop_front c by) ps (drop_from operand c by ps)
  unfolding some_operand some_name
  drop_from_sound c by ps free names =
      let some : is_expr (drop c by Null some_operand) ≡ true = conj (conj free names) refl in
      sound_need comma_kind _ (begun (drop c by Null some_operand) _ some refl) (λ _ qs _ _.
      sound_need fill_kind _
      (begun (drop c by Null some_operand) (literal Null ∷ close_paren ∷ word (codes "from") ∷ operand_tokens some_operand) some (simp append_assoc)) (λ v rs _ _.
      sound_need close_kind _
      (begun (drop c by v some_operand) (close_paren ∷ word (codes "from") ∷ operand_tokens some_operand) (conj (conj free names) refl) (simp append_assoc)) (λ _ ss _ _.
      sound_need (keyword_kind (codes "from")) _
      (begun (drop c by v some_operand) (word (codes "from") ∷ operand_tokens some_operand) (conj (conj free names) refl) (simp append_assoc)) (λ _ more _ _.
      let behind : List Token = comma ∷ literal v ∷ close_paren ∷ word (codes "from") ∷ [] in
      let whole : drop_front c by ++ behind ≡ (((drop_front c by ++ comma ∷ []) ++ literal v ∷ []) ++ close_paren ∷ []) ++ word (codes "from") ∷ [] = simp append_assoc in
      let fours : List ℕ = k ∷ k ∷ k ∷ k ∷ [] in
      let levels : List ℕ = k ∷ k ∷ k ∷ k ∷ k ∷ map (λ _. k) by in
      subst (λ x. Sound (expr_trees k) x more (and_then (operand more) (λ o. read (drop c by v o)))) whole
      (sound_last (drop c by v) (levels ++ fours) (omega (arith, names_long k by, length-append levels fours, length-append (drop_front c by) behind)) (λ o h. conj (conj free names) h)
      (λ o. sym (append_assoc (drop_front c by) behind (operand_tokens o))) (λ o. sym (append_assoc levels fours (operand_nesting k o))) (sound more))))))

  drop_sound : (ps : Placed) → Sound (expr_trees k) (word (codes "drop") ∷ []) ps (drop_of operand ps)
  unfolding some_operand some_name
  drop_sound ps =
      let some : (c : Name) → is_free_name c ≡ true → is_expr (drop c (some_name ∷ []) Null some_operand) ≡ true = λ c free. conj (conj free refl) refl in
      sound_need name_kind _ (begun (drop some_name (some_name ∷ []) Null some_operand) _ refl refl) (λ c qs free _.
      sound_need (keyword_kind (codes "determined")) _ (begun (drop c (some_name ∷ []) Null some_operand) _ (some c free) refl) (λ _ rs _ _.
      sound_need (keyword_kind (codes "by")) _ (begun (drop c (some_name ∷ []) Null some_operand) _ (some c free) refl) (λ _ ss _ _.
      sound_need open_kind _ (begun (drop c (some_name ∷ []) Null some_operand) _ (some c free) refl) (λ _ more _ _.
      sound_then
      (within (λ by. drop c by Null some_operand) (comma ∷ literal Null ∷ close_paren ∷ word (codes "from") ∷ operand_tokens some_operand) (k ∷ k ∷ k ∷ k ∷ k ∷ []) (k ∷ k ∷ k ∷ k ∷ operand_nesting k some_operand) refl
      (λ by h. conj (conj free h) refl) (λ by. refl) (λ by. refl)) _ (all_names_sound k more) (λ by last names _. drop_from_sound c by last free names)))))

  pub expr_of_sound : (ps : Placed) → Sound (expr_trees k) [] ps (expr_of n operand ps)
  unfolding some_name
  expr_of_sound ps =
      sound_choose name_kind _ _ (λ c qs free _. sound_read free refl) (sound_choose (keyword_kind (codes "select")) _ _ (λ _ qs _ _. select_sound qs)
      (sound_choose (keyword_kind (codes "drop")) _ _ (λ _ qs _ _. drop_sound qs) (sound_choose (keyword_kind (codes "rename")) _ _ (λ _ qs _ _. rename_sound qs)
      (sound_need join_kind _ (begun (named some_name) _ refl refl) (λ j qs _ _. join_sound j qs)))))

-- what an operand reads is spelled so, where so many stand open and so many more may be opened
pub operand_sound : (n k : ℕ) (ps : Placed) → k + n ≡ max_nesting → Sound (operand_trees k) [] ps (operand n ps)
unfolding some_name
operand_sound zero k ps e = operand_of_sound k (λ _. too_deep) ps (λ qs. sound_deep (record { begun = begun (enclosed (named some_name)) _ refl refl; deep = rw (over k e) refl }))
operand_sound (suc n) k ps e =
    let deeper : suc k + n ≡ max_nesting = omega (arith, e) in
    operand_of_sound k (expr_of n (operand n)) ps (λ qs.
    sound_then (within enclosed (close_paren ∷ []) (suc k ∷ []) (suc k ∷ []) refl (λ x h. h) (λ x. refl) (λ x. refl)) _ (expr_of_sound n (suc k) deeper (operand n) (λ rs. operand_sound n (suc k) rs deeper) qs) (λ x rest good _.
    sound_need close_kind _ (begun (enclosed x) _ good refl) (λ _ last _ _. sound_read good refl)))
