-- What the rules of definitions read is spelled so, and where they stop a definition begins.
use Rattle.std.proofs.Common.{◌≡◌, ℕ, ◌+◌, ◌<◌, ◌^◌, true, List, [], ◌∷◌, ◌++◌, length, refl, sym, ap, subst, ◌∙◌, append_assoc, append-nil, arith, ◌&&◌, not, codes, map, Option, Some, None, cond}
use Rattle.plain_values.proofs.Common.{list_all, map-append, length-map, same_Some, option_and_then_some, not-true, is_nullable, first_holds, second_holds}
use Rattle.plain_values.specs.declared.value.Kind as kinds
use Rattle.plain_values.specs.declared.value.Kind.TheVariants.{Int}
use Rattle.lens_specs.specs.Common.{Name}
use Rattle.grammar_specs.specs.Common.{Token, word, open_paren, close_paren, comma, arrow, is_free_name, Placed, at_each, where_nesting, nesting, max_nesting, Pred, Dep, Written, kind_word, column_tokens, columns_tokens, dep_tokens, deps_tokens, where_tokens, written_tokens, is_some_list, is_column_of, are_columns, is_dep, is_condition, is_definition}
use Rattle.grammar_specs.specs.Written.{named, table, view}
use Rattle.grammar_laws.specs.Tests.{free_in, with_null, is_comma}
use Rattle.grammar_laws.specs.Steps.{Outcome, next, read, stopped, and_then, passing}
use Rattle.grammar_laws.specs.PredRules.{pred, part}
use Rattle.grammar_laws.specs.ExprRules.{all_names, operand, expr}
use Rattle.grammar_laws.specs.DefRules.{Columns, new_name, behind_kind, column, next_column, all_columns, dep, next_dep, more_deps, all_deps, condition, behind_columns, table_rule, view_rule, definition, at_last, alone}
use Rattle.grammar_laws.proofs.Options.{cond_none}
use Rattle.grammar_laws.proofs.Local.{IsLocal, Alike, none, local_read, local_then, local_repeat}
use Rattle.grammar_laws.proofs.Sound.{Trees, Kind, begun, Sound, sound_read, sound_stopped, sound_weaker, sound_choose, sound_need, Within, sound_then, within, sound_last, sound_more, sound_repeat}
use Rattle.grammar_laws.proofs.TokenKinds.{keyword_kind, open_kind, close_kind, comma_kind, arrow_kind, equals_kind, name_kind, name_is, kind_kind}
use Rattle.grammar_laws.proofs.PredSound.{all_pushed, need_local, choose_local, conj, pred_of_local, part_local, pred_of_sound, part_sound}
use Rattle.grammar_laws.proofs.ExprSound.{names_level, some_name, word_local, all_names_local, all_names_sound, expr_of_local, operand_local, expr_of_sound, operand_sound}
use Rattle.grammar_laws.proofs.DefLists.{columns_pushed, deps_pushed, column_good, without_null, null_behind, new_column, new_column_good, columns_few}

-- ---- the rules are local

behind_kind_local : (cs : Columns) (c : Name) (k : kinds.Kind) (ps : Placed) → IsLocal (behind_kind cs c k) ps
behind_kind_local cs c k = choose_local _ _ _ (λ _. local_read) local_read

pub column_local : (cs : Columns) (b : Unit {0}) (ps : Placed) → IsLocal (next_column cs b) ps
column_local cs b = need_local _ _ (λ c. need_local _ _ (behind_kind_local cs c))

all_columns_local : (ps : Placed) → IsLocal all_columns ps
all_columns_local ps = local_then (column []) _ ps (column_local [] tt ps) (λ cs rest _. local_repeat _ _ column_local _ rest)

dep_local : (ps : Placed) → IsLocal dep ps
dep_local ps =
    local_then all_names _ ps (all_names_local ps) (λ l rest _.
    need_local _ _ (λ _ qs. local_then all_names _ qs (all_names_local qs) (λ r last _. local_read last)) rest)

pub next_dep_local : (ds : List Dep) (b : Unit {0}) (ps : Placed) → IsLocal (next_dep ds b) ps
next_dep_local ds b ps = local_then dep _ ps (dep_local ps) (λ d rest _. local_read rest)

all_deps_local : (ps : Placed) → IsLocal all_deps ps
all_deps_local =
    choose_local _ _ _ (λ _ ps.
    local_then dep _ ps (dep_local ps) (λ d rest _. local_repeat _ _ next_dep_local _ rest)) local_read

module _ (n : ℕ) where
  condition_local : (ps : Placed) → IsLocal (condition n) ps
  condition_local =
      choose_local _ _ _ (λ _ ps.
      local_then (pred n) _ ps (pred_of_local (part n) (part_local n) ps) (λ p rest _. local_read rest)) local_read

  behind_columns_local : (name : Name) (cs : Columns) (ps : Placed) → IsLocal (behind_columns n name cs) ps
  behind_columns_local name cs =
      need_local _ _ (λ _ ps. local_then all_deps _ ps (all_deps_local ps) (λ ds rest _.
      local_then (condition n) _ rest (condition_local rest) (λ p last _. local_read last)))

  table_local : (ps : Placed) → IsLocal (table_rule n) ps
  table_local =
      need_local _ _ (λ name. need_local _ _ (λ _ ps.
      local_then all_columns _ ps (all_columns_local ps) (λ cs rest _. behind_columns_local name cs rest)))

  view_local : (ps : Placed) → IsLocal (view_rule n) ps
  view_local =
      need_local _ _ (λ name. need_local _ _ (λ _ ps.
      local_then (expr n) _ ps (expr_of_local n (operand n) (operand_local n) ps) (λ e rest _. local_read rest)))

  pub definition_local : (ps : Placed) → IsLocal (definition n) ps
  definition_local = choose_local _ _ _ (λ _. table_local) (word_local _ _ view_local)

last_again : (w : Written) (qs others : Placed) → Alike [] qs → None ≡ next others → at_last w (qs ++ others) ≡ read w others
last_again w _ [] none e = refl
last_again w _ (q ∷ others) none e = cc

stopped_again : (w : Written) (p : ℕ × Token) (qs others : Placed) → Alike [] qs → Some p.1 ≡ next others → at_last w (qs ++ others) ≡ stopped others
stopped_again w p _ [] none e = cc
stopped_again w p _ (q ∷ others) none e = refl

last_local : (w : Written) (ps : Placed) → IsLocal (at_last w) ps
last_local w [] = record { front = []; split = refl; same = last_again w }
last_local w (p ∷ ps) = record { front = []; split = refl; same = stopped_again w p }

pub alone_local : (n : ℕ) (ps : Placed) → IsLocal (alone n) ps
alone_local n ps = local_then (definition n) _ ps (definition_local n ps) (λ w rest _. last_local w rest)

-- ---- what the rules read

abbrev pub columns_trees : Trees Columns
columns_trees = record { ok = λ cs. is_some_list cs && are_columns [] cs; tokens = columns_tokens; nesting = λ cs. at_each 0 (columns_tokens cs) }

abbrev pub dep_trees : Trees Dep
dep_trees = record { ok = is_dep; tokens = dep_tokens; nesting = λ d. at_each 0 (dep_tokens d) }

-- one dependency or more, and any number of them
abbrev some_deps_trees : Trees (List Dep)
some_deps_trees = record { ok = λ ds. is_some_list ds && list_all is_dep ds; tokens = deps_tokens; nesting = λ ds. at_each 0 (deps_tokens ds) }

abbrev pub deps_trees : Trees (List Dep)
deps_trees = record { ok = λ ds. list_all is_dep ds; tokens = deps_tokens; nesting = λ ds. at_each 0 (deps_tokens ds) }

abbrev pub condition_trees : Trees (Option Pred)
condition_trees = record { ok = is_condition; tokens = where_tokens; nesting = where_nesting }

abbrev pub written_trees : Trees Written
written_trees = record { ok = is_definition; tokens = written_tokens; nesting = nesting }

-- the levels of tokens where nothing is open
levels : (ts pre ys : List Token) → ts ≡ pre ++ ys → at_each 0 ts ≡ at_each 0 pre ++ at_each 0 ys
levels ts pre ys e = ap (at_each 0) e ∙ map-append (λ _. 0) pre ys

-- a tree that stands last in another, where nothing is open before it
last_within : {A B : Type 0} {inner : Trees A} {outer : Trees B} {pre : List Token} (wrap : A → B) → ((a : A) → inner.ok a ≡ true → outer.ok (wrap a) ≡ true) → ((a : A) → outer.tokens (wrap a) ≡ pre ++ inner.tokens a)
    → ((a : A) → outer.nesting (wrap a) ≡ at_each 0 pre ++ inner.nesting a) → Within inner outer pre
last_within {A} {B} {inner} {outer} {pre} wrap good spelled nested =
    within wrap [] (at_each 0 pre) [] (simp length-map) good (λ a. spelled a ∙ ap (λ x. pre ++ x) (sym (append-nil (inner.tokens a)))) (λ a. nested a ∙ ap (λ x. at_each 0 pre ++ x) (sym (append-nil (inner.nesting a))))

-- the same, where it is the last that is read
sound_end : {A B : Type 0} {inner : Trees A} {outer : Trees B} {pre : List Token} (wrap : A → B) → ((a : A) → inner.ok a ≡ true → outer.ok (wrap a) ≡ true) → ((a : A) → outer.tokens (wrap a) ≡ pre ++ inner.tokens a)
    → ((a : A) → outer.nesting (wrap a) ≡ at_each 0 pre ++ inner.nesting a) → {ps : Placed} {o : Outcome A} → Sound inner [] ps o → Sound outer pre ps (and_then o (λ a. read (wrap a)))
sound_end {A} {B} {inner} {outer} {pre} wrap good spelled nested h = sound_last wrap (at_each 0 pre) (simp length-map) good spelled nested h

-- ---- columns

new_is : (cs : Columns) (t : Token) (c : Name) → new_name cs t ≡ Some c → (t ≡ word c) × ((is_free_name c && not (is_column_of cs c)) ≡ true)
new_is cs t c e =
    option_and_then_some (λ c. cond (is_column_of cs c) None (Some c)) (free_in t) c e (λ d free other.
    let new = cond_none (is_column_of cs d) (Some d) c other in
    let one = name_is t d free in
    let same = same_Some d c new.1 in
    (one.0 ∙ ap word same, subst (λ x. (is_free_name x && not (is_column_of cs x)) ≡ true) same (conj one.1 (ap not new.0))))

abbrev new_kind : (cs : Columns) → Kind Name (new_name cs)
new_kind cs = record {
  spell = word;
  good = λ c. is_free_name c && not (is_column_of cs c);
  is = new_is cs;
  found = λ c new. rw (first_holds (is_free_name c) (not (is_column_of cs c)) new, not-true (is_column_of cs c) (second_holds (is_free_name c) (not (is_column_of cs c)) new)) refl;
}

column_sound : (cs : Columns) (pre : List Token) (ps : Placed) → are_columns [] cs ≡ true → length cs < 2 ^ 64 → ((c : Name × kinds.Kind) → columns_tokens (cs ++ c ∷ []) ≡ pre ++ column_tokens c) → Sound columns_trees pre ps (column cs ps)
column_sound cs pre ps ok few spelled =
    sound_need (new_kind cs) _
    (begun (cs ++ (new_column cs, Int) ∷ []) (column_tokens (new_column cs, Int)) (column_good cs (new_column cs) Int ok (new_column_good cs few)) (spelled (new_column cs, Int))) (λ c qs new _.
    sound_need kind_kind _
    (begun (cs ++ (c, Int) ∷ []) (word (codes "int") ∷ []) (column_good cs c Int ok new) (spelled (c, Int) ∙ sym (append_assoc pre (word c ∷ []) (word (codes "int") ∷ [])))) (λ k rs base _.
    let kept = not-true (is_nullable k) base in
    sound_choose (keyword_kind (codes "null")) _ _ (λ _ ss _ _. sound_read (column_good cs c (with_null k) ok new)
    (spelled (c, with_null k) ∙ ap (λ x. pre ++ x) (null_behind c k kept) ∙ sym (append_assoc pre (word c ∷ []) (word (kind_word k) ∷ word (codes "null") ∷ []))
    ∙ sym (append_assoc (pre ++ word c ∷ []) (word (kind_word k) ∷ []) (word (codes "null") ∷ []))))
    (sound_read (column_good cs c k ok new) (spelled (c, k) ∙ ap (λ x. pre ++ x) (without_null c k kept) ∙ sym (append_assoc pre (word c ∷ []) (word (kind_word k) ∷ []))))))

next_column_sound : (cs : Columns) (b : Unit {0}) (qs : Placed) → (is_some_list cs && are_columns [] cs) ≡ true → true ≡ true → length (columns_tokens cs) < 2 ^ 64 → Sound columns_trees (columns_tokens cs ++ comma ∷ []) qs (next_column cs b qs)
next_column_sound [] b qs ok _ few = cc
next_column_sound (c ∷ cs) b qs ok _ few = column_sound (c ∷ cs) (columns_tokens (c ∷ cs) ++ comma ∷ []) qs ok (columns_few (c ∷ cs) (2 ^ 64) few) (columns_pushed c cs)

all_columns_sound : (ps : Placed) → length ps < 2 ^ 64 → Sound columns_trees [] ps (all_columns ps)
all_columns_sound ps few =
    sound_more columns_trees (passing is_comma) comma_kind next_column column_local (2 ^ 64) next_column_sound [] ps (column [] ps) (omega (arith, few))
    (column_sound [] [] ps refl (columns_few [] (2 ^ 64) (omega (arith, few))) (λ c. append-nil (column_tokens c)))

-- ---- dependencies

dep_sound : (ps : Placed) → Sound dep_trees [] ps (dep ps)
unfolding some_name
dep_sound ps =
    let some : List Name = some_name ∷ [] in
    sound_then
    (within (λ l. (l, some)) (arrow ∷ map word some) [] (0 ∷ 0 ∷ []) refl (λ l h. conj h refl) (λ l. refl)
    (λ l. levels (dep_tokens (l, some)) (map word l) (arrow ∷ map word some) refl ∙ ap (λ x. x ++ 0 ∷ 0 ∷ []) (names_level 0 l))) _ (all_names_sound 0 ps) (λ l rest left _.
    sound_need arrow_kind _ (begun (l, some) _ (conj left refl) refl) (λ _ qs _ _.
    let pre : List Token = map word l ++ arrow ∷ [] in
    let spelled : (r : List Name) → dep_tokens (l, r) ≡ pre ++ map word r = λ r. sym (append_assoc (map word l) (arrow ∷ []) (map word r)) in
    sound_end (λ r. (l, r)) (λ r right. conj left right) spelled
    (λ r. levels (dep_tokens (l, r)) pre (map word r) (spelled r) ∙ ap (λ x. at_each 0 pre ++ x) (names_level 0 r)) (all_names_sound 0 qs)))

next_dep_sound : (ds : List Dep) (b : Unit {0}) (qs : Placed) → (is_some_list ds && list_all is_dep ds) ≡ true → true ≡ true → Sound some_deps_trees (deps_tokens ds ++ comma ∷ []) qs (next_dep ds b qs)
next_dep_sound [] b qs ok _ = cc
next_dep_sound (c ∷ ds) b qs ok _ =
    sound_end (λ d. c ∷ (ds ++ d ∷ [])) (λ d. all_pushed is_dep (c ∷ ds) d ok) (deps_pushed c ds)
    (λ d. levels (deps_tokens (c ∷ (ds ++ d ∷ []))) (deps_tokens (c ∷ ds) ++ comma ∷ []) (dep_tokens d) (deps_pushed c ds d)) (dep_sound qs)

first_dep : (d : Dep) → deps_tokens (d ∷ []) ≡ word (codes "with") ∷ dep_tokens d
first_dep d = ap (λ x. word (codes "with") ∷ x) (append-nil (dep_tokens d))

some_deps_sound : (ps : Placed) → Sound some_deps_trees (word (codes "with") ∷ []) ps (and_then (dep ps) (λ d. more_deps (d ∷ [])))
some_deps_sound ps =
    let pre : List Token = word (codes "with") ∷ [] in
    sound_then (last_within (λ d. d ∷ []) (λ d h. conj h refl) first_dep (λ d. levels (deps_tokens (d ∷ [])) pre (dep_tokens d) (first_dep d))) _ (dep_sound ps) (λ d rest good _.
    subst (λ x. Sound some_deps_trees x rest (more_deps (d ∷ []) rest)) (first_dep d)
    (sound_repeat comma_kind _ next_dep_local next_dep_sound _ (conj good refl)))

all_deps_sound : (ps : Placed) → Sound deps_trees [] ps (all_deps ps)
all_deps_sound ps =
    sound_choose (keyword_kind (codes "with")) _ _
    (λ _ qs _ _. sound_weaker some_deps_trees (λ ds. list_all is_dep ds) (λ ds h. second_holds (is_some_list ds) (list_all is_dep ds) h) (word (codes "with") ∷ []) qs (and_then (dep qs) (λ d. more_deps (d ∷ []))) (some_deps_sound qs))
    (sound_read refl refl)

-- ---- definitions

table_front : Name → Columns → List Token
table_front name cs = word (codes "table") ∷ word name ∷ open_paren ∷ (columns_tokens cs ++ close_paren ∷ [])

table_good : (name : Name) (cs : Columns) (ds : List Dep) (p : Option Pred) → is_free_name name ≡ true → (is_some_list cs && are_columns [] cs) ≡ true → list_all is_dep ds ≡ true → is_condition p ≡ true → is_definition (table name cs ds p) ≡ true
table_good name cs ds p free columns deps condition =
    conj
    (conj (conj free columns) deps) condition

front_tokens : (name : Name) (cs : Columns) (xs : List Token) → word (codes "table") ∷ word name ∷ open_paren ∷ (columns_tokens cs ++ close_paren ∷ xs) ≡ table_front name cs ++ xs
unfolding table_front
front_tokens name cs xs = ap (λ x. word (codes "table") ∷ word name ∷ open_paren ∷ x) (sym (append_assoc (columns_tokens cs) (close_paren ∷ []) xs))

front_levels : (name : Name) (cs : Columns) (xs : List ℕ) → 0 ∷ 0 ∷ 0 ∷ (at_each 0 (columns_tokens cs) ++ 0 ∷ xs) ≡ at_each 0 (table_front name cs) ++ xs
unfolding table_front
front_levels name cs xs =
    ap (λ x. 0 ∷ 0 ∷ 0 ∷ x) (sym (append_assoc (at_each 0 (columns_tokens cs)) (0 ∷ []) xs) ∙ ap (λ x. x ++ xs) (sym (map-append (λ _. 0) (columns_tokens cs) (close_paren ∷ []))))

-- behind the columns of a table
module _ (name : Name) (cs : Columns) (free : is_free_name name ≡ true) (columns : (is_some_list cs && are_columns [] cs) ≡ true) where
  deps_within : Within deps_trees written_trees (table_front name cs)
  deps_within =
      last_within (λ ds. table name cs ds None) (λ ds h. table_good name cs ds None free columns h refl)
      (λ ds. front_tokens name cs (deps_tokens ds ++ []) ∙ ap (λ x. table_front name cs ++ x) (append-nil (deps_tokens ds)))
      (λ ds. front_levels name cs (at_each 0 (deps_tokens ds) ++ []) ∙ ap (λ x. at_each 0 (table_front name cs) ++ x) (append-nil (at_each 0 (deps_tokens ds))))

  table_spelled : (ds : List Dep) (p : Option Pred) → written_tokens (table name cs ds p) ≡ (table_front name cs ++ deps_tokens ds) ++ where_tokens p
  table_spelled ds p = front_tokens name cs (deps_tokens ds ++ where_tokens p) ∙ sym (append_assoc (table_front name cs) (deps_tokens ds) (where_tokens p))

  behind_sound : (ds : List Dep) → list_all is_dep ds ≡ true → {ps : Placed} {o : Outcome (Option Pred)} → Sound condition_trees [] ps o → Sound written_trees (table_front name cs ++ deps_tokens ds) ps (and_then o (λ p. read (table name cs ds p)))
  behind_sound ds deps h =
      sound_end (λ p. table name cs ds p) (λ p h. table_good name cs ds p free columns deps h) (table_spelled ds)
      (λ p. front_levels name cs (at_each 0 (deps_tokens ds) ++ where_nesting p) ∙ sym (append_assoc (at_each 0 (table_front name cs)) (at_each 0 (deps_tokens ds)) (where_nesting p))
      ∙ ap (λ x. x ++ where_nesting p) (sym (map-append (λ _. 0) (table_front name cs) (deps_tokens ds)))) h

some_columns : Columns
some_columns = (some_name, Int) ∷ []

module _ (n : ℕ) (e : 0 + n ≡ max_nesting) where
  condition_sound : (ps : Placed) → Sound condition_trees [] ps (condition n ps)
  condition_sound ps =
      sound_choose (keyword_kind (codes "where")) _ _ (λ _ qs _ _.
      sound_end (λ p. Some p) (λ p h. h) (λ p. refl) (λ p. refl) (pred_of_sound 0 (part n) (part_local n) (λ rs. part_sound n 0 rs e) qs)) (sound_read refl refl)

  table_sound : (ps : Placed) → length ps < 2 ^ 64 → Sound written_trees (word (codes "table") ∷ []) ps (table_rule n ps)
  unfolding some_name some_columns table_front
  table_sound ps few =
      sound_need name_kind _ (begun (table some_name some_columns [] None) _ refl refl) (λ name qs free short.
      sound_need open_kind _ (begun (table name some_columns [] None) _ (table_good name some_columns [] None free refl refl refl) refl) (λ _ rs _ shorter.
      sound_then (within (λ cs. table name cs [] None) (close_paren ∷ []) (0 ∷ 0 ∷ 0 ∷ []) (0 ∷ []) refl (λ cs h. table_good name cs [] None free h refl refl) (λ cs. refl) (λ cs. refl)) _ (all_columns_sound rs (omega (arith, few, short, shorter))) (λ cs ss columns _.
      sound_need close_kind _ (begun (table name cs [] None) _ (table_good name cs [] None free columns refl refl) refl) (λ _ us _ _.
      sound_then (deps_within name cs free columns) _ (all_deps_sound us) (λ ds vs deps _. behind_sound name cs free columns ds deps (condition_sound vs))))))

  view_sound : (ps : Placed) → Sound written_trees (word (codes "view") ∷ []) ps (view_rule n ps)
  unfolding some_name
  view_sound ps =
      sound_need name_kind _ (begun (view some_name (named some_name)) _ refl refl) (λ name qs free _.
      sound_need equals_kind _ (begun (view name (named some_name)) _ (conj free refl) refl) (λ _ rs _ _.
      sound_end (λ x. view name x) (λ x h. conj free h) (λ x. refl) (λ x. refl) (expr_of_sound n 0 e (operand n) (λ ss. operand_sound n 0 ss e) rs)))

  pub definition_sound : (ps : Placed) → length ps < 2 ^ 64 → Sound written_trees [] ps (definition n ps)
  unfolding some_name
  definition_sound ps few =
      sound_choose (keyword_kind (codes "table")) _ _ (λ _ qs _ short. table_sound qs (omega (arith, few, short))) (sound_need (keyword_kind (codes "view")) _
      (begun (view some_name (named some_name)) _ refl refl) (λ _ qs _ _. view_sound qs))

  last_sound : (w : Written) (ps : Placed) → is_definition w ≡ true → Sound written_trees (written_tokens w) ps (at_last w ps)
  last_sound w [] good = sound_read good refl
  last_sound w (p ∷ ps) good = sound_stopped (begun w _ good (sym (append-nil (written_tokens w))))

  pub alone_sound : (ps : Placed) → length ps < 2 ^ 64 → Sound written_trees [] ps (alone n ps)
  alone_sound ps few = sound_then (last_within (λ w. w) (λ w h. h) (λ w. refl) (λ w. refl)) _ (definition_sound ps few) (λ w rest good _. last_sound w rest good)
