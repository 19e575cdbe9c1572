-- Trees whose names are as they must be and whose tokens can be printed.
use Rattle.std.proofs.Common.{◌≡◌, Bool, true, false, List, [], ◌∷◌, ◌++◌, map, refl, ap, ◌∙◌, arith, ◌&&◌, not, codes}
use Rattle.plain_values.proofs.Common.{list_all, and-true, and_parts, nat_tests, list_all-append, is_name, is_null}
use Rattle.plain_values.specs.declared.join_kind.JoinKind.{JoinKind}
use Rattle.plain_values.specs.declared.join_kind.JoinKind.TheVariants.{DeleteLeft}
use Rattle.grammar_specs.specs.Common.{Token, word, close_paren, is_free_name, Part, literally, compares, compares_columns, is_in, tests_null, negated, grouped, All, only, joined, Pred, alone, either, Operand, bare, enclosed, select, drop, rename, join, literal, literals, join_word, part_tokens, all_tokens, pred_tokens, operand_tokens, expr_tokens, are_constants, are_free_names, is_part, is_all, is_pred, is_operand, is_expr, is_literal}
use Rattle.grammar_specs.specs.Tokens.{is_reserved}
use Rattle.grammar_specs.specs.Written.{Expr, named}
use Rattle.grammar_laws.proofs.PrintTokens.{is_printable, are_printable, literal_printable, literals_printable, names_printable}

abbrev mutual
  pub is_good_part : Part → Bool
  is_good_part (literally b) = true
  is_good_part (compares c op v) = is_free_name c && not (is_null v) && is_literal v
  is_good_part (compares_columns c op d) = is_free_name c && is_free_name d
  is_good_part (is_in c vs) = is_free_name c && are_constants vs && list_all is_literal vs
  is_good_part (tests_null c) = is_free_name c
  is_good_part (negated p) = is_good_part p
  is_good_part (grouped o) = is_good_pred o

  pub is_good_all : All → Bool
  is_good_all (only p) = is_good_part p
  is_good_all (joined a p) = is_good_all a && is_good_part p

  pub is_good_pred : Pred → Bool
  is_good_pred (alone a) = is_good_all a
  is_good_pred (either o a) = is_good_pred o && is_good_all a

abbrev mutual
  pub is_good_operand : Operand → Bool
  is_good_operand (bare n) = is_free_name n
  is_good_operand (enclosed e) = is_good_expr e

  pub is_good_expr : Expr → Bool
  is_good_expr (named n) = is_free_name n
  is_good_expr (select o p) = is_good_pred p && is_good_operand o
  is_good_expr (drop c by v o) = is_free_name c && are_free_names by && is_literal v && is_good_operand o
  is_good_expr (rename c d o) = is_free_name c && is_free_name d && is_good_operand o
  is_good_expr (join k o q) = is_good_operand o && is_good_operand q

-- ---- a free name can be printed

named_alone : (n r : Bool) → ((n && not r) && (n && true)) ≡ (n && not r)
named_alone n r = grind (arith, nat_tests)

both_named : (n r m s : Bool) → (((n && not r) && (m && not s)) && (n && (m && true))) ≡ ((n && not r) && (m && not s))
both_named n r m s = grind (arith, nat_tests)

named_first : (n r x y : Bool) → (((n && not r) && x) && (n && y)) ≡ (((n && not r) && x) && y)
named_first n r x y = grind (arith, nat_tests)

named_twice : (n r m s x y : Bool) → ((((n && not r) && (m && not s)) && x) && (n && (m && y))) ≡ (((n && not r) && (m && not s)) && (x && y))
named_twice n r m s x y = grind (arith, nat_tests)

named_before : (n r a b v x y : Bool) → (a ≡ true → b ≡ true) → ((((n && not r) && a) && x) && (n && (b && (v && y)))) ≡ ((((n && not r) && a) && v) && (x && y))
named_before n r a b v x y h = grind (arith, nat_tests)

-- ---- the trees are those that are well named and can be printed

closes : (xs : List Token) → are_printable (xs ++ close_paren ∷ []) ≡ are_printable xs
closes xs = list_all-append is_printable xs (close_paren ∷ []) ∙ and-true (are_printable xs)

crossed : (a b c d : Bool) → ((a && b) && (c && d)) ≡ ((a && c) && (b && d))
crossed a b c d = grind (arith, nat_tests)

together : (a b : Bool) (xs : List Token) (t : Token) (ys : List Token) (x y : Bool) → is_printable t ≡ true → (a && are_printable xs) ≡ x → (b && are_printable ys) ≡ y → ((a && b) && are_printable (xs ++ t ∷ ys)) ≡ (x && y)
together a b xs t ys x y one left right =
    ap (λ c. (a && b) && c) (list_all-append is_printable xs (t ∷ ys) ∙ ap (λ c. are_printable xs && (c && are_printable ys)) one) ∙ crossed a b (are_printable xs) (are_printable ys) ∙ (λ i. left i && right i)

mutual
  pub part_good : (p : Part) → (is_part p && are_printable (part_tokens p)) ≡ is_good_part p
  part_good (literally true) = refl
  part_good (literally false) = refl
  part_good (compares c op v) =
      named_first (is_name c) (is_reserved c) (not (is_null v)) (is_printable (literal v) && true) ∙ ap (λ b. is_free_name c && not (is_null v) && b) (and-true (is_printable (literal v)) ∙ literal_printable v)
  part_good (compares_columns c op d) = both_named (is_name c) (is_reserved c) (is_name d) (is_reserved d)
  part_good (is_in c vs) =
      named_first (is_name c) (is_reserved c) (are_constants vs) (are_printable (literals vs ++ close_paren ∷ [])) ∙ ap (λ b. is_free_name c && are_constants vs && b) (closes (literals vs) ∙ literals_printable vs)
  part_good (tests_null c) = named_alone (is_name c) (is_reserved c)
  part_good (negated p) = part_good p
  part_good (grouped o) = ap (λ b. is_pred o && b) (closes (pred_tokens o)) ∙ pred_good o

  pub all_good : (a : All) → (is_all a && are_printable (all_tokens a)) ≡ is_good_all a
  all_good (only p) = part_good p
  all_good (joined a p) = together (is_all a) (is_part p) (all_tokens a) (word (codes "and")) (part_tokens p) _ _ refl (all_good a) (part_good p)

  pub pred_good : (o : Pred) → (is_pred o && are_printable (pred_tokens o)) ≡ is_good_pred o
  pred_good (alone a) = all_good a
  pred_good (either o a) = together (is_pred o) (is_all a) (pred_tokens o) (word (codes "or")) (all_tokens a) _ _ refl (pred_good o) (all_good a)

join_word_printable : (k : JoinKind) → is_printable (word (join_word k)) ≡ true
join_word_printable DeleteLeft = refl
join_word_printable other = refl

turned : (a b : Bool) → (a && b) ≡ (b && a)
turned a b = grind (arith, nat_tests)

mutual
  pub operand_good : (o : Operand) → (is_operand o && are_printable (operand_tokens o)) ≡ is_good_operand o
  operand_good (bare n) = named_alone (is_name n) (is_reserved n)
  operand_good (enclosed e) = ap (λ b. is_expr e && b) (closes (expr_tokens e)) ∙ expr_good e

  pub expr_good : (e : Expr) → (is_expr e && are_printable (expr_tokens e)) ≡ is_good_expr e
  expr_good (named n) = named_alone (is_name n) (is_reserved n)
  expr_good (select o p) = together (is_operand o) (is_pred p) (operand_tokens o) (word (codes "where")) (pred_tokens p) _ _ refl (operand_good o) (pred_good p) ∙ turned (is_good_operand o) (is_good_pred p)
  expr_good (drop c by v o) =
      ap (λ b. (is_free_name c && are_free_names by && is_operand o) && (is_name c && b)) (list_all-append is_printable (map word by) _)
      ∙ named_before (is_name c) (is_reserved c) (are_free_names by) (are_printable (map word by)) (is_printable (literal v)) (is_operand o) (are_printable (operand_tokens o)) (λ h. names_printable by (and_parts _ _ h).1)
      ∙ (λ i. is_free_name c && are_free_names by && literal_printable v i && operand_good o i)
  expr_good (rename c d o) =
      named_twice (is_name c) (is_reserved c) (is_name d) (is_reserved d) (is_operand o) (are_printable (operand_tokens o)) ∙ ap (λ b. is_free_name c && is_free_name d && b) (operand_good o)
  expr_good (join k o q) =
      ap (λ b. (is_operand o && is_operand q) && (b && are_printable (operand_tokens o ++ word (codes "with") ∷ operand_tokens q))) (join_word_printable k)
      ∙ together (is_operand o) (is_operand q) (operand_tokens o) (word (codes "with")) (operand_tokens q) _ _ refl (operand_good o) (operand_good q)
