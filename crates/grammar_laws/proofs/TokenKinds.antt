-- The tests of tokens, each with the token for every answer.
use Rattle.std.proofs.Common.{◌≡◌, Bool, true, false, List, ℕ, refl, ap, subst, not, Some, cond, [], ◌∷◌, sym, ◌∙◌, codes, Option, None}
use Rattle.plain_values.proofs.Common.{same_Some, is_null, is_nullable}
use Rattle.plain_values.specs.declared.value.Kind as kinds
use Rattle.plain_values.specs.declared.value.Kind.TheVariants as kind
use Rattle.plain_values.specs.declared.value.Value.{Value}
use Rattle.plain_values.specs.declared.value.Value.TheVariants.{Null, Int, Text, Flag}
use Rattle.lens_specs.specs.Common.{Name, Op, eq}
use Rattle.grammar_specs.specs.Common.{Token, word, integer, open_paren, close_paren, comma, arrow, operator, is_free_name, literal, join_word, kind_word, text}
use Rattle.plain_values.specs.declared.join_kind.JoinKind.{JoinKind}
use Rattle.plain_values.specs.declared.join_kind.JoinKind.TheVariants.{DeleteLeft, DeleteRight, DeleteBoth}
use Rattle.grammar_laws.specs.Tests.{is_word, is_keyword, free_in, op_in, flag_in, literal_in, fill_in, join_kind_in, kind_in, is_open, is_close, is_comma, is_arrow, is_equals}
use Rattle.grammar_laws.specs.Steps.{passing}
use Rattle.grammar_laws.proofs.Options.{cond_some, cond_then}
use Rattle.grammar_laws.proofs.Words.{same_word, word_itself}
use Rattle.grammar_laws.proofs.Sound.{Kind}

-- ---- one token passes

abbrev pub passing_kind : (p : Token → Bool) (t : Token) → ((s : Token) → p s ≡ true → s ≡ t) → p t ≡ true → Kind (Unit {0}) (passing p)
passing_kind p t is self = record { spell = λ _. t; good = λ _. true; is = λ s a e. (is s (cond_some (p s) (Some tt) a e).0, refl); found = λ a _. rw self refl }

pub keyword_is : (k : List ℕ) (t : Token) → is_keyword k t ≡ true → t ≡ word k
keyword_is k (word w) e = ap word (same_word w k e)
keyword_is k other e = cc

abbrev pub keyword_kind : (k : List ℕ) → Kind (Unit {0}) (passing (is_keyword k))
keyword_kind k = passing_kind (is_keyword k) (word k) (keyword_is k) (word_itself k)

pub sign_is : (t : Token) → (is_open t ≡ true → t ≡ open_paren) × (is_close t ≡ true → t ≡ close_paren) × (is_comma t ≡ true → t ≡ comma) × (is_arrow t ≡ true → t ≡ arrow)
sign_is open_paren = (λ _. refl, λ e. cc, λ e. cc, λ e. cc)
sign_is close_paren = (λ e. cc, λ _. refl, λ e. cc, λ e. cc)
sign_is comma = (λ e. cc, λ e. cc, λ _. refl, λ e. cc)
sign_is arrow = (λ e. cc, λ e. cc, λ e. cc, λ _. refl)
sign_is other = (λ e. cc, λ e. cc, λ e. cc, λ e. cc)

abbrev pub open_kind : Kind (Unit {0}) (passing is_open)
open_kind = passing_kind is_open open_paren (λ t. (sign_is t).0) refl

abbrev pub close_kind : Kind (Unit {0}) (passing is_close)
close_kind = passing_kind is_close close_paren (λ t. (sign_is t).1) refl

abbrev pub comma_kind : Kind (Unit {0}) (passing is_comma)
comma_kind = passing_kind is_comma comma (λ t. (sign_is t).2) refl

abbrev pub arrow_kind : Kind (Unit {0}) (passing is_arrow)
arrow_kind = passing_kind is_arrow arrow (λ t. (sign_is t).3) refl

pub equals_is : (t : Token) → is_equals t ≡ true → t ≡ operator eq
equals_is (operator eq) e = refl
equals_is (operator other) e = cc
equals_is other e = cc

abbrev pub equals_kind : Kind (Unit {0}) (passing is_equals)
equals_kind = passing_kind is_equals (operator eq) equals_is refl

-- ---- names and operators

pub name_is : (t : Token) (n : Name) → free_in t ≡ Some n → (t ≡ word n) × (is_free_name n ≡ true)
name_is (word w) n e =
    let found = cond_some (is_free_name w) (Some w) n e in
    let same = same_Some w n found.1 in
    (ap word same, subst (λ v. is_free_name v ≡ true) same found.0)
name_is other n e = cc

abbrev pub name_kind : Kind Name free_in
name_kind = record { spell = word; good = is_free_name; is = name_is; found = λ n free. rw free refl }

pub op_is : (t : Token) (op : Op) → op_in t ≡ Some op → t ≡ operator op
op_is (operator o) op e = ap operator (same_Some o op e)
op_is other op e = cc

abbrev pub op_kind : Kind Op op_in
op_kind = record { spell = operator; good = λ _. true; is = λ t op e. (op_is t op e, refl); found = λ op _. refl }

-- ---- words in a table

-- what the table has for the word
abbrev sought : {A : Type 0} → List (List ℕ × A) → List ℕ → Option A
sought [] w = None
sought (r ∷ table) w = cond (is_word w r.0) (Some r.1) (sought table w)

abbrev Each : {A : Type 0} → (List ℕ → A → Type 0) → List (List ℕ × A) → Type 0
Each P [] = Unit {0}
Each P (r ∷ table) = P r.0 r.1 × Each P table

-- what is found is so if each entry is
found_so : {A : Type 0} (P : List ℕ → A → Type 0) (table : List (List ℕ × A)) (w : List ℕ) (a : A) → Each P table → sought table w ≡ Some a → P w a
found_so P [] w a each e = cc
found_so P (r ∷ table) w a each e =
    cond_then (is_word w r.0) (Some r.1) (sought table w) a e (λ is h. subst (P w) (same_Some r.1 a h) (subst (λ v. P v r.1) (sym (same_word w r.0 is)) each.0)) (λ _ h. found_so P table w a each.1 h)

pub flag_is : (t : Token) (b : Bool) → flag_in t ≡ Some b → t ≡ literal (Flag b)
flag_is (word w) b e = found_so (λ w b. word w ≡ literal (Flag b)) ((codes "true", true) ∷ (codes "false", false) ∷ []) w b (refl, (refl, tt)) e
flag_is other b e = cc

pub flag_found : (b : Bool) → flag_in (literal (Flag b)) ≡ Some b
flag_found true = refl
flag_found false = refl

abbrev pub flag_kind : Kind Bool flag_in
flag_kind = record { spell = λ b. literal (Flag b); good = λ _. true; is = λ t b e. (flag_is t b e, refl); found = λ b _. flag_found b }

-- a literal, which is not null
pub literal_is : (t : Token) (v : Value) → literal_in t ≡ Some v → (t ≡ literal v) × (not (is_null v) ≡ true)
literal_is (word w) v e = found_so (λ w v. (word w ≡ literal v) × (not (is_null v) ≡ true)) ((codes "true", Flag true) ∷ (codes "false", Flag false) ∷ []) w v ((refl, refl), ((refl, refl), tt)) e
literal_is (integer z) v e = subst (λ v. (integer z ≡ literal v) × (not (is_null v) ≡ true)) (same_Some (Int z) v e) (refl, refl)
literal_is (text b) v e = subst (λ v. (text b ≡ literal v) × (not (is_null v) ≡ true)) (same_Some (Text b) v e) (refl, refl)
literal_is other v e = cc

pub literal_found : (v : Value) → not (is_null v) ≡ true → literal_in (literal v) ≡ Some v
literal_found Null h = cc
literal_found (Flag true) h = refl
literal_found (Flag false) h = refl
literal_found other h = refl

abbrev pub literal_kind : Kind Value literal_in
literal_kind = record { spell = literal; good = λ v. not (is_null v); is = literal_is; found = literal_found }

pub fill_is : (t : Token) (v : Value) → fill_in t ≡ Some v → t ≡ literal v
fill_is t v e = cond_then (is_keyword (codes "null") t) (Some Null) (literal_in t) v e (λ is h. keyword_is (codes "null") t is ∙ ap literal (same_Some Null v h)) (λ _ h. (literal_is t v h).0)

pub fill_found : (v : Value) → fill_in (literal v) ≡ Some v
fill_found (Flag true) = refl
fill_found (Flag false) = refl
fill_found other = refl

abbrev pub fill_kind : Kind Value fill_in
fill_kind = record { spell = literal; good = λ _. true; is = λ t v e. (fill_is t v e, refl); found = λ v _. fill_found v }

pub join_is : (t : Token) (k : JoinKind) → join_kind_in t ≡ Some k → t ≡ word (join_word k)
join_is (word w) k e = found_so (λ w k. word w ≡ word (join_word k)) ((codes "join_dl", DeleteLeft) ∷ (codes "join_dr", DeleteRight) ∷ (codes "join_both", DeleteBoth) ∷ []) w k (refl, (refl, (refl, tt))) e
join_is other k e = cc

pub join_found : (k : JoinKind) → join_kind_in (word (join_word k)) ≡ Some k
join_found DeleteLeft = refl
join_found other = refl

abbrev pub join_kind : Kind JoinKind join_kind_in
join_kind = record { spell = λ k. word (join_word k); good = λ _. true; is = λ t k e. (join_is t k e, refl); found = λ k _. join_found k }

-- the word of a kind gives the kind without null
pub kind_is : (t : Token) (k : kinds.Kind) → kind_in t ≡ Some k → (t ≡ word (kind_word k)) × (not (is_nullable k) ≡ true)
kind_is (word w) k e =
    let table : List (List ℕ × kinds.Kind) = (codes "int", kind.Int) ∷ (codes "text", kind.Text) ∷ (codes "bool", kind.Flag) ∷ [] in
    found_so (λ w k. (word w ≡ word (kind_word k)) × (not (is_nullable k) ≡ true)) table w k ((refl, refl), ((refl, refl), ((refl, refl), tt))) e
kind_is other k e = cc

pub kind_found : (k : kinds.Kind) → not (is_nullable k) ≡ true → kind_in (word (kind_word k)) ≡ Some k
kind_found kind.IntOrNull h = cc
kind_found kind.TextOrNull h = cc
kind_found kind.FlagOrNull h = cc
kind_found other h = refl

abbrev pub kind_kind : Kind kinds.Kind kind_in
kind_kind = record { spell = λ k. word (kind_word k); good = λ k. not (is_nullable k); is = kind_is; found = kind_found }
