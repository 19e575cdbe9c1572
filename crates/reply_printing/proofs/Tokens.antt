-- The tokens of a reply, one part after another.
use Rattle.std.proofs.Common.{◌≡◌, ◌∙◌, ◌<◌, ◌+◌, ℕ, List, [], ◌∷◌, ◌++◌, take, length, get_or, map, ap, sym, subst, refl, append_assoc, append-nil}
use Rattle.plain_values.proofs.Common.{take_more, Row}
use Rattle.json.specs.Token as token
use Rattle.json.specs.Token.{Token, end_object, end_array, key}
use Rattle.json.specs.Tree.{items_tokens, members_tokens}
use Rattle.json_text.specs.Written.{Written, Adds}
use Rattle.serde_json.specs.Data.{Data, array, string}
use Rattle.serde_json.specs.Written.{items_outline, members_outline}
use Rattle.plain_values.specs.declared.value.Kind.{Kind}
use Rattle.plain_values.specs.declared.value.Value.{Value}
use Rattle.plain_values.specs.SortedSet as set
use Rattle.lens_specs.specs.Common.{Name, Rows, Edge}
use Rattle.grammar_specs.specs.Printing.{printed_formula}
use Rattle.lens_pred.specs.View.{formula_view, predicate_view}
use Rattle.lens_pred.specs.declared.formula.Formula.{Formula}
use Rattle.server_specs.specs.Common.{value_data, pairs_data, row_data, rows_data, names_data, changes_data, columns_data, conjuncts_data, edge_data, edges_data, texts_data}
use Rattle.server_specs.specs.Answer.{change_data, kind_text}
use Rattle.signed_delta.specs.Tables.{table_delta}
use Rattle.signed_delta.specs.declared.delta.TableDelta.{TableDelta}
use Rattle.reply_printing.specs.Printing.{data_tokens}

-- a writer that adds some tokens adds any tokens that are equal to them
pub adds_same : {a b : Written} {xs : List Token} (ys : List Token) → xs ≡ ys → Adds a b xs → Adds a b ys
adds_same {a = a} {b = b} ys e adds = subst (Adds a b) e adds

-- a member that is an array of these rows
abbrev pub set_tokens : List ℕ → Rows → List Token
set_tokens name rows = key name ∷ data_tokens (array (rows_data (set.items rows)))

pub set_same : {a b : Written} {name : List ℕ} {r s : Rows} → r ≡ s → Adds a b (set_tokens name r) → Adds a b (set_tokens name s)
set_same {a = a} {b = b} {name = name} e adds = subst (λ (t : Rows). Adds a b (set_tokens name t)) e adds

-- ---- an object

pub pairs_tokens : {V : Type 0} → (V → Data) → List (Name × V) → List Token
pairs_tokens f [] = []
pairs_tokens f (pair ∷ pairs) = key pair.0 ∷ (data_tokens (f pair.1) ++ pairs_tokens f pairs)

pairs_push : {V : Type 0} (f : V → Data) (pairs : List (Name × V)) (pair : Name × V)
    → pairs_tokens f (pairs ++ pair ∷ []) ≡ pairs_tokens f pairs ++ key pair.0 ∷ data_tokens (f pair.1)
unfolding pairs_tokens
pairs_push f [] pair = ap (λ ts. key pair.0 ∷ ts) (append-nil (data_tokens (f pair.1)))
pairs_push f (p ∷ pairs) pair =
    ap (λ ts. key p.0 ∷ (data_tokens (f p.1) ++ ts)) (pairs_push f pairs pair)
    ∙ ap (λ ts. key p.0 ∷ ts) (sym (append_assoc (data_tokens (f p.1)) (pairs_tokens f pairs) (key pair.0 ∷ data_tokens (f pair.1))))

pub pairs_none : {V : Type 0} (f : V → Data) → pairs_tokens f [] ≡ []
unfolding pairs_tokens
pairs_none f = refl

pub pairs_more : {V : Type 0} (f : V → Data) (pairs : List (Name × V)) (i : ℕ) (pair : Name × V) → i < length pairs → pair ≡ get_or pairs i pair
    → pairs_tokens f (take (i + 1) pairs) ≡ pairs_tokens f (take i pairs) ++ key pair.0 ∷ data_tokens (f pair.1)
pairs_more f pairs i pair h e =
    ap (pairs_tokens f) (take_more pairs i pair h ∙ ap (λ p. take i pairs ++ p ∷ []) (sym e)) ∙ pairs_push f (take i pairs) pair

pub pairs_whole : (pairs : List (Name × Value)) → members_tokens (members_outline (pairs_data pairs)) ≡ pairs_tokens value_data pairs ++ end_object ∷ []
unfolding pairs_tokens
pairs_whole [] = refl
pairs_whole (p ∷ pairs) =
    ap (λ ts. key p.0 ∷ (data_tokens (value_data p.1) ++ ts)) (pairs_whole pairs)
    ∙ ap (λ ts. key p.0 ∷ ts) (sym (append_assoc (data_tokens (value_data p.1)) (pairs_tokens value_data pairs) (end_object ∷ [])))

-- the text of a kind as JSON
abbrev pub kind_data : Kind → Data
kind_data kind = string (kind_text kind)

pub columns_whole : (columns : List (Name × Kind)) → members_tokens (members_outline (columns_data columns)) ≡ pairs_tokens kind_data columns ++ end_object ∷ []
unfolding pairs_tokens
columns_whole [] = refl
columns_whole (c ∷ columns) =
    ap (λ ts. key c.0 ∷ (data_tokens (kind_data c.1) ++ ts)) (columns_whole columns)
    ∙ ap (λ ts. key c.0 ∷ ts) (sym (append_assoc (data_tokens (kind_data c.1)) (pairs_tokens kind_data columns) (end_object ∷ [])))

-- ---- an array

pub each_tokens : {X : Type 0} → (X → Data) → List X → List Token
each_tokens f [] = []
each_tokens f (x ∷ xs) = data_tokens (f x) ++ each_tokens f xs

pub each_none : {X : Type 0} (f : X → Data) → each_tokens f [] ≡ []
unfolding each_tokens
each_none f = refl

each_push : {X : Type 0} (f : X → Data) (xs : List X) (x : X) → each_tokens f (xs ++ x ∷ []) ≡ each_tokens f xs ++ data_tokens (f x)
unfolding each_tokens
each_push f [] x = append-nil (data_tokens (f x))
each_push f (y ∷ xs) x = ap (λ ts. data_tokens (f y) ++ ts) (each_push f xs x) ∙ sym (append_assoc (data_tokens (f y)) (each_tokens f xs) (data_tokens (f x)))

pub each_more : {X : Type 0} (f : X → Data) (xs : List X) (i : ℕ) (x : X) → i < length xs → x ≡ get_or xs i x
    → each_tokens f (take (i + 1) xs) ≡ each_tokens f (take i xs) ++ data_tokens (f x)
each_more f xs i x h e = ap (each_tokens f) (take_more xs i x h ∙ ap (λ y. take i xs ++ y ∷ []) (sym e)) ∙ each_push f (take i xs) x

pub rows_whole : (rows : List Row) → items_tokens (items_outline (rows_data rows)) ≡ each_tokens row_data rows ++ end_array ∷ []
unfolding each_tokens
rows_whole [] = refl
rows_whole (row ∷ rows) =
    ap (λ ts. data_tokens (row_data row) ++ ts) (rows_whole rows) ∙ sym (append_assoc (data_tokens (row_data row)) (each_tokens row_data rows) (end_array ∷ []))

-- a difference as JSON
abbrev pub difference_data : TableDelta → Data
difference_data change = change_data (table_delta change)

pub changes_whole : (changes : List TableDelta) → items_tokens (items_outline (changes_data (map table_delta changes))) ≡ each_tokens difference_data changes ++ end_array ∷ []
unfolding each_tokens
changes_whole [] = refl
changes_whole (change ∷ changes) =
    ap (λ ts. data_tokens (difference_data change) ++ ts) (changes_whole changes)
    ∙ sym (append_assoc (data_tokens (difference_data change)) (each_tokens difference_data changes) (end_array ∷ []))

-- a name as JSON
abbrev pub name_data : Name → Data
name_data name = string name

pub names_whole : (names : List Name) → items_tokens (items_outline (names_data names)) ≡ each_tokens name_data names ++ end_array ∷ []
unfolding each_tokens
names_whole [] = refl
names_whole (name ∷ names) = ap (λ ts. data_tokens (name_data name) ++ ts) (names_whole names) ∙ sym (append_assoc (data_tokens (name_data name)) (each_tokens name_data names) (end_array ∷ []))

pub texts_whole : (texts : List (List ℕ)) → items_tokens (items_outline (texts_data texts)) ≡ each_tokens string texts ++ end_array ∷ []
unfolding each_tokens
texts_whole [] = refl
texts_whole (text ∷ texts) = ap (λ ts. data_tokens (string text) ++ ts) (texts_whole texts) ∙ sym (append_assoc (data_tokens (string text)) (each_tokens string texts) (end_array ∷ []))

pub edges_whole : (edges : List Edge) → items_tokens (items_outline (edges_data edges)) ≡ each_tokens edge_data edges ++ end_array ∷ []
unfolding each_tokens
edges_whole [] = refl
edges_whole (edge ∷ edges) = ap (λ ts. data_tokens (edge_data edge) ++ ts) (edges_whole edges) ∙ sym (append_assoc (data_tokens (edge_data edge)) (each_tokens edge_data edges) (end_array ∷ []))

-- the printed text of a conjunct as JSON
abbrev pub conjunct_data : Formula → Data
conjunct_data f = string (printed_formula (formula_view f))

pub conjuncts_whole : (fs : List Formula) → items_tokens (items_outline (conjuncts_data (predicate_view fs))) ≡ each_tokens conjunct_data fs ++ end_array ∷ []
unfolding each_tokens
conjuncts_whole [] = refl
conjuncts_whole (f ∷ fs) = ap (λ ts. data_tokens (conjunct_data f) ++ ts) (conjuncts_whole fs) ∙ sym (append_assoc (data_tokens (conjunct_data f)) (each_tokens conjunct_data fs) (end_array ∷ []))

-- ---- equal texts

pub text_same : {a b : Written} {name s t : List ℕ} → s ≡ t → Adds a b (key name ∷ token.string s ∷ []) → Adds a b (key name ∷ token.string t ∷ [])
text_same {a = a} {b = b} {name = name} e adds = subst (λ text. Adds a b (key name ∷ token.string text ∷ [])) e adds
