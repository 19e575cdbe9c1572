-- Members beside columns.
use Rattle.std.proofs.Common.{◌≡◌, ◌≤◌, ◌∙◌, ℕ, List, [], ◌∷◌, length, ap, sym, refl, arith, Bool, true, false, Bor, ◌||◌, Option, Some, None, option_and_then, Result, Ok, Err, IsOk}
use Rattle.std.specs.FinMap as finmap
use Rattle.plain_values.proofs.Common.{eq_by_cmp, nat_list_cmp_total, texts_ties, AllByRecursion, list_any, bytes_cmp, keys_rise}
use Rattle.borrowed_json.specs.declared.value.Value.{Value as Json}
use Rattle.serde_json.specs.Data.{Data, Members}
use Rattle.serde_json.specs.Find.{get_member}
use Rattle.plain_values.specs.Columns as named
use Rattle.plain_values.specs.SortedMap as sorted
use Rattle.plain_values.specs.SortedSet as set
use Rattle.plain_values.specs.declared.value.Kind.{Kind}
use Rattle.plain_values.specs.declared.value.Value.{Value}
use Rattle.lens_specs.specs.Relation.{Name, Columns}
use Rattle.server_specs.specs.Common.{first_other, is_key, is_column_of, pairs_in, value_at, value_in, with_pair}
use Rattle.borrowed_json.specs.Meaning.{members_data}
use Rattle.request_reading.proofs.Objects.{names_of, found_name, none_first, data_rises, data_counted}
use Rattle.request_reading.proofs.Rising.{is_in, AllIn, all_in_self, same_names}

tied_any : (k : Name) (ks : List Name) → list_any (is_key k) ks ≡ list_any (eq_by_cmp bytes_cmp k) ks
tied_any k [] = refl
tied_any k (x ∷ ks) = (λ i. texts_ties k x i || tied_any k ks i)

-- a column is a name among theirs
pub column_named : (columns : Columns) (k : Name) → list_any (is_key k) (finmap.keys columns) ≡ is_column_of columns k
column_named columns k = tied_any k (finmap.keys columns) ∙ sym (finmap.contains_key-keys columns k)

pub keys_any : (k : Name) (es : List (Name × Kind)) → list_any (λ e. is_key k e.0) es ≡ list_any (is_key k) (sorted.keys_of es)
keys_any k [] = refl
keys_any k (e ∷ es) = ap (λ b. is_key k e.0 || b) (keys_any k es)

-- ---- all columns are found

found_there : (f : Data → Option Value) (o : Option Data) (v : Value) (there : Bool) → ((d : Data) → o ≡ Some d → there ≡ true) → option_and_then f o ≡ Some v → there ≡ true
found_there f None v there h e = cc
found_there f (Some d) v there h e = h d refl

first_found : (name : Name) (o : Option Value) (r : Result (List (Name × Value)) Name) (pairs : List (Name × Value)) (there : Bool)
    → ((v : Value) → o ≡ Some v → there ≡ true) → with_pair name o r ≡ Ok pairs → there ≡ true
first_found name None r pairs there h e = cc
first_found name (Some v) r pairs there h e = h v refl

rest_found : {P : Type 0} (name : Name) (o : Option Value) (r : Result (List (Name × Value)) Name) (pairs : List (Name × Value))
    → ((ps : List (Name × Value)) → r ≡ Ok ps → P) → with_pair name o r ≡ Ok pairs → P
rest_found name None r pairs h e = absurd (cc)
rest_found name (Some v) (Ok ps) pairs h e = h ps refl
rest_found name (Some v) (Err wrong) pairs h e = absurd (cc)

columns_found : (columns : List (Name × Kind)) (ms : Members) (pairs : List (Name × Value)) → pairs_in columns ms ≡ Ok pairs → AllIn (sorted.keys_of columns) (names_of ms)
columns_found [] ms pairs e = tt
columns_found (column ∷ columns) ms pairs e = (
  first_found column.0 (value_at ms column) (pairs_in columns ms) pairs (is_in (names_of ms) column.0)
      (λ v. found_there (value_in column.1) (get_member column.0 ms) v (is_in (names_of ms) column.0) (λ d. found_name column.0 ms d)) e,
  rest_found column.0 (value_at ms column) (pairs_in columns ms) pairs (λ ps. columns_found columns ms ps) e,
)

-- ---- none is strange

keys_counted : (es : List (Name × Kind)) → length (sorted.keys_of es) ≡ length es
keys_counted [] = refl
keys_counted (e ∷ es) = omega (arith, keys_counted es)

all_columns : (columns : Columns) (ks names : List Name) → finmap.keys columns ≡ names → AllByRecursion (λ k. is_in names k ≡ true) ks → AllByRecursion (λ k. is_column_of columns k ≡ true) ks
all_columns columns [] names e h = tt
all_columns columns (k ∷ ks) names e h = (sym (column_named columns k) ∙ ap (λ ns. is_in ns k) e ∙ h.0, all_columns columns ks names e h.1)

-- beside all columns, and no more members than they are, no member is strange
pub none_strange : (columns : Columns) (ms : List (Bor (List ℕ) × Json)) (pairs : List (Name × Value))
    → length ms ≡ length (finmap.entries columns) → pairs_in (finmap.entries columns) (members_data ms) ≡ Ok pairs → first_other (is_column_of columns) (members_data ms) ≡ None
none_strange columns ms pairs count found =
    let names = names_of (members_data ms) in
    let few : length names ≤ length (finmap.keys columns) = omega (arith, data_counted ms, count, keys_counted (finmap.entries columns)) in
    let same : finmap.keys columns ≡ names =
    same_names names (finmap.keys columns) (keys_rise bytes_cmp columns) (data_rises ms) (columns_found (finmap.entries columns) (members_data ms) pairs found) few in
    none_first (is_column_of columns) (members_data ms) (all_columns columns names names same (all_in_self names))

-- what a look among the pairs says of a column
pub column_told : (columns : Columns) (pairs : List (Name × Kind)) (k s : Name) (r b : Bool) → pairs ≡ finmap.entries columns → s ≡ k → r ≡ list_any (is_key s) (sorted.keys_of pairs) → r ≡ b → is_column_of columns k ≡ b
column_told columns pairs k s r b are is told same =
    sym (column_named columns k) ∙ (λ i. list_any (is_key (sym is i)) (sorted.keys_of (sym are i))) ∙ sym told ∙ same

-- none_strange, if the columns are known to be found
pub none_beside : (columns : Columns) (ms : List (Bor (List ℕ) × Json)) → length ms ≡ length (finmap.entries columns)
    → IsOk (pairs_in (finmap.entries columns) (members_data ms)) → first_other (is_column_of columns) (members_data ms) ≡ None
none_beside columns ms count found =
    elim (pairs_in (finmap.entries columns) (members_data ms)) as (λ r. pairs_in (finmap.entries columns) (members_data ms) ≡ r → IsOk r → first_other (is_column_of columns) (members_data ms) ≡ None) [
      | Ok pairs ↦ λ e ok. none_strange columns ms pairs count e
      | Err wrong ↦ λ e ok.
          let no : false ≡ true = ok in
          cc
    ] refl found

-- the names of columns, as a list
pub columns_named : (columns : Columns) → set.items (named.names columns) ≡ finmap.keys columns
unfolding named.names
columns_named columns = set.items-from_list nat_list_cmp_total (finmap.keys columns) (keys_rise bytes_cmp columns)
