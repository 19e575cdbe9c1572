-- Elements that are read one after another, until one is not right.
use Rattle.std.proofs.Common.{◌≡◌, ◌∙◌, ◌<◌, ◌+◌, ◌≤◌, ℕ, zero, suc, List, [], ◌∷◌, ◌++◌, take, length, get_or, ap, sym, refl, arith, Option, Some, None, Result, Ok, Err}
use Rattle.plain_values.proofs.Common.{zip, length-map, length-take-le, take_more, keys_of, Row}
use Rattle.serde_json.specs.Data.{Members}
use Rattle.borrowed_json.specs.Meaning.{value_data, items_data}
use Rattle.borrowed_json.specs.declared.value.Value.{Value as Json}
use Rattle.plain_values.specs.declared.value.Kind.{Kind}
use Rattle.plain_values.specs.declared.value.Value.{Value}
use Rattle.lens_specs.specs.Relation.{Name, Columns}
use Rattle.server_specs.specs.Common.{BadRow, value_at, with_pair, pairs_in, with_row, rows_in}
use Rattle.server_specs.specs.Sending.{row_in}

-- ---- the values of the columns

abbrev Pairs : Type 0
Pairs = Result (List (Name × Value)) Name

-- one pair more at the end
pair_more : (name : Name) (first : Option Value) (others more : Pairs) (pair : Name × Value)
    → ((ps : List (Name × Value)) → others ≡ Ok ps → more ≡ Ok (ps ++ pair ∷ [])) → (all : List (Name × Value)) → with_pair name first others ≡ Ok all → with_pair name first more ≡ Ok (all ++ pair ∷ [])
pair_more name None others more pair h all e = cc
pair_more name (Some v) (Err wrong) more pair h all e = cc
pair_more name (Some v) (Ok ps) more pair h all e =
    let same : all ≡ (name, v) ∷ ps = cc in
    ap (with_pair name (Some v)) (h ps refl) ∙ ap (λ qs. Ok (qs ++ pair ∷ [])) (sym same)

pairs_push : (ms : Members) (columns : List (Name × Kind)) (column : Name × Kind) (value : Value) → value_at ms column ≡ Some value
    → (pairs : List (Name × Value)) → pairs_in columns ms ≡ Ok pairs → pairs_in (columns ++ column ∷ []) ms ≡ Ok (pairs ++ (column.0, value) ∷ [])
pairs_push ms [] column value is pairs e =
    let same : pairs ≡ [] = cc in
    ap (λ o. with_pair column.0 o (Ok [])) is ∙ ap (λ ps. Ok (ps ++ (column.0, value) ∷ [])) (sym same)
pairs_push ms (c ∷ columns) column value is pairs e =
    pair_more c.0 (value_at ms c) (pairs_in columns ms) (pairs_in (columns ++ column ∷ []) ms) (column.0, value) (pairs_push ms columns column value is) pairs e

pub pairs_more : (ms : Members) (columns : List (Name × Kind)) (i : ℕ) (column : Name × Kind) → i < length columns → column ≡ get_or columns i column
    → (value : Value) → value_at ms column ≡ Some value → (pairs : List (Name × Value)) → pairs_in (take i columns) ms ≡ Ok pairs
    → (all : List (Name × Value)) → all ≡ pairs ++ (column.0, value) ∷ [] → pairs_in (take (i + 1) columns) ms ≡ Ok all
pairs_more ms columns i column h e value is pairs so_far all last =
    ap (λ cs. pairs_in cs ms) (take_more columns i column h ∙ ap (λ c. take i columns ++ c ∷ []) (sym e))
    ∙ pairs_push ms (take i columns) column value is pairs so_far ∙ ap Ok (sym last)

keys_push : (columns : List (Name × Kind)) (column : Name × Kind) → keys_of (columns ++ column ∷ []) ≡ keys_of columns ++ column.0 ∷ []
keys_push [] column = refl
keys_push (c ∷ columns) column = ap (λ ks. c.0 ∷ ks) (keys_push columns column)

zip_push : (names : List Name) (values : List Value) (name : Name) (value : Value) → length names ≡ length values
    → zip (names ++ name ∷ []) (values ++ value ∷ []) ≡ zip names values ++ (name, value) ∷ []
zip_push [] [] name value e = refl
zip_push [] (v ∷ values) name value e = absurd (omega arith)
zip_push (n ∷ names) [] name value e = absurd (omega arith)
zip_push (n ∷ names) (v ∷ values) name value e = ap (λ ps. (n, v) ∷ ps) (zip_push names values name value (omega (arith, e)))

keys_counted : (columns : List (Name × Kind)) (i : ℕ) → i ≤ length columns → length (keys_of (take i columns)) ≡ i
keys_counted columns i h = length-map (take i columns) (λ c. c.0) ∙ length-take-le i columns h

-- one value more at the end, in its column
pub values_more : (ms : Members) (columns : List (Name × Kind)) (i : ℕ) (column : Name × Kind) → i < length columns → column ≡ get_or columns i column
    → (value : Value) → value_at ms column ≡ Some value → (values : List Value) → i ≡ length values → pairs_in (take i columns) ms ≡ Ok (zip (keys_of (take i columns)) values)
    → (all : List Value) → all ≡ values ++ value ∷ [] → pairs_in (take (i + 1) columns) ms ≡ Ok (zip (keys_of (take (i + 1) columns)) all)
values_more ms columns i column h e value is values many so_far all last =
    let front : take (i + 1) columns ≡ take i columns ++ column ∷ [] = take_more columns i column h ∙ ap (λ c. take i columns ++ c ∷ []) (sym e) in
    pairs_more ms columns i column h e value is (zip (keys_of (take i columns)) values) so_far (zip (keys_of (take (i + 1) columns)) all)
    ((λ j. zip ((ap keys_of front ∙ keys_push (take i columns) column) j) (last j))
    ∙ zip_push (keys_of (take i columns)) values column.0 value (keys_counted columns i (omega (arith, h)) ∙ many))

-- the fault of the others, where the first is right
pair_wrong : (name : Name) (first : Option Value) (others whole : Pairs) (wrong : Name) → ((ps : List (Name × Value)) → others ≡ Ok ps → whole ≡ Err wrong)
    → (all : List (Name × Value)) → with_pair name first others ≡ Ok all → with_pair name first whole ≡ Err wrong
pair_wrong name None others whole wrong h all e = cc
pair_wrong name (Some v) (Err w) whole wrong h all e = cc
pair_wrong name (Some v) (Ok ps) whole wrong h all e = ap (with_pair name (Some v)) (h ps refl)

-- the first column that is not right is the fault
pub pairs_wrong : (ms : Members) (columns : List (Name × Kind)) (i : ℕ) (column : Name × Kind) → i < length columns → column ≡ get_or columns i column
    → value_at ms column ≡ None → (pairs : List (Name × Value)) → pairs_in (take i columns) ms ≡ Ok pairs → pairs_in columns ms ≡ Err column.0
pairs_wrong ms [] i column h e is pairs so_far = absurd (omega arith)
pairs_wrong ms (c ∷ columns) zero column h e is pairs so_far =
    ap (λ o. with_pair c.0 o (pairs_in columns ms)) (sym (ap (value_at ms) e) ∙ is) ∙ ap (λ (d : Name × Kind). Err d.0) (sym e)
pairs_wrong ms (c ∷ columns) (suc i) column h e is pairs so_far =
    pair_wrong c.0 (value_at ms c) (pairs_in (take i columns) ms) (pairs_in columns ms) column.0 (pairs_wrong ms columns i column (omega arith) e is) pairs so_far

-- ---- the rows

abbrev Sent : Type 0
Sent = Result (List Row) BadRow

row_more : (first : Result Row (List ℕ)) (others more : Sent) (row : Row)
    → ((rs : List Row) → others ≡ Ok rs → more ≡ Ok (rs ++ row ∷ [])) → (all : List Row) → with_row first others ≡ Ok all → with_row first more ≡ Ok (all ++ row ∷ [])
row_more (Err name) others more row h all e = cc
row_more (Ok r) (Err bad) more row h all e = cc
row_more (Ok r) (Ok rs) more row h all e =
    let same : all ≡ r ∷ rs = cc in
    ap (with_row (Ok r)) (h rs refl) ∙ ap (λ qs. Ok (qs ++ row ∷ [])) (sym same)

pub rows_push : (columns : Columns) (xs : List Json) (x : Json) (row : Row) → row_in columns (value_data x) ≡ Ok row
    → (rows : List Row) → rows_in columns (items_data xs) ≡ Ok rows → rows_in columns (items_data (xs ++ x ∷ [])) ≡ Ok (rows ++ row ∷ [])
rows_push columns [] x row is rows e =
    let same : rows ≡ [] = cc in
    ap (λ r. with_row r (Ok [])) is ∙ ap (λ rs. Ok (rs ++ row ∷ [])) (sym same)
rows_push columns (y ∷ xs) x row is rows e =
    row_more (row_in columns (value_data y)) (rows_in columns (items_data xs)) (rows_in columns (items_data (xs ++ x ∷ []))) row (rows_push columns xs x row is) rows e

row_bad : (first : Result Row (List ℕ)) (others whole : Sent) (name : List ℕ) → ((rs : List Row) → others ≡ Ok rs → whole ≡ Err (length rs, name))
    → (all : List Row) → with_row first others ≡ Ok all → with_row first whole ≡ Err (length all, name)
row_bad (Err wrong) others whole name h all e = cc
row_bad (Ok r) (Err b) whole name h all e = cc
row_bad (Ok r) (Ok rs) whole name h all e =
    let same : all ≡ r ∷ rs = cc in
    ap (with_row (Ok r)) (h rs refl) ∙ ap (λ (l : List Row). Err (length l, name)) (sym same)

-- the first element that is no row is the bad one, and there are as many before it as rows
pub rows_bad : (columns : Columns) (xs : List Json) (x : Json) (ys : List Json) (name : List ℕ) → row_in columns (value_data x) ≡ Err name
    → (rows : List Row) → rows_in columns (items_data xs) ≡ Ok rows → rows_in columns (items_data (xs ++ x ∷ ys)) ≡ Err (length rows, name)
rows_bad columns [] x ys name is rows so_far =
    let same : rows ≡ [] = cc in
    ap (λ r. with_row r (rows_in columns (items_data ys))) is ∙ ap (λ (l : List Row). Err (length l, name)) (sym same)
rows_bad columns (y ∷ xs) x ys name is rows so_far =
    row_bad (row_in columns (value_data y)) (rows_in columns (items_data xs)) (rows_in columns (items_data (xs ++ x ∷ ys))) name (rows_bad columns xs x ys name is) rows so_far
