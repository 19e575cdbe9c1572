-- The laws of look-ups down a lens, and of the sets of columns by which its nodes are asked.
use Rattle.std.specs.Prelude.{map as list_map, flat_map, filter, ◌≡◌, Bool, true, ◌&&◌, List}
use Rattle.std.specs.List.{Contains, list_any}
use Rattle.std.specs.Ordering.{eq_by_cmp}
use Rattle.std.specs.FinMap as map
use Rattle.plain_values.specs.Part.{override}
use Rattle.plain_values.specs.SortedSet as set
use Rattle.plain_values.specs.Row.{row_cmp, Row}
use Rattle.plain_values.specs.declared.join_kind.JoinKind.{JoinKind}
use Rattle.lens_specs.specs.Common.{Name, Names, Within, agree, cut, Columns, Fits, names, both_columns, Rows, has, those, project, select_get, rename_get, join_get, Lens, view_names, renamed_names, renamed_row, renamed_columns}
use Rattle.lens_specs.specs.Lens.{join}
use Rattle.lens_laws.specs.Shapes.{Shape, IsIn}
use Rattle.lens_laws.specs.KeyedDeltas.{find_by}
use Rattle.lens_laws.specs.Lenses.{IsTyped}
use Rattle.lens_laws.specs.Rename.{CanRename}
use Rattle.lens_laws.specs.Asked.{IsFilled, keys_at, AreKeys, HasKeys, HandsDown, Reaches}
use Rattle.lens_laws.specs.Finds.{AllFit, IsOver}

-- ---- look-ups by key, down a lens

-- under a select
abbrev pub FindInSelect : Type 0
FindInSelect = (P : Row → Bool) (C : Names) (k : Row) (M : Rows) → find_by C k (select_get P M) ≡ those P (find_by C k M)

-- under a drop
abbrev pub FindInProjection : Type 0
FindInProjection = (C D : Names) (k : Row) (M : Rows) → Within C D → find_by C k (project D M) ≡ project D (find_by C k M)

-- under a rename, by the old names
abbrev pub FindInRename : Type 0
FindInRename = (s : Shape) (A B : Name) → CanRename s A B → (M : Rows) → IsIn M s → (C : Names) → Within C (renamed_names A B (names s.columns)) → (k : Row)
    → find_by C k (rename_get A B M) ≡ rename_get A B (find_by (renamed_names B A C) (renamed_row B A k) M)

-- and a row is there where it is under the old name, which fits
abbrev pub HasInRename : Type 0
HasInRename = (s : Shape) (A B : Name) → CanRename s A B → (M : Rows) → IsIn M s → (q : Row) → Fits (renamed_columns A B s.columns) q
    → (has (rename_get A B M) q ≡ has M (renamed_row B A q)) × Fits s.columns (renamed_row B A q)

-- under a join, from the left, as the list that a loop makes: the rows found on the left by the key's part there, each put together with every one that the right side has under the shared columns, where they agree with the key
abbrev pub FindFromLeft : Type 0
FindFromLeft = (U V : Columns) (M N : Rows) → AllFit U M → AllFit V N → (C : Names) (k : Row)
    → let S = set.intersection (names U) (names V) in let P = set.intersection C (names U) in
    set.from_list (flat_map (λ m. filter (agree C k) (list_map (λ n. override n m) (set.items (find_by S (cut S m) N)))) (set.items (find_by P (cut P k) M))) ≡ find_by C k (join_get (names U) (names V) M N)

-- and from the right
abbrev pub FindFromRight : Type 0
FindFromRight = (U V : Columns) (M N : Rows) → AllFit U M → AllFit V N → (C : Names) (k : Row)
    → let S = set.intersection (names U) (names V) in let P = set.intersection C (names V) in
    set.from_list (flat_map (λ n. filter (agree C k) (list_map (λ m. override n m) (set.items (find_by S (cut S n) M)))) (set.items (find_by P (cut P k) N))) ≡ find_by C k (join_get (names U) (names V) M N)

-- ---- keys

-- the key's values in the columns alone decide what is found
abbrev pub FindIsByTheKey : Type 0
FindIsByTheKey = (C : Names) (k q : Row) (M : Rows) → agree C k q ≡ true → find_by C k M ≡ find_by C q M

-- so a key may be cut down to the columns, and a key over more columns, or a row that fits, is one over fewer
abbrev pub KeysAreCut : Type 0
KeysAreCut = ((C : Names) (k : Row) (M : Rows) → find_by C (cut C k) M ≡ find_by C k M)
    × ((D C : Names) (k : Row) → IsOver D k → Within C D → IsOver C (cut C k))
    × ((U : Columns) (C : Names) (r : Row) → Fits U r → Within C (names U) → IsOver C (cut C r))

-- ---- whether a view has a row

-- a projection has a row where the source finds one by X whose part it is
abbrev pub HasInProjection : Type 0
HasInProjection = (D X : Names) (M : Rows) (r : Row) → Within X D → list_any (λ m. eq_by_cmp row_cmp r (cut D m)) (set.items (find_by X (cut X r) M)) ≡ has (project D M) r

-- a join has a row that fits where each side has its part
abbrev pub HasInJoin : Type 0
HasInJoin = (U V : Columns) (M N : Rows) → AllFit U M → AllFit V N → (r : Row) → Fits (both_columns U V) r
    → (has M (cut (names U) r) && has N (cut (names V) r)) ≡ has (join_get (names U) (names V) M N) r

-- a row that fits a join has parts that fit its sides
abbrev pub PartsFit : Type 0
PartsFit = (U V : Columns) → ((c : Name) → set.contains (names U) c ≡ true → set.contains (names V) c ≡ true → map.get U c ≡ map.get V c) → (r : Row) → Fits (both_columns U V) r
    → Fits U (cut (names U) r) × Fits V (cut (names V) r)

-- ---- the sets that are handed down

-- sets with a column, and with columns of the view alone, go down as such sets of the children
abbrev pub KeysGoDown : Type 0
KeysGoDown = (L : Lens) (K : List Names) → IsTyped L → HasKeys L → AreKeys (view_names L) K → AreKeys (view_names L) (keys_at L K) × HandsDown L K

-- a look-up by a set by which a view may be asked asks its children by sets by which they may be asked
abbrev pub KeysReach : Type 0
KeysReach = (L : Lens) (K : List Names) → IsTyped L → HasKeys L → AreKeys (view_names L) K → (C : Names) → Contains (keys_at L K) C → Reaches L K C

-- the sides of a join share a column
abbrev pub SidesShare : Type 0
SidesShare = (k : JoinKind) (A B : Lens) → IsTyped (join k A B) → HasKeys (join k A B) → IsFilled (set.intersection (view_names A) (view_names B))
