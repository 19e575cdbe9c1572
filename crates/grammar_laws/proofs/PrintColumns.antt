-- No column of a map stands twice among its entries.
use Rattle.std.proofs.Common.{◌≡◌, true, false, List, [], ◌∷◌, ◌++◌, refl, sym, ap, ◌∙◌, ◌||◌, nat_eq, not}
use Rattle.std.specs.FinMap as map_of
use Rattle.plain_values.proofs.Common.{tied_itself, nat_list_cmp_total, pointwise, list_all, AllByRecursion, IsStrictlySortedBy, Less, Equal, and_parts, and_from, bytes_cmp, keys_of, keys_rise}
use Rattle.plain_values.specs.declared.value.Kind.{Kind}
use Rattle.lens_specs.specs.Common.{Name, Columns}
use Rattle.grammar_specs.specs.Common.{is_free_name, is_column_of, are_columns}
use Rattle.grammar_laws.proofs.Words.{same_word}

-- columns as they are written
abbrev pub Cols : Type 0
Cols = List (Name × Kind)

-- each of the columns is before all of the names
abbrev Precede : Cols → List Name → Type 0
Precede [] names = Unit {0}
Precede (c ∷ columns) names = AllByRecursion (λ y. bytes_cmp c.0 y ≡ Less) names × Precede columns names

-- what is before a name is another
before_differs : (x y : Name) → bytes_cmp x y ≡ Less → pointwise nat_eq x y ≡ false
before_differs x y less =
    elim (pointwise nat_eq x y) as (λ v. pointwise nat_eq x y ≡ v → v ≡ false) [
      | true ↦ λ same. let clash : Equal ≡ Less = sym (tied_itself nat_list_cmp_total x) ∙ ap (bytes_cmp x) (same_word x y same) ∙ less in cc
      | false ↦ λ _. refl
    ] refl

none_of : (before : Cols) (n : Name) (names : List Name) → Precede before (n ∷ names) → is_column_of before n ≡ false
none_of [] n names h = refl
none_of (c ∷ before) n names h = ap (λ v. v || is_column_of before n) (before_differs c.0 n h.0.0) ∙ none_of before n names h.1

-- one column more
precede_more : (before : Cols) (c : Name × Kind) (names : List Name) → Precede before (c.0 ∷ names) → AllByRecursion (λ y. bytes_cmp c.0 y ≡ Less) names → Precede (before ++ c ∷ []) names
precede_more [] c names h above = (above, tt)
precede_more (b ∷ before) c names h above = (h.0.1, precede_more before c names h.1 above)

-- columns in rising order are distinct
rising_columns : (before columns : Cols) → Precede before (keys_of columns) → IsStrictlySortedBy bytes_cmp (keys_of columns) → list_all is_free_name (keys_of columns) ≡ true → are_columns before columns ≡ true
unfolding IsStrictlySortedBy
rising_columns before [] first rise free = refl
rising_columns before (c ∷ columns) first rise free =
    let both = and_parts _ _ free in
    and_from _ _ (and_from _ _ both.0 (ap not (none_of before c.0 (keys_of columns) first)))
    (rising_columns (before ++ c ∷ []) columns (precede_more before c (keys_of columns) first rise.0) rise.1 both.1)

-- so are those of a map
pub columns_distinct : (U : Columns) → list_all is_free_name (keys_of (map_of.entries U)) ≡ true → are_columns [] (map_of.entries U) ≡ true
columns_distinct U free = rising_columns [] (map_of.entries U) tt (keys_rise bytes_cmp U) free
