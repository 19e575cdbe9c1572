-- Columns of a projection and of a join.
use Rattle.std.proofs.Common.{◌≡◌, cond, None, sym, ap, ◌∙◌, inl, inr}
use Rattle.plain_values.proofs.Common.{cases_Bool}
use Rattle.std.specs.FinMap as map
use Rattle.plain_values.specs.SortedSet as set
use Rattle.lens_specs.specs.Common.{Name, Names, one, Columns, both_columns, kinds_differ, names, without_column, columns_in}
use Rattle.fd_laws.proofs.Common.{name_exact, name_total, one_is, get-both_left, get-both_right, get-without_other, get-without_same, no_kind, rest_out, rest_same}
use Rattle.lens_laws.proofs.Common.{one_kind}

-- ---- columns cut down

get-in : (U : Columns) (C : Names) (c : Name) → map.get (columns_in U C) c ≡ cond (set.contains C c) (map.get U c) None
get-in U C c = map.get-retain_keys U (set.contains C) c (λ x tie. ap (set.contains C) (sym (name_exact c x tie)))

own_kind : (U : Columns) (c : Name) → cond (set.contains (names U) c) (map.get U c) None ≡ map.get U c
own_kind U c = elim (cases_Bool (set.contains (names U) c)) [
  | inl i ↦ ap (λ b. cond b (map.get U c) None) i
  | inr o ↦ ap (λ b. cond b (map.get U c) None) o ∙ sym (no_kind U c o)
]

-- the left columns, from those of both
pub left_columns : (U V : Columns) → columns_in (both_columns U V) (names U) ≡ U
left_columns U V = map.same_map name_total name_exact _ _ (λ c. get-in (both_columns U V) (names U) c ∙ elim (cases_Bool (set.contains (names U) c)) [
  | inl i ↦ ap (λ b. cond b (map.get (both_columns U V) c) None) i ∙ get-both_left U V c i
  | inr o ↦ ap (λ b. cond b (map.get (both_columns U V) c) None) o ∙ sym (no_kind U c o)
])

-- the right columns
pub right_columns : (U V : Columns) → kinds_differ U V ≡ None → columns_in (both_columns U V) (names V) ≡ V
right_columns U V none = map.same_map name_total name_exact _ _ (λ c. get-in (both_columns U V) (names V) c ∙ elim (cases_Bool (set.contains (names V) c)) [
  | inl j ↦ ap (λ b. cond b (map.get (both_columns U V) c) None) j ∙ elim (cases_Bool (set.contains (names U) c)) [
    | inl i ↦ get-both_left U V c i ∙ one_kind U V none c i j
    | inr o ↦ get-both_right U V c o
  ]
  | inr p ↦ ap (λ b. cond b (map.get (both_columns U V) c) None) p ∙ sym (no_kind V c p)
])

-- the columns but one
pub other_columns : (U : Columns) (A : Name) → columns_in U (set.difference (names U) (one A)) ≡ without_column U A
other_columns U A = map.same_map name_total name_exact _ _ (λ c. get-in U (set.difference (names U) (one A)) c ∙ elim (cases_Bool (set.contains (one A) c)) [
  | inl t ↦ ap (λ b. cond b (map.get U c) None) (rest_out (names U) (one A) c t) ∙ sym (ap (λ d. map.get (without_column U A) d) (one_is A c t) ∙ get-without_same U A)
  | inr o ↦ ap (λ b. cond b (map.get U c) None) (rest_same (names U) (one A) c o) ∙ own_kind U c ∙ sym (get-without_other U A c o)
])
