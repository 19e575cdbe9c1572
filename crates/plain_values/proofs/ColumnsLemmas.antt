-- What walks along columns show.
use Rattle.std.proofs.Common.{◌≡◌, ℕ, List, [], ◌∷◌, ap, sym, subst, ◌∙◌, refl, Bool, true, false, cond, map, ◌↔◌, ◌&&◌, IsTrue, not, filter, find, is_some, Option, Some, None, option_map}
use Rattle.std.specs.List.{AllByRecursion, list_all}
use Rattle.std.specs.List.Sorted.{IsStrictlySortedBy}
use Rattle.std.specs.Ordering.{eq_by_cmp, is_eq}
use Rattle.std.specs.declared.cmp.Ordering.TheVariants.{Less}
use Rattle.std.specs.Cmp.{tied_itself}
use Rattle.std.specs.Cmp.Lexicographic.{nat_list_cmp_total}
use Rattle.std.specs.FinMap as finmap
use Rattle.plain_values.specs.Columns.{Columns, ColumnsWithin, is_kind, is_other_kind, kinds_differ, like_kinds, names}
use Rattle.plain_values.specs.Order.{bytes_cmp}
use Rattle.plain_values.specs.SortedMap.{keys_of, keys_rise}
use Rattle.plain_values.specs.SortedSet as set
use Rattle.plain_values.specs.declared.value.Kind.{Kind}
use Rattle.plain_values.proofs.Maps.{exact}
use Rattle.plain_values.proofs.Sets.{items-filter}
use Rattle.plain_values.proofs.ValueLemmas.{kind_itself, same_is}
use Rattle.plain_values.proofs.Tests.{is_tie}

-- ---- entries and what is found in them

module _ {X : Type 0} where
  -- what all entries pass, passes where something is found
  passes_found : (p : List ℕ × X → Bool) (es : List (List ℕ × X)) (q : List ℕ) (v : X) → list_all p es ≡ true → finmap.find bytes_cmp q es ≡ Some v → p (q, v) ≡ true
  passes_found p [] q v all is = cc
  passes_found p (e ∷ es) q v all is =
      elim (p e) as (λ a. p e ≡ a → (a && list_all p es) ≡ true → p (q, v) ≡ true) [
        | true ↦ λ pe rest. elim (eq_by_cmp bytes_cmp q e.0) as (λ b. eq_by_cmp bytes_cmp q e.0 ≡ b → cond b (Some e.1) (finmap.find bytes_cmp q es) ≡ Some v → p (q, v) ≡ true) [
          | true ↦ λ tie is.
              let key : q ≡ e.0 = exact q e.0 (is_tie (bytes_cmp q e.0) tie) in
              let value : e.1 ≡ v = cc in
              (λ i. p (key i, sym value i)) ∙ pe
          | false ↦ λ _ is. passes_found p es q v rest is
        ] refl is
        | false ↦ λ _ all. cc
      ] refl all

  pub nothing_above : (q : List ℕ) (es : List (List ℕ × X)) → AllByRecursion (λ k. bytes_cmp q k ≡ Less) (keys_of es) → finmap.find bytes_cmp q es ≡ None
  nothing_above q [] a = refl
  nothing_above q (e ∷ es) a = ap (λ b. cond b (Some e.1) (finmap.find bytes_cmp q es)) (ap is_eq a.0) ∙ nothing_above q es a.1

  still_found : (e : List ℕ × X) (es : List (List ℕ × X)) → AllByRecursion (λ k. bytes_cmp e.0 k ≡ Less) (keys_of es)
      → (q : List ℕ) (v : X) → finmap.find bytes_cmp q es ≡ Some v → finmap.find bytes_cmp q (e ∷ es) ≡ Some v
  still_found e es a q v is = elim (eq_by_cmp bytes_cmp q e.0) as (λ b. eq_by_cmp bytes_cmp q e.0 ≡ b → cond b (Some e.1) (finmap.find bytes_cmp q es) ≡ Some v) [
    | true ↦ λ tie.
        let key : q ≡ e.0 = exact q e.0 (is_tie (bytes_cmp q e.0) tie) in
        let none : finmap.find bytes_cmp q es ≡ None = subst (λ k. finmap.find bytes_cmp k es ≡ None) (sym key) (nothing_above e.0 es a) in
        cc
    | false ↦ λ _. is
  ] refl

  -- what holds wherever something is found, holds of each entry
  each_entry : (P : List ℕ × X → Type 0) (es : List (List ℕ × X)) → IsStrictlySortedBy bytes_cmp (keys_of es)
      → ((q : List ℕ) (v : X) → finmap.find bytes_cmp q es ≡ Some v → P (q, v)) → AllByRecursion P es
  unfolding IsStrictlySortedBy
  each_entry P [] s h = tt
  each_entry P (e ∷ es) s h = (
    h e.0 e.1 (ap (λ r. cond (is_eq r) (Some e.1) (finmap.find bytes_cmp e.0 es)) (tied_itself nat_list_cmp_total e.0)),
    each_entry P es s.1 (λ q v is. h q v (still_found e es s.0 q v is)),
  )

all_pass : {X : Type 0} (p : X → Bool) (xs : List X) → AllByRecursion (λ x. p x ≡ true) xs → list_all p xs ≡ true
all_pass p [] a = refl
all_pass p (x ∷ xs) a = λ i. a.0 i && all_pass p xs a.1 i

find_alike : {X : Type 0} (p q : X → Bool) (xs : List X) → AllByRecursion (λ x. p x ≡ q x) xs → find p xs ≡ find q xs
find_alike p q [] a = refl
find_alike p q (x ∷ xs) a = λ i. cond (a.0 i) (Some x) (find_alike p q xs a.1 i)

find-filter : {X : Type 0} (p q : X → Bool) (xs : List X) → find p (filter q xs) ≡ find (λ x. q x && p x) xs
find-filter p q [] = refl
find-filter p q (x ∷ xs) = elim (q x) as (λ b. find p (cond b (x ∷ filter q xs) (filter q xs)) ≡ cond (b && p x) (Some x) (find (λ x. q x && p x) xs)) [
  | true ↦ ap (λ o. cond (p x) (Some x) o) (find-filter p q xs)
  | false ↦ find-filter p q xs
]

mapped : {X Y : Type 0} (f : X → Y) (b : Bool) (x : X) (o : Option X) → cond b (Some (f x)) (option_map f o) ≡ option_map f (cond b (Some x) o)
mapped f true x o = refl
mapped f false x o = refl

find-map : {X Y : Type 0} (p : Y → Bool) (f : X → Y) (xs : List X) → find p (map f xs) ≡ option_map f (find (λ x. p (f x)) xs)
find-map p f [] = refl
find-map p f (x ∷ xs) = ap (λ o. cond (p (f x)) (Some (f x)) o) (find-map p f xs) ∙ mapped f (p (f x)) x (find (λ x. p (f x)) xs)

-- ---- kinds

there : (o : Option Kind) (k : Kind) → is_kind o k ≡ true → o ≡ Some k
there None k e = cc
there (Some j) k e = ap Some (same_is j k e)

here : (o : Option Kind) (k : Kind) → o ≡ Some k → is_kind o k ≡ true
here o k e = ap (λ p. is_kind p k) e ∙ kind_itself k

-- ---- columns

-- each of the columns is there, and so is whatever is found
pub within_is : (U V : Columns) → IsTrue (list_all (λ e. is_kind (finmap.get V e.0) e.1) (finmap.entries U)) ↔ ColumnsWithin U V
within_is U V = (
  λ all c k is. there (finmap.get V c) k (passes_found (λ e. is_kind (finmap.get V e.0) e.1) (finmap.entries U) c k all (sym (finmap.get-entries U c) ∙ is)),
  λ within. all_pass (λ e. is_kind (finmap.get V e.0) e.1) (finmap.entries U) (each_entry (λ e. is_kind (finmap.get V e.0) e.1 ≡ true) (finmap.entries U) (keys_rise bytes_cmp U)
      (λ c k is. here (finmap.get V c) k (within c k (finmap.get-entries U c ∙ is)))),
)

differ : (o p : Option Kind) (k : Kind) → o ≡ Some k → (is_some p && not (like_kinds o p)) ≡ is_other_kind p k
differ o None k e = refl
differ o (Some j) k e = ap (λ q. not (is_kind q j)) e

-- the first of the columns that has another kind there is the least shared one with two kinds
pub clash_is : (U V : Columns) → option_map (λ e. e.0) (find (λ e. is_other_kind (finmap.get V e.0) e.1) (finmap.entries U)) ≡ kinds_differ U V
unfolding names set.intersection
clash_is U V =
    let test : List ℕ → Bool = λ c. not (like_kinds (finmap.get U c) (finmap.get V c)) in
    let among : List ℕ → Bool = set.contains (names V) in
    let known : (c : List ℕ) → among c ≡ is_some (finmap.get V c) = λ c. set.contains-from_list nat_list_cmp_total (finmap.keys V) c ∙ sym (finmap.contains_key-keys V c) in
    let shared : set.items (set.intersection (names U) (names V)) ≡ filter among (finmap.keys U) =
    items-filter nat_list_cmp_total exact among (names U) ∙ ap (filter among) (set.items-from_list nat_list_cmp_total (finmap.keys U) (keys_rise bytes_cmp U)) in
    sym (ap (find test) shared ∙ find-filter test among (finmap.keys U) ∙ find-map (λ c. among c && test c) (λ e. e.0) (finmap.entries U)
    ∙ ap (option_map (λ e. e.0)) (find_alike _ _ (finmap.entries U) (each_entry (λ e. (among e.0 && test e.0) ≡ is_other_kind (finmap.get V e.0) e.1) (finmap.entries U) (keys_rise bytes_cmp U)
    (λ c k is. ap (λ b. b && test c) (known c) ∙ differ (finmap.get U c) (finmap.get V c) k (finmap.get-entries U c ∙ is)))))
