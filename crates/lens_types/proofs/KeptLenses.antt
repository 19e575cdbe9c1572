-- What is kept of a lens, and what is kept of a lens made of it.
use Rattle.std.proofs.Common.{Some, ◌≡◌, ◌∙◌, ◌+◌, ◌++◌, ◌≤◌, ℕ, suc, Bool, true, false, not, ap, sym, refl, arith, rules, None, Option, option_map, Result, Ok, Err, IfOk, IsOk, nat_le}
use Rattle.std.specs.FinMap as finmap
use Rattle.plain_values.proofs.Common.{nat_tests}
use Rattle.plain_values.specs.declared.value.Value.{Value}
use Rattle.plain_values.specs.declared.join_kind.JoinKind.{JoinKind}
use Rattle.lens_specs.specs.Common.{names, fits_at, kinds_differ, least_outside, Lens, base, select, drop, rename, join_sort, nodes_of, select_sort, drop_sort, rename_sort, tables_of, Name, Names, Predicate, Refusal, or_else, when, is_column, first_mixed, unsteady, unknown_name, unlike_kinds, too_much, Sort, tree_of, sort, select_fault, drop_fault, rename_fault, join_fault, is_determined, default_holds, undetermined, join, and_then, form_fault, shared_table}
use Rattle.lens_specs.specs.Refusal as refusal
use Rattle.lens_laws.proofs.Common.{IsTyped, IsSound, sort_is_typed, neither, unrefused}
use Rattle.lens_laws.proofs.Rules.{bases_are_sound}
use Rattle.lens_types.specs.Faults.{Decides, IsRefused, with_inputs}
use Rattle.lens_types.specs.Kept.{IsKept}
use Rattle.lens_types.specs.Sorts.{natural_join, selection, projection, renaming}
use Rattle.lens_types.specs.declared.fault.Refused.{Refused}
use Rattle.lens_types.specs.declared.fault.Refused.TheVariants as refused

-- it is typed
pub kept_is_typed : (L : Lens) (s : Sort) (n : ℕ) → IsKept L s n → IsTyped L
kept_is_typed L s n k = (sort_is_typed L s k.sound k.sort).1

pub base_kept : (t : Name) (s : Sort) → IsSound s → IsKept (base t s) s 1
unfolding sort
base_kept t s h = record {
  sort = refl;
  sound = h;
  size = refl;
  few = omega arith;
}

-- what is told of a lens is what is kept of it
pub kept_from : (L : Lens) (s : Sort) (n : ℕ) → sort L ≡ Ok s → IsTyped L → n ≡ nodes_of L → n ≤ 64 → IsKept L s n
kept_from L s n e typed size few = record {
  sort = e;
  sound = bases_are_sound L typed;
  size = size;
  few = few;
}

pub ok_from : (r : Result Sort Refusal) (s : Sort) → r ≡ Ok s → IsOk r
ok_from r s e = rw e (search rules)

-- ---- what is refused, with what was given
pub given_back : {T U : Type 0} (why : Refused (Unit {0})) (x : T) (v w : Result U Refusal) → w ≡ v → IsRefused why tt v → IsRefused (with_inputs why x) x w
given_back (refused.Rule fault back) x v w e h = (e ∙ h.0, refl)
given_back refused.NoMemory x v w e h = tt

-- ---- one node more
next : (n m : ℕ) → n ≡ m → suc m ≡ n + 1
next n m e = omega arith

pub sort-select : (C : Lens) (t : Sort) (n : ℕ) (P : Predicate) → IsKept C t n → sort (select P C) ≡ selection (n + 1) t P
unfolding sort
sort-select C t n P k = ap (λ r. and_then r (λ s. selection (suc (nodes_of C)) s P)) k.sort ∙ ap (λ m. selection m t P) (next n (nodes_of C) k.size)

pub sort-drop : (C : Lens) (t : Sort) (n : ℕ) (A : Name) (X : Names) (a : Value) → IsKept C t n → sort (drop A X a C) ≡ projection (n + 1) t A X a
unfolding sort
sort-drop C t n A X a k = ap (λ r. and_then r (λ s. projection (suc (nodes_of C)) s A X a)) k.sort ∙ ap (λ m. projection m t A X a) (next n (nodes_of C) k.size)

pub sort-rename : (C : Lens) (t : Sort) (n : ℕ) (A B : Name) → IsKept C t n → sort (rename A B C) ≡ renaming (n + 1) t A B
unfolding sort
sort-rename C t n A B k = ap (λ r. and_then r (λ s. renaming (suc (nodes_of C)) s A B)) k.sort ∙ ap (λ m. renaming m t A B) (next n (nodes_of C) k.size)

-- that of two lenses joined
pub sort-join : (kind : JoinKind) (A B : Lens) (s t : Sort) (n : ℕ) → sort A ≡ Ok s → sort B ≡ Ok t → n ≡ nodes_of (join kind A B) → sort (join kind A B) ≡ natural_join n s t (shared_table (tables_of A) (tables_of B))
unfolding sort
sort-join kind A B s t n a b size =
    let twice = shared_table (tables_of A) (tables_of B) in
    ap (λ r. and_then r (λ x. and_then (sort B) (λ y. natural_join (nodes_of (join kind A B)) x y twice))) a
    ∙ ap (λ r. and_then r (λ y. natural_join (nodes_of (join kind A B)) s y twice)) b
    ∙ ap (λ m. natural_join m s t twice) (sym size)

unless : (n : ℕ) (r : Refusal) → when (not (nat_le n 64)) r ≡ None → n ≤ 64
unless n r e = by_test (nat_le n 64) refl e
  where
    by_test : (b : Bool) → nat_le n 64 ≡ b → when (not b) r ≡ None → n ≤ 64
    by_test true is e = grind (arith, nat_tests)
    by_test false is e = cc

few : (n : ℕ) (s : Sort) → too_much n s ≡ None → n ≤ 64
few n s e = unless n _ (neither (when (not (nat_le n 64)) _) _ (neither (when (not (nat_le (finmap.len s.columns) 64)) _) _ e).1).0

few_selected : (n : ℕ) (s x : Sort) (P : Predicate) → selection n s P ≡ Ok x → n ≤ 64
few_selected n s x P e =
    let a = neither (option_map refusal.unknown_column (unknown_name s.columns P)) _ (unrefused (select_fault n s P) (select_sort s P) x e).0 in
    let b = neither (option_map refusal.predicate_kind (unlike_kinds s.columns P)) _ a.1 in
    let c = neither (option_map refusal.source_mentions_output (unsteady s.predicate s.tree)) _ b.1 in
    few n (select_sort s P) c.1

few_projected : (n : ℕ) (s x : Sort) (A : Name) (X : Names) (a : Value) → projection n s A X a ≡ Ok x → n ≤ 64
few_projected n s x A X v e =
    let a = neither (when (not (is_column s.columns A)) _) _ (unrefused (drop_fault n s A X v) (drop_sort s A) x e).0 in
    let b = neither (option_map refusal.unknown_column (least_outside X (names s.columns))) _ a.1 in
    let c = neither (when (not (fits_at (Some v) (finmap.get s.columns A))) _) _ b.1 in
    let d = neither (when (not (is_determined X A s.tree)) _) _ c.1 in
    let f = neither (option_map refusal.mixed_conjunct (first_mixed A s.predicate)) _ d.1 in
    let g = neither (when (not (default_holds A v s.predicate)) _) _ f.1 in
    few n (drop_sort s A) g.1

few_renamed : (n : ℕ) (s x : Sort) (A B : Name) → renaming n s A B ≡ Ok x → n ≤ 64
few_renamed n s x A B e =
    let a = neither (when (not (is_column s.columns A)) _) _ (unrefused (rename_fault n s A B) (rename_sort s A B) x e).0 in
    let b = neither (too_much n s) _ a.1 in
    few n s b.0

-- the sort of a selection of it is kept
pub select_kept : (C : Lens) (t s : Sort) (n : ℕ) (P : Predicate) → IsKept C t n → selection (n + 1) t P ≡ Ok s → IsKept (select P C) s (n + 1)
select_kept C t s n P k e = record {
  sort = sort-select C t n P k ∙ e;
  sound = k.sound;
  size = sym (next n (nodes_of C) k.size);
  few = few_selected (n + 1) t s P e;
}

-- and that of a projection of it
pub drop_kept : (C : Lens) (t s : Sort) (n : ℕ) (A : Name) (X : Names) (a : Value) → IsKept C t n → projection (n + 1) t A X a ≡ Ok s → IsKept (drop A X a C) s (n + 1)
drop_kept C t s n A X a k e = record {
  sort = sort-drop C t n A X a k ∙ e;
  sound = k.sound;
  size = sym (next n (nodes_of C) k.size);
  few = few_projected (n + 1) t s A X a e;
}

-- and that of a rename of it
pub rename_kept : (C : Lens) (t s : Sort) (n : ℕ) (A B : Name) → IsKept C t n → renaming (n + 1) t A B ≡ Ok s → IsKept (rename A B C) s (n + 1)
rename_kept C t s n A B k e = record {
  sort = sort-rename C t n A B k ∙ e;
  sound = k.sound;
  size = sym (next n (nodes_of C) k.size);
  few = few_renamed (n + 1) t s A B e;
}

few_joined : (n : ℕ) (s t x : Sort) (twice : Option Name) → natural_join n s t twice ≡ Ok x → n ≤ 64
few_joined n s t x twice e =
    let a = neither (option_map refusal.kind_clash (kinds_differ s.columns t.columns)) _ (unrefused (join_fault n s t twice) (join_sort s t) x e).0 in
    let b = neither (form_fault (tree_of (s.tree ++ t.tree))) _ a.1 in
    let c = neither (option_map refusal.not_determined (undetermined s t)) _ b.1 in
    let d = neither (option_map (refusal.side_mentions_output refusal.left_side) (unsteady s.predicate s.tree)) _ c.1 in
    let f = neither (option_map (refusal.side_mentions_output refusal.right_side) (unsteady t.predicate t.tree)) _ d.1 in
    let g = neither (option_map refusal.table_twice twice) _ f.1 in
    few n (join_sort s t) g.1

-- and that of a join of two lenses
pub join_kept : (kind : JoinKind) (A B : Lens) (s t x : Sort) (n : ℕ) → sort A ≡ Ok s → sort B ≡ Ok t → IsTyped A → IsTyped B → n ≡ nodes_of (join kind A B) → sort (join kind A B) ≡ Ok x → IsKept (join kind A B) x n
join_kept kind A B s t x n a b left right size e = record {
  sort = e;
  sound = (bases_are_sound A left, bases_are_sound B right);
  size = size;
  few = few_joined n s t x (shared_table (tables_of A) (tables_of B)) (sym (sort-join kind A B s t n a b size) ∙ e);
}

-- what holds of a sort that is decided
pub if_decided : {T : Type 0} (r : Result Sort (Refused T)) (given : T) (v : Result Sort Refusal) (P : Sort → Type 0) → ((x : Sort) → v ≡ Ok x → P x) → Decides (λ x. x) r given v → IfOk r P
if_decided (Ok x) given v P h d = h x d
if_decided (Err why) given v P h d = tt
