-- The tables of a valid state: those of the catalogue, each of its sort.
pub use Rattle.server_specs.specs.Validity.{AreStored}
pub use Rattle.server_laws.specs.Known.{IsHere}
use Rattle.std.proofs.Common.{◌≡◌, Bool, true, false, Option, Some, None, is_some, refl, sym, ap, subst, ◌∙◌, inl, inr, nat_eq}
use Rattle.plain_values.proofs.Common.{cases_Bool, or_cases, true≢false, pointwise, texts_ties, none_is}
use Rattle.std.specs.FinMap as finmap
use Rattle.plain_values.specs.SortedSet as set
use Rattle.lens_laws.proofs.Common.{put_leaves, sort_is_typed, AreOf}
use Rattle.fd_laws.proofs.Common.{name_total, name_itself, one_is}
use Rattle.lens_specs.specs.Common.{Name, Fits, Relation, Rows, Sort, IsOfSort, Tables, Lens, base, select, drop, rename, sort_of, tables_of, put, join}
use Rattle.server_specs.specs.Common.{Catalogue, catalogue, is_table_of, first_refused, State, IsRelationOf, IsStoredAs, IsStored, Valid}
use Rattle.server_laws.proofs.Kept.{AreThere}
use Rattle.server_laws.proofs.Leading.{IsAlike}
use Rattle.server_laws.proofs.Taken.{BasesAre, all_known}

-- a name is the same as itself
pub name_same : (t : Name) → pointwise nat_eq t t ≡ true
name_same t = texts_ties t t ∙ name_itself t

-- a table is stored exactly as a relation of its sort
pub as_relation : (t : Name) (s : Sort) (o : Option Relation) → IsStored t (Some (base t s)) o → IsRelationOf (base t s) o
as_relation t s o h = subst (λ b. IsStoredAs b (base t s) o) (name_same t) h

pub as_stored : (t : Name) (s : Sort) (o : Option Relation) → IsRelationOf (base t s) o → IsStored t (Some (base t s)) o
as_stored t s o h = subst (λ b. IsStoredAs b (base t s) o) (sym (name_same t)) h

is_there : (t : Name) (s : Sort) (o : Option Relation) → IsRelationOf (base t s) o → (M : Relation) × (o ≡ Some M) × IsOfSort M s
is_there t s None h = absurd h
is_there t s (Some M) h = (M, refl, h)

-- the tables of a lens whose bases are the catalogue's
pub are_of : (known : Catalogue) (db : Tables) → AreStored known db → (L : Lens) → BasesAre known L → AreOf L db
are_of known db h (base t s) b = is_there t s (finmap.get db t) (as_relation t s (finmap.get db t) (subst (λ o. IsStored t o (finmap.get db t)) b (h t)))
are_of known db h (select P C) b = are_of known db h C b
are_of known db h (drop A X a C) b = are_of known db h C b
are_of known db h (rename A B C) b = are_of known db h C b
are_of known db h (join kind A B) b = (are_of known db h A b.0, are_of known db h B b.1)

stored_of : (known : Catalogue) (db : Tables) (L : Lens) → BasesAre known L → AreOf L db → (q : Name) → set.contains (tables_of L) q ≡ true → IsStored q (finmap.get known q) (finmap.get db q)
unfolding tables_of
stored_of known db (base t s) b a q i =
    let here : IsStored t (finmap.get known t) (finmap.get db t) = subst (λ o. IsStored t o (finmap.get db t)) (sym b) (as_stored t s (finmap.get db t) (subst (IsRelationOf (base t s)) (sym a.1) a.2)) in
    subst (λ n. IsStored n (finmap.get known n) (finmap.get db n)) (sym (one_is t q i)) here
stored_of known db (select P C) b a q i = stored_of known db C b a q i
stored_of known db (drop A X v C) b a q i = stored_of known db C b a q i
stored_of known db (rename A B C) b a q i = stored_of known db C b a q i
stored_of known db (join kind A B) b a q i = elim (or_cases _ _ (sym (set.contains-union name_total (tables_of A) (tables_of B) q) ∙ i)) [
  | inl j ↦ stored_of known db A b.0 a.0 q j
  | inr j ↦ stored_of known db B b.1 a.1 q j
]

-- a put leaves the tables those of the catalogue
pub stored_put : (known : Catalogue) (db : Tables) (L : Lens) (N : Rows) → AreStored known db → BasesAre known L → AreOf L (put L N db) → AreStored known (put L N db)
stored_put known db L N h b a q = elim (cases_Bool (set.contains (tables_of L) q)) [
  | inl i ↦ stored_of known (put L N db) L b a q i
  | inr o ↦ subst (λ r. IsStored q (finmap.get known q) r) (sym (put_leaves L N db q o)) (h q)
]

-- tables of a lens that are of their sorts are there
pub are_there : (L : Lens) (db : Tables) → AreOf L db → AreThere L db
unfolding tables_of
are_there (base u s) db a t i = ap (λ n. is_some (finmap.get db n)) (one_is u t i) ∙ ap is_some a.1
are_there (select P C) db a t i = are_there C db a t i
are_there (drop A X v C) db a t i = are_there C db a t i
are_there (rename A B C) db a t i = are_there C db a t i
are_there (join kind A B) db a t i = elim (or_cases _ _ (sym (set.contains-union name_total (tables_of A) (tables_of B) t) ∙ i)) [
  | inl j ↦ are_there A db a.0 t j
  | inr j ↦ are_there B db a.1 t j
]

-- ---- tables of one catalogue

alike_as : (b : Bool) (L : Lens) (t : Name) (old new : Tables) (p q : Option Relation) → finmap.get old t ≡ p → finmap.get new t ≡ q → IsStoredAs b L p → IsStoredAs b L q → is_some p ≡ true → IsAlike old new t
alike_as false L t old new p q was is h k there = absurd (true≢false (sym there ∙ ap is_some h))
alike_as true L t old new None q was is h k there = absurd h
alike_as true L t old new (Some M) None was is h k there = absurd k
alike_as true L t old new (Some M) (Some N) was is h k there = record {
  before = M;
  later = N;
  was = was;
  is = is;
  columns = k.0 ∙ sym h.0;
  before_fits = λ r i. subst (λ U. Fits U r) (sym h.0) (h.1.columns r i);
  later_fits = λ r i. subst (λ U. Fits U r) (sym k.0) (k.1.columns r i);
}

alike_at : (t : Name) (o : Option Lens) (old new : Tables) → IsStored t o (finmap.get old t) → IsStored t o (finmap.get new t) → is_some (finmap.get old t) ≡ true → IsAlike old new t
alike_at t None old new h k there = absurd (true≢false (sym there ∙ ap is_some h))
alike_at t (Some L) old new h k there = alike_as (is_table_of t L) L t old new (finmap.get old t) (finmap.get new t) refl refl h k there

-- a table that is there in one is there in the other, with the same columns
pub stored_alike : (known : Catalogue) (old new : Tables) → AreStored known old → AreStored known new → (t : Name) → is_some (finmap.get old t) ≡ true → IsAlike old new t
stored_alike known old new h k t there = alike_at t (finmap.get known t) old new (h t) (k t) there

-- and one that is not there in one is not in the other
pub stored_absent : (known : Catalogue) (old new : Tables) → AreStored known old → AreStored known new → (t : Name) → is_some (finmap.get old t) ≡ false → finmap.get new t ≡ finmap.get old t
stored_absent known old new h k t absent = elim (cases_Bool (is_some (finmap.get new t))) [
  | inl there ↦ let a = stored_alike known new old k h t there in absurd (true≢false (sym (ap is_some a.is) ∙ absent))
  | inr gone ↦ none_is (finmap.get new t) gone ∙ sym (none_is (finmap.get old t) absent)
]

-- ---- a lens of a valid state

-- over any tables of the catalogue
pub lens_over : (s : State) → first_refused s.texts ≡ None → AreStored (catalogue s.texts) s.tables → (name : Name) (L : Lens) → finmap.get (catalogue s.texts) name ≡ Some L → IsHere s L
lens_over s taken stored name L e =
    let k = all_known s.texts taken name L e in
    record { known = k; typed = (sort_is_typed L (sort_of L) k.sound k.sorted).1; are = are_of (catalogue s.texts) s.tables stored L k.bases }

pub lens_here : (s : State) → Valid s → (name : Name) (L : Lens) → finmap.get (catalogue s.texts) name ≡ Some L → IsHere s L
lens_here s v name L e = lens_over s v.definitions v.tables name L e
