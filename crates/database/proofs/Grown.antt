-- The catalogue with one definition more, and the indexes that its lenses have then.
use Rattle.std.proofs.Common.{◌≡◌, ◌∙◌, ◌++◌, ◌∷◌, ℕ, List, [], Option, None, Some, ap, inl, inr, is_some, map, refl, subst, sym, true, if◌then◌else◌}
use Rattle.plain_values.proofs.Common.{cases_Bool, Contains-append_cases, texts_ties, Contains, eq_by_cmp, bytes_cmp}
use Rattle.std.specs.FinMap as finmap
use Rattle.plain_values.specs.SortedSet as set
use Rattle.fd_laws.proofs.Common.{tied_name}
use Rattle.lens_specs.specs.Common.{Columns, renamed_names, Lens, base, drop, rename, select, sort_of, view_names, Name, Names, Relation, Sort, join}
use Rattle.lens_laws.proofs.Common.{asked, keys_at, contains_map}
use Rattle.lens_laws.specs.Asked.{side_keys}
use Rattle.lens_laws.proofs.Asked.{from_map_contains}
use Rattle.lens_probe.specs.Viewed.{AreIndexed}
use Rattle.base_index.specs.Held.{IsNew, IsThere, State, defined}
use Rattle.base_index.specs.declared.need.Need.{Need}
use Rattle.base_index.proofs.Known.{get_old, indexed, still_indexed, there_new}
use Rattle.server_specs.specs.Common.{Catalogue, catalogue, is_table_of, first_refused, IsRelationOf, IsStored}
use Rattle.server_laws.proofs.Stored.{AreStored, as_relation}
use Rattle.server_laws.proofs.Taken.{AllKnown, BasesAre, all_known, first_refused-push, get-new, get-other}
use Rattle.view_catalog.specs.Admissions.{IsAdmissible, table_in}
use Rattle.view_catalog.specs.declared.prepared.Prepared.{Prepared}
use Rattle.view_catalog.proofs.Growth.{grown_by}
use Rattle.database.proofs.LensNeeds.{need_of}
use Rattle.database.specs.Staging.{defined_by, needs_of, table_of}

-- each lens has the indexes that it needs
abbrev pub AllIndexed : Catalogue → State → Type 0
AllIndexed known st = (name : Name) (L : Lens) → finmap.get known name ≡ Some L → AreIndexed (asked L []) st

-- each table of the catalogue is there
abbrev pub HasBases : Catalogue → State → Type 0
HasBases known st = (t : Name) (s : Sort) → finmap.get known t ≡ Some (base t s) → IsThere st t

-- ---- the tables that a lens asks

-- each of them is a table of the catalogue
asked_base : (known : Catalogue) (L : Lens) (K : List Names) (t : Name) (C : Names) → BasesAre known L → Contains (asked L K) (t, C) → (s : Sort) × (finmap.get known t ≡ Some (base t s))
asked_base known (base u s) K t C b i =
    let w = from_map_contains (λ (D : Names). (u, D)) (keys_at (base u s) K) (t, C) i in
    let same : t ≡ u = ap (λ (p : Name × Names). p.0) w.2 in
    (s, subst (λ n. finmap.get known n ≡ Some (base n s)) (sym same) b)
asked_base known (select P L) K t C b i = asked_base known L (keys_at (select P L) K) t C b i
asked_base known (drop A X a L) K t C b i = asked_base known L (X ∷ keys_at (drop A X a L) K) t C b i
asked_base known (rename A B L) K t C b i = asked_base known L (map (renamed_names B A) (keys_at (rename A B L) K)) t C b i
asked_base known (join kind A B) K t C b i =
    let S = set.intersection (view_names A) (view_names B) in
    let left = side_keys S (view_names A) (keys_at (join kind A B) K) in
    let right = side_keys S (view_names B) (keys_at (join kind A B) K) in
    elim (Contains-append_cases (asked A left) (asked B right) (t, C) i) [
      | inl j ↦ asked_base known A left t C b.0 j
      | inr j ↦ asked_base known B right t C b.1 j
    ]

-- a lens whose tables are there has its indexes after a definition that needs them
pub now_indexed : (table : Option (Name × Columns)) (L : Lens) (st : State) → ((t : Name) (C : Names) → Contains (asked L []) (t, C) → IsThere (defined table (needs_of L) st) t)
    → AreIndexed (asked L []) (defined table (needs_of L) st)
now_indexed table L st there t C i =
    let j = contains_map need_of (asked L []) (t, C) i in
    indexed table (needs_of L) st j.0 (need_of (t, C)) j.1 (sym j.2) (there t C i)

-- ---- the catalogue with one lens more

-- The name is free, the lenses are known, the new one's tables are in the catalogue that has it too, the tables of the catalogue are
-- there, and the new table, if it is one, is not.
pub record MayGrow (known : Catalogue) (name : Name) (M : Lens) (st : State) : Type 0 where
  pub all : AllKnown known
  pub here : BasesAre (finmap.insert known name M) M
  pub bases : HasBases known st
  pub new : IsNew (table_of (table_in name M) M) st

-- a table that is defined is there
new_there : (name t : Name) (M : Lens) (s : Sort) (needs : List Need) (st : State) → eq_by_cmp bytes_cmp t name ≡ true → M ≡ base t s
    → IsThere (defined (table_of (table_in name M) M) needs st) t
new_there name t M s needs st is lens =
    let own : is_table_of name M ≡ true = ap (is_table_of name) lens ∙ texts_ties t name ∙ is in
    let table : table_of (table_in name M) M ≡ Some (name, (sort_of M).columns) = ap (λ b. table_of (if b then Some name else None) M) own in
    subst (IsThere (defined (table_of (table_in name M) M) needs st)) (sym (tied_name t name is))
    (subst (λ o. IsThere (defined o needs st) name) (sym table) (there_new (name, (sort_of M).columns) needs st))

module _ (known : Catalogue) (name : Name) (M : Lens) (st : State) (h : MayGrow known name M st) where
  -- the lens under the new name
  the_new : (q : Name) (L : Lens) → eq_by_cmp bytes_cmp q name ≡ true → finmap.get (finmap.insert known name M) q ≡ Some L → M ≡ L
  the_new q L is e =
      let both : Some M ≡ Some L = sym (get-new known name M) ∙ ap (finmap.get (finmap.insert known name M)) (sym (tied_name q name is)) ∙ e in
      cc

  -- each table of the catalogue is there after the definition
  pub bases_grow : (needs : List Need) → HasBases (finmap.insert known name M) (defined (table_of (table_in name M) M) needs st)
  bases_grow needs t s e = elim (cases_Bool (eq_by_cmp bytes_cmp t name)) [
    | inl is ↦ new_there name t M s needs st is (the_new t (base t s) is e)
    | inr other ↦
        let old : IsThere st t = h.bases t s (sym (get-other known name M t other) ∙ e) in
        ap is_some (get_old (table_of (table_in name M) M) needs st t h.new old) ∙ old
  ]

  -- and each lens has its indexes
  pub indexes_grow : AllIndexed known st → AllIndexed (finmap.insert known name M) (defined_by (table_in name M) M st)
  indexes_grow all q L e = elim (cases_Bool (eq_by_cmp bytes_cmp q name)) [
    | inl is ↦
        subst (λ l. AreIndexed (asked l []) (defined_by (table_in name M) M st)) (the_new q L is e)
        (now_indexed (table_of (table_in name M) M) M st (λ t C i.
        let w = asked_base (finmap.insert known name M) M [] t C h.here i in bases_grow (needs_of M) t w.0 w.1))
    | inr other ↦
        let old : finmap.get known q ≡ Some L = sym (get-other known name M q other) ∙ e in
        λ t C i.
        let w = asked_base known L [] t C (h.all q L old).bases i in
        still_indexed (table_of (table_in name M) M) (needs_of M) st t C h.new (h.bases t w.0 w.1) (all q L old t C i)
  ]

-- ---- texts that are taken

-- the tables of the catalogue are there where they are stored
pub stored_bases : (known : Catalogue) (st : State) → AreStored known st.relations → HasBases known st
stored_bases known st stored t s e = related (finmap.get st.relations t) (as_relation t s (finmap.get st.relations t) (subst (λ o. IsStored t o (finmap.get st.relations t)) e (stored t)))
  where
    related : (o : Option Relation) → IsRelationOf (base t s) o → is_some o ≡ true
    related None r = absurd r
    related (Some M) r = refl

-- and so are those that a lens of the catalogue asks
pub asked_there : (texts : List (List ℕ)) (st : State) → first_refused texts ≡ None → AreStored (catalogue texts) st.relations → (name : Name) (L : Lens)
    → finmap.get (catalogue texts) name ≡ Some L → (t : Name) (C : Names) → Contains (asked L []) (t, C) → IsThere st t
asked_there texts st taken stored name L e t C i =
    let w = asked_base (catalogue texts) L [] t C (all_known texts taken name L e).bases i in
    stored_bases (catalogue texts) st stored t w.0 w.1

-- a definition that can be admitted makes the catalogue of taken texts grow
may_grow : (texts : List (List ℕ)) (p : Prepared) (st : State) → first_refused texts ≡ None → IsAdmissible texts p → HasBases (catalogue texts) st
    → IsNew (table_of (table_in p.name p.lens) p.lens) st → MayGrow (catalogue texts) p.name p.lens st
may_grow texts p st taken a bases new =
    let more : first_refused (texts ++ p.text ∷ []) ≡ None = first_refused-push texts p.text a.definition taken a.taken in
    let all : AllKnown (finmap.insert (catalogue texts) p.name p.lens) = subst AllKnown (grown_by texts p a) (all_known (texts ++ p.text ∷ []) more) in record {
      all = all_known texts taken;
      here = (all p.name p.lens (get-new (catalogue texts) p.name p.lens)).bases;
      bases = bases;
      new = new;
    }

-- after a definition each lens of the catalogue has its indexes, where each had them before
pub indexed_after : (texts : List (List ℕ)) (p : Prepared) (st : State) → first_refused texts ≡ None → IsAdmissible texts p → HasBases (catalogue texts) st
    → IsNew (table_of (table_in p.name p.lens) p.lens) st → AllIndexed (catalogue texts) st
    → AllIndexed (catalogue (texts ++ p.text ∷ [])) (defined_by (table_in p.name p.lens) p.lens st)
indexed_after texts p st taken a bases new all =
    subst (λ known. AllIndexed known (defined_by (table_in p.name p.lens) p.lens st)) (sym (grown_by texts p a))
    (indexes_grow (catalogue texts) p.name p.lens st (may_grow texts p st taken a bases new) all)
