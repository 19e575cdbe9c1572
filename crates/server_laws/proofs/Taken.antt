-- What is known of the lenses that taken definitions make.
use Rattle.std.proofs.Common.{◌≡◌, ℕ, suc, false, cond, List, [], ◌∷◌, ◌++◌, Some, None, option_map, Result, Ok, Err, is_some, refl, sym, ap, subst, ◌∙◌, inl, inr, is_err}
use Rattle.plain_values.proofs.Common.{cases_Bool, true≢false, false_from_ne_true, texts_ties, eq_by_cmp, bytes_cmp, place_none}
use Rattle.std.specs.FinMap as finmap
use Rattle.fd_laws.proofs.Common.{name_total, name_itself, tied_name}
use Rattle.lens_laws.proofs.Common.{sort_is_typed, table_sort_is_sound, IsSound}
use Rattle.lens_laws.specs.Rules.{BasesAreSound}
use Rattle.lens_specs.specs.Common.{Name, Edge, Sort, Columns, Predicate, Lens, base, select, drop, rename, sort, table_sort, join}
use Rattle.grammar_specs.specs.Common.{Definition, table, view, Expr, named, Fault}
use Rattle.grammar_specs.specs.Meaning as language
use Rattle.grammar_laws.specs.Reading.{reading}
use Rattle.server_specs.specs.Common.{Catalogue, catalogue, catalogue_onto, with_definition, with_lens, table_lens, is_table_of, is_taken, where_sorted, lens_in, where_lensed, judged, refused_from, first_refused}
use Rattle.catalog_specs.specs.Judging.{name_taken}
use Rattle.catalog_specs.proofs.Judged.{sorted_ok, lensed_ok, passed, named_ok, over_ok, both_ok}
pub use Rattle.catalog_specs.proofs.Judged.{lens_is, table_sort_is}
pub use Rattle.server_laws.specs.Known.{BasesAre, IsKnown}

-- ---- what a judgement says

-- a definition that is taken
abbrev pub IsTaken : Catalogue → Definition → Type 0
IsTaken known (table name columns deps predicate) = (is_taken known name ≡ false) × ((sort : Sort) × (table_sort columns deps predicate ≡ Ok sort))
IsTaken known (view name expr) = (is_taken known name ≡ false) × ((lens : Lens) × (lens_in known expr ≡ Ok lens))

-- what is judged well is the definition itself, and it is taken
pub judged_ok : (known : Catalogue) (r : Result Definition Fault) (d : Definition) → judged known r ≡ Ok d → (r ≡ Ok d) × IsTaken known d
judged_ok known (Err fault) d h = cc
judged_ok known (Ok (table name columns deps predicate)) d h =
    let free = passed (is_taken known name) (name_taken name) (where_sorted (table_sort columns deps predicate) known (table name columns deps predicate)) d h in
    let w = sorted_ok (table_sort columns deps predicate) known (table name columns deps predicate) d free.1 in
    (ap Ok w.1, subst (IsTaken known) w.1 (free.0, w.0))
judged_ok known (Ok (view name expr)) d h =
    let free = passed (is_taken known name) (name_taken name) (where_lensed (lens_in known expr) known (view name expr)) d h in
    let w = lensed_ok (lens_in known expr) known (view name expr) d free.1 in
    (ap Ok w.1, subst (IsTaken known) w.1 (free.0, w.0))

pub no_error : {A E : Type 0} (r : Result A E) → is_err r ≡ false → (a : A) × (r ≡ Ok a)
no_error (Ok a) h = (a, refl)
no_error (Err e) h = absurd (true≢false h)

-- ---- lenses of a catalogue

-- each lens of the catalogue is so
abbrev pub AllKnown : Catalogue → Type 0
AllKnown known = (name : Name) (L : Lens) → finmap.get known name ≡ Some L → IsKnown known L

pub get-new : (known : Catalogue) (name : Name) (M : Lens) → finmap.get (finmap.insert known name M) name ≡ Some M
get-new known name M = finmap.get-insert name_total known name M name ∙ ap (λ b. cond b (Some M) (finmap.get known name)) (name_itself name)

pub get-other : (known : Catalogue) (name : Name) (M : Lens) (q : Name) → eq_by_cmp bytes_cmp q name ≡ false → finmap.get (finmap.insert known name M) q ≡ finmap.get known q
get-other known name M q o = finmap.get-insert name_total known name M q ∙ ap (λ b. cond b (Some M) (finmap.get known q)) o

-- a name with a lens is not one that is free
pub not_free : (known : Catalogue) (name t : Name) (L : Lens) → is_taken known name ≡ false → finmap.get known t ≡ Some L → eq_by_cmp bytes_cmp t name ≡ false
not_free known name t L free e = false_from_ne_true _ (λ is. absurd (true≢false (sym (ap is_some e) ∙ ap (λ n. is_some (finmap.get known n)) (tied_name t name is) ∙ free)))

-- a lens over tables of the catalogue is not the table of a name that is free
pub not_own : (known : Catalogue) (name : Name) → is_taken known name ≡ false → (L : Lens) → BasesAre known L → is_table_of name L ≡ false
not_own known name free (base t s) h = texts_ties t name ∙ not_free known name t (base t s) free h
not_own known name free (select P C) h = refl
not_own known name free (drop A X a C) h = refl
not_own known name free (rename A B C) h = refl
not_own known name free (join kind A B) h = refl

bases_stay : (known : Catalogue) (name : Name) (M : Lens) → is_taken known name ≡ false → (L : Lens) → BasesAre known L → BasesAre (finmap.insert known name M) L
bases_stay known name M free (base t s) h = get-other known name M t (not_free known name t (base t s) free h) ∙ h
bases_stay known name M free (select P C) h = bases_stay known name M free C h
bases_stay known name M free (drop A X a C) h = bases_stay known name M free C h
bases_stay known name M free (rename A B C) h = bases_stay known name M free C h
bases_stay known name M free (join kind A B) h = (bases_stay known name M free A h.0, bases_stay known name M free B h.1)

-- a lens more
one_more : (known : Catalogue) (name : Name) (M : Lens) → is_taken known name ≡ false → IsKnown (finmap.insert known name M) M → AllKnown known → AllKnown (finmap.insert known name M)
one_more known name M free here all q L e = elim (cases_Bool (eq_by_cmp bytes_cmp q name)) [
  | inl t ↦
      let is : Some M ≡ Some L = sym (get-new known name M) ∙ ap (finmap.get (finmap.insert known name M)) (sym (tied_name q name t)) ∙ e in
      let same : M ≡ L = cc in
      subst (IsKnown (finmap.insert known name M)) same here
  | inr o ↦
      let k = all q L (sym (get-other known name M q o) ∙ e) in
      record { sound = k.sound; sorted = k.sorted; bases = bases_stay known name M free L k.bases }
]

-- a table whose sort is not refused
table_is_known : (known : Catalogue) (name : Name) (columns : Columns) (deps : List Edge) (P : Predicate) → (t : Sort) × (table_sort columns deps P ≡ Ok t)
    → IsKnown (finmap.insert known name (table_lens name columns deps P)) (table_lens name columns deps P)
unfolding sort
table_is_known known name columns deps P h = record {
  sound = subst IsSound (table_sort_is columns deps P h.0 h.1) (table_sort_is_sound columns deps P h.0 h.1);
  sorted = refl;
  bases = get-new known name (table_lens name columns deps P);
}

-- ---- the lens of an expression

-- a lens with a sort, over tables of the catalogue
node_is_known : (known : Catalogue) (L : Lens) (s : Sort) → BasesAreSound L → BasesAre known L → sort L ≡ Ok s → IsKnown known L
node_is_known known L s sound bases e = record { sound = sound; sorted = e ∙ ap Ok (sort_is_typed L s sound e).0; bases = bases }

-- and that lens is known, where those of its names are
pub lens_is_known : (known : Catalogue) → AllKnown known → (expr : Expr) (L : Lens) → lens_in known expr ≡ Ok L → IsKnown known L
lens_is_known known all (named name) L h = all name L (named_ok name (finmap.get known name) L h)
lens_is_known known all (language.select P of) L h =
    let w = over_ok (select P) (lens_in known of) L h in
    let k = lens_is_known known all of w.0 w.1 in
    subst (IsKnown known) w.3 (node_is_known known (select P w.0) w.2.0 k.sound k.bases w.2.1)
lens_is_known known all (language.drop A X a of) L h =
    let w = over_ok (drop A X a) (lens_in known of) L h in
    let k = lens_is_known known all of w.0 w.1 in
    subst (IsKnown known) w.3 (node_is_known known (drop A X a w.0) w.2.0 k.sound k.bases w.2.1)
lens_is_known known all (language.rename A B of) L h =
    let w = over_ok (rename A B) (lens_in known of) L h in
    let k = lens_is_known known all of w.0 w.1 in
    subst (IsKnown known) w.3 (node_is_known known (rename A B w.0) w.2.0 k.sound k.bases w.2.1)
lens_is_known known all (language.join kind left right) L h =
    let w = both_ok kind (lens_in known left) (lens_in known right) L h in
    let j = lens_is_known known all left w.0 w.2 in
    let k = lens_is_known known all right w.1 w.3 in
    subst (IsKnown known) w.5 (node_is_known known (join kind w.0 w.1) w.4.0 (j.sound, k.sound) (j.bases, k.bases) w.4.1)

-- ---- the lens that a definition adds

-- the lens that a taken definition adds, under a name that is free
pub record Adds (known : Catalogue) (d : Definition) : Type 0 where
  pub name : Name
  pub lens : Lens
  pub free : is_taken known name ≡ false
  pub made : with_definition (Ok d) known ≡ finmap.insert known name lens
  pub there : IsKnown (finmap.insert known name lens) lens

pub adds : (known : Catalogue) (d : Definition) → IsTaken known d → AllKnown known → Adds known d
adds known (table name columns deps P) h all = record {
  name = name;
  lens = table_lens name columns deps P;
  free = h.0;
  made = refl;
  there = table_is_known known name columns deps P h.1;
}
adds known (view name expr) h all =
    let k = lens_is_known known all expr h.1.0 h.1.1 in record {
      name = name;
      lens = h.1.0;
      free = h.0;
      made = ap (λ o. with_lens name o known) (lens_is known expr h.1.0 h.1.1);
      there = record { sound = k.sound; sorted = k.sorted; bases = bases_stay known name h.1.0 h.0 h.1.0 k.bases };
    }

pub still_known : (known : Catalogue) (d : Definition) → IsTaken known d → AllKnown known → AllKnown (with_definition (Ok d) known)
still_known known d h all = let a = adds known d h all in subst AllKnown (sym a.made) (one_more known a.name a.lens a.free a.there all)

-- ---- texts that are all taken

none_refused : (known : Catalogue) (texts : List (List ℕ)) → AllKnown known → refused_from known texts ≡ None → AllKnown (catalogue_onto known texts)
none_refused known [] all h = all
none_refused known (text ∷ texts) all h =
    let w = place_none (is_err (judged known (reading text))) (refused_from (with_definition (reading text) known) texts) h in
    let j = no_error (judged known (reading text)) w.0 in
    let d = judged_ok known (reading text) j.0 j.1 in
    none_refused (with_definition (reading text) known) texts (subst (λ r. AllKnown (with_definition r known)) (sym d.0) (still_known known j.0 d.1 all)) w.1

-- every lens of a catalogue of taken texts is known
pub all_known : (texts : List (List ℕ)) → first_refused texts ≡ None → AllKnown (catalogue texts)
all_known texts h = none_refused finmap.empty texts (λ name L e. let f : None ≡ Some L = sym (finmap.get-empty bytes_cmp name) ∙ e in cc) h

refused-push : (known : Catalogue) (texts : List (List ℕ)) (text : List ℕ) (d : Definition) → refused_from known texts ≡ None
    → judged (catalogue_onto known texts) (reading text) ≡ Ok d → refused_from known (texts ++ text ∷ []) ≡ None
refused-push known [] text d h j = ap (λ r. cond (is_err r) (Some 0) None) j
refused-push known (first ∷ texts) text d h j =
    let after = with_definition (reading first) known in
    let w = place_none (is_err (judged known (reading first))) (refused_from after texts) h in
    ap (λ b. cond b (Some 0) (option_map suc (refused_from after (texts ++ text ∷ [])))) w.0
    ∙ ap (option_map suc) (refused-push after texts text d w.1 j)

-- one text more that is taken
pub first_refused-push : (texts : List (List ℕ)) (text : List ℕ) (d : Definition) → first_refused texts ≡ None → judged (catalogue texts) (reading text) ≡ Ok d
    → first_refused (texts ++ text ∷ []) ≡ None
first_refused-push texts text d h j = refused-push finmap.empty texts text d h j
