-- The catalogue with one definition more.
use Rattle.std.proofs.Common.{◌≡◌, ◌∙◌, ◌+◌, ◌-◌, ◌≤◌, ℕ, suc, Bool, true, false, List, [], ◌∷◌, ◌++◌, length, ap, sym, refl, cond, arith, nat_eq, not, Option, Some, None, option_map, is_some, is_err, IsOk, IfOk, OnOk, Result, Ok, Err, if◌then◌else◌}
use Rattle.plain_values.proofs.Common.{true≢false, pointwise, nil_from_length, bytes_cmp, place_none, none_is}
use Rattle.std.specs.FinMap as finmap
use Rattle.lens_specs.specs.Common.{Lens, Name}
use Rattle.grammar_specs.specs.Common.{Definition}
use Rattle.grammar_laws.specs.Reading.{reading}
use Rattle.catalog_specs.specs.Catalogue.{Catalogue, catalogue, catalogue_onto, is_table_of, with_definition}
use Rattle.catalog_specs.specs.Judging.{count_named, is_taken, judged, refused_from, table_count, view_count}
use Rattle.catalog_specs.proofs.Catalogues.{catalogue-push}
use Rattle.view_catalog.specs.Admissions.{IsAdmissible, tables_with}
use Rattle.view_catalog.specs.Contents.{IsCatalog, kept_lens}
use Rattle.view_catalog.specs.Judgements.{Makes}
use Rattle.view_catalog.specs.declared.key.Key.{Key}
use Rattle.view_catalog.specs.declared.prepared.Prepared.{Prepared}
use Rattle.view_catalog.proofs.Counts.{count_more}
use Rattle.view_catalog.proofs.Entries.{get_new, kept_grown}
use Rattle.view_catalog.proofs.Taken.{grows}

-- ---- texts that are all taken

-- one text more is taken where its definition is
taken_push : (known : Catalogue) (texts : List (List ℕ)) (text : List ℕ) → refused_from known texts ≡ None
    → is_err (judged (catalogue_onto known texts) (reading text)) ≡ false → refused_from known (texts ++ text ∷ []) ≡ None
taken_push known [] text all last = ap (λ b. cond b (Some 0) None) last
taken_push known (first ∷ texts) text all last =
    let w = place_none (is_err (judged known (reading first))) (refused_from (with_definition (reading first) known) texts) all in
    ap (λ b. cond b (Some 0) (option_map suc (refused_from (with_definition (reading first) known) (texts ++ text ∷ [])))) w.0
    ∙ ap (option_map suc) (taken_push (with_definition (reading first) known) texts text w.1 last)

-- ---- the lens that a definition adds

-- the definition that can be admitted makes the catalogue grow by its lens
pub grown_by : (texts : List (List ℕ)) (p : Prepared) → IsAdmissible texts p → catalogue (texts ++ p.text ∷ []) ≡ finmap.insert (catalogue texts) p.name p.lens
grown_by texts p a =
    let known = catalogue texts in
    let g = grows known (reading p.text) a.definition a.taken in
    let grown : catalogue (texts ++ p.text ∷ []) ≡ finmap.insert known p.name g.lens =
    catalogue-push texts p.text ∙ ap (λ r. with_definition r known) g.is_read ∙ g.made ∙ ap (λ n. finmap.insert known n g.lens) a.named in
    let both : Some g.lens ≡ Some p.lens = sym (get_new known p.name g.lens) ∙ ap (λ m. finmap.get m p.name) (sym grown) ∙ a.lens in
    let same : g.lens ≡ p.lens = cc in
    grown ∙ ap (finmap.insert known p.name) same

-- its name has no lens yet
pub new_name : (texts : List (List ℕ)) (p : Prepared) → IsAdmissible texts p → finmap.get (catalogue texts) p.name ≡ None
new_name texts p a =
    let g = grows (catalogue texts) (reading p.text) a.definition a.taken in
    none_is (finmap.get (catalogue texts) p.name) (ap (is_taken (catalogue texts)) (sym a.named) ∙ g.free)

-- a definition that is judged and makes this lens can be admitted
pub admissible : (texts : List (List ℕ)) (p : Prepared) (d : Definition) → judged (catalogue texts) (reading p.text) ≡ Ok d → Makes (catalogue texts) d p.name p.lens → IsAdmissible texts p
admissible texts p d taken m =
    let known = catalogue texts in
    let g = grows known (reading p.text) d taken in record {
      definition = d;
      taken = taken;
      named = m.named;
      lens = ap (λ k. finmap.get k p.name) (catalogue-push texts p.text ∙ ap (λ r. with_definition r known) g.is_read ∙ m.made) ∙ get_new known p.name p.lens;
    }

-- ---- counts

views_from : (b : Bool) (tables views total : ℕ) → tables + views ≡ total
    → (total + 1) - (if b then suc tables else tables) ≡ (if not b then suc views else views)
views_from true tables views total e = omega arith
views_from false tables views total e = omega arith

all_counted : (b : Bool) (tables views total : ℕ) → tables + views ≡ total
    → (if b then suc tables else tables) + (if not b then suc views else views) ≡ total + 1
all_counted true tables views total e = omega arith
all_counted false tables views total e = omega arith

-- ---- all of it

is_ok : {A E : Type 0} (r : Result A E) (a : A) → r ≡ Ok a → is_err r ≡ false
is_ok r a e = ap is_err e

-- the catalogue is one with the definition too
pub catalog_more : (texts : List (List ℕ)) (p : Prepared) (old new : List (Key × Lens)) (views : ℕ) → IsCatalog texts old views → IsAdmissible texts p
    → ((q : Name) → kept_lens new q ≡ cond (pointwise nat_eq p.name q) (Some p.lens) (kept_lens old q)) → length new ≡ length old + 1
    → IsCatalog (texts ++ p.text ∷ []) new (length new - tables_with p (table_count (catalogue texts)))
catalog_more texts p old new views c a kept more =
    let known = catalogue texts in
    let b = is_table_of p.name p.lens in
    let grown = grown_by texts p a in
    let free = new_name texts p a in
    let tables : table_count (catalogue (texts ++ p.text ∷ [])) ≡ (if b then suc (table_count known) else table_count known) =
    ap table_count grown ∙ count_more is_table_of known p.name p.lens free in
    let seen : view_count (catalogue (texts ++ p.text ∷ [])) ≡ (if not b then suc (view_count known) else view_count known) =
    ap view_count grown ∙ count_more (λ n l. not (is_table_of n l)) known p.name p.lens free in
    let sum : table_count known + view_count known ≡ length old = ap (λ v. table_count known + v) (sym c.views_are) ∙ c.counted in
    let left : length new - (if b then suc (table_count known) else table_count known) ≡ (if not b then suc (view_count known) else view_count known) =
    ap (λ n. n - (if b then suc (table_count known) else table_count known)) more ∙ views_from b (table_count known) (view_count known) (length old) sum in
    record {
      lenses = λ q. kept_grown known p.name p.lens old new kept c.lenses q ∙ ap (λ m. finmap.get m q) (sym grown);
      taken = taken_push finmap.empty texts p.text c.taken (is_ok (judged known (reading p.text)) a.definition a.taken);
      views_are = left ∙ sym seen;
      counted = ap (λ n. n + (length new - tables_with p (table_count known))) tables
          ∙ ap (λ v. (if b then suc (table_count known) else table_count known) + v) left
          ∙ all_counted b (table_count known) (view_count known) (length old) sum ∙ sym more;
    }

-- ---- nothing is defined

no_entries : finmap.entries {X = Lens} {R = bytes_cmp} finmap.empty ≡ []
no_entries = nil_from_length (finmap.entries {X = Lens} {R = bytes_cmp} finmap.empty) (sym (finmap.len-entries finmap.empty) ∙ finmap.len-empty bytes_cmp Lens)

-- a catalogue of no definitions
pub nothing_defined : IsCatalog [] [] 0
nothing_defined = record {
  lenses = λ q. sym (finmap.get-empty bytes_cmp q);
  taken = refl;
  views_are = sym (ap (count_named (λ name lens. not (is_table_of name lens))) no_entries);
  counted = ap (λ es. count_named is_table_of es + 0) no_entries;
}

-- ---- what is found

-- a new name makes one entry more
pub inserted : {E : Type 0} (result : Result (Option Lens) E) (n m : ℕ) (found : Option Lens) → IsOk result → IfOk result (λ old. old ≡ found)
    → IfOk result (λ old. m ≡ n + (if is_some old then 0 else 1)) → found ≡ None → m ≡ n + 1
inserted (Ok old) n m found h o l e = l ∙ ap (λ x. n + (if is_some x then 0 else 1)) (o ∙ e)
inserted (Err x) n m found h o l e = absurd (true≢false (sym h))

-- what an Ok answer says
pub from_ok : {A E P : Type 0} (result : Result A E) → IsOk result → OnOk result P → P
from_ok (Ok x) h p = p
from_ok (Err e) h p = absurd (true≢false (sym h))

-- the tables with the new one are no more than the entries
pub at_most : (b : Bool) (tables views total : ℕ) → tables + views ≡ total → (if b then suc tables else tables) ≤ total + 1
at_most true tables views total e = omega arith
at_most false tables views total e = omega arith
