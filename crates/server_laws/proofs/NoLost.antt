-- No update is lost.
use Rattle.std.proofs.Common.{◌≡◌, ◌≤◌, true, false, ℕ, suc, List, [], ◌∷◌, ◌++◌, Option, Some, None, Result, Ok, Err, inl, inr, refl, sym, ap, subst, ◌∙◌, arith, unwrap_or}
use Rattle.std.specs.FinMap as finmap
use Rattle.plain_values.specs.SortedSet as set
use Rattle.lens_laws.proofs.Common.{get_same}
use Rattle.lens_specs.specs.Common.{Name, Rows, Lens, Tables, get, sort_of, tables_of}
use Rattle.server_specs.specs.Common.{Line, catalogue, State, EditRefusal, exported, shown, BatchEdit, export, import, read, request, at_tables, edit_tables, edits_from, about, rows_told, Sent, edited, last_change, changed_at, is_stale, asked_view, tested, settled, answer, answer_request, Exchange, Chain, last_state, last_count, Valid, first_nullable, sheet_told}
use Rattle.csv_specs.specs.Sheets.{sheet}
use Rattle.server_laws.proofs.Exports.{export_is, exports_sheets}
use Rattle.server_laws.proofs.Refusals.{asked_refuses, of_import, read_refuses}
use Rattle.server_laws.proofs.Asked.{asked_is, read_fresh}
use Rattle.server_laws.proofs.Batches.{accepted_tables}
use Rattle.server_laws.proofs.Edited.{put_ok, then_ok}
use Rattle.server_laws.proofs.Changes.{import_is, lines_read, lines_settle}
use Rattle.server_laws.proofs.Definitions.{Has}
use Rattle.server_laws.proofs.Since.{Goes, Since, since_on, since_step, since_chain}
use Rattle.server_laws.proofs.Stale.{last_is_greatest, not_after}
use Rattle.server_laws.proofs.Valid.{valid_chain, valid_step}
use Rattle.server_laws.specs.Answers.{IsAccepted}
use Rattle.server_laws.specs.ChangeLaws.{change_request}
use Rattle.server_laws.specs.UpdateLaws.{ChangesOn, HasEditOf, by_itself, by_import, in_batch, NoUpdateIsLost, NoExportIsLost}
use Rattle.server_laws.proofs.Recalled.{front_of, rest_of}

-- ---- what rests on a version that is not stale

-- a table that was not changed after the version is as it was
same_since : (s t : State) (L : Lens) (q : Name) → changed_at t L ≤ s.version → set.contains (tables_of L) q ≡ true → Goes s t q → finmap.get t.tables q ≡ finmap.get s.tables q
same_since s t L q h i (inl a) = a.1
same_since s t L q h i (inr b) =
    let g = last_is_greatest t L q i in
    let e : last_change t.last q ≡ b.0 = ap (λ o. unwrap_or o 0) b.1 in
    let l = b.2 in
    let none : ⊥ = omega arith in absurd none

pub view_since : (s t : State) (L : Lens) → Since s t → is_stale t L (Some s.version) ≡ false → get L t.tables ≡ get L s.tables
view_since s t L w h = get_same L s.tables t.tables (λ q i. same_since s t L q (not_after t L s.version h) i (w.tables q))

-- ---- lines

-- what a read that is answered says
record IsShown (s : State) (name : Name) (rows : Rows) (version : ℕ) : Type 0 where
  lens : Lens
  has : Has s name lens
  rows_are : get lens s.tables ≡ rows
  version_is : s.version ≡ version

shown_by : (s : State) (name : Name) (rows : Rows) (version : ℕ) (o : Option Lens) → finmap.get (catalogue s.texts) name ≡ o → about (rows_told s) name o ≡ shown rows version → IsShown s name rows version
shown_by s name rows version None is e = cc
shown_by s name rows version (Some L) is e = record { lens = L; has = is; rows_are = cc; version_is = cc }

read_shows : (s : State) (l : Line) (name : Name) → request l ≡ Ok (read name) → (rows : Rows) (version : ℕ) → (answer s l).0 ≡ shown rows version → IsShown s name rows version
unfolding answer
read_shows s l name asked rows version e =
    shown_by s name rows version (finmap.get (catalogue s.texts) name) refl (sym (ap (λ r. (answer_request r s).0) asked) ∙ e)

settled_fresh : (s : State) (L : Lens) (sent : Sent) (on : Option ℕ) (r : Result Rows EditRefusal) → asked_view s L sent on ≡ r → IsAccepted (settled r L s).0 → is_stale s L on ≡ false
settled_fresh s L sent on (Err why) is h = absurd ((asked_refuses s L sent on why is).accepted h)
settled_fresh s L sent on (Ok N) is h = (asked_is s L sent on N is).fresh

fresh_by_itself : (s : State) (l : Line) (name : Name) (L : Lens) (sent : Sent) (on : Option ℕ) → request l ≡ Ok (change_request sent name on) → Has s name L → IsAccepted (answer s l).0 → is_stale s L on ≡ false
fresh_by_itself s l name L sent on asked has accepted =
    settled_fresh s L sent on (asked_view s L sent on) refl (subst (λ a. IsAccepted a.0) (lines_settle s l name L sent on (record { asked = asked; lens = has })) accepted)

fresh_edit : (s : State) (b : BatchEdit) (on : Option ℕ) (L : Lens) (db new : Tables) → edit_tables b on (Some L) s db ≡ Ok new → is_stale s L on ≡ false
fresh_edit s b on L db new e =
    let w = put_ok (asked_view (at_tables s db) L (edited b.remove b.add) on) L db new e in
    (asked_is (at_tables s db) L (edited b.remove b.add) on w.0 w.1).fresh

fresh_among : (s : State) (i : ℕ) (on : Option ℕ) (edits : List BatchEdit) (db new : Tables) → edits_from i on s edits db ≡ Ok new → (name : Name) (L : Lens) → Has s name L → HasEditOf name edits → is_stale s L on ≡ false
fresh_among s i on [] db new e name L has among = absurd among
fresh_among s i on (b ∷ edits) db new e name L has among =
    let w = then_ok i (edits_from (suc i) on s edits) (edit_tables b on (finmap.get (catalogue s.texts) b.view) s db) new e in
    let known : b.view ≡ name → finmap.get (catalogue s.texts) b.view ≡ Some L = λ is. ap (finmap.get (catalogue s.texts)) is ∙ has in
    elim among [
      | inl is ↦ fresh_edit s b on L db w.0 (ap (λ o. edit_tables b on o s db) (sym (known is)) ∙ w.1)
      | inr behind ↦ fresh_among s (suc i) on edits w.0 new w.2 name L has behind
    ]

fresh_read : (s : State) (L : Lens) (on : Option ℕ) (M : Rows) (r : Result Rows EditRefusal) → tested s L on (Ok M) ≡ r → IsAccepted (settled r L s).0 → is_stale s L on ≡ false
fresh_read s L on M (Err why) is h = absurd ((read_refuses s L on M why is).accepted h)
fresh_read s L on M (Ok N) is h = read_fresh s L on M N is

fresh_import : (s : State) (l : Line) (name : Name) (L : Lens) (csv : List ℕ) (on : Option ℕ) → request l ≡ Ok (import name csv on) → Has s name L → IsAccepted (answer s l).0 → is_stale s L on ≡ false
fresh_import s l name L csv on asked has accepted =
    of_import (λ r. IsAccepted r.0 → is_stale s L on ≡ false) s on (λ a refuses h. absurd (refuses.accepted h)) csv name
    (λ K is M fits h. (let same : K ≡ L = cc in subst (λ J. is_stale s J on ≡ false) same (fresh_read s K on M (tested s K on (Ok M)) refl h)))
    (subst (λ r. IsAccepted r.0) (import_is s l name csv on asked) accepted)

-- an accepted change that rests on a version rests on one that is not stale
rests_fresh : (s : State) (l : Line) (name : Name) (L : Lens) (version : ℕ) → ChangesOn l name version → Has s name L → IsAccepted (answer s l).0 → is_stale s L (Some version) ≡ false
rests_fresh s l name L version (by_itself sent asked) has accepted = fresh_by_itself s l name L sent (Some version) asked has accepted
rests_fresh s l name L version (by_import csv asked) has accepted = fresh_import s l name L csv (Some version) asked has accepted
rests_fresh s l name L version (in_batch edits asked among) has accepted =
    let w = accepted_tables s l edits (Some version) asked accepted in fresh_among s 0 (Some version) edits s.tables w.0 w.1 name L has among

-- a view that has a lens at a version is as it was then at a later accepted change that rests on the version
unlost : (s t : State) → Since s t → (m : Line) (name : Name) (L : Lens) (version : ℕ) → Has s name L → s.version ≡ version → ChangesOn m name version → IsAccepted (answer t m).0
    → get L t.tables ≡ get L s.tables
unlost s t w m name L version has is rests accepted =
    let fresh : is_stale t L (Some version) ≡ false = rests_fresh t m name L version rests (w.lenses name L has) accepted in
    view_since s t L w (ap (λ v. is_stale t L (Some v)) is ∙ fresh)

-- a view that was read at a version, and a later accepted change that rests on it
kept_since : (s t : State) → Since s t → (l m : Line) (name : Name) (rows : Rows) (version : ℕ) → request l ≡ Ok (read name) → (answer s l).0 ≡ shown rows version
    → ChangesOn m name version → IsAccepted (answer t m).0 → (answer t l).0 ≡ shown rows t.version
kept_since s t w l m name rows version asked e rests accepted =
    let r = read_shows s l name asked rows version e in
    let L : Lens = r.lens in
    let has : Has t name L = w.lenses name L r.has in
    let same : get L t.tables ≡ get L s.tables = unlost s t w m name L version r.has r.version_is rests accepted in
    ap (λ a. a.0) (lines_read t l name L (record { asked = asked; lens = has })) ∙ ap (λ N. shown N t.version) (same ∙ r.rows_are)

-- what an export that is answered says
record IsExported (s : State) (name : Name) (csv : List ℕ) (version : ℕ) : Type 0 where
  lens : Lens
  has : Has s name lens
  plain : first_nullable (sort_of lens).columns ≡ None
  csv_is : sheet (sort_of lens).columns (get lens s.tables) ≡ csv
  version_is : s.version ≡ version

pub two_exported : (csv text : List ℕ) (v w : ℕ) → exported csv v ≡ exported text w → (csv ≡ text) × (v ≡ w)
two_exported csv text v w e = (cc, cc)

exported_plain : (s : State) (name : Name) (L : Lens) (csv : List ℕ) (version : ℕ) → Has s name L → (o : Option Name) → first_nullable (sort_of L).columns ≡ o → sheet_told o s L ≡ exported csv version → IsExported s name csv version
exported_plain s name L csv version has (Some column) is e = cc
exported_plain s name L csv version has None is e = record { lens = L; has = has; plain = is; csv_is = cc; version_is = cc }

exported_by : (s : State) (name : Name) (csv : List ℕ) (version : ℕ) (o : Option Lens) → finmap.get (catalogue s.texts) name ≡ o
    → about (λ L. sheet_told (first_nullable (sort_of L).columns) s L) name o ≡ exported csv version → IsExported s name csv version
exported_by s name csv version None is e = cc
exported_by s name csv version (Some L) is e = exported_plain s name L csv version is (first_nullable (sort_of L).columns) refl e

export_gives : (s : State) (l : Line) (name : Name) → request l ≡ Ok (export name) → (csv : List ℕ) (version : ℕ) → (answer s l).0 ≡ exported csv version → IsExported s name csv version
export_gives s l name asked csv version e = exported_by s name csv version (finmap.get (catalogue s.texts) name) refl (sym (ap (λ r. r.0) (export_is s l name asked)) ∙ e)

-- a view that was exported at a version, and a later accepted change that rests on it
exported_since : (s t : State) → Since s t → (l m : Line) (name : Name) (csv : List ℕ) (version : ℕ) → request l ≡ Ok (export name) → (answer s l).0 ≡ exported csv version
    → ChangesOn m name version → IsAccepted (answer t m).0 → (answer t l).0 ≡ exported csv t.version
exported_since s t w l m name csv version asked e rests accepted =
    let r = export_gives s l name asked csv version e in
    let L : Lens = r.lens in
    let same : get L t.tables ≡ get L s.tables = unlost s t w m name L version r.has r.version_is rests accepted in
    ap (λ a. a.0) (exports_sheets t l name L (record { asked = asked; lens = w.lenses name L r.has; plain = r.plain }))
    ∙ ap (λ text. exported text t.version) (ap (sheet (sort_of L).columns) same ∙ r.csv_is)

-- ---- sessions

-- the state before the second of two exchanges is valid
pub chain_valid : (s : State) (count : ℕ) → Valid s → (before between after : List Exchange) (e f : Exchange) → Chain s count (before ++ e ∷ (between ++ f ∷ after)) → Valid (last_state e.state between)
chain_valid s count v before between after e f c =
    let t = last_state s before in
    let w : Valid t = (valid_chain s count before v (front_of s count before (e ∷ (between ++ f ∷ after)) c)).1 in
    let rest = rest_of s count before (e ∷ (between ++ f ∷ after)) c in
    (valid_chain e.state e.count between (valid_step t (last_count count before) e.line e.reply e.state e.count w rest.0.replied) (front_of e.state e.count between (f ∷ after) rest.1)).1

pub chain_keeps : (s : State) (count : ℕ) → Valid s → (before between after : List Exchange) (e f : Exchange) → Chain s count (before ++ e ∷ (between ++ f ∷ after))
    → Since (last_state s before) (last_state e.state between)
chain_keeps s count v before between after e f c =
    let t = last_state s before in
    let n = last_count count before in
    let w : Valid t = (valid_chain s count before v (front_of s count before (e ∷ (between ++ f ∷ after)) c)).1 in
    let rest = rest_of s count before (e ∷ (between ++ f ∷ after)) c in
    since_on t e.state (last_state e.state between) (since_step t n e.line e.reply e.state e.count w rest.0.replied)
    (since_chain e.state e.count between (valid_step t n e.line e.reply e.state e.count w rest.0.replied) (front_of e.state e.count between (f ∷ after) rest.1))

pub no_update_lost : NoUpdateIsLost
no_update_lost s count lines replies last count' v session before between after e f parts name rows version h =
    kept_since (last_state s before) (last_state e.state between) (chain_keeps s count v before between after e f (subst (Chain s count) parts session.chain))
    e.line f.line name rows version h.asked h.told h.rests h.accepted

pub no_export_lost : NoExportIsLost
no_export_lost s count lines replies last count' v session before between after e f parts name csv version h =
    exported_since (last_state s before) (last_state e.state between) (chain_keeps s count v before between after e f (subst (Chain s count) parts session.chain))
    e.line f.line name csv version h.asked h.told h.rests h.accepted
