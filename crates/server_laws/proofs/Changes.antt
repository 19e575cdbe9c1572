-- Lines that read, put, edit, import and preview.
use Rattle.std.proofs.Common.{◌≡◌, ◌⊎◌, true, false, ℕ, List, [], ◌∷◌, Option, Some, None, Result, Ok, Err, inl, inr, refl, sym, ap, subst, ◌∙◌, ◌↔◌}
use Rattle.plain_values.proofs.Common.{cases_Bool, Row}
use Rattle.std.specs.FinMap as finmap
use Rattle.plain_values.specs.SortedSet as set
use Rattle.lens_laws.proofs.Common.{IsOff, AreDiffs}
use Rattle.lens_specs.specs.Common.{Name, Rows, holds, Edge, IsOf, Tables, Lens, sort_of, get, put as put_rows, tables_of, TableDelta, changes, differences}
use Rattle.server_specs.specs.Common.{Line, catalogue, State, EditRefusal, in_remove, in_add, Answer, shown, changed, stale, off_predicate, clash, read, edit, import, request, about, rows_told, Sent, whole, edited, as_set, set_in, edit_of, sent_view, changed_at, is_stale, unless_stale, of_sort, tested, asked_view, accept, settled, foretold, changed_by, batch_settled, undone, import_settled, imported_by, read_settled, answer, answer_request, Valid}
use Rattle.server_specs.specs.EditRefusal as refusals
use Rattle.server_specs.specs.Answer.{told as told_answer}
use Rattle.csv_specs.specs.Sheets.{unsheet}
use Rattle.csv_specs.proofs.Fitting.{unsheet_fits}
use Rattle.server_laws.proofs.Refusals.{asked_refuses}
use Rattle.server_laws.proofs.Asked.{sent_fits}
use Rattle.server_laws.proofs.Puts.{IsSettled, accepted_where, accepted_or_refused, refused_by, clashes_by, put_then_read, told, changes_told, changes_differ, others_stay, read_then_put}
use Rattle.server_laws.proofs.Stored.{lens_here}
use Rattle.server_laws.specs.Answers.{IsAccepted, IsRefusal}
use Rattle.server_laws.specs.ChangeLaws.{IsReadLine, change_request, IsChangeLine, IsImportLine, SendsView, by_rows, by_text, UnknownNamesAreTold, RemovedComeFirst, NothingIsChanged, LinesLeaveOthers, PreviewsForetell}
use Rattle.server_laws.specs.PutLaws.{AllFit, IsFirstClashOf, put_set}
use Rattle.server_laws.specs.SheetLaws.{ImportsArePuts}

pub lines_read : (s : State) (l : Line) (name : Name) (L : Lens) → IsReadLine s l name L → answer s l ≡ (shown (get L s.tables) s.version, s)
unfolding answer
lines_read s l name L h = ap (λ q. answer_request q s) h.asked ∙ ap (λ o. (about (rows_told s) name o, s)) h.lens

-- ---- lines that change

-- the answer to a line that changes, by what its name has
change_is : (s : State) (l : Line) (name : Name) (sent : Sent) (on : Option ℕ) → request l ≡ Ok (change_request sent name on)
    → answer s l ≡ changed_by sent on name (finmap.get (catalogue s.texts) name) s
unfolding answer
change_is s l name (whole rows) on asked = ap (λ r. answer_request r s) asked
change_is s l name (edited remove add) on asked = ap (λ r. answer_request r s) asked

pub lines_settle : (s : State) (l : Line) (name : Name) (L : Lens) (sent : Sent) (on : Option ℕ) → IsChangeLine s l name L sent on → answer s l ≡ settled (asked_view s L sent on) L s
lines_settle s l name L sent on h = change_is s l name sent on h.asked ∙ ap (λ o. changed_by sent on name o s) h.lens

pub unknown_told : UnknownNamesAreTold
unknown_told s l name sent on asked none = change_is s l name sent on asked ∙ ap (λ o. changed_by sent on name o s) none

pub bad_told : (s : State) (l : Line) (name : Name) (L : Lens) (sent : Sent) (on : Option ℕ) → IsChangeLine s l name L sent on → (bad : EditRefusal) → sent_view sent L s ≡ Err bad → answer s l ≡ (told_answer bad, s)
bad_told s l name L sent on h bad is = lines_settle s l name L sent on h ∙ ap (λ r. settled (tested s L on r) L s) is

pub removed_first : RemovedComeFirst
removed_first s l name L remove add on h index column is = bad_told s l name L (edited remove add) on h (refusals.bad_row in_remove index column)
    (ap (λ r. edit_of (get L s.tables) (as_set in_remove r) (set_in in_add (sort_of L).columns add)) is)

pub others_left : LinesLeaveOthers
others_left s l name L sent on h t o = ap (λ r. finmap.get r.1.tables t) (lines_settle s l name L sent on h) ∙ others_stay (asked_view s L sent on) L s t o

pub texts_accept : (db : Tables) (ds : List TableDelta) (s : State) → (accept db ds s).1.texts ≡ s.texts
texts_accept db [] s = refl
texts_accept db (d ∷ ds) s = refl

-- a change leaves the definitions
pub texts_settled : (r : Result Rows EditRefusal) (L : Lens) (s : State) → (settled r L s).1.texts ≡ s.texts
texts_settled (Err refusal) L s = refl
texts_settled (Ok N) L s = texts_accept (put_rows L N s.tables) (changes L N s.tables) s

pub texts_batch : (r : Result Tables (ℕ × EditRefusal)) (s : State) → (batch_settled r s).1.texts ≡ s.texts
texts_batch (Err found) s = refl
texts_batch (Ok db) s = texts_accept db (differences (finmap.keys s.tables) s.tables db) s

pub texts_undone : (o : Option (List TableDelta)) (s : State) → (undone o s).1.texts ≡ s.texts
texts_undone None s = refl
texts_undone (Some cs) s = refl

-- ---- lines that import

-- the answer to a line that imports, by what its name has
pub import_is : (s : State) (l : Line) (name : Name) (csv : List ℕ) (on : Option ℕ) → request l ≡ Ok (import name csv on)
    → answer s l ≡ imported_by csv on name (finmap.get (catalogue s.texts) name) s
unfolding answer
import_is s l name csv on asked = ap (λ r. answer_request r s) asked

-- where the view has no column that may be null, by what is read
pub import_reads : (s : State) (l : Line) (name : Name) (L : Lens) (csv : List ℕ) (on : Option ℕ) → IsImportLine s l name L csv on
    → answer s l ≡ read_settled (unsheet (sort_of L).columns csv) on L s
import_reads s l name L csv on h =
    import_is s l name csv on h.asked ∙ ap (λ o. imported_by csv on name o s) h.lens ∙ ap (λ o. import_settled o csv on L s) h.plain

pub imports_put : ImportsArePuts
imports_put s l name L csv on h N is = import_reads s l name L csv on h ∙ ap (λ r. read_settled r on L s) is

-- ---- lines that send a new view

-- the view's lens
lens_sent : (s : State) (l : Line) (name : Name) (L : Lens) (on : Option ℕ) (N : Rows) → SendsView s l name L on N → finmap.get (catalogue s.texts) name ≡ Some L
lens_sent s l name L on N (by_rows sent h view) = h.lens
lens_sent s l name L on N (by_text csv h rows) = h.lens

-- the new view is put through the tests
sends_settle : (s : State) (l : Line) (name : Name) (L : Lens) (on : Option ℕ) (N : Rows) → SendsView s l name L on N → answer s l ≡ settled (tested s L on (Ok N)) L s
sends_settle s l name L on N (by_rows sent h view) = lines_settle s l name L sent on h ∙ ap (λ r. settled (tested s L on r) L s) view
sends_settle s l name L on N (by_text csv h rows) = imports_put s l name L csv on h N rows

-- and fits the columns
fits_sent : (s : State) → Valid s → (l : Line) (name : Name) (L : Lens) (on : Option ℕ) (N : Rows) → SendsView s l name L on N → AllFit (sort_of L).columns N
fits_sent s v l name L on N (by_rows sent h view) = sent_fits s L (lens_here s v name L h.lens) sent N view
fits_sent s v l name L on N (by_text csv h rows) = unsheet_fits (sort_of L).columns csv N rows

module _ (s : State) (l : Line) (name : Name) (L : Lens) (on : Option ℕ) (N : Rows) (h : SendsView s l name L on N) where
  -- the answer, by whether the version is stale
  sent_settles : answer s l ≡ settled (unless_stale (is_stale s L on) (changed_at s L) s.version (of_sort (sort_of L) N)) L s
  sent_settles = sends_settle s l name L on N h

  pub stale_told : is_stale s L on ≡ true → answer s l ≡ (stale (changed_at s L) s.version, s)
  stale_told old = sent_settles ∙ ap (λ b. settled (unless_stale b (changed_at s L) s.version (of_sort (sort_of L) N)) L s) old

  pub views_fit : Valid s → AllFit (sort_of L).columns N
  views_fit v = fits_sent s v l name L on N h

  pub puts_set : is_stale s L on ≡ false → answer s l ≡ put_set N L s
  puts_set fresh = sent_settles ∙ ap (λ b. settled (unless_stale b (changed_at s L) s.version (of_sort (sort_of L) N)) L s) fresh

  pub lines_accepted : Valid s → is_stale s L on ≡ false → IsAccepted (answer s l).0 ↔ IsOf N (sort_of L)
  lines_accepted v fresh = subst (λ r. IsAccepted r.0 ↔ IsOf N (sort_of L)) (sym (puts_set fresh)) (accepted_where L N s (views_fit v))

  pub by_least_row : is_stale s L on ≡ false → (row : Row) → (answer s l ≡ (off_predicate row, s)) ↔ IsOff (holds (sort_of L).predicate) N row
  by_least_row fresh row = subst (λ r. (r ≡ (off_predicate row, s)) ↔ IsOff (holds (sort_of L).predicate) N row) (sym (puts_set fresh)) (refused_by L N s row)

  pub by_first_clash : is_stale s L on ≡ false → (edge : Edge) (first second : Row) → (answer s l ≡ (clash edge first second, s)) ↔ IsFirstClashOf (sort_of L) N edge first second
  by_first_clash fresh edge first second =
      subst (λ r. (r ≡ (clash edge first second, s)) ↔ IsFirstClashOf (sort_of L) N edge first second) (sym (puts_set fresh)) (clashes_by L N s edge first second)

  pub no_fourth : is_stale s L on ≡ false → IsSettled s (answer s l)
  no_fourth fresh = subst (IsSettled s) (sym (puts_set fresh)) (accepted_or_refused L N s)

  -- what is accepted is not stale, and is a put
  accepted_puts : IsAccepted (answer s l).0 → answer s l ≡ put_set N L s
  accepted_puts accepted = elim (cases_Bool (is_stale s L on)) [
    | inl old ↦ absurd (subst (λ r. IsAccepted r.0) (stale_told old) accepted)
    | inr fresh ↦ puts_set fresh
  ]

  put_accepted : IsAccepted (answer s l).0 → IsAccepted (put_set N L s).0
  put_accepted accepted = subst (λ r. IsAccepted r.0) (accepted_puts accepted) accepted

  -- it is not stale, and the view then shows what was sent
  pub accepted_fresh : IsAccepted (answer s l).0 → is_stale s L on ≡ false
  accepted_fresh accepted = elim (cases_Bool (is_stale s L on)) [
    | inl old ↦ absurd (subst (λ r. IsAccepted r.0) (stale_told old) accepted)
    | inr fresh ↦ fresh
  ]

  pub accepted_shows : Valid s → IsAccepted (answer s l).0 → get L (answer s l).1.tables ≡ N
  accepted_shows v accepted =
      ap (λ r. get L r.1.tables) (accepted_puts accepted) ∙ put_then_read s L N (lens_here s v name L (lens_sent s l name L on N h)) (views_fit v) (put_accepted accepted)

  pub next_reads : Valid s → IsAccepted (answer s l).0 → (m : Line) → request m ≡ Ok (read name) → (answer (answer s l).1 m).0 ≡ shown N (answer s l).1.version
  next_reads v accepted m asked =
      let is = accepted_puts accepted in
      let texts : (answer s l).1.texts ≡ s.texts = ap (λ r. r.1.texts) is ∙ texts_settled (of_sort (sort_of L) N) L s in
      let reads = lines_read (answer s l).1 m name L (record { asked = asked; lens = ap (λ t. finmap.get (catalogue t) name) texts ∙ (lens_sent s l name L on N h) }) in
      ap (λ r. r.0) reads ∙ ap (λ M. shown M (answer s l).1.version) (accepted_shows v accepted)

  pub lines_tell : IsAccepted (answer s l).0 → (answer s l).0 ≡ changed (changes L N s.tables) (answer s l).1.version
  lines_tell accepted = subst (λ r. r.0 ≡ changed (changes L N s.tables) r.1.version) (sym (accepted_puts accepted)) (changes_told L N s (put_accepted accepted))

  pub lines_differ : IsAccepted (answer s l).0
      → (changes L N s.tables ≡ differences (set.items (tables_of L)) s.tables (answer s l).1.tables) × AreDiffs s.tables (answer s l).1.tables (changes L N s.tables)
  lines_differ accepted =
      subst (λ r. (changes L N s.tables ≡ differences (set.items (tables_of L)) s.tables r.1.tables) × AreDiffs s.tables r.1.tables (changes L N s.tables)) (sym (accepted_puts accepted))
      (changes_differ L N s (put_accepted accepted))

pub nothing_changed : NothingIsChanged
nothing_changed s v l name L on h fresh = puts_set s l name L on (get L s.tables) h fresh ∙ read_then_put s v name L (lens_sent s l name L on (get L s.tables) h)

-- ---- previews

-- the answer to an edit, and the answer to its preview
abbrev Foretells : State → Answer × State → Answer → Type 0
Foretells s r a =
    (IsRefusal r.0 × (a ≡ r.0))
    ⊎ ((L : Lens) × (N : Rows) × (r.0 ≡ changed (changes L N s.tables) r.1.version) × (a ≡ changed (changes L N s.tables) s.version))

foretells_lens : (s : State) (L : Lens) (r : Result Rows EditRefusal) → ((why : EditRefusal) → r ≡ Err why → IsRefusal (told_answer why)) → Foretells s (settled r L s) (foretold r L s)
foretells_lens s L (Err why) h = inl (h why refl, refl)
foretells_lens s L (Ok N) h = inr (L, N, told s (put_rows L N s.tables) (changes L N s.tables), refl)

foretells_name : (s : State) (sent : Sent) (on : Option ℕ) (name : Name) (o : Option Lens) → Foretells s (changed_by sent on name o s) (about (λ L. foretold (asked_view s L sent on) L s) name o)
foretells_name s sent on name None = inl (tt, refl)
foretells_name s sent on name (Some L) = foretells_lens s L (asked_view s L sent on) (λ why e. (asked_refuses s L sent on why e).refusal)

pub previews_foretell : PreviewsForetell
unfolding answer
previews_foretell s l m name remove add on e f =
    subst (λ r. Foretells s (answer_request r s) (answer_request (request m) s).0) (sym e)
    (subst (λ r. Foretells s (answer_request (Ok (edit name remove add on)) s) (answer_request r s).0) (sym f)
    (foretells_name s (edited remove add) on name (finmap.get (catalogue s.texts) name)))
