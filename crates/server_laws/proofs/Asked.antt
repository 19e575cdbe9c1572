-- The new view that a change asks for is of the lens's sort.
use Rattle.std.proofs.Common.{◌≡◌, ℕ, Bool, true, false, List, Option, Some, None, Result, Ok, Err, inl, inr, refl, ap, subst, ◌∙◌}
use Rattle.serde_json.specs.Data.{Items}
use Rattle.plain_values.specs.SortedSet as set
use Rattle.plain_values.proofs.Common.{Row}
use Rattle.fd_laws.proofs.Common.{from_union, from_minus}
use Rattle.lens_laws.proofs.Common.{get_sort}
use Rattle.lens_specs.specs.Common.{Rows, minus, Sort, violating_row, Clash, violating_pair, IsOf, Lens, sort_of, get, new_view}
use Rattle.server_specs.specs.Common.{State, EditRefusal, Listed, in_rows, in_remove, in_add, BadRow, rows_in, Sent, whole, edited, as_set, set_in, edit_of, sent_view, is_stale, changed_at, unless_stale, unless_off, unless_clash, of_sort, tested, asked_view}
use Rattle.server_specs.proofs.Sent.{sent_fit}
use Rattle.server_laws.proofs.Stored.{IsHere}
use Rattle.server_laws.specs.PutLaws.{AllFit}

-- ---- the tests of a sort

not_off : (o : Option Row) (later : Result Rows EditRefusal) (N : Rows) → unless_off o later ≡ Ok N → (o ≡ None) × (later ≡ Ok N)
not_off None later N e = (refl, e)
not_off (Some row) later N e = cc

not_clash : (c : Option Clash) (M N : Rows) → unless_clash c M ≡ Ok N → (c ≡ None) × (M ≡ N)
not_clash None M N e = (refl, cc)
not_clash (Some c) M N e = cc

-- what passes is what was tested: the predicate refuses no row of it, and no rows clash
pub passed_sort : (t : Sort) (M N : Rows) → of_sort t M ≡ Ok N → (M ≡ N) × (violating_row t.predicate M ≡ None) × (violating_pair t.tree M ≡ None)
passed_sort t M N e =
    let a = not_off (violating_row t.predicate M) (unless_clash (violating_pair t.tree M) M) N e in
    let b = not_clash (violating_pair t.tree M) M N a.1 in
    (b.1, a.0, b.0)

-- and what is so passes
pub passes_sort : (t : Sort) (N : Rows) → violating_row t.predicate N ≡ None → violating_pair t.tree N ≡ None → of_sort t N ≡ Ok N
passes_sort t N none met = ap (λ o. unless_off o (unless_clash (violating_pair t.tree N) N)) none ∙ ap (λ c. unless_clash c N) met

-- the rows that come, if any do, are of the lens's sort
abbrev pub GivesTyped : Lens → Result Rows EditRefusal → Type 0
GivesTyped L r = (N : Rows) → r ≡ Ok N → IsOf N (sort_of L)

-- rows with the columns come so through the tests
pub sort_typed : (L : Lens) (M : Rows) → AllFit (sort_of L).columns M → GivesTyped L (of_sort (sort_of L) M)
sort_typed L M fits N e =
    let w = passed_sort (sort_of L) M N e in
    subst (λ R. IsOf R (sort_of L)) w.0 (record { columns = fits; off = w.1; clash = w.2 })

-- ---- the rows that are sent fit

set_ok : (which : Listed) (r : Result (List Row) BadRow) (N : Rows) → as_set which r ≡ Ok N → (rows : List Row) × (r ≡ Ok rows) × (set.from_list rows ≡ N)
set_ok which (Ok rows) N e = (rows, refl, cc)
set_ok which (Err bad) N e = cc

set_fits : (L : Lens) (which : Listed) (items : Items) (N : Rows) → set_in which (sort_of L).columns items ≡ Ok N → AllFit (sort_of L).columns N
set_fits L which items N e =
    let w = set_ok which (rows_in (sort_of L).columns items) N e in
    subst (AllFit (sort_of L).columns) w.2 (sent_fit (sort_of L).columns items w.0 w.1)

pub edit_ok : (old : Rows) (removed added : Result Rows EditRefusal) (N : Rows) → edit_of old removed added ≡ Ok N
    → (R : Rows) × (A : Rows) × (removed ≡ Ok R) × (added ≡ Ok A) × (new_view old (record { remove = R; add = A }) ≡ N)
edit_ok old (Err bad) added N e = cc
edit_ok old (Ok R) (Err bad) N e = cc
edit_ok old (Ok R) (Ok A) N e = (R, A, refl, refl, cc)

-- old rows that fit, less some, and new rows that fit
new_fits : (L : Lens) (V R A : Rows) → AllFit (sort_of L).columns V → AllFit (sort_of L).columns A → AllFit (sort_of L).columns (new_view V (record { remove = R; add = A }))
unfolding new_view
new_fits L V R A old new r i = elim (from_union (minus V R) A r i) [
  | inl j ↦ old r (from_minus V R r j).0
  | inr j ↦ new r j
]

pub sent_fits : (s : State) (L : Lens) → IsHere s L → (sent : Sent) (N : Rows) → sent_view sent L s ≡ Ok N → AllFit (sort_of L).columns N
sent_fits s L here (whole rows) N e = set_fits L in_rows rows N e
sent_fits s L here (edited remove add) N e =
    let w = edit_ok (get L s.tables) (set_in in_remove (sort_of L).columns remove) (set_in in_add (sort_of L).columns add) N e in
    subst (AllFit (sort_of L).columns) w.4 (new_fits L (get L s.tables) w.0 w.1 (get_sort L s.tables here.typed here.are).columns (set_fits L in_add add w.1 w.3))

-- ---- what is asked for

not_stale : (b : Bool) (at version : ℕ) (later : Result Rows EditRefusal) (N : Rows) → unless_stale b at version later ≡ Ok N → (b ≡ false) × (later ≡ Ok N)
not_stale true at version later N e = cc
not_stale false at version later N e = (refl, e)

-- the rows were sent, the version is not stale, and the rows pass the tests
pub record IsAsked (s : State) (L : Lens) (sent : Sent) (on : Option ℕ) (N : Rows) : Type 0 where
  pub view : Rows
  pub is : sent_view sent L s ≡ Ok view
  pub fresh : is_stale s L on ≡ false
  pub passes : of_sort (sort_of L) view ≡ Ok N

tested_is : (s : State) (L : Lens) (sent : Sent) (on : Option ℕ) (r : Result Rows EditRefusal) (N : Rows) → sent_view sent L s ≡ r → tested s L on r ≡ Ok N → IsAsked s L sent on N
tested_is s L sent on (Err bad) N is e = cc
tested_is s L sent on (Ok M) N is e =
    let w = not_stale (is_stale s L on) (changed_at s L) s.version (of_sort (sort_of L) M) N e in
    record { view = M; is = is; fresh = w.0; passes = w.1 }

-- rows with the columns come so through the tests of an import
pub read_typed : (s : State) (L : Lens) (on : Option ℕ) (M : Rows) → AllFit (sort_of L).columns M → GivesTyped L (tested s L on (Ok M))
read_typed s L on M fits N e = sort_typed L M fits N (not_stale (is_stale s L on) (changed_at s L) s.version (of_sort (sort_of L) M) N e).1

-- what comes through them is not stale
pub read_fresh : (s : State) (L : Lens) (on : Option ℕ) (M N : Rows) → tested s L on (Ok M) ≡ Ok N → is_stale s L on ≡ false
read_fresh s L on M N e = (not_stale (is_stale s L on) (changed_at s L) s.version (of_sort (sort_of L) M) N e).0

pub asked_is : (s : State) (L : Lens) (sent : Sent) (on : Option ℕ) (N : Rows) → asked_view s L sent on ≡ Ok N → IsAsked s L sent on N
asked_is s L sent on N e = tested_is s L sent on (sent_view sent L s) N refl e

-- what a change asks for is of the sort
pub asked_typed : (s : State) (L : Lens) → IsHere s L → (sent : Sent) (on : Option ℕ) → GivesTyped L (asked_view s L sent on)
asked_typed s L here sent on N e = let a = asked_is s L sent on N e in sort_typed L a.view (sent_fits s L here sent a.view a.is) N a.passes
