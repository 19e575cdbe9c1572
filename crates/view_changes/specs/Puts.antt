-- What a change of a view comes to, as the code has it.
use Rattle.std.specs.Prelude.{◌≡◌, ℕ, Bool, true, false, ◌||◌, nat_lt, map, Option, Result, Ok, Err, Vec}
use Rattle.std.specs.declared.alloc.Global.{Global}
use Rattle.lens_specs.specs.Common.{Columns, changes, Lens, Tables, sort_of, Rows, IsOf}
use Rattle.lens_laws.specs.Finds.{AllFit}
use Rattle.request_text.specs.Answers.{edit_refusal_view}
use Rattle.server_specs.specs.Answer.{Answer, told}
use Rattle.server_specs.specs.EditRefusal.{EditRefusal, stale}
use Rattle.server_specs.specs.Changing.{changed_at, is_stale, of_sort}
use Rattle.server_specs.specs.State.{State}
use Rattle.signed_delta.specs.Tables.{table_delta}
use Rattle.signed_delta.specs.declared.delta.TableDelta.{TableDelta}
use Rattle.view_changes.specs.declared.refusal.Refusal.{Refusal}
use Rattle.view_changes.specs.declared.refusal.Refusal.TheVariants as refusal

-- The differences are those of the tables when the expected rows, which are of the lens's sort, are put; or the refusal is the expected
-- one, unless memory ran out.
abbrev pub IsPut : Lens → Tables → Result (Vec TableDelta Global) Refusal → Result Rows EditRefusal → Type 0
IsPut L db (Ok deltas) expected = (N : Rows) × (expected ≡ Ok N) × IsOf N (sort_of L) × (map table_delta deltas.items ≡ changes L N db)
IsPut L db (Err (refusal.Rejected why)) expected = expected ≡ Err (edit_refusal_view why)
IsPut L db (Err refusal.NoMemory) expected = Unit {0}

-- the answer tells the refusal, which is of no lack of memory
abbrev pub TellsRefusal : Answer → Refusal → Type 0
TellsRefusal answer (refusal.Rejected why) = answer ≡ told (edit_refusal_view why)
TellsRefusal answer refusal.NoMemory = ⊥

-- the rows are the expected ones, and fit the columns; or the refusal is the expected one, unless memory ran out
abbrev pub IsSet : Columns → Result Rows Refusal → Result Rows EditRefusal → Type 0
IsSet U (Ok rows) expected = (expected ≡ Ok rows) × AllFit U rows
IsSet U (Err (refusal.Rejected why)) expected = expected ≡ Err (edit_refusal_view why)
IsSet U (Err refusal.NoMemory) expected = Unit {0}

-- the change is not stale, or the refusal tells that it is, unless memory ran out
abbrev pub IsFresh : State → Lens → Option ℕ → Result (Unit {0}) Refusal → Type 0
IsFresh s L on (Ok done) = is_stale s L on ≡ false
IsFresh s L on (Err (refusal.Rejected why)) = (is_stale s L on ≡ true) × (edit_refusal_view why ≡ stale (changed_at s L) s.version)
IsFresh s L on (Err refusal.NoMemory) = Unit {0}

-- the new rows are of the lens's sort, or the refusal tells why they are not, unless memory ran out
abbrev pub IsTested : Lens → Rows → Result (Unit {0}) Refusal → Type 0
IsTested L N (Ok done) = IsOf N (sort_of L)
IsTested L N (Err (refusal.Rejected why)) = of_sort (sort_of L) N ≡ Err (edit_refusal_view why)
IsTested L N (Err refusal.NoMemory) = Unit {0}

-- whether the version on which a change rests is before the last change or after the present one
abbrev pub is_outside : ℕ → ℕ → ℕ → Bool
is_outside on changed_at version = nat_lt on changed_at || nat_lt version on
