-- Sessions over the example: a batch of one edit adds a row to the view, and so changes a table. Before it the view is read; after it
-- that is undone.
use Rattle.std.specs.FinMap as finmap
use Rattle.plain_values.specs.SortedSet as set
use Rattle.server_specs.specs.EditRefusal as refusals
use Rattle.std.proofs.Common.{◌≡◌, cond, codes, List, [], ◌∷◌, Some, None, is_some, Ok, refl, sym, ap, subst, ◌∙◌, arith, false, inl, inr, ◌+◌, ◌-◌, length, pos, nat_eq, slice_get}
use Rattle.plain_values.proofs.Common.{chars, is_utf8, int_fits, absurd_false, ne_eqb}
use Rattle.serde_json.proofs.OnLiterals.{serde_json_on_literals}
use Rattle.serde_json.specs.Data.{unsigned, number, object, Items, no_items, item, Members, no_members, member}
use Rattle.plain_values.specs.declared.value.Value.TheVariants.{Int}
use Rattle.lens_specs.specs.Common.{has, get, put as put_rows, TableDelta, changes, Delta, new_view, sort_of}
use Rattle.server_specs.specs.Common.{Line, line, shown, text, told, read, request, BatchEdit, batch, edit, undo, pairs_in, with_pair, with_row, rows_in, as_set, accept, edit_of, edited, answer, Step, answered, found_memory, Exchange, EditRefusal, in_add, undone}
use Rattle.server_specs.specs.Sending.{row_from}
use Rattle.server_laws.proofs.Changes.{lines_read, puts_set}
use Rattle.server_laws.proofs.Example.{v, V, W, N, state, valid, known_view, row, there, all_fit, accepted, is_new, rest, rest_is, one_entry}
use Rattle.server_laws.proofs.Puts.{accepted_is, put_then_read}
use Rattle.server_laws.proofs.Stale.{present_fresh}
use Rattle.server_laws.proofs.Stored.{lens_here}
use Rattle.server_laws.specs.Answers.{IsAccepted, IsChange}
use Rattle.server_laws.specs.ChangeLaws.{SendsView, by_rows}
use Rattle.server_laws.specs.PutLaws.{put_set}
use Rattle.server_laws.specs.UpdateLaws.{in_batch}
use Rattle.server_laws.specs.Witness.{UpdatesCanRest, BatchesCanChange, UndosCanRestore}
use Rattle.fd_laws.proofs.Common.{name_total, same_rel}
use Rattle.lens_laws.proofs.Common.{from_new_view, in_new_view_added}
use Rattle.server_laws.proofs.Batches.{one_edit_is}
use Rattle.server_laws.proofs.Recalled.{move_of_undo, remembered_last, undo_is}
use Rattle.server_laws.proofs.OneEdge.{a}

-- ---- the lines

abbrev read_line : Line
read_line = line (codes "{\"do\":\"read\",\"view\":\"v\"}")

abbrev pub batch_line : Line
batch_line = line (codes "{\"do\":\"batch\",\"edits\":[{\"add\":[{\"a\":1}],\"remove\":[],\"view\":\"v\"}],\"on\":2}")

-- that of the edit alone
abbrev edit_line : Line
edit_line = line (codes "{\"add\":[{\"a\":1}],\"do\":\"edit\",\"on\":2,\"remove\":[],\"view\":\"v\"}")

abbrev undo_line : Line
undo_line = line (codes "{\"do\":\"undo\"}")

abbrev members : Members
members = member a (number (unsigned 1)) no_members

abbrev items : Items
items = item (object members) no_items

abbrev one : BatchEdit
one = record { view = v; remove = no_items; add = items }

read_asked : request read_line ≡ Ok (read v)
unfolding request is_utf8 chars serde_json_on_literals
read_asked = refl

batch_asked : request batch_line ≡ Ok (batch (one ∷ []) (Some 2))
unfolding request is_utf8 chars serde_json_on_literals
batch_asked = refl

edit_asked : request edit_line ≡ Ok (edit v no_items items (Some 2))
unfolding request is_utf8 chars serde_json_on_literals
edit_asked = refl

undo_asked : request undo_line ≡ Ok undo
unfolding request is_utf8 chars serde_json_on_literals
undo_asked = refl

-- ---- the new view

rows_are : rows_in (sort_of V).columns items ≡ Ok (row ∷ [])
rows_are = ap (λ C. rows_in C items) rest_is
    ∙ ap (λ es. with_row (row_from (pairs_in es members) (cond (is_some (finmap.get W a)) None (Some a))) (Ok [])) one_entry
    ∙ ap (λ o. with_row (row_from (pairs_in rest members) (cond (is_some o) None (Some a))) (Ok [])) (finmap.get-from_entries name_total rest a)
    ∙ ap (λ b. with_row (row_from (with_pair a (cond b (Some (Int (pos 1))) None) (Ok [])) None) (Ok [])) (int_fits (pos 1))

abbrev d : Delta
d = record { remove = set.from_list []; add = N }

-- the view has no row, so that the new one has those that are added
new_is : new_view (get V state.tables) d ≡ N
new_is = same_rel _ _ (λ r i. elim (from_new_view (get V state.tables) d r i) [ inl old ↦ absurd_false _ old.0 (is_new r) | inr new ↦ new ])
    (λ r i. in_new_view_added (get V state.tables) d r i)

sends : SendsView state edit_line v V (Some 2) N
sends = by_rows (edited no_items items) (record { asked = edit_asked; lens = known_view })
    (ap (λ rows. edit_of (get V state.tables) (Ok (set.from_list [])) (as_set in_add rows)) rows_are ∙ ap Ok new_is)

-- ---- the answers

read_is : answer state read_line ≡ (shown (get V state.tables) 2, state)
read_is = lines_read state read_line v V (record { asked = read_asked; lens = known_view })

edit_is : answer state edit_line ≡ put_set N V state
edit_is = puts_set state edit_line v V (Some 2) N sends (present_fresh state valid V)

refused_not : (why : EditRefusal) → IsAccepted (told why) → ⊥
refused_not (refusals.unknown_name name) h = h
refused_not why h = h

pub batch_is : answer state batch_line ≡ put_set N V state
batch_is = elim (one_edit_is state valid batch_line edit_line one (Some 2) batch_asked edit_asked) [
  | inl same ↦ same ∙ edit_is
  | inr other ↦ absurd (refused_not other.0 (subst (λ r. IsAccepted r.0) (sym edit_is ∙ other.2) accepted))
]

taken : IsAccepted (answer state batch_line).0
taken = subst (λ r. IsAccepted r.0) (sym batch_is) accepted

-- the row is new, so that a table changes
moves : (ds : List TableDelta) → put_set N V state ≡ accept (put_rows V N state.tables) ds state → IsChange (put_set N V state).0
moves [] e =
    let same : get V state.tables ≡ N = ap (λ r. get V r.1.tables) (sym e) ∙ put_then_read state V N (lens_here state valid v V known_view) all_fit accepted in
    absurd_false _ there (ap (λ M. has M row) (sym same) ∙ is_new row)
moves (d ∷ ds) e = subst (λ r. IsChange r.0) (sym e) tt

changes_it : IsChange (answer state batch_line).0
changes_it = subst (λ r. IsChange r.0) (sym batch_is) (moves (changes V N state.tables) (accepted_is V N state accepted))

-- ---- the sessions

abbrev reading : Exchange
reading = record { line = read_line; reply = text (answer state read_line).0; state = state; count = 0 }

abbrev pub changing : Exchange
changing = record { line = batch_line; reply = text (answer state batch_line).0; state = (answer state batch_line).1; count = 0 }

abbrev undoing : Exchange
undoing = record { line = undo_line; reply = text (answer changing.state undo_line).0; state = (answer changing.state undo_line).1; count = 0 }

read_step : Step state 0 reading.line reading.reply reading.state 0
read_step = record { later = omega arith; still = λ _. refl; replied = found_memory (answered refl (sym (ap (λ r. r.1) read_is))) }

batch_step : Step state 0 changing.line changing.reply changing.state 0
batch_step = record { later = omega arith; still = λ _. refl; replied = found_memory (answered refl refl) }

undo_step : Step changing.state 0 undoing.line undoing.reply undoing.state 0
undo_step = record { later = omega arith; still = λ _. refl; replied = found_memory (answered refl refl) }

pub batches_can_change : BatchesCanChange
batches_can_change = record {
  state = state;
  valid = valid;
  lines = batch_line ∷ [];
  replies = changing.reply ∷ [];
  last = changing.state;
  session = record { exchanges = changing ∷ []; chain = (batch_step, tt); lines_are = refl; replies_are = refl; last_is = refl; count_is = refl };
  changing = changing;
  exchanges = refl;
  edits = one ∷ [];
  on = Some 2;
  sends = batch_asked;
  accepted = taken;
  told = refl;
  changes = changes_it;
}

pub updates_can_rest : UpdatesCanRest
updates_can_rest = record {
  state = state;
  valid = valid;
  lines = read_line ∷ batch_line ∷ [];
  replies = reading.reply ∷ changing.reply ∷ [];
  last = changing.state;
  session = record { exchanges = reading ∷ changing ∷ []; chain = (read_step, (batch_step, tt)); lines_are = refl; replies_are = refl; last_is = refl; count_is = refl };
  reading = reading;
  changing = changing;
  exchanges = refl;
  name = v;
  lens = V;
  known = known_view;
  view = λ table. refl;
  rows = get V state.tables;
  version = 2;
  rests = record { asked = read_asked; told = ap (λ r. r.0) read_is; rests = in_batch (one ∷ []) batch_asked (inl refl); accepted = taken };
  changes = changes_it;
}

-- ---- the undo raises the version

-- after an accepted put that changes a table there is a change that can be undone
left : (ds : List TableDelta) → IsChange (accept (put_rows V N state.tables) ds state).0
    → (cs : List TableDelta) × (slice_get (accept (put_rows V N state.tables) ds state).1.past (length (accept (put_rows V N state.tables) ds state).1.past - 1) ≡ Some cs)
left [] h = absurd h
left (d ∷ ds) h = (d ∷ ds, remembered_last (d ∷ ds) state.past)

there_is : (cs : List TableDelta) × (slice_get changing.state.past (length changing.state.past - 1) ≡ Some cs)
there_is =
    let is = batch_is ∙ accepted_is V N state accepted in
    subst (λ r. (cs : List TableDelta) × (slice_get r.1.past (length r.1.past - 1) ≡ Some cs)) (sym is)
    (left (changes V N state.tables) (subst (λ r. IsChange r.0) is changes_it))

raises : nat_eq changing.state.version undoing.state.version ≡ false
raises =
    let is : undoing.state ≡ (undone (Some there_is.0) changing.state).1 = ap (λ r. r.1) (undo_is changing.state undo_line undo_asked) ∙ ap (λ o. (undone o changing.state).1) there_is.1 in
    ap (λ s. nat_eq changing.state.version s.version) is ∙ ne_eqb changing.state.version (changing.state.version + 1) (λ e. omega arith)

pub undos_can_restore : UndosCanRestore
undos_can_restore = record {
  state = state;
  valid = valid;
  none = refl;
  lines = batch_line ∷ undo_line ∷ [];
  replies = changing.reply ∷ undoing.reply ∷ [];
  last = undoing.state;
  session = record { exchanges = changing ∷ undoing ∷ []; chain = (batch_step, (undo_step, tt)); lines_are = refl; replies_are = refl; last_is = refl; count_is = refl };
  changing = changing;
  undoing = undoing;
  exchanges = refl;
  changes = changes_it;
  undoes = move_of_undo changing.state undoing.state undo_line undo_asked raises;
}
