-- From what a run promises to the law of runs.
use Rattle.std.proofs.Common.{◌≡◌, ◌≤◌, ◌+◌, ℕ, List, [], ◌∷◌, ◌++◌, map, ap, subst, sym, refl, ◌∙◌, arith, append-nil, inl, inr, Option, None, Some, Ok, IfSome, flat_map, min}
use Rattle.std.specs.FinMap as finmap
use Rattle.std.specs.Io.KnownBytes.{Appends, Consumes, IsAtEnd}
use Rattle.lens_io.proofs.Taken.{if_some}
use Rattle.lens_specs.specs.Common.{TableDelta, changes, differences, Lens, Tables, get, put, Name, Rows, AreDeltas, LeadTo}
use Rattle.lens_laws.proofs.Common.{AreDiffs}
use Rattle.server_specs.specs.Common.{Line, catalogue, Answer, changed, shown, text, answer, answer_request, edits_from, accept, about, find_told, finding_told, found_told, rows_with, BatchEdit, Chain, Exchange, Replies, Session, Step, answered, found_memory, last_state, not_stored, out_of_memory, State, Valid}
use Rattle.io_specs.specs.Lines.{lines}
use Rattle.server_laws.specs.Answers.{IsAccepted}
use Rattle.server_laws.specs.BatchLaws.{IsBatchLine}
use Rattle.server_laws.specs.ChangeLaws.{SendsView, by_rows, by_text}
use Rattle.server_laws.specs.PutLaws.{put_set}
use Rattle.server_laws.specs.SessionLaws.{answers}
use Rattle.server_laws.specs.SheetLaws.{IsExportLine, ReadsBack}
use Rattle.server_laws.proofs.AnswerFacts.{said}
use Rattle.server_laws.proofs.Batches.{accepted_tables, batch_is, batch_leads, batch_made, edits_lawful, nothing_made}
use Rattle.server_laws.proofs.Changes.{accepted_fresh, accepted_shows, lines_accepted, lines_differ, lines_tell, nothing_changed, puts_set}
use Rattle.server_laws.proofs.Led.{put_change, with_tables}
use Rattle.server_laws.proofs.NoLost.{no_export_lost, no_update_lost}
use Rattle.server_laws.proofs.Puts.{accepted_is}
use Rattle.server_laws.proofs.Stored.{lens_here}
use Rattle.server_laws.proofs.Recalled.{undo_restores}
use Rattle.server_laws.proofs.Returned.{exports_come_back}
use Rattle.server_laws.proofs.Sessions.{complete, read_otherwise}
use Rattle.server_laws.proofs.Valid.{valid_chain, valid_step}
use Rattle.opening_laws.proofs.Opened.{opened_at_start, opened_is_valid}
use Rattle.serving.specs.Exports.{AreReadBack, IsReadBack}
use Rattle.serving.specs.Running.{joined}
use Rattle.run_laws.specs.RunLaws.{EachFrom, ExportsComeBack, FindsFilter, IsLawful, IsLawfulBatch, RefusesAlone, RunsAreLawful}

-- a reply that reads as the answer left the answer's state
left_by : (s : State) (count : ℕ) (e : Exchange) → Replies s count e.line e.reply e.state e.count → e.reply ≡ text (answer s e.line).0 → e.state ≡ (answer s e.line).1
left_by s count e (found_memory (answered told is)) same = is
left_by s count e (found_memory (not_stored told is moved rose)) same = absurd ((read_otherwise s e.line).1 (sym same ∙ told))
left_by s count e (out_of_memory short told is) same = absurd ((read_otherwise s e.line).0 (sym same ∙ told))

lens_sent : (s : State) (l : Line) (name : Name) (L : Lens) (on : Option ℕ) (N : Rows) → SendsView s l name L on N → finmap.get (catalogue s.texts) name ≡ Some L
lens_sent s l name L on N (by_rows sent h view) = h.lens
lens_sent s l name L on N (by_text csv h rows) = h.lens

-- the changes of an accepted line are differences by rising names, none of them empty, that lead to the tables after it
changes_lead : (s : State) (l : Line) (name : Name) (L : Lens) (on : Option ℕ) (N : Rows) → Valid s → SendsView s l name L on N → IsAccepted (answer s l).0
    → AreDeltas (changes L N s.tables) × LeadTo (changes L N s.tables) s.tables (answer s l).1.tables
changes_lead s l name L on N v sends accepted =
    let fresh = accepted_fresh s l name L on N sends accepted in
    let puts : answer s l ≡ put_set N L s = puts_set s l name L on N sends fresh in
    let here = lens_here s v name L (lens_sent s l name L on N sends) in
    let change = put_change s L N v here ((lines_accepted s l name L on N sends v fresh).0 accepted) in
    let is : answer s l ≡ accept (put L N s.tables) (changes L N s.tables) s = puts ∙ accepted_is L N s (subst (λ r. IsAccepted r.0) puts accepted) in
    let tables : (answer s l).1.tables ≡ put L N s.tables = ap (λ r. r.1.tables) is ∙ with_tables s (changes L N s.tables) (put L N s.tables) change.leads in
    (change.deltas, subst (LeadTo (changes L N s.tables) s.tables) (sym tables) change.leads)

lawful : (s : State) (count : ℕ) (e : Exchange) → Valid s → Step s count e.line e.reply e.state e.count → IsLawful s count e
lawful s count e v step = record {
  typed = λ name L on N h. lines_accepted s e.line name L on N h v;
  put_get = λ name L on N h. ap (λ t. get L t.tables) (left_by s count e step.replied h.told) ∙ accepted_shows s e.line name L on N h.sends v h.accepted;
  told = λ name L on N h.
      h.told ∙ ap text (lines_tell s e.line name L on N h.sends h.accepted)
      ∙ ap (λ t. text (changed (changes L N s.tables) t.version)) (sym (left_by s count e step.replied h.told));
  exact = λ name L on N h.
      let left = left_by s count e step.replied h.told in
      let leads = changes_lead s e.line name L on N v h.sends h.accepted in
      subst (λ t. AreDeltas (changes L N s.tables) × LeadTo (changes L N s.tables) s.tables t.tables × AreDiffs s.tables t.tables (changes L N s.tables)) (sym left)
      (leads.0, leads.1, (lines_differ s e.line name L on N h.sends h.accepted).1);
  get_put = λ name L on h.
      let same : (answer s e.line).1 ≡ s = ap (λ r. r.1) (nothing_changed s v e.line name L on h.sends (accepted_fresh s e.line name L on (get L s.tables) h.sends h.accepted)) in
      (left_by s count e step.replied h.told ∙ same, step.still same);
}

-- ---- batches

-- a batch that leaves the tables leaves the state, whichever differences it tells
left_as_it_was : (s : State) (l : Line) (edits : List BatchEdit) (on : Option ℕ) (db : Tables) (ds : List TableDelta) → IsBatchLine l edits on → edits_from 0 on s edits s.tables ≡ Ok db
    → answer s l ≡ accept db ds s → (answer s l).1.tables ≡ s.tables → (answer s l).1 ≡ s
left_as_it_was s l edits on db [] asked is answers same = ap (λ r. r.1) answers
left_as_it_was s l edits on db (d ∷ ds) asked is answers same =
    let unmoved : db ≡ s.tables = sym (ap (λ r. r.1.tables) answers) ∙ same in
    ap (λ r. r.1) (nothing_made s l edits on asked (is ∙ ap Ok unmoved))

batch_still : (s : State) (l : Line) (edits : List BatchEdit) (on : Option ℕ) → IsBatchLine l edits on × IsAccepted (answer s l).0 → (answer s l).1.tables ≡ s.tables → (answer s l).1 ≡ s
batch_still s l edits on a same =
    let w = accepted_tables s l edits on a.0 a.1 in
    left_as_it_was s l edits on w.0 (differences (finmap.keys s.tables) s.tables w.0) a.0 w.1 (batch_is s l edits on (Ok w.0) a.0 w.1) same

lawful_batch : (s : State) (count : ℕ) (e : Exchange) → Valid s → Step s count e.line e.reply e.state e.count → IsLawfulBatch s count e
lawful_batch s count e v step = record {
  made = λ edits on h.
      let w = batch_made s v e.line edits on h.sends h.accepted in
      (w.0, w.1, edits_lawful s v e.line edits on h.sends h.accepted w.0 w.1, ap (λ t. t.tables) (left_by s count e step.replied h.told) ∙ w.2);
  told = λ edits on h.
      h.told ∙ ap text (batch_made s v e.line edits on h.sends h.accepted).3
      ∙ ap (λ t. text (changed (differences (finmap.keys s.tables) s.tables t.tables) t.version)) (sym (left_by s count e step.replied h.told));
  exact = λ edits on h.
      subst (λ t. AreDeltas (differences (finmap.keys s.tables) s.tables t.tables) × LeadTo (differences (finmap.keys s.tables) s.tables t.tables) s.tables t.tables)
      (sym (left_by s count e step.replied h.told)) (batch_leads s v e.line edits on h.sends h.accepted);
  still = λ edits on h same.
      let left = left_by s count e step.replied h.told in
      let stays : (answer s e.line).1 ≡ s = batch_still s e.line edits on (h.sends, h.accepted) (sym (ap (λ t. t.tables) left) ∙ same) in
      (left ∙ stays, step.still stays);
}

-- ---- finds, and what changes nothing

-- a line whose answer leaves the state leaves it, whatever its reply
left_alone : (s : State) (count : ℕ) (e : Exchange) → Replies s count e.line e.reply e.state e.count → (answer s e.line).1 ≡ s → e.state ≡ s
left_alone s count e (found_memory (answered told is)) stays = is ∙ stays
left_alone s count e (found_memory (not_stored told is moved rose)) stays = is
left_alone s count e (out_of_memory short told is) stays = is

finds_filter : (s : State) (count : ℕ) (e : Exchange) → Valid s → Step s count e.line e.reply e.state e.count → FindsFilter s count e
unfolding answer
finds_filter s count e v step name column json L finds kind column_is value value_is told =
    let filters : answer s e.line ≡ (shown (rows_with column value (get L s.tables)) s.version, s) =
    ap (λ r. answer_request r s) finds.asked ∙ ap (λ o. (about (finding_told s column json) name o, s)) finds.named
    ∙ ap (λ o. (find_told s L column json o, s)) column_is ∙ ap (λ o. (found_told s L column o, s)) value_is in
    let stays : (answer s e.line).1 ≡ s = ap (λ r. r.1) filters in
    (told ∙ ap (λ r. text r.0) filters, left_alone s count e step.replied stays, step.still stays)

refuses_alone : (s : State) (count : ℕ) (e : Exchange) → Valid s → Step s count e.line e.reply e.state e.count → RefusesAlone s count e
refuses_alone s count e v step h =
    let stays : (answer s e.line).1 ≡ s = elim h [ inl refuses ↦ (said s e.line).refusal refuses | inr asks ↦ (said s e.line).asked asks ] in
    (left_alone s count e step.replied stays, step.still stays)

-- ---- sessions

each_from : (P : State → ℕ → Exchange → Type 0) → ((s : State) (count : ℕ) (e : Exchange) → Valid s → Step s count e.line e.reply e.state e.count → P s count e)
    → (s : State) (count : ℕ) (es : List Exchange) → Valid s → Chain s count es → EachFrom P s count es
each_from P f s count [] v c = tt
each_from P f s count (e ∷ es) v c =
    (f s count e v c.0, each_from P f e.state e.count es (valid_step s count e.line e.reply e.state e.count v c.0.replied) c.1)

-- ---- exports

-- what an exchange exports reads back, unless its reply is that of memory
back_at : (s : State) (before : List Exchange) (e : Exchange) (after : List Exchange) → AreReadBack s (before ++ e ∷ after) → IsReadBack (last_state s before) e
back_at s [] e after h = h.0
back_at s (x ∷ before) e after h = back_at x.state before e after h.1

reads_back : (s : State) (e : Exchange) (name : Name) (L : Lens) → IsReadBack s e → IsExportLine s e.line name L → e.reply ≡ text (answer s e.line).0 → ReadsBack L s.tables
reads_back s e name L back line told = elim (back name L line) [
  | inl short ↦ absurd ((read_otherwise s e.line).0 (sym told ∙ short))
  | inr reads ↦ reads
]

come_back : (s : State) (count : ℕ) (lines : List Line) (replies : List (List ℕ)) (last : State) (count' : ℕ) → Valid s → (session : Session s count lines replies last count') → AreReadBack s session.exchanges
    → ExportsComeBack s session.exchanges
come_back s count lines replies last count' v session back before between after e f parts name L csv version on h =
    exports_come_back s count lines replies last count' v session before between after e f parts name L csv version on (record {
      line = h.line;
      told = h.answered;
      back = reads_back (last_state s before) e name L (back_at s before e (between ++ f ∷ after) (subst (AreReadBack s) parts back)) h.line h.told;
      asked = h.asked;
      unmoved = h.unmoved;
      fresh = h.fresh;
    })

-- ---- what was given

-- texts one after another
joined_texts : (xs : List Answer) → joined (map text xs) ≡ flat_map text xs
joined_texts [] = refl
joined_texts (a ∷ xs) = ap (λ rest. text a ++ rest) (joined_texts xs)

-- what came from a source that tells its bytes, and is at its end, are all of them
all_came : (left left' : Option (List ℕ)) (came : List ℕ) → Consumes left left' came → IsAtEnd left' → IfSome left (λ bytes. came ≡ bytes)
all_came None left' came c e = tt
all_came (Some bytes) None came c e = absurd c
all_came (Some bytes) (Some rest) came c e = sym (c ∙ ap (λ r. came ++ r) e ∙ append-nil came)

-- a count that rose after the load rose in the run
rose_since : (top count start count' : ℕ) → count ≤ start → min (start + 1) top ≤ count' → min (count + 1) top ≤ count'
rose_since top count start count' h r = omega arith

pub runs_are_lawful : RunsAreLawful
runs_are_lawful s stays status left left' given given' asked asked' offered offered' count count' contents contents' calls calls' walked walked' run =
    let serves = run.serves in
    let session = serves.session in
    let v : Valid run.first = opened_is_valid run.loads.loaded run.first run.loads.opens in
    let new : run.first.past ≡ [] = ap (λ (t : State). t.past) (opened_at_start run.loads.loaded run.first run.loads.opens) in (
      record {
        opened = v;
        valid = (valid_chain run.first run.start session.exchanges v session.chain).0;
        lawful = each_from IsLawful lawful run.first run.start session.exchanges v session.chain;
        batches = each_from IsLawfulBatch lawful_batch run.first run.start session.exchanges v session.chain;
        finds = each_from FindsFilter finds_filter run.first run.start session.exchanges v session.chain;
        refusals = each_from RefusesAlone refuses_alone run.first run.start session.exchanges v session.chain;
        updates = no_update_lost run.first run.start serves.taken serves.replies serves.last count' v session;
        updates_of_exports = no_export_lost run.first run.start serves.taken serves.replies serves.last count' v session;
        undos = λ before after e parts taken. undo_restores run.first run.start serves.taken serves.replies serves.last count' v new session before after e parts taken;
        exports = come_back run.first run.start serves.taken serves.replies serves.last count' v session serves.exports;
      },
      λ quiet gave found.
          let all = (complete run.first run.start serves.taken serves.replies serves.last count' session (λ r. quiet (rose_since _ count run.start count' run.loads.later r)) found).0 in
          subst (Appends given given') (ap joined all ∙ joined_texts (answers run.first serves.taken)) (serves.all_replies gave),
      λ zero.
          let ended = serves.all_lines zero in
          if_some left (λ bytes. serves.came ≡ bytes) (λ bytes. serves.taken ≡ lines bytes) (λ bytes is. ended.0 ∙ ap lines is) (all_came left left' serves.came serves.consumed ended.1),
    )
