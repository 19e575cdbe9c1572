-- The four stages of a rehearsal, one after another.
use Rattle.std.proofs.Common.{◌≡◌, ◌≤◌, ◌<◌, ◌+◌, ◌-◌, ◌*◌, ◌^◌, ℕ, List, ◌++◌, ap, arith, length-append, flat_map}
use Rattle.server_specs.specs.Common.{Line}
use Rattle.rehearsal.specs.Rehearsal.{below, definition_lines, read_lines, rehearsal, table_lines, view_lines}
use Rattle.rehearsal.specs.Rehearsed.{Rehearsed}
use Rattle.rehearsal.specs.Stages.{Point, Passes, Halted, HasRoom, Shows}
use Rattle.rehearsal.specs.Summary.{rows_data, summary_line}
use Rattle.rehearsal.specs.Walking.{most_looked_in}
use Rattle.rehearsal.specs.declared.tally.Tally.{Tally}
use Rattle.rehearsal.specs.declared.tally.Shown.{Shown}
use Rattle.rehearsal.proofs.Last.{Rehearsed-Passed}
use Rattle.rehearsal.proofs.Loops.{length-table_lines, length-view_lines}
use Rattle.rehearsal.proofs.Points.{Halted-after, Halted-early, Halted-last, Passed-append, Room-Passed}

-- the edits of the tables
abbrev tables : ℕ → List Line
tables n = flat_map (table_lines n) (below n)

-- the edits of the view
abbrev views : ℕ → List Line
views n = flat_map view_lines (below n)

-- ---- stages that went through

abbrev Passes-two : (a b c : Point) (n : ℕ) → Passes a definition_lines b → Passes b (tables n) c → Passes a (definition_lines ++ tables n) c
Passes-two a b c n p q = (p.0 ++ q.0, Passed-append a b c definition_lines (tables n) p.0 q.0 p.1 q.1)

abbrev Passes-three : (a b c d : Point) (n : ℕ) → Passes a definition_lines b → Passes b (tables n) c → Passes c (views n) d → Passes a (definition_lines ++ tables n ++ views n) d
Passes-three a b c d n p q r = let two = Passes-two a b c n p q in (two.0 ++ r.0, Passed-append a c d (definition_lines ++ tables n) (views n) two.0 r.0 two.1 r.1)

-- ---- room

pub Room-first : (version n : ℕ) (t : Tally) → t ≡ record { accepted = 0; refused = 0 } → version + 3 * n + 6 < 2 ^ 64 - 1 → HasRoom version t (3 * n + 6)
Room-first version n t zero few = record {
  version_fits = omega (arith, few);
  accepted_fits = omega (arith, few, ap (λ x. x.accepted) zero);
  refused_fits = omega (arith, few, ap (λ x. x.refused) zero);
}

pub Room-tables : (a b : Point) (n : ℕ) → HasRoom a.state.version a.tally (3 * n + 6) → Passes a definition_lines b → HasRoom b.state.version b.tally (2 * n)
unfolding definition_lines
Room-tables a b n room p = Room-Passed a b definition_lines p.0 (3 * n + 6) (2 * n) room p.1 (omega arith)

pub Room-view : (a b c : Point) (n : ℕ) → HasRoom a.state.version a.tally (3 * n + 6) → Passes a definition_lines b → Passes b (tables n) c → HasRoom c.state.version c.tally n
unfolding definition_lines
Room-view a b c n room p q =
    let all = Passes-two a b c n p q in
    Room-Passed a c (definition_lines ++ tables n) all.0 (3 * n + 6) n room all.1 (omega (arith, length-append definition_lines (tables n), length-table_lines n n))

pub Room-reads : (a b c d : Point) (n : ℕ) → HasRoom a.state.version a.tally (3 * n + 6) → Passes a definition_lines b → Passes b (tables n) c → Passes c (views n) d → HasRoom d.state.version d.tally 3
unfolding definition_lines
Room-reads a b c d n room p q r =
    let all = Passes-three a b c d n p q r in
    Room-Passed a d (definition_lines ++ tables n ++ views n) all.0 (3 * n + 6) 3 room all.1
    (omega (arith, length-append definition_lines (tables n), length-append (definition_lines ++ tables n) (views n), length-table_lines n n, length-view_lines n))

-- ---- where it stops

pub Halted-define : (a b : Point) (n : ℕ) → Halted a definition_lines b → Halted a (rehearsal n) b
unfolding rehearsal
Halted-define a b n h =
    Halted-early a b (definition_lines ++ tables n ++ views n) read_lines (Halted-early a b (definition_lines ++ tables n) (views n) (Halted-early a b definition_lines (tables n) h))

pub Halted-tables : (a b c : Point) (n : ℕ) → Passes a definition_lines b → Halted b (tables n) c → Halted a (rehearsal n) c
unfolding rehearsal
Halted-tables a b c n p h =
    Halted-early a c (definition_lines ++ tables n ++ views n) read_lines (Halted-early a c (definition_lines ++ tables n) (views n) (Halted-after a b c definition_lines (tables n) p.0 p.1 h))

pub Halted-view : (a b c d : Point) (n : ℕ) → Passes a definition_lines b → Passes b (tables n) c → Halted c (views n) d → Halted a (rehearsal n) d
unfolding rehearsal
Halted-view a b c d n p q h =
    let two = Passes-two a b c n p q in
    Halted-early a d (definition_lines ++ tables n ++ views n) read_lines (Halted-after a c d (definition_lines ++ tables n) (views n) two.0 two.1 h)

pub Halted-reads : (a b c d e : Point) (n : ℕ) → Passes a definition_lines b → Passes b (tables n) c → Passes c (views n) d → Halted d read_lines e → Halted a (rehearsal n) e
unfolding rehearsal
Halted-reads a b c d e n p q r h = let three = Passes-three a b c d n p q r in Halted-after a d e (definition_lines ++ tables n ++ views n) read_lines three.0 three.1 h

-- at the summary
pub Halted-summary : (a b c d e : Point) (n : ℕ) (shown : Shown) → Passes a definition_lines b → Passes b (tables n) c → Passes c (views n) d → Shows d read_lines shown e → Halted a (rehearsal n) e
Halted-summary a b c d e n shown p q r s = Halted-reads a b c d e n p q r (Halted-last d e read_lines s.0 s.1)

-- ---- the end

pub Rehearsed-reads : (a b c d e : Point) (n : ℕ) (shown : Shown) (told : List ℕ) → a.tally ≡ record { accepted = 0; refused = 0 } → Passes a definition_lines b → Passes b (tables n) c → Passes c (views n) d
    → Shows d read_lines shown e → told ≡ summary_line e.tally.accepted e.tally.refused (rows_data shown.albums shown.tracks shown.stock) e.state.version
    → (done : Rehearsed a.state a.faults (rehearsal n) told e.state e.faults a.calls e.calls a.walked e.walked) × (e.looked ≤ a.looked + most_looked_in a.state done.session.exchanges)
unfolding rehearsal
Rehearsed-reads a b c d e n shown told zero p q r s is =
    let three = Passes-three a b c d n p q r in
    Rehearsed-Passed a d e (definition_lines ++ tables n ++ views n) three.0 shown told zero three.1 s is
