use Rattle.std.proofs.Common.{◌≡◌, ◌∙◌, [], refl, ◌*◌, ap, arith, map, string_bytes}
use Rattle.server_specs.specs.Common.{marked}
use Rattle.rehearsal.specs.Rehearsal.{table_lines}
use Rattle.rehearsal.proofs.Loops.{Halted-between, Halted-more, Passes-more, length-made, length-table_lines}
use Rattle.rehearsal.proofs.Points.{Passed-nil, Room-Passed, Room-less, on_err}
use Rattle.rehearsal.proofs.rehearsing.fill_tables.Goals as goal

pub loop-i-init : goal.loop-i-init
loop-i-init g c = record { passes = ([], Passed-nil _ c.requires.told); place = refl }

pub returns-in_err-lines-clause-halted : goal.returns-in_err-lines-clause-halted
returns-in_err-lines-clause-halted g c = on_err c.from_residual.result _ (Halted-between _ _ (table_lines c.args.number) c.loop-i.i c.args.number (omega arith) c.loop-i.invariant.passes)

pub ask_each-requires-clause-room : goal.ask_each-requires-clause-room
ask_each-requires-clause-room g c =
    let made : map (λ line. marked (string_bytes line)) c.as_slice.result.now ≡ table_lines c.args.number c.loop-i.i = ap (map (λ line. marked (string_bytes line))) c.as_slice.ensures.value ∙ c.in_ok-lines.ensures in
    let few = length-table_lines c.args.number c.loop-i.i in
    Room-less _ _ 2 _ (Room-Passed _ _ _ c.loop-i.invariant.passes.0 (2 * c.args.number) 2 c.requires.room c.loop-i.invariant.passes.1 (omega (arith, few))) (omega (arith, length-made _ _ made))

pub returns-in_err-ask_each-clause-halted : goal.returns-in_err-ask_each-clause-halted
returns-in_err-ask_each-clause-halted g c =
    let made : map (λ line. marked (string_bytes line)) c.as_slice.result.now ≡ table_lines c.args.number c.loop-i.i = ap (map (λ line. marked (string_bytes line))) c.as_slice.ensures.value ∙ c.in_ok-lines.ensures in
    on_err c.from_residual-in_err-ask_each.result _ (Halted-more _ _ _ (table_lines c.args.number) c.loop-i.i c.args.number _ (omega arith) made c.loop-i.invariant.passes c.in_err-ask_each.ensures.halted)

pub loop-i-preserved : goal.loop-i-preserved
loop-i-preserved g c =
    let made : map (λ line. marked (string_bytes line)) c.as_slice.result.now ≡ table_lines c.args.number c.loop-i.i = ap (map (λ line. marked (string_bytes line))) c.as_slice.ensures.value ∙ c.in_ok-lines.ensures in
    record {
      passes = Passes-more _ _ _ (table_lines c.args.number) c.loop-i.i _ made c.loop-i.invariant.passes c.in_ok-ask_each.ensures.done;
      place = c.in_ok-ask_each.ensures.place ∙ c.loop-i.invariant.place;
    }

pub returns-clause-done : goal.returns-clause-done
returns-clause-done g c = let all : c.loop-i.i ≡ c.args.number = omega arith in rw all at c.loop-i.invariant.passes
