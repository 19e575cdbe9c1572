use Rattle.std.proofs.Common.{◌≡◌, ◌∙◌, ap, arith, map, string_bytes}
use Rattle.server_specs.specs.Common.{marked}
use Rattle.rehearsal.specs.Rehearsal.{definition_lines}
use Rattle.rehearsal.proofs.Loops.{length-made}
use Rattle.rehearsal.proofs.Points.{Halted-first, Room-less, on_err}
use Rattle.rehearsal.proofs.rehearsing.define.Goals as goal

pub returns-in_err-lines-clause-halted : goal.returns-in_err-lines-clause-halted
returns-in_err-lines-clause-halted g c = on_err c.from_residual.result _ (Halted-first _ _ c.requires.told)

pub ask_each-requires-clause-room : goal.ask_each-requires-clause-room
unfolding definition_lines
ask_each-requires-clause-room g c =
    let made : map (λ line. marked (string_bytes line)) c.as_slice.result.now ≡ definition_lines = ap (map (λ line. marked (string_bytes line))) c.as_slice.ensures.value ∙ c.in_ok-lines.ensures in
    Room-less _ _ 3 _ c.requires.room (omega (arith, length-made _ _ made))
