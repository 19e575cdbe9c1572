use Rattle.std.proofs.Common.{◌≡◌, take, IfSome}
use Rattle.view_reading.specs.Pasting.{HasNames, near_in, parts_by}
use Rattle.view_reading.proofs.joining.Index.parts.Given as goal

abbrev pub invariant-loop-row : goal.invariant-loop-row
invariant-loop-row l =
    (l.parts.items ≡ parts_by l.kept l.places l.self.cols l.self.entries.items (take l.row-index l.row-items))
    × (IfSome l.before (λ b. l.near.entries.now ≡ near_in l.self.entries.items l.self.cols b.now) × IfSome l.before (λ b. HasNames l.left.cols.now b.now))
