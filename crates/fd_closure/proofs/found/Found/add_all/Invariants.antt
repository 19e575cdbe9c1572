use Rattle.std.proofs.Common.{◌≡◌, length, take, ◌||◌}
use Rattle.lens_specs.specs.Common.{Name, is_among}
use Rattle.fd_closure.specs.Arrival.{IsKept}
use Rattle.fd_closure.proofs.found.Found.add_all.Given as goal

abbrev pub invariant-loop-name : goal.invariant-loop-name
invariant-loop-name l = record {
  kept : IsKept l.self;
  front : take (length l.fn.self.order.items) l.self.order.items ≡ l.fn.self.order.items;
  members : (c : Name) → is_among c l.self.order.items ≡ (is_among c l.fn.self.order.items || is_among c (take l.name-index l.names));
}
