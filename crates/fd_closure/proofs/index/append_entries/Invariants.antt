use Rattle.std.proofs.Common.{◌≡◌, ◌++◌, take, map}
use Rattle.fd_closure.proofs.index.append_entries.Given as goal

abbrev pub invariant-loop-name : goal.invariant-loop-name
invariant-loop-name l = l.list.items ≡ l.fn.list.items ++ map (λ c. (c, l.place)) (take l.name-index l.names)
