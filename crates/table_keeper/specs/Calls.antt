-- A keeper in memory whose listed calls fail: its calls and its faults.
use Rattle.std.specs.Prelude.{ℕ, ◌+◌, ◌-◌, ◌^◌, min, Bool, List, Option, nat_eq, if◌then◌else◌}
use Rattle.std.specs.List.{list_any}
use Rattle.table_keeper.specs.Asking.{calls_kept}
use Rattle.table_keeper.specs.Holding.{Holding}
use Rattle.table_keeper.specs.declared.calls.Call.{Call}
use Rattle.table_keeper.specs.declared.memory.MemoryKeeper.{MemoryKeeper}
use Rattle.table_keeper.specs.declared.memory.SureKeeper.{SureKeeper}

-- how many calls there were, how many of them failed, and which are to fail
pub record Calls : Type 0 where
  pub calls : ℕ
  pub faults : ℕ
  pub failing : List ℕ

-- one more, up to the greatest number of 64 bits
abbrev pub one_more : ℕ → ℕ
one_more count = min (count + 1) (2 ^ 64 - 1)

-- whether the next call is to fail
abbrev pub fails : Calls → Bool
fails c = list_any (nat_eq (one_more c.calls)) c.failing

-- after the next call, one that fails counts as a fault
abbrev pub after_call : Calls → Calls
after_call c = record c { calls = one_more c.calls; faults = if fails c then one_more c.faults else c.faults }

-- the calls of a keeper
abbrev pub calls_of : MemoryKeeper → Calls
calls_of k = record { calls = k.calls; faults = k.faults; failing = k.failing.items }

-- what a keeper that never fails holds
abbrev pub held_surely : SureKeeper → Holding
held_surely k = k.store

-- what a keeper whose listed calls fail holds
abbrev pub held : MemoryKeeper → Holding
held k = k.store

-- the calls that a keeper in memory tells
abbrev pub calls_told_surely : SureKeeper → Option (List Call)
calls_told_surely k = calls_kept k.call_list

abbrev pub calls_told : MemoryKeeper → Option (List Call)
calls_told k = calls_kept k.call_list
