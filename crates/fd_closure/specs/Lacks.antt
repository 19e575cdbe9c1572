-- What each edge still lacks of its left side.
use Rattle.std.specs.Prelude.{◌≡◌, ℕ, ◌<◌, nat_eq, List, length, slice_index, slice_index_or}
use Rattle.std.specs.List.{count_by}
use Rattle.lens_specs.specs.Common.{Name, Names, Within, Edge}
use Rattle.fd_closure.specs.Arrival.{HaveAll}
use Rattle.fd_closure.specs.Entries.{Entry}

-- how many of the entries are of the edge at d
abbrev pub uses : List Entry → ℕ → ℕ
uses es d = count_by (λ e. nat_eq e.1 d) es

-- the right side of each edge that lacks nothing is in the set
abbrev pub ReadyWithin : List Edge → List ℕ → Names → Type 0
ReadyWithin F lacks D = (d : ℕ) (e : Edge) → d < length F → slice_index lacks d ≡ 0 → Within (slice_index_or F d e).right D

-- the right side of each edge that lacks nothing is among the names
abbrev pub ReadyAmong : List Edge → List ℕ → List Name → Type 0
ReadyAmong F lacks ns = (d : ℕ) (e : Edge) → d < length F → slice_index lacks d ≡ 0 → HaveAll ns (slice_index_or F d e).right
