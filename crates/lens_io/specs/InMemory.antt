-- A source and a sink in memory, for tests.
use Rattle.std.specs.Prelude.{◌==◌, ◌+◌, ◌-◌, ◌^◌, ◌++◌, ℕ, Bool, List, Option, length, drop, min}
use Rattle.std.specs.List.{list_any}
use Rattle.lens_io.specs.Calls.{Call}
use Rattle.lens_io.specs.declared.told.Offer.{Offer}

-- The bytes left, how many one call gives at most, which calls fail, how many calls there were and how many of them failed, and the calls, where it tells them.
pub record PiecewiseSource : Type 0 where
  pub left : List ℕ
  pub piece : ℕ
  pub failing : List ℕ
  pub calls : ℕ
  pub faults : ℕ
  pub asked : Option (List Call)

-- The bytes taken, how many there may be, how many one call takes at most, which calls fail, how many calls there were and how many of them failed, and the calls, where it tells them.
pub record PiecewiseSink : Type 0 where
  pub taken : List ℕ
  pub room : ℕ
  pub piece : ℕ
  pub failing : List ℕ
  pub calls : ℕ
  pub faults : ℕ
  pub offered : Option (List Offer)

-- one more, up to the largest count
abbrev pub one_more : ℕ → ℕ
one_more count = min (count + 1) (2 ^ 64 - 1)

-- whether the call with this number fails
abbrev pub is_failing : List ℕ → ℕ → Bool
is_failing failing call = list_any (λ number. number == call) failing

-- how many bytes a call gives into so much room
abbrev pub given_count : PiecewiseSource → ℕ → ℕ
given_count source room = min source.piece (min room (length source.left))

-- the source after it gave so many bytes
abbrev pub after_giving : PiecewiseSource → ℕ → PiecewiseSource
after_giving source count = record source { left = drop count source.left; calls = one_more source.calls }

-- the source after a fault
abbrev pub after_refusing : PiecewiseSource → PiecewiseSource
after_refusing source = record source { calls = one_more source.calls; faults = one_more source.faults }

-- how many bytes a call takes of so many
abbrev pub taken_count : PiecewiseSink → ℕ → ℕ
taken_count sink size = min sink.piece (min size (sink.room - length sink.taken))

-- the sink after it took these bytes
abbrev pub after_taking : PiecewiseSink → List ℕ → PiecewiseSink
after_taking sink bytes = record sink { taken = sink.taken ++ bytes; calls = one_more sink.calls }

-- the sink after a fault
abbrev pub after_declining : PiecewiseSink → PiecewiseSink
after_declining sink = record sink { calls = one_more sink.calls; faults = one_more sink.faults }
