-- A table that is always there.
use Rattle.std.specs.Prelude.{◌≡◌, Bool, Some, is_some}
use Rattle.lens_specs.specs.Names.{Name}
use Rattle.base_index.specs.Held.{Held, IsThere, State}

-- readers see the table, will after `settle`, and did when it was held, if it is
pub record Stays (h : Held) (t : Name) (is_held : Bool) : Type 0 where
  pub present : IsThere h.present t
  pub next : IsThere h.next t
  pub held : is_some h.held ≡ is_held
  pub before : (st : State) → h.held ≡ Some st → IsThere st t
