-- How the tables lie in their fields: one after another, those that readers see first.
use Rattle.std.specs.Prelude.{◌≡◌, ◌≤◌, true, if◌then◌else◌, List, map, take, length, Some, None}
use Rattle.std.specs.FinMap as finmap
use Rattle.base_index.specs.Held.{Held, State}
use Rattle.base_index.specs.Several.{AreApart, AreHeld, AreIndexed, first_rows, names_of}
use Rattle.base_index.specs.Stored.{Stored, next_of, shown_of}
use Rattle.base_index.specs.declared.tables.Tables.TheInside.{Inside}

-- what readers see of the tables
abbrev pub present_in : List Stored → State
present_in ss = record {
  relations = finmap.from_entries (map (λ s. (s.name, shown_of s)) ss);
  indexes = finmap.from_entries (map (λ s. (s.name, s.indexes)) ss);
}

-- what `settle` makes of them
abbrev pub next_in : List Stored → State
next_in ss = record {
  relations = finmap.from_entries (map (λ s. (s.name, next_of s)) ss);
  indexes = finmap.from_entries (map (λ s. (s.name, s.next_indexes)) ss);
}

-- what they were at `hold`
abbrev pub held_in : List Stored → State
held_in ss = record {
  relations = finmap.from_entries (map (λ s. (s.name, record { columns = s.columns; rows = first_rows s })) ss);
  indexes = finmap.from_entries (map (λ s. (s.name, s.indexes)) ss);
}

-- what the fields stand for
abbrev pub held_of : Inside → Held
held_of t = record {
  present = present_in (take t.shown t.tables.items);
  next = next_in t.tables.items;
  held = if t.held then Some (held_in (take t.shown t.tables.items)) else None;
}

-- what always holds of the fields
pub record IsWhole (t : Inside) : Type 0 where
  pub shown : t.shown ≤ length t.tables.items
  pub apart : AreApart (names_of t.tables.items)
  pub held : AreHeld t.held t.tables.items
  pub held_shown : t.held ≡ true → t.shown ≡ length t.tables.items
  pub held_indexes : t.held ≡ true → AreIndexed t.tables.items
