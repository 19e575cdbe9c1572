-- What a put to a join asks of the columns and the trees of its sources.
use Rattle.std.specs.Prelude.{◌≡◌, List, None}
use Rattle.plain_values.specs.SortedSet as set
use Rattle.lens_specs.specs.Common.{Columns, kinds_differ, names, Edge, closure, Names, Within}
use Rattle.fd_laws.specs.Trees.{EdgesWithin}

-- the shared columns
abbrev pub shared_names : Columns → Columns → Names
shared_names U V = set.intersection (names U) (names V)

-- each tree is over its columns, and the shared columns determine the right ones
pub record CanBePut (U V : Columns) (F G : List Edge) : Type 0 where
  pub left_within : EdgesWithin (names U) F
  pub right_within : EdgesWithin (names V) G
  -- a shared column has one kind
  pub kinds : kinds_differ U V ≡ None
  -- the shared columns determine the right ones
  pub decides : Within (names V) (closure (shared_names U V) G)
