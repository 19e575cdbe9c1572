-- Why an edit of a view is refused.
use Rattle.std.specs.Prelude.{ℕ, List}
use Rattle.plain_values.specs.Row.{Row}
use Rattle.lens_specs.specs.Common.{Name, Edge}

-- which of a request's lists of rows
pub data Listed : Type 0 where
  in_rows : Listed
  in_remove : Listed
  in_add : Listed

-- no view has the name; an element is no row; the version is stale; the predicate refuses a row; or two rows clash
pub data EditRefusal : Type 0 where
  unknown_name : Name → EditRefusal
  bad_row : Listed → ℕ → List ℕ → EditRefusal
  stale : ℕ → ℕ → EditRefusal
  off_predicate : Row → EditRefusal
  clash : Edge → Row → Row → EditRefusal
