-- What a source is asked over a whole run.
use Rattle.std.specs.Prelude.{◌≡◌, ◌≢◌, ◌≤◌, ◌+◌, ◌-◌, min, ℕ, List, [], ◌∷◌, ◌++◌, length}
use Rattle.io_specs.specs.Lines.{whole}
use Rattle.lens_io.specs.Calls.{Call, brought as brought_by}

-- After so many bytes each call had room for 65,536 bytes, or up to one byte beyond the limit where that is fewer; and no call followed one that brought nothing.
abbrev pub AsksOn : ℕ → ℕ → List Call → Type 0
AsksOn taken limit [] = Unit {0}
AsksOn taken limit (call ∷ calls) =
    (call.room ≡ min 65536 (limit + 1 - taken)) × (calls ≢ [] → call.came ≢ []) × AsksOn (taken + length call.came) limit calls

-- These calls asked for an input of which so many bytes are served at most, and brought these bytes.
pub record AsksFor (limit : ℕ) (came : List ℕ) (calls : List Call) : Type 0 where
  pub on : AsksOn 0 limit calls
  pub brought : brought_by calls ≡ came

-- when the last call was made, those before it had brought no more whole lines than so many
abbrev pub AskedAfter : ℕ → List Call → Type 0
AskedAfter count calls = (before : List Call) (last : Call) → calls ≡ before ++ last ∷ [] → length (whole (brought_by before)) ≤ count
