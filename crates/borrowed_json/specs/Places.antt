-- Where a member stands in an object.
use Rattle.std.specs.Prelude.{◌≡◌, ◌<◌, ℕ, List, length, slice_index_or, Some}
use Rattle.std.specs.Borrow.{Bor}
use Rattle.serde_json.specs.Find.{get_member}
use Rattle.borrowed_json.specs.Meaning.{value_data, members_data}
use Rattle.borrowed_json.specs.declared.value.Value.{Value}

-- the member at the place has the name, and an object of these members has its data there
abbrev pub IsLast : List ℕ → ℕ → List (Bor (List ℕ) × Value) → Type 0
IsLast name place ms =
    (place < length ms)
    × ((m : Bor (List ℕ) × Value) → m ≡ slice_index_or ms place m → (m.0.now ≡ name) × (get_member name (members_data ms) ≡ Some (value_data m.1)))
