-- The data that a value over borrowed text stands for: what serde_json reads of the same text.
use Rattle.std.specs.Prelude.{ℕ, List, [], ◌∷◌, map}
use Rattle.std.specs.Borrow.{Bor}
use Rattle.serde_json.specs.Data.{Data, null, boolean, number, string, array, object, Items, Members, no_members, put}
use Rattle.serde_json.specs.View.{items_of, number_view}
use Rattle.borrowed_json.specs.declared.value.Value.{Value, fold-Value}
use Rattle.borrowed_json.specs.declared.value.Value.TheOpen.{Value-F}

-- the members put in one after another, so that the last value of a name stays
abbrev pub members_onto : List (Bor (List ℕ) × Data) → Members → Members
members_onto [] found = found
members_onto (m ∷ ms) found = members_onto ms (put m.0.now m.1 found)

-- one level, with each value inside already seen as its data
abbrev pub data_step : Value-F Data → Data
data_step Value-F.Null = null
data_step (Value-F.Bool b) = boolean b
data_step (Value-F.Number n) = number (number_view n)
data_step (Value-F.String s) = string s.now
data_step (Value-F.Array v) = array (items_of v.items)
data_step (Value-F.Object v) = object (members_onto v.items no_members)

-- the data of a value
abbrev pub value_data : Value → Data
value_data = fold-Value Data data_step

-- the data of an array's items
abbrev pub items_data : List Value → Items
items_data vs = items_of (map value_data vs)

-- the members with their data, in the order in which they were sent
abbrev pub sent_data : List (Bor (List ℕ) × Value) → List (Bor (List ℕ) × Data)
sent_data ms = map (λ m. (m.0, value_data m.1)) ms

-- the data of an object's members, in byte order of their names
abbrev pub members_data : List (Bor (List ℕ) × Value) → Members
members_data ms = members_onto (sent_data ms) no_members
