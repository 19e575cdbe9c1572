-- Values beside the data that they stand for.
use Rattle.std.proofs.Common.{◌≡◌, ℕ, List, [], ◌∷◌, ◌++◌, Option, Some, None, refl, ap, rules, Vec, Global}
use Rattle.std.specs.Borrow.{Bor}
use Rattle.json.specs.Token.{Token}
use Rattle.json.specs.Json.{parse_map}
use Rattle.serde_json.specs.Data.{array, object, Items, no_items, item, Members, no_members, put}
use Rattle.borrowed_json.specs.Meaning.{members_onto, value_data, items_data, sent_data, members_data}
use Rattle.borrowed_json.specs.declared.value.Value.{Value, Array, Object, the_lemmas}

pub data-Array : (v : Vec Value Global) → value_data (Array v) ≡ array (items_data v.items)
data-Array v = search (rules, the_lemmas)

pub data-Object : (v : Vec (Bor (List ℕ) × Value) Global) → value_data (Object v) ≡ object (members_data v.items)
data-Object v = search (rules, the_lemmas)

-- ---- items, one more at the end

abbrev pub items_before : List Value → Items → Items
items_before [] rest = rest
items_before (v ∷ vs) rest = item (value_data v) (items_before vs rest)

pub items_before-no_items : (vs : List Value) → items_before vs no_items ≡ items_data vs
items_before-no_items [] = refl
items_before-no_items (v ∷ vs) = ap (item (value_data v)) (items_before-no_items vs)

items_push : (vs : List Value) (v : Value) (rest : Items) → items_before vs (item (value_data v) rest) ≡ items_before (vs ++ v ∷ []) rest
items_push [] v rest = refl
items_push (w ∷ vs) v rest = ap (item (value_data w)) (items_push vs v rest)

pub one_more_item : (vs : List Value) (v : Value) (r : Option (Items × List Token)) → parse_map (items_before vs) (parse_map (item (value_data v)) r) ≡ parse_map (items_before (vs ++ v ∷ [])) r
one_more_item vs v None = refl
one_more_item vs v (Some p) = ap (λ ds. Some (ds, p.1)) (items_push vs v p.0)

-- ---- one member more

onto_push : (ms : List (Bor (List ℕ) × Value)) (m : Bor (List ℕ) × Value) (found : Members)
    → members_onto (sent_data (ms ++ m ∷ [])) found ≡ put m.0.now (value_data m.1) (members_onto (sent_data ms) found)
onto_push [] m found = refl
onto_push (n ∷ ms) m found = onto_push ms m (put n.0.now (value_data n.1) found)

-- a member at the end is put onto those before it
pub data_push : (ms : List (Bor (List ℕ) × Value)) (m : Bor (List ℕ) × Value) → members_data (ms ++ m ∷ []) ≡ put m.0.now (value_data m.1) (members_data ms)
data_push ms m = onto_push ms m no_members
