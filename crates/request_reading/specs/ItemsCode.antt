-- How JSON items are stored: as a list of marks, one for each value, key and end, in the order in which they are read.
use Rattle.std.specs.Prelude.{◌≡◌, ℕ, ℤ, pos, List, [], ◌∷◌, ◌++◌, true, false, cond, ◌==◌, refl}
use Rattle.std.proofs.Common.{ap, ◌∙◌, sym, append_assoc, append-nil}
use Rattle.std.specs.Float.{Float, nan}
use Rattle.std.specs.Coded.{Coded, code_by, coded×, coded_ℕ, coded_ℤ, coded_list}
use base.Stored.{coded_float}
use Rattle.serde_json.specs.Data.{Num, unsigned, negative, float, Data, null, boolean, number, string, array, object, Items, no_items, item, Members, no_members, member}
use Rattle.lens_specs.specs.Names.{Name}
use Rattle.server_specs.specs.Request.{BatchEdit}

-- which mark it is, a whole number, a text, a signed number and a float
abbrev Mark : Type 0
Mark = ℕ × (ℕ × (List ℕ × (ℤ × Float)))

-- a mark with nothing more
abbrev mark : ℕ → Mark
mark kind = (kind, (0, ([], (pos 0, nan))))

-- the mark of a number
abbrev number_mark : Num → Mark
number_mark (unsigned n) = (3, (n, ([], (pos 0, nan))))
number_mark (negative z) = (4, (0, ([], (z, nan))))
number_mark (float x) = (5, (0, ([], (pos 0, x))))

-- the marks of data, of items and of members
abbrev mutual
  data_marks : Data → List Mark
  data_marks null = mark 0 ∷ []
  data_marks (boolean true) = mark 1 ∷ []
  data_marks (boolean false) = mark 2 ∷ []
  data_marks (number n) = number_mark n ∷ []
  data_marks (string s) = (6, (0, (s, (pos 0, nan)))) ∷ []
  data_marks (array ds) = mark 7 ∷ items_marks ds
  data_marks (object ms) = mark 8 ∷ members_marks ms

  items_marks : Items → List Mark
  items_marks no_items = mark 9 ∷ []
  items_marks (item d ds) = mark 10 ∷ (data_marks d ++ items_marks ds)

  members_marks : Members → List Mark
  members_marks no_members = mark 11 ∷ []
  members_marks (member k d ms) = (12, (0, (k, (pos 0, nan)))) ∷ (data_marks d ++ members_marks ms)

-- what has been read of marks, from their end: data, items and members that wait for what holds them
record Read : Type 0 where
  pub data_read : List Data
  pub items_read : List Items
  pub members_read : List Members

-- with one more that waits
abbrev with_data : Data → Read → Read
with_data d r = record r { data_read = d ∷ r.data_read }

abbrev with_items : Items → Read → Read
with_items ds r = record r { items_read = ds ∷ r.items_read }

abbrev with_members : Members → Read → Read
with_members ms r = record r { members_read = ms ∷ r.members_read }

-- the one that was read last, and the others
abbrev first_or : {X : Type 0} → X → List X → X
first_or x [] = x
first_or x (y ∷ ys) = y

abbrev rest : {X : Type 0} → List X → List X
rest [] = []
rest (y ∷ ys) = ys

-- the mark of an array, an object, an item or a member takes what waits
abbrev array_read : Read → Read
array_read r = with_data (array (first_or no_items r.items_read)) (record r { items_read = rest r.items_read })

abbrev object_read : Read → Read
object_read r = with_data (object (first_or no_members r.members_read)) (record r { members_read = rest r.members_read })

abbrev item_read : Read → Read
item_read r = record r { data_read = rest r.data_read; items_read = item (first_or null r.data_read) (first_or no_items r.items_read) ∷ rest r.items_read }

abbrev member_read : List ℕ → Read → Read
member_read k r = record r { data_read = rest r.data_read; members_read = member k (first_or null r.data_read) (first_or no_members r.members_read) ∷ rest r.members_read }

-- one mark more, in front of what has been read
abbrev step : Mark → Read → Read
step m r =
    cond (m.0 == 0) (with_data null r) (cond (m.0 == 1) (with_data (boolean true) r) (cond (m.0 == 2) (with_data (boolean false) r)
    (cond (m.0 == 3) (with_data (number (unsigned m.1.0)) r) (cond (m.0 == 4) (with_data (number (negative m.1.1.1.0)) r) (cond (m.0 == 5) (with_data (number (float m.1.1.1.1)) r)
    (cond (m.0 == 6) (with_data (string m.1.1.0) r) (cond (m.0 == 7) (array_read r) (cond (m.0 == 8) (object_read r)
    (cond (m.0 == 9) (with_items no_items r) (cond (m.0 == 10) (item_read r) (cond (m.0 == 11) (with_members no_members r) (member_read m.1.1.0 r))))))))))))

-- what these marks say
abbrev read : List Mark → Read
read [] = record { data_read = []; items_read = []; members_read = [] }
read (m ∷ ms) = step m (read ms)

-- the items of these marks
abbrev items_of_marks : List Mark → Items
items_of_marks marks = first_or no_items (read marks).items_read

mutual
  read-data : (d : Data) (more : List Mark) → read (data_marks d ++ more) ≡ with_data d (read more)
  read-data null more = refl
  read-data (boolean true) more = refl
  read-data (boolean false) more = refl
  read-data (number (unsigned n)) more = refl
  read-data (number (negative z)) more = refl
  read-data (number (float x)) more = refl
  read-data (string s) more = refl
  read-data (array ds) more = ap array_read (read-items ds more)
  read-data (object ms) more = ap object_read (read-members ms more)

  read-items : (ds : Items) (more : List Mark) → read (items_marks ds ++ more) ≡ with_items ds (read more)
  read-items no_items more = refl
  read-items (item d ds) more =
      ap (λ ms. item_read (read ms)) (append_assoc (data_marks d) (items_marks ds) more)
      ∙ ap item_read (read-data d (items_marks ds ++ more) ∙ ap (with_data d) (read-items ds more))

  read-members : (ms : Members) (more : List Mark) → read (members_marks ms ++ more) ≡ with_members ms (read more)
  read-members no_members more = refl
  read-members (member k d ms) more =
      ap (λ marks. member_read k (read marks)) (append_assoc (data_marks d) (members_marks ms) more)
      ∙ ap (member_read k) (read-data d (members_marks ms ++ more) ∙ ap (with_data d) (read-members ms more))

pub items_of_marks-items_marks : (ds : Items) → items_of_marks (items_marks ds) ≡ ds
items_of_marks-items_marks ds = ap items_of_marks (sym (append-nil (items_marks ds))) ∙ ap (λ (r : Read). first_or no_items r.items_read) (read-items ds [])

abbrev pub coded_items : Coded Items
coded_items = code_by (List Mark) (coded_list (coded× coded_ℕ (coded× coded_ℕ (coded× (coded_list coded_ℕ) (coded× coded_ℤ coded_float))))) items_marks items_of_marks items_of_marks-items_marks

-- the first of the items, or null
abbrev first_or_null : Items → Data
first_or_null no_items = null
first_or_null (item d ds) = d

-- one value is stored as items that have it alone
abbrev pub coded_data : Coded Data
coded_data = code_by Items coded_items (λ d. item d no_items) first_or_null (λ _. refl)

-- the edits of a batch are stored as the names of their views and their lists of rows
abbrev pub coded_edits : Coded (List BatchEdit)
coded_edits = coded_list (code_by (Name × (Items × Items)) (coded× (coded_list coded_ℕ) (coded× coded_items coded_items)) (λ e. (e.view, (e.remove, e.add))) (λ p. record { view = p.0; remove = p.1.0; add = p.1.1 }) (λ _. refl))
