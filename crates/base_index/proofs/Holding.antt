-- What lists of tables stand for while they are held.
use Rattle.std.proofs.Common.{◌≡◌, ℕ, List, [], ◌∷◌, ◌++◌, length, take, map, ap, sym, ◌∙◌, subst, refl, Bool, true, false, cond, zero, suc, arith, if◌then◌else◌, Option, Some, None, is_some, unwrap_or}
use Rattle.std.specs.FinMap as finmap
use Rattle.plain_values.proofs.Common.{map-map, take_all, false≢true}
use Rattle.lens_specs.specs.Common.{Name, Names, Columns, Relation, Rows}
use Rattle.signed_delta.specs.declared.delta.TableDelta.{TableDelta}
use Rattle.base_index.specs.declared.need.Need.{Need}
use Rattle.base_index.specs.Held.{State}
use Rattle.base_index.specs.HeldFields.{held_in, next_in, present_in}
use Rattle.base_index.specs.Need.{same_name}
use Rattle.base_index.specs.Several.{AreHeld, AreIndexed, first_rows, holding, kept, names_of, needed, staged, staged_all, staged_in, taken_back, with_new}
use Rattle.base_index.specs.Stored.{Stored, new_table, next_of, settled, shown_of, unstaged}

-- the tables at `hold`, where they are held
abbrev pub held_part : Bool → List Stored → Option State
held_part b ss = if b then Some (held_in ss) else None

abbrev at_hold : Stored → Name × Relation
at_hold s = (s.name, record { columns = s.columns; rows = first_rows s })

pub held_unstaged : (ss : List Stored) → held_in (map unstaged ss) ≡ held_in ss
held_unstaged ss = λ i. record {
  relations = finmap.from_entries (map-map at_hold unstaged ss i);
  indexes = finmap.from_entries (map-map (λ s. (s.name, s.indexes)) unstaged ss i);
}

-- what tables were at `hold` stays where they are the same once nothing is staged
pub same_held : (ss ts : List Stored) → map unstaged ss ≡ map unstaged ts → held_in ss ≡ held_in ts
same_held ss ts same = sym (held_unstaged ss) ∙ ap held_in same ∙ held_unstaged ts

some_or : (o : Option Rows) (a b : Rows) → is_some o ≡ true → unwrap_or o a ≡ unwrap_or o b
some_or None a b h = cc
some_or (Some r) a b h = refl

settled_entries : (ss : List Stored) → AreHeld true ss → map at_hold (map settled ss) ≡ map at_hold ss
settled_entries [] all = refl
settled_entries (s ∷ ss) all =
    λ i. (s.name, record { columns = s.columns; rows = some_or s.held s.next_rows s.rows all.0 i }) ∷ settled_entries ss all.1 i

abbrev shown_entry : Stored → Name × List Names
shown_entry s = (s.name, s.indexes)

settled_indexes : (ss : List Stored) → AreIndexed ss → map shown_entry (map settled ss) ≡ map shown_entry ss
settled_indexes [] all = refl
settled_indexes (s ∷ ss) all = λ i. (s.name, all.0 i) ∷ settled_indexes ss all.1 i

-- what is staged becomes present, and the tables at `hold` stay
pub held_settled : (b : Bool) (n : ℕ) (ss : List Stored) → AreHeld b ss → (b ≡ true → n ≡ length ss) → (b ≡ true → AreIndexed ss) → held_part b (map settled ss) ≡ held_part b (take n ss)
held_settled false n ss held shown same = refl
held_settled true n ss held shown same =
    (λ i. Some (record { relations = finmap.from_entries (settled_entries ss held i); indexes = finmap.from_entries (settled_indexes ss (same refl) i) }))
    ∙ ap (λ l. Some (held_in l)) (sym (take_all n ss (omega (arith, shown refl))))

pub present_holding : (ss : List Stored) → present_in (map holding ss) ≡ present_in ss
present_holding ss = λ i. record {
  relations = finmap.from_entries (map-map (λ s. (s.name, shown_of s)) holding ss i);
  indexes = finmap.from_entries (map-map (λ s. (s.name, s.indexes)) holding ss i);
}

pub next_holding : (ss : List Stored) → next_in (map holding ss) ≡ next_in ss
next_holding ss = λ i. record {
  relations = finmap.from_entries (map-map (λ s. (s.name, next_of s)) holding ss i);
  indexes = finmap.from_entries (map-map (λ s. (s.name, s.next_indexes)) holding ss i);
}

pub held_holding : (ss : List Stored) → held_in (map holding ss) ≡ present_in ss
held_holding ss = λ i. record {
  relations = finmap.from_entries (map-map at_hold holding ss i);
  indexes = finmap.from_entries (map-map (λ s. (s.name, s.indexes)) holding ss i);
}

pub present_kept : (ss : List Stored) → present_in (map kept ss) ≡ present_in ss
present_kept ss = λ i. record {
  relations = finmap.from_entries (map-map (λ s. (s.name, shown_of s)) kept ss i);
  indexes = finmap.from_entries (map-map (λ s. (s.name, s.indexes)) kept ss i);
}

pub next_kept : (ss : List Stored) → next_in (map kept ss) ≡ next_in ss
next_kept ss = λ i. record {
  relations = finmap.from_entries (map-map (λ s. (s.name, next_of s)) kept ss i);
  indexes = finmap.from_entries (map-map (λ s. (s.name, s.next_indexes)) kept ss i);
}

pub present_back : (ss : List Stored) → present_in (map taken_back ss) ≡ held_in ss
present_back ss = λ i. record {
  relations = finmap.from_entries (map-map (λ s. (s.name, shown_of s)) taken_back ss i);
  indexes = finmap.from_entries (map-map (λ s. (s.name, s.indexes)) taken_back ss i);
}

pub next_back : (ss : List Stored) → next_in (map taken_back (map unstaged ss)) ≡ held_in ss
next_back ss = (λ i. next_in (map-map taken_back unstaged ss i)) ∙ (λ i. record {
  relations = finmap.from_entries (map-map (λ s. (s.name, next_of s)) (λ s. taken_back (unstaged s)) ss i);
  indexes = finmap.from_entries (map-map (λ s. (s.name, s.next_indexes)) (λ s. taken_back (unstaged s)) ss i);
})

pub names_holding : (ss : List Stored) → names_of (map holding ss) ≡ names_of ss
names_holding ss = map-map (λ s. s.name) holding ss

pub names_kept : (ss : List Stored) → names_of (map kept ss) ≡ names_of ss
names_kept ss = map-map (λ s. s.name) kept ss

pub names_back : (ss : List Stored) → names_of (map taken_back ss) ≡ names_of ss
names_back ss = map-map (λ s. s.name) taken_back ss

pub settled_held : (b : Bool) (ss : List Stored) → AreHeld b ss → AreHeld b (map settled ss)
settled_held b [] all = tt
settled_held b (s ∷ ss) all = (all.0, settled_held b ss all.1)

pub unstaged_held : (b : Bool) (ss : List Stored) → AreHeld b ss → AreHeld b (map unstaged ss)
unstaged_held b [] all = tt
unstaged_held b (s ∷ ss) all = (all.0, unstaged_held b ss all.1)

held_unstaged_are : (b : Bool) (ss : List Stored) → AreHeld b (map unstaged ss) → AreHeld b ss
held_unstaged_are b [] all = tt
held_unstaged_are b (s ∷ ss) all = (all.0, held_unstaged_are b ss all.1)

-- tables that are the same once nothing is staged are held alike
pub alike_held : (b : Bool) (ss ts : List Stored) → map unstaged ss ≡ map unstaged ts → AreHeld b ts → AreHeld b ss
alike_held b ss ts same all = held_unstaged_are b ss (subst (AreHeld b) (sym same) (unstaged_held b ts all))

pub front_held : (b : Bool) (n : ℕ) (ss : List Stored) → AreHeld b ss → AreHeld b (take n ss)
front_held b zero [] all = tt
front_held b zero (s ∷ ss) all = tt
front_held b (suc n) [] all = tt
front_held b (suc n) (s ∷ ss) all = (all.0, front_held b n ss all.1)

pub holding_held : (ss : List Stored) → AreHeld true (map holding ss)
holding_held [] = tt
holding_held (s ∷ ss) = (refl, holding_held ss)

pub kept_held : (ss : List Stored) → AreHeld false (map kept ss)
kept_held [] = tt
kept_held (s ∷ ss) = (refl, kept_held ss)

pub back_held : (ss : List Stored) → AreHeld false (map taken_back ss)
back_held [] = tt
back_held (s ∷ ss) = (refl, back_held ss)

pub settled_same : (ss : List Stored) → AreIndexed (map settled ss)
settled_same [] = tt
settled_same (s ∷ ss) = (refl, settled_same ss)

pub unstaged_same_indexes : (ss : List Stored) → AreIndexed (map unstaged ss)
unstaged_same_indexes [] = tt
unstaged_same_indexes (s ∷ ss) = (refl, unstaged_same_indexes ss)

pub holding_same : (ss : List Stored) → AreIndexed ss → AreIndexed (map holding ss)
holding_same [] all = tt
holding_same (s ∷ ss) all = (all.0, holding_same ss all.1)

staged_in_same : (c : TableDelta) (ss : List Stored) → AreIndexed ss → AreIndexed (staged_in c ss)
staged_in_same c [] all = tt
staged_in_same c (s ∷ ss) all = elim (same_name s.name c.table) as (λ b. AreIndexed (cond b (staged c.delta s ∷ ss) (s ∷ staged_in c ss))) [
  | true ↦ (all.0, all.1)
  | false ↦ (all.0, staged_in_same c ss all.1)
]

pub staged_same : (cs : List TableDelta) (ss : List Stored) → AreIndexed ss → AreIndexed (staged_all cs ss)
staged_same [] ss all = all
staged_same (c ∷ cs) ss all = staged_same cs (staged_in c ss) (staged_in_same c ss all)

held_pushed : (b : Bool) (ss : List Stored) (s : Stored) → is_some s.held ≡ b → AreHeld b ss → AreHeld b (ss ++ s ∷ [])
held_pushed b [] s one all = (one, tt)
held_pushed b (t ∷ ts) s one all = (all.0, held_pushed b ts s one all.1)

pub new_free : (table : Option (Name × Columns)) (ss : List Stored) → AreHeld false ss → AreHeld false (with_new table ss)
new_free None ss all = all
new_free (Some t) ss all = held_pushed false ss (new_table t.0 t.1) refl all

pub needed_free : (needs : List Need) (ss : List Stored) → AreHeld false ss → AreHeld false (map (needed needs) ss)
needed_free needs [] all = tt
needed_free needs (s ∷ ss) all = (all.0, needed_free needs ss all.1)

none_is : (b : Bool) (st : State) → ◌≡◌ {A = Option State} (if b then Some st else None) None → b ≡ false
none_is true st is = cc
none_is false st is = refl

some_is : (b : Bool) (s t : State) → ◌≡◌ {A = Option State} (if b then Some s else None) (Some t) → (b ≡ true) × (s ≡ t)
some_is true s t is = (refl, cc)
some_is false s t is = cc

pub free_part : (b : Bool) (ss : List Stored) → held_part b ss ≡ None → b ≡ false
free_part b ss is = none_is b (held_in ss) is

-- where nothing is held, one list does as well as another
pub free_either : (b : Bool) (ss ts : List Stored) → held_part b ts ≡ None → held_part b ss ≡ held_part b ts
free_either b ss ts is = ap (λ c. held_part c ss) (free_part b ts is) ∙ sym (ap (λ c. held_part c ts) (free_part b ts is))

pub held_is : (b : Bool) (ss : List Stored) (st : State) → held_part b ss ≡ Some st → (b ≡ true) × (held_in ss ≡ st)
held_is b ss st is = some_is b (held_in ss) st is

is_held : (b : Bool) (st : State) → is_some {T = State} (if b then Some st else None) ≡ true → b ≡ true
is_held true st h = refl
is_held false st h = cc

pub some_part : (b : Bool) (ss : List Stored) → is_some (held_part b ss) ≡ true → b ≡ true
some_part b ss h = is_held b (held_in ss) h

pub none_held : (o : Option Rows) → is_some o ≡ false → o ≡ None
none_held None h = refl
none_held (Some r) h = cc

abbrev first_of : Option Rows → Rows → Rows
first_of o rows = unwrap_or o rows

back_by : (s new : Stored) (o : Option Rows) → s.held ≡ o → is_some s.held ≡ true → ((rows : Rows) → s.held ≡ Some rows → new ≡ record s { rows = rows; next_rows = rows; held = None }) → new ≡ taken_back s
back_by s new None e held is = absurd (false≢true (sym (ap is_some e) ∙ held))
back_by s new (Some rows) e held is = is rows e ∙ (λ i. record s { rows = first_of (sym e i) s.rows; next_rows = first_of (sym e i) s.rows; held = None })

-- a table that is held is what it was
pub back_is : (s new : Stored) → is_some s.held ≡ true → ((rows : Rows) → s.held ≡ Some rows → new ≡ record s { rows = rows; next_rows = rows; held = None }) → new ≡ taken_back s
back_is s new held is = back_by s new s.held refl held is
