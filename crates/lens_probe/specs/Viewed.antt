-- A view of a lens over tables, and what the tables have to have for it.
use Rattle.std.specs.Prelude.{ℕ, ◌≤◌, Bool, List, Option, None, Some, option_map, refl, IsTrue}
use Rattle.std.specs.List.{Contains, list_any}
use Rattle.std.specs.Coded.{Coded, code_by, coded×, coded_list}
use Rattle.lens_specs.specs.Common.{Edge, Name, Names, same_names, Relation, Lens, base, select, drop, rename, view, view_names}
use Rattle.lens_specs.specs.Lens.{join}
use Rattle.lens_laws.specs.Asked.{AreKeys, HasKeys, asked, keys_at}
use Rattle.lens_laws.specs.Lenses.{AreOf, IsTyped}
use Rattle.lens_laws.specs.Work.{TablesGiveAtMost, size}
use Rattle.fd_closure.specs.Sides.{coded_names}
use Rattle.lens_types.specs.LensCode.{lens_code}
use Rattle.base_index.specs.Held.{Held, State, coded_held, is_indexed}
use Rattle.lens_probe.specs.declared.near.Near.{Near}
use Rattle.lens_probe.specs.Handed.{to_first, to_second}
use Rattle.lens_probe.specs.NearRows.{AreOfJoin}

-- the lens, the sets of columns that were handed down to it, and the tables
pub record Viewed : Type 0 where
  pub lens : Lens
  pub sets : List Names
  pub tables : Held

-- the view of these
abbrev pub viewed : Lens → List Names → Held → Viewed
viewed L K tables = record { lens = L; sets = K; tables = tables }

-- what the view shows
abbrev pub shown : Viewed → Relation
shown v = view v.lens v.tables.present.relations

-- the sets of columns by which it may be asked
abbrev pub asked_by : Viewed → List Names
asked_by v = keys_at v.lens v.sets

-- each of the tables may be asked by the set beside it
abbrev pub AreIndexed : List (Name × Names) → State → Type 0
AreIndexed ps st = (t : Name) (C : Names) → Contains ps (t, C) → IsTrue (is_indexed st t C)

-- the tables of the lens are there, of their sorts and with their indexes; K is sets of its columns
pub record CanAsk (L : Lens) (K : List Names) (st : State) : Type 0 where
  pub keys : HasKeys L
  pub tables : AreOf L st.relations
  pub sets : AreKeys (view_names L) K
  pub indexed : AreIndexed (asked L K) st

-- the lens is typed, and can ask the tables
abbrev pub IsViewed : Viewed → Type 0
IsViewed v = IsTyped v.lens × CanAsk v.lens v.sets v.tables.present

-- no look-up in the tables, by the pairs by which the view asks them, gives more than w rows
abbrev pub FindsAtMost : Viewed → ℕ → Type 0
FindsAtMost v w = TablesGiveAtMost w (asked v.lens v.sets) v.tables.present.relations

-- for such a number, n is no less than the size of the view
abbrev pub IsWithin : Viewed → ℕ → Type 0
IsWithin v n = (w : ℕ) × FindsAtMost v w × (size v.lens w ≤ n)

-- these rows of the first join down the lens are known
abbrev pub AreNear : Viewed → List Near → Type 0
AreNear v near = AreOfJoin v.lens v.tables.present near

-- whether the columns are the left side of one of the edges
abbrev pub is_left_side : Names → List Edge → Bool
is_left_side C T = list_any (λ e. same_names e.left C) T

-- ---- what it is made of

-- the only source of the lens, if it has one
abbrev pub only_source : Lens → Option Lens
only_source (base t s) = None
only_source (select P L) = Some L
only_source (drop A X a L) = Some L
only_source (rename A B L) = Some L
only_source (join k A B) = None

-- both sides of the lens, if it has two
abbrev pub both_sides : Lens → Option (Lens × Lens)
both_sides (base t s) = None
both_sides (select P L) = None
both_sides (drop A X a L) = None
both_sides (rename A B L) = None
both_sides (join k A B) = Some (A, B)

-- the view of its only source, over the same tables
abbrev pub source_of : Viewed → Option Viewed
source_of v = option_map (λ L. viewed L (to_first v.lens v.sets) v.tables) (only_source v.lens)

-- the views of both sides, over the same tables
abbrev pub sides_of : Viewed → Option (Viewed × Viewed)
sides_of v =
    let left : Lens → Viewed = λ L. viewed L (to_first v.lens v.sets) v.tables in
    let right : Lens → Viewed = λ L. viewed L (to_second v.lens v.sets) v.tables in
    option_map (λ p. (left p.0, right p.1)) (both_sides v.lens)

-- ---- how it is stored

abbrev pub viewed_code : Coded Viewed
viewed_code =
    code_by (Lens × (List Names × Held))
    (coded× lens_code (coded× (coded_list coded_names) coded_held))
    (λ v. (v.lens, (v.sets, v.tables))) (λ p. viewed p.0 p.1.0 p.1.1) (λ _. refl)
