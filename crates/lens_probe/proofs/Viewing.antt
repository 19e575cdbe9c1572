-- What the views of the sources of a lens may ask of the tables.
use Rattle.std.proofs.Common.{◌≡◌, List, [], ◌∷◌, Some, ap, arith, subst, sym}
use Rattle.plain_values.proofs.Common.{Contains-append_left, Contains-append_right, same_Some}
use Rattle.plain_values.specs.declared.value.Value.{Value}
use Rattle.plain_values.specs.declared.join_kind.JoinKind.{JoinKind}
use Rattle.lens_specs.specs.Common.{Lens, base, select, drop, rename, Name, Names, Predicate, join}
use Rattle.lens_laws.proofs.Common.{HasKeys, asked, keys_at, AreOf, IsTyped, hands_down}
use Rattle.base_index.specs.Held.{State}
use Rattle.lens_probe.specs.Handed.{to_first, to_second}
use Rattle.lens_probe.specs.Viewed.{AreIndexed, CanAsk, IsViewed, Viewed, both_sides, only_source}

pub under_select : (P : Predicate) (C : Lens) (K : List Names) (st : State) → IsTyped (select P C) → CanAsk (select P C) K st → CanAsk C (keys_at (select P C) K) st
under_select P C K st typed can = record {
  keys = can.keys;
  tables = can.tables;
  sets = (hands_down (select P C) K typed can.keys can.sets).1;
  indexed = can.indexed;
}

pub under_drop : (A : Name) (X : Names) (v : Value) (C : Lens) (K : List Names) (st : State) → IsTyped (drop A X v C) → CanAsk (drop A X v C) K st → CanAsk C (X ∷ keys_at (drop A X v C) K) st
under_drop A X v C K st typed can = record {
  keys = can.keys;
  tables = can.tables;
  sets = (hands_down (drop A X v C) K typed can.keys can.sets).1;
  indexed = can.indexed;
}

pub under_rename : (A B : Name) (C : Lens) (K : List Names) (st : State) → IsTyped (rename A B C) → CanAsk (rename A B C) K st → CanAsk C (to_first (rename A B C) K) st
under_rename A B C K st typed can = record {
  keys = can.keys;
  tables = can.tables;
  sets = (hands_down (rename A B C) K typed can.keys can.sets).1;
  indexed = can.indexed;
}

pub under_left : (kind : JoinKind) (A B : Lens) (K : List Names) (st : State) → IsTyped (join kind A B) → CanAsk (join kind A B) K st → CanAsk A (to_first (join kind A B) K) st
under_left kind A B K st typed can = record {
  keys = can.keys.0;
  tables = can.tables.0;
  sets = (hands_down (join kind A B) K typed can.keys can.sets).1.0;
  indexed = λ t C i. can.indexed t C (Contains-append_left _ _ (t, C) i);
}

pub under_right : (kind : JoinKind) (A B : Lens) (K : List Names) (st : State) → IsTyped (join kind A B) → CanAsk (join kind A B) K st → CanAsk B (to_second (join kind A B) K) st
under_right kind A B K st typed can = record {
  keys = can.keys.1;
  tables = can.tables.1;
  sets = (hands_down (join kind A B) K typed can.keys can.sets).1.1;
  indexed = λ t C i. can.indexed t C (Contains-append_right _ _ (t, C) i);
}

source_at : (L C : Lens) (K : List Names) (st : State) → only_source L ≡ Some C → IsTyped L → CanAsk L K st → CanAsk C (to_first L K) st
source_at (base t s) C K st e typed can = cc
source_at (select P D) C K st e typed can = subst (λ Z. CanAsk Z (keys_at (select P D) K) st) (same_Some D C e) (under_select P D K st typed can)
source_at (drop A X v D) C K st e typed can = subst (λ Z. CanAsk Z (X ∷ keys_at (drop A X v D) K) st) (same_Some D C e) (under_drop A X v D K st typed can)
source_at (rename A B D) C K st e typed can = subst (λ Z. CanAsk Z (to_first (rename A B D) K) st) (same_Some D C e) (under_rename A B D K st typed can)
source_at (join kind A B) C K st e typed can = cc

-- no set is handed down to a whole lens
pub whole_asks : (L : Lens) (K : List Names) (st : State) → K ≡ [] → HasKeys L → AreOf L st.relations → AreIndexed (asked L []) st → CanAsk L K st
whole_asks L K st none keys tables indexed =
    subst (λ H. CanAsk L H st) (sym none) (record { keys = keys; tables = tables; sets = λ C i. absurd (omega (arith, i.1)); indexed = indexed })

-- the source is asked by what is handed down to it
pub source_asks : (v : Viewed) (C : Lens) (sets : List Names) → IsViewed v → only_source v.lens ≡ Some C → sets ≡ to_first v.lens v.sets → CanAsk C sets v.tables.present
source_asks v C sets is e handed = subst (λ K. CanAsk C K v.tables.present) (sym handed) (source_at v.lens C v.sets v.tables.present e is.0 is.1)

left_at : (L A B : Lens) (K : List Names) (st : State) → both_sides L ≡ Some (A, B) → IsTyped L → CanAsk L K st → CanAsk A (to_first L K) st
left_at (base t s) A B K st e typed can = cc
left_at (select P D) A B K st e typed can = cc
left_at (drop C X v D) A B K st e typed can = cc
left_at (rename C X D) A B K st e typed can = cc
left_at (join kind C D) A B K st e typed can = subst (λ Z. CanAsk Z (to_first (join kind C D) K) st) (ap (λ p. p.0) (same_Some (C, D) (A, B) e)) (under_left kind C D K st typed can)

right_at : (L A B : Lens) (K : List Names) (st : State) → both_sides L ≡ Some (A, B) → IsTyped L → CanAsk L K st → CanAsk B (to_second L K) st
right_at (base t s) A B K st e typed can = cc
right_at (select P D) A B K st e typed can = cc
right_at (drop C X v D) A B K st e typed can = cc
right_at (rename C X D) A B K st e typed can = cc
right_at (join kind C D) A B K st e typed can = subst (λ Z. CanAsk Z (to_second (join kind C D) K) st) (ap (λ p. p.1) (same_Some (C, D) (A, B) e)) (under_right kind C D K st typed can)

-- and so is each side
pub left_asks : (v : Viewed) (A B : Lens) (sets : List Names) → IsViewed v → both_sides v.lens ≡ Some (A, B) → sets ≡ to_first v.lens v.sets → CanAsk A sets v.tables.present
left_asks v A B sets is e handed = subst (λ K. CanAsk A K v.tables.present) (sym handed) (left_at v.lens A B v.sets v.tables.present e is.0 is.1)

pub right_asks : (v : Viewed) (A B : Lens) (sets : List Names) → IsViewed v → both_sides v.lens ≡ Some (A, B) → sets ≡ to_second v.lens v.sets → CanAsk B sets v.tables.present
right_asks v A B sets is e handed = subst (λ K. CanAsk B K v.tables.present) (sym handed) (right_at v.lens A B v.sets v.tables.present e is.0 is.1)
