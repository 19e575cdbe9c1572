-- Tests that are made one after another.
use Rattle.std.proofs.Common.{◌≡◌, ℕ, Bool, true, false, List, Option, Some, None, not, nat_le}
use Rattle.std.specs.FinMap as finmap
use Rattle.lens_specs.specs.Common.{Columns, Edge, Predicate, Refusal, or_else, when, too_much, Sort, predicate_nodes}
use Rattle.lens_laws.proofs.Common.{IsSound}
use Rattle.lens_types.specs.Sorts.{sort_from}

-- another last test
pub or_last : (a b c : Option Refusal) → (b ≡ None → c ≡ None) → or_else a b ≡ None → or_else a c ≡ None
or_last None b c h e = h e
or_last (Some r) b c h e = cc

smaller : (a b c : Bool) (q r s : Refusal) → or_else (when a q) (or_else (when b r) (when c s)) ≡ None → or_else (when a q) (when c s) ≡ None
smaller false false c q r s e = e
smaller false true c q r s e = cc
smaller true b c q r s e = cc

-- what is not too large in a lens of many nodes is not in one of two
pub few_in_two : (n : ℕ) (s : Sort) → too_much n s ≡ None → too_much 2 s ≡ None
few_in_two n s e = smaller (not (nat_le (finmap.len s.columns) 64)) (not (nat_le n 64)) (not (nat_le (predicate_nodes s.predicate) 256)) _ _ _ e

-- nor in one of three
pub few_in_three : (n : ℕ) (s : Sort) → too_much n s ≡ None → too_much 3 s ≡ None
few_in_three n s e = smaller (not (nat_le (finmap.len s.columns) 64)) (not (nat_le n 64)) (not (nat_le (predicate_nodes s.predicate) 256)) _ _ _ e

-- equal parts make one sort
pub same_parts : (U V : Columns) (P Q : Predicate) (T W : List Edge) → IsSound (sort_from U P T) → V ≡ U → Q ≡ P → W ≡ T → IsSound (sort_from V Q W)
same_parts U V P Q T W h u p t = rw (u, p, t) h
