-- The order of values is total, and only equal values tie.
use Rattle.std.specs.Prelude.{◌≡◌, refl, Bool, true, false}
use Rattle.std.proofs.Common.{ap, subst}
use Rattle.std.specs.declared.cmp.Ordering.TheVariants.{Equal}
use Rattle.std.specs.Ordering.{bool_cmp}
use Rattle.std.specs.Cmp.{IsTotalOrder}
use Rattle.std.specs.FinMap.{IsAntisymmetric, int_cmp-IsAntisymmetric, nat_cmp-IsAntisymmetric, slice_cmp-IsAntisymmetric}
use Rattle.plain_values.specs.Value.{value_cmp}
use Rattle.plain_values.specs.declared.value.Value.{Value}
use Rattle.plain_values.specs.declared.value.Value.TheVariants.{Null, Int, Text, Flag}
use Rattle.plain_values.specs.contracts.value.ValueOrd.TheImpl as derived

-- the derived comparison is the one of the definition
pub derived_cmp : (x y : Value) → (derived.cmp-value).it x y ≡ value_cmp x y
derived_cmp Null Null = refl
derived_cmp Null (Int y) = refl
derived_cmp Null (Text y) = refl
derived_cmp Null (Flag y) = refl
derived_cmp (Int x) Null = refl
derived_cmp (Int x) (Int y) = refl
derived_cmp (Int x) (Text y) = refl
derived_cmp (Int x) (Flag y) = refl
derived_cmp (Text x) Null = refl
derived_cmp (Text x) (Int y) = refl
derived_cmp (Text x) (Text y) = refl
derived_cmp (Text x) (Flag y) = refl
derived_cmp (Flag x) Null = refl
derived_cmp (Flag x) (Int y) = refl
derived_cmp (Flag x) (Text y) = refl
derived_cmp (Flag x) (Flag y) = refl

-- the order of values is total
pub value_cmp_total : IsTotalOrder value_cmp
value_cmp_total = subst (λ R. IsTotalOrder R) (λ i x y. derived_cmp x y i) derived.Laws.total-law

bools : (x y : Bool) → bool_cmp x y ≡ Equal → x ≡ y
bools true true e = refl
bools true false e = cc
bools false true e = cc
bools false false e = refl

-- only equal values tie
pub value_cmp-IsAntisymmetric : IsAntisymmetric value_cmp
value_cmp-IsAntisymmetric Null Null e = refl
value_cmp-IsAntisymmetric Null (Int y) e = cc
value_cmp-IsAntisymmetric Null (Text y) e = cc
value_cmp-IsAntisymmetric Null (Flag y) e = cc
value_cmp-IsAntisymmetric (Int x) Null e = cc
value_cmp-IsAntisymmetric (Int x) (Int y) e = ap Int (int_cmp-IsAntisymmetric x y e)
value_cmp-IsAntisymmetric (Int x) (Text y) e = cc
value_cmp-IsAntisymmetric (Int x) (Flag y) e = cc
value_cmp-IsAntisymmetric (Text x) Null e = cc
value_cmp-IsAntisymmetric (Text x) (Int y) e = cc
value_cmp-IsAntisymmetric (Text x) (Text y) e = ap Text (slice_cmp-IsAntisymmetric nat_cmp-IsAntisymmetric x y e)
value_cmp-IsAntisymmetric (Text x) (Flag y) e = cc
value_cmp-IsAntisymmetric (Flag x) Null e = cc
value_cmp-IsAntisymmetric (Flag x) (Int y) e = cc
value_cmp-IsAntisymmetric (Flag x) (Text y) e = cc
value_cmp-IsAntisymmetric (Flag x) (Flag y) e = ap Flag (bools x y e)
