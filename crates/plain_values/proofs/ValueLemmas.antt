-- Which values are equal, and which fit a kind.
use Rattle.std.proofs.Common.{◌≡◌, ℕ, ℤ, Bool, true, List, refl, ap, sym, ◌∙◌, zero, suc, inl, inr, true≢false}
use Rattle.std.proofs.lemmas.Bool.Decides.{eqb_tells}
use Rattle.std.specs.Ordering.{is_eq}
use Rattle.plain_values.specs.Value.{fits, kind_place, same_kind, value_cmp}
use Rattle.plain_values.specs.ValueOrder.{derived_cmp}
use Rattle.plain_values.specs.declared.value.Kind.{Kind}
use Rattle.plain_values.specs.declared.value.Kind.TheVariants.{Int, Text, Flag, IntOrNull, TextOrNull, FlagOrNull}
use Rattle.plain_values.specs.declared.value.Value.{Value}
use Rattle.plain_values.specs.declared.value.Value.TheVariants as value
use Rattle.plain_values.specs.contracts.value.ValueOrd.TheImpl as order
use Rattle.plain_values.specs.contracts.value.ValuePartialEq.TheImpl as equal

pub eq-value_cmp : (v w : Value) → (equal.eq-value).it v w ≡ is_eq (value_cmp v w)
eq-value_cmp v w = order.Laws.matches_eq-law v w ∙ ap is_eq (derived_cmp v w)

pub kind_itself : (k : Kind) → same_kind k k ≡ true
kind_itself Int = refl
kind_itself Text = refl
kind_itself Flag = refl
kind_itself IntOrNull = refl
kind_itself TextOrNull = refl
kind_itself FlagOrNull = refl

-- the kind at a place
abbrev kind_at : ℕ → Kind
kind_at zero = Int
kind_at (suc zero) = Text
kind_at (suc (suc zero)) = Flag
kind_at (suc (suc (suc zero))) = IntOrNull
kind_at (suc (suc (suc (suc zero)))) = TextOrNull
kind_at (suc (suc (suc (suc (suc n))))) = FlagOrNull

at_place : (k : Kind) → kind_at (kind_place k) ≡ k
at_place Int = refl
at_place Text = refl
at_place Flag = refl
at_place IntOrNull = refl
at_place TextOrNull = refl
at_place FlagOrNull = refl

pub same_is : (j k : Kind) → same_kind j k ≡ true → j ≡ k
same_is j k e = elim (eqb_tells (kind_place j) (kind_place k)) [
  | inl same ↦ sym (at_place j) ∙ ap kind_at same.1 ∙ at_place k
  | inr other ↦ absurd (true≢false (sym e ∙ other.0))
]

-- ---- what fits a kind

pub int_fits : (z : ℤ) → fits (value.Int z) Int ≡ true
unfolding fits
int_fits z = refl

pub text_fits : (bytes : List ℕ) → fits (value.Text bytes) Text ≡ true
unfolding fits
text_fits bytes = refl

pub flag_fits : (b : Bool) → fits (value.Flag b) Flag ≡ true
unfolding fits
flag_fits b = refl

pub int_fits_null : (z : ℤ) → fits (value.Int z) IntOrNull ≡ true
unfolding fits
int_fits_null z = refl

pub text_fits_null : (bytes : List ℕ) → fits (value.Text bytes) TextOrNull ≡ true
unfolding fits
text_fits_null bytes = refl

pub flag_fits_null : (b : Bool) → fits (value.Flag b) FlagOrNull ≡ true
unfolding fits
flag_fits_null b = refl
