-- Conjuncts in normal form.
use Rattle.std.proofs.Common.{◌≡◌, ℕ, suc, Bool, true, cond, List, [], ◌∷◌, refl, sym, ◌∙◌, not, Option, Some, None, option_map, Result, Ok, Err, IsOk, IfErr}
use Rattle.plain_values.proofs.Common.{list_all, none-some, first_holds, second_holds}
use Rattle.lens_specs.specs.Common.{Formula}
use Rattle.lens_pred.specs.NormalForm.{is_conjunct, first_not_normal}
use Rattle.lens_pred.specs.declared.pred.NotNormal.{NotNormal}
use Rattle.lens_pred.proofs.Conjuncts.{position-cons}

none_out : (b : Bool) (o : Option ℕ) → b ≡ true → o ≡ None → cond (not b) (Some 0) (option_map suc o) ≡ None
none_out b o e f = rw (e, f) refl

-- where all are normal, none is out
pub none_wrong : (fs : List Formula) → list_all is_conjunct fs ≡ true → first_not_normal fs ≡ None
none_wrong [] h = refl
none_wrong (f ∷ fs) h =
    position-cons (λ g. not (is_conjunct g)) f fs
    ∙ none_out (is_conjunct f) (first_not_normal fs) (first_holds (is_conjunct f) (list_all is_conjunct fs) h) (none_wrong fs (second_holds (is_conjunct f) (list_all is_conjunct fs) h))

-- so they are a predicate
pub is_made : {A : Type 0} (fs : List Formula) (r : Result A NotNormal) → list_all is_conjunct fs ≡ true → IfErr r (λ fault. first_not_normal fs ≡ Some fault.index) → IsOk r
is_made fs (Ok a) h wrong = refl
is_made fs (Err fault) h wrong = absurd (none-some fault.index (sym (none_wrong fs h) ∙ wrong))
