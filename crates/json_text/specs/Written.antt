-- What a clause sees of a JSON text, and what is added at its end.
use Rattle.std.specs.Prelude.{◌≡◌, ℕ, Bool, List, [], ◌∷◌, ◌++◌, cond, fold, refl}
use Rattle.std.specs.Coded.{Coded, code_by, coded×, coded_list, coded_ℕ, coded_bool}
use Rattle.json.specs.Token.{Token}
use Rattle.json.specs.Print.{ends, print_from}

-- the bytes, and whether a value has just ended
pub record Written : Type 0 where
  pub bytes : List ℕ
  pub after_value : Bool

-- it is stored as the pair of its fields
abbrev pub written_code : Coded Written
written_code =
    code_by (List ℕ × Bool) (coded× (coded_list coded_ℕ) coded_bool) (λ w. (w.bytes, w.after_value)) (λ p. record { bytes = p.0; after_value = p.1 }) (λ _. refl)

-- these tokens were added
pub record Adds (old new : Written) (tokens : List Token) : Type 0 where
  pub bytes : new.bytes ≡ old.bytes ++ print_from old.after_value tokens
  pub after_value : new.after_value ≡ fold (λ _ token. ends token) old.after_value tokens

-- these bytes were added, and then a value has just ended or not
pub record AddsBytes (old new : Written) (more : List ℕ) (ended : Bool) : Type 0 where
  pub bytes : new.bytes ≡ old.bytes ++ more
  pub after_value : new.after_value ≡ ended

-- a comma, if a value has just ended
abbrev pub comma : Written → List ℕ
comma old = cond old.after_value (44 ∷ []) []
