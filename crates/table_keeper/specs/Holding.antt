-- What a keeper in memory holds.
use Rattle.std.specs.Prelude.{ℕ, List, Option, refl}
use Rattle.std.specs.Coded.{Coded, code_by, coded×, coded_list, coded_option, coded_ℕ}
use Rattle.std.specs.FinMap as finmap
use Rattle.lens_specs.specs.Keeping as keeping
use Rattle.row_sets.specs.Codes.{coded_rows}

-- what is kept, and where it lies, if a place was chosen
pub record Holding : Type 0 where
  pub kept : keeping.Kept
  pub place : Option (List ℕ)

abbrev pub coded_kept : Coded keeping.Kept
coded_kept = code_by _ (coded× (coded_list (coded_list coded_ℕ)) (finmap.code (coded_list coded_ℕ) coded_rows)) (λ k. (k.texts, k.rows)) (λ p. record { texts = p.0; rows = p.1 }) (λ _. refl)

abbrev pub coded_holding : Coded Holding
coded_holding = code_by _ (coded× coded_kept (coded_option (coded_list coded_ℕ))) (λ h. (h.kept, h.place)) (λ p. record { kept = p.0; place = p.1 }) (λ _. refl)
