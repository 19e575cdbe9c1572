-- A cutter is stored as the tuple of its parts.
use Rattle.std.specs.Prelude.{ℕ, Bool, List, refl}
use Rattle.std.specs.Coded.{Coded, code_by, coded×, coded_list, coded_ℕ, coded_bool}
use Rattle.lens_io.specs.Cutting.{Cutter}

abbrev pub coded_cutter : Coded Cutter
coded_cutter = code_by (List ℕ × (List ℕ × (ℕ × (ℕ × (Bool × Bool)))))
    (coded× (coded_list coded_ℕ) (coded× (coded_list coded_ℕ) (coded× coded_ℕ (coded× coded_ℕ (coded× coded_bool coded_bool)))))
    (λ c. (c.pending, (c.line, (c.taken, (c.limit, (c.ended, c.done))))))
    (λ p. record { pending = p.0; line = p.1.0; taken = p.1.1.0; limit = p.1.1.1.0; ended = p.1.1.1.1.0; done = p.1.1.1.1.1 }) (λ _. refl)
