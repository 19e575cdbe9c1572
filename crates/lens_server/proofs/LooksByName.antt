-- How many rows are looked at by key, at the lens of a name.
use Rattle.std.proofs.Common.{◌≡◌, ◌+◌, ◌≤◌, ℕ, Option, Some, subst, sym}
use Rattle.lens_specs.specs.Common.{Lens}
use Rattle.lens_server.specs.Counting.{of_lens}

-- the lens of the name is there
pub at_lens : (f : Lens → ℕ) (o : Option Lens) (L : Lens) (old new : ℕ) → o ≡ Some L → new ≤ old + f L → new ≤ old + of_lens f o
at_lens f o L old new is h = subst (λ p. new ≤ old + of_lens f p) (sym is) h
