-- What `implies` answers.
use Rattle.std.proofs.Common.{◌≡◌, true, false, List, [], ◌∷◌, sym, ◌∙◌}
use Rattle.plain_values.proofs.Common.{true≢false, Row}
use Rattle.std.specs.FinMap as map
use Rattle.plain_values.specs.SortedSet as set
use Rattle.fd_laws.proofs.Closures.{closure_is, implies_sound, implies_complete, witness, witness_fits, zero_row, one_row, zero_in, one_in}
use Rattle.fd_laws.proofs.Names.{subset_is, subset_from}
use Rattle.lens_specs.specs.Common.{Within, Columns, Fits, names, Rows, Edge, Meets, MeetsTree, closure}
use Rattle.lens_specs.specs.Dependencies.{implies}
use Rattle.fd_laws.specs.Trees.{EdgesWithin}

pub implies_is : (U : Columns) (F : List Edge) (e : Edge) → EdgesWithin (names U) F → Within e.left (names U) → Within e.right (names U)
    → (implies F e ≡ true → (M : Rows) → MeetsTree M F → Meets M e.left e.right)
    × (implies F e ≡ false → (r s : Row) × Fits U r × Fits U s × MeetsTree (set.from_list (r ∷ s ∷ [])) F × (Meets (set.from_list (r ∷ s ∷ [])) e.left e.right → ⊥))
unfolding witness
implies_is U F e wf wl wr =
    let C = closure e.left F in
    let w = implies_complete (names U) (map.get U) e.left e.right C F (closure_is e.left F) wl wr wf in (
      λ t M m. implies_sound e.left e.right C F M (closure_is e.left F) (subset_is e.right C t) m,
      λ f. (
        zero_row (names U) (map.get U) C,
        one_row (names U) (map.get U) C,
        witness_fits U C _ (zero_in (names U) (map.get U) C),
        witness_fits U C _ (one_in (names U) (map.get U) C),
        w.0,
        λ m. true≢false (sym (subset_from e.right C (w.1 m)) ∙ f),
      ),
    )
