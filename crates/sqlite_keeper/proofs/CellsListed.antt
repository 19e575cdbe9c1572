-- What stands for the values of a row, in a loop over its columns and values side by side.
use Rattle.std.proofs.Common.{◌≡◌, ◌∙◌, ◌<◌, ◌+◌, ℕ, List, [], ◌∷◌, ◌++◌, length, min, take, get_or, ap, sym, arith, append-nil, flat_map}
use Rattle.plain_values.proofs.Common.{zip, take_all, take_more, flat_map-append, get_or-zip, length-zip}
use Rattle.plain_values.specs.declared.value.Kind.{Kind}
use Rattle.plain_values.specs.declared.value.Value.{Value}
use Rattle.sqlite_value.specs.declared.value.Value.{Value as Cell}
use Rattle.sqlite_keeper.specs.Cells.{cells_at}

module _ (columns : List (List ℕ × Kind)) (values : List Value) where
  -- what stands for the first i of the values
  abbrev pub cells_to : ℕ → List Cell
  cells_to i = flat_map (λ e. cells_at e.0.1 e.1) (take i (zip columns values))

  pub cells_more : (i : ℕ) (c : List ℕ × Kind) (v : Value)
      → (i < length columns) × (i < length values) × ((d : List ℕ × Kind) → c ≡ get_or columns i d) × ((d : Value) → v ≡ get_or values i d)
      → cells_to (i + 1) ≡ cells_to i ++ cells_at c.1 v
  cells_more i c v turn =
      let both = zip columns values in
      ap (flat_map (λ e. cells_at e.0.1 e.1))
      (take_more both i (c, v) (omega (arith, length-zip columns values, turn.0, turn.1))
      ∙ ap (λ e. take i both ++ e ∷ []) (get_or-zip columns values i (c, v) turn.0 turn.1 ∙ sym (λ j. (turn.2 c j, turn.3 v j))))
      ∙ flat_map-append (λ e. cells_at e.0.1 e.1) (take i both) ((c, v) ∷ [])
      ∙ ap (λ x. cells_to i ++ x) (append-nil (cells_at c.1 v))

  pub cells_whole : (i : ℕ) → i ≡ min (length columns) (length values) → cells_to i ≡ flat_map (λ e. cells_at e.0.1 e.1) (zip columns values)
  cells_whole i e = ap (flat_map (λ e. cells_at e.0.1 e.1)) (take_all i (zip columns values) (omega (arith, e, length-zip columns values)))
