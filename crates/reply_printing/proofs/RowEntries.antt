-- The entries of a row, read as its names and values side by side.
use Rattle.std.proofs.Common.{◌≡◌, ◌∙◌, ◌<◌, ◌+◌, ℕ, List, [], ◌∷◌, ◌++◌, length, min, take, get_or, ap, sym, arith}
use Rattle.std.specs.FinMap as finmap
use Rattle.plain_values.proofs.Common.{take_all, get_or-zip, length-zip, values_of, Row}
use Rattle.plain_values.specs.declared.value.Value.{Value}
use Rattle.lens_values.proofs.Cells.{as_many, pairs_are}
use Rattle.lens_specs.specs.Relation.{Name}

module _ (row : Row) (ns : List Name) (vs : List Value) (n : ns ≡ finmap.keys row) (v : vs ≡ values_of (finmap.entries row)) where
  counted : length (finmap.entries row) ≡ length vs
  counted =
      let many : length ns ≡ length vs = as_many row ns vs n v in
      ap length (sym (pairs_are row ns vs n v)) ∙ omega (arith, length-zip ns vs, many)

  -- the name and the value that a loop over both has come to are the entry there
  pub entry_turn : (i : ℕ) (name : Name) (value : Value) → (i < length ns) × (i < length vs) × ((d : Name) → name ≡ get_or ns i d) × ((d : Value) → value ≡ get_or vs i d)
      → (i < length (finmap.entries row)) × ((name, value) ≡ get_or (finmap.entries row) i (name, value))
  entry_turn i name value turn = (
    omega (arith, turn.1, counted),
    (λ j. (turn.2 name j, turn.3 value j)) ∙ sym (get_or-zip ns vs i (name, value) turn.0 turn.1) ∙ ap (λ es. get_or es i (name, value)) (pairs_are row ns vs n v),
  )

  -- all entries, where a loop over both has ended
  pub entries_whole : (i : ℕ) → i ≡ min (length ns) (length vs) → take i (finmap.entries row) ≡ finmap.entries row
  entries_whole i e = take_all i (finmap.entries row) (omega (arith, e, counted, as_many row ns vs n v))
