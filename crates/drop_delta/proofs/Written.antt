-- A row with a value written in one column.
use Rattle.std.proofs.Common.{◌≡◌, ◌∙◌, ◌∷◌, List, [], Some, ap, cond, inl, inr, is_some, length, subst, sym, true, None, Option}
use Rattle.plain_values.proofs.Common.{filter_map, nat_list_cmp_total, eq_by_cmp, cases_Bool, false_from_ne_true, bytes_cmp, override, Row, absurd_false}
use Rattle.std.specs.FinMap as finmap
use Rattle.plain_values.specs.SortedSet as set
use Rattle.plain_values.specs.declared.value.Value.{Value}
use Rattle.lens_values.proofs.Cells.{Knows, full_knows}
use Rattle.lens_specs.specs.Common.{Name, Names, one, at, with_at}
use Rattle.fd_laws.proofs.Common.{name_itself, one_is, one_itself, tied_name, same_row, subset_from, at-with_at}
use Rattle.row_sets.proofs.Natural.{first_of, get-both}

first_chosen : (b : _) (v : Value) (o : Option Value) → first_of (cond b (Some v) None) o ≡ cond b (Some v) o
first_chosen true v o = λ i. Some v
first_chosen _ v o = λ i. o

module _ (A : Name) (v : Value) where
  abbrev pub single : Row
  single = finmap.from_entries ((A, v) ∷ [])

  at_single : (c : Name) → at single c ≡ cond (eq_by_cmp bytes_cmp c A) (Some v) None
  at_single c = finmap.get-from_entries nat_list_cmp_total ((A, v) ∷ []) c

  -- pasted over a row it is written there
  pub over_is : (n : Row) → override single n ≡ with_at n A (Some v)
  over_is n = same_row _ _ (λ c. get-both single n c ∙ ap (λ o. first_of o (at n c)) (at_single c) ∙ first_chosen (eq_by_cmp bytes_cmp c A) v (at n c) ∙ sym (at-with_at n A (Some v) c))

  knows_single : Knows (one A) single
  knows_single c = elim (cases_Bool (eq_by_cmp bytes_cmp c A)) [
    | inl t ↦ ap (set.contains (one A)) (tied_name c A t) ∙ one_itself A ∙ sym (ap is_some (at_single c ∙ ap (λ b. cond b (Some v) None) t))
    | inr o ↦ false_from_ne_true _ (λ i. absurd_false _ (ap (λ e. eq_by_cmp bytes_cmp e A) (one_is A c i) ∙ name_itself A) o)
        ∙ sym (ap is_some (at_single c ∙ ap (λ b. cond b (Some v) None) o))
  ]

  -- names that each have a value in the row then, and that hold the column and the row's own names, are its names
  pub written_knows : (n : Row) (D L : Names) (vs : List Value) → Knows D n → vs ≡ filter_map (finmap.get (with_at n A (Some v))) (set.items L)
      → length vs ≡ length (set.items L) → set.contains L A ≡ true → set.is_subset D L ≡ true → Knows L (with_at n A (Some v))
  written_knows n D L vs own is many there below =
      subst (Knows L) (over_is n)
      (full_knows (one A) D L single n vs knows_single own (is ∙ ap (λ (m : Row). filter_map (finmap.get m) (set.items L)) (sym (over_is n))) many
      (subset_from (one A) L (λ c i. ap (set.contains L) (one_is A c i) ∙ there)) below)
