-- Keys of one column, and what they find.
use Rattle.std.proofs.Common.{◌≡◌, ◌∙◌, ◌∷◌, [], Some, ap, cond, inl, inr, is_some, sym, subst, true, None}
use Rattle.std.specs.FinMap as finmap
use Rattle.plain_values.proofs.Common.{nat_list_cmp_total, eq_by_cmp, cases_Bool, bytes_cmp, Row, absurd_false, same_bool}
use Rattle.plain_values.specs.SortedSet as set
use Rattle.plain_values.specs.declared.value.Value.{Value}
use Rattle.lens_specs.specs.Common.{Name, one, Rows, has, those, Columns, Fits, agree, at, same_value}
use Rattle.fd_laws.proofs.Common.{name_itself, one_is, one_itself, tied_name, from_those, agree_at, agree_from, same_value-is}
use Rattle.fd_laws.proofs.Rows.{same_value-refl}
use Rattle.lens_laws.proofs.Common.{find_by}
use Rattle.signed_delta.specs.Keys.{HasColumns}
use Rattle.find_rows.specs.Found.{rows_with}

module _ (c : Name) (v : Value) (key : Row) (is : key ≡ finmap.from_entries ((c, v) ∷ [])) where
  at_key : (d : Name) → at key d ≡ cond (eq_by_cmp bytes_cmp d c) (Some v) None
  at_key d = ap (λ k. at k d) is ∙ finmap.get-from_entries nat_list_cmp_total ((c, v) ∷ []) d

  own : at key c ≡ Some v
  own = at_key c ∙ ap (λ b. cond b (Some v) None) (name_itself c)

  -- it has a value in the column
  pub key_has : HasColumns (one c) key
  key_has d i = ap (λ e. is_some (at key e)) (one_is c d i) ∙ ap is_some own

  agrees : (r : Row) → agree (one c) key r ≡ same_value (Some v) (at r c)
  agrees r = same_bool _ _
      (λ g. subst (λ o. same_value (Some v) o ≡ true) (sym own ∙ agree_at (one c) key r g c (one_itself c)) (same_value-refl (Some v)))
      (λ s. agree_from (one c) key r (λ d i. ap (at key) (one_is c d i) ∙ own ∙ same_value-is (Some v) (at r c) s ∙ sym (ap (at r) (one_is c d i))))

  -- the rows found by it are those with the value
  pub found_with : (M : Rows) → find_by (one c) key M ≡ rows_with c v M
  found_with M = ap (λ p. those p M) (λ i r. agrees r i)

-- the rows of a relation with the value have its columns
pub with_fit : (c : Name) (v : Value) (M rows : Rows) (U : Columns) → rows ≡ rows_with c v M → ((r : Row) → has M r ≡ true → Fits U r) → (r : Row) → has rows r ≡ true → Fits U r
with_fit c v M rows U is fit r i = fit r (from_those _ M r (ap (λ N. has N r) (sym is) ∙ i)).0
