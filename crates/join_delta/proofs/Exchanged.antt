-- Edits that exchange one row for another.
use Rattle.std.proofs.Common.{◌≡◌, ◌∙◌, ◌∷◌, [], ap, inl, inr, subst, sym, true}
use Rattle.plain_values.proofs.Common.{or_left, list_any, eq_by_cmp, row_cmp, Row, in_cons}
use Rattle.plain_values.specs.SortedSet as set
use Rattle.lens_specs.specs.Common.{Delta, Names, Rows, agree, has}
use Rattle.fd_laws.proofs.Common.{row_itself, tied_row}
use Rattle.join_delta.specs.Joined.{AreExchanged}

-- the listed row of a set of one is there
is_there : (M : Rows) (m : Row) → set.items M ≡ m ∷ [] → has M m ≡ true
is_there M m listed = set.contains-items M m ∙ ap (list_any (eq_by_cmp row_cmp m)) listed ∙ or_left _ _ (row_itself m)

-- and no other is
is_only : (M : Rows) (m : Row) → set.items M ≡ m ∷ [] → (r : Row) → has M r ≡ true → r ≡ m
is_only M m listed r i = elim (in_cons (eq_by_cmp row_cmp) tied_row row_itself r m [] (ap (list_any (eq_by_cmp row_cmp r)) (sym listed) ∙ sym (set.contains-items M r) ∙ i)) [ inl is ↦ is | inr j ↦ cc ]

-- an edit of one row that goes and one that comes, where they agree
pub one_exchanged : (C : Names) (d : Delta) (gone row : Row) → set.items d.remove ≡ gone ∷ [] → set.items d.add ≡ row ∷ [] → agree C gone row ≡ true → AreExchanged C d
one_exchanged C d gone row removed added alike = λ r i. (gone, is_there d.remove gone removed, subst (λ m. agree C gone m ≡ true) (sym (is_only d.add row added r i)) alike)
