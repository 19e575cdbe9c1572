-- Right parts of rows joined too much, and which of them the edited view has.
use Rattle.std.proofs.Common.{◌≡◌, sym, ap, ◌∙◌, true, false, not, inl, inr}
use Rattle.plain_values.proofs.Common.{eq_by_cmp, not-true, false_from_ne_true, override, restrict, row_cmp, Row, absurd_false, any_at, any_from}
use Rattle.plain_values.specs.SortedSet as set
use Rattle.lens_specs.specs.Common.{Columns, Fits, names, Delta, new_view, Names, join_get, Rows, has, minus, project, those, agree, cut, paste}
use Rattle.lens_laws.proofs.Common.{find_by, from_new_view, in_new_view_added, in_new_view_kept, cut_right, from_natural, natural_paste}
use Rattle.lens_laws.proofs.PastedFinds.{both_is_paste}
use Rattle.fd_laws.proofs.Common.{from_minus, from_project, from_those, in_join, in_minus, in_project, in_those, same_rel, agree-cut, agree_back, agree_on, row_itself, tied_row}
use Rattle.join_delta.specs.Joined.{shared_names}
use Rattle.join_delta.specs.Shown.{is_shown}

-- parts of rows that are of a changed source stand in the old one, if they are not added
pub parts_stand : (C : Names) (N over : Rows) (right : Delta) → ((w : Row) → has over w ≡ true → has (new_view N right) (restrict C w) ≡ true)
    → (q : Row) → has (project C over) q ≡ true → has right.add q ≡ false → has N q ≡ true
unfolding cut
parts_stand C N over right all q i z =
    let w = from_project C over q i in
    elim (from_new_view N right q (ap (has (new_view N right)) w.2 ∙ all w.0 w.1)) [
      | inl y ↦ y.0
      | inr a ↦ absurd_false _ a z
    ]

-- P are right parts: each is a row of N or an added one, which N lacks
module _ (U V : Columns) (M N : Rows) (d : Delta) (P added : Rows) (fit_left : (m : Row) → has M m ≡ true → Fits U m) (fit_right : (n : Row) → has N n ≡ true → Fits V n)
    (new : (q : Row) → has added q ≡ true → has N q ≡ false) (stands : (q : Row) → has P q ≡ true → has added q ≡ false → has N q ≡ true) where
  abbrev S : Names
  S = shared_names U V

  abbrev J : Rows
  J = join_get (names U) (names V) M N

  abbrev O : Rows
  O = new_view (join_get (names U) (names V) M N) d

  abbrev own : Rows
  own = project (names V) d.add

  -- those that stood in N, and are no parts of added rows
  abbrev pub old : Rows
  old = minus (minus P (project (names V) d.add)) added

  -- those that are shown beside left rows
  abbrev pub shown : Rows
  shown = those (is_shown (shared_names U V) M d.remove) old

  pub old_stands : (q : Row) → has old q ≡ true → has N q ≡ true
  old_stands q i =
      let v = from_minus (minus P own) added q i in
      stands q (from_minus P own q v.0).0 v.1

  -- the parts of added rows are parts of the view
  own_there : (q : Row) → has own q ≡ true → has (project (names V) O) q ≡ true
  own_there q i =
      let w = from_project (names V) d.add q i in
      ap (has (project (names V) O)) w.2 ∙ in_project (names V) O w.0 (in_new_view_added J d w.0 w.1)

  -- and so are the shown ones
  shown_there : (q : Row) → has shown q ≡ true → has (project (names V) O) q ≡ true
  unfolding join_get cut
  shown_there q i =
      let v = from_those (is_shown S M d.remove) old q i in
      let w = any_from (eq_by_cmp row_cmp) tied_row row_itself (λ m. not (has d.remove (override q m))) (set.items (find_by S (cut S q) M)) v.1 in
      let p = from_those (agree S (cut S q)) M w.0 (set.contains-items (find_by S (cut S q) M) w.0 ∙ w.1) in
      let stood = old_stands q v.0 in
      let like : agree S w.0 q ≡ true = agree_back S q w.0 (agree_on S q (cut S q) w.0 (agree_back S (cut S q) q (agree-cut S q)) p.1) in
      let pair : override q w.0 ≡ paste w.0 (names V) q = both_is_paste V w.0 q (fit_right q stood) in
      let joined : has J (paste w.0 (names V) q) ≡ true = in_join S (names V) M N w.0 q p.0 stood like in
      let stays : has d.remove (paste w.0 (names V) q) ≡ false = ap (has d.remove) (sym pair) ∙ not-true _ w.2 in
      ap (has (project (names V) O)) (sym (cut_right U V M N fit_left fit_right w.0 q p.0 stood))
      ∙ in_project (names V) O (paste w.0 (names V) q) (in_new_view_kept J d (paste w.0 (names V) q) joined stays)

  -- a part of the view is one or the other
  there_shown : (q : Row) → has P q ≡ true → has own q ≡ false → has (project (names V) O) q ≡ true → has shown q ≡ true
  unfolding join_get cut
  there_shown q i z h =
      let w = from_project (names V) O q h in
      elim (from_new_view J d w.0 w.1) [
        | inr y ↦ absurd_false _ (ap (has own) w.2 ∙ in_project (names V) d.add w.0 y) z
        | inl y ↦
            let nat = from_natural U V M N fit_left fit_right w.0 y.0 in
            let p = natural_paste U V M N fit_left fit_right w.0 y.0 in
            let m = cut (names U) w.0 in
            let there : has N q ≡ true = ap (has N) w.2 ∙ nat.1 in
            let stood : has old q ≡ true = in_minus (minus P own) added q (in_minus P own q i z) (false_from_ne_true _ (λ a. absurd_false _ there (new q a))) in
            let like : agree S m q ≡ true = ap (agree S m) w.2 ∙ p.1 in
            let near : has (find_by S (cut S q) M) m ≡ true = in_those (agree S (cut S q)) M m nat.0 (agree_on S (cut S q) q m (agree-cut S q) (agree_back S m q like)) in
            let pair : override q m ≡ w.0 = both_is_paste V m q (fit_right q there) ∙ ap (paste m (names V)) w.2 ∙ p.0 in
            let stays : not (has d.remove (override q m)) ≡ true = ap (λ r. not (has d.remove r)) pair ∙ ap not y.1 in
            in_those (is_shown S M d.remove) old q stood
            (any_at (eq_by_cmp row_cmp) tied_row row_itself (λ r. not (has d.remove (override q r))) (set.items (find_by S (cut S q) M)) m (sym (set.contains-items (find_by S (cut S q) M) m) ∙ near) stays)
      ]

  pub free_are : minus (minus P own) shown ≡ minus P (project (names V) O)
  free_are = same_rel _ _
      (λ q i.
      let v = from_minus (minus P own) shown q i in
      let w = from_minus P own q v.0 in
      in_minus P (project (names V) O) q w.0 (false_from_ne_true _ (λ h. absurd_false _ (there_shown q w.0 w.1 h) v.1)))
      (λ q i.
      let v = from_minus P (project (names V) O) q i in
      in_minus (minus P own) shown q
      (in_minus P own q v.0 (false_from_ne_true _ (λ h. absurd_false _ (own_there q h) v.1)))
      (false_from_ne_true _ (λ h. absurd_false _ (shown_there q h) v.1)))

  -- free_are, from what the code makes one after the other
  pub free_made : (SH : Names) (parts others made_old made_shown : Rows) → SH ≡ shared_names U V → parts ≡ P
      → others ≡ minus parts (project (names V) d.add) → made_old ≡ minus others added → made_shown ≡ those (is_shown SH M d.remove) made_old
      → minus others made_shown ≡ minus P (project (names V) (new_view (join_get (names U) (names V) M N) d))
  free_made SH parts others made_old made_shown sh is_parts is_others is_old is_shown_of =
      let others_are : others ≡ minus P own = is_others ∙ ap (λ X. minus X own) is_parts in
      let olds : made_old ≡ old = is_old ∙ ap (λ X. minus X added) others_are in
      let shows : made_shown ≡ shown = is_shown_of ∙ (λ i. those (is_shown (sh i) M d.remove) (olds i)) in
      (λ i. minus (others_are i) (shows i)) ∙ free_are
