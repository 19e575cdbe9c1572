-- Sets of few rows, with a row more and with a row less.
use Rattle.std.proofs.Common.{◌≡◌, ap, sym, ◌∙◌, refl, Bool, true, false, ℕ, length, zero, suc, List, [], ◌∷◌, not, ◌&&◌, ◌||◌, ◌==◌}
use Rattle.plain_values.proofs.Common.{IsStrictlySortedBy, eq_by_cmp, is_eq, ordering_reverse, tied_itself, Ordering, Less, Equal, Greater, true≢false, row_cmp, Row, row_cmp_total, row_cmp-IsAntisymmetric, or_swap}
use Rattle.std.proofs.Math.Dec.{eqb-suc-zero}
use Rattle.plain_values.specs.SortedSet as set
use Rattle.lens_specs.specs.Common.{Rows}
use Rattle.key_index.specs.Group.{pair, singleton}
use Rattle.key_index.proofs.Groups.{no_rows, nothing_left, tied}

there : (e c : Bool) → (e ≡ true → c ≡ true) → c ≡ (e || c)
there true c h = h refl
there false c h = refl

-- a row that is there changes nothing
again : (s : Rows) (row : Row) → set.contains s row ≡ true → s ≡ set.insert s row
again s row is = set.same_set row_cmp_total row_cmp-IsAntisymmetric _ _ (λ q.
    there (eq_by_cmp row_cmp q row) (set.contains s q) (λ e. ap (set.contains s) (tied q row e) ∙ is)
    ∙ sym (set.contains-insert row_cmp_total s row q))

itself : (row : Row) → eq_by_cmp row_cmp row row ≡ true
itself row = ap is_eq (tied_itself row_cmp_total row)

has_last : (s : Rows) (row : Row) → set.contains (set.insert s row) row ≡ true
has_last s row = set.contains-insert row_cmp_total s row row ∙ ap (λ b. b || set.contains s row) (itself row)

-- the one row again
pub one_again : (one row : Row) → eq_by_cmp row_cmp one row ≡ true → singleton one ≡ set.insert (singleton one) row
one_again one row e = again (singleton one) row (ap (λ r. set.contains (singleton one) r) (sym (tied one row e)) ∙ has_last set.empty one)

absorbed : (e c : Bool) → (not e && (e || c)) ≡ (not e && c)
absorbed true c = refl
absorbed false c = refl

-- the row that came last goes
last_gone : (s : Rows) (x row : Row) → eq_by_cmp row_cmp x row ≡ true → set.remove (set.insert s x) row ≡ set.remove s row
last_gone s x row e = set.same_set row_cmp_total row_cmp-IsAntisymmetric _ _ (λ q.
    set.contains-remove row_cmp_total (set.insert s x) row q
    ∙ ap (λ b. not (eq_by_cmp row_cmp q row) && b) (set.contains-insert row_cmp_total s x q)
    ∙ ap (λ r. not (eq_by_cmp row_cmp q row) && (eq_by_cmp row_cmp q r || set.contains s q)) (tied x row e)
    ∙ absorbed (eq_by_cmp row_cmp q row) (set.contains s q)
    ∙ sym (set.contains-remove row_cmp_total s row q))

apart : (r x c : Bool) → (x ≡ true → r ≡ false) → (not r && (x || c)) ≡ (x || (not r && c))
apart true true c h = let no = h refl in cc
apart true false c h = refl
apart false x c h = refl

-- the row that came last stays
last_stays : (s : Rows) (x row : Row) → eq_by_cmp row_cmp x row ≡ false → set.remove (set.insert s x) row ≡ set.insert (set.remove s row) x
last_stays s x row e = set.same_set row_cmp_total row_cmp-IsAntisymmetric _ _ (λ q.
    set.contains-remove row_cmp_total (set.insert s x) row q
    ∙ ap (λ b. not (eq_by_cmp row_cmp q row) && b) (set.contains-insert row_cmp_total s x q)
    ∙ apart (eq_by_cmp row_cmp q row) (eq_by_cmp row_cmp q x) (set.contains s q) (λ same. ap (λ r. eq_by_cmp row_cmp r row) (tied q x same) ∙ e)
    ∙ ap (λ b. eq_by_cmp row_cmp q x || b) (sym (set.contains-remove row_cmp_total s row q))
    ∙ sym (set.contains-insert row_cmp_total (set.remove s row) x q))

-- the one row goes
pub one_gone : (one row : Row) → eq_by_cmp row_cmp one row ≡ true → set.empty ≡ set.remove (singleton one) row
one_gone one row e = sym (last_gone set.empty one row e ∙ nothing_left row)

-- the one row stays
pub one_stays : (one row : Row) → eq_by_cmp row_cmp one row ≡ false → singleton one ≡ set.remove (singleton one) row
one_stays one row e = sym (last_stays set.empty one row e ∙ ap (λ s. set.insert s one) (nothing_left row))

pub swapped : (one other : Row) → pair one other ≡ pair other one
swapped one other = set.same_set row_cmp_total row_cmp-IsAntisymmetric _ _ (λ q.
    set.contains-insert row_cmp_total (singleton one) other q
    ∙ ap (λ b. eq_by_cmp row_cmp q other || b) (set.contains-insert row_cmp_total set.empty one q)
    ∙ or_swap (eq_by_cmp row_cmp q other) (eq_by_cmp row_cmp q one) (set.contains (set.empty {R = row_cmp}) q)
    ∙ ap (λ b. eq_by_cmp row_cmp q one || b) (sym (set.contains-insert row_cmp_total set.empty other q))
    ∙ sym (set.contains-insert row_cmp_total (singleton other) one q))

-- the lesser of two rows comes first
greater : (o : Ordering) → ordering_reverse o ≡ Greater → o ≡ Less
greater Less e = refl
greater Equal e = cc
greater Greater e = cc

pub turned_over : (one other : Row) → row_cmp one other ≡ Greater → row_cmp other one ≡ Less
turned_over one other e = greater (row_cmp other one) (sym (row_cmp_total.antisymm one other) ∙ e)

-- of two rows the first goes
pub first_gone : (one other row : Row) → eq_by_cmp row_cmp one row ≡ true → set.remove (singleton other) row ≡ set.remove (pair one other) row
first_gone one other row e = sym (ap (λ s. set.remove s row) (swapped one other) ∙ last_gone (singleton other) one row e)

-- of two rows the second goes
pub second_gone : (one other row : Row) → eq_by_cmp row_cmp one row ≡ false → eq_by_cmp row_cmp other row ≡ true → singleton one ≡ set.remove (pair one other) row
second_gone one other row e f = one_stays one row e ∙ sym (last_gone (singleton one) other row f)

-- both rows stay
pub both_stay : (one other row : Row) → eq_by_cmp row_cmp one row ≡ false → eq_by_cmp row_cmp other row ≡ false → pair one other ≡ set.remove (pair one other) row
both_stay one other row e f = sym (last_stays (singleton one) other row f ∙ ap (λ s. set.insert s other) (sym (one_stays one row e)))

not_zero : (n : ℕ) → (n ≡ 0 → ⊥) → false ≡ (n == 0)
not_zero zero h = absurd (h refl)
not_zero (suc n) h = sym (eqb-suc-zero n)

-- what is tested to be 0 is 0
pub is_zero : (n : ℕ) → (n == 0) ≡ true → n ≡ 0
is_zero zero e = refl
is_zero (suc n) e = absurd (true≢false (sym e ∙ eqb-suc-zero n))

-- a set into which a row was put is not empty
pub not_empty : (s : Rows) (row : Row) → false ≡ (length (set.items (set.insert s row)) == 0)
not_empty s row = not_zero _ (λ e.
    true≢false (sym (has_last s row) ∙ ap (λ t. set.contains t row) (no_rows (set.insert s row) e) ∙ set.contains-empty row_cmp row))

-- the set of no row is empty
pub none_empty : true ≡ (length (set.items (set.empty {R = row_cmp})) == 0)
unfolding IsStrictlySortedBy
none_empty = ap (λ (rows : List Row). length rows == 0) (sym (set.items-from_list row_cmp_total [] tt))

-- the list of one row rises
pub one_rises : (row : Row) → IsStrictlySortedBy row_cmp (row ∷ [])
unfolding IsStrictlySortedBy
one_rises row = (tt, tt)

-- and so does that of two, where the first is less
pub two_rise : (first second : Row) → row_cmp first second ≡ Less → IsStrictlySortedBy row_cmp (first ∷ second ∷ [])
unfolding IsStrictlySortedBy
two_rise first second less = ((less, tt), (tt, tt))
