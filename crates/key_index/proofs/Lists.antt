-- Lists of rows that go, and the keys that they keep.
use Rattle.std.proofs.Common.{◌≡◌, ℕ, ◌<◌, List, [], ◌∷◌, ◌++◌, length, ap, sym, ◌∙◌, refl, Bool, true, false, arith, zero, suc, not, ◌&&◌, ◌||◌, slice_index_or, Result, Ok, Err, OnOk, OnErr, is_err}
use Rattle.plain_values.proofs.Common.{eq_by_cmp, false≢true, row_cmp, Row, row_cmp_total, row_cmp-IsAntisymmetric, or_swap}
use Rattle.key_index.specs.Key.{key_of}
use Rattle.plain_values.specs.SortedSet as set
use Rattle.lens_specs.specs.Common.{Rows}
use Rattle.key_index.specs.Lists.{rows_of, HasKeys, AreKeyed, SameCols}
use Rattle.key_index.specs.declared.index.Index.{Index}
use Rattle.key_index.specs.declared.keyed.Keyed.{Keyed}
use Rattle.key_index.proofs.Groups.{tied}

pub inside : {A : Type 0} (xs : List A) (i : ℕ) (d e : A) → i < length xs → slice_index_or xs i d ≡ slice_index_or xs i e
inside [] i d e within = absurd (omega arith)
inside (x ∷ xs) zero d e within = refl
inside (x ∷ xs) (suc i) d e within = inside xs i d e (omega arith)

pub in_pushed : (list : List Keyed) (k : Keyed) (x : Row) → set.contains (rows_of (list ++ k ∷ [])) x ≡ (eq_by_cmp row_cmp x k.row || set.contains (rows_of list) x)
in_pushed [] k x = set.contains-insert row_cmp_total set.empty k.row x
in_pushed (j ∷ js) k x =
    set.contains-insert row_cmp_total (rows_of (js ++ k ∷ [])) j.row x
    ∙ ap (λ b. eq_by_cmp row_cmp x j.row || b) (in_pushed js k x)
    ∙ or_swap (eq_by_cmp row_cmp x j.row) (eq_by_cmp row_cmp x k.row) (set.contains (rows_of js) x)
    ∙ ap (λ b. eq_by_cmp row_cmp x k.row || b) (sym (set.contains-insert row_cmp_total (rows_of js) j.row x))

and_or : (a e r : Bool) → ((not e && a) && not r) ≡ (a && not (e || r))
and_or true true r = refl
and_or true false r = refl
and_or false true r = refl
and_or false false r = refl

-- one row goes, and then the others
pub one_less : (rows : Rows) (list : List Keyed) (k : Keyed) → set.difference (set.remove rows k.row) (rows_of list) ≡ set.difference rows (rows_of (list ++ k ∷ []))
one_less rows list k = set.same_set row_cmp_total row_cmp-IsAntisymmetric _ _ (λ x.
    set.contains-difference row_cmp_total (set.remove rows k.row) (rows_of list) x
    ∙ ap (λ b. b && not (set.contains (rows_of list) x)) (set.contains-remove row_cmp_total rows k.row x)
    ∙ and_or (set.contains rows x) (eq_by_cmp row_cmp x k.row) (set.contains (rows_of list) x)
    ∙ ap (λ b. set.contains rows x && not b) (sym (in_pushed list k x))
    ∙ sym (set.contains-difference row_cmp_total rows (rows_of (list ++ k ∷ [])) x))

and_true : (a : Bool) → (a && not false) ≡ a
and_true true = refl
and_true false = refl

-- nothing goes
pub none_less : (rows : Rows) → set.difference rows (rows_of []) ≡ rows
none_less rows = set.same_set row_cmp_total row_cmp-IsAntisymmetric _ _ (λ x.
    set.contains-difference row_cmp_total rows set.empty x
    ∙ ap (λ b. set.contains rows x && not b) (set.contains-empty row_cmp x) ∙ and_true (set.contains rows x))

pub same_itself : (a : List Index) → SameCols a a
same_itself a = record { many = refl; each = λ i d e within. ap (λ x. x.cols) (inside a i d e within) }

pub same_trans : (a b c : List Index) → SameCols a b → SameCols b c → SameCols a c
same_trans a b c s t = record {
  many = t.many ∙ s.many;
  each = λ i d e within. t.each i d d (omega (arith, s.many)) ∙ s.each i d e within;
}

pub keeps_keys : (old new : List Index) (keyed : Keyed) → SameCols old new → HasKeys old keyed → HasKeys new keyed
keeps_keys old new keyed same has = record {
  many = has.many ∙ sym same.many;
  each = λ i d k within.
      has.each i d k (omega (arith, same.many)) ∙ ap (λ c. key_of c keyed.row) (sym (same.each i d d (omega (arith, same.many))));
}

pub last_keyed : (indexes : List Index) (list : List Keyed) (k : Keyed) → AreKeyed indexes (list ++ k ∷ []) → HasKeys indexes k
last_keyed indexes [] k all = all 0 k (omega arith)
last_keyed indexes (j ∷ js) k all = last_keyed indexes js k (λ i d within. all (suc i) d (omega arith))

pub others_keyed : (indexes : List Index) (list : List Keyed) (k : Keyed) → AreKeyed indexes (list ++ k ∷ []) → AreKeyed indexes list
others_keyed indexes [] k all i d within = absurd (omega arith)
others_keyed indexes (j ∷ js) k all zero d within = all 0 d (omega arith)
others_keyed indexes (j ∷ js) k all (suc i) d within = others_keyed indexes js k (λ n e inside. all (suc n) e (omega arith)) i d (omega arith)

pub all_keep_keys : (old new : List Index) (list : List Keyed) → SameCols old new → AreKeyed old list → AreKeyed new list
all_keep_keys old new list same all i d within = keeps_keys old new _ same (all i d within)

pub pushed_keyed : (indexes : List Index) (list : List Keyed) (k : Keyed) → AreKeyed indexes list → HasKeys indexes k → AreKeyed indexes (list ++ k ∷ [])
pushed_keyed indexes [] k all has zero d within = has
pushed_keyed indexes [] k all has (suc i) d within = absurd (omega arith)
pushed_keyed indexes (j ∷ js) k all has zero d within = all 0 d (omega arith)
pushed_keyed indexes (j ∷ js) k all has (suc i) d within = pushed_keyed indexes js k (λ n e inside. all (suc n) e (omega arith)) has i d (omega arith)

not_that : (e a : Bool) → (e ≡ true → a ≡ false) → (not e && a) ≡ a
not_that true a h = sym (h refl)
not_that false a h = refl

-- to remove what is not there changes nothing
pub none_removed : (rows : Rows) (row : Row) → set.contains rows row ≡ false → set.remove rows row ≡ rows
none_removed rows row absent = set.same_set row_cmp_total row_cmp-IsAntisymmetric _ _ (λ x.
    set.contains-remove row_cmp_total rows row x
    ∙ not_that (eq_by_cmp row_cmp x row) (set.contains rows x) (λ tie. ap (set.contains rows) (tied x row tie) ∙ absent))

pub when_err : {T E P : Type 0} (r : Result T E) → OnErr r P → is_err r ≡ true → P
when_err (Ok x) p e = absurd (false≢true e)
when_err (Err x) p e = p

pub when_ok : {T E P : Type 0} (r : Result T E) → OnOk r P → is_err r ≡ false → P
when_ok (Ok x) p e = p
when_ok (Err x) p e = absurd (false≢true (sym e))
