-- How a formula is stored: as a list of symbols, its form before its parts, from which it can be read back.
use Rattle.std.specs.Prelude.{◌≡◌, ℕ, List, [], ◌∷◌, ◌++◌, ◌==◌, if◌then◌else◌, refl}
use Rattle.std.proofs.Common.{sym, ap, ◌∙◌, append_assoc, append-nil}
use Rattle.std.specs.Coded.{Coded, code_by, coded_ℕ, coded_list, coded×}
use Rattle.lens_specs.specs.Common.{Name, Op, eq, ne, lt, le, gt, ge, Formula, truth, falsity, compare, compare_columns, one_of, null_at, negation, all_of, any_of, Formulas, no_formulas, formulas}
use Rattle.plain_values.specs.contracts.value.Value as contract
use Rattle.plain_values.specs.declared.value.Value.{Value}

-- a number for the form, one for the comparison, two names and values
abbrev pub Symbol : Type 0
Symbol = ℕ × (ℕ × (Name × (Name × List Value)))

-- a symbol with no part
abbrev pub bare : ℕ → Symbol
bare n = (n, (0, ([], ([], []))))

-- the number of a comparison
abbrev pub op_number : Op → ℕ
op_number eq = 0
op_number ne = 1
op_number lt = 2
op_number le = 3
op_number gt = 4
op_number ge = 5

-- the comparison with a number
abbrev pub op_of : ℕ → Op
op_of n = if n == 0 then eq else if n == 1 then ne else if n == 2 then lt else if n == 3 then le else if n == 4 then gt else ge

-- the symbols of a formula, and of a list of formulas
abbrev mutual
  pub symbols : Formula → List Symbol
  symbols truth = bare 0 ∷ []
  symbols falsity = bare 1 ∷ []
  symbols (compare c op v) = (2, (op_number op, (c, ([], v ∷ [])))) ∷ []
  symbols (compare_columns c op d) = (3, (op_number op, (c, (d, [])))) ∷ []
  symbols (one_of c vs) = (4, (0, (c, ([], vs)))) ∷ []
  symbols (null_at c) = (9, (0, (c, ([], [])))) ∷ []
  symbols (negation f) = bare 5 ∷ symbols f
  symbols (all_of fs) = symbols_of fs
  symbols (any_of fs) = bare 6 ∷ symbols_of fs

  pub symbols_of : Formulas → List Symbol
  symbols_of no_formulas = bare 7 ∷ []
  symbols_of (formulas f fs) = bare 8 ∷ (symbols f ++ symbols_of fs)

-- ---- reading them back, from the last on: each symbol takes its parts from the formulas that were read

-- a comparison with the first of the values
abbrev pub with_value : Name → Op → List Value → List Formula → List Formula
with_value c op [] fs = fs
with_value c op (v ∷ vs) fs = compare c op v ∷ fs

-- the first formula negated
abbrev pub negated : List Formula → List Formula
negated [] = []
negated (f ∷ fs) = negation f ∷ fs

-- a disjunction of what was read as a conjunction
abbrev pub any_of_all : Formula → Formula
any_of_all truth = truth
any_of_all falsity = falsity
any_of_all (compare c op v) = truth
any_of_all (compare_columns c op d) = truth
any_of_all (one_of c vs) = truth
any_of_all (null_at c) = truth
any_of_all (negation f) = truth
any_of_all (all_of fs) = any_of fs
any_of_all (any_of fs) = truth

-- the first formula as a disjunction
abbrev pub any_first : List Formula → List Formula
any_first [] = []
any_first (f ∷ fs) = any_of_all f ∷ fs

-- a conjunction with one member more
abbrev pub all_with : Formula → Formula → Formula
all_with f truth = truth
all_with f falsity = truth
all_with f (compare c op v) = truth
all_with f (compare_columns c op d) = truth
all_with f (one_of c vs) = truth
all_with f (null_at c) = truth
all_with f (negation g) = truth
all_with f (all_of fs) = all_of (formulas f fs)
all_with f (any_of fs) = truth

-- the first formula put into the conjunction behind it
abbrev pub put_in : List Formula → List Formula
put_in [] = []
put_in (f ∷ []) = []
put_in (f ∷ (g ∷ fs)) = all_with f g ∷ fs

-- what a symbol makes of the formulas behind it
abbrev pub with_symbol : Symbol → List Formula → List Formula
with_symbol s fs =
    if s.0 == 0 then truth ∷ fs
    else if s.0 == 1 then falsity ∷ fs
    else if s.0 == 2 then with_value s.1.1.0 (op_of s.1.0) s.1.1.1.1 fs
    else if s.0 == 3 then compare_columns s.1.1.0 (op_of s.1.0) s.1.1.1.0 ∷ fs
    else if s.0 == 4 then one_of s.1.1.0 s.1.1.1.1 ∷ fs
    else if s.0 == 5 then negated fs
    else if s.0 == 6 then any_first fs
    else if s.0 == 7 then all_of no_formulas ∷ fs
    else if s.0 == 8 then put_in fs
    else null_at s.1.1.0 ∷ fs

-- the formulas of the symbols
abbrev pub formulas_read : List Symbol → List Formula
formulas_read [] = []
formulas_read (s ∷ ss) = with_symbol s (formulas_read ss)

-- the first formula
abbrev pub first_of : List Formula → Formula
first_of [] = truth
first_of (f ∷ fs) = f

-- a comparison is that of its number
pub op_of-op_number : (op : Op) → op_of (op_number op) ≡ op
op_of-op_number eq = refl
op_of-op_number ne = refl
op_of-op_number lt = refl
op_of-op_number le = refl
op_of-op_number gt = refl
op_of-op_number ge = refl

mutual
  -- the symbols of a formula are read as that formula
  pub read-symbols : (f : Formula) (ss : List Symbol) → formulas_read (symbols f ++ ss) ≡ f ∷ formulas_read ss
  read-symbols truth ss = refl
  read-symbols falsity ss = refl
  read-symbols (compare c op v) ss = ap (λ o. compare c o v ∷ formulas_read ss) (op_of-op_number op)
  read-symbols (compare_columns c op d) ss = ap (λ o. compare_columns c o d ∷ formulas_read ss) (op_of-op_number op)
  read-symbols (one_of c vs) ss = refl
  read-symbols (null_at c) ss = refl
  read-symbols (negation f) ss = ap negated (read-symbols f ss)
  read-symbols (all_of fs) ss = read-symbols_of fs ss
  read-symbols (any_of fs) ss = ap any_first (read-symbols_of fs ss)

  read-symbols_of : (fs : Formulas) (ss : List Symbol) → formulas_read (symbols_of fs ++ ss) ≡ all_of fs ∷ formulas_read ss
  read-symbols_of no_formulas ss = refl
  read-symbols_of (formulas f fs) ss =
      ap put_in (ap formulas_read (append_assoc (symbols f) (symbols_of fs) ss) ∙ read-symbols f (symbols_of fs ++ ss) ∙ ap (λ gs. f ∷ gs) (read-symbols_of fs ss))

-- a formula is the first that is read from its symbols
pub first_of-symbols : (f : Formula) → first_of (formulas_read (symbols f)) ≡ f
first_of-symbols f = ap (λ ss. first_of (formulas_read ss)) (sym (append-nil (symbols f))) ∙ ap first_of (read-symbols f [])

-- a symbol is stored as its parts
abbrev pub symbol_code : Coded Symbol
symbol_code = coded× coded_ℕ (coded× coded_ℕ (coded× (coded_list coded_ℕ) (coded× (coded_list coded_ℕ) (coded_list contract.the_row.coded))))

-- a formula is stored as its symbols
abbrev pub formula_code : Coded Formula
formula_code = code_by (List Symbol) (coded_list symbol_code) symbols (λ ss. first_of (formulas_read ss)) first_of-symbols
