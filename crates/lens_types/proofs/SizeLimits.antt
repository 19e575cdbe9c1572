-- What is too large, by what is in excess.
use Rattle.std.proofs.Common.{◌≡◌, ◌<◌, ◌≤◌, ℕ, Some, None}
use Rattle.std.specs.FinMap as finmap
use Rattle.plain_values.proofs.Common.{le-leb, lt-leb}
use Rattle.lens_specs.specs.Common.{too_large, too_much, Sort, predicate_nodes, columns_limit}
use Rattle.lens_specs.specs.Refusal.{lens_limit, predicate_limit}

pub many_columns : (n : ℕ) (s : Sort) → 64 < finmap.len s.columns → too_much n s ≡ Some (too_large columns_limit)
many_columns n s h = rw (lt-leb (finmap.len s.columns) 64 h)

pub many_lenses : (n : ℕ) (s : Sort) → finmap.len s.columns ≤ 64 → 64 < n → too_much n s ≡ Some (too_large lens_limit)
many_lenses n s c h = rw (le-leb (finmap.len s.columns) 64 c, lt-leb n 64 h)

pub many_formulas : (n : ℕ) (s : Sort) → finmap.len s.columns ≤ 64 → n ≤ 64 → 256 < predicate_nodes s.predicate → too_much n s ≡ Some (too_large predicate_limit)
many_formulas n s c l h = rw (le-leb (finmap.len s.columns) 64 c, le-leb n 64 l, lt-leb (predicate_nodes s.predicate) 256 h)

pub few_of_all : (n : ℕ) (s : Sort) → finmap.len s.columns ≤ 64 → n ≤ 64 → predicate_nodes s.predicate ≤ 256 → too_much n s ≡ None
few_of_all n s c l p = rw (le-leb (finmap.len s.columns) 64 c, le-leb n 64 l, le-leb (predicate_nodes s.predicate) 256 p)
