use Rattle.std.proofs.Common.{◌≡◌, ◌∙◌, ◌<◌, ◌-◌, ℕ, Bool, List, ap, arith, get_or, length, of_calls, refl, rules, sym, true, false}
use Rattle.plain_values.proofs.Common.{IsPartitionPoint, IsPartitionedBy, is_lt, Ordering, Less, Equal, Greater, true≢false, always_returns_same, get_or_default, Row, row_cmp}
use Rattle.std.specs.Ordering.{is_ge}
use Rattle.row_sets.proofs.index.start_of.Goals as goal

not_below : (o : Ordering) → is_ge o ≡ true → is_lt o ≡ false
not_below Less e = cc
not_below Equal e = refl
not_below Greater e = refl

-- the place between one that is below and one that is not
between : (xs : List (Row × Row)) (part : Row) (i : ℕ) (before next : Row × Row) → IsPartitionedBy (λ e. is_lt (row_cmp e.0 part)) xs → 0 < i → i < length xs
    → before ≡ get_or xs (i - 1) before → next ≡ get_or xs i next → is_lt (row_cmp before.0 part) ≡ true → is_ge (row_cmp next.0 part) ≡ true
    → IsPartitionPoint (λ e. is_lt (row_cmp e.0 part) ≡ true) (λ e. is_lt (row_cmp e.0 part) ≡ false) xs i
between xs part i before next parted some lt last first below above = (
  λ j d u v. parted j (i - 1) d (omega arith) (omega arith) (ap test (get_or_default xs (i - 1) d before (omega arith) ∙ sym last) ∙ below),
  λ j d u v.
      by (test (get_or xs j d)) refl (ap test (get_or_default xs i d next lt ∙ sym first) ∙ not_below (row_cmp next.0 part) above) (parted i j d u v),
)
  where
    test : Row × Row → Bool
    test e = is_lt (row_cmp e.0 part)

    by : {i' j' : Bool} (b : Bool) → j' ≡ b → i' ≡ false → (j' ≡ true → i' ≡ true) → j' ≡ false
    by true e f p = absurd (true≢false (sym (p e) ∙ f))
    by false e f p = e

pub returns-then-ge-clause-partitioned : goal.returns-then-ge-clause-partitioned
returns-then-ge-clause-partitioned c =
    between c.args.entries.now c.args.part.now c.args.guess c.index-entries-guess.result c.index-entries-guess-then-lt.result c.requires (omega arith) (omega arith)
    c.index-entries-guess.is c.index-entries-guess-then-lt.is
    (rw (← c.index-entries-guess.is) at (sym c.lt.ensures ∙ c.if-lt.true)) (rw (← c.index-entries-guess-then-lt.is) at (sym c.ge.ensures ∙ c.if-ge.true))

pub returns-clause-partitioned : goal.returns-clause-partitioned
returns-clause-partitioned c =
    c.partition_point.ensures.partitioned (λ e. is_lt (row_cmp e.0 c.args.part.now)) (always_returns_same _ _ _ (λ a r f k. search (rules, of_calls))) c.requires
