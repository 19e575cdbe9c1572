use Rattle.std.proofs.Common.{◌≡◌, ◌++◌, ◌∷◌, [], List, length, ap, sym, ◌∙◌, subst, arith, refl, true, zero, suc, Some, None, Option}
use Rattle.plain_values.proofs.Common.{slice_get, IsStrictlySortedBy, is_lt, Ordering, Less, Equal, Greater, row_cmp, Row}
use Rattle.key_index.proofs.Members.{one_rises}
use Rattle.key_index.proofs.Rising.{last_of, more_rises, none_last}
use Rattle.key_index.proofs.row_list.is_above.Goals as goal

less : (o : Ordering) → is_lt o ≡ true → o ≡ Less
less Less e = refl
less Equal e = cc
less Greater e = cc

pub returns-in-Some : goal.returns-in-Some
returns-in-Some c = λ below.
    let last = last_of c.args.rows.now c.in-Some.last.now (sym c.in-Some.ensures.value) in
    more_rises c.args.rows.now c.args.row.now c.in-Some.last.now c.requires last.0 last.1
    (less (row_cmp c.in-Some.last.now c.args.row.now) (sym c.lt.ensures ∙ below))

pub returns-in-None : goal.returns-in-None
returns-in-None c = λ _.
    subst (λ xs. IsStrictlySortedBy row_cmp (xs ++ c.args.row.now ∷ [])) (sym (none_last c.args.rows.now (sym c.in-None.ensures.value))) (one_rises c.args.row.now)
