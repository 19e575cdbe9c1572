-- Members that stand beside the columns, in their order.
use Rattle.std.proofs.Common.{◌≡◌, ◌∙◌, ◌<◌, ◌+◌, ℕ, zero, suc, List, [], ◌∷◌, ◌++◌, length, take, get_or, map, Some, ap, sym, subst, refl, arith, Bor}
use Rattle.plain_values.proofs.Common.{Ordering, Less, Equal, Greater, ordering_reverse, nat_list_cmp_total, AllByRecursion, IsStrictlySortedBy, length-map, map-append, take_more, bytes_cmp, keys_of}
use Rattle.serde_json.specs.Data.{Members, no_members, put}
use Rattle.serde_json.specs.Find.{get_member}
use Rattle.serde_json.proofs.Views.{get_member-put, get_member-put_other}
use Rattle.borrowed_json.specs.Meaning.{members_onto, sent_data, members_data, value_data}
use Rattle.borrowed_json.specs.Places.{IsLast}
use Rattle.borrowed_json.specs.declared.value.Value.{Value as Json}
use Rattle.plain_values.specs.declared.value.Kind.{Kind}
use Rattle.lens_specs.specs.Relation.{Name}
use Rattle.request_reading.specs.SentRows.{names_sent}

-- ---- the names side by side

-- one more of both
pub beside_more : (columns : List (Name × Kind)) (ms : List (Bor (List ℕ) × Json)) (i : ℕ) (column : Name × Kind) (m : Bor (List ℕ) × Json)
    → i < length columns → column ≡ get_or columns i column → i < length ms → m ≡ get_or ms i m → m.0.now ≡ column.0
    → names_sent (take i ms) ≡ keys_of (take i columns) → names_sent (take (i + 1) ms) ≡ keys_of (take (i + 1) columns)
beside_more columns ms i column m h e h2 e2 is so_far =
    ap names_sent (take_more ms i m h2 ∙ ap (λ x. take i ms ++ x ∷ []) (sym e2)) ∙ map-append (λ (x : Bor (List ℕ) × Json). x.0.now) (take i ms) (m ∷ [])
    ∙ (λ j. so_far j ++ is j ∷ [])
    ∙ sym (ap keys_of (take_more columns i column h ∙ ap (λ x. take i columns ++ x ∷ []) (sym e)) ∙ map-append (λ (x : Name × Kind). x.0) (take i columns) (column ∷ []))

-- at a place both have the same name
named_there : (columns : List (Name × Kind)) (ms : List (Bor (List ℕ) × Json)) (i : ℕ) (column : Name × Kind) (m : Bor (List ℕ) × Json)
    → names_sent ms ≡ keys_of columns → i < length columns → i < length ms → column ≡ get_or columns i column → m ≡ get_or ms i m → m.0.now ≡ column.0
named_there [] ms i column m same h h2 e e2 = absurd (omega arith)
named_there (c ∷ columns) [] i column m same h h2 e e2 = absurd (omega arith)
named_there (c ∷ columns) (n ∷ ms) zero column m same h h2 e e2 =
    let heads : n.0.now ≡ c.0 = cc in
    ap (λ (x : Bor (List ℕ) × Json). x.0.now) e2 ∙ heads ∙ ap (λ (x : Name × Kind). x.0) (sym e)
named_there (c ∷ columns) (n ∷ ms) (suc i) column m same h h2 e e2 =
    let tails : names_sent ms ≡ keys_of columns = cc in
    named_there columns ms i column m tails (omega arith) (omega arith) e e2

-- ---- what is found by a name

not_below_itself : (o : Ordering) → o ≡ ordering_reverse o → o ≡ Less → ⊥
not_below_itself Less turned less = cc
not_below_itself Equal turned less = cc
not_below_itself Greater turned less = cc

unequal : (k l : List ℕ) → bytes_cmp k l ≡ Less → k ≡ l → ⊥
unequal k l less same = not_below_itself (bytes_cmp k k) (nat_list_cmp_total.antisymm k k) (ap (bytes_cmp k) same ∙ less)

-- members of greater names hide nothing
onto_apart : (name : List ℕ) (ms : List (Bor (List ℕ) × Json)) (found : Members) → AllByRecursion (λ k. bytes_cmp name k ≡ Less) (names_sent ms)
    → get_member name (members_onto (sent_data ms) found) ≡ get_member name found
onto_apart name [] found above = refl
onto_apart name (n ∷ ms) found above =
    onto_apart name ms (put n.0.now (value_data n.1) found) above.1 ∙ get_member-put_other name n.0.now (value_data n.1) found (unequal name n.0.now above.0)

-- where the names rise, each member is found
found_rising : (ms : List (Bor (List ℕ) × Json)) (i : ℕ) (m : Bor (List ℕ) × Json) (found : Members) → i < length ms → m ≡ get_or ms i m → IsStrictlySortedBy bytes_cmp (names_sent ms)
    → get_member m.0.now (members_onto (sent_data ms) found) ≡ Some (value_data m.1)
unfolding IsStrictlySortedBy
found_rising [] i m found h e up = absurd (omega arith)
found_rising (n ∷ ms) zero m found h e up =
    let same : m ≡ n = e in
    ap (λ (x : Bor (List ℕ) × Json). get_member x.0.now (members_onto (sent_data (n ∷ ms)) found)) same
    ∙ onto_apart n.0.now ms (put n.0.now (value_data n.1) found) up.0 ∙ get_member-put n.0.now (value_data n.1) found
    ∙ ap (λ (x : Bor (List ℕ) × Json). Some (value_data x.1)) (sym same)
found_rising (n ∷ ms) (suc i) m found h e up = found_rising ms i m (put n.0.now (value_data n.1) found) (omega arith) e up.1

-- the member at a place is that of the column there
pub last_here : (columns : List (Name × Kind)) (ms : List (Bor (List ℕ) × Json)) (i place : ℕ) (column : Name × Kind) → IsStrictlySortedBy bytes_cmp (keys_of columns) → names_sent ms ≡ keys_of columns
    → i < length columns → column ≡ get_or columns i column → place ≡ i → IsLast column.0 place ms
last_here columns ms i place column up same h e at =
    let many : length ms ≡ length columns = sym (length-map ms (λ m. m.0.now)) ∙ ap length same ∙ length-map columns (λ c. c.0) in
    let within : place < length ms = omega (arith, h, at, many) in (
      within,
      λ m is.
          let there : m ≡ get_or ms place m = is in
          let named : m.0.now ≡ column.0 = named_there columns ms place column m same (omega (arith, h, at)) within (e ∙ ap (λ n. get_or columns n column) (sym at)) there in
          let found = found_rising ms place m no_members within there (subst (IsStrictlySortedBy bytes_cmp) (sym same) up) in
          (named, ap (λ k. get_member k (members_data ms)) (sym named) ∙ found),
    )
