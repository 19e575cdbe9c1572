-- Members by their names.
use Rattle.std.proofs.Common.{◌≡◌, ◌∙◌, ℕ, ◌<◌, ◌+◌, List, [], ◌∷◌, ◌++◌, zero, suc, length, get_or, take, arith, Some, refl, ap, sym, true, false, true≢false, bytes_eq}
use Rattle.std.specs.List.{remove}
use Rattle.std.proofs.lemmas.Slice.Eq.{bytes_eq-Decides}
use Rattle.std.proofs.lemmas.List.{take_more}
use Rattle.std.specs.Borrow.{Bor}
use Rattle.serde_json.specs.Data.{Data, Members, no_members, put}
use Rattle.serde_json.specs.Find.{get_member}
use Rattle.serde_json.proofs.Views.{get_member-put, get_member-put_other}
use Rattle.borrowed_json.specs.Meaning.{members_onto, value_data, sent_data, members_data}
use Rattle.borrowed_json.specs.declared.value.Value.{Value}
use Rattle.borrowed_json.proofs.Trees.{data_push}

front : (name : List ℕ) (ms : List (Bor (List ℕ) × Value)) (i : ℕ) (m : Bor (List ℕ) × Value) → i < length ms → m ≡ get_or ms i m
    → get_member name (members_data (take (i + 1) ms)) ≡ get_member name (put m.0.now (value_data m.1) (members_data (take i ms)))
front name ms i m h e = ap (get_member name) (ap members_data (take_more ms i m h ∙ ap (λ x. take i ms ++ x ∷ []) (sym e)) ∙ data_push (take i ms) m)

-- the last of these members has the name
pub found_last : (name : List ℕ) (ms : List (Bor (List ℕ) × Value)) (i : ℕ) (m : Bor (List ℕ) × Value) → i < length ms → m ≡ get_or ms i m → m.0.now ≡ name
    → get_member name (members_data (take (i + 1) ms)) ≡ Some (value_data m.1)
found_last name ms i m h e is =
    front name ms i m h e ∙ ap (λ k. get_member k (put m.0.now (value_data m.1) (members_data (take i ms)))) (sym is) ∙ get_member-put m.0.now (value_data m.1) (members_data (take i ms))

-- it has another
pub not_last : (name : List ℕ) (ms : List (Bor (List ℕ) × Value)) (i : ℕ) (m : Bor (List ℕ) × Value) → i < length ms → m ≡ get_or ms i m → (name ≡ m.0.now → ⊥)
    → get_member name (members_data (take (i + 1) ms)) ≡ get_member name (members_data (take i ms))
not_last name ms i m h e other = front name ms i m h e ∙ get_member-put_other name m.0.now (value_data m.1) (members_data (take i ms)) other

-- ---- a member that is taken out

same_put : (name : List ℕ) (k : List ℕ) (d : Data) (some others : Members) → get_member name some ≡ get_member name others → get_member name (put k d some) ≡ get_member name (put k d others)
same_put name k d some others e =
    elim (bytes_eq name k) as (λ b. bytes_eq name k ≡ b → get_member name (put k d some) ≡ get_member name (put k d others)) [
      | true ↦ λ is.
          let same : k ≡ name = sym ((bytes_eq-Decides name k).0 is) in
          ap (λ n. get_member n (put k d some)) (sym same) ∙ get_member-put k d some ∙ sym (get_member-put k d others) ∙ ap (λ n. get_member n (put k d others)) same
      | false ↦ λ is.
          let other : name ≡ k → ⊥ = λ same. true≢false (sym ((bytes_eq-Decides name k).1 same) ∙ is) in
          get_member-put_other name k d some other ∙ e ∙ sym (get_member-put_other name k d others other)
    ] refl

same_onto : (name : List ℕ) (ms : List (Bor (List ℕ) × Data)) (some others : Members) → get_member name some ≡ get_member name others → get_member name (members_onto ms some) ≡ get_member name (members_onto ms others)
same_onto name [] some others e = e
same_onto name (m ∷ ms) some others e = same_onto name ms (put m.0.now m.1 some) (put m.0.now m.1 others) (same_put name m.0.now m.1 some others e)

without_onto : (name : List ℕ) (ms : List (Bor (List ℕ) × Value)) (i : ℕ) (m : Bor (List ℕ) × Value) (found : Members) → i < length ms → m ≡ get_or ms i m → (name ≡ m.0.now → ⊥)
    → get_member name (members_onto (sent_data (remove ms i)) found) ≡ get_member name (members_onto (sent_data ms) found)
without_onto name [] i m found h e other = absurd (omega arith)
without_onto name (n ∷ ms) zero m found h e other =
    let same : n ≡ m = sym e in
    same_onto name (sent_data ms) found (put n.0.now (value_data n.1) found) (sym (get_member-put_other name n.0.now (value_data n.1) found (λ is. other (is ∙ ap (λ (x : Bor (List ℕ) × Value). x.0.now) same))))
without_onto name (n ∷ ms) (suc i) m found h e other = without_onto name ms i m (put n.0.now (value_data n.1) found) (omega arith) e other

-- the members of other names stay
pub others_stay : (name : List ℕ) (ms : List (Bor (List ℕ) × Value)) (i : ℕ) (m : Bor (List ℕ) × Value) → i < length ms → m ≡ get_or ms i m → (name ≡ m.0.now → ⊥)
    → get_member name (members_data (remove ms i)) ≡ get_member name (members_data ms)
others_stay name ms i m h e other = without_onto name ms i m no_members h e other
