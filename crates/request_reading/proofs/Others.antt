-- The first name that does not pass, while members are put in one after another.
use Rattle.std.proofs.Common.{◌≡◌, ◌∙◌, ◌<◌, ◌+◌, ℕ, List, [], ◌∷◌, ◌++◌, length, take, get_or, Option, Some, ap, refl, sym, Bool, true, false, cond, Bor, if◌then◌else◌}
use Rattle.plain_values.proofs.Common.{Ordering, Less, Equal, Greater, is_eq, is_lt, match_ordering, ordering_reverse, nat_list_cmp_total, take_more, bytes_eq-Decides, bytes_cmp}
use Rattle.std.proofs.lemmas.Map.Text.{is_eq-slice_cmp}
use Rattle.serde_json.specs.Data.{Data, Members, no_members, member, put}
use Rattle.server_specs.specs.Common.{first_other, lesser}
use Rattle.borrowed_json.specs.Meaning.{members_onto, sent_data, members_data, value_data}
use Rattle.borrowed_json.specs.declared.value.Value.{Value}
use Rattle.borrowed_json.proofs.Trees.{data_push}

-- ---- the order of the names

-- the name is below all of theirs
abbrev pub Below : List ℕ → Members → Type 0
Below k no_members = Unit {0}
Below k (member l e ms) = (bytes_cmp k l ≡ Less) × Below k ms

-- each name is below all later ones
abbrev pub Rises : Members → Type 0
Rises no_members = Unit {0}
Rises (member k d ms) = Below k ms × Rises ms

turned : (k l : List ℕ) (o : Ordering) → bytes_cmp k l ≡ o → bytes_cmp l k ≡ ordering_reverse o
turned k l o is = nat_list_cmp_total.antisymm l k ∙ ap ordering_reverse is

below_too : (k l : List ℕ) (ms : Members) → bytes_cmp k l ≡ Less → Below l ms → Below k ms
below_too k l no_members is h = tt
below_too k l (member x e ms) is h = (nat_list_cmp_total.trans k l x is h.0, below_too k l ms is h.1)

below_put_at : (o : Ordering) (q k l : List ℕ) (d e : Data) (ms : Members) → bytes_cmp q k ≡ Less → Below q (member l e ms) → Below q (put k d ms)
    → Below q (match_ordering o (member k d (member l e ms)) (member l d ms) (member l e (put k d ms)))
below_put_at Less q k l d e ms is h later = (is, h)
below_put_at Equal q k l d e ms is h later = h
below_put_at Greater q k l d e ms is h later = (h.0, later)

below_put : (q k : List ℕ) (d : Data) (ms : Members) → bytes_cmp q k ≡ Less → Below q ms → Below q (put k d ms)
below_put q k d no_members is h = (is, tt)
below_put q k d (member l e ms) is h = below_put_at (bytes_cmp k l) q k l d e ms is h (below_put q k d ms is h.1)

rises_put_at : (o : Ordering) (k l : List ℕ) (d e : Data) (ms : Members) → bytes_cmp k l ≡ o → Rises (member l e ms) → Rises (put k d ms)
    → Rises (match_ordering o (member k d (member l e ms)) (member l d ms) (member l e (put k d ms)))
rises_put_at Less k l d e ms is h later = ((is, below_too k l ms is h.0), h)
rises_put_at Equal k l d e ms is h later = h
rises_put_at Greater k l d e ms is h later = (below_put l k d ms (turned k l Greater is) h.0, later)

-- the names still rise after a member is put in
pub rises_put : (k : List ℕ) (d : Data) (ms : Members) → Rises ms → Rises (put k d ms)
rises_put k d no_members h = (tt, tt)
rises_put k d (member l e ms) h = rises_put_at (bytes_cmp k l) k l d e ms refl h (rises_put k d ms h.1)

-- ---- the first name that does not pass

below_other : (passes : List ℕ → Bool) (k : List ℕ) (ms : Members) → Below k ms → lesser (Some k) (first_other passes ms) ≡ Some k
below_other passes k no_members h = refl
below_other passes k (member l e ms) h =
    elim (passes l) as (λ b. lesser (Some k) (cond b (first_other passes ms) (Some l)) ≡ Some k) [
      | true ↦ below_other passes k ms h.1
      | false ↦ ap (λ o. Some (cond (is_lt o) l k)) (turned k l Less h.0)
    ]

put_same : (b : Bool) (l : List ℕ) (rest : Option (List ℕ)) → cond b rest (Some l) ≡ cond b (cond b rest (Some l)) (lesser (Some l) (cond b rest (Some l)))
put_same true l rest = refl
put_same false l rest = elim (is_lt (bytes_cmp l l)) as (λ b. Some l ≡ Some (cond b l l)) [ true ↦ refl | false ↦ refl ]

put_later : (b c : Bool) (k l : List ℕ) (rest more : Option (List ℕ)) → bytes_cmp l k ≡ Less → more ≡ cond c rest (lesser (Some k) rest)
    → cond b more (Some l) ≡ cond c (cond b rest (Some l)) (lesser (Some k) (cond b rest (Some l)))
put_later true c k l rest more is h = h
put_later false true k l rest more is h = refl
put_later false false k l rest more is h = sym (ap (λ o. Some (cond (is_lt o) l k)) is)

other_put_at : (o : Ordering) (passes : List ℕ → Bool) (k l : List ℕ) (d e : Data) (ms : Members) → bytes_cmp k l ≡ o → Rises (member l e ms)
    → first_other passes (put k d ms) ≡ cond (passes k) (first_other passes ms) (lesser (Some k) (first_other passes ms))
    → first_other passes (match_ordering o (member k d (member l e ms)) (member l d ms) (member l e (put k d ms)))
    ≡ cond (passes k) (first_other passes (member l e ms)) (lesser (Some k) (first_other passes (member l e ms)))
other_put_at Less passes k l d e ms is h later = ap (cond (passes k) (first_other passes (member l e ms))) (sym (below_other passes k (member l e ms) (is, below_too k l ms is h.0)))
other_put_at Equal passes k l d e ms is h later =
    let same : k ≡ l = (bytes_eq-Decides k l).0 (sym (is_eq-slice_cmp k l) ∙ ap is_eq is) in
    put_same (passes l) l (first_other passes ms) ∙ ap (λ x. cond (passes x) (first_other passes (member l e ms)) (lesser (Some x) (first_other passes (member l e ms)))) (sym same)
other_put_at Greater passes k l d e ms is h later = put_later (passes l) (passes k) k l (first_other passes ms) (first_other passes (put k d ms)) (turned k l Greater is) later

-- after a member is put in, it is the lesser of that member's name and the one before, unless that name passes
pub other_put : (passes : List ℕ → Bool) (k : List ℕ) (d : Data) (ms : Members) → Rises ms
    → first_other passes (put k d ms) ≡ (if passes k then first_other passes ms else lesser (Some k) (first_other passes ms))
other_put passes k d no_members h = refl
other_put passes k d (member l e ms) h = other_put_at (bytes_cmp k l) passes k l d e ms refl h (other_put passes k d ms h.1)

-- ---- the members of an object, one after another

rises_onto : (ms : List (Bor (List ℕ) × Value)) (found : Members) → Rises found → Rises (members_onto (sent_data ms) found)
rises_onto [] found h = h
rises_onto (x ∷ ms) found h = rises_onto ms (put x.0.now (value_data x.1) found) (rises_put x.0.now (value_data x.1) found h)

-- the names of an object's data rise
pub rises_data : (ms : List (Bor (List ℕ) × Value)) → Rises (members_data ms)
rises_data ms = rises_onto ms no_members tt

-- the first name that does not pass, with one member more at the end
pub other_push : (passes : List ℕ → Bool) (ms : List (Bor (List ℕ) × Value)) (m : Bor (List ℕ) × Value)
    → first_other passes (members_data (ms ++ m ∷ [])) ≡ (if passes m.0.now then first_other passes (members_data ms) else lesser (Some m.0.now) (first_other passes (members_data ms)))
other_push passes ms m = ap (first_other passes) (data_push ms m) ∙ other_put passes m.0.now (value_data m.1) (members_data ms) (rises_data ms)

-- other_push, for members that are read one after another
pub other_more : (passes : List ℕ → Bool) (ms : List (Bor (List ℕ) × Value)) (i : ℕ) (m : Bor (List ℕ) × Value) → i < length ms → m ≡ get_or ms i m
    → first_other passes (members_data (take (i + 1) ms))
    ≡ (if passes m.0.now then first_other passes (members_data (take i ms)) else lesser (Some m.0.now) (first_other passes (members_data (take i ms))))
other_more passes ms i m h e =
    ap (λ ns. first_other passes (members_data ns)) (take_more ms i m h ∙ ap (λ n. take i ms ++ n ∷ []) (sym e)) ∙ other_push passes (take i ms) m
