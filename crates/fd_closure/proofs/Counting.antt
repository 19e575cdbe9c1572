-- What the edges lack, as names are taken up.
use Rattle.std.proofs.Common.{◌≡◌, ℕ, ◌+◌, ◌-◌, ◌<◌, ◌≤◌, Bool, true, false, cond, List, [], ◌∷◌, ◌++◌, length, get_or, set, take, refl, sym, ap, ◌∙◌, subst, inl, inr, nat_eq, arith, get_or-set_same, get_or-set_other, ◌&&◌, ◌||◌, ◌≢◌, not, filter}
use Rattle.plain_values.proofs.Common.{count_by, eq_by_cmp, is_eq, and_from, and_parts, cases_Bool, eqb-true, eq-eqb, or_cases, true≢false, or_left, or_right, sum_by-take-le, and-true, bytes_cmp}
use Rattle.std.proofs.lemmas.Bool.{cases_eq}
use Rattle.std.proofs.lemmas.List.Sums.{sum_by_more}
use Rattle.plain_values.specs.SortedSet as names
use Rattle.fd_laws.proofs.Common.{name_itself, tied_name}
use Rattle.lens_specs.specs.Common.{Name, Names, is_among, Edge}
use Rattle.fd_closure.specs.Arrival.{AllIn}
use Rattle.fd_closure.specs.Entries.{Entry}
use Rattle.fd_closure.specs.Lacks.{ReadyAmong, ReadyWithin, uses}
use Rattle.fd_closure.proofs.Arrivals.{among_push}
use Rattle.fd_closure.proofs.Counts.{count_alike, count-filter, count_none, count_split}

-- an entry of the edge at d whose name is not among these
abbrev pub lacking : List Name → ℕ → Entry → Bool
lacking ns d e = nat_eq e.1 d && not (is_among e.0 ns)

known_here : (t b a : Bool) → (t ≡ true → a ≡ false) → (t && (b && not a)) ≡ (t && b)
known_here true b a h = ap (λ x. b && not x) (h refl) ∙ and-true b
known_here false b a h = refl

not_here : (t b a : Bool) → (not t && (b && not a)) ≡ (b && not (a || t))
not_here true true true = refl
not_here true true false = refl
not_here true false true = refl
not_here true false false = refl
not_here false true true = refl
not_here false true false = refl
not_here false false true = refl
not_here false false false = refl

-- at first each entry lacks
pub lacks_all : (index : List Entry) (d : ℕ) → uses index d ≡ count_by (lacking [] d) index
lacks_all index d = sym (count_alike (lacking [] d) (λ e. nat_eq e.1 d) index (λ e. and-true (nat_eq e.1 d)))

-- a new name takes away its entries
pub lacks_less : (index : List Entry) (ns : List Name) (n : Name) (d : ℕ) → is_among n ns ≡ false
    → count_by (lacking ns d) index ≡ uses (filter (λ e. is_eq (bytes_cmp e.0 n)) index) d + count_by (lacking (ns ++ n ∷ []) d) index
lacks_less index ns n d new =
    let here : Entry → Bool = λ e. is_eq (bytes_cmp e.0 n) in
    count_split (lacking ns d) here index
    ∙ (λ i. (count_alike (λ e. here e && lacking ns d e) (λ e. here e && nat_eq e.1 d) index
    (λ e. known_here (here e) (nat_eq e.1 d) (is_among e.0 ns) (λ t. ap (λ k. is_among k ns) (tied_name e.0 n t) ∙ new)) ∙ sym (count-filter (λ e. nat_eq e.1 d) here index)) i
    + count_alike (λ e. not (here e) && lacking ns d e) (lacking (ns ++ n ∷ []) d) index
    (λ e. not_here (here e) (nat_eq e.1 d) (is_among e.0 ns) ∙ ap (λ b. nat_eq e.1 d && not b) (sym (among_push ns n e.0))) i)

-- how many names of the set are not among these
abbrev pub unseen : Names → List Name → ℕ
unseen C ns = count_by (λ c. not (is_among c ns)) (names.items C)

not_seen : (t a : Bool) → (not t && not a) ≡ not (a || t)
not_seen true true = refl
not_seen true false = refl
not_seen false true = refl
not_seen false false = refl

-- a new name of the set is seen
pub unseen_less : (C : Names) (ns : List Name) (n : Name) → names.contains C n ≡ true → is_among n ns ≡ false → unseen C (ns ++ n ∷ []) < unseen C ns
unseen_less C ns n there new =
    let here : Name → Bool = λ c. eq_by_cmp bytes_cmp c n in
    let fresh : Name → Bool = λ c. not (is_among c ns) in
    let split : unseen C ns ≡ count_by (λ c. here c && fresh c) (names.items C) + count_by (λ c. not (here c) && fresh c) (names.items C) = count_split fresh here (names.items C) in
    let rest : count_by (λ c. not (here c) && fresh c) (names.items C) ≡ unseen C (ns ++ n ∷ []) =
    count_alike (λ c. not (here c) && fresh c) (λ c. not (is_among c (ns ++ n ∷ []))) (names.items C) (λ c. not_seen (here c) (is_among c ns) ∙ ap not (sym (among_push ns n c))) in
    let some : count_by (λ c. here c && fresh c) (names.items C) ≢ 0 = λ z.
    true≢false (sym (and_from _ _ (name_itself n) (ap not new))
    ∙ count_none (eq_by_cmp bytes_cmp) tied_name name_itself (λ c. here c && fresh c) (names.items C) z n (sym (names.contains-items C n) ∙ there)) in
    omega arith

-- ---- one entry more

uses_here : (es : List Entry) (k : ℕ) (x : Entry) → k < length es → uses (take (k + 1) es) (get_or es k x).1 ≡ uses (take k es) (get_or es k x).1 + 1
uses_here es k x l =
    sum_by_more (λ e. cond (nat_eq e.1 (get_or es k x).1) 1 0) es k x l
    ∙ ap (λ b. uses (take k es) (get_or es k x).1 + cond b 1 0) (eq-eqb (get_or es k x).1 (get_or es k x).1 refl)

uses_there : (es : List Entry) (k d : ℕ) (x : Entry) → k < length es → ((get_or es k x).1 ≢ d) → uses (take (k + 1) es) d ≡ uses (take k es) d
uses_there es k d x l ne =
    let more = sum_by_more (λ e. cond (nat_eq e.1 d) 1 0) es k x l in
    let no : nat_eq (get_or es k x).1 d ≡ false = elim (cases_Bool (nat_eq (get_or es k x).1 d)) [ inl t ↦ absurd (ne (eqb-true (get_or es k x).1 d t)) | inr f ↦ f ] in
    let here : uses (take (k + 1) es) d ≡ uses (take k es) d + 0 = more ∙ ap (λ b. uses (take k es) d + cond b 1 0) no in
    omega arith

-- a count that went up by the entry
pub counted_more : (lacks : List ℕ) (es : List Entry) (k d p : ℕ) (x : Entry) → k < length es → p ≡ (get_or es k x).1 → p < length lacks
    → get_or lacks d 0 ≡ uses (take k es) d → get_or (set lacks p (get_or lacks p 0 + 1)) d 0 ≡ uses (take (k + 1) es) d
counted_more lacks es k d p x l is b h = elim (cases_eq d p) [
  | inl e ↦
      let here : uses (take (k + 1) es) d ≡ uses (take k es) d + 1 = subst (λ q. uses (take (k + 1) es) q ≡ uses (take k es) q + 1) (sym (e ∙ is)) (uses_here es k x l) in
      ap (λ q. get_or (set lacks p (get_or lacks p 0 + 1)) q 0) e ∙ get_or-set_same lacks p (get_or lacks p 0 + 1) 0 b ∙ ap (λ q. get_or lacks q 0 + 1) (sym e) ∙ ap (λ n. n + 1) h ∙ sym here
  | inr ne ↦
      get_or-set_other lacks p d (get_or lacks p 0 + 1) 0 ne ∙ h ∙ sym (uses_there es k d x l (λ e. ne (sym (is ∙ e))))
]

-- a count that goes down by the entry
pub counted_less : (lacks : List ℕ) (es : List Entry) (k d p o : ℕ) (x : Entry) → k < length es → p ≡ (get_or es k x).1 → p < length lacks → 0 < get_or lacks p 0
    → get_or lacks d 0 + uses (take k es) d ≡ o → get_or (set lacks p (get_or lacks p 0 - 1)) d 0 + uses (take (k + 1) es) d ≡ o
counted_less lacks es k d p o x l is b some h = elim (cases_eq d p) [
  | inl e ↦
      let here : uses (take (k + 1) es) d ≡ uses (take k es) d + 1 = subst (λ q. uses (take (k + 1) es) q ≡ uses (take k es) q + 1) (sym (e ∙ is)) (uses_here es k x l) in
      let now : get_or (set lacks p (get_or lacks p 0 - 1)) d 0 ≡ get_or lacks p 0 - 1 = ap (λ q. get_or (set lacks p (get_or lacks p 0 - 1)) q 0) e ∙ get_or-set_same lacks p (get_or lacks p 0 - 1) 0 b in
      let was : get_or lacks d 0 ≡ get_or lacks p 0 = ap (λ q. get_or lacks q 0) e in
      omega arith
  | inr ne ↦
      let there : uses (take (k + 1) es) d ≡ uses (take k es) d = uses_there es k d x l (λ e. ne (sym (is ∙ e))) in
      let now : get_or (set lacks p (get_or lacks p 0 - 1)) d 0 ≡ get_or lacks d 0 = get_or-set_other lacks p d (get_or lacks p 0 - 1) 0 ne in
      omega arith
]

-- an entry that is still to come is still counted
pub still_counted : (es : List Entry) (k p n o : ℕ) (x : Entry) → k < length es → p ≡ (get_or es k x).1 → n + uses (take k es) p ≡ o → uses es p ≤ o → 0 < n
still_counted es k p n o x l is h b =
    let here : uses (take (k + 1) es) p ≡ uses (take k es) p + 1 = subst (λ q. uses (take (k + 1) es) q ≡ uses (take k es) q + 1) (sym is) (uses_here es k x l) in
    let fewer : uses (take (k + 1) es) p ≤ uses es p = sum_by-take-le (λ e. cond (nat_eq e.1 p) 1 0) es (k + 1) in
    omega arith

-- ---- one edge that lacks one name less

module _ (F : List Edge) (lacks lacks' : List ℕ) (p : ℕ) (fits : p < length lacks) (less : lacks' ≡ set lacks p (get_or lacks p 0 - 1)) where
  still_zero : (d : ℕ) → get_or lacks d 0 ≡ 0 → get_or lacks' d 0 ≡ 0
  still_zero d z = ap (λ l. get_or l d 0) less ∙ elim (cases_eq d p) as (λ _. get_or (set lacks p (get_or lacks p 0 - 1)) d 0 ≡ 0) [
    | inl e ↦
        let now : get_or (set lacks p (get_or lacks p 0 - 1)) d 0 ≡ get_or lacks p 0 - 1 = ap (λ q. get_or (set lacks p (get_or lacks p 0 - 1)) q 0) e ∙ get_or-set_same lacks p (get_or lacks p 0 - 1) 0 fits in
        let was : get_or lacks d 0 ≡ get_or lacks p 0 = ap (λ q. get_or lacks q 0) e in
        omega arith
    | inr ne ↦ get_or-set_other lacks p d (get_or lacks p 0 - 1) 0 ne ∙ z
  ]

  was_zero : (d : ℕ) → d ≢ p → get_or lacks' d 0 ≡ 0 → get_or lacks d 0 ≡ 0
  was_zero d ne z = sym (get_or-set_other lacks p d (get_or lacks p 0 - 1) 0 ne) ∙ ap (λ l. get_or l d 0) (sym less) ∙ z

  module _ (ns ms : List Name)
      (members : (c : Name) (e : Edge) → is_among c ms ≡ (is_among c ns || (nat_eq (get_or lacks' p 0) 0 && names.contains (get_or F p e).right c))) where
    pub within_more : (os : List Name) (D : Names) → p < length F → (AllIn os D → ReadyWithin F lacks D → AllIn ns D) → AllIn os D → ReadyWithin F lacks' D → AllIn ms D
    within_more os D b so hold ready c i =
        let e : Edge = record { left = names.empty; right = names.empty } in
        elim (or_cases _ _ (sym (members c e) ∙ i)) [
          | inl j ↦ so hold (λ d e b z. ready d e b (still_zero d z)) c j
          | inr j ↦ let both = and_parts _ _ j in ready p e b (eqb-true _ _ both.0) c both.1
        ]

    pub among_more : ReadyAmong F lacks ns → ReadyAmong F lacks' ms
    among_more so d e b z c i = elim (cases_eq d p) [
      | inl is ↦ members c e ∙ or_right _ _ (and_from _ _ (eq-eqb _ _ (ap (λ q. get_or lacks' q 0) (sym is) ∙ z)) (ap (λ q. names.contains (get_or F q e).right c) (sym is) ∙ i))
      | inr ne ↦ members c e ∙ or_left _ _ (so d e b (was_zero d ne z) c i)
    ]
