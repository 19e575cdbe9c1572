-- What a name that comes in does to those that came in before.
use Rattle.std.proofs.Common.{◌≡◌, ℕ, ◌+◌, ◌<◌, ◌≤◌, Bool, true, false, cond, List, [], ◌∷◌, ◌++◌, length, get_or, take, refl, sym, ap, ◌∙◌, inl, inr, arith, ◌||◌}
use Rattle.plain_values.proofs.Common.{eq_by_cmp, is_at, eq_by_cmp_equiv, cases_lt, length_push, take-append-le, take_at, length-take, take-take, list_any-append, bytes_cmp}
use Rattle.std.proofs.lemmas.List.{get_or_append_left, get_or_push}
use Rattle.std.proofs.lemmas.List.Folds.{list_any_more}
use Rattle.fd_laws.proofs.Common.{name_total, tied_name}
use Rattle.lens_specs.specs.Common.{Name, is_among}
use Rattle.fd_closure.specs.Arrival.{IsOnce, with_name}

or_last : (a t : Bool) → (a || (t || false)) ≡ (a || t)
or_last true t = refl
or_last false true = refl
or_last false false = refl

pub among_push : (ns : List Name) (n c : Name) → is_among c (ns ++ n ∷ []) ≡ (is_among c ns || eq_by_cmp bytes_cmp c n)
among_push ns n c = list_any-append (eq_by_cmp bytes_cmp c) ns (n ∷ []) ∙ or_last (is_among c ns) (eq_by_cmp bytes_cmp c n)

turned : (b a : Bool) → cond b true a ≡ (a || b)
turned true true = refl
turned true false = refl
turned false true = refl
turned false false = refl

-- the tree and the list take up the same name
pub tree_push : (ks js ns : List Name) (n : Name) → ((c : Name) → is_among c ks ≡ is_among c ns)
    → ((c : Name) → is_among c js ≡ cond (is_at (bytes_cmp n) c) true (is_among c ks)) → (c : Name) → is_among c js ≡ is_among c (ns ++ n ∷ [])
tree_push ks js ns n same is c =
    is c ∙ turned (is_at (bytes_cmp n) c) (is_among c ks)
    ∙ (λ i. same c i || (eq_by_cmp_equiv name_total).symm n c i)
    ∙ sym (among_push ns n c)

pub once_push : (ns : List Name) (n : Name) → IsOnce ns → is_among n ns ≡ false → IsOnce (ns ++ n ∷ [])
once_push ns n once new k d l = elim (cases_lt k (length ns)) [
  | inl less ↦
      (λ i. is_among (get_or_append_left ns (n ∷ []) d k less i) (take-append-le k ns (n ∷ []) (omega arith) i)) ∙ once k d less
  | inr more ↦
      let last : length ns ≡ k = omega (arith, length_push ns n) in
      (λ i. is_among (get_or_push ns n d k last i) (take_at ns (n ∷ []) k last i)) ∙ new
]

or_known : (t a : Bool) → (t ≡ true → a ≡ true) → a ≡ (a || t)
or_known true a h = h refl ∙ ap (λ b. b || true) (sym (h refl))
or_known false true h = refl
or_known false false h = refl

pub among_with : (ns : List Name) (n c : Name) → is_among c (with_name ns n) ≡ (is_among c ns || eq_by_cmp bytes_cmp c n)
among_with ns n c =
    elim (is_among n ns) as (λ b. is_among n ns ≡ b → is_among c (cond b ns (ns ++ n ∷ [])) ≡ (is_among c ns || eq_by_cmp bytes_cmp c n)) [
      | true ↦ λ there. or_known (eq_by_cmp bytes_cmp c n) (is_among c ns) (λ tie. ap (λ k. is_among k ns) (tied_name c n tie) ∙ there)
      | false ↦ λ _. among_push ns n c
    ] refl

-- the names that came in first stay first
pub front_with : (front ns : List Name) (n : Name) → take (length front) ns ≡ front → take (length front) (with_name ns n) ≡ front
front_with front ns n is =
    let fits : length front ≤ length ns = omega (arith, ap length is, length-take (length front) ns) in
    elim (is_among n ns) as (λ b. take (length front) (cond b ns (ns ++ n ∷ [])) ≡ front) [
      | true ↦ is
      | false ↦ take-append-le (length front) ns (n ∷ []) fits ∙ is
    ]

or_assoc : (a b c : Bool) → ((a || b) || c) ≡ (a || (b || c))
or_assoc true b c = refl
or_assoc false b c = refl

-- one name more of a list
pub members_more : (ns os us : List Name) (k : ℕ) (d n c : Name) → k < length us → n ≡ get_or us k d → is_among c ns ≡ (is_among c os || is_among c (take k us))
    → is_among c (with_name ns n) ≡ (is_among c os || is_among c (take (k + 1) us))
members_more ns os us k d n c l is h =
    among_with ns n c ∙ ap (λ b. b || eq_by_cmp bytes_cmp c n) h
    ∙ or_assoc (is_among c os) (is_among c (take k us)) (eq_by_cmp bytes_cmp c n)
    ∙ ap (λ b. is_among c os || b) (ap (λ x. is_among c (take k us) || eq_by_cmp bytes_cmp c x) is ∙ sym (list_any_more (eq_by_cmp bytes_cmp c) us k d l))

-- a front of a front
pub front_kept : (first old new : List Name) → take (length first) old ≡ first → take (length old) new ≡ old → take (length first) new ≡ first
front_kept first old new h k =
    let fits : length first ≤ length old = omega (arith, ap length h, length-take (length first) old) in
    sym (take-take (length first) (length old) new fits) ∙ ap (take (length first)) k ∙ h
