-- What a source in memory gives.
use Rattle.std.proofs.Common.{◌≡◌, ◌≤◌, ◌<◌, ◌+◌, ◌-◌, ℕ, List, [], ◌++◌, take, drop, length, min, ap, sym, ◌∙◌, arith, length-drop, length-append}
use Rattle.std.proofs.Math.Seq.{drop-append-add}
use Rattle.std.proofs.lemmas.List.{take_at, take-append-drop, length-take-le}
use Rattle.lens_io.proofs.Fronts.{rest_is}

drop_twice : (bytes : List ℕ) (at n : ℕ) → at ≤ length bytes → drop (at + n) bytes ≡ drop n (drop at bytes)
drop_twice bytes at n h =
    let front : length (take at bytes) ≡ at = length-take-le at bytes h in
    ap (λ v. drop (at + n) v) (sym (take-append-drop at bytes))
    ∙ ap (λ m. drop (m + n) (take at bytes ++ drop at bytes)) (sym front)
    ∙ drop-append-add (take at bytes) (drop at bytes) n

pub takes : (bytes into new slice : List ℕ) (at n : ℕ) → at < length bytes → slice ≡ bytes
    → new ≡ take n (take (length slice - at) (drop at slice)) → n ≡ min (length (take (length slice - at) (drop at slice))) (length into)
    → (drop at bytes ≡ take n (new ++ drop n into) ++ drop (at + n) bytes) × (n ≡ 0 → 0 < length (new ++ drop n into) → drop (at + n) bytes ≡ [])
takes bytes into new slice at n inside is copied least =
    let rest : take (length slice - at) (drop at slice) ≡ drop at bytes = ap (λ v. take (length v - at) (drop at v)) is ∙ rest_is bytes at in
    let copy : new ≡ take n (drop at bytes) = copied ∙ ap (take n) rest in
    let few : n ≡ min (length (drop at bytes)) (length into) = least ∙ ap (λ v. min (length v) (length into)) rest in
    let fits : n ≤ length (drop at bytes) = omega arith in
    let size : length new ≡ n = ap length copy ∙ length-take-le n (drop at bytes) fits in (
      sym (take-append-drop n (drop at bytes))
          ∙ (λ i. (sym copy ∙ sym (take_at new (drop n into) n size)) i ++ sym (drop_twice bytes at n (omega arith)) i),
      λ none some. absurd (omega (arith, length-drop at bytes, length-drop n into, length-append new (drop n into))),
    )
