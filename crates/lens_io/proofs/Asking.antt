-- The calls of a source that were made in need, one after another.
use Rattle.std.proofs.Common.{◌≤◌, arith, slice_range, ◌≡◌, ◌≢◌, ◌+◌, ◌-◌, ℕ, Bool, false, List, [], ◌∷◌, ◌++◌, length, ap, sym, subst, ◌∙◌, refl, append_assoc, append-nil, min}
use Rattle.std.specs.declared.option.Option.{Option}
use Rattle.io_specs.specs.Calls.{Adds}
use Rattle.io_specs.proofs.Calls.{Adds-none, Adds-then, Adds-weaker}
use Rattle.lens_io.specs.Calls.{Call, AddsCall}
use Rattle.lens_io.specs.Cutting.{HasNoNewline, Asks, AskInNeed}
use Rattle.lens_io.proofs.Pieces.{clear-append, length-range}

-- The source was asked in need so far, and these bytes came: calls that are in need from here on are so from the first one on, and bring what comes after those.
pub record Asking (waiting : List ℕ) (taken taken' limit : ℕ) (came : List ℕ) (old new : Option (List Call)) : Type 0 where
  pub now : List ℕ
  pub clear : HasNoNewline now
  pub follows : (end : Option (List Call)) (more : List ℕ) → Adds (Asks now taken' limit false more) new end → Adds (Asks waiting taken limit false (came ++ more)) old end

add_first : (P Q : List Call → Type 0) (old mid new : Option (List Call)) (room : ℕ) (came : List ℕ) → ((calls : List Call) → P calls → Q (record { room = room; came = came } ∷ calls))
    → AddsCall old mid room came → Adds P mid new → Adds Q old new
add_first P Q old mid new room came f p q =
    Adds-then (λ calls. calls ≡ record { room = room; came = came } ∷ []) P Q old mid new (λ first later is h. subst (λ v. Q (v ++ later)) (sym is) (f later h)) p q

add_one : (Q : List Call → Type 0) (old new : Option (List Call)) (room : ℕ) (came : List ℕ) → Q (record { room = room; came = came } ∷ []) → AddsCall old new room came → Adds Q old new
add_one Q old new room came h p = Adds-weaker (λ calls. calls ≡ record { room = room; came = came } ∷ []) Q old new (λ calls is. subst Q (sym is) h) p

-- nothing was asked
pub asks_none : (waiting : List ℕ) (taken limit : ℕ) (ended : Bool) (known : Option (List Call)) → Adds (Asks waiting taken limit ended []) known known
asks_none waiting taken limit ended known = Adds-none (Asks waiting taken limit ended []) known (record { need = tt; none = λ _. refl; brought = refl })

pub Asking-nil : (waiting : List ℕ) (taken limit : ℕ) (known : Option (List Call)) → HasNoNewline waiting → Asking waiting taken taken limit [] known known
Asking-nil waiting taken limit known clear = record { now = waiting; clear = clear; follows = λ end more h. h }

-- one call more gave bytes without a newline
pub Asking-more : (waiting : List ℕ) (taken taken' limit room : ℕ) (before : List ℕ) (old mid new : Option (List Call)) (came : List ℕ) → Asking waiting taken taken' limit before old mid
    → AddsCall mid new room came → room ≡ min 65536 (limit + 1 - taken') → HasNoNewline came → came ≢ [] → Asking waiting taken (taken' + length came) limit (before ++ came) old new
Asking-more waiting taken taken' limit room before old mid new came asking call is clear some = record {
  now = asking.now ++ came;
  clear = clear-append asking.now came asking.clear clear;
  follows = λ end more h.
      subst (λ v. Adds (Asks waiting taken limit false v) old end) (sym (append_assoc before came more))
      (asking.follows end (came ++ more)
      (add_first (Asks (asking.now ++ came) (taken' + length came) limit false more) (Asks asking.now taken' limit false (came ++ more)) mid new end room came
      (λ calls p. record { need = (asking.clear, is, λ _. some, p.need); none = λ no. cc; brought = ap (λ v. came ++ v) p.brought }) call h));
}

-- the last call
pub Asking-last : (waiting : List ℕ) (taken taken' limit room : ℕ) (before : List ℕ) (old mid new : Option (List Call)) (came : List ℕ) → Asking waiting taken taken' limit before old mid
    → AddsCall mid new room came → room ≡ min 65536 (limit + 1 - taken') → Adds (Asks waiting taken limit false (before ++ came)) old new
Asking-last waiting taken taken' limit room before old mid new came asking call is =
    asking.follows new came (add_one (Asks asking.now taken' limit false came) mid new room came
    (record { need = (asking.clear, is, λ none. absurd (none refl), tt); none = λ no. cc; brought = append-nil came }) call)

behind : (front waiting : List ℕ) (taken limit : ℕ) (calls : List Call) → HasNoNewline front → AskInNeed waiting taken limit calls → AskInNeed (front ++ waiting) taken limit calls
behind front waiting taken limit [] clear h = tt
behind front waiting taken limit (call ∷ calls) clear h = (
  clear-append front waiting clear h.0,
  h.1,
  h.2,
  subst (λ v. AskInNeed v (taken + length call.came) limit calls) (sym (append_assoc front waiting call.came))
      (behind front (waiting ++ call.came) (taken + length call.came) limit calls clear h.3),
)

-- the calls that passed over the rest of a line
pub Asking-passed : (waiting : List ℕ) (taken taken' limit : ℕ) (before : List ℕ) (old mid new : Option (List Call)) (came : List ℕ) → Asking waiting taken taken' limit before old mid
    → Adds (Asks [] taken' limit false came) mid new → Adds (Asks waiting taken limit false (before ++ came)) old new
Asking-passed waiting taken taken' limit before old mid new came asking passed =
    asking.follows new came (Adds-weaker (Asks [] taken' limit false came) (Asks asking.now taken' limit false came) mid new
    (λ calls h. record {
      need = subst (λ v. AskInNeed v taken' limit calls) (append-nil asking.now) (behind asking.now [] taken' limit calls asking.clear h.need);
      none = h.none;
      brought = h.brought;
    }) passed)

-- one call more filled a part of the buffer
pub asked_more : (waiting : List ℕ) (taken taken' limit : ℕ) (before : List ℕ) (old mid new : Option (List Call)) (items : List ℕ) (end count : ℕ) → end + count ≤ length items → count ≢ 0
    → Asking waiting taken taken' limit before old mid → AddsCall mid new (min 65536 (limit + 1 - taken')) (slice_range items end (end + count)) → HasNoNewline (slice_range items end (end + count))
    → Asking waiting taken (taken' + count) limit (before ++ slice_range items end (end + count)) old new
asked_more waiting taken taken' limit before old mid new items end count inside some asking call clear =
    let size : length (slice_range items end (end + count)) ≡ count = length-range items end (end + count) (omega arith) inside ∙ omega arith in
    subst (λ n. Asking waiting taken (taken' + n) limit (before ++ slice_range items end (end + count)) old new) size
    (Asking-more waiting taken taken' limit _ before old mid new (slice_range items end (end + count)) asking call refl clear (λ none. omega (arith, some, size, ap length none)))
