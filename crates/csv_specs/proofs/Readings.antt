-- What was read record by record is all the records of a text.
use Rattle.std.proofs.Common.{◌≡◌, ◌≤◌, ◌<◌, ◌+◌, ◌∙◌, [], ◌∷◌, ◌++◌, ℕ, suc, List, Bool, true, false, Option, Some, None, refl, sym, ap, subst, arith, length, cond, ◌==◌, ◌&&◌, ◌-◌}
use Rattle.plain_values.proofs.Common.{append-nil}
use Rattle.csv.specs.Machine.{Read, after_end, ends_at_end, ends_with, field_after, fields_after, in_field, is_byte, is_end, next_record, start_field, start_record, step}
use Rattle.csv.specs.Reading.{AreRecords, Reached, records, records_from, records_next}
use Rattle.csv.specs.declared.parser.Action.{Action}
use Rattle.csv.specs.declared.parser.Action.TheVariants as act
use Rattle.csv.specs.declared.parser.Config.{Config}
use Rattle.csv.specs.declared.parser.State.{State}
use Rattle.csv.specs.declared.parser.State.TheVariants as st
use Rattle.csv.specs.declared.parser.Terminator.{Terminator}
use Rattle.csv.specs.declared.parser.Terminator.TheVariants as term

-- ---- a record that ended leaves a state in which none has begun

-- a step that ends a record leaves such a state
abbrev EndsWell : State × Action → Type 0
EndsWell p = is_end p.1 ≡ true → ends_at_end p.0 ≡ false

either : (b : Bool) (p q : State × Action) → EndsWell p → EndsWell q → EndsWell (cond b p q)
either true p q h g = h
either false p q h g = g

state_either : (b : Bool) (s t : State) → ends_at_end s ≡ false → ends_at_end t ≡ false → ends_at_end (cond b s t) ≡ false
state_either true s t h g = h
state_either false s t h g = g

after_end_well : (t : Terminator) (c : ℕ) → ends_at_end (after_end t c) ≡ false
after_end_well term.CRLF c = state_either (c == 13) st.AfterCr st.StartRecord refl refl
after_end_well (term.Any t) c = refl

no_end : (s : State) (a : Action) → is_end a ≡ false → EndsWell (s, a)
no_end s a e h = cc

in_field_well : (cfg : Config) (c : ℕ) → EndsWell (in_field cfg c)
in_field_well cfg c =
    either (c == cfg.delimiter) _ _ (no_end st.StartField act.EndField refl)
    (either (ends_with cfg.terminator c) _ _ (λ _. after_end_well cfg.terminator c) (no_end st.InField act.Copy refl))

start_field_well : (cfg : Config) (c : ℕ) → EndsWell (start_field cfg c)
start_field_well cfg c = either (cfg.quoting && (c == cfg.quote)) _ _ (no_end st.InQuoted act.Skip refl) (in_field_well cfg c)

start_record_well : (cfg : Config) (c : ℕ) → EndsWell (start_record cfg c)
start_record_well cfg c =
    either (ends_with cfg.terminator c) _ _ (no_end st.StartRecord act.Skip refl)
    (either (is_byte cfg.comment c) _ _ (no_end st.InComment act.Skip refl) (start_field_well cfg c))

step_well : (cfg : Config) (s : State) (c : ℕ) → EndsWell (step cfg s c)
step_well cfg st.StartRecord c = start_record_well cfg c
step_well cfg st.StartField c = start_field_well cfg c
step_well cfg st.InField c = in_field_well cfg c
step_well cfg st.InQuoted c =
    either (cfg.quoting && (c == cfg.quote)) _ _ (no_end st.AfterQuote act.Skip refl)
    (either (cfg.quoting && is_byte cfg.escape c) _ _ (no_end st.InEscape act.Skip refl) (no_end st.InQuoted act.Copy refl))
step_well cfg st.InEscape c = no_end st.InQuoted act.Copy refl
step_well cfg st.AfterQuote c = either (cfg.quoting && cfg.double_quote && (c == cfg.quote)) _ _ (no_end st.InQuoted act.Copy refl) (in_field_well cfg c)
step_well cfg st.InComment c = either (c == 10) _ _ (no_end st.StartRecord act.Skip refl) (no_end st.InComment act.Skip refl)
step_well cfg st.AfterCr c = either (c == 10) _ _ (no_end st.StartRecord act.Skip refl) (start_record_well cfg c)

-- ---- each record takes a byte

-- what a record that was read leaves: a state in which none has begun, and no more text than there was
record Leaves (n : ℕ) (p : Read) : Type 0 where
  fresh : ends_at_end p.1 ≡ false
  short : length p.2 ≤ n

-- what was read, if anything was
abbrev IfRead : ℕ → Option Read → Type 0
IfRead n None = Unit {0}
IfRead n (Some p) = Leaves n p

leaves_more : (n m : ℕ) (o : Option Read) → n ≤ m → IfRead n o → IfRead m o
leaves_more n m None h r = tt
leaves_more n m (Some p) h r = record { fresh = r.fresh; short = omega (arith, h, r.short) }

read_either : (n : ℕ) (b : Bool) (o p : Option Read) → (b ≡ true → IfRead n o) → (b ≡ false → IfRead n p) → IfRead n (cond b o p)
read_either n true o p h g = h refl
read_either n false o p h g = g refl

-- from any state
reads_on : (cfg : Config) (s : State) (fields : List (List ℕ)) (field xs : List ℕ) → IfRead (length xs) (next_record cfg s fields field xs)
unfolding next_record
reads_on cfg s fields field [] =
    read_either 0 (ends_at_end s) (Some (fields ++ (field ∷ []), st.StartRecord, [])) None (λ _. record { fresh = refl; short = omega arith }) (λ _. tt)
reads_on cfg s fields field (c ∷ rest) =
    leaves_more (length rest) (length (c ∷ rest)) _ (omega arith) (
    read_either (length rest) (is_end (step cfg s c).1) (Some (fields_after (step cfg s c).1 fields field, (step cfg s c).0, rest)) _
    (λ e. record { fresh = step_well cfg s c e; short = omega arith })
    (λ _. reads_on cfg (step cfg s c).0 (fields_after (step cfg s c).1 fields field) (field_after (step cfg s c).1 c field) rest)
    )

-- a record that begins takes at least one byte
record Takes (n : ℕ) (p : Read) : Type 0 where
  fresh : ends_at_end p.1 ≡ false
  shorter : length p.2 < n

takes : (n m : ℕ) (p : Read) → n < m → Leaves n p → Takes m p
takes n m p h r = record { fresh = r.fresh; shorter = omega (arith, h, r.short) }

begins : (cfg : Config) (s : State) (fields : List (List ℕ)) (field xs : List ℕ) (p : Read) → ends_at_end s ≡ false → next_record cfg s fields field xs ≡ Some p → Takes (length xs) p
unfolding next_record
begins cfg s fields field [] p fresh e = absurd (cc (sym e ∙ ap (λ b. cond b (Some (fields ++ (field ∷ []), st.StartRecord, [])) None) fresh))
begins cfg s fields field (c ∷ rest) p fresh e =
    let made : IfRead (length rest) (next_record cfg s fields field (c ∷ rest)) =
    read_either (length rest) (is_end (step cfg s c).1) (Some (fields_after (step cfg s c).1 fields field, (step cfg s c).0, rest)) _
    (λ e. record { fresh = step_well cfg s c e; short = omega arith })
    (λ _. reads_on cfg (step cfg s c).0 (fields_after (step cfg s c).1 fields field) (field_after (step cfg s c).1 c field) rest) in
    takes (length rest) (length (c ∷ rest)) p (omega arith) (subst (IfRead (length rest)) e made)

-- ---- as many turns as bytes, and one more, are enough

one_turn : (cfg : Config) (n : ℕ) (s : State) (xs : List ℕ) (p : Read) → next_record cfg s [] [] xs ≡ Some p → records_from cfg (suc n) s xs ≡ p.0 ∷ records_from cfg n p.1 p.2
unfolding records_from
one_turn cfg n s xs p e = ap (records_next (records_from cfg n)) e

no_turn : (cfg : Config) (n : ℕ) (s : State) (xs : List ℕ) → next_record cfg s [] [] xs ≡ None → records_from cfg (suc n) s xs ≡ []
unfolding records_from
no_turn cfg n s xs e = ap (records_next (records_from cfg n)) e

-- after some records the turns that are left give the others
turns_left : (cfg : Config) (k : ℕ) (s t : State) (xs ys : List ℕ) (rs : List (List (List ℕ))) → Reached cfg s xs rs t ys
    → records_from cfg (length rs + k) s xs ≡ rs ++ records_from cfg k t ys
unfolding Reached
turns_left cfg k s t xs ys [] h =
    let none : length {A = List (List ℕ)} [] + k ≡ k = omega arith in
    rw none (λ i. records_from cfg k (h.0 i) (h.1 i))
turns_left cfg k s t xs ys (r ∷ rs) h =
    let turns : length (r ∷ rs) + k ≡ suc (length rs + k) = omega arith in
    rw turns (one_turn cfg (length rs + k) s xs h.0 h.1 ∙ (λ i. sym h.2 i ∷ turns_left cfg k h.0.1 t h.0.2 ys rs h.3 i))

-- each of some records took a byte
bytes_taken : (cfg : Config) (s t : State) (xs ys : List ℕ) (rs : List (List (List ℕ))) → ends_at_end s ≡ false → Reached cfg s xs rs t ys → length rs + length ys ≤ length xs
unfolding Reached
bytes_taken cfg s t xs ys [] fresh h = rw (ap length h.1) (omega arith)
bytes_taken cfg s t xs ys (r ∷ rs) fresh h =
    let one = begins cfg s [] [] xs h.0 fresh h.1 in
    let more = bytes_taken cfg h.0.1 t h.0.2 ys rs one.fresh h.3 in
    omega (arith, one.shorter, more)

-- the turns, of which these records take some
turns : (n m : ℕ) → m ≤ n → n + 1 ≡ m + suc (n - m)
turns n m h = omega (arith, h)

-- the records that were read, up to where there is none, are all of them
pub all_records : (cfg : Config) (xs : List ℕ) (rs : List (List (List ℕ))) → AreRecords cfg st.StartRecord xs rs → records cfg xs ≡ rs
all_records cfg xs rs h =
    let taken = bytes_taken cfg st.StartRecord h.0 xs h.1 rs refl h.2 in
    ap (λ n. records_from cfg n st.StartRecord xs) (turns (length xs) (length rs) (omega (arith, taken)))
    ∙ turns_left cfg (suc (length xs - length rs)) st.StartRecord h.0 xs h.1 rs h.2
    ∙ ap (λ (l : List (List (List ℕ))). rs ++ l) (no_turn cfg (length xs - length rs) h.0 h.1 h.3)
    ∙ append-nil rs

-- and those that were read first are the first of them
pub first_records : (cfg : Config) (xs ys : List ℕ) (s : State) (rs : List (List (List ℕ))) → Reached cfg st.StartRecord xs rs s ys
    → (others : List (List (List ℕ))) × (records cfg xs ≡ rs ++ others)
first_records cfg xs ys s rs h =
    let taken = bytes_taken cfg st.StartRecord s xs ys rs refl h in (
      records_from cfg (suc (length xs - length rs)) s ys,
      ap (λ n. records_from cfg n st.StartRecord xs) (turns (length xs) (length rs) (omega (arith, taken)))
          ∙ turns_left cfg (suc (length xs - length rs)) st.StartRecord s xs ys rs h,
    )
