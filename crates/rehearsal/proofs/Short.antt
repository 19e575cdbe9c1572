-- The lines that are made are short.
use Rattle.std.proofs.Common.{◌≡◌, ◌≤◌, ◌+◌, ◌*◌, ◌/◌, ◌%◌, ◌==◌, ℕ, zero, suc, pos, negsuc, List, [], ◌∷◌, ◌++◌, Bool, true, false, cond, decimal, length, ap, arith, length-append, nat_lt}
use Rattle.std.specs.Char.{digit_char}
use Rattle.std.specs.Fmt.{digits, digits_onto, digit_glyph}
use Rattle.std.proofs.lemmas.Bool.{le-leb}
use Rattle.json.specs.Print.{quoted, escape, escape_byte, escape_letter}
use Rattle.rehearsal.specs.Rehearsal.{json_text}
use Rattle.serde_json.specs.Data.{Num, unsigned, negative, float, Data, null, boolean, number, string, array, object, Items, no_items, item, Members, no_members, member}
use Rattle.serde_json.specs.Written.{compact_text, items_text, members_text, comma_if, number_text}
use Rattle.server_specs.specs.Common.{line, too_long, marked}

-- ---- texts of numbers and strings

either_most : (b : Bool) (xs ys : List ℕ) (most : ℕ) → length xs ≤ most → length ys ≤ most → length (cond b xs ys) ≤ most
either_most true xs ys most p q = p
either_most false xs ys most p q = q

length-digits_onto : (k n : ℕ) (acc : List ℕ) → length (digits_onto k 10 false n acc) ≤ k + length acc
length-digits_onto zero n acc = omega arith
length-digits_onto (suc k) n acc =
    let d = digit_glyph false (n % 10) in
    either_most (n / 10 == 0) (d ∷ acc) (digits_onto k 10 false (n / 10) (d ∷ acc)) (suc k + length acc) (omega arith) (omega (arith, length-digits_onto k (n / 10) (d ∷ acc)))

pub length-decimal : (n : ℕ) → length (decimal n) ≤ 64
unfolding digits
length-decimal n = length-digits_onto 64 n []

length-escape_byte : (x : ℕ) → length (escape_byte x) ≤ 6
unfolding escape_byte
length-escape_byte x =
    either_most (nat_lt 0 (escape_letter x)) (92 ∷ escape_letter x ∷ []) _ 6 (omega arith)
    (either_most (nat_lt x 32) (92 ∷ 117 ∷ 48 ∷ 48 ∷ digit_char (x / 16) ∷ digit_char (x % 16) ∷ []) (x ∷ []) 6 (omega arith) (omega arith))

length-escape : (s : List ℕ) → length (escape s) ≤ 6 * length s
length-escape [] = omega arith
length-escape (x ∷ s) = omega (arith, length-append (escape_byte x) (escape s), length-escape_byte x, length-escape s)

pub length-quoted : (s : List ℕ) → length (quoted s) ≤ 6 * length s + 2
length-quoted s = omega (arith, length-append (escape s) (34 ∷ []), length-escape s)

length-number_text : (n : Num) → length (number_text n) ≤ 65
length-number_text (unsigned n) = omega (arith, length-decimal n)
length-number_text (negative (pos n)) = omega (arith, length-decimal n)
length-number_text (negative (negsuc n)) = omega (arith, length-decimal (suc n))
length-number_text (float x) = omega arith

-- ---- texts of JSON

-- at most so many bytes
abbrev mutual
  pub most : Data → ℕ
  most null = 4
  most (boolean b) = 5
  most (number n) = 65
  most (string s) = 6 * length s + 2
  most (array ds) = 1 + items_most ds
  most (object ms) = 1 + members_most ms

  pub items_most : Items → ℕ
  items_most no_items = 1
  items_most (item d ds) = 1 + (most d + items_most ds)

  pub members_most : Members → ℕ
  members_most no_members = 1
  members_most (member k d ms) = 4 + (6 * length k + (most d + members_most ms))

length-boolean : (b : Bool) → length (compact_text (boolean b)) ≤ 5
length-boolean true = omega arith
length-boolean false = omega arith

length-comma_if : (b : Bool) → length (comma_if b) ≤ 1
length-comma_if true = omega arith
length-comma_if false = omega arith

mutual
  pub length-compact_text : (d : Data) → length (compact_text d) ≤ most d
  length-compact_text null = omega arith
  length-compact_text (boolean b) = length-boolean b
  length-compact_text (number n) = length-number_text n
  length-compact_text (string s) = length-quoted s
  length-compact_text (array ds) = omega (arith, length-items_text false ds)
  length-compact_text (object ms) = omega (arith, length-members_text false ms)

  length-items_text : (later : Bool) (ds : Items) → length (items_text later ds) ≤ items_most ds
  length-items_text later no_items = omega arith
  length-items_text later (item d ds) =
      omega (arith, length-append (comma_if later) (compact_text d ++ items_text true ds), length-append (compact_text d) (items_text true ds), length-comma_if later, length-compact_text d, length-items_text true ds)

  length-members_text : (later : Bool) (ms : Members) → length (members_text later ms) ≤ members_most ms
  length-members_text later no_members = omega arith
  length-members_text later (member k d ms) =
      omega (
        arith,
        length-append (comma_if later) (quoted k ++ 58 ∷ (compact_text d ++ members_text true ms)),
        length-append (quoted k) (58 ∷ (compact_text d ++ members_text true ms)),
        length-append (compact_text d) (members_text true ms),
        length-comma_if later,
        length-quoted k,
        length-compact_text d,
        length-members_text true ms,
      )

-- a text that has no room to be too long makes a line
pub marked-short : (d : Data) → most d ≤ 16777216 → marked (json_text d) ≡ line (json_text d)
unfolding json_text
marked-short d few = ap (λ b. cond b (line (compact_text d)) too_long) (le-leb (length (compact_text d)) 16777216 (omega (arith, length-compact_text d, few)))
