-- The text of a printer, one part after another.
use Rattle.std.proofs.Common.{◌≡◌, ◌∙◌, Bool, true, false, List, [], ◌∷◌, ◌++◌, refl, ap, sym, subst, cond, append_assoc, append-nil, string_bytes, Result, OnOk}
use Rattle.plain_values.proofs.Common.{on_ok_weaker}
use Rattle.grammar_specs.specs.Common.{Token, token_bytes, opens, closes, gap, spaced}
use Rattle.view_lang.specs.declared.printing.printer.Printer.{Printer}
use Rattle.view_lang.specs.PrintAdds.{blank, before, bytes_after, glued_after, Adds}

-- ---- one part after another

-- the bytes of both parts
bytes-append : (glued : Bool) (xs ys : List Token) → bytes_after glued (xs ++ ys) ≡ bytes_after glued xs ++ bytes_after (glued_after glued xs) ys
bytes-append glued [] ys = refl
bytes-append glued (t ∷ xs) ys =
    ap (λ bytes. (before glued t ++ token_bytes t) ++ bytes) (bytes-append (opens t) xs ys)
    ∙ sym (append_assoc (before glued t ++ token_bytes t) (bytes_after (opens t) xs) (bytes_after (glued_after (opens t) xs) ys))

-- whether the next token is glued to both
glued-append : (glued : Bool) (xs ys : List Token) → glued_after glued (xs ++ ys) ≡ glued_after (glued_after glued xs) ys
glued-append glued [] ys = refl
glued-append glued (t ∷ xs) ys = glued-append (opens t) xs ys

pub follow : {a b c : Printer} {xs ys : List Token} → Adds a b xs → Adds b c ys → Adds a c (xs ++ ys)
follow {a = a} {b = b} {xs = xs} {ys = ys} first second = record {
  text =
      second.text
      ∙ ap (λ bytes. bytes ++ bytes_after b.glued ys) first.text
      ∙ append_assoc (string_bytes a.text) (bytes_after a.glued xs) (bytes_after b.glued ys)
      ∙ ap (λ glued. string_bytes a.text ++ (bytes_after a.glued xs ++ bytes_after glued ys)) first.next
      ∙ ap (λ bytes. string_bytes a.text ++ bytes) (sym (bytes-append a.glued xs ys));
  next = second.next ∙ ap (λ glued. glued_after glued ys) first.next ∙ sym (glued-append a.glued xs ys);
}

-- a token, and then what a call adds
pub begun : {E : Type 0} {a b : Printer} {t : Token} (c : Printer) (ys : List Token) (r : Result (Unit {0}) E) → Adds a b (t ∷ []) → OnOk r (Adds b c ys) → OnOk r (Adds a c (t ∷ ys))
begun c ys r first second = on_ok_weaker r (λ more. follow first more) second

-- what adds the tokens of one list adds those of an equal list
pub adds_same : {a b : Printer} {xs : List Token} (ys : List Token) → xs ≡ ys → Adds a b xs → Adds a b ys
adds_same {a = a} {b = b} ys e adds = subst (Adds a b) e adds

-- ---- the whole text

-- what stands between two tokens stands before the second
before_gap : (o c : Bool) → cond c [] (blank o) ≡ cond o [] (cond c [] (32 ∷ []))
before_gap true true = refl
before_gap true false = refl
before_gap false true = refl
before_gap false false = refl

-- nothing stands before the first
before_first : (c : Bool) → cond c [] (blank true) ≡ []
before_first true = refl
before_first false = refl

-- a token and those behind it
spaced_on : (s : Token) (ts : List Token) → token_bytes s ++ bytes_after (opens s) ts ≡ spaced (s ∷ ts)
spaced_on s [] = append-nil (token_bytes s)
spaced_on s (t ∷ ts) =
    ap (λ bytes. token_bytes s ++ bytes) (append_assoc (before (opens s) t) (token_bytes t) (bytes_after (opens t) ts))
    ∙ ap (λ bytes. token_bytes s ++ (before (opens s) t ++ bytes)) (spaced_on t ts)
    ∙ ap (λ bytes. token_bytes s ++ (bytes ++ spaced (t ∷ ts))) (before_gap (opens s) (closes t))
    ∙ sym (append_assoc (token_bytes s) (gap s t) (spaced (t ∷ ts)))

-- from the start on, the bytes are those of the tokens with blanks between them
spaced_whole : (ts : List Token) → bytes_after true ts ≡ spaced ts
spaced_whole [] = refl
spaced_whole (t ∷ ts) = ap (λ bytes. bytes ++ token_bytes t ++ bytes_after (opens t) ts) (before_first (closes t)) ∙ spaced_on t ts

-- the text of a printer that began with none
pub printed_whole : {start end : Printer} {ts : List Token} → string_bytes start.text ≡ [] → start.glued ≡ true → Adds start end ts → string_bytes end.text ≡ spaced ts
printed_whole {start = start} {ts = ts} none glued adds =
    adds.text ∙ ap (λ bytes. bytes ++ bytes_after start.glued ts) none ∙ ap (λ g. bytes_after g ts) glued ∙ spaced_whole ts
