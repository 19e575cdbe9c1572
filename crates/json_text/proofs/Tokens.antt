-- The bytes of tokens at the end of a text.
use Rattle.std.proofs.Common.{◌≡◌, ◌∙◌, Bool, true, false, cond, ℕ, List, [], ◌∷◌, ◌++◌, fold, ap, sym, refl, append_assoc, append-nil}
use Rattle.json.specs.Token.{Token, string}
use Rattle.json.specs.Print.{begins, ends, print, print_from, quoted, token_text}
use Rattle.json.proofs.Printed.Tokens.{print_from-append}
use Rattle.json_text.specs.Written.{Written, Adds, AddsBytes, comma}

-- a token that begins a value or a member has a comma before it, if a value has just ended
print_begun : (after : Bool) (t : Token) → begins t ≡ true → print_from after (t ∷ []) ≡ cond after (44 ∷ []) [] ++ token_text t
unfolding print_from
print_begun true t h = rw h (ap (λ l. 44 ∷ l) (append-nil (token_text t)))
print_begun false t h = append-nil (token_text t)

-- a closing bracket has none
pub print_ended : (after : Bool) (t : Token) → begins t ≡ false → print_from after (t ∷ []) ≡ token_text t
unfolding print_from
print_ended true t h = rw h (append-nil (token_text t))
print_ended false t h = append-nil (token_text t)

pub token_begun : {old new : Written} (t : Token) → begins t ≡ true → AddsBytes old new (comma old ++ token_text t) (ends t) → Adds old new (t ∷ [])
token_begun {old} {new} t h added = record {
  bytes = added.bytes ∙ ap (λ l. old.bytes ++ l) (sym (print_begun old.after_value t h));
  after_value = added.after_value;
}

pub token_ended : {old new : Written} (t : Token) → begins t ≡ false → AddsBytes old new (token_text t) (ends t) → Adds old new (t ∷ [])
token_ended {old} {new} t h added = record {
  bytes = added.bytes ∙ ap (λ l. old.bytes ++ l) (sym (print_ended old.after_value t h));
  after_value = added.after_value;
}

-- bytes after bytes
pub bytes_follow : {a b c : Written} {xs ys : List ℕ} {m n : Bool} → AddsBytes a b xs m → AddsBytes b c ys n → AddsBytes a c (xs ++ ys) n
bytes_follow {a} {b} {c} {xs} {ys} first second = record {
  bytes = second.bytes ∙ ap (λ l. l ++ ys) first.bytes ∙ append_assoc a.bytes xs ys;
  after_value = second.after_value;
}

-- added bytes are added still if it is then said whether a value has ended
pub ended_as : {a b c : Written} {xs : List ℕ} {m : Bool} (n : Bool) → AddsBytes a b xs m → c.bytes ≡ b.bytes → c.after_value ≡ n → AddsBytes a c xs n
ended_as n added same now = record { bytes = same ∙ added.bytes; after_value = now }

pub print_string : (s : List ℕ) → print (string s ∷ []) ≡ quoted s
unfolding print_from
print_string s = append-nil (quoted s)

fold_follow : (b : Bool) (ts us : List Token) → fold (λ _ t. ends t) (fold (λ _ t. ends t) b ts) us ≡ fold (λ _ t. ends t) b (ts ++ us)
fold_follow b [] us = refl
fold_follow b (t ∷ ts) us = fold_follow (ends t) ts us

-- tokens after tokens
pub follow : {a b c : Written} {ts us : List Token} → Adds a b ts → Adds b c us → Adds a c (ts ++ us)
follow {a} {b} {c} {ts} {us} first second = record {
  bytes = second.bytes ∙ (λ i. first.bytes i ++ print_from (first.after_value i) us)
      ∙ append_assoc a.bytes (print_from a.after_value ts) (print_from (fold (λ _ t. ends t) a.after_value ts) us)
      ∙ ap (λ l. a.bytes ++ l) (sym (print_from-append a.after_value ts us));
  after_value = second.after_value ∙ ap (λ e. fold (λ _ t. ends t) e us) first.after_value ∙ fold_follow a.after_value ts us;
}
