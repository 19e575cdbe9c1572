-- A token that can be printed is spelled by its bytes, and one that is spelled can be printed.
use Rattle.std.proofs.Common.{◌≡◌, ℕ, Bool, true, false, List, [], ◌∷◌, ◌++◌, map, refl, sym, ◌∙◌, ◌&&◌, flat_map, pos, negsuc}
use Rattle.plain_values.proofs.Common.{list_all, and_parts, and_from, list_all-append, is_name, is_text}
use Rattle.plain_values.specs.declared.value.Value.{Value}
use Rattle.plain_values.specs.declared.value.Value.TheVariants.{Int, Flag}
use Rattle.lens_specs.specs.Common.{Name}
use Rattle.grammar_specs.specs.Common.{Token, word, integer, text, comma, Spells, is_free_name, literal, literals, token_bytes, is_literal}
use Rattle.grammar_laws.proofs.PrintNumbers.{in_range, decimal_spells, spelled_range}

-- a word has the form of a name, an integer has 64 bits, and a text is one
abbrev pub is_printable : Token → Bool
is_printable (word w) = is_name w
is_printable (integer z) = in_range z
is_printable (text value) = is_text value
is_printable other = true

pub printable_spells : (t : Token) → is_printable t ≡ true → Spells t (token_bytes t)
printable_spells (word w) h = (refl, h)
printable_spells (integer z) h = decimal_spells z h
printable_spells (text value) h = (refl, h)
printable_spells other h = refl

pub spells_printable : (t : Token) (bytes : List ℕ) → Spells t bytes → is_printable t ≡ true
spells_printable (word w) bytes h = h.1
spells_printable (integer z) bytes h = spelled_range z bytes h
spells_printable (text value) bytes h = h.1
spells_printable other bytes h = refl

-- ---- lists of tokens

-- all of them can be printed
abbrev pub are_printable : List Token → Bool
are_printable tokens = list_all is_printable tokens

pub both_printable : (xs ys : List Token) → are_printable xs ≡ true → are_printable ys ≡ true → are_printable (xs ++ ys) ≡ true
both_printable xs ys h k = list_all-append is_printable xs ys ∙ and_from _ _ h k

pub each_printable : (xs ys : List Token) → are_printable (xs ++ ys) ≡ true → (are_printable xs ≡ true) × (are_printable ys ≡ true)
each_printable xs ys h = and_parts _ _ (sym (list_all-append is_printable xs ys) ∙ h)

-- a literal can be printed where it can be written
pub literal_printable : (v : Value) → is_printable (literal v) ≡ is_literal v
literal_printable (Int (pos n)) = refl
literal_printable (Int (negsuc n)) = refl
literal_printable (Flag true) = refl
literal_printable (Flag false) = refl
literal_printable other = refl

more_printable : (vs : List Value) → are_printable (flat_map (λ w. comma ∷ literal w ∷ []) vs) ≡ list_all is_literal vs
more_printable [] = refl
more_printable (v ∷ vs) = λ i. literal_printable v i && more_printable vs i

pub literals_printable : (vs : List Value) → are_printable (literals vs) ≡ list_all is_literal vs
literals_printable [] = refl
literals_printable (v ∷ vs) = λ i. literal_printable v i && more_printable vs i

-- ---- names

pub free_name : (n : Name) → is_free_name n ≡ true → is_name n ≡ true
free_name n h = (and_parts _ _ h).0

pub names_printable : (names : List Name) → list_all is_free_name names ≡ true → are_printable (map word names) ≡ true
names_printable [] h = refl
names_printable (n ∷ names) h =
    let both = and_parts _ _ h in
    and_from _ _ (free_name n both.0) (names_printable names both.1)
