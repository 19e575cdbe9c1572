-- No answer that the definitions give reads as a failure.
use Rattle.std.proofs.Common.{◌≡◌, ℕ, Bool, true, false, List, refl, ap, sym, ◌∙◌, ◌≢◌, nat_eq}
use Rattle.plain_values.proofs.Common.{pointwise, digits}
use Rattle.serde_json.proofs.OnLiterals.{serde_json_on_literals}
use Rattle.lens_specs.specs.Refusal as refusal
use Rattle.lens_specs.specs.Common.{Refusal}
use Rattle.server_specs.specs.EditRefusal as refusals
use Rattle.server_specs.specs.Common.{EditRefusal, Answer, memory, refused, in_edit, store_fault, text}
use Rattle.server_laws.specs.Answers.{IsFailure}

-- whether the two answers read alike
abbrev reads_as : Answer → Answer → Bool
reads_as a b = pointwise nat_eq (text a) (text b)

-- it reads as no failure
record ReadsOtherwise (a : Answer) : Type 0 where
  pub memory : reads_as memory a ≡ false
  pub fault : reads_as store_fault a ≡ false

refused_otherwise : (r : Refusal) → ReadsOtherwise (refused r)
unfolding text serde_json_on_literals digits
refused_otherwise (refusal.unknown_column name) = record { memory = refl; fault = refl }
refused_otherwise r = record { memory = refl; fault = refl }

edit_otherwise : (i : ℕ) (why : EditRefusal) → ReadsOtherwise (in_edit i why)
unfolding text serde_json_on_literals digits
edit_otherwise i (refusals.unknown_name name) = record { memory = refl; fault = refl }
edit_otherwise i why = record { memory = refl; fault = refl }

otherwise : (a : Answer) → (IsFailure a → ⊥) → ReadsOtherwise a
unfolding text serde_json_on_literals digits
otherwise memory h = absurd (h tt)
otherwise store_fault h = absurd (h tt)
otherwise (refused r) h = refused_otherwise r
otherwise (in_edit i why) h = edit_otherwise i why
otherwise a h = record { memory = refl; fault = refl }

memory_reads : reads_as memory memory ≡ true
unfolding text serde_json_on_literals digits
memory_reads = refl

fault_reads : reads_as store_fault store_fault ≡ true
unfolding text serde_json_on_literals digits
fault_reads = refl

-- two texts of which one test tells the one from the other
apart : (test : List ℕ → Bool) (x y : List ℕ) → test x ≡ false → test y ≡ true → x ≢ y
apart test x y fails holds e = let clash : false ≡ true = sym fails ∙ ap test e ∙ holds in cc

pub not_memory : (a : Answer) → (IsFailure a → ⊥) → text a ≢ text memory
not_memory a h = apart (pointwise nat_eq (text memory)) (text a) (text memory) (otherwise a h).memory memory_reads

pub not_fault : (a : Answer) → (IsFailure a → ⊥) → text a ≢ text store_fault
not_fault a h = apart (pointwise nat_eq (text store_fault)) (text a) (text store_fault) (otherwise a h).fault fault_reads

-- whether a reply says that the keeper failed
pub no_fault_read : (a : Answer) → (IsFailure a → ⊥) → pointwise nat_eq (text store_fault) (text a) ≡ false
no_fault_read a h = (otherwise a h).fault

pub no_fault_in_memory : pointwise nat_eq (text store_fault) (text memory) ≡ false
unfolding text serde_json_on_literals digits
no_fault_in_memory = refl

pub fault_read : pointwise nat_eq (text store_fault) (text store_fault) ≡ true
fault_read = fault_reads
