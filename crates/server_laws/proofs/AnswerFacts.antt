-- What every answer says of the state after it.
use Rattle.std.proofs.Common.{◌≡◌, ◌≤◌, ◌+◌, ◌-◌, ◌⊎◌, ℕ, zero, suc, length, List, [], ◌∷◌, Some, inl, inr, refl, sym, subst, arith, IfSome, Result, slice_get}
use Rattle.plain_values.proofs.Common.{AllByRecursion}
use Rattle.lens_specs.specs.Common.{TableDelta, Tables}
use Rattle.grammar_specs.specs.Common.{Definition, table, view}
use Rattle.server_specs.specs.Common.{Line, State, Answer, defined, Request, request, with_defined, accept, undone, IsDifference, Valid, answer, Step, answered, not_stored, found_memory, out_of_memory}
use Rattle.server_laws.specs.Answers.{IsRefusal, IsFailure, IsChange, told_version}
use Rattle.server_laws.specs.AnswerLaws.{IsQuestion}
use Rattle.server_laws.proofs.Outcomes.{Outcome, is_told, is_refused, is_defined, is_changed, is_undone, outcome, questions_make_nothing}

-- the answer r to a state s, where it may be only a question
pub record IsSaid (s : State) (question : Type 0) (r : Answer × State) : Type 0 where
  pub asked : question → r.1 ≡ s
  pub refusal : IsRefusal r.0 → r.1 ≡ s
  pub failure : IsFailure r.0 → ⊥
  pub rises : (question → ⊥) → IsChange r.0 → r.1.version ≡ s.version + 1
  pub stays : Valid s → (IsChange r.0 → ⊥) → r.1 ≡ s
  pub told : IfSome (told_version r.0) (λ version. version ≡ r.1.version)
  pub moves : (r.1 ≡ s) ⊎ (r.1.version ≡ s.version + 1)

said_defined : (s : State) (text : List ℕ) (d : Definition) → IsSaid s ⊥ (defined (s.version + 1), with_defined text d s)
said_defined s text (table name columns deps P) =
    record { asked = λ q. absurd q; refusal = λ h. absurd h; failure = λ h. h; rises = λ _ h. refl; stays = λ _ h. absurd (h tt); told = refl; moves = inr refl }
said_defined s text (view name expr) =
    record { asked = λ q. absurd q; refusal = λ h. absurd h; failure = λ h. h; rises = λ _ h. refl; stays = λ _ h. absurd (h tt); told = refl; moves = inr refl }

said_accept : (s : State) (question : Type 0) → (question → ⊥) → (db : Tables) (ds : List TableDelta) → IsSaid s question (accept db ds s)
said_accept s question changes db [] =
    record { asked = λ q. absurd (changes q); refusal = λ h. refl; failure = λ h. h; rises = λ _ h. absurd h; stays = λ _ h. refl; told = refl; moves = inl refl }
said_accept s question changes db (d ∷ ds) =
    record { asked = λ q. absurd (changes q); refusal = λ h. absurd h; failure = λ h. h; rises = λ _ h. refl; stays = λ _ h. absurd (h tt); told = refl; moves = inr refl }

-- what holds of each holds of the last
pub last_is_one : {A : Type 0} (P : A → Type 0) (xs : List A) (i : ℕ) (x : A) → AllByRecursion P xs → slice_get xs i ≡ Some x → P x
last_is_one P [] i x h e = cc
last_is_one P (y ∷ ys) zero x h e = let is : y ≡ x = cc in subst P is h.0
last_is_one P (y ∷ ys) (suc i) x h e = last_is_one P ys i x h.1 e

said_undone : (s : State) (cs : List TableDelta) → slice_get s.past (length s.past - 1) ≡ Some cs → IsSaid s ⊥ (undone (Some cs) s)
said_undone s [] is = record {
  asked = λ q. absurd q;
  refusal = λ h. absurd h;
  failure = λ h. h;
  rises = λ _ h. absurd h;
  stays = λ v _. absurd ((last_is_one IsDifference s.past (length s.past - 1) [] v.differences is).0 refl);
  told = refl;
  moves = inr refl;
}
said_undone s (c ∷ cs) is = record { asked = λ q. absurd q; refusal = λ h. absurd h; failure = λ h. h; rises = λ _ h. refl; stays = λ _ h. absurd (h tt); told = refl; moves = inr refl }

said_outcome : (s : State) {r : Result Request Answer} {t : Answer × State} → Outcome s r t → IsSaid s (IsQuestion r) t
said_outcome s (is_told q told) =
    record { asked = λ _. refl; refusal = λ _. refl; failure = told.failure; rises = λ h. absurd (h q); stays = λ _ _. refl; told = told.version; moves = inl refl }
said_outcome s (is_refused h) =
    record { asked = λ _. refl; refusal = λ _. refl; failure = h.told.failure; rises = λ _ c. absurd (h.change c); stays = λ _ _. refl; told = h.told.version; moves = inl refl }
said_outcome s (is_defined text d j) = said_defined s text d
said_outcome s {r = r} (is_changed ds db makes leads) = said_accept s (IsQuestion r) (λ q. questions_make_nothing r q makes) db ds
said_outcome s (is_undone cs is) = said_undone s cs is

pub said : (s : State) (l : Line) → IsSaid s (IsQuestion (request l)) (answer s l)
said s l = said_outcome s (outcome s l)

-- ---- steps

version_answer : (s : State) (l : Line) → (answer s l).1.version ≤ s.version + 1
version_answer s l = elim (said s l).moves [ inl stays ↦ subst (λ t. t.version ≤ s.version + 1) (sym stays) (omega arith) | inr rises ↦ omega arith ]

-- a step raises the version by one at most
pub version_step : (old : State) (count : ℕ) (l : Line) (reply : List ℕ) (new : State) (count' : ℕ) → Step old count l reply new count' → new.version ≤ old.version + 1
version_step old count l reply new count' step = elim step.replied [
  | found_memory (answered told is) ↦ subst (λ t. t.version ≤ old.version + 1) (sym is) (version_answer old l)
  | out_of_memory short told is ↦ subst (λ t. t.version ≤ old.version + 1) (sym is) (omega arith)
  | found_memory (not_stored told is moved rose) ↦ subst (λ t. t.version ≤ old.version + 1) (sym is) (omega arith)
]
