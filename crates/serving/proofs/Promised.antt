-- What a run promises, from what its parts do.
use Rattle.std.proofs.Common.{◌≡◌, ◌≢◌, ◌≤◌, ◌<◌, ◌∙◌, ◌⊎◌, ℕ, Bool, List, length, refl, sym, subst, arith, inl, inr, ◌↔◌, Option, None, Some, Result, Ok, Err, IfSome}
use Rattle.server_specs.specs.Common.{Adds, Rose}
use Rattle.lens_io.specs.Bytes.{GivesUnlessFailed}
use Rattle.lens_io.specs.Calls.{OffersRest}
use Rattle.arguments.specs.Settings.{Settings}
use Rattle.table_keeper.specs.declared.keeper.KeepFault.TheVariants as keep
use Rattle.serving.specs.Opening.{IsUnserved}
use Rattle.serving.specs.Promises.{NoneFailed, Promises, RefusesBy, RehearsesBy, RunsBy, StopsShortBy, Observed, Untouched}
use Rattle.serving.specs.Running.{FailsBy, IsAtEntry, IsDamaged, IsServed, LacksMemoryBy, before, opening_fault, place_after, usage}
use Rattle.serving.proofs.Calls.{lacks_unasked, some_all, unasked_tells}
use Rattle.serving.proofs.Opened.{stays_same}
use Rattle.serving.proofs.Finished.{spent_input}

some_none : {A : Type 0} (o : Option A) (P : A → Type 0) → o ≡ None → IfSome o P
some_none None P e = tt
some_none (Some x) P e = cc

-- ---- the statuses of right words

ended : (status : ℕ) → IsServed status ⊎ IsUnserved status → IsServed status ⊎ ((status ≡ 2) ⊎ ((status ≡ 3) ⊎ ((status ≡ 6) ⊎ (status ≡ 7))))
ended status (inl served) = inl served
ended status (inr (inl three)) = inr (inr (inl three))
ended status (inr (inr (inl six))) = inr (inr (inr (inl six)))
ended status (inr (inr (inr seven))) = inr (inr (inr (inr seven)))

completed : (status : ℕ) (old new : Observed) → IsServed status ⊎ IsUnserved status → (status ≡ 4 → Rose old.source_faults new.source_faults) → (status ≡ 5 → Rose old.sink_faults new.sink_faults)
    → (status ≡ 6 → Rose old.keeper_faults new.keeper_faults) → NoneFailed old new → (status ≡ 0) ⊎ ((status ≡ 3) ⊎ ((status ≡ 7) ⊎ (status ≡ 8)))
completed status old new (inl (inl zero)) read write store none = inl zero
completed status old new (inl (inr (inl four))) read write store none = absurd (none.0 (read four))
completed status old new (inl (inr (inr (inl five)))) read write store none = absurd (none.1 (write five))
completed status old new (inl (inr (inr (inr eight)))) read write store none = inr (inr (inr eight))
completed status old new (inr (inl three)) read write store none = inr (inl three)
completed status old new (inr (inr (inl six))) read write store none = absurd (none.2 (store six))
completed status old new (inr (inr (inr seven))) read write store none = inr (inr (inl seven))

unless_longer : (status most : ℕ) (bytes : List ℕ) → (status ≡ 0) ⊎ ((status ≡ 3) ⊎ ((status ≡ 7) ⊎ (status ≡ 8))) → (status ≡ 8 → most < length bytes) → length bytes ≤ most
    → (status ≡ 0) ⊎ ((status ≡ 3) ⊎ (status ≡ 7))
unless_longer status most bytes (inl zero) long short = inl zero
unless_longer status most bytes (inr (inl three)) long short = inr (inl three)
unless_longer status most bytes (inr (inr (inl seven))) long short = inr (inr seven)
unless_longer status most bytes (inr (inr (inr eight))) long short = absurd (omega (arith, short, long eight))

completed_told : (status most : ℕ) (left : Option (List ℕ)) → (status ≡ 0) ⊎ ((status ≡ 3) ⊎ ((status ≡ 7) ⊎ (status ≡ 8))) → (status ≡ 8 → IfSome left (λ bytes. most < length bytes))
    → IfSome left (λ bytes. length bytes ≤ most → (status ≡ 0) ⊎ ((status ≡ 3) ⊎ (status ≡ 7)))
completed_told status most None all long = tt
completed_told status most (Some bytes) all long = λ short. unless_longer status most bytes all long short

-- ---- statuses that exclude others

pub not_unserved : (status : ℕ) → IsServed status → IsUnserved status → ⊥
not_unserved status served unserved = omega (arith, served, unserved)

-- a status of a run that did not begin, at which the store has its place
pub unserved_seven : (status : ℕ) → IsUnserved status → IsServed status ⊎ (status ≡ 7) → status ≡ 7
unserved_seven status unserved other = omega (arith, unserved, other)

-- ---- what a start gave

pub ok_is_no_err : {T E : Type 0} (r : Result T E) (x : T) (e : E) → r ≡ Ok x → r ≢ Err e
ok_is_no_err r x e is same = cc

pub same_err : {T E : Type 0} (r : Result T E) (a b : E) → r ≡ Err a → r ≡ Err b → a ≡ b
same_err r a b is same = cc

-- ---- no rehearsal

pub promised_input : (s : Settings) (stays : Bool) (status : ℕ) (old new : Observed) → s.rehearse ≡ None
    → (IsServed status → RunsBy s stays status old new)
    → (status ≡ 7 → RefusesBy s stays old new)
    → (status ≢ 3 → status ≢ 6 → IsAtEntry s.store stays → IfSome old.contents (λ kept. (status ≡ 7) ↔ IsDamaged kept))
    → (status ≢ 3 → status ≢ 6 → IfSome new.contents (λ kept. (status ≡ 7) ↔ IsDamaged kept))
    → (status ≡ 6 → Adds (FailsBy s.store) old.calls new.calls)
    → Adds (λ calls. (status ≡ 6) ↔ (opening_fault s.store calls ≡ Some keep.Failed)) old.calls new.calls
    → (status ≡ 3 → Adds (LacksMemoryBy s.store) old.calls new.calls)
    → (IsUnserved status → Untouched s stays old new)
    → IsServed status ⊎ IsUnserved status
    → (status ≡ 4 → Rose old.source_faults new.source_faults) → (status ≡ 5 → Rose old.sink_faults new.sink_faults) → (status ≡ 6 → Rose old.keeper_faults new.keeper_faults)
    → old.source_faults ≤ new.source_faults → old.sink_faults ≤ new.sink_faults → old.keeper_faults ≤ new.keeper_faults
    → (IsServed status ⊎ (status ≡ 7) → new.place ≡ place_after s.store old.place) → (s.store ≡ None → new.place ≡ old.place)
    → (IsUnserved status → new.walked ≡ old.walked)
    → Promises (Some s) stays status old new
promised_input s stays status old new none serves damaged exactly exactly_now fails fails_exactly lacks untouched ends read write store source_later sink_later keeper_later place place_stays walks =
    let input : status ≡ 8 → IfSome old.left (λ bytes. s.max_input < length bytes) = λ eight.
    let run = serves (inr (inr (inr eight))) in
    spent_input run.first s.max_input s.max_input status old.left new.left old.given new.given old.asked new.asked old.offered new.offered run.start new.keeper_faults old.contents new.contents run.middle new.calls old.walked new.walked refl run.serves eight in
    record {
      lines = record {
        serves = λ _ served. serves served;
        rehearses = some_none s.rehearse (λ n. (status ≡ 0) ⊎ (status ≡ 5) → RehearsesBy s n stays status old new) none;
        rehearses_no_input = some_none s.rehearse (λ _. (status ≢ 4) × (status ≢ 8)) none;
        read = read;
        write = write;
        input = input;
      };
      usage = record {
        words = λ _. ((λ two. absurd (omega (arith, two, ends))), (λ no. cc));
        usage = λ two. absurd (omega (arith, two, ends));
        usage_offers = λ two. absurd (omega (arith, two, ends));
      };
      memory = record {
        memory_changes_nothing = λ three _. untouched (inl three);
        memory_calls = λ three _. lacks three;
        memory_stops = λ three. some_none s.rehearse (λ n. StopsShortBy s n stays old new) none;
      };
      store = record {
        store = store;
        store_calls = fails;
        store_exactly = fails_exactly;
        store_changes_nothing = λ six. untouched (inr (inl six));
      };
      damage = record {
        damaged = damaged;
        damaged_exactly = exactly;
        damaged_exactly_now = exactly_now;
        damage_changes_nothing = λ seven. untouched (inr (inr seven));
      };
      any = record {
        others = ended status ends;
        complete = λ none_failed. completed status old new ends read write store none_failed;
        complete_told = λ none_failed. completed_told status s.max_input old.left (completed status old new ends read write store none_failed) input;
        place = place;
        place_stays = place_stays;
        source_later = source_later;
        sink_later = sink_later;
        keeper_later = keeper_later;
        walks_nothing = λ h _. elim h [ inl two ↦ absurd (omega (arith, two, ends)) | inr unserved ↦ walks unserved ];
      };
    }

-- ---- a rehearsal

pub summarized : (status : ℕ) → (status ≡ 0) ⊎ (status ≡ 5) → IsServed status
summarized status (inl zero) = inl zero
summarized status (inr five) = inr (inr (inl five))

pub no_input_asked : (status : ℕ) → (status ≡ 0) ⊎ (status ≡ 5) → (status ≢ 4) × (status ≢ 8)
no_input_asked status ends = ((λ four. omega (arith, four, ends)), (λ eight. omega (arith, eight, ends)))

-- memory ran out, and that is all
pub memory_alone : (status : ℕ) → status ≡ 3 → (status ≢ 5) × (status ≢ 6) × (status ≢ 7) × ((status ≡ 6) ⊎ (status ≡ 7) → ⊥) × (IsServed status ⊎ (status ≡ 7) → ⊥)
memory_alone status is = ((λ e. omega (arith, is, e)), (λ e. omega (arith, is, e)), (λ e. omega (arith, is, e)), (λ e. omega (arith, is, e)), (λ e. omega (arith, is, e)))

pub promised_rehearsal : (s : Settings) (n : ℕ) (stays : Bool) (status : ℕ) (old new : Observed) → s.rehearse ≡ Some n
    → ((status ≡ 0) ⊎ (status ≡ 5) → RehearsesBy s n stays status old new)
    → (status ≡ 3 → StopsShortBy s n stays old new)
    → (status ≡ 7 → RefusesBy s stays old new)
    → (status ≢ 3 → status ≢ 6 → IsAtEntry s.store stays → IfSome old.contents (λ kept. (status ≡ 7) ↔ IsDamaged kept))
    → (status ≢ 3 → status ≢ 6 → IfSome new.contents (λ kept. (status ≡ 7) ↔ IsDamaged kept))
    → (status ≡ 6 → Adds (FailsBy s.store) old.calls new.calls)
    → Adds (λ calls. (status ≡ 6) ↔ (opening_fault s.store calls ≡ Some keep.Failed)) old.calls new.calls
    → ((status ≡ 6) ⊎ (status ≡ 7) → Untouched s stays old new)
    → IsServed status ⊎ IsUnserved status
    → (status ≢ 4) × (status ≢ 8)
    → (status ≡ 5 → Rose old.sink_faults new.sink_faults) → (status ≡ 6 → Rose old.keeper_faults new.keeper_faults)
    → old.source_faults ≤ new.source_faults → old.sink_faults ≤ new.sink_faults → old.keeper_faults ≤ new.keeper_faults
    → (IsServed status ⊎ (status ≡ 7) → new.place ≡ place_after s.store old.place) → (s.store ≡ None → new.place ≡ old.place)
    → ((status ≡ 6) ⊎ (status ≡ 7) → new.walked ≡ old.walked)
    → Promises (Some s) stays status old new
promised_rehearsal s n stays status old new some rehearses stops damaged exactly exactly_now fails fails_exactly untouched ends no_input write store source_later sink_later keeper_later place place_stays walks =
    let other : s.rehearse ≡ None → ⊥ = λ none. let no : Some n ≡ None = sym some ∙ none in cc in
    let read : status ≡ 4 → Rose old.source_faults new.source_faults = λ four. absurd (no_input.0 four) in
    let input : status ≡ 8 → IfSome old.left (λ bytes. s.max_input < length bytes) = λ eight. absurd (no_input.1 eight) in
    record {
      lines = record {
        serves = λ none. absurd (other none);
        rehearses = subst (λ o. IfSome o (λ m. (status ≡ 0) ⊎ (status ≡ 5) → RehearsesBy s m stays status old new)) (sym some) rehearses;
        rehearses_no_input = subst (λ o. IfSome o (λ _. (status ≢ 4) × (status ≢ 8))) (sym some) no_input;
        read = read;
        write = write;
        input = input;
      };
      usage = record {
        words = λ _. ((λ two. absurd (omega (arith, two, ends))), (λ no. cc));
        usage = λ two. absurd (omega (arith, two, ends));
        usage_offers = λ two. absurd (omega (arith, two, ends));
      };
      memory = record {
        memory_changes_nothing = λ three none. absurd (other none);
        memory_calls = λ three none. absurd (other none);
        memory_stops = λ three. subst (λ o. IfSome o (λ m. StopsShortBy s m stays old new)) (sym some) (stops three);
      };
      store = record {
        store = store;
        store_calls = fails;
        store_exactly = fails_exactly;
        store_changes_nothing = λ six. untouched (inl six);
      };
      damage = record {
        damaged = damaged;
        damaged_exactly = exactly;
        damaged_exactly_now = exactly_now;
        damage_changes_nothing = λ seven. untouched (inr seven);
      };
      any = record {
        others = ended status ends;
        complete = λ none_failed. completed status old new ends read write store none_failed;
        complete_told = λ none_failed. completed_told status s.max_input old.left (completed status old new ends read write store none_failed) input;
        place = place;
        place_stays = place_stays;
        source_later = source_later;
        sink_later = sink_later;
        keeper_later = keeper_later;
        walks_nothing = λ h found. elim h [
          | inl two ↦ absurd (omega (arith, two, ends))
          | inr (inl three) ↦ absurd (subst (λ o. IfSome o (λ _. status ≢ 3)) some found three)
          | inr (inr others) ↦ walks others
        ];
      };
    }

-- ---- words that are refused

pub promised_usage : (stays : Bool) (old new : Observed) → GivesUnlessFailed old.given new.given old.sink_faults new.sink_faults usage → Adds (OffersRest (length usage)) old.offered new.offered
    → old.source_faults ≤ new.source_faults → old.sink_faults ≤ new.sink_faults → old.keeper_faults ≤ new.keeper_faults → new.walked ≡ old.walked → Promises None stays 2 old new
promised_usage stays old new gave offers source_later sink_later keeper_later walks = record {
  lines = record {
    serves = tt;
    rehearses = tt;
    rehearses_no_input = tt;
    read = λ four. absurd (omega (arith, four));
    write = λ five. absurd (omega (arith, five));
    input = λ eight. tt;
  };
  usage = record { words = λ _. ((λ _. refl), (λ _. refl)); usage = λ _. gave; usage_offers = λ _. offers };
  memory = record { memory_changes_nothing = λ _. tt; memory_calls = λ _. tt; memory_stops = λ _. tt };
  store = record { store = λ six. absurd (omega (arith, six)); store_calls = λ _. tt; store_exactly = tt; store_changes_nothing = λ _. tt };
  damage = record { damaged = λ _. tt; damaged_exactly = λ _ _. tt; damaged_exactly_now = λ _ _. tt; damage_changes_nothing = λ _. tt };
  any = record {
    others = inr (inl refl);
    complete = tt;
    complete_told = tt;
    place = λ _. tt;
    place_stays = tt;
    source_later = source_later;
    sink_later = sink_later;
    keeper_later = keeper_later;
    walks_nothing = λ _ _. walks;
  };
}

-- ---- memory that ran out at the words

pub promised_nothing : (asked : Option Settings) (stays : Bool) (t : Observed) → Promises asked stays 3 t t
promised_nothing asked stays t = record {
  lines = record {
    serves = some_all asked (λ s. s.rehearse ≡ None → IsServed 3 → RunsBy s stays 3 t t) (λ s none served. absurd (omega (arith, served)));
    rehearses = some_all asked (λ s. IfSome s.rehearse (λ n. (3 ≡ 0) ⊎ (3 ≡ 5) → RehearsesBy s n stays 3 t t))
        (λ s. some_all s.rehearse (λ n. (3 ≡ 0) ⊎ (3 ≡ 5) → RehearsesBy s n stays 3 t t) (λ n h. absurd (omega (arith, h))));
    rehearses_no_input = some_all asked (λ s. IfSome s.rehearse (λ _. (3 ≢ 4) × (3 ≢ 8)))
        (λ s. some_all s.rehearse (λ _. (3 ≢ 4) × (3 ≢ 8)) (λ n. ((λ four. absurd (omega (arith, four))), (λ eight. absurd (omega (arith, eight))))));
    read = λ four. absurd (omega (arith, four));
    write = λ five. absurd (omega (arith, five));
    input = λ eight. absurd (omega (arith, eight));
  };
  usage = record { words = λ other. absurd (other refl); usage = λ two. absurd (omega (arith, two)); usage_offers = λ two. absurd (omega (arith, two)) };
  memory = record {
    memory_changes_nothing = λ _. some_all asked (λ s. s.rehearse ≡ None → Untouched s stays t t) (λ s none at_entry. stays_same t.contents);
    memory_calls = λ _. some_all asked (λ s. s.rehearse ≡ None → Adds (LacksMemoryBy s.store) t.calls t.calls) (λ s none. lacks_unasked s.store t.calls);
    memory_stops = λ _. some_all asked (λ s. IfSome s.rehearse (λ n. StopsShortBy s n stays t t))
        (λ s. some_all s.rehearse (λ n. StopsShortBy s n stays t t) (λ n. before (λ at_entry. stays_same t.contents) (lacks_unasked s.store t.calls) refl));
  };
  store = record {
    store = λ six. absurd (omega (arith, six));
    store_calls = λ six. absurd (omega (arith, six));
    store_exactly = some_all asked (λ s. Adds (λ calls. (3 ≡ 6) ↔ (opening_fault s.store calls ≡ Some keep.Failed)) t.calls t.calls) (λ s. unasked_tells s.store 3 t.calls (omega arith));
    store_changes_nothing = λ six. absurd (omega (arith, six));
  };
  damage = record {
    damaged = λ seven. absurd (omega (arith, seven));
    damaged_exactly = λ other. absurd (other refl);
    damaged_exactly_now = λ other. absurd (other refl);
    damage_changes_nothing = λ seven. absurd (omega (arith, seven));
  };
  any = record {
    others = inr (inr (inl refl));
    complete = some_all asked (λ _. NoneFailed t t → (3 ≡ 0) ⊎ ((3 ≡ 3) ⊎ ((3 ≡ 7) ⊎ (3 ≡ 8)))) (λ s none. inr (inl refl));
    complete_told = some_all asked (λ s. NoneFailed t t → IfSome t.left (λ bytes. length bytes ≤ s.max_input → (3 ≡ 0) ⊎ ((3 ≡ 3) ⊎ (3 ≡ 7))))
        (λ s none. some_all t.left (λ bytes. length bytes ≤ s.max_input → (3 ≡ 0) ⊎ ((3 ≡ 3) ⊎ (3 ≡ 7))) (λ bytes short. inr (inl refl)));
    place = λ h. absurd (omega (arith, h));
    place_stays = some_all asked (λ s. s.store ≡ None → t.place ≡ t.place) (λ s none. refl);
    source_later = omega arith;
    sink_later = omega arith;
    keeper_later = omega arith;
    walks_nothing = λ _ _. refl;
  };
}
