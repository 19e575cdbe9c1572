-- A change through its tests: of its version, and of the sort of its view.
use Rattle.std.proofs.Common.{◌≡◌, ◌∙◌, ℕ, false, Option, Result, Ok, Err, ap, subst, sym, Vec}
use Rattle.plain_values.proofs.Common.{Global}
use Rattle.lens_laws.proofs.Common.{diff_applies, diff_leads, AllFit}
use Rattle.lens_specs.specs.Common.{AppliesTo, Delta, diff, new_view, Lens, Tables, get, sort_of, view, Rows, IsOf, Sort, violating_pair}
use Rattle.fd_laws.proofs.Common.{from_minus}
use Rattle.lens_chain.specs.Edits.{edited}
use Rattle.server_specs.specs.Common.{changed_at, is_stale, of_sort, tested, unless_clash, unless_off, unless_stale, State}
use Rattle.signed_delta.specs.declared.delta.TableDelta.{TableDelta}
use Rattle.view_changes.specs.Puts.{IsFresh, IsPut, IsTested}
use Rattle.view_changes.specs.declared.refusal.Refusal.{Refusal}
use Rattle.view_changes.specs.declared.refusal.Refusal.TheVariants as refusal

-- the difference to rows that fit applies to the view, and leads to them
pub diff_edits : (L : Lens) (db : Tables) (d : Delta) (N : Rows) → d ≡ diff (get L db) N → AllFit (sort_of L).columns N → AppliesTo d (view L db) × (edited L db d ≡ N)
unfolding diff
diff_edits L db d N is fit = (
  subst (λ e. AppliesTo e (view L db)) (sym is) (diff_applies (get L db) N, λ r i. fit r (from_minus N (get L db) r i).0),
  ap (new_view (get L db)) is ∙ diff_leads (get L db) N,
)

-- rows of the sort pass its tests
pub passes : (s : Sort) (N : Rows) → IsOf N s → of_sort s N ≡ Ok N
passes s N is = ap (λ o. unless_off o (unless_clash (violating_pair s.tree N) N)) is.off ∙ ap (λ o. unless_clash o N) is.clash

-- a change that is not stale comes to what the tests of the sort let through
pub fresh_put : (s : State) (L : Lens) (db : Tables) (on : Option ℕ) (M N : Rows) (r : Result (Vec TableDelta Global) Refusal) → is_stale s L on ≡ false → M ≡ N
    → IsPut L db r (of_sort (sort_of L) M) → IsPut L db r (tested s L on (Ok N))
fresh_put s L db on M N r fresh to h =
    let same : tested s L on (Ok N) ≡ of_sort (sort_of L) M =
    ap (λ b. unless_stale b (changed_at s L) s.version (of_sort (sort_of L) N)) fresh ∙ ap (of_sort (sort_of L)) (sym to) in
    subst (IsPut L db r) (sym same) h

-- one that is stale is refused for it
pub stale_put : (s : State) (L : Lens) (db : Tables) (on : Option ℕ) (N : Rows) (why : Refusal) → IsFresh s L on (Err why) → IsPut L db (Err why) (tested s L on (Ok N))
stale_put s L db on N (refusal.Rejected why) h =
    ap (λ b. unless_stale b (changed_at s L) s.version (of_sort (sort_of L) N)) h.0 ∙ ap Err (sym h.1)
stale_put s L db on N refusal.NoMemory h = tt

-- what the tests of the sort refuse is refused
pub tested_put : (L : Lens) (db : Tables) (N : Rows) (why : Refusal) → IsTested L N (Err why) → IsPut L db (Err why) (of_sort (sort_of L) N)
tested_put L db N (refusal.Rejected why) h = h
tested_put L db N refusal.NoMemory h = tt
