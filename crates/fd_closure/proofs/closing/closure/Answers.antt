use Rattle.std.proofs.Common.{◌≡◌, ℕ, ◌+◌, ◌<◌, ◌∙◌, sym, ap, subst, length, get_or, take, arith, ◌||◌, IfOk, filter}
use Rattle.plain_values.proofs.Common.{count_by, is_eq, take_all, bytes_cmp}
use Rattle.std.specs.Vec.{with_items}
use Rattle.std.proofs.lemmas.List.{with_items_is}
use Rattle.plain_values.specs.SortedSet as set
use Rattle.fd_laws.proofs.Common.{closure_is}
use Rattle.lens_specs.specs.Dependencies as spec
use Rattle.lens_specs.specs.Common.{Name, is_among}
use Rattle.fd_closure.specs.Entries.{PlacesBelow}
use Rattle.fd_closure.specs.Lacks.{uses}
use Rattle.fd_closure.proofs.Closed.{among_front, counts_after, counts_before, finished, front_same, lacks_some, place_in, right_within, unseen_more}
use Rattle.fd_closure.proofs.Counting.{lacking, lacks_all, unseen}
use Rattle.fd_closure.proofs.Indexes.{places_below, places-filter}
use Rattle.fd_closure.proofs.closing.closure.Goals as goal

pub counted-requires : goal.counted-requires
counted-requires c = subst (PlacesBelow (length c.args.deps.now)) (sym c.deref.ensures.value) (places_below c.args.deps.now c.in_ok-index.index.items c.in_ok-index.ensures.members)

pub loop-place-init : goal.loop-place-init
loop-place-init c =
    let F = c.args.deps.now in
    let X = c.args.cols.now in
    let index = c.in_ok-index.index.items in
    let start : (k : Name) → is_among k c.add_all.new.self.order.items ≡ set.contains X k = λ k.
    c.in_ok-add_all.ensures.members k ∙ ap (λ l. is_among k l || is_among k c.as_slice.result.now) c.new-found.ensures.none
    ∙ ap (is_among k) c.as_slice.ensures ∙ sym (set.contains-items X k) in
    let counts : (d : ℕ) → d < length F → get_or c.in_ok-lacks.lacks.items d 0 ≡ uses index d = λ d b. c.in_ok-lacks.ensures.counts d b ∙ ap (λ l. uses l d) c.deref.ensures.value in
    record {
      kept = c.in_ok-add_all.ensures.kept;
      place = omega arith;
      given = λ k i. start k ∙ i;
      within = λ k i. (closure_is X F).given k (sym (start k) ∙ i);
      len = c.in_ok-lacks.ensures.len;
      counts = λ d b. counts d b ∙ lacks_all index d;
      ready = λ d e b z. absurd (lacks_some F index c.in_ok-index.ensures.members d e b (c.in_ok-index.ensures.full d e b) (sym (lacks_all index d) ∙ sym (counts d b) ∙ z));
    }

pub count_down-requires-clause-places : goal.count_down-requires-clause-places
count_down-requires-clause-places c =
    let index = c.in_ok-index.index.items in
    let here = c.entries_of.ensures ∙ ap (filter (λ e. is_eq (bytes_cmp e.0 c.name-name.result))) c.deref-in-loop-place.ensures.value in
    subst (PlacesBelow (length c.args.deps.now)) (sym here)
    (places-filter (λ e. is_eq (bytes_cmp e.0 c.name-name.result)) (length c.args.deps.now) index (places_below c.args.deps.now index c.in_ok-index.ensures.members))

pub count_down-requires-clause-counts : goal.count_down-requires-clause-counts
count_down-requires-clause-counts c = λ d b.
    let index = c.in_ok-index.index.items in
    let ns = c.loop-place.found.order.items in
    let k = c.loop-place.place in
    let fits : k < length ns = omega arith in
    let here = c.entries_of.ensures ∙ ap (filter (λ e. is_eq (bytes_cmp e.0 c.name-name.result))) c.deref-in-loop-place.ensures.value in
    counts_before ns k c.name-name.result c.loop-place.invariant.kept.1 fits c.name-name.ensures index c.entries_of.result.now d _ here
    (ap (λ l. get_or l d 0) c.deref_mut.ensures.value ∙ c.loop-place.invariant.counts d b)

pub loop-place-smaller : goal.loop-place-smaller
loop-place-smaller c =
    let C = spec.closure c.args.cols.now c.args.deps.now in
    let ns = c.loop-place.found.order.items in
    let k = c.loop-place.place in
    let fits : k < length ns = omega arith in
    let once = c.loop-place.invariant.kept.1 in
    subst (λ l. unseen C l < unseen C (take k ns))
    (sym (front_same ns k c.name-name.result once fits c.name-name.ensures c.count_down.new.found.order.items c.in_ok-count_down.ensures.front))
    (unseen_more ns k c.name-name.result once fits c.name-name.ensures C c.loop-place.invariant.within)

pub loop-place-preserved : goal.loop-place-preserved
loop-place-preserved c =
    let F = c.args.deps.now in
    let X = c.args.cols.now in
    let C = spec.closure X F in
    let index = c.in_ok-index.index.items in
    let members = c.in_ok-index.ensures.members in
    let name = c.name-name.result in
    let ns = c.loop-place.found.order.items in
    let ms = c.count_down.new.found.order.items in
    let k = c.loop-place.place in
    let left = c.count_down.new.lacks in
    let fits : k < length ns = omega arith in
    let once = c.loop-place.invariant.kept.1 in
    let here = c.entries_of.ensures ∙ ap (filter (λ e. is_eq (bytes_cmp e.0 name))) c.deref-in-loop-place.ensures.value in
    let same = front_same ns k name once fits c.name-name.ensures ms c.in_ok-count_down.ensures.front in
    let kept : (with_items c.loop-place.lacks left).items ≡ left = with_items_is c.loop-place.lacks left (c.count_down.auto.lacks ∙ c.deref_mut.ensures.len) in
    let counts : (d : ℕ) → d < length F → get_or left d 0 ≡ count_by (lacking (take (k + 1) ns) d) index = λ d b.
    counts_after ns k name once fits c.name-name.ensures index c.entries_of.result.now d _ _ here
    (ap (λ l. get_or l d 0) c.deref_mut.ensures.value ∙ c.loop-place.invariant.counts d b) (c.in_ok-count_down.ensures.counts d b) in
    record {
      kept = c.in_ok-count_down.ensures.kept;
      place = place_in ns ms k fits c.in_ok-count_down.ensures.front;
      given = λ n i. among_front ms (length ns) n (ap (is_among n) c.in_ok-count_down.ensures.front ∙ c.loop-place.invariant.given n i);
      within = c.in_ok-count_down.ensures.within C c.loop-place.invariant.within
          (λ d e b z. right_within F index members X (take (k + 1) ns) d e b (λ n i. c.loop-place.invariant.within n (among_front ns (k + 1) n i)) (sym (counts d b) ∙ z));
      len = ap length kept ∙ c.count_down.auto.lacks ∙ ap length c.deref_mut.ensures.value ∙ c.loop-place.invariant.len;
      counts = λ d b. ap (λ l. get_or l d 0) kept ∙ counts d b ∙ ap (λ l. count_by (lacking l d) index) (sym same);
      ready = λ d e b z. c.in_ok-count_down.ensures.among
          (λ d e b z. c.loop-place.invariant.ready d e b (sym (ap (λ l. get_or l d 0) c.deref_mut.ensures.value) ∙ z)) d e b (sym (ap (λ l. get_or l d 0) kept) ∙ z);
    }

pub returns : goal.returns
returns c =
    let F = c.args.deps.now in
    let X = c.args.cols.now in
    let ns = c.loop-place.found.order.items in
    let all : take c.loop-place.place ns ≡ ns = take_all c.loop-place.place ns (omega arith) in
    subst (λ s. IfOk c.into_names.result (λ found. found ≡ s))
    (finished F c.in_ok-index.index.items c.in_ok-index.ensures.members X ns c.loop-place.invariant.given c.loop-place.invariant.within
    (λ d e b z. c.loop-place.invariant.ready d e b (c.loop-place.invariant.counts d b ∙ ap (λ l. count_by (lacking l d) c.in_ok-index.index.items) all ∙ z)))
    c.into_names.ensures
