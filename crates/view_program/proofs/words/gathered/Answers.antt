use Rattle.std.proofs.Common.{◌∙◌, refl, sym}
use Rattle.std.proofs.lemmas.List.{map-id}
use Rattle.std.proofs.lemmas.Iterator.Adapters.{YieldsList-from_vec}
use Rattle.std.proofs.lemmas.Iterator.Consumers.{YieldsList-end}
use Rattle.std.specs.Vec.Iter.{into_iter_items}
use Rattle.view_program.proofs.words.gathered.Goals as goal

pub returns-clause-all : goal.returns-clause-all
returns-clause-all c =
    let r = c.into_iter-word-iterator.result in
    let same = c.into_iter-word-iterator.ensures.into_iter_gives in
    let t = YieldsList-end (YieldsList-from_vec {s = r} (into_iter_items r) refl r.rest.ok.0) c.loop-word.yielded c.loop-word.word-iterator c.loop-word.yielded_by c.next.result c.next.new.self c.in-None.is c.next.ensures.steps in
    let all = c.loop-word.invariant ∙ sym (map-id c.loop-word.yielded) ∙ t.0 in
    cc
