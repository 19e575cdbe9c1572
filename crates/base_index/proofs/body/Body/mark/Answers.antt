use Rattle.std.proofs.Common.{◌≡◌, length, ap, sym, ◌∙◌, subst, rules}
use Rattle.plain_values.specs.SortedSet as set
use Rattle.key_index.proofs.Common.{set_of}
use Rattle.base_index.specs.Parts.{IsWhole, parts_of, rows_next, rows_seen}
use Rattle.base_index.proofs.Bodies.{calm_next}
use Rattle.base_index.proofs.Settled.{marked, marked_calm, marked_seen, marked_whole}
use Rattle.base_index.proofs.body.Body.mark.Goals as goal

pub returns-clause-whole : goal.returns-clause-whole
returns-clause-whole c =
    let p = parts_of c.args.self.now in
    let many : c.len-self.result ≡ length p.add = search rules in
    let gone : c.len-self-2.result ≡ length p.remove = search rules in
    let hidden : c.show_each.new.hidden ≡ set.difference p.hidden (set_of p.revive) = search rules in
    subst IsWhole (sym (λ i. record (marked p c.requires.whole c.requires.held) { hidden = hidden i; added = many i; removed = gone i; revive = c.clear.ensures.items i })) (marked_whole p c.requires.whole c.requires.held)

pub returns-clause-seen : goal.returns-clause-seen
returns-clause-seen c =
    let p = parts_of c.args.self.now in
    let many : c.len-self.result ≡ length p.add = search rules in
    let gone : c.len-self-2.result ≡ length p.remove = search rules in
    let hidden : c.show_each.new.hidden ≡ set.difference p.hidden (set_of p.revive) = search rules in
    ap rows_seen (λ i. record (marked p c.requires.whole c.requires.held) { hidden = hidden i; added = many i; removed = gone i; revive = c.clear.ensures.items i }) ∙ marked_seen p c.requires.whole c.requires.held

pub returns-clause-next : goal.returns-clause-next
returns-clause-next c =
    let p = parts_of c.args.self.now in
    let many : c.len-self.result ≡ length p.add = search rules in
    let gone : c.len-self-2.result ≡ length p.remove = search rules in
    let hidden : c.show_each.new.hidden ≡ set.difference p.hidden (set_of p.revive) = search rules in
    ap rows_next (λ i. record (marked p c.requires.whole c.requires.held) { hidden = hidden i; added = many i; removed = gone i; revive = c.clear.ensures.items i })
    ∙ calm_next (marked p c.requires.whole c.requires.held) (marked_calm p c.requires.whole c.requires.held) ∙ marked_seen p c.requires.whole c.requires.held
