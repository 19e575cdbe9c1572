use Rattle.std.proofs.Common.{◌≡◌, ◌++◌, ◌∷◌, [], ap, sym, ◌∙◌, subst, rules, true}
use Rattle.plain_values.specs.SortedSet as set
use Rattle.lens_specs.specs.Common.{has}
use Rattle.key_index.proofs.Common.{HasKeys, same_itself}
use Rattle.base_index.specs.Parts.{IsWhole, parts_of, rows_next, rows_seen}
use Rattle.base_index.proofs.Bodies.{kept_itself}
use Rattle.base_index.proofs.Staging.{going_next, going_seen, going_whole, marked_more}
use Rattle.base_index.proofs.body.Body.hide.Goals as goal

pub returns-clause-whole : goal.returns-clause-whole
returns-clause-whole c =
    let p = parts_of c.args.self.now in
    let k = c.in_ok-keyed.keyed in
    let keys : HasKeys p.indexes k = search rules in
    let seen : has (rows_seen p) k.row ≡ true = ap (has (rows_seen p)) c.in_ok-keyed.ensures.row ∙ c.requires.seen in
    let list = c.push_reserved.ensures.items ∙ ap (λ l. l ++ k ∷ []) c.in_ok-reserve.ensures.items in
    let marks = c.hide_in.new.marks in
    let stay = c.in_ok-hide_in.ensures.stay in
    let are = c.in_ok-hide_in.ensures.marks in
    let hidden = c.in_ok-hide_in.ensures.ok in
    subst IsWhole (sym (λ i. record p { hidden = hidden i; marks = marks; remove = list i })) (going_whole p c.requires.whole k keys seen marks stay are)

pub returns-clause-next : goal.returns-clause-next
returns-clause-next c =
    let p = parts_of c.args.self.now in
    let k = c.in_ok-keyed.keyed in
    let keys : HasKeys p.indexes k = search rules in
    let seen : has (rows_seen p) k.row ≡ true = ap (has (rows_seen p)) c.in_ok-keyed.ensures.row ∙ c.requires.seen in
    let list = c.push_reserved.ensures.items ∙ ap (λ l. l ++ k ∷ []) c.in_ok-reserve.ensures.items in
    let marks = c.hide_in.new.marks in
    let stay = c.in_ok-hide_in.ensures.stay in
    let are = c.in_ok-hide_in.ensures.marks in
    let hidden = c.in_ok-hide_in.ensures.ok in
    (λ i. rows_next (record p { hidden = hidden i; marks = marks; remove = list i })) ∙ going_next p c.requires.whole k keys seen marks stay are ∙ ap (set.remove (rows_next p)) c.in_ok-keyed.ensures.row

pub returns-clause-kept : goal.returns-clause-kept
returns-clause-kept c =
    let p = parts_of c.args.self.now in
    let k = c.in_ok-keyed.keyed in
    let keys : HasKeys p.indexes k = search rules in
    let seen : has (rows_seen p) k.row ≡ true = ap (has (rows_seen p)) c.in_ok-keyed.ensures.row ∙ c.requires.seen in
    let list = c.push_reserved.ensures.items ∙ ap (λ l. l ++ k ∷ []) c.in_ok-reserve.ensures.items in
    let marks = c.hide_in.new.marks in
    let stay = c.in_ok-hide_in.ensures.stay in
    let are = c.in_ok-hide_in.ensures.marks in
    let hidden = c.in_ok-hide_in.ensures.ok in
    record {
      seen = (λ i. rows_seen (record p { hidden = hidden i; marks = marks; remove = list i })) ∙ going_seen p c.requires.whole k keys seen marks stay are;
      held = (kept_itself p).held;
      is_held = (kept_itself p).is_held;
      columns = (kept_itself p).columns;
      cols = same_itself p.indexes;
    }

pub returns-in_err-reserve-clause-kept : goal.returns-in_err-reserve-clause-kept
returns-in_err-reserve-clause-kept c =
    let p = parts_of c.args.self.now in
    record {
      seen = λ i. rows_seen (record p { remove = c.in_err-reserve.ensures.items i });
      held = (kept_itself p).held;
      is_held = (kept_itself p).is_held;
      columns = (kept_itself p).columns;
      cols = same_itself p.indexes;
    }

pub returns-in_err-hide_in-clause-kept : goal.returns-in_err-hide_in-clause-kept
returns-in_err-hide_in-clause-kept c =
    let p = parts_of c.args.self.now in
    record {
      seen = λ i. rows_seen (record p { hidden = c.in_err-hide_in.ensures.err i; remove = c.in_ok-reserve.ensures.items i });
      held = (kept_itself p).held;
      is_held = (kept_itself p).is_held;
      columns = (kept_itself p).columns;
      cols = same_itself p.indexes;
    }

pub returns-in_err-hide_in-clause-whole : goal.returns-in_err-hide_in-clause-whole
returns-in_err-hide_in-clause-whole c =
    let p = parts_of c.args.self.now in
    let marks = c.hide_in.new.marks in
    subst IsWhole (sym (λ i. record p { hidden = c.in_err-hide_in.ensures.err i; marks = marks; remove = c.in_ok-reserve.ensures.items i }))
    (marked_more p c.requires.whole marks c.in_err-hide_in.ensures.stay)
