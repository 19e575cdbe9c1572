use Rattle.std.proofs.Common.{ap, arith}
use Rattle.plain_values.proofs.Common.{false≢true}
use Rattle.lens_specs.specs.Common.{has}
use Rattle.key_index.proofs.Common.{none_behind, none_back_of, contained, same_rows, none_keyed}
use Rattle.key_index.proofs.Whole.{no_indexes}
use Rattle.base_index.proofs.body.Body.new.Goals as goal

pub returns-clause-body : goal.returns-clause-body
returns-clause-body c = record {
  index = no_indexes c.new.result c.new-4.result.items c.new-4.ensures.items;
  fits = λ x there. let e = ap (λ s. has s x) c.new.ensures in absurd (false≢true (grind (arith, contained, e, there)));
  add = none_keyed c.new-4.result.items c.new-5.result.items c.new-5.ensures.items;
  remove = none_keyed c.new-4.result.items c.new-6.result.items c.new-6.ensures.items;
  added = omega arith;
  removed = omega arith;
  hidden_there = λ x there. let e = ap (λ s. has s x) c.new-2.ensures in grind (arith, contained, e, there);
  hidden_old = λ x there. let e = ap (λ s. has s x) c.new-2.ensures in grind (arith, contained, e, there);
  hidden_listed = λ x there. let e = ap (λ s. has s x) c.new-2.ensures in grind (arith, contained, e, there);
  hidden_marked = λ x there. let e = ap (λ s. has s x) c.new-2.ensures in absurd (false≢true (grind (arith, contained, e, there)));
  going_there = λ x there. grind (arith, there, none_behind c.new-6.result.items 0 x (omega arith));
  going_old = λ x there. grind (arith, there, none_behind c.new-6.result.items 0 x (omega arith));
  going_hidden = λ _ x there. grind (arith, there, none_behind c.new-6.result.items 0 x (omega arith));
  back_hidden = λ x there. grind (arith, there, none_back_of c.new-7.result.items x c.new-7.ensures.items);
  back_stays = λ x there. grind (arith, there, none_back_of c.new-7.result.items x c.new-7.ensures.items);
  free = λ _. record { hidden = c.new-2.ensures; added = omega arith; removed = omega arith };
}

pub returns-clause-seen : goal.returns-clause-seen
returns-clause-seen c = same_rows _ _ (λ x. let e = ap (λ s. has s x) c.new.ensures in grind (arith, contained, e))

pub returns-clause-next : goal.returns-clause-next
returns-clause-next c = same_rows _ _ (λ x. let e = ap (λ s. has s x) c.new.ensures in grind (arith, contained, e))
