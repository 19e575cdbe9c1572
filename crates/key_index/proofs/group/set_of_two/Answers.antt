use Rattle.std.proofs.Common.{ap, sym, ◌∙◌}
use Rattle.plain_values.proofs.Common.{is_eq}
use Rattle.key_index.proofs.Groups.{if_ok}
use Rattle.key_index.proofs.Members.{one_again, swapped, turned_over}
use Rattle.key_index.proofs.group.set_of_two.Goals as goal

pub rising_set-requires-in-Greater : goal.rising_set-requires-in-Greater
rising_set-requires-in-Greater c = turned_over c.args.one.now c.args.other.now (sym c.cmp.ensures ∙ c.in-Greater.is)

pub returns-in-Less : goal.returns-in-Less
returns-in-Less c = if_ok c.rising_set.result (λ _ is. is ∙ swapped c.args.other.now c.args.one.now) c.rising_set.ensures

pub returns-in-Equal : goal.returns-in-Equal
returns-in-Equal c =
    if_ok c.set_of_one.result (λ _ is. is ∙ one_again c.args.one.now c.args.other.now (ap is_eq (sym c.cmp.ensures ∙ c.in-Equal.is))) c.set_of_one.ensures
