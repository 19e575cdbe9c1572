use Rattle.std.proofs.Common.{◌≡◌, length, map, take, ap, sym, ◌∙◌, subst, arith, true, false, Some}
use Rattle.plain_values.proofs.Common.{length-map, take_all}
use Rattle.base_index.specs.Held.{Held}
use Rattle.base_index.specs.HeldFields.{held_in, next_in, present_in}
use Rattle.base_index.specs.Several.{AreApart, AreHeld, AreIndexed, AreQuiet, holding, names_of}
use Rattle.base_index.proofs.Fields.{all_quiet, front_count, next_unstaged, present_unstaged, unstaged_apart}
use Rattle.base_index.proofs.Holding.{free_part, front_held, held_holding, holding_held, holding_same, names_holding, next_holding, present_holding, unstaged_held, unstaged_same_indexes}
use Rattle.base_index.proofs.tables.Tables.hold.Goals as goal

pub hold_each-requires-clause-quiet : goal.hold_each-requires-clause-quiet
hold_each-requires-clause-quiet c = subst AreQuiet (sym c.unstage_each.ensures) (all_quiet (take c.self.inside.shown c.self.inside.tables.items))

pub hold_each-requires-clause-free : goal.hold_each-requires-clause-free
hold_each-requires-clause-free c =
    let n = c.self.inside.shown in
    let free = free_part c.self.inside.held (take n c.self.inside.tables.items) (ap (λ h. h.held) c.self.view_is ∙ c.requires.free) in
    subst (AreHeld false) (sym c.unstage_each.ensures) (unstaged_held false _ (front_held false n c.self.inside.tables.items (subst (λ b. AreHeld b c.self.inside.tables.items) free c.self.invariant.held)))

pub invariant_of-self : goal.invariant_of-self
invariant_of-self c =
    let n = c.self.inside.shown in
    let ss = c.self.inside.tables.items in
    let before = c.unstage_each.new.tables.items in
    let many = front_count n ss before c.self.invariant.shown c.unstage_each.ensures in
    let count : length c.hold_each.new.tables.items ≡ n = ap length c.hold_each.ensures ∙ length-map before holding ∙ many in
    record {
      shown = omega (arith, count);
      apart = subst AreApart (sym (ap names_of c.hold_each.ensures ∙ names_holding before)) (unstaged_apart n ss before c.unstage_each.ensures c.self.invariant.apart);
      held = subst (AreHeld true) (sym c.hold_each.ensures) (holding_held before);
      held_shown = λ _. sym count;
      held_indexes = λ _. subst AreIndexed (sym (c.hold_each.ensures ∙ ap (map holding) c.unstage_each.ensures)) (holding_same _ (unstaged_same_indexes (take n ss)));
    }

abbrev holding_all : Held → Held
holding_all h = record { present = h.present; next = h.present; held = Some h.present }

pub returns : goal.returns
returns c =
    let n = c.self.inside.shown in
    let ss = c.self.inside.tables.items in
    let before = c.unstage_each.new.tables.items in
    let new = c.hold_each.new.tables.items in
    let many = front_count n ss before c.self.invariant.shown c.unstage_each.ensures in
    let count : length new ≡ n = ap length c.hold_each.ensures ∙ length-map before holding ∙ many in
    let whole : take n new ≡ new = take_all n new (omega (arith, count)) in
    let seen : present_in before ≡ present_in (take n ss) = ap present_in c.unstage_each.ensures ∙ present_unstaged (take n ss) in
    (λ i. record {
      present = (ap present_in (whole ∙ c.hold_each.ensures) ∙ present_holding before ∙ seen) i;
      next = (ap next_in c.hold_each.ensures ∙ next_holding before ∙ ap next_in c.unstage_each.ensures ∙ next_unstaged (take n ss)) i;
      held = Some ((ap held_in (whole ∙ c.hold_each.ensures) ∙ held_holding before ∙ seen) i);
    }) ∙ ap holding_all c.self.view_is ∙ (λ i. record { present = c.args.self.now.present; next = sym c.requires.quiet i; held = Some c.args.self.now.present })
