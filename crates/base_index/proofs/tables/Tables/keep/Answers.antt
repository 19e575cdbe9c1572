use Rattle.std.proofs.Common.{◌≡◌, length, take, ap, sym, ◌∙◌, subst, arith, false, None}
use Rattle.plain_values.proofs.Common.{length-map, take_all, false≢true}
use Rattle.base_index.specs.Held.{Held}
use Rattle.base_index.specs.HeldFields.{next_in, present_in}
use Rattle.base_index.specs.Several.{AreApart, AreHeld, AreQuiet, kept, names_of}
use Rattle.base_index.proofs.Fields.{all_quiet, front_count, next_unstaged, present_unstaged, unstaged_apart}
use Rattle.base_index.proofs.Holding.{kept_held, names_kept, next_kept, present_kept}
use Rattle.base_index.proofs.tables.Tables.keep.Goals as goal

pub keep_each-requires : goal.keep_each-requires
keep_each-requires c = subst AreQuiet (sym c.unstage_each.ensures) (all_quiet (take c.self.inside.shown c.self.inside.tables.items))

pub invariant_of-self : goal.invariant_of-self
invariant_of-self c =
    let n = c.self.inside.shown in
    let ss = c.self.inside.tables.items in
    let before = c.unstage_each.new.tables.items in
    let many = front_count n ss before c.self.invariant.shown c.unstage_each.ensures in
    let count : length c.keep_each.new.tables.items ≡ n = ap length c.keep_each.ensures ∙ length-map before kept ∙ many in
    record {
      shown = omega (arith, count);
      apart = subst AreApart (sym (ap names_of c.keep_each.ensures ∙ names_kept before)) (unstaged_apart n ss before c.unstage_each.ensures c.self.invariant.apart);
      held = subst (AreHeld false) (sym c.keep_each.ensures) (kept_held before);
      held_shown = λ off. absurd (false≢true off);
      held_indexes = λ off. absurd (false≢true off);
    }

abbrev keeping_all : Held → Held
keeping_all h = record { present = h.present; next = h.present; held = None }

pub returns : goal.returns
returns c =
    let n = c.self.inside.shown in
    let ss = c.self.inside.tables.items in
    let before = c.unstage_each.new.tables.items in
    let new = c.keep_each.new.tables.items in
    let many = front_count n ss before c.self.invariant.shown c.unstage_each.ensures in
    let count : length new ≡ n = ap length c.keep_each.ensures ∙ length-map before kept ∙ many in
    let whole : take n new ≡ new = take_all n new (omega (arith, count)) in
    (λ i. record {
      present = (ap present_in (whole ∙ c.keep_each.ensures) ∙ present_kept before ∙ ap present_in c.unstage_each.ensures ∙ present_unstaged (take n ss)) i;
      next = (ap next_in c.keep_each.ensures ∙ next_kept before ∙ ap next_in c.unstage_each.ensures ∙ next_unstaged (take n ss)) i;
      held = None;
    }) ∙ ap keeping_all c.self.view_is ∙ (λ i. record { present = c.args.self.now.present; next = sym c.requires.quiet i; held = None })
