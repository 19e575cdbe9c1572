use Rattle.std.proofs.Common.{◌≡◌, length, map, take, ap, sym, ◌∙◌, subst, refl, arith, true, false, Option, Some, None, IsSome, is_some}
use Rattle.plain_values.proofs.Common.{length-map, take_all, false≢true}
use Rattle.base_index.specs.HeldFields.{held_in, next_in, present_in}
use Rattle.base_index.specs.Several.{AreApart, AreHeld, names_of, taken_back}
use Rattle.base_index.proofs.Fields.{front_count, unstaged_apart}
use Rattle.base_index.proofs.Holding.{back_held, front_held, held_is, names_back, next_back, present_back, held_unstaged, some_part, unstaged_held}
use Rattle.base_index.proofs.tables.Tables.back.Goals as goal

some_of : {T : Type 0} (o : Option T) → IsSome o → is_some o ≡ true
some_of None some = some
some_of (Some x) some = refl

pub back_each-requires : goal.back_each-requires
back_each-requires c =
    let n = c.self.inside.shown in
    let on = some_part c.self.inside.held (take n c.self.inside.tables.items) (subst (λ h. is_some h.held ≡ true) (sym c.self.view_is) (some_of c.args.self.now.held c.requires)) in
    subst (AreHeld true) (sym c.unstage_each.ensures) (unstaged_held true _ (front_held true n c.self.inside.tables.items (subst (λ b. AreHeld b c.self.inside.tables.items) on c.self.invariant.held)))

pub invariant_of-self : goal.invariant_of-self
invariant_of-self c =
    let n = c.self.inside.shown in
    let ss = c.self.inside.tables.items in
    let before = c.unstage_each.new.tables.items in
    let many = front_count n ss before c.self.invariant.shown c.unstage_each.ensures in
    let count : length c.back_each.new.tables.items ≡ n = ap length c.back_each.ensures ∙ length-map before taken_back ∙ many in
    record {
      shown = omega (arith, count);
      apart = subst AreApart (sym (ap names_of c.back_each.ensures ∙ names_back before)) (unstaged_apart n ss before c.unstage_each.ensures c.self.invariant.apart);
      held = subst (AreHeld false) (sym c.back_each.ensures) (back_held before);
      held_shown = λ off. absurd (false≢true off);
      held_indexes = λ off. absurd (false≢true off);
    }

pub returns : goal.returns
returns c = λ st is.
    let n = c.self.inside.shown in
    let ss = c.self.inside.tables.items in
    let before = c.unstage_each.new.tables.items in
    let new = c.back_each.new.tables.items in
    let many = front_count n ss before c.self.invariant.shown c.unstage_each.ensures in
    let count : length new ≡ n = ap length c.back_each.ensures ∙ length-map before taken_back ∙ many in
    let whole : take n new ≡ new = take_all n new (omega (arith, count)) in
    let was = (held_is c.self.inside.held (take n ss) st (ap (λ h. h.held) c.self.view_is ∙ is)).1 in
    λ i. record {
      present = (ap present_in (whole ∙ c.back_each.ensures) ∙ present_back before ∙ ap held_in c.unstage_each.ensures ∙ held_unstaged (take n ss) ∙ was) i;
      next = (ap next_in (c.back_each.ensures ∙ ap (map taken_back) c.unstage_each.ensures) ∙ next_back (take n ss) ∙ was) i;
      held = None;
    }
