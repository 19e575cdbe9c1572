use Rattle.std.proofs.Common.{◌≡◌, ◌+◌, ◌≤◌, ℕ, Bool, true, false, arith, refl, if◌then◌else◌}
use Rattle.lens_specs.specs.Common.{sort_of, one}
use Rattle.lens_laws.proofs.Common.{size}
use Rattle.lens_probe.specs.Viewed.{is_left_side}
use Rattle.view_answers.proofs.questions.found_answer.Goals as goal

found_within : (b : Bool) (n old new : ℕ) → new ≤ old + n → (b ≡ false → new ≡ old) → new ≤ old + (if b then n else 0)
found_within true n old new h k = h
found_within false n old new h k = let e = k refl in omega (arith, e)

pub returns-in_err-found-clause-looked : goal.returns-in_err-found-clause-looked
returns-in_err-found-clause-looked g c = λ w finds.
    let L = c.args.opened.now.view.lens in
    found_within (is_left_side (one c.args.column.now) (sort_of L).tree) (size L w) c.args.looked.now c.find_rows.new.looked (c.find_rows.ensures.looks w finds) c.find_rows.ensures.by_walk

pub returns-clause-looked : goal.returns-clause-looked
returns-clause-looked g c = λ w finds.
    let L = c.args.opened.now.view.lens in
    found_within (is_left_side (one c.args.column.now) (sort_of L).tree) (size L w) c.args.looked.now c.find_rows.new.looked (c.find_rows.ensures.looks w finds) c.find_rows.ensures.by_walk
