use Rattle.std.proofs.Common.{refl, subst, sym}
use Rattle.plain_values.specs.SortedSet as set
use Rattle.lens_specs.specs.Common.{sort_of, view_names}
use Rattle.view_reading.specs.KnownRows.{AreOver}
use Rattle.view_reading.proofs.KnownParts.{all_over}
use Rattle.lens_probe.proofs.view.View.difference.Goals as goal

pub difference_in-requires-clause-known : goal.difference_in-requires-clause-known
difference_in-requires-clause-known g c =
    subst (λ v. AreOver (view_names v.lens) (set.items c.args.rows.now)) (sym c.self.view_is)
    (all_over (sort_of c.args.self.now.lens).columns c.args.rows.now (set.items c.args.rows.now) c.requires refl)
