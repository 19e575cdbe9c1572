use Rattle.std.proofs.Common.{refl}
use Rattle.view_catalog.proofs.Growth.{admissible}
use Rattle.view_catalog.proofs.catalog.Catalog.prepare.Goals as goal

pub returns-clause-prepared : goal.returns-clause-prepared
returns-clause-prepared c =
    let made = c.in_ok-made.ensures.judged in (
      refl,
      admissible c.args.self.now.texts (record { text = c.args.text; name = c.in_ok-made.made.name; lens = c.in_ok-made.made.lens })
          made.0 made.1 made.2,
    )
