use Rattle.std.proofs.Common.{ap, subst, sym}
use Rattle.lens_laws.proofs.Work.{fan_bounds}
use Rattle.lens_laws.proofs.Common.{fan}
use Rattle.lens_probe.specs.Viewed.{FindsAtMost, Viewed}
use Rattle.database.proofs.Keyed.{open_lens}
use Rattle.database.specs.Keyed.{IsOpen}
use Rattle.database.proofs.database.Database.open_view.Goals as goal

pub of-requires-clause-keys : goal.of-requires-clause-keys
of-requires-clause-keys c = (open_lens c.args.self.now c.requires c.args.name.now c.in_ok-lens.lens.now (sym c.in_ok-lens.ensures)).keys

pub of-requires-clause-tables : goal.of-requires-clause-tables
of-requires-clause-tables c = (open_lens c.args.self.now c.requires c.args.name.now c.in_ok-lens.lens.now (sym c.in_ok-lens.ensures)).here.are

pub returns-clause-opened : goal.returns-clause-opened
returns-clause-opened c =
    let database = c.args.self.now in let db = database.tables.present.relations in let L = c.in_ok-lens.lens.now in
    let v = c.of.ensures.view in
    let here : IsOpen database L = open_lens database c.requires c.args.name.now L (sym c.in_ok-lens.ensures) in record {
      here = subst (λ (w : Viewed). IsOpen database w.lens) (sym v) here;
      tables = ap (λ (w : Viewed). w.tables) v;
      version = c.of.ensures.version;
      last = c.of.ensures.last;
      finds = subst (λ (w : Viewed). FindsAtMost w (fan w.lens db)) (sym v) (fan_bounds L db);
    }
