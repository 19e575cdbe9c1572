use Rattle.std.proofs.Common.{◌∙◌, ap, Some, option_map}
use Rattle.std.specs.FinMap as finmap
use Rattle.whole_put.proofs.Tables.{seen_at}
use Rattle.whole_put.proofs.db.Db.table.Goals as goal

pub returns-in-Some : goal.returns-in-Some
returns-in-Some c = ap Some c.as_ref.ensures ∙ ap (option_map (λ shared. shared.value)) c.in-Some.ensures.value ∙ seen_at (λ shared. shared.value) c.self.inside.tables.entries c.args.name.now
    ∙ ap (λ db. finmap.get db c.args.name.now) c.self.view_is

pub returns-in-None : goal.returns-in-None
returns-in-None c =
    ap (option_map (λ shared. shared.value)) c.in-None.ensures.value ∙ seen_at (λ shared. shared.value) c.self.inside.tables.entries c.args.name.now
    ∙ ap (λ db. finmap.get db c.args.name.now) c.self.view_is
