use Rattle.std.proofs.Common.{◌<◌, length, subst, sym, ◌^◌}
use Rattle.lens_server.proofs.definitions.plan_definition.Goals as goal

pub plan_prepared-requires-clause-short : goal.plan_prepared-requires-clause-short
plan_prepared-requires-clause-short c = subst (λ t. length t < 2 ^ 64) (sym c.in-Ok.ensures.prepared.0) c.prepare.ensures.short
