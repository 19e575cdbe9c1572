use Rattle.std.proofs.Common.{◌∙◌, ◌+◌, ap, refl, map}
use Rattle.server_specs.specs.Common.{changed}
use Rattle.signed_delta.specs.Tables.{table_delta}
use Rattle.database.proofs.plans.plan_tables.Goals as goal

pub returns : goal.returns
returns c =
    let version = c.args.database.now.version + 1 in record {
      answer = ap (λ ds. changed ds version) c.new.ensures;
      kept = c.in_ok-kept.kept;
      are = ap (λ ds. map table_delta ds) (c.in_ok-kept.ensures ∙ c.as_slice.ensures.value);
      staged = _;
      is = refl;
      change = refl;
      last = refl;
      past = refl;
    }
