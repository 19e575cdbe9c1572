use Rattle.server_laws.proofs.Views.{taken_where_sorted, unknown_told, rules_told, full_told, typed_taken}
use Rattle.server_laws.proofs.views_are_judged.Goals as goal

pub returns : goal.returns
returns c = record { whole = taken_where_sorted; unknown = unknown_told; rules = rules_told; full = full_told; taken = typed_taken }
