use Rattle.std.proofs.Common.{◌≡◌, drop}
use Rattle.std.specs.FinMap as map
use Rattle.plain_values.proofs.Common.{list_all, same_value}
use Rattle.lens_values.proofs.row.Row.agree_on.Given as goal

-- whether they agree in all columns is whether they agree in those that are left
abbrev pub invariant-loop-name : goal.invariant-loop-name
invariant-loop-name l =
    list_all (λ c. same_value (map.get l.self c) (map.get l.other c)) (drop l.name-index l.names)
    ≡ list_all (λ c. same_value (map.get l.self c) (map.get l.other c)) l.names
