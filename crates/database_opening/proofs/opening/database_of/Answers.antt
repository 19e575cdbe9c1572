use Rattle.std.proofs.Common.{◌≡◌, ◌∙◌, Ok, ap, sym, option_map}
use Rattle.plain_values.proofs.Common.{err_from_is_err_and}
use Rattle.server_specs.specs.Common.{catalogue}
use Rattle.opening_specs.specs.Opening as opening
use Rattle.table_keeper.specs.Changes.{kept_view}
use Rattle.table_keeper.specs.Places.{rows_in}
use Rattle.database_opening.specs.Openings.{damage_of_tables, damage_view}
use Rattle.database_opening.proofs.Stored.{admission_told, opened_damaged, opened_whole}
use Rattle.database_opening.proofs.opening.database_of.Goals as goal

pub returns-in_err-admitted-clause-database : goal.returns-in_err-admitted-clause-database
returns-in_err-admitted-clause-database g c =
    let p = err_from_is_err_and c.from_residual.result c.from_residual.ensures.1 in
    rw (p.1, p.2) (admission_told c.in_err-admitted.field-0.0 (kept_view c.args.kept) c.in_err-admitted.ensures.admitted)

pub returns-in-Some-clause-database : goal.returns-in-Some-clause-database
returns-in-Some-clause-database g c =
    let kept = kept_view c.args.kept in
    let texts = c.in_ok-admitted.ensures.admitted.0 in
    let found : damage_of_tables (catalogue kept.texts) kept.rows ≡ option_map damage_view c.in_ok-damage.field-0 =
    sym (c.in_ok-damage.ensures ∙ (λ i. damage_of_tables (catalogue (texts i)) (rows_in (c.as_slice.ensures.value i)))) in
    opened_damaged kept (damage_view c.in-Some.damage) c.in_ok-admitted.ensures.admitted.1 (found ∙ ap (option_map damage_view) c.in-Some.is)

pub returns-in_ok-undamaged-in-None-clause-database : goal.returns-in_ok-undamaged-in-None-clause-database
returns-in_ok-undamaged-in-None-clause-database g c =
    let kept = kept_view c.args.kept in
    let texts = c.in_ok-admitted.ensures.admitted.0 in
    let found : damage_of_tables (catalogue kept.texts) kept.rows ≡ option_map damage_view c.in_ok-damage.field-0 =
    sym (c.in_ok-damage.ensures ∙ (λ i. damage_of_tables (catalogue (texts i)) (rows_in (c.as_slice.ensures.value i)))) in
    opened_whole kept c.in_ok-admitted.ensures.admitted.1 (found ∙ ap (option_map damage_view) c.in-None.is)
    ∙ ap Ok (sym (c.in_ok-undamaged-in-None.ensures.state ∙ ap (λ ts. opening.state_of (record { texts = ts; rows = kept.rows })) texts))
