use Rattle.std.proofs.Common.{◌∙◌, ◌<◌, length, ap, subst, sym, arith}
use Rattle.indexmap.specs.IndexMap.{spare}
use Rattle.catalog_specs.specs.Catalogue.{catalogue, is_table_of}
use Rattle.catalog_specs.specs.Judging.{table_count}
use Rattle.view_catalog.specs.Admissions.{IsAdmissible, tables_with}
use Rattle.view_catalog.proofs.Growth.{at_most, catalog_more, from_ok, inserted, new_name}
use Rattle.view_catalog.proofs.catalog.Catalog.admit.Goals as goal

pub overflow_sub-self : goal.overflow_sub-self
overflow_sub-self c =
    let old = c.self.inside in
    let p = c.args.prepared in
    let seen = ap (λ v. v.room) c.self.view_is in
    let room : 0 < spare old.lenses = omega arith in
    let ok = c.insert.ensures.succeeds room in
    let a = subst (λ v. IsAdmissible v.texts p) (sym c.self.view_is) c.requires.admissible in
    let more = inserted c.insert.result (length old.lenses.entries) (length c.insert.new.self.entries) _ ok c.insert.ensures.old c.insert.ensures.len
    (c.self.invariant.lenses p.name ∙ new_name old.texts.items p a) in
    let tables = c.tables_with-tables.ensures ∙ ap (λ v. tables_with p (table_count (catalogue v.texts))) (sym c.self.view_is) in
    let most = at_most (is_table_of p.name p.lens) (table_count (catalogue old.texts.items)) old.views (length old.lenses.entries) c.self.invariant.counted in
    omega (arith, tables, most, more, c.len.ensures.len)

pub invariant_of-self : goal.invariant_of-self
invariant_of-self c =
    let old = c.self.inside in
    let p = c.args.prepared in
    let seen = ap (λ v. v.room) c.self.view_is in
    let room : 0 < spare old.lenses = omega arith in
    let ok = c.insert.ensures.succeeds room in
    let a = subst (λ v. IsAdmissible v.texts p) (sym c.self.view_is) c.requires.admissible in
    let more = inserted c.insert.result (length old.lenses.entries) (length c.insert.new.self.entries) _ ok c.insert.ensures.old c.insert.ensures.len
    (c.self.invariant.lenses p.name ∙ new_name old.texts.items p a) in
    let tables = c.tables_with-tables.ensures ∙ ap (λ v. tables_with p (table_count (catalogue v.texts))) (sym c.self.view_is) in
    let kept = from_ok c.insert.result ok c.insert.ensures.updates in
    let texts = c.push_reserved.ensures.items in
    let whole = catalog_more old.texts.items p old.lenses.entries c.insert.new.self.entries old.views c.self.invariant a (λ q. kept.0 (record { name = q })) more in
    rw (texts, tables, c.len.ensures.len) whole
