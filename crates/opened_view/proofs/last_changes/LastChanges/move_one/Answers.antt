use Rattle.std.proofs.Common.{◌∙◌, ap, is_some, rules, sym}
use Rattle.plain_values.proofs.Common.{false≢true, bytes_cmp}
use Rattle.std.specs.FinMap as finmap
use Rattle.std.specs.Option.{option_copied_mut}
use Rattle.lens_laws.proofs.Common.{looked_up, updated}
use Rattle.opened_view.proofs.last_changes.LastChanges.move_one.Goals.{in-Some, in_default}
use Rattle.opened_view.proofs.last_changes.LastChanges.move_one.Goals as goal

pub returns : goal.returns
returns c =
    let entries = c.self.inside.versions.entries in
    let table = c.args.table.now in
    elim c.match-get_mut.branch [
      | in-Some w ↦
          ap (λ self. finmap.from_entries {R = bytes_cmp} self.versions.entries) w.self-inside-is
          ∙ updated entries (c.get_mut.follows.lender c.args.version).entries table c.args.version ((c.get_mut.follows.holds c.args.version).3 (search rules)).0
          ∙ ap (λ last. finmap.insert last table c.args.version) c.self.view_is
      -- the table has a last change
      | in_default w ↦ absurd (false≢true (
          sym (ap (λ o. is_some (option_copied_mut o)) w.in_default.is) ∙ ap is_some (c.get_mut.ensures.value ∙ looked_up entries table ∙ ap (λ last. finmap.get last table) c.self.view_is) ∙ c.requires))
    ]
