use Rattle.std.proofs.Common.{ap, sym, ◌∙◌, length, ⊎_elim, ◌==◌}
use Rattle.plain_values.specs.SortedSet as set
use Rattle.key_index.specs.Group.{rows_in, singleton}
use Rattle.key_index.proofs.Members.{none_empty, not_empty}
use Rattle.key_index.proofs.group.Group.is_empty.Goals as goal

pub returns-in-Empty : goal.returns-in-Empty
returns-in-Empty c = none_empty ∙ ap (λ s. length (set.items s) == 0) (ap rows_in (sym c.in-Empty.is) ∙ c.self.view_is)

pub returns-in-One : goal.returns-in-One
returns-in-One c =
    ⊎_elim (λ one. not_empty set.empty one.0 ∙ ap (λ s. length (set.items s) == 0) (ap rows_in (sym one.1) ∙ c.self.view_is))
    (λ two. not_empty (singleton two.0) two.1 ∙ ap (λ s. length (set.items s) == 0) (ap rows_in (sym two.2) ∙ c.self.view_is)) c.in-One.is

pub returns-in-One-2 : goal.returns-in-One-2
returns-in-One-2 c =
    ⊎_elim (λ one. not_empty set.empty one.0 ∙ ap (λ s. length (set.items s) == 0) (ap rows_in (sym one.1) ∙ c.self.view_is))
    (λ two. not_empty (singleton two.0) two.1 ∙ ap (λ s. length (set.items s) == 0) (ap rows_in (sym two.2) ∙ c.self.view_is)) c.in-One.is
