-- What the sources of a lens show.
use Rattle.std.proofs.Common.{◌≡◌, ◌∙◌, ap, subst, sym, true, Some}
use Rattle.std.specs.FinMap as finmap
use Rattle.plain_values.proofs.Common.{or_left, or_right, same_Some}
use Rattle.fd_laws.proofs.Common.{name_total}
use Rattle.plain_values.specs.SortedSet as set
use Rattle.lens_specs.specs.Common.{Lens, Tables, base, select, drop, rename, tables_of, view, Name, Relation, join}
use Rattle.lens_laws.proofs.Common.{get_same}
use Rattle.whole_put.specs.Sources.{AreShown, both_of, only_of}
use Rattle.whole_put.specs.declared.sources.Sources.{Sources}
use Rattle.whole_put.proofs.Lenses.{over}

-- sources show the same of other tables, where the lens's own tables are the same
pub shown_alike_after : (L : Lens) (db eb : Tables) (S : Sources) → ((t : Name) → set.contains (tables_of L) t ≡ true → finmap.get eb t ≡ finmap.get db t) → AreShown L db S → AreShown L eb S
unfolding tables_of
shown_alike_after (base t s) db eb S same h = tt
shown_alike_after (select P C) db eb S same h = (h.0, h.1 ∙ ap (λ M. Some (over C M, h.0)) (sym (get_same C db eb same)), shown_alike_after C db eb h.0 same h.2)
shown_alike_after (drop A X a C) db eb S same h = (h.0, h.1 ∙ ap (λ M. Some (over C M, h.0)) (sym (get_same C db eb same)), shown_alike_after C db eb h.0 same h.2)
shown_alike_after (rename A B C) db eb S same h = (h.0, h.1 ∙ ap (λ M. Some (over C M, h.0)) (sym (get_same C db eb same)), shown_alike_after C db eb h.0 same h.2)
shown_alike_after (join kind A B) db eb S same h =
    let left : (t : Name) → set.contains (tables_of A) t ≡ true → finmap.get eb t ≡ finmap.get db t = λ t i. same t (set.contains-union name_total (tables_of A) (tables_of B) t ∙ or_left _ _ i) in
    let right : (t : Name) → set.contains (tables_of B) t ≡ true → finmap.get eb t ≡ finmap.get db t = λ t i. same t (set.contains-union name_total (tables_of A) (tables_of B) t ∙ or_right _ _ i) in (
      h.0,
      h.1,
      h.2 ∙ (λ i. Some ((over A (sym (get_same A db eb left) i), h.0), (over B (sym (get_same B db eb right) i), h.1))),
      shown_alike_after A db eb h.0 left h.3,
      shown_alike_after B db eb h.1 right h.4,
    )

-- ---- the sources of a node

-- what one source shows, and what its own sources show
module _ (C : Lens) (db : Tables) (S rest : Sources) (M : Relation) (has : (under : Sources) × (only_of S ≡ Some (view C db, under)) × AreShown C db under) (is : only_of S ≡ Some (M, rest)) where
  abbrev One : Type 0
  One = Relation × Sources

  same_one : ◌≡◌ {A = One} (M, rest) (view C db, has.0)
  same_one = same_Some (M, rest) (view C db, has.0) (sym is ∙ has.1)

  pub only_shown : M ≡ view C db
  only_shown = ap (λ (p : One). p.0) same_one

  pub only_under : AreShown C db rest
  only_under = subst (AreShown C db) (sym (ap (λ (p : One). p.1) same_one)) has.2

-- what each of two sources shows, and what its own sources show
module _ (A B : Lens) (db : Tables) (S left_rest right_rest : Sources) (M N : Relation)
    (has : (left : Sources) × (right : Sources) × (both_of S ≡ Some ((view A db, left), (view B db, right))) × AreShown A db left × AreShown B db right)
    (is : both_of S ≡ Some ((M, left_rest), (N, right_rest))) where
  abbrev Two : Type 0
  Two = (Relation × Sources) × (Relation × Sources)

  same_two : ◌≡◌ {A = Two} ((M, left_rest), (N, right_rest)) ((view A db, has.0), (view B db, has.1))
  same_two = same_Some ((M, left_rest), (N, right_rest)) ((view A db, has.0), (view B db, has.1)) (sym is ∙ has.2)

  pub left_shown : M ≡ view A db
  left_shown = ap (λ (p : Two). p.0.0) same_two

  pub right_shown : N ≡ view B db
  right_shown = ap (λ (p : Two). p.1.0) same_two

  pub left_under : AreShown A db left_rest
  left_under = subst (AreShown A db) (sym (ap (λ (p : Two). p.0.1) same_two)) has.3

  pub right_under : AreShown B db right_rest
  right_under = subst (AreShown B db) (sym (ap (λ (p : Two). p.1.1) same_two)) has.4
