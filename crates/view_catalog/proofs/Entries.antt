-- The kept lens of a name, with one name more.
use Rattle.std.proofs.Common.{◌≡◌, ◌∙◌, List, Some, cond, ap, sym, nat_eq}
use Rattle.plain_values.proofs.Common.{pointwise, texts_ties, nat_list_eq_equiv, eq_by_cmp, bytes_cmp}
use Rattle.std.specs.FinMap as finmap
use Rattle.fd_laws.proofs.Common.{name_total, name_itself}
use Rattle.lens_specs.specs.Common.{Name, Lens}
use Rattle.catalog_specs.specs.Catalogue.{Catalogue}
use Rattle.view_catalog.specs.Contents.{kept_lens}
use Rattle.view_catalog.specs.declared.key.Key.{Key}

-- a name that is new has the new lens
pub get_new : (known : Catalogue) (name : Name) (lens : Lens) → finmap.get (finmap.insert known name lens) name ≡ Some lens
get_new known name lens = finmap.get-insert name_total known name lens name ∙ ap (λ b. cond b (Some lens) (finmap.get known name)) (name_itself name)

-- the test of two names, in either order, as the order of names has it
same_test : (name q : Name) → pointwise nat_eq name q ≡ eq_by_cmp bytes_cmp q name
same_test name q = nat_list_eq_equiv.symm name q ∙ texts_ties q name

-- each name has the kept lens that the grown catalogue gives it
pub kept_grown : (known : Catalogue) (name : Name) (lens : Lens) (old new : List (Key × Lens))
    → ((q : Name) → kept_lens new q ≡ cond (pointwise nat_eq name q) (Some lens) (kept_lens old q))
    → ((q : Name) → kept_lens old q ≡ finmap.get known q)
    → (q : Name) → kept_lens new q ≡ finmap.get (finmap.insert known name lens) q
kept_grown known name lens old new grown same q =
    grown q ∙ ap (cond (pointwise nat_eq name q) (Some lens)) (same q)
    ∙ ap (λ b. cond b (Some lens) (finmap.get known q)) (same_test name q)
    ∙ sym (finmap.get-insert name_total known name lens q)
