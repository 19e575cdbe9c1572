-- The names after one more definition.
use Rattle.std.proofs.Common.{◌≡◌, ℕ, List, [], ◌∷◌, ◌++◌, refl}
use Rattle.std.specs.FinMap as finmap
use Rattle.grammar_laws.specs.Reading.{reading}
use Rattle.catalog_specs.specs.Catalogue.{Catalogue, catalogue, catalogue_onto, with_definition}

onto-push : (known : Catalogue) (texts : List (List ℕ)) (text : List ℕ) → catalogue_onto known (texts ++ text ∷ []) ≡ with_definition (reading text) (catalogue_onto known texts)
onto-push known [] text = refl
onto-push known (first ∷ texts) text = onto-push (with_definition (reading first) known) texts text

pub catalogue-push : (texts : List (List ℕ)) (text : List ℕ) → catalogue (texts ++ text ∷ []) ≡ with_definition (reading text) (catalogue texts)
catalogue-push texts text = onto-push finmap.empty texts text
