-- What a contract sees of a catalogue, and what is known of its parts.
use Rattle.std.specs.Prelude.{◌≡◌, ℕ, ◌+◌, List, length, nat_eq, Option, None, refl}
use Rattle.std.specs.Cmp.Lexicographic.{pointwise}
use Rattle.std.specs.Coded.{Coded, code_by, coded×, coded_list, coded_ℕ}
use Rattle.std.specs.FinMap as finmap
use Rattle.std.specs.Map.{lookup}
use Rattle.lens_specs.specs.Common.{Lens, Name}
use Rattle.catalog_specs.specs.Catalogue.{catalogue}
use Rattle.catalog_specs.specs.Judging.{first_refused, table_count, view_count}
use Rattle.view_catalog.specs.declared.key.Key.{Key}

-- the texts of the definitions in order, and how many more definitions fit without more memory
pub record Contents : Type 0 where
  pub texts : List (List ℕ)
  pub room : ℕ

-- these texts, and room for so many more
abbrev pub contents_with : List (List ℕ) → ℕ → Contents
contents_with texts room = record { texts = texts; room = room }

-- stored as its parts
abbrev pub contents_code : Coded Contents
contents_code =
    code_by (List (List ℕ) × ℕ) (coded× (coded_list (coded_list coded_ℕ)) coded_ℕ)
    (λ c. (c.texts, c.room)) (λ p. record { texts = p.0; room = p.1 }) (λ _. refl)

-- the lens that is kept under the name
abbrev pub kept_lens : List (Key × Lens) → Name → Option Lens
kept_lens entries name = lookup (λ key. pointwise nat_eq name key.name) entries

-- Each name has the lens that the texts give it, none of the texts is refused, and the tables and the views are counted.
pub record IsCatalog (texts : List (List ℕ)) (entries : List (Key × Lens)) (views : ℕ) : Type 0 where
  pub lenses : (name : Name) → kept_lens entries name ≡ finmap.get (catalogue texts) name
  pub taken : first_refused texts ≡ None
  pub views_are : views ≡ view_count (catalogue texts)
  pub counted : table_count (catalogue texts) + views ≡ length entries
