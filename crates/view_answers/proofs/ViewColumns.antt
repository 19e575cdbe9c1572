-- The columns of a view: there is one, and none may be null where none is the least that may.
use Rattle.std.proofs.Common.{◌≡◌, ◌∙◌, ◌&&◌, true, [], ◌∷◌, length, None, ap, ◌≢◌, find, not}
use Rattle.plain_values.proofs.Common.{list_all, bytes_cmp, is_nullable, none_found, map_none}
use Rattle.std.specs.FinMap as finmap
use Rattle.plain_values.specs.SortedSet as set
use Rattle.fd_laws.proofs.Common.{name_total}
use Rattle.lens_laws.proofs.Common.{keyed}
use Rattle.lens_specs.specs.Common.{Columns, names, sort_of}
use Rattle.lens_probe.specs.Viewed.{IsViewed, Viewed}
use Rattle.server_specs.specs.Common.{first_nullable}

no_names : (U : Columns) → finmap.keys U ≡ [] → length (set.items (names U)) ≡ 0
unfolding names
no_names U e = ap (λ ks. length (set.items (set.from_list {R = bytes_cmp} ks))) e ∙ ap length (set.items-from_list name_total [] (set.nothing_rises name_total))

-- a view that may be asked has a column
pub has_columns : (v : Viewed) → IsViewed v → finmap.keys (sort_of v.lens).columns ≢ []
has_columns v viewed e = (keyed v.lens viewed.0 viewed.1.keys).0 (no_names (sort_of v.lens).columns e)

-- no column may be null where none is the least that may
pub all_plain : (U : Columns) → first_nullable U ≡ None → list_all (λ c. not (is_nullable c.1)) (finmap.entries U) ≡ true
all_plain U e = none_found (λ c. is_nullable c.1) (finmap.entries U) (map_none (λ c. c.0) (find (λ c. is_nullable c.1) (finmap.entries U)) e)
