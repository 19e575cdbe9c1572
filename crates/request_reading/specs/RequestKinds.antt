-- The kinds of requests and the names of their members, as the definitions have them.
use Rattle.std.specs.Prelude.{ℕ, Bool, List, map}
use Rattle.std.specs.List.{list_any}
use Rattle.server_specs.specs.Request as spec
use Rattle.request_reading.specs.declared.request_kind.RequestKind.{RequestKind}
use Rattle.request_reading.specs.declared.request_kind.RequestKind.TheVariants as variant

-- the kind of a request
abbrev pub kind_view : RequestKind → spec.Asked
kind_view variant.Define = spec.to_define
kind_view variant.Read = spec.to_read
kind_view variant.Find = spec.to_find
kind_view variant.Put = spec.to_put
kind_view variant.Edit = spec.to_edit
kind_view variant.Preview = spec.to_preview
kind_view variant.Describe = spec.to_describe
kind_view variant.List = spec.to_list
kind_view variant.Batch = spec.to_batch
kind_view variant.Undo = spec.to_undo
kind_view variant.Export = spec.to_export
kind_view variant.Import = spec.to_import

-- the names of the members
abbrev pub names_of : List spec.Wanted → List (List ℕ)
names_of ws = map (λ w. w.name) ws

-- whether the name is one of these
abbrev pub is_among : List (List ℕ) → List ℕ → Bool
is_among names name = list_any (spec.is_key name) names
