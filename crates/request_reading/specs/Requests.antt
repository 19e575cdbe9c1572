-- What the requests of the code stand for.
use Rattle.std.specs.Prelude.{ℕ, List, Option, Some, None, option_map, option_and_then, codes, Result, Ok, Err}
use Rattle.std.specs.Option.{ok_or}
use Rattle.serde_json.specs.Data.{Data, Items, Members}
use Rattle.serde_json.specs.Find.{as_array, as_str, get_member}
use Rattle.lens_specs.specs.Relation.{Name}
use Rattle.server_specs.specs.Answer.{Answer, not_json, bad_request}
use Rattle.server_specs.specs.Request as spec
use Rattle.request_reading.specs.declared.request.Request.{Request}
use Rattle.request_reading.specs.declared.request.Request.TheVariants.{Define, Read, Find, Put, Edit, Preview, Describe, List as ToList, Batch, Undo, Export, Import}
use Rattle.request_reading.specs.declared.request.RequestFault.{RequestFault}
use Rattle.request_reading.specs.declared.request.RequestFault.TheVariants as fault
use Rattle.request_reading.specs.Told.{RefusesBy, GivesTold}

-- the request that the definitions speak of
abbrev pub request_view : Request → spec.Request
request_view (Define text) = spec.define text
request_view (Read view) = spec.read view
request_view (Find view column value) = spec.find_at view column value
request_view (Put view rows on) = spec.put view rows on
request_view (Edit view remove add on) = spec.edit view remove add on
request_view (Preview view remove add on) = spec.preview view remove add on
request_view (Describe view) = spec.describe view
request_view ToList = spec.list
request_view (Batch edits on) = spec.batch edits on
request_view Undo = spec.undo
request_view (Export view) = spec.export view
request_view (Import view csv on) = spec.import view csv on

-- the answer that refuses the line
abbrev pub refusal : RequestFault → Option Answer
refusal fault.NotJson = Some not_json
refusal (fault.BadRequest member) = Some (bad_request member)
refusal fault.NoMemory = None

-- the expected refusal is the one that the fault tells
abbrev pub Tells : RequestFault → Result spec.Request Answer → Type 0
Tells f expected = RefusesBy refusal f expected

-- the request is the expected one, or the fault tells the expected refusal
abbrev pub Reads : Result Request RequestFault → Result spec.Request Answer → Type 0
Reads read expected = GivesTold request_view refusal read expected

-- what follows a member that is right; a wrong member stays the first that is wrong
abbrev pub and_then : {A B : Type 0} → (A → Result B (List ℕ)) → Result A (List ℕ) → Result B (List ℕ)
and_then next (Ok a) = next a
and_then next (Err name) = Err name

-- the name that is there
abbrev pub name_at : List ℕ → Members → Option Name
name_at k ms = option_and_then spec.name_in (get_member k ms)

-- the rows that are there
abbrev pub rows_at : List ℕ → Members → Option Items
rows_at k ms = option_and_then as_array (get_member k ms)

-- the name that is there, or the member that is wrong
abbrev pub name_in : List ℕ → Members → Result Name (List ℕ)
name_in k ms = ok_or (name_at k ms) k

-- the rows that are there, or the member that is wrong
abbrev pub rows_in : List ℕ → Members → Result Items (List ℕ)
rows_in k ms = ok_or (rows_at k ms) k

-- the text of the definition that is there
abbrev pub text_in : Members → Result (List ℕ) (List ℕ)
text_in ms = ok_or (option_and_then spec.text_in (get_member (codes "text") ms)) (codes "text")

-- the CSV that is there
abbrev pub csv_in : Members → Result (List ℕ) (List ℕ)
csv_in ms = ok_or (option_and_then as_str (get_member (codes "csv") ms)) (codes "csv")

-- the edits that are there
abbrev pub edits_in : Members → Result (List spec.BatchEdit) (List ℕ)
edits_in ms = ok_or (option_and_then spec.edits_in (get_member (codes "edits") ms)) (codes "edits")

-- any value that is there
abbrev pub value_in : Members → Result Data (List ℕ)
value_in ms = ok_or (get_member (codes "value") ms) (codes "value")

-- the version, if there is one
abbrev pub on_from : Option Data → Result (Option ℕ) (List ℕ)
on_from None = Ok None
on_from (Some d) = ok_or (option_map Some (spec.version_in d)) (codes "on")

abbrev pub on_in : Members → Result (Option ℕ) (List ℕ)
on_in ms = on_from (get_member (codes "on") ms)

-- the request that names a view and nothing more
abbrev pub view_asked : (Name → spec.Request) → Members → Result spec.Request (List ℕ)
view_asked asked ms = and_then (λ view. Ok (asked view)) (name_in (codes "view") ms)

-- the find, or the first of its members that is wrong
abbrev pub find_in : Members → Result spec.Request (List ℕ)
find_in ms =
    and_then (λ column. and_then (λ value. and_then (λ view. Ok (spec.find_at view column value))
    (name_in (codes "view") ms)) (value_in ms)) (name_in (codes "column") ms)

-- the put, or the first of its members that is wrong
abbrev pub put_in : Members → Result spec.Request (List ℕ)
put_in ms =
    and_then (λ on. and_then (λ rows. and_then (λ view. Ok (spec.put view rows on))
    (name_in (codes "view") ms)) (rows_in (codes "rows") ms)) (on_in ms)

-- an edit and the version that it rests on, or the first of their members that is wrong
abbrev pub edit_sent : Members → Result (spec.BatchEdit × Option ℕ) (List ℕ)
edit_sent ms =
    and_then (λ add. and_then (λ on. and_then (λ remove. and_then (λ view. Ok (record { view = view; remove = remove; add = add }, on))
    (name_in (codes "view") ms)) (rows_in (codes "remove") ms)) (on_in ms)) (rows_in (codes "add") ms)

-- the edit, or its preview
abbrev pub edit_in : (Name → Items → Items → Option ℕ → spec.Request) → Members → Result spec.Request (List ℕ)
edit_in asked ms = and_then (λ sent. Ok (asked sent.0.view sent.0.remove sent.0.add sent.1)) (edit_sent ms)

-- the batch, or the first of its members that is wrong
abbrev pub batch_in : Members → Result spec.Request (List ℕ)
batch_in ms = and_then (λ edits. and_then (λ on. Ok (spec.batch edits on)) (on_in ms)) (edits_in ms)

-- the import, or the first of its members that is wrong
abbrev pub import_in : Members → Result spec.Request (List ℕ)
import_in ms =
    and_then (λ csv. and_then (λ on. and_then (λ view. Ok (spec.import view csv on))
    (name_in (codes "view") ms)) (on_in ms)) (csv_in ms)

-- the request, or the first of its members that is wrong, of those beside `do`
abbrev pub said_in : spec.Asked → Members → Result spec.Request (List ℕ)
said_in spec.to_define ms = and_then (λ text. Ok (spec.define text)) (text_in ms)
said_in spec.to_read ms = view_asked spec.read ms
said_in spec.to_find ms = find_in ms
said_in spec.to_put ms = put_in ms
said_in spec.to_edit ms = edit_in spec.edit ms
said_in spec.to_preview ms = edit_in spec.preview ms
said_in spec.to_describe ms = view_asked spec.describe ms
said_in spec.to_list ms = Ok spec.list
said_in spec.to_batch ms = batch_in ms
said_in spec.to_undo ms = Ok spec.undo
said_in spec.to_export ms = view_asked spec.export ms
said_in spec.to_import ms = import_in ms
