-- The members of the lines of refusals.
use Rattle.std.specs.Prelude.{List, [], ◌∷◌, ◌++◌, codes, decimal, false}
use Rattle.json.specs.Token.{Token, boolean, key, number, string}
use Rattle.serde_json.specs.Data as json
use Rattle.serde_json.specs.Data.{Members, no_members, member, unsigned}
use Rattle.server_specs.specs.Answer.{edge_data, in_batch, limit_word, list_word, not_ok, numbered, pair_data, row_data, set_data, side_word}
use Rattle.view_limits.specs.Views.{limit_view, side_view}
use Rattle.reply_printing.specs.Answers.{list_view}
use Rattle.reply_printing.specs.Printing.{data_tokens, place_tokens}
use Rattle.reply_printing.specs.declared.refusals.Part.{Part}
use Rattle.reply_printing.specs.declared.refusals.Part.TheVariants as part

-- the member, in front of the others
abbrev pub with_part : Part → Members → Members
with_part (part.Error n) more = numbered n more
with_part part.NotOk more = not_ok more
with_part (part.Edit edit) more = in_batch edit more
with_part (part.Number name n) more = member name.now (json.number (unsigned n)) more
with_part (part.Name name value) more = member name.now (json.string value.now) more
with_part (part.Names name value) more = member name.now (set_data value.now) more
with_part (part.Member name value) more = member name.now (json.string value.now) more
with_part (part.List list) more = member (codes "list") (json.string (list_word (list_view list))) more
with_part (part.Side side) more = member (codes "side") (json.string (side_word (side_view side))) more
with_part (part.What what) more = member (codes "what") (json.string (limit_word (limit_view what))) more
with_part (part.Edge edge) more = member (codes "edge") (edge_data edge.now) more
with_part (part.Row row) more = member (codes "row") (row_data row.now) more
with_part (part.Rows first second) more = member (codes "rows") (pair_data first.now second.now) more

-- the members in their order
abbrev pub parts_data : List Part → Members
parts_data [] = no_members
parts_data (p ∷ parts) = with_part p (parts_data parts)

-- ---- for private clauses: the tokens of a member, and of all

abbrev pub part_tokens : Part → List Token
part_tokens (part.Error n) = key (codes "error") ∷ number (decimal n) ∷ []
part_tokens part.NotOk = key (codes "ok") ∷ boolean false ∷ []
part_tokens (part.Edit edit) = place_tokens edit
part_tokens (part.Number name n) = key name.now ∷ number (decimal n) ∷ []
part_tokens (part.Name name value) = key name.now ∷ string value.now ∷ []
part_tokens (part.Names name value) = key name.now ∷ data_tokens (set_data value.now)
part_tokens (part.Member name value) = key name.now ∷ string value.now ∷ []
part_tokens (part.List list) = key (codes "list") ∷ string (list_word (list_view list)) ∷ []
part_tokens (part.Side side) = key (codes "side") ∷ string (side_word (side_view side)) ∷ []
part_tokens (part.What what) = key (codes "what") ∷ string (limit_word (limit_view what)) ∷ []
part_tokens (part.Edge edge) = key (codes "edge") ∷ data_tokens (edge_data edge.now)
part_tokens (part.Row row) = key (codes "row") ∷ data_tokens (row_data row.now)
part_tokens (part.Rows first second) = key (codes "rows") ∷ data_tokens (pair_data first.now second.now)

abbrev pub parts_tokens : List Part → List Token
parts_tokens [] = []
parts_tokens (p ∷ parts) = part_tokens p ++ parts_tokens parts
