-- The tokens of a refusal's members, one after another.
use Rattle.std.proofs.Common.{◌≡◌, ◌∙◌, ◌<◌, ◌+◌, ℕ, List, [], ◌∷◌, ◌++◌, take, length, get_or, ap, sym, refl, append_assoc, append-nil, Option, Some, None}
use Rattle.plain_values.proofs.Common.{take_more}
use Rattle.json.specs.Token.{end_object}
use Rattle.json.specs.Tree.{members_tokens}
use Rattle.json.specs.Print.{print_from}
use Rattle.serde_json.specs.Data.{Members}
use Rattle.serde_json.specs.Written.{members_outline}
use Rattle.json_text.specs.Written.{Adds, Written}
use Rattle.server_specs.specs.Common.{answer_data}
use Rattle.server_specs.specs.Answer.{refused_edit_data}
use Rattle.server_specs.specs.EditRefusal as refusals
use Rattle.reply_printing.specs.Answers.{refused_in}
use Rattle.reply_printing.specs.Refusals.{part_tokens, parts_data, parts_tokens, with_part}
use Rattle.reply_printing.specs.declared.refusals.Part.{Part}
use Rattle.reply_printing.specs.declared.refusals.Part.TheVariants as part

-- no token adds nothing
pub adds_none : {a : Written} → Adds a a []
unfolding print_from
adds_none {a} = record { bytes = sym (append-nil a.bytes); after_value = refl }

parts_push : (parts : List Part) (p : Part) → parts_tokens (parts ++ p ∷ []) ≡ parts_tokens parts ++ part_tokens p
parts_push [] p = append-nil (part_tokens p)
parts_push (q ∷ parts) p = ap (λ ts. part_tokens q ++ ts) (parts_push parts p) ∙ sym (append_assoc (part_tokens q) (parts_tokens parts) (part_tokens p))

pub parts_more : (parts : List Part) (i : ℕ) (p : Part) → i < length parts → p ≡ get_or parts i p → parts_tokens (take (i + 1) parts) ≡ parts_tokens (take i parts) ++ part_tokens p
parts_more parts i p h e = ap parts_tokens (take_more parts i p h ∙ ap (λ q. take i parts ++ q ∷ []) (sym e)) ∙ parts_push (take i parts) p

part_first : (p : Part) (more : Members) → members_tokens (members_outline (with_part p more)) ≡ part_tokens p ++ members_tokens (members_outline more)
part_first (part.Error n) more = refl
part_first part.NotOk more = refl
part_first (part.Edit None) more = refl
part_first (part.Edit (Some edit)) more = refl
part_first (part.Number name n) more = refl
part_first (part.Name name value) more = refl
part_first (part.Names name value) more = refl
part_first (part.Member name value) more = refl
part_first (part.List list) more = refl
part_first (part.Side side) more = refl
part_first (part.What what) more = refl
part_first (part.Edge edge) more = refl
part_first (part.Row row) more = refl
part_first (part.Rows first second) more = refl

-- with the bracket that ends the object
pub parts_whole : (parts : List Part) → parts_tokens parts ++ end_object ∷ [] ≡ members_tokens (members_outline (parts_data parts))
parts_whole [] = refl
parts_whole (p ∷ parts) =
    append_assoc (part_tokens p) (parts_tokens parts) (end_object ∷ []) ∙ ap (λ ts. part_tokens p ++ ts) (parts_whole parts) ∙ sym (part_first p (parts_data parts))

-- the refusal of an edit, alone or in a batch
pub edit_refused : (edit : Option ℕ) (why : refusals.EditRefusal) → answer_data (refused_in edit why) ≡ refused_edit_data edit why
edit_refused None (refusals.unknown_name name) = refl
edit_refused None (refusals.bad_row list index col) = refl
edit_refused None (refusals.stale changed_at version) = refl
edit_refused None (refusals.off_predicate row) = refl
edit_refused None (refusals.clash edge first second) = refl
edit_refused (Some edit) why = refl
