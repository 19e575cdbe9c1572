-- A session that exports a view and then imports the text.
use Rattle.std.proofs.Common.{◌≡◌, ◌≢◌, ◌∙◌, ℕ, true, codes, List, [], ◌∷◌, map, None, Some, Ok, refl, sym, ap, subst, arith, pos}
use Rattle.std.specs.FinMap as finmap
use Rattle.plain_values.proofs.Common.{find, list_all, digits, option_map, chars, is_utf8, is_name, bytes_cmp, is_nullable, entries-from_entries, IsStrictlySortedBy}
use Rattle.serde_json.proofs.OnLiterals.{serde_json_on_literals}
use Rattle.csv.specs.Writing.{escaped, fields_text, is_blank}
use Rattle.plain_values.specs.SortedSet as set
use Rattle.plain_values.specs.declared.value.Value.TheVariants.{Int}
use Rattle.fd_laws.proofs.Common.{name_total, row_total}
use Rattle.lens_specs.specs.Common.{get, has, sort_of}
use Rattle.server_specs.specs.Common.{Line, line, catalogue, State, exported, text, export, import, request, first_nullable, answer, Step, answered, found_memory, Exchange, Session, Valid}
use Rattle.csv_specs.specs.Fields.{field_of}
use Rattle.csv_specs.specs.SheetLaws.{AreRight, is_right}
use Rattle.csv_specs.specs.Sheets.{record_of, sheet, text_of}
use Rattle.server_laws.specs.SheetLaws.{IsExportLine}
use Rattle.server_laws.specs.Witness.{ExportsCanComeBack}
use Rattle.server_laws.proofs.Definitions.{lenses_stay}
use Rattle.server_laws.proofs.Example.{v, V, state, valid, known_view, row, N, there, all_fit, accepted, only, W, rest_is, one_entry}
use Rattle.server_laws.proofs.Exports.{exports_sheets, reads_back}
use Rattle.server_laws.proofs.Puts.{put_then_read}
use Rattle.server_laws.proofs.Stale.{present_fresh}
use Rattle.server_laws.proofs.Stored.{lens_here}
use Rattle.server_laws.proofs.Valid.{valid_answer}
use Rattle.server_laws.proofs.OneEdge.{a}
use Rattle.server_laws.proofs.ChangeExample.{batch_is, batch_line, changing}

-- ---- the two lines

abbrev export_line : Line
export_line = line (codes "{\"do\":\"export\",\"view\":\"v\"}")

abbrev import_line : Line
import_line = line (codes "{\"csv\":\"a\\n1\\n\",\"do\":\"import\",\"view\":\"v\"}")

abbrev csv : List ℕ
csv = codes "a\n1\n"

export_asked : request export_line ≡ Ok (export v)
unfolding request is_utf8 chars serde_json_on_literals
export_asked = refl

import_asked : request import_line ≡ Ok (import v csv None)
unfolding request is_utf8 chars serde_json_on_literals
import_asked = refl

-- ---- the state, after a put

abbrev after_put : State
after_put = changing.state

stays_valid : Valid after_put
stays_valid = valid_answer state batch_line valid

known_after : finmap.get (catalogue after_put.texts) v ≡ Some V
known_after = lenses_stay state batch_line v V known_view

shows : get V after_put.tables ≡ N
shows = ap (λ r. get V r.1.tables) batch_is ∙ put_then_read state V N (lens_here state valid v V known_view) all_fit accepted

-- ---- the text of the view

names_are : finmap.keys W ≡ a ∷ []
names_are = ap (map (λ e. e.0)) one_entry

values_are : finmap.values row ≡ Int (pos 1) ∷ []
unfolding IsStrictlySortedBy
values_are = ap (map (λ e. e.1)) (entries-from_entries bytes_cmp name_total ((a, Int (pos 1)) ∷ []) (tt, tt))

rows_are : set.items N ≡ row ∷ []
unfolding IsStrictlySortedBy
rows_are = set.items-from_list row_total (row ∷ []) (tt, tt)

text_is : text_of ((a ∷ []) ∷ (codes "1" ∷ []) ∷ []) ≡ csv
unfolding escaped fields_text is_blank
text_is = refl

record_is : record_of row ≡ codes "1" ∷ []
unfolding digits
record_is = ap (map field_of) values_are

sheet_is : sheet W N ≡ csv
unfolding sheet
sheet_is = ap (λ ks. text_of (ks ∷ map record_of (set.items N))) names_are
    ∙ ap (λ rows. text_of ((a ∷ []) ∷ map record_of rows)) rows_are
    ∙ ap (λ r. text_of ((a ∷ []) ∷ r ∷ [])) record_is ∙ text_is

-- ---- it reads back

no_nulls : first_nullable (sort_of V).columns ≡ None
no_nulls = ap first_nullable rest_is ∙ ap (λ es. option_map (λ c. c.0) (find (λ c. is_nullable c.1) es)) one_entry

some : finmap.keys (sort_of V).columns ≢ []
some none = let clash : a ∷ [] ≡ [] = sym names_are ∙ ap finmap.keys (sym rest_is) ∙ none in cc

right : AreRight W N
right = record {
  names = ap (list_all is_name) names_are;
  values = λ r i. subst (λ q. list_all is_right (finmap.values q) ≡ true) (sym (only r i)) (ap (list_all is_right) values_are);
}

-- ---- the session

exports : IsExportLine after_put export_line v V
exports = record { asked = export_asked; lens = known_after; plain = no_nulls }

export_is : answer after_put export_line ≡ (exported csv after_put.version, after_put)
export_is = exports_sheets after_put export_line v V exports ∙ ap (λ c. (exported c after_put.version, after_put)) ((λ i. sheet (rest_is i) (shows i)) ∙ sheet_is)

abbrev exporting : Exchange
exporting = record { line = export_line; reply = text (answer after_put export_line).0; state = after_put; count = 0 }

abbrev importing : Exchange
importing = record { line = import_line; reply = text (answer after_put import_line).0; state = (answer after_put import_line).1; count = 0 }

export_step : Step after_put 0 exporting.line exporting.reply exporting.state 0
export_step = record { later = omega arith; still = λ _. refl; replied = found_memory (answered refl (sym (ap (λ r. r.1) export_is))) }

import_step : Step after_put 0 importing.line importing.reply importing.state 0
import_step = record { later = omega arith; still = λ _. refl; replied = found_memory (answered refl refl) }

abbrev session : Session after_put 0 (export_line ∷ import_line ∷ []) (exporting.reply ∷ importing.reply ∷ []) importing.state 0
session = record { exchanges = exporting ∷ importing ∷ []; chain = (export_step, (import_step, tt)); lines_are = refl; replies_are = refl; last_is = refl; count_is = refl }

pub exports_can_come_back : ExportsCanComeBack
exports_can_come_back = record {
  state = after_put;
  valid = stays_valid;
  lines = export_line ∷ import_line ∷ [];
  replies = exporting.reply ∷ importing.reply ∷ [];
  last = importing.state;
  session = session;
  exporting = exporting;
  importing = importing;
  exchanges = refl;
  name = v;
  lens = V;
  view = λ table. refl;
  row = row;
  there = ap (λ M. has M row) shows ∙ there;
  csv = csv;
  version = after_put.version;
  on = None;
  imports = record {
    line = exports;
    told = ap (λ r. r.0) export_is;
    back = reads_back after_put stays_valid v V known_after no_nulls some (subst (λ C. AreRight C (get V after_put.tables)) (sym rest_is) (subst (AreRight W) (sym shows) right));
    asked = import_asked;
    unmoved = present_fresh after_put stays_valid V;
    fresh = refl;
  };
}
