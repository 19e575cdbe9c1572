use Rattle.std.proofs.Common.{◌++◌, ◌∷◌, ◌∙◌, [], Some, ap, map, refl, subst, sym, take}
use Rattle.plain_values.proofs.Common.{append-nil}
use Rattle.std.specs.FinMap as finmap
use Rattle.std.specs.String.{string_bytes}
use Rattle.csv.specs.Writing.{default_writer, row_text}
use Rattle.csv_specs.specs.Sheets.{record_of, sheet, text_of}
use Rattle.csv_specs.proofs.RoundTrip.{sheets_read_back}
use Rattle.view_csv.specs.Texts.{HasWritten}
use Rattle.view_csv.proofs.TextLemmas.{all_right, right_more, text_given, text_more, text_reads, text_whole}
use Rattle.view_csv.proofs.writing.to_csv.Goals as goal

pub loop-row-init : goal.loop-row-init
loop-row-init c =
    let from = c.from_writer-writer.ensures in
    let start : HasWritten (λ v. Some v.items) c.from_writer-writer.result [] = record {
      setup = from.cfg ∙ c.new.ensures;
      fields = from.fields;
      wrote = from.wrote;
      all = rw (from.wtr, from.empty, c.new-2.ensures.items) refl;
    } in
    record {
      text = subst (HasWritten (λ v. Some v.items) c.write_fields.new.writer) (ap (row_text default_writer) c.in_ok-put_names.ensures.fields ∙ sym (append-nil (row_text default_writer (finmap.keys c.args.columns.now))))
          (c.in_ok-write_fields.ensures [] start);
      names = c.in_ok-put_names.ensures.names;
      right = refl;
    }

pub loop-row-preserved : goal.loop-row-preserved
loop-row-preserved c =
    let before = text_of (finmap.keys c.args.columns.now ∷ map record_of (take c.loop-row.row-index c.rows-row-items.result.now)) in
    let next = text_more (finmap.keys c.args.columns.now) c.rows-row-items.result.now c.loop-row.row-index c.row-item.result c.loop-row-test.true c.row-item.is in
    record {
      text = subst (HasWritten (λ v. Some v.items) c.write_fields-in-loop-row.new.writer) (ap (λ r. before ++ row_text default_writer r) c.in_ok-put_values.ensures.fields ∙ next)
          (c.in_ok-write_fields-2.ensures before c.loop-row.invariant.text);
      names = c.loop-row.invariant.names;
      right = right_more c.rows-row-items.result.now c.loop-row.row-index c.row-item.result c.loop-row-test.true c.row-item.is c.loop-row.invariant.right c.in_ok-put_values.ensures.right;
    }

pub returns : goal.returns
returns c =
    let all = text_of (finmap.keys c.args.columns.now ∷ map record_of (take c.loop-row.row-index c.rows-row-items.result.now)) in
    let given = text_given string_bytes (HasWritten (λ v. Some v.items) c.loop-row.writer) c.text_of.result all (sheet c.args.columns.now c.args.rows.now) c.text_of.ensures c.loop-row.invariant.text
    (text_whole c.args.columns.now c.args.rows.now c.rows-row-items.result.now c.loop-row.row-index c.rows-row-items.ensures c.loop-row-test.false) in
    let right = all_right c.args.rows.now c.rows-row-items.result.now c.loop-row.row-index c.rows-row-items.ensures c.loop-row-test.false c.loop-row.invariant.right in
    let law = sheets_read_back c.args.columns.now c.args.rows.now (record {
      some = c.requires.some;
      plain = c.requires.plain;
      fit = c.requires.fit;
      right = record { names = c.loop-row.invariant.names; values = right };
    }) in
    record { sheet = given; back = text_reads string_bytes c.text_of.result c.args.columns.now c.args.rows.now given law }
