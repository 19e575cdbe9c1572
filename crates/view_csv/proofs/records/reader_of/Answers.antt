use Rattle.std.proofs.Common.{◌∙◌, ap, sym, refl, inr, Some}
use Rattle.csv.specs.Reading.{Reached, builder_config, builder_names_headers, builder_trim, strip_bom}
use Rattle.view_csv.proofs.records.reader_of.Goals as goal

pub returns : goal.returns
unfolding Reached
returns c =
    let made = c.from_reader.ensures in
    let set = c.flexible.ensures in
    let named = c.has_headers.ensures in
    record {
      config = made.config ∙ ap builder_config set ∙ ap builder_config named ∙ c.new.ensures.config;
      trim = made.trim ∙ ap builder_trim set ∙ ap builder_trim named ∙ c.new.ensures.trim;
      ready = inr (inr (made.has_headers ∙ ap builder_names_headers set ∙ ap builder_names_headers named, made.headers));
      left = strip_bom c.args.text.now;
      source = made.source ∙ ap (λ l. Some (strip_bom l)) c.as_bytes.ensures.value;
      reached = (sym made.state, refl);
    }
