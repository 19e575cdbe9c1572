use Rattle.std.proofs.Common.{◌∙◌, map, string_bytes, ap}
use Rattle.clap.specs.Simple.{is_simple}
use Rattle.clap.specs.Faults.{is_simple_and_free}
use Rattle.clap.specs.Matches.{found_of}
use Rattle.arguments.proofs.ParsingLemmas.{free, simple, told, refused}
use Rattle.arguments.proofs.parsing.parse.Goals as goal

pub returns-in-Ok-try_get_matches_from-clause-ok : goal.returns-in-Ok-try_get_matches_from-clause-ok
returns-in-Ok-try_get_matches_from-clause-ok c =
    let is = c.in-Ok.ensures in
    let ended = c.in-Ok-try_get_matches_from.ensures in
    told _ (map string_bytes c.args.words.now) (found_of c.in-Ok-try_get_matches_from.matches) _ _ _ is
    (ended.kinds (ap is_simple_and_free is ∙ free)) (ended.matches (ap is_simple is ∙ simple)).0
    c.get_str.ensures c.get_str-in-Ok-try_get_matches_from.ensures c.get_str-in-Ok-try_get_matches_from-2.ensures

pub returns-in-Err-clause-refused : goal.returns-in-Err-clause-refused
returns-in-Err-clause-refused c = λ is_refused.
    refused _ (map string_bytes c.args.words.now) c.in-Err.error c.in-Ok.ensures (c.in-Err.ensures.kinds (ap is_simple_and_free c.in-Ok.ensures ∙ free)) (λ memory. let none = c.fault_of.ensures.1 (c.kind.ensures ∙ memory) in cc)
