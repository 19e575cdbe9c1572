use Rattle.std.proofs.Common.{◌≡◌, ◌∙◌, ◌∷◌, [], ap, map, string_bytes, arith, rules}
use Rattle.server_specs.specs.Common.{marked}
use Rattle.rehearsal.specs.Rehearsal.{definition_lines}
use Rattle.rehearsal.proofs.Texts.{line-made}
use Rattle.rehearsal.proofs.lines.definition_lines.Goals as goal

pub returns : goal.returns
unfolding definition_lines
returns c =
    let three : c.in_ok-vec.field-0.items ≡ c.in_ok-albums.albums ∷ c.in_ok-tracks.tracks ∷ c.in_ok-stock.stock ∷ [] = search rules in
    ap (map (λ text. marked (string_bytes text))) three
    ∙ (λ i. line-made _ _ c.in_ok-albums.ensures (omega arith) i ∷ line-made _ _ c.in_ok-tracks.ensures (omega arith) i ∷ line-made _ _ c.in_ok-stock.ensures (omega arith) i ∷ [])
