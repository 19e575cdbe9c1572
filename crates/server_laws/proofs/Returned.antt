-- Over a session, an import of what an export gave changes nothing.
use Rattle.std.proofs.Common.{◌∙◌, Some, Ok, ap, sym, subst}
use Rattle.lens_specs.specs.Common.{get, sort_of}
use Rattle.csv_specs.specs.Sheets.{sheet}
use Rattle.server_specs.specs.Common.{import, is_stale, Chain, last_state}
use Rattle.server_laws.proofs.Exports.{exports_sheets, imports_of_exports}
use Rattle.server_laws.proofs.NoLost.{chain_keeps, chain_valid, two_exported, view_since}
use Rattle.server_laws.specs.SheetLaws.{ExportsComeBack}

pub exports_come_back : ExportsComeBack
exports_come_back s count lines replies last count' v session before between after e f parts name L csv version on h =
    let a = last_state s before in
    let t = last_state e.state between in
    let chain = subst (Chain s count) parts session.chain in
    let w = chain_keeps s count v before between after e f chain in
    let text = sheet (sort_of L).columns (get L a.tables) in
    let gave = two_exported text csv a.version version (sym (ap (λ r. r.0) (exports_sheets a e.line name L h.line)) ∙ h.told) in
    imports_of_exports a t (chain_valid s count v before between after e f chain) e.line f.line name L on h.line h.back (w.lenses name L h.line.lens)
    (view_since a t L w (ap (λ n. is_stale t L (Some n)) gave.1 ∙ h.unmoved)) (h.asked ∙ ap (λ c. Ok (import name c on)) (sym gave.0)) h.fresh
