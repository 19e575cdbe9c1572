-- Lines that export a view: the text reads back.
use Rattle.std.proofs.Common.{◌≡◌, ◌∙◌, ◌<◌, ◌≤◌, ℕ, List, length, Some, None, Result, Ok, Err, ap, subst, inl, inr, ◌⊎◌, IfOk, MatchResult}
use Rattle.plain_values.proofs.Common.{lt-leb}
use Rattle.std.specs.FinMap as finmap
use Rattle.no_memory.specs.declared.NoMemory.{NoMemory}
use Rattle.lens_specs.specs.Common.{Lens, sort_of, Name}
use Rattle.server_specs.specs.Common.{line, marked, catalogue, Answer, long_line, memory, text, first_nullable, Request, export, request, State}
use Rattle.server_laws.specs.SheetLaws.{IsExportLine, ReadsBack}
use Rattle.lens_server.proofs.Stepping.{marked_short}
use Rattle.lens_server.specs.Exports.{ExportReadsBack, NamedReadsBack}

-- ---- lines

exported_back : (r : Result Request Answer) (s : State) (name : Name) (L : Lens) → r ≡ Ok (export name) → finmap.get (catalogue s.texts) name ≡ Some L → first_nullable (sort_of L).columns ≡ None
    → ExportReadsBack r s → ReadsBack L s.tables
exported_back r s name L asked lens plain back =
    let named : NamedReadsBack (finmap.get (catalogue s.texts) name) s.tables = subst (λ x. ExportReadsBack x s) asked back in
    let here : NamedReadsBack (Some L) s.tables = subst (λ o. NamedReadsBack o s.tables) lens named in
    here plain

-- what a line exports reads back, unless memory ran out
pub line_back : (before old : State) (bytes reply : List ℕ) (result : Result (List ℕ) NoMemory) → length bytes ≤ 16777216 → old ≡ before → IfOk result (λ _. ExportReadsBack (request (line bytes)) old)
    → MatchResult result (λ r. reply ≡ r) (λ _. reply ≡ text memory) → (name : Name) (L : Lens) → IsExportLine before (marked bytes) name L → (reply ≡ text memory) ⊎ ReadsBack L before.tables
line_back before old bytes reply (Err e) h is back said name L x = inl said
line_back before old bytes reply (Ok r) h is back said name L x =
    inr (exported_back (request (line bytes)) before name L (ap request (marked_short bytes h) ∙ x.asked) x.lens x.plain (subst (λ s. ExportReadsBack (request (line bytes)) s) is back))

-- a line that is too long exports nothing
pub long_exports_none : (s : State) (bytes : List ℕ) (name : Name) (L : Lens) → 16777216 < length bytes → IsExportLine s (marked bytes) name L → ⊥
unfolding request
long_exports_none s bytes name L h x = let e : ◌≡◌ {A = Result Request Answer} (Err long_line) (Ok (export name)) = rw (lt-leb (length bytes) 16777216 h) at x.asked in cc
