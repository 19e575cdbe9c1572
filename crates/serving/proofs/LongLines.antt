-- Lines that are too long: they are refused, export nothing and ask the keeper for nothing.
use Rattle.std.proofs.Common.{◌≡◌, ◌⊎◌, ℕ, List, refl, arith, inl, Result, Ok, Err}
use Rattle.std.specs.declared.option.Option.{Option}
use Rattle.server_specs.specs.Common.{Adds, too_long, State, Answer, long_line, memory, text, answer, Request, export, request, answered, found_memory}
use Rattle.io_specs.proofs.Calls.{Adds-none}
use Rattle.lens_specs.specs.Common.{Lens, Name}
use Rattle.server_specs.specs.Session as steps
use Rattle.server_laws.specs.SheetLaws.{IsExportLine, ReadsBack}
use Rattle.lens_io.specs.declared.cutting.Cut.{Cut}
use Rattle.lens_io.specs.declared.cutting.Cut.TheVariants as cut
use Rattle.table_keeper.specs.declared.calls.Call.{Call}
use Rattle.lens_server.specs.Committing.{CommitsFor}
use Rattle.serving.specs.Running.{line_of}

-- what is too long is refused for that
too_long_step : (s : State) (count : ℕ) (reply : List ℕ) → reply ≡ text long_line → steps.Step s count too_long reply s count
unfolding answer request
too_long_step s count reply e = record { later = omega arith; still = λ _. refl; replied = found_memory (answered e refl) }

pub other_step : (c : Cut) (s : State) (count : ℕ) (bytes reply : List ℕ) → (c ≡ cut.Line → ⊥) → reply ≡ text long_line → steps.Step s count (line_of c bytes) reply s count
other_step cut.Line s count bytes reply other e = absurd (other refl)
other_step cut.TooLong s count bytes reply other e = too_long_step s count reply e
other_step cut.End s count bytes reply other e = too_long_step s count reply e
other_step cut.Failed s count bytes reply other e = too_long_step s count reply e
other_step cut.Spent s count bytes reply other e = too_long_step s count reply e

-- it exports nothing
too_long_back : (s : State) (name : Name) (L : Lens) → IsExportLine s too_long name L → ⊥
unfolding request
too_long_back s name L h = let no : ◌≡◌ {A = Result Request Answer} (Err long_line) (Ok (export name)) = h.asked in cc

pub other_back : (c : Cut) (s : State) (bytes reply : List ℕ) (name : Name) (L : Lens) → (c ≡ cut.Line → ⊥) → IsExportLine s (line_of c bytes) name L → (reply ≡ text memory) ⊎ ReadsBack L s.tables
other_back cut.Line s bytes reply name L other h = absurd (other refl)
other_back cut.TooLong s bytes reply name L other h = absurd (too_long_back s name L h)
other_back cut.End s bytes reply name L other h = absurd (too_long_back s name L h)
other_back cut.Failed s bytes reply name L other h = absurd (too_long_back s name L h)
other_back cut.Spent s bytes reply name L other h = absurd (too_long_back s name L h)

-- and asks the keeper for nothing
too_long_commits : (s : State) (count : ℕ) (reply : List ℕ) (calls : Option (List Call)) → Adds (CommitsFor s count (record { line = too_long; reply = reply; state = s; count = count })) calls calls
unfolding answer request
too_long_commits s count reply calls = Adds-none _ calls (refl, inl refl)

pub other_commits : (c : Cut) (s : State) (count : ℕ) (bytes reply : List ℕ) (calls : Option (List Call)) → (c ≡ cut.Line → ⊥)
    → Adds (CommitsFor s count (record { line = line_of c bytes; reply = reply; state = s; count = count })) calls calls
other_commits cut.Line s count bytes reply calls other = absurd (other refl)
other_commits cut.TooLong s count bytes reply calls other = too_long_commits s count reply calls
other_commits cut.End s count bytes reply calls other = too_long_commits s count reply calls
other_commits cut.Failed s count bytes reply calls other = too_long_commits s count reply calls
other_commits cut.Spent s count bytes reply calls other = too_long_commits s count reply calls
