-- Faults that blame a member.
use Rattle.std.proofs.Common.{◌≡◌, ◌∙◌, ℕ, List, ap, sym, Result, Err}
use Rattle.server_specs.specs.Common.{BadRow}
use Rattle.request_reading.specs.Blames.{Refuses}
use Rattle.request_reading.specs.RowFaults.{IsAt, TellsRow}
use Rattle.request_reading.specs.declared.member_fault.MemberFault.{MemberFault}
use Rattle.request_reading.specs.declared.member_fault.MemberFault.TheVariants as member
use Rattle.request_reading.specs.declared.rows.RowsFault.{RowsFault}
use Rattle.request_reading.specs.declared.rows.RowsFault.TheVariants as fault

-- the fault of an element tells the bad row
pub told_at : {A B : Type 0} (i : ℕ) (f : RowsFault) (of_element : MemberFault) (element : Result A (List ℕ)) (expected : Result B BadRow) → IsAt f i of_element → Refuses of_element element
    → ((name : List ℕ) → element ≡ Err name → expected ≡ Err (i, name)) → TellsRow f expected
told_at i (fault.BadRow index name) (member.Wrong wrong) element expected at refuses bad =
    let same : (index, name) ≡ (i, wrong.now) = cc in
    bad wrong.now refuses ∙ ap Err (sym same)
told_at i (fault.BadRow index name) member.NoMemory element expected at refuses bad = cc
told_at i fault.NoMemory of_element element expected at refuses bad = tt
