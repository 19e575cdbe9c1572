use Rattle.std.proofs.Common.{◌≡◌, ◌∙◌, ◌+◌, ◌-◌, ap, sym, arith, take, true, false, true≢false, bytes_eq}
use Rattle.std.proofs.lemmas.List.{get_or_read}
use Rattle.std.proofs.lemmas.Slice.Eq.{bytes_eq-Decides}
use Rattle.serde_json.specs.Find.{get_member}
use Rattle.borrowed_json.specs.Meaning.{members_data}
use Rattle.borrowed_json.proofs.Found.{found_last, not_last}
use Rattle.borrowed_json.proofs.members.place_of.Goals as goal

pub returns-then-is_named : goal.returns-then-is_named
returns-then-is_named c =
    let xs = c.args.members.now in
    let name = c.args.name.now in
    let i = c.loop-left.left - 1 in
    let here = c.index-members-left.result in
    let next : c.loop-left.left ≡ i + 1 = omega arith in
    let equal : bytes_eq here.0.now name ≡ true = grind arith in
    let named : here.0.now ≡ name = (bytes_eq-Decides here.0.now name).0 equal in (
      omega arith,
      λ m is.
          let same : m ≡ here = get_or_read xs i m (omega arith) is here ∙ sym c.index-members-left.is in
          let is_named : m.0.now ≡ name = ap (λ x. x.0.now) same ∙ named in
          (is_named, c.loop-left.invariant.found ∙ ap (λ k. get_member name (members_data (take k xs))) next ∙ found_last name xs i m (omega arith) is is_named),
    )

pub loop-left-preserved : goal.loop-left-preserved
loop-left-preserved c =
    let xs = c.args.members.now in
    let name = c.args.name.now in
    let i = c.loop-left.left - 1 in
    let here = c.index-members-left.result in
    let next : c.loop-left.left ≡ i + 1 = omega arith in
    let unequal : bytes_eq here.0.now name ≡ false = grind arith in
    record {
      found =
          c.loop-left.invariant.found ∙ ap (λ k. get_member name (members_data (take k xs))) next
          ∙ not_last name xs i here (omega arith) c.index-members-left.is (λ same. true≢false (sym ((bytes_eq-Decides here.0.now name).1 (sym same)) ∙ unequal));
      within = omega arith;
    }
