use Rattle.std.proofs.Common.{◌≡◌, ◌∙◌, ◌<◌, arith, length}
use Rattle.std.proofs.Math.ListN.{length-set}
use Rattle.plain_values.proofs.Common.{restrict}
use Rattle.view_reading.proofs.PartLists.{part_too}
use Rattle.view_reading.proofs.differing.Parts.add.Goals as goal

pub index_mut-requires : goal.index_mut-requires
index_mut-requires c =
    let found = c.in-Some.ensures c.args.cols.now c.requires.over in
    let within : c.in-Some.place < length c.args.known.now = found.0 in
    let same : length c.args.self.now.are_parts.items ≡ length c.args.known.now = c.requires.places in
    omega arith

pub returns-in-Some : goal.returns-in-Some
returns-in-Some c =
    let found = c.in-Some.ensures c.args.cols.now c.requires.over in
    let within : c.in-Some.place < length c.args.known.now = found.0 in
    let same : length c.args.self.now.are_parts.items ≡ length c.args.known.now = c.requires.places in (
      length-set c.args.self.now.are_parts.items c.in-Some.place _ ∙ c.requires.places,
      λ q. part_too c.args.self.now.are_parts.items c.args.known.now c.args.self.now.others.items c.in-Some.place (restrict c.args.cols.now c.args.row) q c.requires.places (omega arith) found.1,
    )
