use Rattle.std.proofs.Common.{◌≡◌, ◌∙◌}
use Rattle.lens_specs.specs.Common.{put}
use Rattle.whole_put.proofs.Lenses.{of_their_sorts, read_again, unchanged}
use Rattle.whole_put.proofs.putting.put.Goals as goal
use Rattle.whole_put.proofs.putting.put.Goals.{In_ok-write}

-- the tables are those of the definition
written : (c : In_ok-write) → c.write.new.db ≡ put c.args.lens.now c.args.view.now.rows c.args.db.now
written c = c.in_ok-write.ensures ∙ (λ i. put c.args.lens.now (c.in_ok-copy.ensures i).rows (c.in_ok-after.ensures i))

pub returns-clause-put_get : goal.returns-clause-put_get
returns-clause-put_get c =
    read_again c.write.new.db c.args.lens.now c.args.view.now.rows c.args.db.now c.of.ensures.typed c.requires.tables (written (goal.at.returns-clause-put_get c).In_ok-write) c.requires.view.1

pub returns-clause-get_put : goal.returns-clause-get_put
returns-clause-get_put c =
    unchanged c.write.new.db c.args.lens.now c.args.view.now.rows c.args.db.now c.of.ensures.typed c.requires.tables (written (goal.at.returns-clause-get_put c).In_ok-write)

pub returns-clause-sorts : goal.returns-clause-sorts
returns-clause-sorts c =
    of_their_sorts c.write.new.db c.args.lens.now c.args.view.now.rows c.args.db.now c.of.ensures.typed c.requires.tables (written (goal.at.returns-clause-sorts c).In_ok-write) c.requires.view.1
