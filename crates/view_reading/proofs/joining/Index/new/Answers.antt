use Rattle.view_reading.proofs.joining.Index.new.Goals as goal

pub returns-clause-entries : goal.returns-clause-entries
returns-clause-entries c = (c.in_ok-entries.ensures.order, c.in_ok-entries.ensures.members)
