-- What the edits of a batch stand for.
use Rattle.server_specs.specs.Request as spec
use Rattle.request_reading.specs.declared.batch_edits.BatchEdit.{BatchEdit}

-- the edit that the definitions speak of
abbrev pub edit_view : BatchEdit → spec.BatchEdit
edit_view e = record { view = e.view; remove = e.remove; add = e.add }
