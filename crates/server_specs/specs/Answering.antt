-- What the server answers to a line, and the state after it.
use Rattle.std.specs.Prelude.{Result, Ok, Err}
use Rattle.io_specs.specs.Lines.{Line}
use Rattle.server_specs.specs.State.{State, unchanged}
use Rattle.server_specs.specs.Answer.{Answer}
use Rattle.server_specs.specs.Request.{Request, define, read, find_at, put, edit, preview, describe, list, batch, undo, export, import, request}
use Rattle.server_specs.specs.Defining.{define_answer}
use Rattle.server_specs.specs.Questions.{read_answer, find_answer, type_answer, list_answer}
use Rattle.server_specs.specs.Changing.{whole, edited, change_answer, preview_answer}
use Rattle.server_specs.specs.Batching.{batch_answer}
use Rattle.server_specs.specs.Undoing.{undo_answer}
use Rattle.server_specs.specs.Exporting.{export_answer, import_answer}

-- a request is answered, or its refusal
abbrev pub answer_request : Result Request Answer → State → Answer × State
answer_request (Err refusal) s = unchanged refusal s
answer_request (Ok (define text)) s = define_answer text s
answer_request (Ok (read name)) s = unchanged (read_answer name s) s
answer_request (Ok (find_at name column json)) s = unchanged (find_answer name column json s) s
answer_request (Ok (put name rows on)) s = change_answer (whole rows) on name s
answer_request (Ok (edit name remove add on)) s = change_answer (edited remove add) on name s
answer_request (Ok (preview name remove add on)) s = unchanged (preview_answer (edited remove add) on name s) s
answer_request (Ok (describe name)) s = unchanged (type_answer name s) s
answer_request (Ok list) s = unchanged (list_answer s) s
answer_request (Ok (batch edits on)) s = batch_answer edits on s
answer_request (Ok undo) s = undo_answer s
answer_request (Ok (export name)) s = unchanged (export_answer name s) s
answer_request (Ok (import name text on)) s = import_answer name text on s

-- the answer to a line, and the state after it
unfoldable pub answer : State → Line → Answer × State
answer s l = answer_request (request l) s
