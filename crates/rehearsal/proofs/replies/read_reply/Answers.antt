use Rattle.std.proofs.Common.{◌≡◌, ◌∙◌, sym, ap, true, false}
use Rattle.rehearsal.proofs.Read.{some_json, no_json}
use Rattle.serde_json.specs.View.{view}
use Rattle.rehearsal.specs.Summary.{is_ok, rows_shown, is_ok_of, rows_of}
use Rattle.rehearsal.proofs.replies.read_reply.Goals as goal

pub returns-in-Ok-clause-accepts : goal.returns-in-Ok-clause-accepts
unfolding is_ok
returns-in-Ok-clause-accepts c =
    c.accepts.ensures ∙ ap is_ok_of (sym (some_json c.args.reply.now (view c.in-Ok.json) c.in-Ok.ensures.ok.0 c.in-Ok.ensures.ok.1))

pub returns-in-Ok-clause-rows : goal.returns-in-Ok-clause-rows
unfolding rows_shown
returns-in-Ok-clause-rows c =
    c.rows_in.ensures ∙ ap rows_of (sym (some_json c.args.reply.now (view c.in-Ok.json) c.in-Ok.ensures.ok.0 c.in-Ok.ensures.ok.1))

pub returns-else-is_memory-clause-accepts : goal.returns-else-is_memory-clause-accepts
unfolding is_ok
returns-else-is_memory-clause-accepts c =
    ap is_ok_of (sym (no_json c.args.reply.now (c.in-Err.ensures.err (λ memory.
    let e : false ≡ true = sym c.if-is_memory.false ∙ c.is_memory.ensures.1 memory in
    cc))))

pub returns-else-is_memory-clause-rows : goal.returns-else-is_memory-clause-rows
unfolding rows_shown
returns-else-is_memory-clause-rows c =
    ap rows_of (sym (no_json c.args.reply.now (c.in-Err.ensures.err (λ memory.
    let e : false ≡ true = sym c.if-is_memory.false ∙ c.is_memory.ensures.1 memory in
    cc))))
