use Rattle.std.proofs.Common.{◌≡◌, ◌≤◌, ◌+◌, ◌*◌, length}
use Rattle.lens_pred.specs.View.{predicate_view}
use Rattle.grammar_specs.specs.Common.{All, Pred, all_conjuncts, pred_disjuncts}
use Rattle.grammar_laws.specs.PredRules as pred
use Rattle.view_lang.specs.Outcomes.{reader_view}
use Rattle.view_lang.proofs.parsing.reader.Reader.+pred.Given as goal

abbrev pub decreases-part : goal.decreases-part
decreases-part l = 3 * l.room

abbrev pub decreases-all : goal.decreases-all
decreases-all l = 3 * l.room + 1

abbrev pub decreases-pred : goal.decreases-pred
decreases-pred l = 3 * l.room + 2

abbrev pub invariant-all-loop-alloc : goal.invariant-all-loop-alloc
invariant-all-loop-alloc l =
    (a : All) × (predicate_view l.ands.items ≡ all_conjuncts a) × (pred.all_of (pred.part l.room) (reader_view l.fn.self) ≡ pred.more_parts (pred.part l.room) a (reader_view l.self))
    × (length (reader_view l.self) ≤ length (reader_view l.fn.self))

abbrev pub decreases-all-loop-alloc : goal.decreases-all-loop-alloc
decreases-all-loop-alloc l = length (reader_view l.self)

abbrev pub invariant-pred-loop-alloc : goal.invariant-pred-loop-alloc
invariant-pred-loop-alloc l =
    (o : Pred) × (predicate_view l.ors.items ≡ pred_disjuncts o) × (pred.pred l.room (reader_view l.fn.self) ≡ pred.more_alls (pred.part l.room) o (reader_view l.self))
    × (length (reader_view l.self) ≤ length (reader_view l.fn.self))

abbrev pub decreases-pred-loop-alloc : goal.decreases-pred-loop-alloc
decreases-pred-loop-alloc l = length (reader_view l.self)
