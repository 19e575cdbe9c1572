use Rattle.std.proofs.Common.{ℕ, List, subst, arith}
use Rattle.view_lang.specs.Reads.{IsAnswerOf}
use Rattle.view_lang.proofs.AnswerOf.{answer_of}
use Rattle.view_lang.proofs.parsing.parse.Goals as goal

pub returns-clause-answers : goal.returns-clause-answers
returns-clause-answers c =
    let P : List ℕ → Type 0 = λ t. IsAnswerOf t c.read.result in
    subst P c.as_str.ensures (answer_of c.as_str.result.now c.read.result (omega (arith, c.as_str.type_inv)) c.read.ensures)
