-- What the answers of the code stand for.
pub use Rattle.reply_printing.specs.Answers.{list_view, conjuncts_view, edit_refusal_view, refused_in, answer_view}
