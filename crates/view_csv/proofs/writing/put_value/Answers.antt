use Rattle.view_csv.proofs.TextLemmas.{text_right}
use Rattle.view_csv.proofs.writing.put_value.Goals as goal

pub returns-in_ok-push_field-in-Text-clause-right : goal.returns-in_ok-push_field-in-Text-clause-right
returns-in_ok-push_field-in-Text-clause-right c = rw c.in-Text.is (text_right c.in-Text.text c.as_bytes-in-Text.ensures.utf8 c.as_bytes-in-Text.ensures.text)
