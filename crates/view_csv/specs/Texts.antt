-- What a writer has written.
use Rattle.std.specs.Prelude.{◌≡◌, ℕ, List, false, Option, Some}
use Rattle.csv.specs.Writing.{default_writer, fields_written, has_written, text_written, writer_setup}
use Rattle.csv.specs.declared.writer.Writer.{Writer}

-- the writer has the default settings, has written this text, and stands between records
pub record HasWritten {W : Type 0} (contents : W → Option (List ℕ)) (writer : Writer W) (text : List ℕ) : Type 0 where
  pub setup : writer_setup writer ≡ default_writer
  pub fields : fields_written writer ≡ 0
  pub wrote : has_written writer ≡ false
  pub all : text_written contents writer ≡ Some text
