-- The tokens of JSON data, and its line.
use Rattle.std.specs.Prelude.{◌≡◌, ℕ, List, [], ◌∷◌, ◌++◌, Option, Some, None, codes, decimal}
use Rattle.json.specs.Token.{Token}
use Rattle.json.specs.Tree.{json_tokens}
use Rattle.serde_json.specs.Data.{Data}
use Rattle.serde_json.specs.Written.{compact_text, outline}
-- the words of texts, tokens and JSON that go with it
pub use Rattle.json_text.specs.Written.{Adds}
pub use Rattle.json.specs.Token.{begin_object, boolean, end_object, key, number, string}
pub use Rattle.serde_json.specs.Data.{array, object}

-- the tokens of the data
abbrev pub data_tokens : Data → List Token
data_tokens d = json_tokens (outline d)

-- the tokens of the place of an edit in its batch, if it is one of a batch
abbrev pub place_tokens : Option ℕ → List Token
place_tokens None = []
place_tokens (Some edit) = key (codes "edit") ∷ number (decimal edit) ∷ []

-- compact JSON and a newline
abbrev pub json_line : Data → List ℕ
json_line d = compact_text d ++ 10 ∷ []
