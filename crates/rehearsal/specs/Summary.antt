-- The summary of what the lines were answered.
use Rattle.std.specs.Prelude.{ℕ, ◌++◌, Bool, false, not, codes, List, [], ◌∷◌, count_by, unwrap_or, Option, option_map, option_and_then}
use Rattle.serde_json.specs.Data.{Data, object, Members, no_members, member}
use Rattle.serde_json.specs.Events.{items_len}
use Rattle.serde_json.specs.Find as find
use Rattle.server_specs.specs.Request.{json_of}
use Rattle.rehearsal.specs.Rehearsal.{int, json_text}

-- ---- replies

-- what JSON has in a member
abbrev pub told_in : List ℕ → Option Data → Option Data
told_in key json = option_and_then (find.get key) json

-- whether JSON tells an acceptance
abbrev pub is_ok_of : Option Data → Bool
is_ok_of json = unwrap_or (option_and_then find.as_bool (told_in (codes "ok") json)) false

-- how many rows JSON shows; a refusal shows none
abbrev pub rows_of : Option Data → ℕ
rows_of json = unwrap_or (option_map items_len (option_and_then find.as_array (told_in (codes "rows") json))) 0

-- whether a reply is an acceptance
unfoldable pub is_ok : List ℕ → Bool
is_ok reply = is_ok_of (json_of reply)

-- whether a reply is a refusal
abbrev pub is_refusal : List ℕ → Bool
is_refusal reply = not (is_ok reply)

-- how many rows a reply shows
unfoldable pub rows_shown : List ℕ → ℕ
rows_shown reply = rows_of (json_of reply)

-- the replies to the three reads, which are the last ones
abbrev pub last_three : List (List ℕ) → List (List ℕ)
last_three [] = []
last_three (a ∷ []) = a ∷ []
last_three (a ∷ b ∷ []) = a ∷ b ∷ []
last_three (a ∷ b ∷ c ∷ []) = a ∷ b ∷ c ∷ []
last_three (a ∷ b ∷ c ∷ d ∷ replies) = last_three (b ∷ c ∷ d ∷ replies)

-- ---- the summary

-- how many rows albums, tracks and stock have; in byte order of their names
abbrev pub rows_data : ℕ → ℕ → ℕ → Members
rows_data albums tracks stock = member (codes "albums") (int albums) (member (codes "stock") (int stock) (member (codes "tracks") (int tracks) no_members))

-- the rows that the replies to the reads of albums, of tracks and of stock show
abbrev pub counts_data : List (List ℕ) → Members
counts_data [] = no_members
counts_data (a ∷ []) = no_members
counts_data (a ∷ b ∷ []) = no_members
counts_data (albums ∷ tracks ∷ stock ∷ others) = rows_data (rows_shown albums) (rows_shown tracks) (rows_shown stock)

-- the summary as JSON
abbrev pub summary_data : ℕ → ℕ → Members → ℕ → Data
summary_data accepted refused rows version = object
    (member (codes "accepted") (int accepted) (member (codes "refused") (int refused) (member (codes "rows") (object rows) (member (codes "version") (int version) no_members))))

-- the line of the summary: compact JSON and a newline
abbrev pub summary_line : ℕ → ℕ → Members → ℕ → List ℕ
summary_line accepted refused rows version = json_text (summary_data accepted refused rows version) ++ 10 ∷ []

-- the summary of the replies and of the last version
unfoldable pub summary : List (List ℕ) → ℕ → List ℕ
summary replies version = summary_line (count_by is_ok replies) (count_by is_refusal replies) (counts_data (last_three replies)) version
