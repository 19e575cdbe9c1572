-- The rehearsal: the lines that are made.
use Rattle.std.specs.Prelude.{ℕ, zero, suc, ◌+◌, ◌%◌, ◌++◌, codes, decimal, nat_lt, List, [], ◌∷◌, if◌then◌else◌}
use Rattle.std.specs.List.{flat_map}
use Rattle.serde_json.specs.Data.{Data, number, string, array, object, unsigned, Items, no_items, item, no_members, member}
use Rattle.serde_json.specs.Written.{compact_text}
use Rattle.io_specs.specs.Lines.{Line, line}

-- ---- requests

-- compact JSON
unfoldable pub json_text : Data → List ℕ
json_text d = compact_text d

-- the line of a request
abbrev pub line_of : Data → Line
line_of request = line (json_text request)

-- the request to take a definition
abbrev pub define_request : List ℕ → Data
define_request text = object (member (codes "do") (string (codes "define")) (member (codes "text") (string text) no_members))

-- the request to read a table or a view
abbrev pub read_request : List ℕ → Data
read_request view = object (member (codes "do") (string (codes "read")) (member (codes "view") (string view) no_members))

-- the request to edit a table or a view
abbrev pub edit_request : List ℕ → Items → Items → Data
edit_request view remove add = object
    (member (codes "add") (array add) (member (codes "do") (string (codes "edit")) (member (codes "remove") (array remove) (member (codes "view") (string view) no_members))))

-- ---- rows

-- a letter and a number
abbrev pub numbered : List ℕ → ℕ → List ℕ
numbered letter i = letter ++ decimal i

-- a number as JSON
abbrev pub int : ℕ → Data
int n = number (unsigned n)

-- the quantity of the album of i
abbrev pub quantity_of : ℕ → ℕ
quantity_of i = i % 7

-- the rating of the track of i
abbrev pub rating_of : ℕ → ℕ
rating_of i = 1 + i % 5

-- a row of albums: the album of i
abbrev pub album_row : ℕ → Data
album_row i = object (member (codes "album") (string (numbered (codes "a") i)) (member (codes "quantity") (int (quantity_of i)) no_members))

-- a row of tracks: the track of i, on the album of j
abbrev pub track_row : ℕ → ℕ → Data
track_row i j = object
    (member (codes "album") (string (numbered (codes "a") j)) (member (codes "date") (int (1980 + i % 40)) (member (codes "rating") (int (rating_of i))
    (member (codes "track") (string (numbered (codes "t") i)) no_members))))

-- a row of stock: the album of i, with a rating and a track
abbrev pub stock_row : ℕ → ℕ → List ℕ → Data
stock_row i rating track = object
    (member (codes "album") (string (numbered (codes "a") i)) (member (codes "quantity") (int (quantity_of i)) (member (codes "rating") (int rating)
    (member (codes "track") (string track) no_members))))

-- ---- lines

-- the three definitions
unfoldable pub definition_lines : List Line
definition_lines =
    line_of (define_request (codes "table albums (album text, quantity int) with album -> quantity"))
    ∷ line_of (define_request (codes "table tracks (track text, date int, rating int, album text) with track -> date rating"))
    ∷ line_of (define_request (codes "view stock = select from (drop date determined by (track, 2018) from (join_dl tracks with albums)) where quantity > 2"))
    ∷ []

-- the edit that adds the album of i
unfoldable pub album_line : ℕ → Line
album_line i = line_of (edit_request (codes "albums") no_items (item (album_row i) no_items))

-- of n albums, the edit that adds the track of i, on its album and on the next one
unfoldable pub track_line : ℕ → ℕ → Line
track_line n i = line_of (edit_request (codes "tracks") no_items (item (track_row i i) (item (track_row i ((i + 1) % n)) no_items)))

-- the edit of the view that renames the track of i, and rates it 3
unfoldable pub stock_line : ℕ → Line
stock_line i = line_of
    (edit_request (codes "stock") (item (stock_row i (rating_of i) (numbered (codes "t") i)) no_items) (item (stock_row i 3 (numbered (codes "n") i)) no_items))

-- of n albums, the two edits of tables for i
abbrev pub table_lines : ℕ → ℕ → List Line
table_lines n i = album_line i ∷ track_line n i ∷ []

-- the edit of the view for i, where the view shows its album
abbrev pub view_lines : ℕ → List Line
view_lines i = if nat_lt 2 (quantity_of i) then stock_line i ∷ [] else []

-- the line that reads a table or a view
unfoldable pub read_line : List ℕ → Line
read_line view = line_of (read_request view)

-- the three reads
abbrev pub read_lines : List Line
read_lines = read_line (codes "albums") ∷ read_line (codes "tracks") ∷ read_line (codes "stock") ∷ []

-- the numbers below n, rising
abbrev pub below : ℕ → List ℕ
below zero = []
below (suc n) = below n ++ n ∷ []

-- the lines of the rehearsal of n albums
unfoldable pub rehearsal : ℕ → List Line
rehearsal n = definition_lines ++ flat_map (table_lines n) (below n) ++ flat_map view_lines (below n) ++ read_lines
