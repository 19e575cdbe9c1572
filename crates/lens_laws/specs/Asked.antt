-- The columns by which the nodes of a lens, and its tables, are asked.
use Rattle.std.specs.Prelude.{◌≡◌, true, false, ◌≢◌, List, ◌∷◌, ◌++◌, map, length}
use Rattle.std.specs.List.{Contains, filter}
use Rattle.plain_values.specs.SortedSet as set
use Rattle.lens_specs.specs.Common.{Name, Names, Within, share, one, names, Edge, AllEdges, renamed_names, Lens, base, select, drop, rename, sort_of, view_names}
use Rattle.lens_specs.specs.Lens.{join}

-- it has a column
abbrev pub IsFilled : Names → Type 0
IsFilled C = length (set.items C) ≢ 0

-- the left sides
abbrev pub left_sides : List Edge → List Names
left_sides T = map (λ e. e.left) T

-- the parts within U of the sets that meet it
abbrev pub parts : Names → List Names → List Names
parts U K = map (λ C. set.intersection C U) (filter (λ C. share C U) K)

-- the sets by which a view may be asked, where K was handed down to it
abbrev pub keys_at : Lens → List Names → List Names
keys_at L K = K ++ left_sides (sort_of L).tree

-- what a join hands down to its side over U: the shared columns, and the parts of its own sets
abbrev pub side_keys : Names → Names → List Names → List Names
side_keys S U K = S ∷ parts U K

-- the tables and the sets by which they may be asked, where K was handed down to the view: a rename hands down the sets under the old name
abbrev pub asked : Lens → List Names → List (Name × Names)
asked (base t s) K = map (λ C. (t, C)) (keys_at (base t s) K)
asked (select P L) K = asked L (keys_at (select P L) K)
asked (drop A X a L) K = asked L (X ∷ keys_at (drop A X a L) K)
asked (rename A B L) K = asked L (map (renamed_names B A) (keys_at (rename A B L) K))
asked (join k A B) K =
    let S = set.intersection (view_names A) (view_names B) in
    asked A (side_keys S (view_names A) (keys_at (join k A B) K)) ++ asked B (side_keys S (view_names B) (keys_at (join k A B) K))

-- each has a column, and columns of U alone
abbrev pub AreKeys : Names → List Names → Type 0
AreKeys U K = (C : Names) → Contains K C → IsFilled C × Within C U

-- each table has a column, and each of its dependencies both sides
abbrev pub HasKeys : Lens → Type 0
HasKeys (base t s) = IsFilled (names s.columns) × AllEdges (λ e. IsFilled e.left × IsFilled e.right) s.tree
HasKeys (select P L) = HasKeys L
HasKeys (drop A X a L) = HasKeys L
HasKeys (rename A B L) = HasKeys L
HasKeys (join k A B) = HasKeys A × HasKeys B

-- what a view hands down are such sets of each child
abbrev pub HandsDown : Lens → List Names → Type 0
HandsDown (base t s) K = Unit {0}
HandsDown (select P L) K = AreKeys (view_names L) (keys_at (select P L) K)
HandsDown (drop A X a L) K = AreKeys (view_names L) (X ∷ keys_at (drop A X a L) K)
HandsDown (rename A B L) K = AreKeys (view_names L) (map (renamed_names B A) (keys_at (rename A B L) K))
HandsDown (join k A B) K =
    let S = set.intersection (view_names A) (view_names B) in
    AreKeys (view_names A) (side_keys S (view_names A) (keys_at (join k A B) K)) × AreKeys (view_names B) (side_keys S (view_names B) (keys_at (join k A B) K))

-- the view may be asked by the set, which has a column, and columns of the view alone
abbrev pub MayBeAsked : Lens → List Names → Names → Type 0
MayBeAsked L K C = Contains (keys_at L K) C × IsFilled C × Within C (view_names L)

-- the sets by which a look-up by C asks the children, or the table
abbrev pub Reaches : Lens → List Names → Names → Type 0
Reaches (base t s) K C = Contains (asked (base t s) K) (t, C)
Reaches (select P L) K C = MayBeAsked L (keys_at (select P L) K) C
Reaches (drop A X a L) K C =
    let K1 = X ∷ keys_at (drop A X a L) K in
    let D = set.difference (view_names L) (one A) in
    MayBeAsked L K1 C × MayBeAsked L K1 X × Within C D × Within X D
Reaches (rename A B L) K C = MayBeAsked L (map (renamed_names B A) (keys_at (rename A B L) K)) (renamed_names B A C)
Reaches (join k A B) K C =
    let U = view_names A in let V = view_names B in
    let S = set.intersection U V in
    let KA = side_keys S U (keys_at (join k A B) K) in let KB = side_keys S V (keys_at (join k A B) K) in
    (share C U ≡ true → MayBeAsked A KA (set.intersection C U)) × (share C U ≡ false → MayBeAsked B KB (set.intersection C V)) × MayBeAsked A KA S × MayBeAsked B KB S
