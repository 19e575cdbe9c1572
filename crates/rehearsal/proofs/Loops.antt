-- A loop over lines goes on.
use Rattle.std.proofs.Common.{◌≡◌, ◌≤◌, ◌<◌, ◌+◌, ◌-◌, ◌*◌, ℕ, zero, suc, List, [], ◌∷◌, ◌++◌, map, take, drop, get_or, length, refl, ap, sym, subst, ◌∙◌, arith, append-nil, append_assoc, add-one, add-zero, add-suc, length-append, length-take-le, String, Global, string_bytes, flat_map, Bool, true, false, if◌then◌else◌}
use Rattle.std.proofs.lemmas.Grind.{flat_map-append}
use Rattle.std.proofs.lemmas.List.{length-map, map_more, map-append, take-append-drop}
use Rattle.server_specs.specs.Common.{Line, marked}
use Rattle.rehearsal.specs.Rehearsal.{below, table_lines, view_lines, stock_line}
use Rattle.rehearsal.specs.Stages.{Point, Passed, Passes, Halted, HasRoom}
use Rattle.rehearsal.proofs.Points.{Passed-append, Halted-first, Halted-after, Halted-early, told-Passed, Room-Passed}

-- ---- a loop over numbers

-- the lines of one number more
flat_map-below_more : (f : ℕ → List Line) (i : ℕ) → flat_map f (below (i + 1)) ≡ flat_map f (below i) ++ f i
flat_map-below_more f i = rw add-one (flat_map-append f (below i) (i ∷ []) ∙ ap (λ ls. flat_map f (below i) ++ ls) (append-nil (f i)))

front_by : (f : ℕ → List Line) (i k : ℕ) → (rest : List Line) × (flat_map f (below i) ++ rest ≡ flat_map f (below (i + k)))
front_by f i zero = ([], rw add-zero (append-nil (flat_map f (below i))))
front_by f i (suc k) =
    let before = front_by f i k in
    let more : flat_map f (below (suc (i + k))) ≡ flat_map f (below (i + k)) ++ f (i + k) =
    flat_map-append f (below (i + k)) ((i + k) ∷ []) ∙ ap (λ ls. flat_map f (below (i + k)) ++ ls) (append-nil (f (i + k))) in
    (before.0 ++ f (i + k), rw add-suc (sym (append_assoc (flat_map f (below i)) before.0 (f (i + k))) ∙ ap (λ ls. ls ++ f (i + k)) before.1 ∙ sym more))

-- the lines of the first numbers are the first lines
front_below : (f : ℕ → List Line) (i n : ℕ) → i ≤ n → (rest : List Line) × (flat_map f (below i) ++ rest ≡ flat_map f (below n))
front_below f i n h =
    let found = front_by f i (n - i) in
    let same : i + (n - i) ≡ n = omega arith in
    (found.0, found.1 ∙ ap (λ m. flat_map f (below m)) same)

pub Passes-more : (a b c : Point) (f : ℕ → List Line) (i : ℕ) (lines : List Line) → lines ≡ f i → Passes a (flat_map f (below i)) b → Passes b lines c → Passes a (flat_map f (below (i + 1))) c
Passes-more a b c f i lines same p q =
    let all : flat_map f (below i) ++ lines ≡ flat_map f (below (i + 1)) = ap (λ ls. flat_map f (below i) ++ ls) same ∙ sym (flat_map-below_more f i) in
    (p.0 ++ q.0, subst (λ ls. Passed a ls (p.0 ++ q.0) c) all (Passed-append a b c (flat_map f (below i)) lines p.0 q.0 p.1 q.1))

pub Halted-more : (a b c : Point) (f : ℕ → List Line) (i n : ℕ) (lines : List Line) → i < n → lines ≡ f i → Passes a (flat_map f (below i)) b → Halted b lines c → Halted a (flat_map f (below n)) c
Halted-more a b c f i n lines less same p h =
    let here : flat_map f (below i) ++ lines ≡ flat_map f (below (i + 1)) = ap (λ ls. flat_map f (below i) ++ ls) same ∙ sym (flat_map-below_more f i) in
    let rest = front_below f (i + 1) n (omega arith) in
    let all : (flat_map f (below i) ++ lines) ++ rest.0 ≡ flat_map f (below n) = ap (λ ls. ls ++ rest.0) here ∙ rest.1 in
    subst (λ ls. Halted a ls c) all (Halted-early a c (flat_map f (below i) ++ lines) rest.0 (Halted-after a b c (flat_map f (below i)) lines p.0 p.1 h))

-- before the lines of a number
pub Halted-between : (a b : Point) (f : ℕ → List Line) (i n : ℕ) → i < n → Passes a (flat_map f (below i)) b → Halted a (flat_map f (below n)) b
Halted-between a b f i n less p = Halted-more a b b f i n (f i) less refl p (Halted-first b (f i) (told-Passed a b (flat_map f (below i)) p.0 p.1))

-- two lines for each number
pub length-table_lines : (n i : ℕ) → length (flat_map (table_lines n) (below i)) ≤ 2 * i
length-table_lines n zero = omega arith
length-table_lines n (suc i) =
    let more = ap length (flat_map-append (table_lines n) (below i) (i ∷ [])) in
    omega (arith, length-table_lines n i, more, length-append (flat_map (table_lines n) (below i)) (flat_map (table_lines n) (i ∷ [])))

one_or_none : (b : Bool) (l : Line) → length (if b then l ∷ [] else []) ≤ 1
one_or_none true l = omega arith
one_or_none false l = omega arith

pub length-lines_of_view : (i : ℕ) → length (view_lines i) ≤ 1
length-lines_of_view i = one_or_none _ (stock_line i)

-- at most one line for each number
pub length-view_lines : (i : ℕ) → length (flat_map view_lines (below i)) ≤ i
length-view_lines zero = omega arith
length-view_lines (suc i) =
    let more = ap length (flat_map-append view_lines (below i) (i ∷ []) ∙ ap (λ ls. flat_map view_lines (below i) ++ ls) (append-nil (view_lines i))) in
    omega (arith, length-view_lines i, length-lines_of_view i, more, length-append (flat_map view_lines (below i)) (view_lines i))

-- ---- a loop over lines that are there

pub Passes-next : {X : Type 0} (a b c : Point) (f : X → Line) (xs : List X) (i : ℕ) (x : X) (l : Line) → i < length xs → x ≡ get_or xs i x → l ≡ f x → Passes a (map f (take i xs)) b → Passes b (l ∷ []) c
    → Passes a (map f (take (i + 1) xs)) c
Passes-next a b c f xs i x l less is same p q =
    let all : map f (take i xs) ++ l ∷ [] ≡ map f (take (i + 1) xs) = ap (λ y. map f (take i xs) ++ y ∷ []) (same ∙ ap f is) ∙ sym (map_more f xs i x less) in
    (p.0 ++ q.0, subst (λ ls. Passed a ls (p.0 ++ q.0) c) all (Passed-append a b c (map f (take i xs)) (l ∷ []) p.0 q.0 p.1 q.1))

pub Halted-next : {X : Type 0} (a b c : Point) (f : X → Line) (xs : List X) (i : ℕ) (x : X) (l : Line) → i < length xs → x ≡ get_or xs i x → l ≡ f x → Passes a (map f (take i xs)) b → Halted b (l ∷ []) c
    → Halted a (map f xs) c
Halted-next a b c f xs i x l less is same p h =
    let here : map f (take i xs) ++ l ∷ [] ≡ map f (take (i + 1) xs) = ap (λ y. map f (take i xs) ++ y ∷ []) (same ∙ ap f is) ∙ sym (map_more f xs i x less) in
    let all : (map f (take i xs) ++ l ∷ []) ++ map f (drop (i + 1) xs) ≡ map f xs =
    ap (λ ls. ls ++ map f (drop (i + 1) xs)) here ∙ sym (map-append f (take (i + 1) xs) (drop (i + 1) xs)) ∙ ap (map f) (take-append-drop (i + 1) xs) in
    subst (λ ls. Halted a ls c) all (Halted-early a c (map f (take i xs) ++ l ∷ []) (map f (drop (i + 1) xs)) (Halted-after a b c (map f (take i xs)) (l ∷ []) p.0 p.1 h))

pub Room-next : {X : Type 0} (a b : Point) (f : X → Line) (xs : List X) (i : ℕ) → i < length xs → HasRoom a.state.version a.tally (length xs) → Passes a (map f (take i xs)) b → HasRoom b.state.version b.tally 1
Room-next a b f xs i less room p = Room-Passed a b (map f (take i xs)) p.0 (length xs) 1 room p.1 (omega (arith, length-map (take i xs) f, length-take-le i xs (omega arith)))

-- there are as many texts as lines
pub length-made : (texts : List (String Global)) (lines : List Line) → map (λ text. marked (string_bytes text)) texts ≡ lines → length texts ≡ length lines
length-made texts lines made = sym (length-map texts (λ text. marked (string_bytes text))) ∙ ap length made
