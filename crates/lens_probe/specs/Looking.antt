-- Look-ups by key down a lens.
use Rattle.std.specs.Prelude.{◌≡◌, ◌+◌, ◌≤◌, ℕ, Bool, true, false, List, filter, flat_map, map}
use Rattle.std.specs.List.{Contains}
use Rattle.plain_values.specs.Part.{override, restrict}
use Rattle.plain_values.specs.SortedSet as set
use Rattle.plain_values.specs.Row.{Row}
use Rattle.lens_specs.specs.Common.{Lens, Names, Rows, agree}
use Rattle.lens_laws.specs.Asked.{asked, keys_at}
use Rattle.lens_laws.specs.KeyedDeltas.{find_by}
use Rattle.lens_laws.specs.Work.{TablesGiveAtMost, size}
use Rattle.base_index.specs.Held.{State}
use Rattle.lens_probe.specs.declared.finding.Partners.{Partners}
use Rattle.lens_probe.specs.Viewed.{CanAsk}

-- the lens can ask the tables, with some sets handed down to it
abbrev pub MayLook : Lens → State → Type 0
MayLook L st = (K : List Names) × CanAsk L K st

-- and may itself be asked by these columns
abbrev pub MayFind : Lens → State → Names → Type 0
MayFind L st C = (K : List Names) × CanAsk L K st × Contains (keys_at L K) C

-- the lens can ask the tables, no look-up in which gives more than w rows
abbrev pub LooksWithin : Lens → State → ℕ → Type 0
LooksWithin L st w = (K : List Names) × CanAsk L K st × TablesGiveAtMost w (asked L K) st.relations

-- and may itself be asked by these columns
abbrev pub FindsWithin : Lens → State → Names → ℕ → Type 0
FindsWithin L st C w =
    (K : List Names) × CanAsk L K st × Contains (keys_at L K) C × TablesGiveAtMost w (asked L K) st.relations

-- between these counts no more rows were looked up than a look into the lens takes
abbrev pub HasLooked : Lens → State → ℕ → ℕ → Type 0
HasLooked L st old new = (w : ℕ) → LooksWithin L st w → new ≤ old + size L w

-- and than a search in the lens by these columns takes
abbrev pub HasFound : Lens → State → Names → ℕ → ℕ → Type 0
HasFound L st C old new = (w : ℕ) → FindsWithin L st C w → new ≤ old + size L w

-- the rows of M that agree with the part of the key in U
abbrev pub find_part : Names → Row → Names → Rows → Rows
find_part C k U M = let P = set.intersection C U in find_by P (restrict P k) M

-- the rows are those of N that agree with the key on S
abbrev pub ArePartners : Names → Rows → Partners → Type 0
ArePartners S N found = found.rows ≡ find_by S found.key N

-- what is kept of a row of the left side of a join put together with one of the right, or the other way round
abbrev pub both_of : Bool → Names → Row → Row → Row
both_of true K m n = restrict K (override n m)
both_of false K n m = restrict K (override n m)

-- what is kept of each row put together with each of N that agrees with it on S, where the key agrees with it
abbrev pub pairs_of : Bool → Names → Names → Names → Row → Rows → List Row → List Row
pairs_of is_left S K C k N rows =
    let others : Row → Rows = λ m. find_by S (restrict S m) N in
    flat_map (λ m. filter (agree C k) (map (both_of is_left K m) (set.items (others m)))) rows
