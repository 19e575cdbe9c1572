-- How a lens is stored: as a list of its nodes, each before its sources, from which it can be read back.
use Rattle.std.specs.Prelude.{◌≡◌, List, [], ◌∷◌, ◌++◌, ◌⊎◌, refl}
use Rattle.std.proofs.Common.{sym, ap, ◌∙◌, append_assoc, append-nil, inl, inr}
use Rattle.std.specs.Coded.{Coded, code_by, coded_ℕ, coded_list, coded×, coded⊎}
use Rattle.std.specs.FinMap as map
use Rattle.plain_values.specs.contracts.value.Value as contract
use Rattle.plain_values.specs.declared.value.Value.{Value}
use Rattle.plain_values.specs.declared.join_kind.JoinKind.{JoinKind}
use Rattle.plain_values.specs.contracts.join_kind.JoinKind as kinds
use Rattle.lens_specs.specs.Common.{Name, Names, Predicate, Sort, Lens, base, select, drop, rename}
use Rattle.lens_specs.specs.Lens.{join}
use Rattle.lens_pred.specs.Code.{formula_code}
use Rattle.fd_closure.specs.Sides.{coded_names}
use Rattle.lens_types.specs.SortCode.{sort_code}

-- a table and its sort, a predicate, a column with what determines it and what fills it, a column with its new name, or the kind of a join
abbrev pub Node : Type 0
Node = (Name × Sort) ⊎ (Predicate ⊎ ((Name × (Names × Value)) ⊎ ((Name × Name) ⊎ JoinKind)))

-- the nodes of a lens
abbrev pub nodes : Lens → List Node
nodes (base t s) = inl (t, s) ∷ []
nodes (select P C) = inr (inl P) ∷ nodes C
nodes (drop A X a C) = inr (inr (inl (A, (X, a)))) ∷ nodes C
nodes (rename A B C) = inr (inr (inr (inl (A, B)))) ∷ nodes C
nodes (join k A B) = inr (inr (inr (inr k))) ∷ (nodes A ++ nodes B)

-- ---- reading them back, from the last on: each node takes its sources from the lenses that were read

-- the first lens, selected
abbrev pub selected : Predicate → List Lens → List Lens
selected P [] = []
selected P (C ∷ Ls) = select P C ∷ Ls

-- the first lens, without a column
abbrev pub dropped : Name → Names → Value → List Lens → List Lens
dropped A X a [] = []
dropped A X a (C ∷ Ls) = drop A X a C ∷ Ls

-- the first lens, with a column renamed
abbrev pub renamed_first : Name → Name → List Lens → List Lens
renamed_first A B [] = []
renamed_first A B (C ∷ Ls) = rename A B C ∷ Ls

-- the first two lenses, joined
abbrev pub joined : JoinKind → List Lens → List Lens
joined k [] = []
joined k (A ∷ []) = []
joined k (A ∷ (B ∷ Ls)) = join k A B ∷ Ls

-- what a node makes of the lenses behind it
abbrev pub with_node : Node → List Lens → List Lens
with_node (inl n) Ls = base n.0 n.1 ∷ Ls
with_node (inr (inl P)) Ls = selected P Ls
with_node (inr (inr (inl n))) Ls = dropped n.0 n.1.0 n.1.1 Ls
with_node (inr (inr (inr (inl n)))) Ls = renamed_first n.0 n.1 Ls
with_node (inr (inr (inr (inr k)))) Ls = joined k Ls

-- the lenses of the nodes
abbrev pub lenses_read : List Node → List Lens
lenses_read [] = []
lenses_read (n ∷ ns) = with_node n (lenses_read ns)

-- the nodes of a lens are read as that lens
pub read-nodes : (L : Lens) (ns : List Node) → lenses_read (nodes L ++ ns) ≡ L ∷ lenses_read ns
read-nodes (base t s) ns = refl
read-nodes (select P C) ns = ap (selected P) (read-nodes C ns)
read-nodes (drop A X a C) ns = ap (dropped A X a) (read-nodes C ns)
read-nodes (rename A B C) ns = ap (renamed_first A B) (read-nodes C ns)
read-nodes (join k A B) ns =
    ap (joined k) (ap lenses_read (append_assoc (nodes A) (nodes B) ns) ∙ read-nodes A (nodes B ++ ns) ∙ ap (λ Ls. A ∷ Ls) (read-nodes B ns))

-- a lens of no table, which stands where there is none
abbrev pub first_of : List Lens → Lens
first_of [] = base [] (record { columns = map.empty; predicate = []; tree = [] })
first_of (L ∷ Ls) = L

-- a lens is the first that is read from its nodes
pub first_of-nodes : (L : Lens) → first_of (lenses_read (nodes L)) ≡ L
first_of-nodes L = ap (λ ns. first_of (lenses_read ns)) (sym (append-nil (nodes L))) ∙ ap first_of (read-nodes L [])

-- a node is stored as its parts
abbrev pub node_code : Coded Node
node_code = coded⊎ (coded× (coded_list coded_ℕ) sort_code) (coded⊎ (coded_list formula_code) (coded⊎ (coded× (coded_list coded_ℕ) (coded× coded_names contract.the_row.coded)) (coded⊎ (coded× (coded_list coded_ℕ) (coded_list coded_ℕ)) kinds.the_row.coded)))

-- a lens is stored as its nodes
abbrev pub lens_code : Coded Lens
lens_code = code_by (List Node) (coded_list node_code) nodes (λ ns. first_of (lenses_read ns)) first_of-nodes
