-- The laws of definitions of views: what is refused, in which order, and what is taken.
use Rattle.std.specs.Prelude.{◌≡◌, ◌↔◌, ◌⊎◌, ◌+◌, ◌<◌, ◌≤◌, ℕ, false, List, Some, None, Ok, Err}
use Rattle.std.specs.FinMap as finmap
use Rattle.lens_specs.specs.Common.{Name, Lens, sort_of, Refusal, too_large, views_limit, sort}
use Rattle.grammar_specs.specs.Meaning.{view, Expr, named, select, drop, rename, join}
use Rattle.grammar_laws.specs.Reading.{reading}
use Rattle.io_specs.specs.Lines.{Line}
use Rattle.catalog_specs.specs.Catalogue.{catalogue, lens_of}
use Rattle.catalog_specs.specs.Judging.{is_taken, view_count, lens_in}
use Rattle.server_specs.specs.State.{State}
use Rattle.server_specs.specs.Answer.{defined, unknown_name, refused}
use Rattle.server_specs.specs.Request.{define, request}
use Rattle.server_specs.specs.Defining.{with_defined}
use Rattle.server_specs.specs.Answering.{answer}
use Rattle.server_specs.specs.Validity.{Valid}

-- the line defines a view of the expression, in a valid state in which its name is free
pub record DefinesView (s : State) (l : Line) (text : List ℕ) (name : Name) (expr : Expr) : Type 0 where
  pub valid : Valid s
  pub asked : request l ≡ Ok (define text)
  pub says : reading text ≡ Ok (view name expr)
  pub free : is_taken (catalogue s.texts) name ≡ false

-- the expression has the name in it
abbrev pub HasName : Expr → Name → Type 0
HasName (named from) name = from ≡ name
HasName (select predicate of) name = HasName of name
HasName (drop column by value of) name = HasName of name
HasName (rename column new of) name = HasName of name
HasName (join kind left right) name = HasName left name ⊎ HasName right name

-- the part is the left side of a join in the expression
abbrev pub IsLeftSide : Expr → Expr → Type 0
IsLeftSide part (named from) = ⊥
IsLeftSide part (select predicate of) = IsLeftSide part of
IsLeftSide part (drop column by value of) = IsLeftSide part of
IsLeftSide part (rename column new of) = IsLeftSide part of
IsLeftSide part (join kind left right) = (part ≡ left) ⊎ (IsLeftSide part left ⊎ IsLeftSide part right)

-- An expression has a lens that passes the tests exactly where it has a lens, each name in it standing for its own, and that lens has
-- a sort: to test each node as it is met is to test the whole.
abbrev pub TakenWhereSorted : Type 0
TakenWhereSorted = (s : State) → Valid s → (expr : Expr) (L : Lens)
    → (lens_in (catalogue s.texts) expr ≡ Ok L) ↔ ((lens_of expr (catalogue s.texts) ≡ Some L) × (sort L ≡ Ok (sort_of L)))

-- where the expression has no lens, a name in it that has none is told, or the first refusal of a left side in it that has a lens
abbrev pub UnknownIsTold : Type 0
UnknownIsTold = (s : State) (l : Line) (text : List ℕ) (name : Name) (expr : Expr) → DefinesView s l text name expr → lens_of expr (catalogue s.texts) ≡ None
    → ((from : Name) × HasName expr from × (finmap.get (catalogue s.texts) from ≡ None) × (answer s l ≡ (unknown_name from, s)))
    ⊎ ((part : Expr) × IsLeftSide part expr × (lens : Lens) × (lens_of part (catalogue s.texts) ≡ Some lens) × (first : Refusal) × (sort lens ≡ Err first) × (answer s l ≡ (refused first, s)))

-- where its lens has no sort, the first refusal of the whole lens is told, operands before their node
abbrev pub RulesAreTold : Type 0
RulesAreTold = (s : State) (l : Line) (text : List ℕ) (name : Name) (expr : Expr) → DefinesView s l text name expr
    → (lens : Lens) → lens_of expr (catalogue s.texts) ≡ Some lens → (first : Refusal) → sort lens ≡ Err first → answer s l ≡ (refused first, s)

-- where its lens has a sort, and there are 256 views, that is told
abbrev pub FullIsTold : Type 0
FullIsTold = (s : State) (l : Line) (text : List ℕ) (name : Name) (expr : Expr) → DefinesView s l text name expr
    → (lens : Lens) → lens_of expr (catalogue s.texts) ≡ Some lens → sort lens ≡ Ok (sort_of lens) → 256 ≤ view_count (catalogue s.texts)
    → answer s l ≡ (refused (too_large views_limit), s)

-- where its lens has a sort, and there are fewer views, it is taken
abbrev pub TypedIsTaken : Type 0
TypedIsTaken = (s : State) (l : Line) (text : List ℕ) (name : Name) (expr : Expr) → DefinesView s l text name expr
    → (lens : Lens) → lens_of expr (catalogue s.texts) ≡ Some lens → sort lens ≡ Ok (sort_of lens) → view_count (catalogue s.texts) < 256
    → answer s l ≡ (defined (s.version + 1), with_defined text (view name expr) s)
