-- Both sources of a join merged with an edit of it, and what they then join too much.
use Rattle.std.specs.Prelude.{◌≡◌, List}
use Rattle.lens_specs.specs.Common.{names, Delta, diff, Edge, join_left, join_over, join_right, Relation, project}
use Rattle.lens_laws.specs.KeyedDeltas.{merge_delta}
use Rattle.fd_laws.specs.Trees.{IsTree}
use Rattle.join_delta.specs.Joined.{edited}
use Rattle.join_delta.specs.Pairs.{AreSides}
use Rattle.join_delta.specs.declared.sources.Merged.{Merged}
use Rattle.join_delta.specs.declared.sources.Merges.{Merges}

-- what merging the sources A and B with the parts of the added rows of d changes in them, where F and G are their trees
pub record AreMerges (A B : Relation) (F G : List Edge) (d : Delta) (m : Merges) : Type 0 where
  pub left_rows : m.left_rows ≡ project (names A.columns) d.add
  pub right_rows : m.right_rows ≡ project (names B.columns) d.add
  pub left : ◌≡◌ {A = Delta} (record { remove = m.left.remove; add = m.left.add }) (merge_delta F A.rows m.left_rows)
  pub right : m.right ≡ merge_delta G B.rows m.right_rows
  pub left_tree : IsTree F
  pub right_tree : IsTree G

-- what merging makes of the sources A and B with the trees F and G, for the edit d of their join
pub record IsMerged (A B : Relation) (F G : List Edge) (d : Delta) (m : Merged) : Type 0 where
  pub sides : AreSides A.columns B.columns m.sides
  pub left : m.left ≡ diff A.rows (join_left (names A.columns) F (edited A B d) A.rows)
  pub right : m.right ≡ diff B.rows (join_right (names B.columns) G (edited A B d) B.rows)
  -- the right parts of the added rows
  pub parts : m.parts ≡ project (names B.columns) d.add
  -- the rows that are joined and that the edited view lacks
  pub over : m.over ≡ join_over (names A.columns) (names B.columns) F G (edited A B d) A.rows B.rows
