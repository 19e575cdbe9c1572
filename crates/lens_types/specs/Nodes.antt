-- The lens that a node and the lenses under it make.
use Rattle.lens_specs.specs.Lens as spec
use Rattle.lens_types.specs.declared.node.Node.{Node}
use Rattle.lens_types.specs.declared.node.Node.TheVariants.{Base, Select, Drop, Rename, Join}

-- the lens of a node
abbrev pub node_lens : Node → spec.Lens
node_lens (Base table sort) = spec.base table.now sort.now
node_lens (Select pred of) = spec.select pred.now of.now
node_lens (Drop col by fill of) = spec.drop col.now by.now fill.now of.now
node_lens (Rename col to of) = spec.rename col.now to.now of.now
node_lens (Join kind left right) = spec.join kind left.now right.now
