-- What a lens of the code stands for, and the sort that its root keeps.
use Rattle.lens_specs.specs.Lens as spec
use Rattle.lens_specs.specs.Sort.{Sort}
use Rattle.lens_types.specs.declared.lens.Lens.{Lens}
use Rattle.lens_types.specs.declared.lens.Lens.TheVariants.{Base, Select, Drop, Rename, Join}

-- the lens of the definition; each source is seen as its own
abbrev pub lens_view : Lens → spec.Lens
lens_view (Base table sort) = spec.base table sort
lens_view (Select pred of sort) = spec.select pred of.value
lens_view (Drop col by fill of sort) = spec.drop col by fill of.value
lens_view (Rename col to of sort) = spec.rename col to of.value
lens_view (Join kind left right sort) = spec.join kind left.value right.value

-- the sort of the root
abbrev pub kept_sort : Lens → Sort
kept_sort (Base table sort) = sort
kept_sort (Select pred of sort) = sort
kept_sort (Drop col by fill of sort) = sort
kept_sort (Rename col to of sort) = sort
kept_sort (Join kind left right sort) = sort
