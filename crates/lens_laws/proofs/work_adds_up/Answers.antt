use Rattle.lens_laws.proofs.Work.{size_some, join_looks, work_grows, keyed_work, select_work, drop_work, rename_work, join_work, view_edges_few}
use Rattle.lens_laws.proofs.work_adds_up.Goals as goal

pub returns : goal.returns
returns c = record {
  some = size_some;
  looks = join_looks;
  grows = work_grows;
  keyed = keyed_work;
  select = select_work;
  drop = drop_work;
  rename = rename_work;
  join = join_work;
  edges = view_edges_few;
}
