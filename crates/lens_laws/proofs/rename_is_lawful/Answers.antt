use Rattle.lens_laws.proofs.Rename.{rename_lawful, rename_delta_is, find_rename, has_rename}
use Rattle.lens_laws.proofs.RenameSorts.{rename_is_sound, rename_law}
use Rattle.lens_laws.proofs.rename_is_lawful.Goals as goal

pub returns : goal.returns
returns c = record {
  node = rename_lawful;
  sorts = rename_law;
  sound = rename_is_sound;
  delta = rename_delta_is;
  find = find_rename;
  has = has_rename;
}
