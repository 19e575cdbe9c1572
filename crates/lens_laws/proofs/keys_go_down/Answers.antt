use Rattle.lens_laws.proofs.Asked.{hands_down, keys_reach, shared_keyed}
use Rattle.lens_laws.proofs.keys_go_down.Goals as goal

pub returns : goal.returns
returns c = record {
  down = hands_down;
  reach = keys_reach;
  shared = shared_keyed;
}
