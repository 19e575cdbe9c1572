use Rattle.fd_laws.proofs.Implied.{implies_is}
use Rattle.std.specs.FinMap as map
use Rattle.lens_specs.specs.Common.{names}
use Rattle.fd_laws.proofs.Closures.{closure_is, implies_sound, implies_complete, witness, witness_fits}
use Rattle.fd_laws.proofs.closures_are_right.Goals as goal

pub returns : goal.returns
returns c = record {
  least = closure_is;
  sound = implies_sound;
  implies = implies_is;
  complete = λ U X Y C F is wx wy wf. let w = implies_complete (names U) (map.get U) X Y C F is wx wy wf in (witness (names U) (map.get U) C, witness_fits U C, w.0, w.1);
}
