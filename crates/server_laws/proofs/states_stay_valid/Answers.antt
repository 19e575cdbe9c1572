use Rattle.lens_laws.proofs.Common.{get_sort, get_after, put_back}
use Rattle.server_laws.proofs.Keys.{all_keyed}
use Rattle.server_laws.proofs.Stored.{lens_here}
use Rattle.server_laws.proofs.Valid.{fresh_is_valid, valid_answer, valid_session}
use Rattle.server_laws.proofs.states_stay_valid.Goals as goal

pub returns : goal.returns
returns c = record {
  fresh = fresh_is_valid;
  answers = valid_answer;
  sessions = valid_session;
  lenses = λ s v name L e. let h = lens_here s v name L e in (h.known.sorted, h.typed, h.are);
  keys = λ s v short name L e. all_keyed s.texts short v.definitions name L e;
  lawful = λ s v name L e. let h = lens_here s v name L e in record {
    shows = get_sort L s.tables h.typed h.are;
    stays = λ N n. (get_after L s.tables h.typed h.are N n).0;
    put_get = λ N n. (get_after L s.tables h.typed h.are N n).1;
    get_put = put_back L s.tables h.typed h.are;
  };
}
