use Rattle.lens_specs.specs.Common.{sort_of}
use Rattle.server_specs.specs.Common.{of_sort}
use Rattle.server_specs.proofs.Sent.{sent_fit}
use Rattle.server_laws.proofs.Puts.{accepted_or_refused, accepted_where, clashes_by, refused_by, put_then_read, changes_told, changes_differ, others_stay, read_then_put}
use Rattle.server_laws.proofs.Stored.{lens_here}
use Rattle.server_laws.proofs.puts_are_lawful.Goals as goal

pub returns : goal.returns
returns c = record {
  fits = sent_fit;
  accepted = λ s name L N p. accepted_where L N s p.rows;
  refused = λ s name L N p. refused_by L N s;
  clashes = λ s name L N p. clashes_by L N s;
  either = λ s name L N p. accepted_or_refused L N s;
  put_get = λ s name L N p. put_then_read s L N (lens_here s p.valid name L p.lens) p.rows;
  told = λ s name L N p. changes_told L N s;
  differences = λ s name L N p. changes_differ L N s;
  others = λ s name L N p. others_stay (of_sort (sort_of L) N) L s;
  get_put = read_then_put;
}
