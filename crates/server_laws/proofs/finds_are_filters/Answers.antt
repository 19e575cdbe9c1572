use Rattle.server_laws.proofs.Finding.{finds_are_filters, finds_know_their_column, finds_know_their_view, found_values_fit}
use Rattle.server_laws.proofs.finds_are_filters.Goals as goal

pub returns : goal.returns
returns c = record { found = finds_are_filters; unknown = finds_know_their_view; column = finds_know_their_column; value = found_values_fit }
