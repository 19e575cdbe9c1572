pub mod Numbers
pub mod PlaceLemmas
pub mod RecordLemmas
pub mod RowLemmas
pub mod TextLemmas
