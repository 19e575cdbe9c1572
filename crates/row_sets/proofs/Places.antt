-- The place that a binary search finds in a strictly rising list, and a member put there.
pub use Rattle.lens_values.proofs.Places.{searched, put_rises, put_at}
