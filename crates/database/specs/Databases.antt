-- The words of a database: the state that it stands for, its lenses, what a request needs of it, and what it comes to.
pub use Rattle.database.specs.States.{state_of}
pub use Rattle.database.specs.Keyed.{IsKeyed, IsOpen, IsSame}
pub use Rattle.database.specs.Premises.{CanAnswer, CanRead}
pub use Rattle.database.specs.Plans.{CanAccept, IsChange, IsPlan}
pub use Rattle.catalog_specs.specs.Catalogue.{catalogue}
