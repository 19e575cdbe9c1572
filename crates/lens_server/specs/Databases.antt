-- The words of a database: the state that it stands for, its lenses, what a request needs of it, and what it comes to.
pub use Rattle.opened_view.specs.Seen.{lens_of, tables_under}
pub use Rattle.database.specs.Databases.{CanAccept, CanAnswer, CanRead, IsChange, IsKeyed, IsOpen, IsPlan, IsSame, catalogue, state_of}
pub use Rattle.database.specs.Opening.{CanOpen, IsOpened}
