pub mod RowEntries
pub mod Lines
pub mod RisingMembers
pub mod RefusalTokens
pub mod Tokens
