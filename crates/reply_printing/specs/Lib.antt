pub mod Answers
pub mod ChangesCode
pub mod Printing
pub mod Refusals
pub mod ReplyBytes
