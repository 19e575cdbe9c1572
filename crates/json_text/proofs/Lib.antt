pub mod Escapes
pub mod Tokens
