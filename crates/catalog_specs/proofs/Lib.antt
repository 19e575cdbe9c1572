pub mod Catalogues
pub mod Judged
