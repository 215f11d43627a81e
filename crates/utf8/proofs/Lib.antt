pub mod Lent
pub mod Pieces
pub mod Text
