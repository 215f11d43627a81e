pub mod Walks
pub mod Circles
pub mod Entries
pub mod Going
pub mod Turns
pub mod Words
