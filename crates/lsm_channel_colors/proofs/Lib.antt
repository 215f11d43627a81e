pub mod Read
pub mod Zeros
pub mod Looked
