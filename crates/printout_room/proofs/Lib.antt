pub mod Lengths
pub mod Texts
pub mod Names
pub mod Refusals
pub mod Channels
pub mod Described
pub mod Room
