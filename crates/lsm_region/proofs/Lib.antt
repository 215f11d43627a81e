pub mod Filling
pub mod Copying
pub mod Answering
