pub mod Pairs
pub mod Chunked
pub mod Turning
pub mod Walking
pub mod Judging
pub mod Asking
