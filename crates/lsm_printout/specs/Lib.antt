pub mod Put
pub mod Channel
