pub mod TestLemmas
pub mod FirstLemmas
pub mod RunLemmas
pub mod PlaceLemmas
