pub mod FaultLemmas
pub mod ClashLemmas
pub mod EdgeLemmas
pub mod GraphLemmas
pub mod CycleLemmas
