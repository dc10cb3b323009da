pub mod NumberLemmas
pub mod SeatLemmas
pub mod OrderLemmas
pub mod TakenLemmas
pub mod WalkLemmas
pub mod ClosureLemmas
