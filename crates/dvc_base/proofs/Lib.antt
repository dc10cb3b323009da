pub mod NormalLemmas
pub mod PathLemmas
pub mod NameLemmas
pub mod FaultLemmas
