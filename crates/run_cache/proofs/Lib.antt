pub mod TreeLemmas
mod DigestLemmas
pub mod CanonicalLemmas
pub mod PathLemmas
mod RecordLemmas
