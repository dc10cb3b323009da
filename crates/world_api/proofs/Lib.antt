pub mod HistoryLemmas
pub mod LaneLemmas
pub mod OutputLemmas
pub mod TreeLemmas
pub mod ValueLemmas
pub mod WriteLemmas
