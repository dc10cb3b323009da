pub mod NodeLemmas
pub mod ValueLemmas
pub mod SidesLemmas
pub mod KeyLemmas
pub mod NothingLemmas
