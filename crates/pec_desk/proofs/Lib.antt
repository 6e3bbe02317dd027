pub mod DeskLemmas
pub mod KeyLemmas
pub mod LimitLemmas
pub mod LookLemmas
pub mod OwnLemmas
pub mod PassLemmas
pub mod ShareLemmas
