pub mod JoinLemmas
pub mod LinkLemmas
pub mod PartLemmas
