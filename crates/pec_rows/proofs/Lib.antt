pub mod RowLemmas
pub mod LinkByLink
