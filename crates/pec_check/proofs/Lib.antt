pub mod FindingLemmas
pub mod GenuineLemmas
pub mod HomeLemmas
pub mod PairLemmas
