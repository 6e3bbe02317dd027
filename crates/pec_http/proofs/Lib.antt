pub mod InputLemmas
pub mod PhraseLemmas
pub mod ReplyLemmas
pub mod RowLemmas
pub mod ServingLemmas
