pub mod AppendLemmas
pub mod FileLemmas
pub mod OneListLemmas
pub mod ReopeningLemmas
