pub mod ChangeLemmas
pub mod LogLemmas
pub mod ReadBackLemmas
pub mod RememberLemmas
pub mod WholeLemmas
pub mod WritingLemmas
