pub mod PieceLemmas
pub mod PutLemmas
pub mod ToldLemmas
pub mod LetterLemmas
