mod AccountLemmas
mod DirectoryLemmas
mod LineLemmas
mod PlainLemmas
mod RangeLemmas
mod RowLemmas
