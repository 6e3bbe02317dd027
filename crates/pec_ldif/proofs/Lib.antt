pub mod AttributeLemmas
mod DirectoryLaws
pub mod GroupLemmas
pub mod LdifLaws
pub mod LineLemmas
mod NumberLemmas
pub mod RecordLemmas
mod TableLemmas
pub mod ValueLemmas
pub mod VersionLemmas
mod WritingLemmas
mod WrittenGood
mod WrittenLines
mod WrittenRecords
mod WrittenTables
mod WrittenValues
