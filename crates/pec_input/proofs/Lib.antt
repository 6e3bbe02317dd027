mod DirectoryLemmas
mod FindingLemmas
mod LineLemmas
mod OpeningLemmas
mod PartsLemmas
mod PieceLemmas
mod TextLemmas
