-- What the crates above name of summaries: this crate hands it on, so that they needn't list what stands below.
pub use Rattle.pec_shelf.specs.Summaries.{IsUpTo, most_pairs, nothing_yet, plus, summary_of, summary_within, total_from, total_of}
pub use Rattle.pec_shelf.specs.declared.summing.Summary.{Summary}
