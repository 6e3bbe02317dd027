mod OccurrenceLemmas
mod RuleLemmas
mod VerdictLemmas
