mod LineLemmas
mod LookupLemmas
mod ReadBackLemmas
mod CertLemmas
mod QuestionLemmas
mod MadeLemmas
