mod ScriptLemmas
mod StatusLemmas
