-- The first verb of all is that of the verbs that are left.
use Rattle.std.proofs.Common.{◌≡◌, drop}
use Rattle.std.specs.Prelude.{find}
use Rattle.std.specs.Str.{bytes_eq}
use Rattle.pec_script.specs.LinesReading.{word_of}
use Rattle.pec_script.specs.declared.verbs.Verb.{Verb}
use Rattle.pec_script.proofs.verbs.first_of.Given as goal

abbrev pub invariant-loop-verb : goal.invariant-loop-verb
invariant-loop-verb l =
    find (λ (verb : Verb). bytes_eq l.word (word_of verb)) (drop l.verb-index l.verbs) ≡ find (λ (verb : Verb). bytes_eq l.word (word_of verb)) l.verbs
