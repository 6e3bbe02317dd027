-- The laws of what a screen finds, from the lemmas.
use Rattle.pec_screen.proofs.OccurrenceLemmas.{occurs_is, is_occurs}
use Rattle.pec_screen.proofs.RuleLemmas.{rule_is, is_rule, none_is, is_none}
use Rattle.pec_screen.proofs.patterns.a_rule_is_the_least_pattern.Goals as goal

pub returns-clause-occurs : goal.returns-clause-occurs
returns-clause-occurs c = λ pattern message. (occurs_is pattern message, is_occurs pattern message)

pub returns-clause-rule : goal.returns-clause-rule
returns-clause-rule c = λ patterns message rule. (rule_is patterns message rule, is_rule patterns message rule)

pub returns-clause-none : goal.returns-clause-none
returns-clause-none c = λ patterns message. (none_is patterns message, is_none patterns message)
