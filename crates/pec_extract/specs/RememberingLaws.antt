-- One message has one number: the law of the numbers by which messages are found.
use Rattle.std.proofs.Common.{◌≡◌, ◌==◌, ◌+◌, ◌*◌, true, sym}
use Rattle.std.specs.Cmp.{first_so, second_so}
use Rattle.std.proofs.lemmas.Bool.{eqb-true}
use Rattle.pec_types.specs.Message.{Id}
use Rattle.pec_types.specs.declared.messages.TheConstants.{MESSAGES}
use Rattle.pec_ledger.specs.Pairs.{same_id}
use Rattle.pec_extract.specs.Remembering.{number_of}

pub of_id : (a b : Id) → same_id a b ≡ true → number_of b ≡ number_of a
unfolding number_of
of_id a b same i =
    sym (eqb-true a.provider b.provider (first_so (a.provider == b.provider) (a.number == b.number) same)) i * MESSAGES
    + sym (eqb-true a.number b.number (second_so (a.provider == b.provider) (a.number == b.number) same)) i
