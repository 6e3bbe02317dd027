-- Where the entry of a taken message holds no envelope of it, a charge that is owed can't be composed.
use Rattle.std.proofs.Common.{ℕ, List, [], ◌∷◌, refl, arith}
use Rattle.std.specs.Prelude.{Contains}
use Rattle.std.proofs.lemmas.Bool.{eq-eqb}
use Rattle.pec_types.specs.Message.{Id}
use Rattle.pec_types.specs.declared.letters.Letter.{Letter}
use Rattle.pec_types.specs.declared.letters.Letter.TheVariants as letters
use Rattle.pec_records.specs.declared.entries.Entry.{Entry}
use Rattle.pec_ledger.specs.Due.{due_letters}
use Rattle.pec_ledger.specs.Half.{Half}
use Rattle.pec_ledger.specs.Steps.{half}
use Rattle.pec_ledger.specs.Trade.{Trade}
use Rattle.pec_provider.specs.Reading.{LetterIsChanged}
use Rattle.pec_extract.specs.Reading.{IsLogChanged}

abbrev pub owed_charge : ℕ → Id → List Letter
owed_charge me id = letters.Charge id me ∷ []

due_charge : (trade : Trade) (me : ℕ) (half : Half) (id : Id)
    → Contains (due_letters trade me half id.provider 1 (owed_charge me id)) (letters.Charge id me)
unfolding due_letters
due_charge trade me half id = rw (eq-eqb id.provider id.provider refl) (0, omega arith, refl)

pub changed_letter : (trade : Trade) (me : ℕ) (journal : List Entry) (number : ℕ)
    → (changed : IsLogChanged trade me journal number)
    → LetterIsChanged trade me journal changed.id.provider 1 (owed_charge me changed.id) number
changed_letter trade me journal number changed = record {
  letter = letters.Charge changed.id me;
  due = due_charge trade me (half trade me journal) changed.id;
  is = changed.is;
}
