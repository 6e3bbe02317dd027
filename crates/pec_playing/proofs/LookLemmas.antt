-- How often screens have looked, whatever a submission was answered.
use Rattle.std.proofs.Common.{◌≡◌, ◌⊎◌, ℕ, List, [], inl, inr, Ok, Err, get_or}
use Rattle.std.specs.Prelude.{Result}
use Rattle.pec_types.specs.declared.turns.ProviderFault.{ProviderFault}
use Rattle.pec_types.specs.declared.turns.ProviderFault.TheVariants as faults
use Rattle.pec_network.specs.Looking.{OnlyLooks}
use Rattle.pec_network.specs.OfProviders.{Case, Looked, Looks}
use Rattle.pec_playing.specs.Looking.{MayLook}

either : {X : Type 0} (case : Case) (before after : List ℕ) (result : Result X ProviderFault) → Looks case before after result
    → (after ≡ before) ⊎ Looked case before after
either case before after (Ok value) looks = inr looks
either case before after (Err faults.JournalFull) looks = inr looks
either case before after (Err faults.DiskFault) looks = inr looks
either case before after (Err faults.NoMemory) looks = looks
either case before after (Err faults.Down) looks = inl looks
either case before after (Err (faults.ClockBack moment)) looks = inl looks
either case before after (Err faults.NoAccount) looks = inl looks
either case before after (Err faults.Full) looks = inl looks
either case before after (Err faults.NoItem) looks = inl looks
either case before after (Err faults.OldJournal) looks = inl looks
either case before after (Err faults.NoNeed) looks = inl looks
either case before after (Err (faults.Changed entry)) looks = inl looks

pub may_look : {X : Type 0} (provider : ℕ) (case : Case) (before after : List (List ℕ)) (result : Result X ProviderFault)
    → OnlyLooks provider case before after result → MayLook provider case before after
may_look provider case before after result looks = record {
  own = either case (get_or before provider []) (get_or after provider []) result looks.own;
  others = looks.others;
}
