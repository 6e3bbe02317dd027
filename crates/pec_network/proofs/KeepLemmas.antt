-- What a network in a Sound state keeps: the journals of a round that memory stopped are Fit.
use Rattle.std.proofs.Common.{ℕ, false, List, [], ◌∙◌, sym, subst}
use Rattle.std.proofs.lemmas.List.{append-nil}
use Rattle.std.proofs.lemmas.Option.{none-some}
use Rattle.pec_records.specs.declared.entries.Entry.{Entry}
use Rattle.pec_ledger.specs.Ledger.{Fit, Journals}
use Rattle.pec_ledger.specs.Network.{FollowsState, Site, Sound, journal_at, journals_of}
use Rattle.pec_ledger.specs.Trade.{Trade}
use Rattle.pec_plays.specs.Commands.{Luck, Round, played}
use Rattle.pec_plays.specs.Scripts.{PutsNoneForged}
use Rattle.pec_network.specs.Rounds.{PutsNothingInstead, StopsWithin}

-- a journal follows the state that it is in
pub follows_itself : (trade : Trade) (state : List Site) (provider : ℕ)
    → FollowsState trade state provider (journal_at state provider)
follows_itself trade state provider =
    record { choice = false; further = []; is = sym (append-nil (journal_at state provider)); follows = tt }

-- what a round left that memory stopped is Fit, where the state that its luck leads to is Sound
pub stopped_fit : (trade : Trade) (moment : ℕ) (old left : List Site) (stops : StopsWithin trade moment old left)
    → Sound trade (played trade stops.luck old (Round moment)).after
    → ((state : List Site) → Sound trade state → (images : Journals)
    → ((provider : ℕ) → FollowsState trade state provider (images provider)) → Fit trade images)
    → Fit trade (journals_of left)
stopped_fit trade moment old left stops sound any =
    any (played trade stops.luck old (Round moment)).after sound (journals_of left) (λ provider.
    subst (λ (l : List Entry). FollowsState trade (played trade stops.luck old (Round moment)).after provider l)
    (sym (stops.journals provider)) (follows_itself trade (played trade stops.luck old (Round moment)).after provider))

-- where no other frames are put none is forged
pub none_forged : (trade : Trade) (luck : Luck) (sites : List Site) (moment : ℕ) → PutsNothingInstead luck
    → PutsNoneForged trade luck sites moment
none_forged trade luck sites moment instead = λ provider out within is.
    absurd (none-some out (sym (instead provider) ∙ is))
