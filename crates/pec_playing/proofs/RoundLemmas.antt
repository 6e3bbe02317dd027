-- Rounds: a fault of a disk is told of the provider of a number by its own turn alone.
use Rattle.std.proofs.Common.{◌≡◌, ◌≢◌, ◌⊎◌, inl, inr, ℕ, zero, suc, ◌+◌, ◌<◌, ◌==◌, ◌&&◌, Bool, true, false, List, []}
use Rattle.std.proofs.Common.{◌∷◌, length, refl, ap, sym, subst, ◌∙◌, arith, Global, Vec, Option, Some, None, Result}
use Rattle.std.proofs.Common.{Ok}
use Rattle.std.specs.Prelude.{IsErr, filter, if◌then◌else◌, slice_get}
use Rattle.std.proofs.lemmas.Bool.{eq-eqb, ne_eqb}
use Rattle.std.proofs.lemmas.List.Elements.{All-weaker}
use Rattle.std.proofs.lemmas.Option.{slice_get_within}
use Rattle.pec_outside.specs.DiskModel.{Sight}
use Rattle.pec_types.specs.declared.faults.NoMemory.{NoMemory}
use Rattle.pec_types.specs.declared.turns.ProviderFault.{ProviderFault}
use Rattle.pec_types.specs.declared.turns.ProviderFault.TheVariants as faults
use Rattle.pec_types.specs.declared.turns.Turn.{Turn}
use Rattle.pec_directory.specs.Directory.{Provider, providers_of}
use Rattle.pec_ledger.specs.Network.{Site}
use Rattle.pec_ledger.specs.Trade.{Trade}
use Rattle.pec_plays.specs.Commands.{Answer, Luck, Played, Round, Turns, played}
use Rattle.pec_plays.specs.Rounds.{rounded, sent_from, told_from, turns_from, turns_of}
use Rattle.pec_plays.specs.Turns.{Cut, Turned}
use Rattle.pec_posts.specs.Arrivals.{Waiting}
use Rattle.pec_screen.specs.Verdicts.{Patterns}
use Rattle.pec_network.specs.OfProviders.{ProviderState}
use Rattle.pec_network.specs.Network.{NetworkState, behind_first, sites, sites_of}
use Rattle.pec_network.specs.Carrying.{AllStand}
use Rattle.pec_network.specs.Rounds.{BlamesDisks, IsRound, NoneChanged, StopsWithin, luck_of_cuts}
use Rattle.pec_script.specs.Texts.{turns_text}
use Rattle.pec_runs.specs.AnswerLines.{answer_text}
use Rattle.pec_runs.specs.Plays.{IsUnchanged, RoseBy, faults_in, is_change, is_disk_fault}
use Rattle.pec_runs.specs.Ran.{Within}
use Rattle.pec_playing.specs.Doing.{Does, Keeps}
use Rattle.pec_playing.specs.Playing.{counts_in}
use Rattle.pec_playing.proofs.CountLemmas.{counts_rose, counts_stay}
use Rattle.pec_playing.proofs.PlayLemmas.{GaveBack, does_say, does_stop, left_so, played_so}

pub sites_count : {D : Type 0} (providers : List (ProviderState D)) (screens : List (List Patterns))
    (waiting : List Waiting) → length (sites_of providers screens waiting) ≡ length providers
sites_count [] screens waiting = refl
sites_count (provider ∷ providers) screens waiting =
    ap suc (sites_count providers (behind_first screens) (behind_first waiting))

-- ---- faults that turns tell

abbrev told_of : ℕ → Turned → Turn
told_of number turn =
    record { provider = number; events = turn.events; sent = sent_from 0 turn.out; ended = turn.ended }

abbrev tests : ℕ → Turn → Bool
tests provider turn = (turn.provider == provider) && is_disk_fault turn.ended

abbrev counted : Bool → Turn → List Turn → List Turn
counted b turn turns = if b then turn ∷ turns else turns

-- a turn that tells no fault of this provider
skips : (provider : ℕ) (turn : Turn) (turns : List Turn) → tests provider turn ≡ false
    → faults_in provider (turn ∷ turns) ≡ faults_in provider turns
skips provider turn turns none = ap (λ (b : Bool). length (counted b turn (filter (tests provider) turns))) none

takes : (provider : ℕ) (turn : Turn) (turns : List Turn) → tests provider turn ≡ true
    → faults_in provider (turn ∷ turns) ≡ faults_in provider turns + 1
takes provider turn turns some =
    ap (λ (b : Bool). length (counted b turn (filter (tests provider) turns))) some ∙ omega arith

another : (number provider : ℕ) (turn : Turned) → number ≢ provider → tests provider (told_of number turn) ≡ false
another number provider turn differ = ap (λ (b : Bool). b && is_disk_fault turn.ended) (ne_eqb number provider differ)

its_own : (number : ℕ) (turn : Turned) → tests number (told_of number turn) ≡ is_disk_fault turn.ended
its_own number turn = ap (λ (b : Bool). b && is_disk_fault turn.ended) (eq-eqb number number refl)

-- turns of later providers
none_below : (provider number : ℕ) (turns : List Turned) → provider < number → faults_in provider
    (told_from number turns) ≡ 0
none_below provider number [] l = refl
none_below provider number (turn ∷ turns) l =
    skips provider (told_of number turn) (told_from (number + 1) turns)
    (another number provider turn (λ e. omega (arith, e, l)))
    ∙ none_below provider (number + 1) turns (omega arith)

fault_of : (ended : Option ProviderFault) → is_disk_fault ended ≡ true → ended ≡ Some faults.DiskFault
fault_of None e = absurd cc
fault_of (Some faults.DiskFault) e = refl
fault_of (Some faults.Down) e = absurd cc
fault_of (Some (faults.ClockBack last)) e = absurd cc
fault_of (Some faults.NoAccount) e = absurd cc
fault_of (Some faults.Full) e = absurd cc
fault_of (Some faults.NoItem) e = absurd cc
fault_of (Some faults.JournalFull) e = absurd cc
fault_of (Some faults.OldJournal) e = absurd cc
fault_of (Some faults.NoNeed) e = absurd cc
fault_of (Some faults.NoMemory) e = absurd cc
fault_of (Some (faults.Changed entry)) e = absurd cc

-- none, or one by the turn at this place
pub record Once (turns : List Turn) (place count : ℕ) : Type 0 where
  pub one : count ≡ 1
  pub turn : Turn
  pub there : slice_get turns place ≡ Some turn
  pub ended : turn.ended ≡ Some faults.DiskFault

first_by : (b : Bool) (number : ℕ) (turn : Turned) (turns : List Turned) → is_disk_fault turn.ended ≡ b
    → (faults_in number (told_from number (turn ∷ turns)) ≡ 0)
    ⊎ Once (told_from number (turn ∷ turns)) 0 (faults_in number (told_from number (turn ∷ turns)))
first_by true number turn turns is =
    inr (record {
      one = takes number (told_of number turn) (told_from (number + 1) turns) (its_own number turn ∙ is)
          ∙ ap (λ (n : ℕ). n + 1) (none_below number (number + 1) turns (omega arith));
      turn = told_of number turn;
      there = refl;
      ended = fault_of turn.ended is;
    })
first_by false number turn turns is =
    inl (skips number (told_of number turn) (told_from (number + 1) turns) (its_own number turn ∙ is)
    ∙ none_below number (number + 1) turns (omega arith))

later_by : (provider place count : ℕ) (turn : Turn) (turns : List Turn) → tests provider turn ≡ false
    → (faults_in provider turns ≡ 0) ⊎ Once turns place (faults_in provider turns)
    → (faults_in provider (turn ∷ turns) ≡ 0) ⊎ Once (turn ∷ turns) (suc place) (faults_in provider (turn ∷ turns))
later_by provider place count turn turns none (inl zero_told) = inl (skips provider turn turns none ∙ zero_told)
later_by provider place count turn turns none (inr once) =
    inr (record {
      one = skips provider turn turns none ∙ once.one;
      turn = once.turn;
      there = once.there;
      ended = once.ended;
    })

none_or_once : (number place provider : ℕ) (turns : List Turned) → provider ≡ number + place
    → (faults_in provider (told_from number turns) ≡ 0)
    ⊎ Once (told_from number turns) place (faults_in provider (told_from number turns))
none_or_once number place provider [] is = inl refl
none_or_once number zero provider (turn ∷ turns) is =
    subst (λ (p : ℕ). (faults_in p (told_from number (turn ∷ turns)) ≡ 0)
    ⊎ Once (told_from number (turn ∷ turns)) 0 (faults_in p (told_from number (turn ∷ turns))))
    (let e : number ≡ provider = omega (arith, is) in e) (first_by (is_disk_fault turn.ended) number turn turns refl)
none_or_once number (suc place) provider (turn ∷ turns) is =
    later_by provider place 0 (told_of number turn) (told_from (number + 1) turns)
    (another number provider turn (λ e. omega (arith, e, is)))
    (none_or_once (number + 1) place provider turns (omega (arith, is)))

turns_in : Answer → List Turn
turns_in (Turns turns) = turns
turns_in _ = []

-- the turns of a round are told from the first provider on
turns_are : (trade : Trade) (luck : Luck) (state after : List Site) (moment : ℕ) (turns : List Turn)
    → played trade luck state (Round moment) ≡ record { answer = Turns turns; after = after }
    → turns ≡ told_from 0 (turns_of trade moment luck.cuts state)
unfolding played rounded turns_in
turns_are trade luck state after moment turns is = ap (λ (p : Played). turns_in p.answer) (sym is)

length_told : (number : ℕ) (turns : List Turned) → length (told_from number turns) ≡ length turns
length_told number [] = refl
length_told number (turn ∷ turns) = ap suc (length_told (number + 1) turns)

length_turns : (trade : Trade) (now : ℕ) (all : List Site) (cuts : ℕ → Cut) (number : ℕ) (state : List Site)
    → length (turns_from trade now all cuts number state) ≡ length state
length_turns trade now all cuts number [] = refl
length_turns trade now all cuts number (site ∷ state) = ap suc (length_turns trade now all cuts (number + 1) state)

-- there is a turn for each site
as_many_turns : (trade : Trade) (luck : Luck) (state after : List Site) (moment : ℕ) (turns : List Turn)
    → played trade luck state (Round moment) ≡ record { answer = Turns turns; after = after }
    → length turns ≡ length state
unfolding turns_of
as_many_turns trade luck state after moment turns is =
    ap (λ (l : List Turn). length l) (turns_are trade luck state after moment turns is)
    ∙ length_told 0 (turns_of trade moment luck.cuts state) ∙ length_turns trade moment state luck.cuts 0 state

turns_line : (providers : List Provider) (turns : List Turn) → answer_text providers
    (Turns turns) ≡ turns_text providers turns
unfolding answer_text
turns_line providers turns = refl

-- ---- entries that changed

not_changed : (ended : Option ProviderFault) → ((entry : ℕ) → ended ≢ Some (faults.Changed entry))
    → is_change ended ≡ false
not_changed None never = refl
not_changed (Some (faults.Changed entry)) never = absurd (never entry refl)
not_changed (Some faults.DiskFault) never = refl
not_changed (Some faults.Down) never = refl
not_changed (Some (faults.ClockBack last)) never = refl
not_changed (Some faults.NoAccount) never = refl
not_changed (Some faults.Full) never = refl
not_changed (Some faults.NoItem) never = refl
not_changed (Some faults.JournalFull) never = refl
not_changed (Some faults.OldJournal) never = refl
not_changed (Some faults.NoNeed) never = refl
not_changed (Some faults.NoMemory) never = refl

none_changed : (turns : List Turn) → NoneChanged turns → IsUnchanged (Turns turns)
none_changed turns all =
    All-weaker (λ (turn : Turn). (entry : ℕ) → turn.ended ≢ Some (faults.Changed entry))
    (λ (turn : Turn). is_change turn.ended ≡ false) (λ turn never. not_changed turn.ended never) turns all

-- ---- a round

module _ {D S : Type 0} (sight : D → Sight) (count : D → ℕ) (disks : Type 0) (trade : Trade) (moment : ℕ)
    (old new : NetworkState D S) (keeps : Keeps sight count disks old new)
    (many : length new.providers ≡ length old.providers) where
  abbrev Stood : Type 0
  Stood = disks × AllStand sight old.providers

  module _ (turns : List Turn) (is : IsRound Stood trade moment (sites old) turns (sites new))
      (blames : BlamesDisks count turns old.providers new.providers) where
    abbrev luck : Luck
    luck = luck_of_cuts is.cuts

    gave : GaveBack Stood trade (sites old) (Round moment) luck
    gave = record {
      kept = is.kept;
      shown = λ stood. refl;
      unchanged = λ stood world sound.
          subst (λ (p : Played). IsUnchanged p.answer) (sym is.is) (none_changed turns (is.unchanged stood sound));
    }

    rises : (elsewhere : ℕ → ℕ) (provider : ℕ) (told : ℕ) → (told ≡ 0) ⊎ Once turns provider told
        → RoseBy told (counts_in count old.providers elsewhere provider)
        (counts_in count new.providers elsewhere provider)
    rises elsewhere provider told (inl none) =
        counts_stay count old.providers new.providers many elsewhere keeps.later provider told none
    rises elsewhere provider told (inr once) =
        let within : provider < length old.providers =
        omega (
          arith,
          slice_get_within turns provider once.turn once.there,
          as_many_turns trade luck (sites old) (sites new) moment turns is.is,
          sites_count old.providers old.screens old.waiting,
        ) in
        subst (λ (n : ℕ). RoseBy n (counts_in count old.providers elsewhere provider)
        (counts_in count new.providers elsewhere provider))
        (sym once.one)
        (counts_rose count old.providers new.providers many elsewhere keeps.later provider within
        (blames provider once.turn once.there once.ended))

    counts : (elsewhere : ℕ → ℕ) (provider : ℕ)
        → RoseBy (faults_in provider turns) (counts_in count old.providers elsewhere provider)
        (counts_in count new.providers elsewhere provider)
    counts elsewhere provider =
        let told = turns_are trade luck (sites old) (sites new) moment turns is.is in
        rises elsewhere provider (faults_in provider turns)
        (subst (λ (l : List Turn). (faults_in provider l ≡ 0) ⊎ Once l provider (faults_in provider l)) (sym told)
        (none_or_once 0 provider provider (turns_of trade moment is.cuts (sites old)) (omega arith)))

    pub round_says : (text : Vec ℕ Global) → text.items ≡ turns_text (providers_of old.kept) turns
        → Does sight count disks trade (Round moment) old new (Ok text)
    round_says text written =
        does_say sight count disks trade (Round moment) old new keeps text (λ elsewhere.
        played_so Stood trade (sites old) (Round moment) (providers_of old.kept)
        (counts_in count old.providers elsewhere) (counts_in count new.providers elsewhere) luck (Turns turns)
        (sites new) text.items is.is is.may is.memory (counts elsewhere) gave (written ∙ sym (turns_line (providers_of old.kept) turns)))

    pub round_is_left : (result : Result (Vec ℕ Global) NoMemory) → IsErr result → Does sight count disks trade
        (Round moment) old new result
    round_is_left result failed =
        does_stop sight count disks trade (Round moment) old new keeps result failed
        (left_so trade (sites old) (Round moment) luck (Turns turns) (sites new) is.is)

  pub round_stops : StopsWithin trade moment (sites old) (sites new) → (result : Result (Vec ℕ Global) NoMemory)
      → IsErr result
      → Does sight count disks trade (Round moment) old new result
  round_stops stops result failed =
      does_stop sight count disks trade (Round moment) old new keeps result failed
      (Within (Round moment) stops.luck refl stops.journals stops.interrupted)
