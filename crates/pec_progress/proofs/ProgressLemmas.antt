-- Rounds without faults, one after another: what was accepted before them is taken and decided behind the second, known
-- behind the third and acknowledged behind the fourth.
use Rattle.std.proofs.Common.{◌≡◌, ℕ, ◌<◌, ◌≤◌, List, [], ◌∷◌, true, ◌⊎◌, inl, inr, length, ap, sym, subst, arith, Some}
use Rattle.std.specs.Prelude.{Contains, IsSome, filter}
use Rattle.std.proofs.lemmas.Bool.{cases_lt}
use Rattle.std.proofs.lemmas.List.{get_or_past}
use Rattle.std.proofs.lemmas.Option.{none-some}
use Rattle.pec_types.specs.Bytes.{Bytes}
use Rattle.pec_types.specs.Message.{Id}
use Rattle.pec_types.specs.declared.letters.Letter.TheVariants as letters
use Rattle.pec_records.specs.declared.entries.Entry.{Entry}
use Rattle.pec_ledger.specs.Guarantees.{HasReceipt, times_known}
use Rattle.pec_ledger.specs.Half.{Known}
use Rattle.pec_ledger.specs.Ledger.{Fit, Journals, accepted_in, ledger}
use Rattle.pec_ledger.specs.Lookups.{Accepted, accepted_at, decided_of, is_acked, known_of, taken_of}
use Rattle.pec_ledger.specs.Network.{Site, Sound, empty_site, frames_between, journal_at, journals_of}
use Rattle.pec_ledger.specs.Pairs.{Pair, same_pair}
use Rattle.pec_ledger.specs.Steps.{half}
use Rattle.pec_ledger.specs.Trade.{Trade}
use Rattle.pec_ledger.specs.TradeLaws.{IsTrade}
use Rattle.pec_plays.specs.Composed.{IsFrameOf}
use Rattle.pec_progress.specs.Progress.{AllCarry, AllGoWell, GoesWell, HasOutcome, IsSettled, LinksCarry, RoundAt, WasAccepted, after_round, behind}
use Rattle.pec_progress.proofs.LawLemmas.{FitLaws, PlayLaws, RoundLaws, RowLaws, decided_stays, known_stays, taken_stays}
use Rattle.pec_progress.proofs.ListLemmas.{found_there, into_filter, some_length, what_is}
use Rattle.pec_progress.proofs.RoundLemmas.{ack_sent, acked_or_told, decided_behind, envelope_taken, goes_on, laws_after, outcome_known, pair_acked, sent_or_taken, sound_after}

nothing_accepted : (trade : Trade) (p n : ℕ) (m : Accepted) → accepted_at (half trade p []) n ≡ Some m → ⊥
unfolding half
nothing_accepted trade p n m e = none-some m e

-- a provider that accepted a message is there
pub is_there : (trade : Trade) (sites : List Site) (id : Id) (m : Accepted) → accepted_in trade (journals_of sites) id ≡ Some m → id.provider < length sites
unfolding ledger
is_there trade sites id m e =
    elim (cases_lt id.provider (length sites)) [
      | inl l ↦ l
      | inr past ↦ absurd (nothing_accepted trade id.provider id.number m
          (subst (λ (es : List Entry). accepted_at (half trade id.provider es) id.number ≡ Some m)
          (ap (λ (s : Site). s.journal) (get_or_past sites id.provider empty_site past)) e))
    ]

module _ (trade : Trade) (world : IsTrade trade) (rows : RowLaws trade) (plays : PlayLaws trade) (rounds : RoundLaws trade)
    (fits : (J : Journals) → Fit trade J → FitLaws trade J) (pair : Pair) where
  abbrev p : ℕ
  p = pair.id.provider

  abbrev next : RoundAt → List Site → List Site
  next r sites = after_round trade r.now r.cuts sites

  -- a state in which the pair is one of an accepted message
  record Stands (sites : List Site) : Type 0 where
    sound : Sound trade sites
    is : WasAccepted trade sites pair
    here : p < length sites
    home : ℕ
    at_home : trade.home pair.recipient ≡ Some home
    there : home < length sites

  stands : (sites : List Site) → Sound trade sites → WasAccepted trade sites pair → Stands sites
  stands sites sound is =
      let home = what_is (trade.home pair.recipient) is.has.1
      in record {
        sound = sound;
        is = is;
        here = is_there trade sites pair.id is.message is.accepted;
        home = home.0;
        at_home = home.1;
        there = subst (λ (n : ℕ). home.0 < n) (sym sound.count) (world.homes pair.recipient home.0 home.1);
      }

  module _ (r : RoundAt) (sites : List Site) (s : Stands sites) (well : GoesWell trade r.now r.cuts sites) where
    -- it stays so in a round that goes well
    stays : Stands (next r sites)
    unfolding ledger
    stays = record {
      sound = sound_after trade rows plays rounds fits r.now r.cuts sites s.sound well;
      is = record {
        message = s.is.message;
        accepted = rows.accepted p (journal_at sites p) (journal_at (next r sites) p)
            (goes_on trade rows plays rounds fits r.now r.cuts sites s.sound well p s.here) pair.id.number s.is.message s.is.accepted;
        has = s.is.has;
      };
      here = subst (λ (n : ℕ). p < n) (sym (rounds.count r.now r.cuts sites)) s.here;
      home = s.home;
      at_home = s.at_home;
      there = subst (λ (n : ℕ). s.home < n) (sym (rounds.count r.now r.cuts sites)) s.there;
    }

    still_taken : IsSome (taken_of (ledger trade (journals_of sites) s.home) pair.id) → IsSome (taken_of (ledger trade (journals_of (next r sites)) s.home) pair.id)
    unfolding ledger
    still_taken =
        taken_stays trade rows s.home (journal_at sites s.home) (journal_at (next r sites) s.home) (goes_on trade rows plays rounds fits r.now r.cuts sites s.sound well s.home s.there) pair.id

    still_decided : IsSome (decided_of (ledger trade (journals_of sites) s.home) pair) → IsSome (decided_of (ledger trade (journals_of (next r sites)) s.home) pair)
    unfolding ledger
    still_decided =
        decided_stays trade rows s.home (journal_at sites s.home) (journal_at (next r sites) s.home) (goes_on trade rows plays rounds fits r.now r.cuts sites s.sound well s.home s.there) pair

    still_acked : is_acked (ledger trade (journals_of sites) s.home) pair ≡ true → is_acked (ledger trade (journals_of (next r sites)) s.home) pair ≡ true
    unfolding ledger
    still_acked =
        rows.acked s.home (journal_at sites s.home) (journal_at (next r sites) s.home) (goes_on trade rows plays rounds fits r.now r.cuts sites s.sound well s.home s.there) pair

    still_known : HasOutcome trade sites pair → HasOutcome trade (next r sites) pair
    unfolding ledger
    still_known = known_stays trade rows p (journal_at sites p) (journal_at (next r sites) p) (goes_on trade rows plays rounds fits r.now r.cuts sites s.sound well p s.here) pair

  -- ---- the first two rounds

  decided_in_two : (first second : RoundAt) (sites : List Site) (s : Stands sites) (well : GoesWell trade first.now first.cuts sites) → LinksCarry trade first.now sites
      → GoesWell trade second.now second.cuts (next first sites)
      → IsSome (decided_of (ledger trade (journals_of (next second (next first sites))) s.home) pair)
  unfolding stays
  decided_in_two first second sites s well carry well2 =
      let one = next first sites
      in let s1 = stays first sites s well
      in let s2 = stays second one s1 well2
      in let taken : IsSome (taken_of (ledger trade (journals_of (next second one)) s.home) pair.id) =
      elim (sent_or_taken trade rows plays rounds fits first.now first.cuts sites s.sound well pair s1.is.message s1.is.accepted s1.is.has s.home s.at_home s.there s.here carry) [
        | inl some ↦ still_taken second one s1 well2 some
        | inr sent ↦ envelope_taken trade rows plays rounds fits second.now second.cuts one s1.sound well2 p s.home s1.there (journals_of one) s1.sound.fit pair.id sent.0 sent.1 sent.2
      ]
      in decided_behind trade rows plays rounds fits second.now second.cuts one s1.sound well2 pair s2.is.message s2.is.accepted s2.is.has s.home s.at_home s1.there s1.here taken

  -- behind them the pair is acknowledged, or its outcome waits
  abbrev Reached : RoundAt → List Site → ℕ → Type 0
  Reached second one home = (is_acked (ledger trade (journals_of (next second one)) home) pair ≡ true)
      ⊎ ((frame : Bytes) × IsFrameOf trade (journals_of (next second one)) home (letters.Outcome pair.id pair.recipient) frame
      × Contains (frames_between (next second one) home p) frame)

  reached : (first second : RoundAt) (sites : List Site) (s : Stands sites) (well : GoesWell trade first.now first.cuts sites) → LinksCarry trade first.now sites
      → GoesWell trade second.now second.cuts (next first sites) → LinksCarry trade second.now (next first sites) → Reached second (next first sites) s.home
  unfolding stays
  reached first second sites s well carry well2 carry2 =
      let one = next first sites
      in let s1 = stays first sites s well
      in let s2 = stays second one s1 well2
      in acked_or_told trade rows plays rounds fits second.now second.cuts one s1.sound well2 pair s2.is.message s2.is.accepted s2.is.has s.home s.at_home s1.there s1.here carry2
      (decided_in_two first second sites s well carry well2)

  -- ---- the third and the fourth

  module _ (first second third : RoundAt) (sites : List Site) (s : Stands sites) (well : AllGoWell trade (first ∷ second ∷ third ∷ []) sites)
      (carry : AllCarry trade (first ∷ second ∷ []) sites) where
    abbrev one : List Site
    one = next first sites

    abbrev two : List Site
    two = next second one

    s1 : Stands one
    s1 = stays first sites s well.0

    s2 : Stands two
    unfolding s1 stays
    s2 = stays second one s1 well.1.0

    known_in_three : HasOutcome trade (next third two) pair
    unfolding s1 s2 stays
    known_in_three =
        elim (reached first second sites s well.0 carry.0 well.1.0 carry.1.0) [
          | inl acked ↦ still_known third two s2 well.1.1.0
              ((laws_after trade rows plays rounds fits second.now second.cuts one s1.sound well.1.0).acks s.home pair acked)
          | inr told ↦ outcome_known trade rows plays rounds fits third.now third.cuts two s2.sound well.1.1.0 s.home pair s2.here (journals_of two) s2.sound.fit s2.is.message s2.is.accepted s2.is.has
              s2.is.accepted told.0 told.1 told.2
        ]

    acked_in_four : (fourth : RoundAt) → GoesWell trade fourth.now fourth.cuts (next third two) → LinksCarry trade third.now two
        → is_acked (ledger trade (journals_of (next fourth (next third two))) s.home) pair ≡ true
    unfolding s1 s2 stays
    acked_in_four fourth well4 carry3 =
        let three = next third two
        in let s3 = stays third two s2 well.1.1.0
        in elim (reached first second sites s well.0 carry.0 well.1.0 carry.1.0) [
          | inl acked ↦ still_acked fourth three s3 well4 (still_acked third two s2 well.1.1.0 acked)
          | inr told ↦
              let sent = ack_sent trade rows plays rounds fits third.now third.cuts two s2.sound well.1.1.0 carry3 s.home pair s2.here s.home s2.there s.at_home (journals_of two) s2.sound.fit
              s2.is.message s2.is.accepted s2.is.has s2.is.accepted told.0 told.1 told.2
              in let decided = still_decided third two s2 well.1.1.0 (decided_in_two first second sites s well.0 carry.0 well.1.0)
              in pair_acked trade rows plays rounds fits fourth.now fourth.cuts three s3.sound well4 p pair s.home s3.there s.at_home (journals_of three) s3.sound.fit decided sent.0 sent.1 sent.2
        ]

  -- ---- what follows

  known_counted : (sites : List Site) → HasOutcome trade sites pair → 1 ≤ times_known (ledger trade (journals_of sites) p) pair
  known_counted sites known =
      let row = what_is (known_of (ledger trade (journals_of sites) p) pair) known
      in let test = λ (k : Known). same_pair pair k.pair
      in let found = found_there test (ledger trade (journals_of sites) p).known row.0 row.1
      in some_length (filter test (ledger trade (journals_of sites) p).known) row.0 (into_filter test (ledger trade (journals_of sites) p).known row.0 found.0 found.1)

  receipt_there : (sites : List Site) → Stands sites → HasOutcome trade sites pair → HasReceipt trade (journals_of sites) pair
  receipt_there sites s known =
      let one = (fits (journals_of sites) s.sound.fit).one_outcome
      in let least = known_counted sites known
      in let most = one.known_once p pair
      in let same = one.receipts p pair s.is.message s.is.accepted
      in record { message = s.is.message; accepted = s.is.accepted; receipt = omega (arith, least, most, same) }

  pub known_behind_three : (first second third : RoundAt) (sites : List Site) → Sound trade sites → WasAccepted trade sites pair
      → AllGoWell trade (first ∷ second ∷ third ∷ []) sites → AllCarry trade (first ∷ second ∷ []) sites
      → HasOutcome trade (behind trade (first ∷ second ∷ third ∷ []) sites) pair
  known_behind_three first second third sites sound is well carry = known_in_three first second third sites (stands sites sound is) well carry

  pub receipt_behind_three : (first second third : RoundAt) (sites : List Site) → Sound trade sites → WasAccepted trade sites pair
      → AllGoWell trade (first ∷ second ∷ third ∷ []) sites → AllCarry trade (first ∷ second ∷ []) sites
      → HasReceipt trade (journals_of (behind trade (first ∷ second ∷ third ∷ []) sites)) pair
  unfolding s1 s2 stays
  receipt_behind_three first second third sites sound is well carry =
      let s = stands sites sound is
      in let two = next second (next first sites)
      in let s3 = stays third two (s2 first second third sites s well carry) well.1.1.0
      in receipt_there (next third two) s3 (known_in_three first second third sites s well carry)

  pub settled_behind_four : (first second third fourth : RoundAt) (sites : List Site) → Sound trade sites → WasAccepted trade sites pair
      → AllGoWell trade (first ∷ second ∷ third ∷ fourth ∷ []) sites → AllCarry trade (first ∷ second ∷ third ∷ []) sites
      → IsSettled trade (behind trade (first ∷ second ∷ third ∷ fourth ∷ []) sites) pair
  unfolding s1 s2 stays
  settled_behind_four first second third fourth sites sound is well carry =
      let s = stands sites sound is
      in let three = next third (next second (next first sites))
      in let w3 : AllGoWell trade (first ∷ second ∷ third ∷ []) sites = (well.0, (well.1.0, (well.1.1.0, tt)))
      in let c2 : AllCarry trade (first ∷ second ∷ []) sites = (carry.0, (carry.1.0, tt))
      in let s3 = stays third (next second (next first sites)) (s2 first second third sites s w3 c2) well.1.1.0
      in record {
        known = still_known fourth three s3 well.1.1.1.0 (known_in_three first second third sites s w3 c2);
        home = s.home;
        at_home = s.at_home;
        acked = acked_in_four first second third sites s w3 c2 fourth well.1.1.1.0 carry.1.1.0;
      }
