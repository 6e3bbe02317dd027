-- One round without faults: what is owed is put, what waits is handled, and what is taken is decided.
use Rattle.std.proofs.Common.{◌≡◌, ℕ, ◌<◌, List, [], true, false, ◌⊎◌, inl, inr, length, refl, ap, sym, subst, ◌∙◌, Option, Some, None}
use Rattle.std.specs.Prelude.{Contains, IsSome, slice_index_or}
use Rattle.std.proofs.lemmas.Bool.{cases_Bool}
use Rattle.std.proofs.lemmas.List.{take_all}
use Rattle.std.proofs.lemmas.List.Elements.{All-contains, Contains-append_right}
use Rattle.std.proofs.lemmas.Option.{none-some}
use Rattle.pec_types.specs.Bytes.{Bytes, Path}
use Rattle.pec_types.specs.Message.{Id}
use Rattle.pec_types.specs.declared.letters.Letter.{Letter}
use Rattle.pec_types.specs.declared.letters.Letter.TheVariants as letters
use Rattle.pec_records.specs.declared.entries.Entry.{Entry}
use Rattle.pec_ledger.specs.Along.{GoesOnAs}
use Rattle.pec_ledger.specs.Due.{due_letters, owed_letters}
use Rattle.pec_ledger.specs.Half.{Fate, Known, Taken}
use Rattle.pec_ledger.specs.Ledger.{Fit, IsDecidedSo, Journals, accepted_in, decided_at, ledger}
use Rattle.pec_ledger.specs.Lookups.{Accepted, HasPair, addresses_of, charged_of, decided_of, is_acked, is_home, known_of, taken_of}
use Rattle.pec_ledger.specs.Network.{Site, Sound, frames_between, journal_at, journals_of, site_at}
use Rattle.pec_ledger.specs.Own.{IsTakenPair}
use Rattle.pec_ledger.specs.Pairs.{Pair, pair_of, same_pair}
use Rattle.pec_ledger.specs.Steps.{half}
use Rattle.pec_ledger.specs.Tables.{IsOwedEnvelope, IsOwedOutcome}
use Rattle.pec_ledger.specs.Trade.{Trade}
use Rattle.pec_plays.specs.Commands.{played}
use Rattle.pec_plays.specs.Decisions.{Looks, undecided}
use Rattle.pec_plays.specs.Composed.{IsFrameOf}
use Rattle.pec_plays.specs.Frames.{due_frames, frame_of}
use Rattle.pec_plays.specs.Rounds.{rooms_of}
use Rattle.pec_plays.specs.Scripts.{put_instead}
use Rattle.pec_plays.specs.Turns.{Cut, Turned, Whole, cut_turn, entries_of, frames_in, looks_by, owed_of, turned}
use Rattle.pec_progress.specs.Progress.{GoesWell, LinksCarry, after_round, journal_behind, owed_over, whole_steps}
use Rattle.pec_progress.proofs.ArrivalLemmas.{ack_arrives, envelope_arrives, outcome_answered, outcome_arrives}
use Rattle.pec_progress.proofs.LawLemmas.{FitLaws, PlayLaws, RoundLaws, RowLaws, decided_stays, known_stays, taken_stays}
use Rattle.pec_progress.proofs.ListLemmas.{contains_none, found_there, home_again, into_filter, none_or_some, same_pairs, some_is, waits_among, what_is}
use Rattle.pec_progress.proofs.PlanLemmas.{Handles, plan_decides, plan_handles, turn_is}

module _ (trade : Trade) (rows : RowLaws trade) (plays : PlayLaws trade) (rounds : RoundLaws trade)
    (fits : (J : Journals) → Fit trade J → FitLaws trade J)
    (now : ℕ) (cuts : ℕ → Cut) (sites : List Site) (sound : Sound trade sites) (well : GoesWell trade now cuts sites) where
  abbrev after : List Site
  after = after_round trade now cuts sites

  pub sound_after : Sound trade after
  unfolding played
  sound_after =
      rounds.sound (record { cuts = cuts; fails = false; found = false; read = None; shown = None }) sites now sound
      (well.in_range, λ provider out l e. absurd (none-some out (sym (ap put_instead (well.whole provider l)) ∙ e)))

  pub laws_after : FitLaws trade (journals_of after)
  laws_after = fits (journals_of after) sound_after.fit

  -- ---- turns

  pub turn_whole : (p : ℕ) → p < length sites → turned trade p now (rooms_of sites p) (cuts p) (site_at sites p)
      ≡ cut_turn trade p (rooms_of sites p) (site_at sites p) (whole_steps trade now sites p) Whole
  turn_whole p l = turn_is trade p now (rooms_of sites p) (cuts p) (site_at sites p) (well.up p l) (well.in_time p l) (well.whole p l)

  pub journal_is : (p : ℕ) → p < length sites → journal_at after p ≡ journal_behind trade now sites p
  journal_is p l = rounds.journals now cuts sites p l ∙ ap (λ (t : Turned). t.site.journal) (turn_whole p l)

  pub goes_on : (p : ℕ) → p < length sites → GoesOnAs (journal_at sites p) (journal_at after p)
  goes_on p l = (entries_of (whole_steps trade now sites p), journal_is p l)

  abbrev looks_at : ℕ → Looks
  looks_at p = looks_by trade p (site_at sites p).screens Whole

  -- a frame that waits is received in some journal of the turn
  handled : (from to : ℕ) → to < length sites → (frame : Bytes) → Contains (frames_between sites from to) frame
      → Handles trade to now (looks_at to) (journal_at sites to) (journal_at after to) (owed_of (whole_steps trade now sites to)) frame
  handled from to l frame c =
      subst (λ (es : List Entry). Handles trade to now (looks_at to) (journal_at sites to) es (owed_of (whole_steps trade now sites to)) frame) (sym (journal_is to l))
      (plan_handles trade to now (looks_at to) (frames_in (site_at sites to).waiting) (journal_at sites to) frame (waits_among (site_at sites to).waiting from frame c))

  -- ---- what is owed is put

  module _ (carry : LinksCarry trade now sites) where
    abbrev IsPut : ℕ → ℕ → Letter → Type 0
    IsPut from to letter = (frame : Bytes) × (frame_of trade from (journal_at after from) letter ≡ Some frame) × Contains (frames_between after from to) frame

    due_waits : (from to : ℕ) → from < length sites → to < length sites → (frame : Bytes)
        → Contains (due_frames trade from (journal_behind trade now sites from) to (rooms_of sites from to) (owed_of (whole_steps trade now sites from))) frame
        → Contains (frames_between after from to) frame
    due_waits from to lf lt frame c =
        let out : slice_index_or (turned trade from now (rooms_of sites from) (cuts from) (site_at sites from)).out to []
        ≡ due_frames trade from (journal_behind trade now sites from) to (rooms_of sites from to) (owed_of (whole_steps trade now sites from)) =
        ap (λ (t : Turned). slice_index_or t.out to []) (turn_whole from lf)
        ∙ plays.puts_says from (rooms_of sites from) (site_at sites from) (whole_steps trade now sites from) to (subst (λ (n : ℕ). to < n) sound.count lt)
        in subst (λ (l : List Bytes). Contains l frame) (sym (rounds.frames now cuts sites from to lf lt))
        (Contains-append_right (slice_index_or (turned trade to now (rooms_of sites to) (cuts to) (site_at sites to)).site.waiting from [])
        (slice_index_or (turned trade from now (rooms_of sites from) (cuts from) (site_at sites from)).out to []) frame
        (subst (λ (l : List Bytes). Contains l frame) (sym out) c))

    owed_put : (from to : ℕ) → from < length sites → to < length sites → (letter : Letter) → Contains (owed_over trade now sites from to) letter → IsPut from to letter
    owed_put from to lf lt letter c =
        let es = journal_behind trade now sites from
        in let owed = owed_of (whole_steps trade now sites from)
        in let room = rooms_of sites from to
        in let frame = what_is (frame_of trade from es letter) (carry.frames from to lf lt letter c)
        in let due : Contains (due_letters trade from (half trade from es) to room owed) letter =
        subst (λ (l : List Letter). Contains l letter) (sym (plays.due_says from (half trade from es) to room owed ∙ take_all room (owed_letters trade from (half trade from es) to owed) (carry.room from to lf lt))) c
        in (
          frame.0,
          subst (λ (l : List Entry). frame_of trade from l letter ≡ Some frame.0) (sym (journal_is from lf)) frame.1,
          due_waits from to lf lt frame.0 ((plays.frames_says from es to room owed frame.0).1 (record { letter = letter; due = due; is = frame.1 })),
        )

    -- an owed outcome or envelope, by what the journal behind the round says
    row_put : (from to : ℕ) → from < length sites → to < length sites → (letter : Letter)
        → (IsOwedOutcome trade from (half trade from (journal_at after from)) to letter ⊎ IsOwedEnvelope trade from (half trade from (journal_at after from)) to letter)
        → IsPut from to letter
    row_put from to lf lt letter is =
        owed_put from to lf lt letter
        ((plays.owed_says from (half trade from (journal_behind trade now sites from)) to (owed_of (whole_steps trade now sites from)) letter).1
        (inr (subst (λ (es : List Entry). IsOwedOutcome trade from (half trade from es) to letter ⊎ IsOwedEnvelope trade from (half trade from es) to letter) (journal_is from lf) is)))

  -- ---- what is taken is decided

  none_undecided : (q : ℕ) → q < length sites → undecided trade q (journal_at after q) ≡ []
  none_undecided q l =
      ap (undecided trade q) (journal_is q l)
      ∙ plan_decides trade q now (looks_at q) (plays.left_says q now (looks_at q)) (frames_in (site_at sites q).waiting) (journal_at sites q)

  taken_decided : (q : ℕ) → q < length sites → (pair : Pair) → IsTakenPair trade q (ledger trade (journals_of after) q) pair
      → IsSome (decided_of (ledger trade (journals_of after) q) pair)
  unfolding ledger
  taken_decided q l pair is =
      elim (none_or_some (decided_of (half trade q (journal_at after q)) pair)) [
        | inl none ↦ absurd (contains_none pair (subst (λ (ps : List Pair). Contains ps pair) (none_undecided q l)
            ((plays.undecided_says q (journal_at after q) pair).1 (is, none))))
        | inr some ↦ some_is (decided_of (half trade q (journal_at after q)) pair) some.0 some.1
      ]

  -- ---- one pair

  module _ (pair : Pair) (m : Accepted) (accepted : accepted_in trade (journals_of after) pair.id ≡ Some m) (has : HasPair trade m pair.recipient)
      (q : ℕ) (home : trade.home pair.recipient ≡ Some q) (lq : q < length sites) (lp : pair.id.provider < length sites) where
    abbrev J : Journals
    J = journals_of after

    abbrev p : ℕ
    p = pair.id.provider

    among_row : (row : Taken) → taken_of (ledger trade J q) pair.id ≡ Some row → Contains row.recipients pair.recipient
    among_row row e =
        subst (λ (xs : Path). Contains xs pair.recipient) (sym (laws_after.recipients q pair.id row m e accepted))
        (into_filter (λ (address : Bytes). is_home q (trade.home address)) (addresses_of m.facts) pair.recipient has.0 (home_again q (trade.home pair.recipient) home))

    pub decided_behind : IsSome (taken_of (ledger trade J q) pair.id) → IsSome (decided_of (ledger trade J q) pair)
    decided_behind some =
        let row = what_is (taken_of (ledger trade J q) pair.id) some
        in taken_decided q lq pair (record { row = row.0; taken = row.1; recipient = among_row row.0 row.1 })

    -- ---- the envelope

    untaken : {X : Type 0} → taken_of (ledger trade J q) pair.id ≡ None → IsSome (taken_of (ledger trade J q) pair.id) → X
    untaken none some = let row = what_is (taken_of (ledger trade J q) pair.id) some in absurd (none-some row.0 (sym none ∙ row.1))

    not_charged : taken_of (ledger trade J q) pair.id ≡ None → charged_of (ledger trade J p) pair.id q ≡ None
    not_charged none =
        elim (none_or_some (charged_of (ledger trade J p) pair.id q)) [
          | inl e ↦ e
          | inr some ↦ untaken none (laws_after.charges p pair.id q some.0 some.1)
        ]

    not_known : taken_of (ledger trade J q) pair.id ≡ None → (recipient : Bytes) → trade.home recipient ≡ Some q
        → known_of (ledger trade J p) (pair_of pair.id recipient) ≡ None
    not_known none recipient at =
        let other = pair_of pair.id recipient
        in elim (none_or_some (known_of (ledger trade J p) other)) [
          | inl e ↦ e
          | inr some ↦
              let row = some.0
              in let found = found_there (λ (known : Known). same_pair other known.pair) (ledger trade J p).known row some.1
              in let so = All-contains (λ (known : Known). IsDecidedSo trade J known.pair known.decision known.decided) (ledger trade J p).known row
              (laws_after.one_outcome.known_decided p) found.0
              in let decided : decided_at trade J other (trade.home recipient) ≡ Some so.fate =
              subst (λ (x : Pair). decided_at trade J x (trade.home x.recipient) ≡ Some so.fate) (sym (same_pairs other row.pair found.1)) so.decided
              in let is = laws_after.decisions q other so.fate (subst (λ (o : Option ℕ). decided_at trade J other o ≡ Some so.fate) at decided)
              in untaken none (some_is (taken_of (ledger trade J q) pair.id) is.row is.taken)
        ]

    abbrev pub IsSent : Type 0
    IsSent = (frame : Bytes) × IsFrameOf trade J p (letters.Envelope pair.id q) frame × Contains (frames_between after p q) frame

    -- behind the round the message is taken, or its envelope waits
    pub sent_or_taken : LinksCarry trade now sites → IsSome (taken_of (ledger trade J q) pair.id) ⊎ IsSent
    unfolding ledger
    sent_or_taken carry =
        elim (none_or_some (taken_of (ledger trade J q) pair.id)) [
          | inr some ↦ inl (some_is (taken_of (ledger trade J q) pair.id) some.0 some.1)
          | inl none ↦
              let put = row_put carry p q lp lq (letters.Envelope pair.id q) (inr (record {
                number = pair.id.number;
                message = m;
                accepted = accepted;
                pairs = (pair.recipient, has.0, home);
                uncharged = not_charged none;
                unheard = λ recipient among at. not_known none recipient at;
                is = refl;
              }))
              in inr (put.0, laws_after.framed p (letters.Envelope pair.id q) put.0 put.1, put.2)
        ]

    -- ---- the outcome

    abbrev pub IsTold : Type 0
    IsTold = (frame : Bytes) × IsFrameOf trade J q (letters.Outcome pair.id pair.recipient) frame × Contains (frames_between after q p) frame

    -- behind the round a decided pair is acknowledged, or its outcome waits
    pub acked_or_told : LinksCarry trade now sites → IsSome (decided_of (ledger trade J q) pair) → (is_acked (ledger trade J q) pair ≡ true) ⊎ IsTold
    unfolding ledger
    acked_or_told carry some =
        let fate = what_is (decided_of (ledger trade J q) pair) some
        in let found = found_there (λ (f : Fate). same_pair pair f.pair) (ledger trade J q).decided fate.0 fate.1
        in let same = same_pairs pair fate.0.pair found.1
        in elim (cases_Bool (is_acked (ledger trade J q) pair)) [
          | inl e ↦ inl e
          | inr e ↦
              let put = row_put carry q p lq lp (letters.Outcome pair.id pair.recipient) (inl (record {
                fate = fate.0;
                decided = found.0;
                for = ap (λ (x : Pair). x.id.provider) (sym same);
                unheard = subst (λ (x : Pair). is_acked (ledger trade J q) x ≡ false) same e;
                is = ap (λ (x : Pair). letters.Outcome x.id x.recipient) same;
              }))
              in inr (put.0, laws_after.framed q (letters.Outcome pair.id pair.recipient) put.0 put.1, put.2)
        ]

    pub known_or_told : LinksCarry trade now sites → IsSome (decided_of (ledger trade J q) pair) → IsSome (known_of (ledger trade J p) pair) ⊎ IsTold
    known_or_told carry some =
        elim (acked_or_told carry some) [
          | inl e ↦ inl (laws_after.acks q pair e)
          | inr told ↦ inr told
        ]

  -- ---- what waited as the round began

  pub envelope_taken : (from q : ℕ) → q < length sites → (J : Journals) → Fit trade J → (id : Id) (frame : Bytes) → IsFrameOf trade J id.provider (letters.Envelope id q) frame
      → Contains (frames_between sites from q) frame → IsSome (taken_of (ledger trade (journals_of after) q) id)
  unfolding ledger
  envelope_taken from q l J fit id frame put c =
      let is = handled from q l frame c
      in taken_stays trade rows q _ (journal_at after q) is.to id (envelope_arrives trade q now J (fits J fit) plays id frame put is.before)

  pub outcome_known : (from : ℕ) (pair : Pair) → pair.id.provider < length sites → (J : Journals) → Fit trade J → (m : Accepted) → accepted_in trade J pair.id ≡ Some m
      → HasPair trade m pair.recipient → accepted_in trade (journals_of sites) pair.id ≡ Some m
      → (frame : Bytes) → IsFrameOf trade J from (letters.Outcome pair.id pair.recipient) frame → Contains (frames_between sites from pair.id.provider) frame
      → IsSome (known_of (ledger trade (journals_of after) pair.id.provider) pair)
  unfolding ledger
  outcome_known from pair l J fit m accepted has now_accepted frame put c =
      let p = pair.id.provider
      in let is = handled from p l frame c
      in known_stays trade rows p _ (journal_at after p) is.to pair
      (outcome_arrives trade now J (fits J fit) plays from pair m accepted has frame put is.before (rows.accepted p (journal_at sites p) is.before is.from pair.id.number m now_accepted))

  -- what is known stays so, and its outcome is acknowledged
  pub ack_sent : LinksCarry trade now sites → (from : ℕ) (pair : Pair) → pair.id.provider < length sites → (q : ℕ) → q < length sites → trade.home pair.recipient ≡ Some q
      → (J : Journals) → Fit trade J → (m : Accepted) → accepted_in trade J pair.id ≡ Some m
      → HasPair trade m pair.recipient → accepted_in trade (journals_of sites) pair.id ≡ Some m
      → (frame : Bytes) → IsFrameOf trade J from (letters.Outcome pair.id pair.recipient) frame → Contains (frames_between sites from pair.id.provider) frame
      → (ack : Bytes) × IsFrameOf trade (journals_of after) pair.id.provider (letters.Ack pair.id pair.recipient) ack × Contains (frames_between after pair.id.provider q) ack
  unfolding ledger
  ack_sent carry from pair l q lq home J fit m accepted has now_accepted frame put c =
      let p = pair.id.provider
      in let letter = letters.Ack pair.id pair.recipient
      in let is = handled from p l frame c
      in let owed = is.owed letter
      (outcome_answered trade now J (fits J fit) plays from pair m accepted has frame put is.before (rows.accepted p (journal_at sites p) is.before is.from pair.id.number m now_accepted))
      in let due = (plays.owed_says p (half trade p (journal_behind trade now sites p)) q (owed_of (whole_steps trade now sites p)) letter).1 (inl (owed, home))
      in let sent = owed_put carry p q l lq letter due
      in (sent.0, laws_after.framed p letter sent.0 sent.1, sent.2)

  pub pair_acked : (from : ℕ) (pair : Pair) (q : ℕ) → q < length sites → trade.home pair.recipient ≡ Some q
      → (J : Journals) → Fit trade J → IsSome (decided_of (ledger trade (journals_of sites) q) pair)
      → (frame : Bytes) → IsFrameOf trade J pair.id.provider (letters.Ack pair.id pair.recipient) frame → Contains (frames_between sites from q) frame
      → is_acked (ledger trade (journals_of after) q) pair ≡ true
  unfolding ledger
  pair_acked from pair q l home J fit decided frame put c =
      let is = handled from q l frame c
      in rows.acked q _ (journal_at after q) is.to pair
      (ack_arrives trade q now J (fits J fit) plays pair home frame put is.before (decided_stays trade rows q (journal_at sites q) is.before is.from pair decided))
