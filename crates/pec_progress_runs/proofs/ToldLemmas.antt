-- Rounds that are told to go well, one after another: they go well, and from the second on the links carry what is owed.
use Rattle.std.proofs.Common.{◌≡◌, ◌↔◌, ℕ, ◌+◌, ◌<◌, ◌≤◌, List, [], ◌∷◌, ◌++◌, Bool, true, false, cond, length, take, refl, ap, sym, subst, ◌∙◌, arith, nat_lt, Option, Some, None}
use Rattle.std.specs.Prelude.{All, Contains, IsSome, slice_get, slice_index_or}
use Rattle.std.specs.List.{AllByRecursion, filter_map}
use Rattle.std.specs.Option.{option_map}
use Rattle.std.proofs.lemmas.Bool.{false≢true, le-ltb}
use Rattle.std.proofs.lemmas.Option.{none-some}
use Rattle.pec_types.specs.Bytes.{Bytes}
use Rattle.pec_types.specs.declared.letters.Letter.{Letter}
use Rattle.pec_types.specs.declared.messages.BookLine.{BookLine as Line}
use Rattle.pec_types.specs.declared.turns.ProviderFault.TheVariants as faults
use Rattle.pec_types.specs.declared.turns.Turn.{Turn}
use Rattle.pec_records.specs.declared.entries.Entry.{Entry}
use Rattle.pec_ledger.specs.Along.{GoesOnAs}
use Rattle.pec_ledger.specs.Books.{book, outcome_in}
use Rattle.pec_ledger.specs.Due.{due_letters, owed_letters}
use Rattle.pec_ledger.specs.Guarantees.{HasReceipt}
use Rattle.pec_ledger.specs.Half.{Half}
use Rattle.pec_ledger.specs.Ledger.{ledger}
use Rattle.pec_ledger.specs.Lookups.{Accepted, accepted_at}
use Rattle.pec_ledger.specs.Network.{Site, Sound, frames_between, journal_at, journals_of, site_at}
use Rattle.pec_ledger.specs.Pairs.{Pair, pair_of}
use Rattle.pec_ledger.specs.Steps.{half}
use Rattle.pec_ledger.specs.Tables.{IsLineOf}
use Rattle.pec_ledger.specs.Trade.{Trade}
use Rattle.pec_plays.specs.Commands.{Answer, Book, Command, Lines, Luck, Played, Refuses, Round, Turns, account_home, answers, asked, played}
use Rattle.pec_plays.specs.Frames.{due_frames, frame_of}
use Rattle.pec_plays.specs.Possible.{GaveWhatWasKept}
use Rattle.pec_plays.specs.Rounds.{rooms_of, rounded, turns_of}
use Rattle.pec_plays.specs.Scripts.{IsUnforged, put_instead, script}
use Rattle.pec_plays.specs.Steps.{Step}
use Rattle.pec_plays.specs.Turns.{Cut, Turned, Whole, cut_turn, entries_of, last_of, not_begun, owed_of, steps_of, turned}
use Rattle.pec_progress.specs.Progress.{AllCarry, AllGoWell, GoesWell, HasOutcome, IsSettled, LinksCarry, NoneIsTooLong, RoundAt, WasAccepted, after_round, behind, journal_behind, owed_over, whole_steps}
use Rattle.pec_progress_runs.specs.Told.{FourWentWell, WentWell, before, most_sent}
use Rattle.pec_progress_runs.proofs.PlaceLemmas.{at_place, kept_on}
use Rattle.pec_progress_runs.proofs.TurnLemmas.{IsWhole, all_fit, ended_whole, few_put, told_at, told_of}

-- what the laws say of a world
pub record Laws (trade : Trade) : Type 0 where
  pub turns : (now : ℕ) (cuts : ℕ → Cut) (sites : List Site) (provider : ℕ) → provider < length sites
      → slice_get (turns_of trade now cuts sites) provider ≡ Some (turned trade provider now (rooms_of sites provider) (cuts provider) (site_at sites provider))
  pub puts : (provider : ℕ) (rooms : ℕ → ℕ) (site : Site) (steps : List Step) (to : ℕ) → to < trade.providers
      → slice_index_or (cut_turn trade provider rooms site steps Whole).out to [] ≡ due_frames trade provider (site.journal ++ entries_of steps) to (rooms to) (owed_of steps)
  pub due : (provider : ℕ) (half : Half) (to room : ℕ) (owed : List Letter) → due_letters trade provider half to room owed ≡ take room (owed_letters trade provider half to owed)
  pub sound : (luck : Luck) (sites : List Site) (command : Command) → Sound trade sites → IsUnforged trade luck sites command → Sound trade (played trade luck sites command).after
  pub appends : (sites : List Site) (luck : Luck) (command : Command) (provider : ℕ) → GoesOnAs (journal_at sites provider) (journal_at (played trade luck sites command).after provider)
  pub accepted : (provider : ℕ) (old new : List Entry) → GoesOnAs old new → (number : ℕ) (message : Accepted)
      → accepted_at (half trade provider old) number ≡ Some message → accepted_at (half trade provider new) number ≡ Some message
  pub stays : (sites : List Site) (luck : Luck) (command : Command) (pair : Pair) → HasOutcome trade sites pair → HasOutcome trade (played trade luck sites command).after pair
  pub put : (sites : List Site) → Sound trade sites → (now : ℕ) (cuts : ℕ → Cut) → GoesWell trade now cuts sites → (from to : ℕ) → from < length sites → to < length sites
      → frames_between (after_round trade now cuts sites) from to
      ≡ slice_index_or (turned trade from now (rooms_of sites from) (cuts from) (site_at sites from)).out to []
  pub framed : (sites : List Site) → Sound trade sites → (now : ℕ) (cuts : ℕ → Cut) → GoesWell trade now cuts sites → NoneIsTooLong trade now sites
  pub known : (sites : List Site) → Sound trade sites → (first second third : RoundAt) → AllGoWell trade (first ∷ second ∷ third ∷ []) sites
      → AllCarry trade (first ∷ second ∷ []) sites → (pair : Pair) → WasAccepted trade sites pair
      → HasOutcome trade (behind trade (first ∷ second ∷ third ∷ []) sites) pair × HasReceipt trade (journals_of (behind trade (first ∷ second ∷ third ∷ []) sites)) pair
  pub settled : (sites : List Site) → Sound trade sites → (first second third fourth : RoundAt) → AllGoWell trade (first ∷ second ∷ third ∷ fourth ∷ []) sites
      → AllCarry trade (first ∷ second ∷ third ∷ []) sites → (pair : Pair) → WasAccepted trade sites pair
      → IsSettled trade (behind trade (first ∷ second ∷ third ∷ fourth ∷ []) sites) pair

-- the turns of an answer
abbrev turns_in : Answer → List Turn
turns_in (Turns turns) = turns
turns_in _ = []

-- ---- books

abbrev lines_in : Answer → List Line
lines_in (Lines lines) = lines
lines_in _ = []

abbrev are_lines : Answer → Bool
are_lines (Lines lines) = true
are_lines _ = false

-- the lines that are answered are the book of the provider of the account
book_by : (trade : Trade) (sites : List Site) (address : Bytes) (lines : List Line) (home : Option ℕ)
    → Lines lines ≡ (asked sites (λ p half. answers sites (Lines (book trade p half address))) trade home).answer
    → (p : ℕ) × (lines ≡ book trade p (half trade p (journal_at sites p)) address)
book_by trade sites address lines None e = absurd (false≢true (sym (ap are_lines e)))
book_by trade sites address lines (Some p) e = by (site_at sites p).up e
  where
    by : (b : Bool) → Lines lines ≡ (cond {A = Played} b (answers sites (Lines (book trade p (half trade p (journal_at sites p)) address))) (answers sites (Refuses faults.Down))).answer
        → (p : ℕ) × (lines ≡ book trade p (half trade p (journal_at sites p)) address)
    by true f = (p, ap lines_in f)
    by false f = absurd (false≢true (sym (ap are_lines f)))

book_of : (trade : Trade) (luck : Luck) (sites : List Site) (address : Bytes) (lines : List Line) → Lines lines ≡ (played trade luck sites (Book address)).answer
    → (p : ℕ) × (lines ≡ book trade p (half trade p (journal_at sites p)) address)
unfolding played
book_of trade luck sites address lines e = book_by trade sites address lines (account_home trade address (trade.home address)) e

some_mapped : {A B : Type 0} (f : A → B) (o : Option A) → IsSome o → IsSome (option_map f o)
some_mapped f None h = h
some_mapped f (Some x) h = refl

-- the line of a pair whose outcome is known
line_known : (trade : Trade) (sites : List Site) (p : ℕ) (address : Bytes) (line : Line) → IsLineOf trade p (half trade p (journal_at sites p)) address line
    → HasOutcome trade sites (pair_of line.id line.recipient) → IsSome line.outcome
unfolding ledger
line_known trade sites p address line is known =
    subst (λ (l : Line). HasOutcome trade sites (pair_of l.id l.recipient) → IsSome l.outcome) (sym is.is) (λ known. some_mapped outcome_in _ known) known

module _ (trade : Trade) (laws : Laws trade) where
  -- a message that was accepted stays so in a command
  pub still_accepted : (luck : Luck) (sites : List Site) (command : Command) (pair : Pair) → WasAccepted trade sites pair → WasAccepted trade (played trade luck sites command).after pair
  unfolding ledger
  still_accepted luck sites command pair is = record {
    message = is.message;
    accepted = laws.accepted pair.id.provider (journal_at sites pair.id.provider) (journal_at (played trade luck sites command).after pair.id.provider)
        (laws.appends sites luck command pair.id.provider) pair.id.number is.message is.accepted;
    has = is.has;
  }

  -- ---- one round

  module _ (now : ℕ) (luck : Luck) (sites : List Site) (kept : GaveWhatWasKept luck) (turns : List Turn) (told : Turns turns ≡ (played trade luck sites (Round now)).answer) where
    turn_at : ℕ → Turned
    turn_at p = turned trade p now (rooms_of sites p) (luck.cuts p) (site_at sites p)

    of_each : (P : Turn → Type 0) → All P turns → (p : ℕ) → p < length sites → P (told_of (0 + p) (turn_at p))
    unfolding turn_at rounded played
    of_each P all p l =
        told_at P (turns_of trade now luck.cuts sites) 0 p (turn_at p) (laws.turns now luck.cuts sites p l) (subst (All P) (ap turns_in told) all)

    whole_at : All (λ (turn : Turn). turn.ended ≡ None) turns → (p : ℕ) → p < length sites → IsWhole trade p now (rooms_of sites p) (luck.cuts p) (site_at sites p)
    unfolding turn_at
    whole_at ended p l =
        ended_whole trade p now (rooms_of sites p) (luck.cuts p) (site_at sites p) (kept p) (of_each (λ (turn : Turn). turn.ended ≡ None) ended p l)

    few_at : All (λ (turn : Turn). All (λ (sent : ℕ × ℕ). sent.1 ≤ most_sent) turn.sent) turns → (p to : ℕ) → p < length sites
        → length (slice_index_or (turn_at p).out to []) ≤ most_sent
    few_at few p to l = few_put (turn_at p).out 0 to (of_each (λ (turn : Turn). All (λ (sent : ℕ × ℕ). sent.1 ≤ most_sent) turn.sent) few p l)

  -- a turn that was done whole
  turn_is : (p now : ℕ) (rooms : ℕ → ℕ) (cut : Cut) (site : Site) → IsWhole trade p now rooms cut site
      → turned trade p now rooms cut site ≡ cut_turn trade p rooms site (steps_of trade p now site Whole) Whole
  unfolding turned
  turn_is p now rooms cut site is =
      ap (λ (b : Bool). cond b (cond (nat_lt now (last_of trade p site.journal)) (not_begun site (faults.ClockBack (last_of trade p site.journal))) (cut_turn trade p rooms site (steps_of trade p now site cut) cut))
      (not_begun site faults.Down)) is.up
      ∙ ap (λ (b : Bool). cond b (not_begun site (faults.ClockBack (last_of trade p site.journal))) (cut_turn trade p rooms site (steps_of trade p now site cut) cut))
      (le-ltb now (last_of trade p site.journal) is.in_time)
      ∙ ap (λ (c : Cut). cut_turn trade p rooms site (steps_of trade p now site c) c) is.cut_is

  -- ---- places of a script

  module _ (lucks : List Luck) (start : List Site) (commands : List Command) (kept : AllByRecursion GaveWhatWasKept lucks) where
    abbrev at : ℕ → List Site
    at n = before trade lucks start commands n

    -- a round at a place, which leads to the next
    record Went (n m : ℕ) : Type 0 where
      r : RoundAt
      well : GoesWell trade r.now r.cuts (at n)
      next : at m ≡ after_round trade r.now r.cuts (at n)
      sound : Sound trade (at n) → Sound trade (at m)
      accepted : (pair : Pair) → WasAccepted trade (at n) pair → WasAccepted trade (at m) pair
      few : (from to : ℕ) → from < length (at n)
          → length (slice_index_or (turned trade from r.now (rooms_of (at n) from) (r.cuts from) (site_at (at n) from)).out to []) ≤ most_sent

    went : (n m : ℕ) → n + 1 ≡ m → WentWell trade lucks start commands n → Went n m
    unfolding played turn_at
    went n m e is =
        let place = at_place trade lucks start commands kept n (Round is.now) (Turns is.turns) is.command is.told
        in let luck = place.luck
        in let whole = whole_at is.now luck (at n) place.kept is.turns place.said is.ended
        in let r : RoundAt = record { now = is.now; cuts = luck.cuts }
        in let next : at m ≡ (played trade luck (at n) (Round is.now)).after = ap at (sym e) ∙ place.behind
        in record {
          r = r;
          well = record {
            in_range = is.in_range;
            in_time = λ p l. (whole p l).in_time;
            up = λ p l. (whole p l).up;
            whole = λ p l. (whole p l).cut_is;
          };
          next = next;
          sound = λ sound.
              subst (Sound trade) (sym next)
              (laws.sound luck (at n) (Round is.now) sound (is.in_range, λ p out l put. absurd (none-some out (sym (ap put_instead (whole p l).cut_is) ∙ put))));
          accepted = λ pair was. subst (λ (sites : List Site). WasAccepted trade sites pair) (sym next) (still_accepted luck (at n) (Round is.now) pair was);
          few = λ from to l. few_at is.now luck (at n) place.kept is.turns place.said is.few from to l;
        }

    -- few frames wait at a place
    abbrev FewWait : ℕ → Type 0
    FewWait n = (from to : ℕ) → from < length (at n) → to < length (at n) → length (frames_between (at n) from to) ≤ most_sent

    -- behind a round that went well, those that it put
    few_behind : (n m : ℕ) (w : Went n m) → Sound trade (at n) → length (at m) ≡ length (at n) → FewWait m
    few_behind n m w sound same from to lf lt =
        let f = subst (λ (k : ℕ). from < k) same lf
        in let t = subst (λ (k : ℕ). to < k) same lt
        in let put = laws.put (at n) sound w.r.now w.r.cuts w.well from to f t
        in let e = ap (λ (sites : List Site). length (frames_between sites from to)) w.next
        in let few = w.few from to f
        in let p = ap (λ (l : List Bytes). length l) put
        in omega (arith, e, few, p)

    -- so the links carry what is owed
    carries : (n m : ℕ) (w : Went n m) → Sound trade (at n) → FewWait n → LinksCarry trade w.r.now (at n)
    unfolding due_frames
    carries n m w sound waiting =
        let now = w.r.now
        in let sites = at n
        in let frames = laws.framed sites sound now w.r.cuts w.well
        in record {
          room = λ from to lf lt.
              let room = rooms_of sites from to
              in let owed = owed_over trade now sites from to
              in let steps = whole_steps trade now sites from
              in let turn = turn_is from now (rooms_of sites from) (w.r.cuts from) (site_at sites from)
              (record { up = w.well.up from lf; in_time = w.well.in_time from lf; cut_is = w.well.whole from lf })
              in let put = ap (λ (t : Turned). slice_index_or t.out to []) turn
              ∙ laws.puts from (rooms_of sites from) (site_at sites from) steps to (subst (λ (k : ℕ). to < k) sound.count lt)
              ∙ ap (filter_map (frame_of trade from (journal_behind trade now sites from))) (laws.due from (half trade from (journal_behind trade now sites from)) to room (owed_of steps))
              in let few = w.few from to lf
              in let wait = waiting from to lf lt
              in let count = ap (λ (l : List Bytes). length l) put
              in all_fit (frame_of trade from (journal_behind trade now sites from)) room owed (λ letter c. frames from to lf lt letter c) (omega (arith, few, wait, count));
          frames = frames;
        }

    -- ---- four rounds, and a fifth

    module _ (n : ℕ) (sound : Sound trade (at n)) (four : FourWentWell trade lucks start commands n) where
      w0 : Went n (n + 1)
      w0 = went n (n + 1) refl four.0

      w1 : Went (n + 1) (n + 2)
      w1 = went (n + 1) (n + 2) (omega arith) four.1

      w2 : Went (n + 2) (n + 3)
      w2 = went (n + 2) (n + 3) (omega arith) four.2

      w3 : Went (n + 3) (n + 4)
      w3 = went (n + 3) (n + 4) (omega arith) four.3

      s1 : Sound trade (at (n + 1))
      s1 = w0.sound sound

      s2 : Sound trade (at (n + 2))
      s2 = w1.sound s1

      s3 : Sound trade (at (n + 3))
      s3 = w2.sound s2

      -- links carry what is owed from the second round on
      c1 : LinksCarry trade w1.r.now (at (n + 1))
      c1 = carries (n + 1) (n + 2) w1 s1 (few_behind n (n + 1) w0 sound (s1.count ∙ sym sound.count))

      c2 : LinksCarry trade w2.r.now (at (n + 2))
      c2 = carries (n + 2) (n + 3) w2 s2 (few_behind (n + 1) (n + 2) w1 s1 (s2.count ∙ sym s1.count))

      c3 : LinksCarry trade w3.r.now (at (n + 3))
      c3 = carries (n + 3) (n + 4) w3 s3 (few_behind (n + 2) (n + 3) w2 s2 (s3.count ∙ sym s2.count))

      abbrev next : RoundAt → List Site → List Site
      next r sites = after_round trade r.now r.cuts sites

      two : at (n + 3) ≡ next w2.r (next w1.r (at (n + 1)))
      two = w2.next ∙ ap (next w2.r) w1.next

      three : at (n + 4) ≡ behind trade (w1.r ∷ w2.r ∷ w3.r ∷ []) (at (n + 1))
      three = w3.next ∙ ap (next w3.r) two

      pub known_behind : (pair : Pair) → WasAccepted trade (at n) pair → HasOutcome trade (at (n + 4)) pair × HasReceipt trade (journals_of (at (n + 4))) pair
      known_behind pair is =
          subst (λ (sites : List Site). HasOutcome trade sites pair × HasReceipt trade (journals_of sites) pair) (sym three)
          (laws.known (at (n + 1)) s1 w1.r w2.r w3.r
          (w1.well, (subst (GoesWell trade w2.r.now w2.r.cuts) w1.next w2.well, (subst (GoesWell trade w3.r.now w3.r.cuts) two w3.well, tt)))
          (c1, (subst (LinksCarry trade w2.r.now) w1.next c2, tt)) pair (w0.accepted pair is))

      pub settled_behind : WentWell trade lucks start commands (n + 4) → (pair : Pair) → WasAccepted trade (at n) pair → IsSettled trade (at (n + 5)) pair
      settled_behind fifth pair is =
          let w4 = went (n + 4) (n + 5) (omega arith) fifth
          in subst (λ (sites : List Site). IsSettled trade sites pair) (sym (w4.next ∙ ap (next w4.r) three))
          (laws.settled (at (n + 1)) s1 w1.r w2.r w3.r w4.r (
            w1.well,
            (
              subst (GoesWell trade w2.r.now w2.r.cuts) w1.next w2.well,
              (
                subst (GoesWell trade w3.r.now w3.r.cuts) two w3.well,
                (subst (GoesWell trade w4.r.now w4.r.cuts) three w4.well, tt),
              ),
            ),
          )
          (c1, (subst (LinksCarry trade w2.r.now) w1.next c2, (subst (LinksCarry trade w3.r.now) two c3, tt))) pair (w0.accepted pair is))

      pub known_later : (later : ℕ) (pair : Pair) → WasAccepted trade (at n) pair → HasOutcome trade (at (n + 4 + later)) pair
      known_later later pair is =
          kept_on trade (λ (sites : List Site). HasOutcome trade sites pair) (λ luck sites command. laws.stays sites luck command pair) lucks start commands (n + 4) later (known_behind pair is).0

      -- ---- books

      pub book_shows : ((p : ℕ) (half : Half) (account : Bytes) (line : Line) → Contains (book trade p half account) line ↔ IsLineOf trade p half account line)
          → (later : ℕ) (address : Bytes) (lines : List Line) → slice_get commands (n + 4 + later) ≡ Some (Book address)
          → slice_get (script trade lucks start commands).answers (n + 4 + later) ≡ Some (Lines lines)
          → (line : Line) → Contains lines line → WasAccepted trade (at n) (pair_of line.id line.recipient) → IsSome line.outcome
      book_shows books later address lines command answer line c is =
          let place = at_place trade lucks start commands kept (n + 4 + later) (Book address) (Lines lines) command answer
          in let shown = book_of trade place.luck (at (n + 4 + later)) address lines place.said
          in let row = (books shown.0 (half trade shown.0 (journal_at (at (n + 4 + later)) shown.0)) address line).0 (subst (λ (l : List Line). Contains l line) shown.1 c)
          in line_known trade (at (n + 4 + later)) shown.0 address line row (known_later later (pair_of line.id line.recipient) is)
