-- Each command keeps a state Sound, and so does each script.
use Rattle.std.proofs.Common.{ℕ, List, [], ◌∷◌, ◌++◌, take, drop, refl, ap, sym, ◌∙◌}
use Rattle.std.specs.Prelude.{slice_get}
use Rattle.std.specs.Option.{option_to_list}
use Rattle.std.proofs.lemmas.List.{append-nil, append_assoc, map-append, take-append-drop}
use Rattle.pec_records.specs.declared.entries.Entry.{Entry}
use Rattle.pec_ledger.specs.Along.{GoesOnAs}
use Rattle.pec_ledger.specs.Books.{book, mailbox_lines, archive_lines}
use Rattle.pec_ledger.specs.Half.{Half}
use Rattle.pec_ledger.specs.Ledger.{Fit, Journals}
use Rattle.pec_ledger.specs.Lookups.{archive, mailbox}
use Rattle.pec_ledger.specs.Network.{FollowsState, IsNext, Site, Sound, frames_between, journals_of}
use Rattle.pec_ledger.specs.Trade.{Trade}
use Rattle.pec_ledger.specs.TradeLaws.{IsTrade}
use Rattle.pec_plays.specs.Commands.{Command, Luck, Submit, Tick, Round, Lose, Repeat, Swap, Inject, Crash, Restart, Book, Mailbox, Show, Lines, Items, account_home, answers, played, shown, swapped_at, Archive, Upgrade, Vault, VaultShow, Vaults, Screen, finds_at}
use Rattle.pec_plays.specs.Scripts.{AllUnforged, IsUnforged, LinksAreShort, ShortAlong, SoundAlong, script}
use Rattle.pec_plays.specs.Steps.{Step}
use Rattle.pec_plays.specs.Turns.{Cut, Whole, Fails, Full, Stops, Unread, Other, Sees, cut_turn, entries_of, entry_at, events_of}
use Rattle.pec_plays.proofs.CommandLemmas.{next_asked, next_crashed, next_injected, next_lost, next_put_again, next_restarted, next_shown, next_submitted, next_swapped, next_ticked, account_so, next_archived, next_screened, next_upgraded}
use Rattle.pec_plays.proofs.FrameLemmas.{TextLaws}
use Rattle.pec_plays.proofs.PlanLemmas.{parted}
use Rattle.pec_plays.proofs.RoundLemmas.{next_rounded, short_rounded}
use Rattle.pec_plays.proofs.ShortLemmas.{short_asked, short_crashed, short_injected, short_lost, short_put_again, short_restarted, short_shown, short_submitted, short_swapped, short_ticked, short_archived, short_screened, short_upgraded}
use Rattle.pec_plays.proofs.SiteLemmas.{StateLaws, next_as_it_was}
use Rattle.pec_plays.proofs.StepLemmas.{ArrivalLaws}

-- what the ledger's laws say
pub record LedgerLaws (trade : Trade) : Type 0 where
  pub states : StateLaws trade
  pub images : (sites : List Site) → Sound trade sites → (images : Journals) → ((p : ℕ) → FollowsState trade sites p (images p)) → Fit trade images
  pub arrivals : (J : Journals) → Fit trade J → ArrivalLaws trade J
  pub texts : (J : Journals) → Fit trade J → TextLaws trade J

module _ (trade : Trade) (world : IsTrade trade) (laws : LedgerLaws trade) where
  pub next_played : (luck : Luck) (sites : List Site) (command : Command) → Sound trade sites → IsUnforged trade luck sites command
      → IsNext trade sites (played trade luck sites command).after
  unfolding played
  next_played luck sites (Submit p now sender path message) sound given =
      next_submitted trade world laws.states luck sites p now sender path message (finds_at sites p message) sound given.0 given.1 given.2
  next_played luck sites (Tick p now) sound given = next_ticked trade world laws.states luck sites p now sound given
  next_played luck sites (Round now) sound given =
      next_rounded trade world laws.states sites sound (laws.arrivals (journals_of sites) sound.fit) (laws.images sites sound) laws.texts now given.0 luck.cuts given.1
  next_played luck sites (Lose from to place) sound given = next_lost trade world laws.states sites from to place sound
  next_played luck sites (Repeat from to place) sound given =
      next_put_again trade world laws.states sites from to place (slice_get (frames_between sites from to) place) refl sound
  next_played luck sites (Swap from to place) sound given =
      next_swapped trade world laws.states sites from to place (swapped_at place (frames_between sites from to)) refl sound
  next_played luck sites (Inject from to frame) sound given = next_injected trade world laws.states sites from to frame sound given
  next_played luck sites (Crash p) sound given = next_crashed trade world laws.states sites p sound
  next_played luck sites (Restart p) sound given = next_restarted trade world laws.states luck sites p sound
  next_played luck sites (Book address) sound given =
      next_asked trade world laws.states sites (λ (p : ℕ) (h : Half). answers sites (Lines (book trade p h address))) (account_home trade address (trade.home address)) sound (λ p h. next_as_it_was trade laws.states sites sound)
  next_played luck sites (Mailbox address) sound given =
      next_asked trade world laws.states sites (λ (p : ℕ) (h : Half). answers sites (Items (mailbox_lines h address))) (account_home trade address (trade.home address)) sound (λ p h. next_as_it_was trade laws.states sites sound)
  next_played luck sites (Show address place) sound given =
      next_asked trade world laws.states sites (λ (p : ℕ) (h : Half). shown trade luck sites p (slice_get (mailbox h address) place)) (account_home trade address (trade.home address)) sound
      (λ p h. next_shown trade world laws.states luck sites p (slice_get (mailbox h address) place) sound)
  next_played luck sites (Archive address now place) sound given =
      next_archived trade world laws.states luck sites (account_home trade address (trade.home address)) now address place sound given
      (account_so trade address (trade.home address))
  next_played luck sites (Upgrade p now) sound given = next_upgraded trade world laws.states luck sites p now sound given
  next_played luck sites (Vault address) sound given =
      next_asked trade world laws.states sites (λ (p : ℕ) (h : Half). answers sites (Vaults (archive_lines h address))) (account_home trade address (trade.home address)) sound (λ p h. next_as_it_was trade laws.states sites sound)
  next_played luck sites (VaultShow address place) sound given =
      next_asked trade world laws.states sites (λ (p : ℕ) (h : Half). shown trade luck sites p (slice_get (archive h address) place)) (account_home trade address (trade.home address)) sound
      (λ p h. next_shown trade world laws.states luck sites p (slice_get (archive h address) place) sound)
  next_played luck sites (Screen p place spare) sound given = next_screened trade world laws.states sites p place spare sound

  pub sound_played : (luck : Luck) (sites : List Site) (command : Command) → Sound trade sites → IsUnforged trade luck sites command
      → Sound trade (played trade luck sites command).after
  sound_played luck sites command sound given =
      laws.states.next sites (played trade luck sites command).after sound (next_played luck sites command sound given)

  pub sound_at_end : (lucks : List Luck) (sites : List Site) (commands : List Command) → Sound trade sites → AllUnforged trade lucks sites commands
      → Sound trade (script trade lucks sites commands).after
  sound_at_end [] sites commands sound given = sound
  sound_at_end (luck ∷ lucks) sites [] sound given = sound
  sound_at_end (luck ∷ lucks) sites (command ∷ commands) sound given =
      sound_at_end lucks (played trade luck sites command).after commands (sound_played luck sites command sound given.0) given.1

  pub sound_along : (lucks : List Luck) (sites : List Site) (commands : List Command) → Sound trade sites → AllUnforged trade lucks sites commands
      → SoundAlong trade lucks sites commands
  sound_along [] sites commands sound given = sound
  sound_along (luck ∷ lucks) sites [] sound given = sound
  sound_along (luck ∷ lucks) sites (command ∷ commands) sound given =
      (sound, sound_along lucks (played trade luck sites command).after commands (sound_played luck sites command sound given.0) given.1)

-- ---- links

module _ (trade : Trade) (world : IsTrade trade) (laws : LedgerLaws trade) where
  pub short_played : (luck : Luck) (sites : List Site) (command : Command) → Sound trade sites → IsUnforged trade luck sites command → LinksAreShort sites
      → LinksAreShort (played trade luck sites command).after
  unfolding played
  short_played luck sites (Submit p now sender path message) sound given short = short_submitted trade sites short luck p now sender path message (finds_at sites p message)
  short_played luck sites (Tick p now) sound given short = short_ticked trade sites short luck p now
  short_played luck sites (Round now) sound given short =
      short_rounded trade world laws.states sites sound (laws.arrivals (journals_of sites) sound.fit) (laws.images sites sound) laws.texts now given.0 luck.cuts short
  short_played luck sites (Lose from to place) sound given short = short_lost trade sites short from to place
  short_played luck sites (Repeat from to place) sound given short = short_put_again trade sites short from to (slice_get (frames_between sites from to) place)
  short_played luck sites (Swap from to place) sound given short = short_swapped trade sites short from to place (swapped_at place (frames_between sites from to)) refl
  short_played luck sites (Inject from to frame) sound given short = short_injected trade sites short from to frame
  short_played luck sites (Crash p) sound given short = short_crashed trade sites short p
  short_played luck sites (Restart p) sound given short = short_restarted trade sites short luck p
  short_played luck sites (Book address) sound given short =
      short_asked trade sites short (λ (p : ℕ) (h : Half). answers sites (Lines (book trade p h address))) (account_home trade address (trade.home address)) (λ p h. short)
  short_played luck sites (Mailbox address) sound given short =
      short_asked trade sites short (λ (p : ℕ) (h : Half). answers sites (Items (mailbox_lines h address))) (account_home trade address (trade.home address)) (λ p h. short)
  short_played luck sites (Show address place) sound given short =
      short_asked trade sites short (λ (p : ℕ) (h : Half). shown trade luck sites p (slice_get (mailbox h address) place)) (account_home trade address (trade.home address))
      (λ p h. short_shown trade sites short luck p (slice_get (mailbox h address) place))
  short_played luck sites (Archive address now place) sound given short =
      short_archived trade sites short luck (account_home trade address (trade.home address)) now address place
  short_played luck sites (Upgrade p now) sound given short = short_upgraded trade sites short luck p now
  short_played luck sites (Vault address) sound given short =
      short_asked trade sites short (λ (p : ℕ) (h : Half). answers sites (Vaults (archive_lines h address))) (account_home trade address (trade.home address)) (λ p h. short)
  short_played luck sites (VaultShow address place) sound given short =
      short_asked trade sites short (λ (p : ℕ) (h : Half). shown trade luck sites p (slice_get (archive h address) place)) (account_home trade address (trade.home address))
      (λ p h. short_shown trade sites short luck p (slice_get (archive h address) place))
  short_played luck sites (Screen p place spare) sound given short = short_screened trade sites short p place spare

  pub short_along : (lucks : List Luck) (sites : List Site) (commands : List Command) → Sound trade sites → AllUnforged trade lucks sites commands → LinksAreShort sites
      → ShortAlong trade lucks sites commands
  short_along [] sites commands sound given short = short
  short_along (luck ∷ lucks) sites [] sound given short = short
  short_along (luck ∷ lucks) sites (command ∷ commands) sound given short = (
    short,
    short_along lucks (played trade luck sites command).after commands (sound_played trade world laws luck sites command sound given.0) given.1
        (short_played luck sites command sound given.0 short),
  )

-- ---- fronts

front_events : (n : ℕ) (steps : List Step) → GoesOnAs (events_of (take n steps)) (events_of steps)
front_events n steps =
    (events_of (drop n steps), ap events_of (sym (take-append-drop n steps)) ∙ map-append (λ (s : Step). s.event) (take n steps) (drop n steps))

pub cut_is_front : (trade : Trade) (p : ℕ) (rooms : ℕ → ℕ) (site : Site) (steps : List Step) (cut : Cut)
    → GoesOnAs (cut_turn trade p rooms site steps cut).events (cut_turn trade p rooms site steps Whole).events
cut_is_front trade p rooms site steps Whole = ([], sym (append-nil (events_of steps)))
cut_is_front trade p rooms site steps (Fails n fault) = front_events n steps
cut_is_front trade p rooms site steps (Full n) = front_events n steps
cut_is_front trade p rooms site steps (Stops n) = front_events n steps
cut_is_front trade p rooms site steps (Unread n fault) = front_events n steps
cut_is_front trade p rooms site steps (Other out) = ([], sym (append-nil (events_of steps)))
cut_is_front trade p rooms site steps (Sees looks cut) = cut_is_front trade p rooms site steps cut

front_entries : (es : List Entry) (n : ℕ) (steps : List Step) → GoesOnAs (es ++ entries_of (take n steps)) (es ++ entries_of steps)
front_entries es n steps =
    let cut = parted n steps
    in (
      option_to_list (entry_at steps n) ++ cut.0,
      ap (λ (l : List Entry). es ++ l) cut.1 ∙ sym (append_assoc es (entries_of (take n steps)) (option_to_list (entry_at steps n) ++ cut.0)),
    )

pub cut_has_front : (trade : Trade) (p : ℕ) (rooms : ℕ → ℕ) (site : Site) (steps : List Step) (cut : Cut)
    → GoesOnAs (cut_turn trade p rooms site steps cut).site.journal (cut_turn trade p rooms site steps Whole).site.journal
cut_has_front trade p rooms site steps Whole = ([], sym (append-nil (site.journal ++ entries_of steps)))
cut_has_front trade p rooms site steps (Fails n fault) = front_entries site.journal n steps
cut_has_front trade p rooms site steps (Full n) = front_entries site.journal n steps
cut_has_front trade p rooms site steps (Stops n) = front_entries site.journal n steps
cut_has_front trade p rooms site steps (Unread n fault) = front_entries site.journal n steps
cut_has_front trade p rooms site steps (Other out) = ([], sym (append-nil (site.journal ++ entries_of steps)))
cut_has_front trade p rooms site steps (Sees looks cut) = cut_has_front trade p rooms site steps cut
