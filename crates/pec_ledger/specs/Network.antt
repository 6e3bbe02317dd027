-- The state of a network, a list of sites, one for each provider, and what is true of it at every moment: `Sound`. Then
-- how a state goes on, for each provider by itself: `GoesOn`, `Continues`, and the cases of `Happens`. A crash may
-- leave any of the journals of which `GoesOn` speaks. This project's profile.
use Rattle.std.specs.Prelude.{◌≡◌, ℕ, zero, suc, ◌+◌, ◌⊎◌, Bool, true, false, List, [], ◌∷◌, ◌++◌, length, replicate, All, slice_index_or, Option, Some, None, IsSome}
use Rattle.std.specs.Option.{option_to_list}
use Rattle.pec_types.specs.Bytes.{Bytes}
use Rattle.pec_types.specs.declared.letters.Letter.{Letter}
use Rattle.pec_records.specs.declared.entries.Entry.{Entry}
use Rattle.pec_records.specs.declared.entries.Entry.TheVariants as entries
use Rattle.pec_ledger.specs.Items.{IsItemText}
use Rattle.pec_ledger.specs.Ledger.{Fit, Follows, IsLicensedText, Journals}
use Rattle.pec_ledger.specs.Steps.{half}
use Rattle.pec_ledger.specs.Trade.{Framed, Trade}

-- A provider as it stands: its journal, whether it is up, the entry whose append failed and may or may not be on the
-- disk, the patterns of its screens, a list for each box, and the frames that wait for it, a list for each provider
-- that sent them, oldest first.
pub record Site : Type 0 where
  pub journal : List Entry
  pub up : Bool
  pub interrupted : Option Entry
  pub screens : List (List Bytes)
  pub waiting : List (List Bytes)

-- where no provider stands: nothing is kept, nothing is up, nothing is looked for, and nothing waits
abbrev pub empty_site : Site
empty_site = record { journal = []; up = false; interrupted = None; screens = []; waiting = [] }

-- the provider of a number, from 0, as it stands
abbrev pub site_at : List Site → ℕ → Site
site_at sites provider = slice_index_or sites provider empty_site

-- its journal
abbrev pub journal_at : List Site → ℕ → List Entry
journal_at sites provider = (site_at sites provider).journal

-- its entry whose append failed, if there is one
abbrev pub interrupted_at : List Site → ℕ → Option Entry
interrupted_at sites provider = (site_at sites provider).interrupted

-- whether it is up
abbrev pub is_up : List Site → ℕ → Bool
is_up sites provider = (site_at sites provider).up

-- the frames from one provider that wait for another
abbrev pub frames_between : List Site → ℕ → ℕ → List Bytes
frames_between sites from to = slice_index_or (site_at sites to).waiting from []

-- All journals of a state.
abbrev pub journals_of : List Site → Journals
journals_of sites provider = journal_at sites provider

-- an interrupted entry that is on the disk, or isn't
abbrev pub chosen : Bool → Option Entry → List Entry
chosen false entry = []
chosen true entry = option_to_list entry

-- All journals, each with its interrupted entry where that is chosen.
abbrev pub with_choice : List Site → (ℕ → Bool) → Journals
with_choice sites choice provider = journal_at sites provider ++ chosen (choice provider) (interrupted_at sites provider)

-- a list of journals, as journals
abbrev pub journals_in : List (List Entry) → Journals
journals_in lists provider = slice_index_or lists provider []

module _ (trade : Trade) where
  -- ---- frames

  -- These bytes are the text of a licensed letter or of a mailbox item.
  abbrev pub IsGenuineText : Journals → Bytes → Type 0
  IsGenuineText journals bytes = ((letter : Letter) × IsLicensedText trade journals letter bytes) ⊎ IsItemText trade journals bytes

  -- Where a message stands in the frame and opens, it is such a text. The path is free.
  abbrev pub IsGenuine : Journals → Bytes → Type 0
  IsGenuine journals frame =
      (framed : Framed) → trade.unframed frame ≡ Some framed → trade.opens framed.message ≡ true
      → IsGenuineText journals framed.message

  -- Each of the frames is genuine.
  abbrev pub AreGenuine : Journals → List Bytes → Type 0
  AreGenuine journals frames = All (IsGenuine journals) frames

  -- ---- states

  -- A state is right: there is a site for each provider, the journals are Fit, with any choice of interrupted entries
  -- too, a provider with an interrupted entry is down, and every waiting frame is genuine.
  pub record Sound (sites : List Site) : Type 0 where
    pub count : length sites ≡ trade.providers
    pub fit : Fit trade (journals_of sites)
    pub any_choice : (choice : ℕ → Bool) → Fit trade (with_choice sites choice)
    pub down : (provider : ℕ) → IsSome (interrupted_at sites provider) → is_up sites provider ≡ false
    pub genuine : (from to : ℕ) → AreGenuine (journals_of sites) (frames_between sites from to)

  -- a provider as it begins: its journal, of version 2, has its Start, it is up, it has its screens, and nothing waits
  abbrev pub started : (ℕ → List (List Bytes)) → ℕ → Site
  started screens provider = record {
    journal = entries.StartTwo provider trade.digest ∷ [];
    up = true;
    interrupted = None;
    screens = screens provider;
    waiting = replicate trade.providers [];
  }

  -- so many providers, numbered from here on
  abbrev pub started_from : (ℕ → List (List Bytes)) → ℕ → ℕ → List Site
  started_from screens number zero = []
  started_from screens number (suc count) = started screens number ∷ started_from screens (number + 1) count

  -- The state at the start, with these screens of each provider.
  unfoldable pub at_start : (ℕ → List (List Bytes)) → List Site
  at_start screens = started_from screens 0 trade.providers

  -- ---- how a state goes on

  -- A journal of a provider that goes on from these entries: they stand first, then the interrupted entry or nothing,
  -- then further entries, each of which may follow in the ledger of these journals. It speaks of one provider.
  pub record GoesOn (journals : Journals) (provider : ℕ) (old : List Entry) (interrupted : Option Entry)
      (image : List Entry) : Type 0 where
    pub choice : Bool
    pub further : List Entry
    pub is : image ≡ old ++ (chosen choice interrupted ++ further)
    pub follows : Follows trade journals provider (half trade provider (old ++ chosen choice interrupted)) further

  -- A journal of a provider that follows a state.
  abbrev pub FollowsState : List Site → ℕ → List Entry → Type 0
  FollowsState sites provider image =
      GoesOn (journals_of sites) provider (journal_at sites provider) (interrupted_at sites provider) image

  -- What a provider owes from one state to the next: whichever of its interrupted entry is on the disk, its journal
  -- follows the old state.
  pub record Continues (old new : List Site) (provider : ℕ) : Type 0 where
    pub journal : (choice : Bool) → FollowsState old provider (journal_at new provider ++ chosen choice (interrupted_at new provider))
    pub down : IsSome (interrupted_at new provider) → is_up new provider ≡ false

  -- A state after another one.
  pub record IsNext (old new : List Site) : Type 0 where
    pub count : length new ≡ length old
    pub each : (provider : ℕ) → Continues old new provider
    pub genuine : (from to : ℕ) → AreGenuine (journals_of new) (frames_between new from to)

  -- What may become of a provider in a command: it stays as it is, goes down, or can't be restarted; entries are
  -- appended; an append fails, behind others that didn't; or it is restarted, and its interrupted entry was found or
  -- was not.
  pub data Happens (old new : List Site) (provider : ℕ) : Type 0 where
    Stays : journal_at new provider ≡ journal_at old provider → interrupted_at new provider ≡ interrupted_at old provider
        → (IsSome (interrupted_at new provider) → is_up new provider ≡ false) → Happens old new provider
    Appends : (more : List Entry) → interrupted_at old provider ≡ None → interrupted_at new provider ≡ None
        → journal_at new provider ≡ journal_at old provider ++ more
        → Follows trade (journals_of old) provider (half trade provider (journal_at old provider)) more
        → Happens old new provider
    Fails : (more : List Entry) (entry : Entry) → interrupted_at old provider ≡ None → interrupted_at new provider ≡ Some entry
        → is_up new provider ≡ false → journal_at new provider ≡ journal_at old provider ++ more
        → Follows trade (journals_of old) provider (half trade provider (journal_at old provider)) (more ++ entry ∷ [])
        → Happens old new provider
    Restarts : (found : Bool) → journal_at new provider ≡ journal_at old provider ++ chosen found (interrupted_at old provider)
        → interrupted_at new provider ≡ None → Happens old new provider
