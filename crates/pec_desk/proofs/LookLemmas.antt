-- A look at an item: what is answered is what the account's share says, where the entry was given back as it was kept.
use Rattle.std.proofs.Common.{◌≡◌, inl, inr, ℕ, Bool, true, false, List, refl, ap, sym, ◌∙◌, subst, Option, Some, None, Result, Ok, Err}
use Rattle.std.specs.Prelude.{◌⊎◌, IfErr, IfSome, IsErrOf, if◌then◌else◌, slice_get, unwrap_or}
use Rattle.std.specs.Option.{option_map}
use Rattle.pec_types.specs.Answers.{seen_as}
use Rattle.pec_types.specs.Bytes.{Bytes}
use Rattle.pec_types.specs.declared.turns.ProviderFault.{ProviderFault}
use Rattle.pec_types.specs.declared.turns.ProviderFault.TheVariants as faults
use Rattle.pec_outside.specs.DiskModel.{Sight}
use Rattle.pec_directory.specs.Directory.{Kept, account_home, providers_of}
use Rattle.pec_seal.specs.Seals.{Seals}
use Rattle.pec_ledger.specs.Half.{Half, Posted}
use Rattle.pec_ledger.specs.Items.{item_text}
use Rattle.pec_ledger.specs.Lookups.{mailbox}
use Rattle.pec_ledger.specs.Network.{Site, journal_at, site_at}
use Rattle.pec_ledger.specs.Steps.{half}
use Rattle.pec_ledger.specs.Trade.{Trade}
use Rattle.pec_plays.specs.Commands.{Answer, Command, Luck, Played, Refuses, Show, Shown, answers, asked, played, shown, shown_bytes}
use Rattle.pec_plays.specs.Commands as plays
use Rattle.pec_plays.specs.Possible.{IsOfRead}
use Rattle.pec_network.specs.Changing.{ConcernsOne}
use Rattle.pec_network.specs.Network.{NetworkState, sites, world_of}
use Rattle.pec_network.specs.Playing.{IsReadOver, IsReadSo, luck_of_read}
use Rattle.pec_http.specs.Desks.{IsItemFault}
use Rattle.pec_http.specs.Replies.{Reply, shown_reply}
use Rattle.pec_http.specs.Serving.{kind_of}
use Rattle.pec_http.specs.declared.demands.Look.TheVariants as looks
use Rattle.pec_service.specs.Connections.{seen_in}
use Rattle.pec_service.specs.OfTrades.{trade_of}
use Rattle.pec_service.specs.Own.{IsFaultOfLook, share_at, shown_with}
use Rattle.pec_service.specs.ShareLaws.{ShowsSo, home_is, look_is}
use Rattle.pec_desk.proofs.ShareLemmas.{bytes_tell, told, told_once}

-- ---- what is seen of a call's answer

-- the fault is the same, whatever would have been answered without it
err_seen : {V X : Type 0} (seen : V → X) (said : Result V ProviderFault) (fault : ProviderFault)
    → IsErrOf (seen_as seen said) fault → IsErrOf said fault
err_seen {V} seen (Ok value) fault is = absurd cc
err_seen {V} seen (Err other) fault is =
    ap (λ (f : ProviderFault). (let r : Result V ProviderFault = Err f in r)) (let same : other ≡ fault = cc in same)

pub err_fits : {V X : Type 0} (seen : V → X) (said : Result V ProviderFault) (Fits : ProviderFault → Type 0)
    → IfErr (seen_as seen said) Fits → IfErr said Fits
err_fits seen (Ok value) Fits fits = tt
err_fits seen (Err fault) Fits fits = fits

module _ {V X : Type 0} (seen : V → X) (tells : X → Answer) (play : Option ProviderFault → Played) (old new : List Site) where
  read_seen : (said : Result V ProviderFault) → IsReadSo (λ (v : V). tells (seen v)) play old new said
      → IsReadSo tells play old new (seen_as seen said)
  read_seen (Ok value) is = is
  read_seen (Err faults.NoMemory) is = is
  read_seen (Err faults.DiskFault) is = is
  read_seen (Err faults.Down) is = is
  read_seen (Err (faults.ClockBack last)) is = is
  read_seen (Err faults.NoAccount) is = is
  read_seen (Err faults.Full) is = is
  read_seen (Err faults.NoItem) is = is
  read_seen (Err faults.JournalFull) is = is
  read_seen (Err faults.OldJournal) is = is
  read_seen (Err faults.NoNeed) is = is
  read_seen (Err (faults.Changed number)) is = is

module _ {D S V : Type 0} (seals : S → Seals) (old new : NetworkState D S) (seen : V → Bytes)
    (said : Result V ProviderFault) where
  pub seen_over : (Stood : Type 0) (command : Command)
      → IsReadOver Stood seals (λ (v : V). Shown (seen v)) command old new said
      → IsReadOver Stood seals Shown command old new (seen_as seen said)
  seen_over Stood command over = record {
    shown = over.shown;
    kept = over.kept;
    unchanged = λ stood number is. over.unchanged stood number (err_seen seen said (faults.Changed number) is);
    is = read_seen seen Shown (λ read. played (world_of seals old) (luck_of_read read over.shown) (sites old) command)
        (sites old) (sites new) said over.is;
  }

  pub seen_concerns : (sight : D → Sight) (count : D → ℕ) (tells : Type 0) (home : Option ℕ) (number : ℕ)
      → home ≡ Some number → ConcernsOne sight count tells seals (unwrap_or home 0) old new said
      → ConcernsOne sight count tells seals number old new (seen_as seen said)
  seen_concerns sight count tells home number home_is concerns =
      let at_home : ConcernsOne sight count tells seals number old new said =
      subst (λ (h : Option ℕ). ConcernsOne sight count tells seals (unwrap_or h 0) old new said) home_is concerns
      in record {
        others = at_home.others;
        carries = at_home.carries;
        disk_fault = λ is. at_home.disk_fault (err_seen seen said faults.DiskFault is);
        later = at_home.later;
      }

-- ---- a look, as it was played

-- It was played with a luck that it may meet, and told so.
pub record Looked (play : Luck → Played) (new : List Site) (shown_so : Option Bytes) (said : Result Bytes ProviderFault)
    : Type 0 where
  pub luck : Luck
  pub may : IfSome luck.read IsOfRead
  pub shown : luck.shown ≡ shown_so
  pub answer : (play luck).answer ≡ told Shown said

module _ (play : Luck → Played) (old new : List Site) (shown_so : Option Bytes) where
  refused_so : (fault : ProviderFault) → (play (luck_of_read None shown_so) ≡ answers old (Refuses fault)) × (new ≡ old)
      → Looked play new shown_so (Err fault)
  refused_so fault is =
      record { luck = luck_of_read None shown_so; may = tt; shown = refl; answer = ap (λ (p : Played). p.answer) is.0 }

  pub looked_or : (said : Result Bytes ProviderFault)
      → IsReadSo Shown (λ read. play (luck_of_read read shown_so)) old new said
      → Looked play new shown_so said ⊎ (said ≡ Err faults.NoMemory)
  looked_or (Ok bytes) is =
      inl (record { luck = luck_of_read None shown_so; may = tt; shown = refl; answer = ap (λ (p : Played). p.answer) is.0 })
  looked_or (Err faults.NoMemory) is = inr refl
  looked_or (Err faults.DiskFault) is = inl (record {
    luck = luck_of_read (Some faults.DiskFault) shown_so;
    may = tt;
    shown = refl;
    answer = ap (λ (p : Played). p.answer) is;
  })
  looked_or (Err (faults.Changed number)) is = inl (record {
    luck = luck_of_read (Some (faults.Changed number)) shown_so;
    may = tt;
    shown = refl;
    answer = ap (λ (p : Played). p.answer) is;
  })
  looked_or (Err faults.Down) is = inl (refused_so faults.Down is)
  looked_or (Err (faults.ClockBack last)) is = inl (refused_so (faults.ClockBack last) is)
  looked_or (Err faults.NoAccount) is = inl (refused_so faults.NoAccount is)
  looked_or (Err faults.Full) is = inl (refused_so faults.Full is)
  looked_or (Err faults.NoItem) is = inl (refused_so faults.NoItem is)
  looked_or (Err faults.JournalFull) is = inl (refused_so faults.JournalFull is)
  looked_or (Err faults.OldJournal) is = inl (refused_so faults.OldJournal is)
  looked_or (Err faults.NoNeed) is = inl (refused_so faults.NoNeed is)

-- ---- it is the account's own

told_seen : (said : Result Bytes ProviderFault) → said ≡ seen_in (told Shown said)
told_seen (Ok bytes) = refl
told_seen (Err fault) = refl

refused_is : (said : Result Bytes ProviderFault) (fault : ProviderFault) → told Shown said ≡ Refuses fault → said ≡ Err fault
refused_is said fault is = told_once Shown bytes_tell said (Err fault) is

-- what is answered is the share's, or a fault of the disk, or an entry that changed, or memory ran out
module _ (place : ℕ) (said own : Result Bytes ProviderFault) (reply : Reply)
    (answer : reply ≡ shown_reply (kind_of (looks.Item place)) said) where
  abbrev IsOwnItem : Type 0
  IsOwnItem = (reply ≡ shown_reply (kind_of (looks.Item place)) own) ⊎ IsFaultOfLook (looks.Item place) reply

  replied : (other : Result Bytes ProviderFault) → said ≡ other → reply ≡ shown_reply (kind_of (looks.Item place)) other
  replied other is = answer ∙ ap (shown_reply (kind_of (looks.Item place))) is

  lacks_item : said ≡ Err faults.NoMemory → IsOwnItem
  lacks_item lack = inr (inl (inl (replied (Err faults.NoMemory) lack)))

  shows_own : ShowsSo own (told Shown said) → IsOwnItem
  shows_own (inl same) = inl (replied own (told_seen said ∙ same))
  shows_own (inr (inl disk)) = inr (inl (inr (replied (Err faults.DiskFault) (refused_is said faults.DiskFault disk))))
  shows_own (inr (inr changed)) =
      inr (inr (changed.0, changed.1, replied (Err changed.0) (refused_is said changed.0 changed.2)))

module _ (kept : List Kept) (seals : Seals) (state after : List Site) (address : Bytes)
    (place : ℕ) where
  abbrev own_item : Result Bytes ProviderFault
  own_item = shown_with (providers_of kept)
      (option_map (share_at (trade_of kept seals) state address) (account_home (providers_of kept) address))
      (looks.Item place)

  abbrev look : Luck → Played
  look luck = played (trade_of kept seals) luck state (Show address place)

  module _ (said : Result Bytes ProviderFault) (reply : Reply)
      (answer : reply ≡ shown_reply (kind_of (looks.Item place)) said) where
    by_luck : Looked look after None said ⊎ (said ≡ Err faults.NoMemory) → IsOwnItem place said own_item reply answer
    by_luck (inr lack) = lacks_item place said own_item reply answer lack
    by_luck (inl looked) =
        shows_own place said own_item reply answer (subst (λ (a : Answer). ShowsSo own_item a) looked.answer
        (look_is kept seals state address place looked.luck looked.shown looked.may))

    pub item_is : IsReadSo Shown (λ read. look (luck_of_read read None)) state after said
        → (reply ≡ shown_reply (kind_of (looks.Item place)) own_item) ⊎ IsFaultOfLook (looks.Item place) reply
    item_is is = by_luck (looked_or look state after None said is)

-- ---- why it is refused

-- an answer that refuses does so for what an item may be refused for
abbrev RefusesSo : Answer → Type 0
RefusesSo (Refuses fault) = IsItemFault fault
RefusesSo _ = Unit {0}

module _ (kept : List Kept) (seals : Seals) (state after : List Site) (address : Bytes) (number : ℕ)
    (home : account_home (providers_of kept) address ≡ Some number) (place : ℕ) (shown_so : Option Bytes) where
  abbrev trade : Trade
  trade = trade_of kept seals

  abbrev whole : Luck
  whole = luck_of_read None shown_so

  bytes_so : (text : Option Bytes) → RefusesSo (shown_bytes whole state number text).answer
  bytes_so None = tt
  bytes_so (Some bytes) = tt

  posted_so : (posted : Option Posted) → RefusesSo (shown trade whole state number posted).answer
  posted_so None = tt
  posted_so (Some posted) = bytes_so (item_text trade number (journal_at state number) posted)

  by_up : (up : Bool) (show : Played) → RefusesSo show.answer
      → RefusesSo (if up then show else answers state (Refuses faults.Down)).answer
  by_up true show so = so
  by_up false show so = tt

  look_refuses : RefusesSo (played trade whole state (Show address place)).answer
  unfolding played
  look_refuses =
      subst (λ (h : Option ℕ). RefusesSo (asked state
      (λ provider half. shown trade whole state provider (slice_get (mailbox half address) place)) trade h).answer)
      (sym (home_is kept seals address number home))
      (by_up (site_at state number).up
      (shown trade whole state number (slice_get (mailbox (half trade number (journal_at state number)) address) place))
      (posted_so (slice_get (mailbox (half trade number (journal_at state number)) address) place)))

  refuses_at : (fault : ProviderFault)
      → (played trade whole state (Show address place) ≡ answers state (Refuses fault)) × (after ≡ state)
      → IsItemFault fault
  refuses_at fault is =
      subst (λ (p : Played). RefusesSo p.answer) is.0 look_refuses

  pub item_refuses : (said : Result Bytes ProviderFault)
      → IsReadSo Shown (λ read. played trade (luck_of_read read shown_so) state (Show address place)) state after said
      → IfErr said IsItemFault
  item_refuses (Ok bytes) is = tt
  item_refuses (Err faults.NoMemory) is = tt
  item_refuses (Err faults.DiskFault) is = tt
  item_refuses (Err (faults.Changed entry)) is = tt
  item_refuses (Err faults.Down) is = tt
  item_refuses (Err (faults.ClockBack last)) is = refuses_at (faults.ClockBack last) is
  item_refuses (Err faults.NoAccount) is = refuses_at faults.NoAccount is
  item_refuses (Err faults.Full) is = refuses_at faults.Full is
  item_refuses (Err faults.NoItem) is = tt
  item_refuses (Err faults.JournalFull) is = refuses_at faults.JournalFull is
  item_refuses (Err faults.OldJournal) is = refuses_at faults.OldJournal is
  item_refuses (Err faults.NoNeed) is = refuses_at faults.NoNeed is
