-- A run that writes an extract of logs: what its status tells of the text, and what its disks go through.
use Rattle.std.proofs.Common.{◌≡◌, ◌≢◌, ℕ, zero, suc, ◌<◌, ◌≤◌, Bool, true, false, not, List, [], ◌∷◌, ◌++◌, length, get_or, refl, ap, subst, sym, ◌∙◌, arith, ◌⊎◌, inl, inr, Option, Some, None, Result, Ok, Err}
use Rattle.std.specs.Prelude.{IfErr, IsErrOf, OnErr, OnOk, Vec, drop, slice_get, take}
use Rattle.std.specs.declared.alloc.Global.{Global}
use Rattle.std.proofs.lemmas.List.{append-nil, drop_all, take_all}
use Rattle.std.proofs.lemmas.Bool.{cases_lt}
use Rattle.std.proofs.lemmas.Option.{get_or_from_slice_get, none-some, same_Some, slice_get-get_or, slice_get_past, slice_get_within}
use Rattle.pec_types.specs.Bytes.{Bytes}
use Rattle.pec_outside.specs.DiskModel.{LeavesOnly, Sight}
use Rattle.pec_outside.specs.Flow.{HasRisen, WrotePart, followed_by}
use Rattle.pec_outside.specs.Moments.{weaker}
use Rattle.pec_chronicle.specs.Carrying.{AllFollow, IsImage, NothingMay}
use Rattle.pec_chronicle.specs.Chronicle.{IsJournalOf}
use Rattle.pec_directory.specs.Directory.{Kept, providers_of}
use Rattle.pec_records.specs.declared.entries.Entry.{Entry}
use Rattle.pec_ledger.specs.Network.{Site, chosen, interrupted_at, is_up, journal_at, site_at}
use Rattle.pec_ledger.specs.Trade.{Trade}
use Rattle.pec_seal.specs.Seals.{Seals}
use Rattle.pec_extract.specs.Logs.{AllStand, AllUp, HasGrown, OnRead, log_text, logs_of}
use Rattle.pec_extract.specs.Reading.{OnChanged}
use Rattle.pec_extract.specs.declared.faults.ExtractFault.{ExtractFault}
use Rattle.pec_extract.specs.declared.faults.ExtractFault.TheVariants as extracts
use Rattle.pec_dossier.specs.Extracts.{Extracts, HasOpened, Range, TellsHeader, TellsText}
use Rattle.pec_runs.specs.Openings.{AreLeft, Form, IsLeft, IsOpening, NoMore}
use Rattle.pec_runs.specs.Openings.{Resume, disks_at, opened_all}
use Rattle.pec_runs.specs.Statuses.{Status}
use Rattle.pec_runs.specs.Statuses as statuses
use Rattle.pec_runs.specs.Through.{AreHadFrom}
use Rattle.pec_serving.specs.OfNetworks.{IsOfDirectory, NetworkState, ProviderState, Stands, count_or}
use Rattle.pec_serving.specs.OfNetworks.{trade_of}
use Rattle.pec_serving.specs.OfNetworks.{counts_in, desk_of, journals_had, site_of, sites, waiting_for, world_of}
use Rattle.pec_top.specs.Extracting.{WereRead, header_text, text_within}
use Rattle.pec_top.specs.Opened.{IsOpened, disks_of}
use Rattle.pec_top.specs.Scripts.{AreKept}
use Rattle.pec_top.specs.Shown.{log_shown}
use Rattle.pec_top.specs.declared.forms.Form.TheVariants as forms
use Rattle.pec_top.specs.declared.opening.Journals.TheVariants as journals
use Rattle.pec_top.proofs.FlowLemmas.{followed_by-append}
use Rattle.pec_top.proofs.HadFromLemmas.{disk_at}
use Rattle.pec_top.proofs.HadLemmas.{left_so, opened_at, screens_of}
use Rattle.pec_top.proofs.OpenedLemmas.{risen_over}
use Rattle.pec_top.proofs.WholeLemmas.{site_is, there}

-- ---- what a status tells of the text

module _ {X : Type 0} where
  pub log_told : (result : Result X ExtractFault) (before after : Option Bytes) (text : Bytes)
      → OnOk result (after ≡ followed_by before text) → OnErr result (WrotePart before after text)
      → TellsText (log_shown result) before after text
  log_told (Ok done) before after text ok err = ok
  log_told (Err extracts.NoMemory) before after text ok err = err
  log_told (Err extracts.WriteFault) before after text ok err = err
  log_told (Err extracts.DiskFault) before after text ok err = err
  log_told (Err (extracts.Changed number)) before after text ok err = err

  pub log_headed : (result : Result X ExtractFault) (before after : Option Bytes) (header : Bytes)
      → IfErr result (OnRead (HasGrown (followed_by before header) after))
      → TellsHeader (log_shown result) header before after
  log_headed (Ok done) before after header grown = tt
  log_headed (Err extracts.NoMemory) before after header grown = tt
  log_headed (Err extracts.WriteFault) before after header grown = tt
  log_headed (Err extracts.DiskFault) before after header grown =
      (grown.0, grown.1 ∙ followed_by-append before header grown.0)
  log_headed (Err (extracts.Changed number)) before after header grown =
      (grown.0, grown.1 ∙ followed_by-append before header grown.0)

  pub log_changed : (result : Result X ExtractFault) (Is : ℕ → Type 0) → IfErr result (OnChanged Is)
      → log_shown result ≡ statuses.Changed → (number : ℕ) × Is number
  log_changed (Ok done) Is changed e = cc
  log_changed (Err extracts.NoMemory) Is changed e = cc
  log_changed (Err extracts.WriteFault) Is changed e = cc
  log_changed (Err extracts.DiskFault) Is changed e = cc
  log_changed (Err (extracts.Changed number)) Is changed e = (number, changed)

  pub log_done : (result : Result X ExtractFault) (P : Type 0) → OnOk result P → log_shown result ≡ statuses.Done → P
  log_done (Ok done) P is e = is
  log_done (Err extracts.NoMemory) P is e = absurd (cc e)
  log_done (Err extracts.WriteFault) P is e = absurd (cc e)
  log_done (Err extracts.DiskFault) P is e = absurd (cc e)
  log_done (Err (extracts.Changed number)) P is e = absurd (cc e)

  pub log_failed : (result : Result X ExtractFault) → log_shown result ≡ statuses.DiskFault
      → IsErrOf result extracts.DiskFault
  log_failed (Ok done) e = cc
  log_failed (Err extracts.NoMemory) e = cc
  log_failed (Err extracts.WriteFault) e = cc
  log_failed (Err extracts.DiskFault) e = refl
  log_failed (Err (extracts.Changed number)) e = cc

  pub log_unwritten : (result : Result X ExtractFault) → log_shown result ≡ statuses.WriteFault
      → IsErrOf result extracts.WriteFault
  log_unwritten (Ok done) e = cc
  log_unwritten (Err extracts.NoMemory) e = cc
  log_unwritten (Err extracts.WriteFault) e = refl
  log_unwritten (Err extracts.DiskFault) e = cc
  log_unwritten (Err (extracts.Changed number)) e = cc

-- what was written of the logs of these providers was written of those that they are
pub text_told : {X D S : Type 0} (result : Result X ExtractFault) (status : Status) → status ≡ log_shown result
    → (sight : D → Sight) (seals : S → Seals) (from upto : ℕ) (before after : Option Bytes) (kept given : List Kept)
    (sealer with_ : S) (providers lent : List (ProviderState D)) → given ≡ kept → with_ ≡ sealer → lent ≡ providers
    → (AllStand sight lent → OnOk result (after ≡ followed_by before
    (log_text (trade_of given (seals with_)) (providers_of given) from upto (logs_of lent))))
    → (AllStand sight lent → OnErr result (WrotePart before after
    (log_text (trade_of given (seals with_)) (providers_of given) from upto (logs_of lent))))
    → AllStand sight providers
    → TellsText status before after
    (log_text (trade_of kept (seals sealer)) (providers_of kept) from upto (logs_of providers))
text_told {X} {D} {S} result status is sight seals from upto before after kept given sealer with_ providers lent same_kept
    same_sealer same_providers ok err stand =
    let stood = subst (AllStand sight) (sym same_providers) stand
    in let text : Bytes = log_text (trade_of given (seals with_)) (providers_of given) from upto (logs_of lent)
    in let told : TellsText status before after text =
    subst (λ (s : Status). TellsText s before after text) (sym is) (log_told result before after text (ok stood) (err stood))
    in subst (λ (p : List (ProviderState D)). TellsText status before after
    (log_text (trade_of kept (seals sealer)) (providers_of kept) from upto (logs_of p))) same_providers
    (subst (λ (s : S). TellsText status before after
    (log_text (trade_of kept (seals s)) (providers_of kept) from upto (logs_of lent))) same_sealer
    (subst (λ (k : List Kept). TellsText status before after
    (log_text (trade_of k (seals with_)) (providers_of k) from upto (logs_of lent))) same_kept told))

-- a list that was lent as a slice, with what was written there
pub lent_again : {X : Type 0} (list : Vec X Global) (lent new : List X) → lent ≡ list.items → length new ≡ length lent
    → take list.len (new ++ drop (length new) list.items) ≡ new
lent_again {X} list lent new is same =
    let many : length new ≡ length list.items = same ∙ ap (λ (l : List X). length l) is in
    let none = drop_all (length new) list.items (omega (arith, many)) in
    ap (λ (rest : List X). take list.len (new ++ rest)) none ∙ ap (λ (l : List X). take list.len l) (append-nil new)
    ∙ take_all list.len new (omega (arith, many, list.ok.0))

-- ---- a network, and its logs

up_not : (down : Bool) → not down ≡ true → down ≡ false
up_not true e = cc
up_not false e = refl

module _ {D S : Type 0} {seals : Seals} (network : NetworkState D S)
    (whole : IsOfDirectory network.kept seals network.providers network.waiting) where
  site_of_it : (k : ℕ) (x : ProviderState D) → k < length network.providers
      → site_at (sites network) k
      ≡ site_of (desk_of (get_or network.providers k x)) (screens_of network.screens k)
      (waiting_for network.waiting k)
  site_of_it k x within =
      site_is network.providers network.screens network.waiting k x within (whole.links ∙ sym whole.count)

  pub journal_is : (k : ℕ) (x : ProviderState D) → k < length network.providers
      → journal_at (sites network) k ≡ (get_or network.providers k x).chronicle.entries
  journal_is k x within = ap (λ (s : Site). s.journal) (site_of_it k x within)

  pub interrupted_is : (k : ℕ) (x : ProviderState D) → k < length network.providers
      → interrupted_at (sites network) k ≡ (get_or network.providers k x).chronicle.interrupted
  interrupted_is k x within = ap (λ (s : Site). s.interrupted) (site_of_it k x within)

  -- where all were opened none is down
  pub all_up : (trade : Trade) → sites network ≡ opened_all trade [] (journals_had network.providers)
      → AllUp network.providers
  all_up trade begins = λ k x within.
      let journal = (get_or network.providers k x).chronicle.entries
      in let found : slice_get (journals_had network.providers) k ≡ Some journal = found_at network.providers k x within
      in let up : is_up (sites network) k ≡ true =
      ap (λ (s : List Site). is_up s k) begins
      ∙ ap (λ (s : Site). s.up) (opened_at trade [] (journals_had network.providers) k journal found)
      in up_not (get_or network.providers k x).chronicle.down
      (sym (ap (λ (s : Site). s.up) (site_of_it k x within)) ∙ up)
    where
      found_at : (xs : List (ProviderState D)) (k : ℕ) (x : ProviderState D) → k < length xs
          → slice_get (journals_had xs) k ≡ Some (get_or xs k x).chronicle.entries
      found_at [] k x l = absurd (omega (arith, l))
      found_at (y ∷ ys) zero x l = refl
      found_at (y ∷ ys) (suc k) x l = found_at ys k x (omega (arith, l))

-- ---- images

none_follows : (list further : List Entry) → AllFollow NothingMay list further → further ≡ []
none_follows list [] follow = refl
none_follows list (entry ∷ further) follow = absurd follow.0

-- what goes on from entries where nothing may follow is these, with the interrupted one or without it
pub image_left : (state : List Site) (k : ℕ) (entries : List Entry) (interrupted : Option Entry)
    → journal_at state k ≡ entries → interrupted_at state k ≡ interrupted → (image : Bytes)
    → IsImage NothingMay entries interrupted image → IsLeft state k image
image_left state k entries interrupted journal also image is =
    let goes = is.1
    in let none = none_follows (entries ++ chosen goes.choice interrupted) goes.further goes.follow
    in let same : is.0 ≡ entries ++ chosen goes.choice interrupted =
    goes.is
    ∙ ap (λ (more : List Entry). entries ++ (chosen goes.choice interrupted ++ more)) none
    ∙ ap (λ (more : List Entry). entries ++ more) (append-nil (chosen goes.choice interrupted))
    in (
      goes.choice,
      subst (λ (list : List Entry). IsJournalOf (list ++ chosen goes.choice (interrupted_at state k)) image) (sym journal)
          (subst (λ (entry : Option Entry). IsJournalOf (entries ++ chosen goes.choice entry) image) (sym also)
          (subst (λ (list : List Entry). IsJournalOf list image) same is.2)),
    )

-- ---- all journals were opened, and read

risen_at : (a b c d : ℕ) → a ≡ c → b ≡ d → HasRisen a b → HasRisen c d
risen_at a b c d first second risen =
    subst (λ (n : ℕ). HasRisen n d) first (subst (λ (n : ℕ). HasRisen a n) second risen)

module _ {D S : Type 0} (tells reads : Type 0) (sight : D → Sight) (seals : S → Seals) (count : D → ℕ)
    (home mid left : ℕ → Option D) (last mid_last later : ℕ → ℕ) (status : Status) (network : NetworkState D S)
    (opened : IsOpened tells reads sight seals count [] (journals.As forms.Resume) home mid last mid_last network)
    (whole : IsOfDirectory network.kept (seals network.sealer) network.providers network.waiting)
    (read : WereRead tells reads sight count status network.providers mid left mid_last later) where
  abbrev World : Trade
  World = world_of seals network

  abbrev Logs : List (List Entry)
  Logs = journals_had network.providers

  abbrev Now : ℕ → ProviderState D → ProviderState D
  Now k x = get_or read.now k x

  abbrev Was : ℕ → ProviderState D → ProviderState D
  Was k x = get_or network.providers k x

  is_resume : opened.form ≡ Resume
  is_resume = opened.is_form

  pub had_so : AreHadFrom sight (tells × reads) Resume World home (disks_of network.providers)
  had_so = subst (λ (f : Form). AreHadFrom sight (tells × reads) f World home (disks_of network.providers)) is_resume
      opened.had

  pub opening_so : IsOpening World (disks_at (tells × reads) sight home) Resume (record { journals = Logs; next = NoMore })
  opening_so = subst (λ (f : Form). IsOpening World (disks_at (tells × reads) sight home) f
      (record { journals = Logs; next = NoMore })) is_resume opened.opening

  inside : (k : ℕ) → k < length network.providers → k < length read.now
  inside k within = let many = read.many in omega (arith, many, within)

  -- what was opened stands on the disks as they were then
  stood : tells × reads → (k : ℕ) (x : ProviderState D) → k < length network.providers → Stands sight (Was k x).chronicle
  stood told k x within = opened.stands told k x within

  pub kept_so : AreKept (tells × reads) sight (length network.kept) (sites network) mid left
  kept_so = record {
    here = λ told k within.
        let inner : k < length network.providers = omega (arith, whole.count, within)
        in let x = there network.providers k inner
        in let log = read.each k x inner
        in let carries = log.carries told.1
        in (
          (Now k x).chronicle.disk,
          (read.kept told.0).here k x (inside k inner),
          λ bytes leaves. left_so sight (sites network) k (Now k x).chronicle
              (journal_is network whole k x inner ∙ sym log.entries)
              (interrupted_is network whole k x inner ∙ sym log.interrupted)
              (carries.stands (stood told k x inner)) bytes leaves,
        );
    elsewhere = λ told k past.
        (read.kept told.0).elsewhere k (let many = read.many in let size = whole.count in omega (arith, many, size, past));
  }

  pub disks_so : AreLeft (disks_at (tells × reads) sight home) (disks_at (tells × reads) sight left) Resume
      (record { journals = Logs; next = NoMore }) (opened_all World [] Logs)
  disks_so = subst (λ (f : Form). AreLeft (disks_at (tells × reads) sight home) (disks_at (tells × reads) sight left) f
      (record { journals = Logs; next = NoMore }) (opened_all World [] Logs)) is_resume
      (opened.leaves (sites network) (opened_all World [] Logs) left (λ told. sym opened.begins) kept_so)

  pub images_so : tells × reads → (k : ℕ) (was now : D) → disks_of network.providers k ≡ Some was → left k ≡ Some now
      → LeavesOnly (sight was) (sight now) (IsLeft (opened_all World [] Logs) k)
  images_so told k was now before behind =
      let x = disk_at (slice_get network.providers k) was before
      in let within = slice_get_within network.providers k x.0 x.1
      in let same = get_or_from_slice_get network.providers k x.0 x.0 x.1
      in let log = read.each k x.0 within
      in let only = (log.carries told.1).images (stood told k x.0 within)
      in let wider = weaker (sight (Was k x.0).chronicle.disk) (sight (Now k x.0).chronicle.disk)
      (IsImage NothingMay (Was k x.0).chronicle.entries (Was k x.0).chronicle.interrupted)
      (IsLeft (opened_all World [] Logs) k) only
      (λ image is. subst (λ (s : List Site). IsLeft s k image) opened.begins
      (image_left (sites network) k (Was k x.0).chronicle.entries (Was k x.0).chronicle.interrupted
      (journal_is network whole k x.0 within) (interrupted_is network whole k x.0 within) image is))
      in let first : (Was k x.0).chronicle.disk ≡ was = ap (λ (p : ProviderState D). p.chronicle.disk) same ∙ x.2
      in let second : (Now k x.0).chronicle.disk ≡ now =
      same_Some (Now k x.0).chronicle.disk now (sym ((read.kept told.0).here k x.0 (inside k within)) ∙ behind)
      in subst (λ (d : D). LeavesOnly (sight d) (sight now) (IsLeft (opened_all World [] Logs) k)) first
      (subst (λ (d : D). LeavesOnly (sight (Was k x.0).chronicle.disk) (sight d) (IsLeft (opened_all World [] Logs) k))
      second wider)

  -- the count of faults of a disk as its journal was opened
  count_then : (k : ℕ) (x : ProviderState D) → k < length network.providers
      → counts_in count network.providers mid_last k ≡ count (Was k x).chronicle.disk
  count_then k x within =
      ap (count_or count (mid_last k)) (slice_get-get_or network.providers k x within)

  count_now : (k : ℕ) (x : ProviderState D) → k < length network.providers
      → later k ≡ count (Now k x).chronicle.disk
  count_now k x within = read.counts.here k x (inside k within)

  -- the counts as journals were opened are those of their disks
  pub counted_so : (k : ℕ) (disk : D) → disks_of network.providers k ≡ Some disk
      → counts_in count network.providers mid_last k ≡ count disk
  counted_so k disk is =
      let x = disk_at (slice_get network.providers k) disk is
      in ap (count_or count (mid_last k)) x.1 ∙ ap count x.2

  pub failed_so : status ≡ statuses.DiskFault
      → (k : ℕ) × HasRisen (counts_in count network.providers mid_last k) (later k)
  failed_so is =
      let risen = read.failed is
      in let k = risen.0
      in let x = there network.providers k risen.1
      in (
        k,
        risen_at (count (Was k x).chronicle.disk) (count (Now k x).chronicle.disk)
            (counts_in count network.providers mid_last k) (later k)
            (sym (count_then k x risen.1)) (sym (count_now k x risen.1)) (risen.2 x),
      )

  -- no count of a disk fell
  later_so : (k : ℕ) → counts_in count network.providers mid_last k ≤ later k
  later_so k = by_place (cases_lt k (length network.providers))
    where
      by_place : (k < length network.providers) ⊎ (length network.providers ≤ k)
          → counts_in count network.providers mid_last k ≤ later k
      by_place (inl within) =
          let x = there network.providers k within
          in let b = count_then k x within
          in let c = (read.each k x within).later
          in let d = count_now k x within
          in omega (arith, b, c, d)
      by_place (inr past) =
          let b : counts_in count network.providers mid_last k ≡ mid_last k =
          ap (count_or count (mid_last k)) (slice_get_past network.providers k past)
          in let many = read.many
          in let c = read.counts.elsewhere k (omega (arith, many, past))
          in omega (arith, b, c)

  pub fell_so : (k : ℕ) → last k ≤ later k
  fell_so k = let a = opened.counts k in let b = later_so k in omega (arith, a, b)

  pub failing_so : status ≡ statuses.DiskFault → (k : ℕ) × HasRisen (last k) (later k)
  failing_so is =
      let risen = failed_so is
      in let k = risen.0
      in (
        k,
        risen_over (last k) (counts_in count network.providers mid_last k) (later k) (later k) (opened.counts k)
            (later_so k) (omega arith) risen.1,
      )

  -- each disk that was at home is at home again
  pub home_so : tells → (k : ℕ) → home k ≢ None → left k ≢ None
  home_so told k some = by_place (cases_lt k (length network.providers))
    where
      by_place : (k < length network.providers) ⊎ (length network.providers ≤ k) → left k ≢ None
      by_place (inl within) =
          let x = there network.providers k within
          in let is = (read.kept told).here k x (inside k within)
          in λ none. none-some (Now k x).chronicle.disk (sym none ∙ is)
      by_place (inr past) =
          let many = read.many
          in let is = (read.kept told).elsewhere k (omega (arith, many, past))
          in λ gone. some (sym (opened.apart told k (let size = whole.count in omega (arith, size, past))) ∙ (sym is ∙ gone))

  -- All that is said of a run that wrote the text.
  module _ (range : Range) (before after : Option Bytes) (headed : TellsHeader status header_text before after)
      (told : reads → AllStand sight network.providers
      → TellsText status before after (text_within range World (providers_of network.kept) Logs)) where
    pub text_so : Extracts text_within header_text (tells × reads) sight count range status before after home left last later
        (record { kept = network.kept; seals = seals network.sealer }) Logs
    text_so = record {
      headed = headed;
      told = λ both. told both.1 (opened.stands both);
      opened = disks_of network.providers;
      had = had_so;
      images = images_so;
      counts = counts_in count network.providers mid_last;
      counted = counted_so;
      sooner = opened.counts;
      failed = failed_so;
    }

    pub opened_so : HasOpened text_within header_text (tells × reads) sight count range status before after home left last later
        (record { kept = network.kept; seals = seals network.sealer }) (record { journals = Logs; next = NoMore })
    opened_so = record { is = opening_so; writes = λ failed. tt; goes_on = text_so; disks = disks_so }
