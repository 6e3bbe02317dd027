-- Why no item is shown.
use Rattle.std.proofs.Common.{◌≡◌, ℕ, Bool, true, false, not, List, refl, ap, sym, subst, ◌∙◌}
use Rattle.std.proofs.Common.{Global, Option, Some, Result, Ok, Err, Vec}
use Rattle.std.specs.Prelude.{Contains, IfErr, IfOk, IsErrAnd, IsErrOf, IsSome, OnOk}
use Rattle.std.proofs.lemmas.Result.{err_from_is_err_and}
use Rattle.pec_types.specs.Bytes.{Bytes}
use Rattle.pec_types.specs.declared.turns.ProviderFault.{ProviderFault}
use Rattle.pec_types.specs.declared.turns.ProviderFault.TheVariants as faults
use Rattle.pec_records.specs.declared.entries.Entry.{Entry}
use Rattle.pec_ledger.specs.Half.{Half, Posted}
use Rattle.pec_ledger.specs.Items.{item_text}
use Rattle.pec_ledger.specs.Lookups.{archive, mailbox}
use Rattle.pec_ledger.specs.Trade.{Trade}
use Rattle.pec_chronicle.specs.Chronicle.{ChronicleState}
use Rattle.pec_provider.specs.Keeping.{kept_at}
use Rattle.pec_provider.specs.Playing.{IsUnasked, IsUnshown, text_at}
use Rattle.pec_provider.specs.Provider.{Desk}
use Rattle.pec_provider.specs.Reading.{OnChanged, PostedIsChanged, Reads, ReadsOver, ShownBy}
use Rattle.pec_provider.specs.declared.showing.Keeping.{Keeping}
use Rattle.pec_provider.specs.declared.showing.Keeping.TheVariants as keepings
use Rattle.pec_provider.proofs.KeptLemmas.{among}

unshown : (account up : Bool) (item : Option Bytes) (fault : ProviderFault) → IsUnasked account up fault
    → IsUnshown account up item fault
unshown account up item faults.NoAccount is = is
unshown account up item faults.Down is = is
unshown account up item faults.NoMemory is = is
unshown account up item faults.NoItem is = absurd is
unshown account up item faults.DiskFault is = absurd is
unshown account up item (faults.Changed which) is = absurd is
unshown account up item (faults.ClockBack moment) is = absurd is
unshown account up item faults.Full is = absurd is
unshown account up item faults.OldJournal is = absurd is
unshown account up item faults.NoNeed is = absurd is
unshown account up item faults.JournalFull is = absurd is

-- the account may not ask
pub not_asked : {X : Type 0} (account up : Bool) (item : Option Bytes) (fault : ProviderFault)
    (result : Result X ProviderFault)
    → IsErrAnd result (λ f. f ≡ fault) → IsUnasked account up fault → IfErr result (IsUnshown account up item)
not_asked {X} account up item fault result handed is =
    let p = err_from_is_err_and result handed in
    subst (λ (r : Result X ProviderFault). IfErr r (IsUnshown account up item)) (sym p.1)
    (subst (λ (f : ProviderFault). IsUnshown account up item f) (sym p.2) (unshown account up item fault is))

-- then nothing was read, and nothing has changed
pub unasked_changed : (P : ℕ → Type 0) (account up : Bool) (fault : ProviderFault) → IsUnasked account up fault
    → OnChanged P fault
unasked_changed P account up faults.NoAccount is = tt
unasked_changed P account up faults.Down is = tt
unasked_changed P account up faults.NoMemory is = tt
unasked_changed P account up faults.NoItem is = absurd is
unasked_changed P account up faults.DiskFault is = absurd is
unasked_changed P account up (faults.Changed which) is = absurd is
unasked_changed P account up (faults.ClockBack moment) is = absurd is
unasked_changed P account up faults.Full is = absurd is
unasked_changed P account up faults.OldJournal is = absurd is
unasked_changed P account up faults.NoNeed is = absurd is
unasked_changed P account up faults.JournalFull is = absurd is

pub unasked_reads : (X : Type 0) (desk : Desk) (account up : Bool) (fault : ProviderFault)
    → IsUnasked account up fault → Reads {X = X} desk desk (Err fault)
unasked_reads X desk account up faults.NoAccount is = refl
unasked_reads X desk account up faults.Down is = refl
unasked_reads X desk account up faults.NoMemory is = refl
unasked_reads X desk account up faults.NoItem is = absurd is
unasked_reads X desk account up faults.DiskFault is = absurd is
unasked_reads X desk account up (faults.Changed which) is = absurd is
unasked_reads X desk account up (faults.ClockBack moment) is = absurd is
unasked_reads X desk account up faults.Full is = absurd is
unasked_reads X desk account up faults.OldJournal is = absurd is
unasked_reads X desk account up faults.NoNeed is = absurd is
unasked_reads X desk account up faults.JournalFull is = absurd is

pub unasked_whole : (X : Type 0) (account up : Bool) (fault : ProviderFault) → IsUnasked account up fault
    → IsErrOf {T = X} (Err fault) faults.DiskFault → ⊥
unasked_whole X account up fault is same =
    subst (λ (result : Result X ProviderFault). IfErr result (IsUnasked account up)) same is

-- the read of an item that is there was cut off
pub cut_off : {D X : Type 0} (old new : ChronicleState D) (result : Result X ProviderFault) → ReadsOver old new result
    → (account down : Bool) (item : Option Bytes) → (account ≡ true) × (down ≡ false) → IsSome item
    → IfErr result (IsUnshown account (not down) item)
cut_off old new (Ok x) reads account down item asked some = tt
cut_off old new (Err faults.NoMemory) reads account down item asked some = (asked.0, ap not asked.1)
cut_off old new (Err faults.DiskFault) reads account down item asked some = (asked.0, ap not asked.1, some)
cut_off old new (Err (faults.Changed which)) reads account down item asked some = (asked.0, ap not asked.1, some)
cut_off old new (Err faults.Down) reads account down item asked some = absurd reads
cut_off old new (Err (faults.ClockBack moment)) reads account down item asked some = absurd reads
cut_off old new (Err faults.NoAccount) reads account down item asked some = absurd reads
cut_off old new (Err faults.Full) reads account down item asked some = absurd reads
cut_off old new (Err faults.OldJournal) reads account down item asked some = absurd reads
cut_off old new (Err faults.NoNeed) reads account down item asked some = absurd reads
cut_off old new (Err faults.NoItem) reads account down item asked some = absurd reads
cut_off old new (Err faults.JournalFull) reads account down item asked some = absurd reads

-- what is so anyhow is so of an answer
pub on_ok : {X P : Type 0} (result : Result X ProviderFault) → P → OnOk result P
on_ok (Ok x) p = p
on_ok (Err fault) p = tt

-- ---- an item that is there

module _ (trade : Trade) (me : ℕ) (journal : List Entry) (item : Option Posted) (posted : Posted)
    (there : item ≡ Some posted) where
  -- its bytes are those of the item that was asked for
  pub shown_so : (result : Result (Vec ℕ Global) ProviderFault)
      → IfOk result (λ bytes. item_text trade me journal posted ≡ Some bytes.items)
      → IfOk result (λ bytes. text_at trade me journal item ≡ Some bytes.items)
  shown_so (Ok bytes) is = ap (text_at trade me journal) there ∙ is
  shown_so (Err fault) is = tt

  -- the entry that was read for it is the one that was read for the item that was asked for
  pub given_for : (Stood : Type 0) (result : Result (Vec ℕ Global) ProviderFault)
      → IfOk result (λ bytes. ShownBy Stood trade me journal (Some posted) bytes.items)
      → IfOk result (λ bytes. ShownBy Stood trade me journal item bytes.items)
  given_for Stood (Ok bytes) given =
      subst (λ (o : Option Posted). ShownBy Stood trade me journal o bytes.items) (sym there) given
  given_for Stood (Err fault) given = tt

  -- where its entry has changed, that of the item that was asked for has
  pub changed_so : {X : Type 0} (result : Result X ProviderFault)
      → IfErr result (OnChanged (PostedIsChanged trade me journal (Some posted)))
      → IfErr result (OnChanged (PostedIsChanged trade me journal item))
  changed_so result is = subst (λ (o : Option Posted). IfErr result (OnChanged (PostedIsChanged trade me journal o)))
      (sym there) is

-- what a mailbox or an archive holds was placed
abbrev pub ArePlaced : (Half → Bytes → List Posted) → Type 0
ArePlaced box = (now : Half) (account : Bytes) (posted : Posted) → Contains (box now account) posted
    → Contains now.items posted × (account ≡ posted.account)

pub kept_placed : ArePlaced mailbox → ArePlaced archive → (keeping : Keeping) (half : Half) (account : Bytes)
    (place : ℕ)
    (posted : Posted) → kept_at keeping half account place ≡ Some posted → Contains half.items posted
kept_placed mailboxes archives keepings.Mailbox half account place posted there =
    (mailboxes half account posted (among (mailbox half account) place posted there)).0
kept_placed mailboxes archives keepings.Archive half account place posted there =
    (archives half account posted (among (archive half account) place posted there)).0
