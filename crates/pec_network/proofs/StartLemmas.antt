-- One provider that begins, or doesn't: over a disk at hand, and over what a depot hands out.
use Rattle.std.proofs.Common.{◌≡◌, ℕ, false, List, [], ◌∷◌, length, refl, ap, sym, subst, ◌∙◌, arith, Option, Some, None}
use Rattle.std.specs.Prelude.{◌≢◌, ◌++◌}
use Rattle.std.proofs.lemmas.List.{append-nil}
use Rattle.pec_types.specs.Bytes.{Bytes}
use Rattle.pec_outside.specs.DiskModel.{GrowsTo, Rests, Sight, Stays}
use Rattle.pec_outside.specs.Moments.{grows, stays, stays_on}
use Rattle.pec_outside.specs.Flow.{HasRisen}
use Rattle.pec_directory.specs.Canonical.{digest_of}
use Rattle.pec_directory.specs.Directory.{Kept, providers_of}
use Rattle.pec_records.specs.declared.entries.Entry.{Entry}
use Rattle.pec_records.specs.declared.entries.Entry.TheVariants as entries
use Rattle.pec_ledger.specs.Network.{chosen}
use Rattle.pec_ledger.specs.OfDirectory.{IsOf}
use Rattle.pec_ledger.specs.Trade.{Trade}
use Rattle.pec_chronicle.specs.Chronicle.{IsJournalOf, Stands}
use Rattle.pec_chronicle.specs.declared.faults.CreateFault.{CreateFault}
use Rattle.pec_chronicle.specs.declared.faults.CreateFault.TheVariants as create
use Rattle.pec_stock.specs.Opening.{IsOutside, IsUnfit}
use Rattle.pec_stock.specs.Stock.{IsOwn, size_made}
use Rattle.pec_stock.specs.declared.faults.ReopenFault.{ReopenFault}
use Rattle.pec_stock.specs.declared.faults.ReopenFault.TheVariants as reopen
use Rattle.pec_provider.specs.Provider.{Desk, ProviderState, Runs, desk_of, fresh}
use Rattle.pec_seal.specs.Seals.{Seals}
use Rattle.pec_network.specs.Beginning.{IsAbout, IsBack, IsBegun, IsLeft, IsOpenedFrom, IsUnwritten, Says}
use Rattle.pec_network.specs.Starting.{unmade_as, unopened_as}
use Rattle.pec_network.specs.declared.faults.StartFault.{StartFault}
use Rattle.pec_network.specs.declared.faults.StartFault.TheVariants as faults
use Rattle.pec_network.specs.declared.opening.Form.{Form}
use Rattle.pec_network.specs.declared.opening.Form.TheVariants as forms

-- ---- lists

no_bytes : (bytes : Bytes) → length bytes ≡ 0 → bytes ≡ []
no_bytes [] e = refl
no_bytes (byte ∷ bytes) e = absurd (omega arith)

-- ---- a disk on which nothing is written

-- since this moment there is no other
abbrev pub IsNow : Sight → Type 0
IsNow old = (image : Bytes) → old.left_since old.moment image → old.may_leave image

at_rest : (old new : Sight) → IsNow old → Rests old new → Stays old new
at_rest old new only rests = stays_on old old new (stays old only) rests

unwritten : (old new : Sight) → IsNow old → (length old.seen ≢ 0 → Rests old new) → IsUnwritten old new
unwritten old new only rests some = at_rest old new only (rests (λ none. absurd (omega arith)))

pub left_so : (form : Form) (fault : StartFault) (old new : Sight) → Stays old new → IsLeft form fault old new
left_so forms.Make (faults.NotEmpty number) old new same = same
left_so forms.Make (faults.DiskFault number) old new same = λ some. same
left_so forms.Make (faults.NotFit number why) old new same = same
left_so forms.Make faults.NoMemory old new same = λ some. same
left_so forms.Open fault old new same = same

nothing_done : (form : Form) (kept : List Kept) (me : ℕ) (old : Sight) → IsNow old → IsOpenedFrom form kept me old old
nothing_done forms.Make kept me old only = grows (size_made kept me) old only
nothing_done forms.Open kept me old only = stays old only

-- ---- refusals

module _ (me : ℕ) where
  pub unmade_about : (fault : CreateFault) → IsAbout forms.Make me (unmade_as me fault)
  unmade_about create.NotEmpty = refl
  unmade_about create.DiskFault = refl
  unmade_about create.NoMemory = tt

  pub unmade_risen : (fault : CreateFault) (before after : ℕ) → (fault ≡ create.DiskFault → HasRisen before after)
      → unmade_as me fault ≡ faults.DiskFault me → HasRisen before after
  unmade_risen create.NotEmpty before after risen e = absurd (cc)
  unmade_risen create.DiskFault before after risen e = risen refl
  unmade_risen create.NoMemory before after risen e = absurd (cc)

  pub unopened_about : (fault : ReopenFault) → IsAbout forms.Open me (unopened_as me fault)
  unopened_about reopen.DiskFault = refl
  unopened_about (reopen.NotAJournal place) = refl
  unopened_about (reopen.OtherDirectory digest given) = refl
  unopened_about (reopen.BadEntry number) = refl
  unopened_about reopen.NoMemory = tt

  pub unopened_risen : (fault : ReopenFault) (before after : ℕ) → (fault ≡ reopen.DiskFault → HasRisen before after)
      → unopened_as me fault ≡ faults.DiskFault me → HasRisen before after
  unopened_risen reopen.DiskFault before after risen e = risen refl
  unopened_risen (reopen.NotAJournal place) before after risen e = absurd (cc)
  unopened_risen (reopen.OtherDirectory digest given) before after risen e = absurd (cc)
  unopened_risen (reopen.BadEntry number) before after risen e = absurd (cc)
  unopened_risen reopen.NoMemory before after risen e = absurd (cc)

-- ---- a provider over a disk at hand

module _ {D : Type 0} (tells reads : Type 0) (sight : D → Sight) (kept : List Kept) (me : ℕ) where
  -- a journal was made
  pub made_so : (disk : D) (provider : ProviderState D)
      → desk_of provider ≡ fresh (entries.StartTwo me (digest_of (providers_of kept)) ∷ [])
      → (reads → length (sight disk).seen ≡ 0) → (reads → Stands sight provider.chronicle)
      → (reads → GrowsTo (size_made kept me) (sight disk) (sight provider.chronicle.disk))
      → IsBegun tells reads sight kept forms.Make me (Some disk) provider
  made_so disk provider desk empty stands moments =
      let journal : provider.chronicle.entries ≡ entries.StartTwo me (digest_of (providers_of kept)) ∷ [] = ap (λ (d : Desk). d.journal) desk in record {
        desk = desk ∙ ap (λ (list : List Entry). fresh list) (sym journal);
        journal = journal;
        held = λ told r was is.
            let same : disk ≡ was = cc in
            subst (λ (d : D). (sight d).seen ≡ []) same (no_bytes (sight disk).seen (empty r));
        moments = λ told r was is.
            let same : disk ≡ was = cc in
            subst (λ (d : D). GrowsTo (size_made kept me) (sight d) (sight provider.chronicle.disk)) same (moments r);
        stands = stands;
      }

  -- one was opened
  pub opened_so : {seals : Seals} (disk : D) (provider : ProviderState D) → Runs kept seals me provider
      → desk_of provider ≡ fresh provider.chronicle.entries
      → (reads → IsJournalOf provider.chronicle.entries (sight disk).seen × Stands sight provider.chronicle)
      → (reads → Stays (sight disk) (sight provider.chronicle.disk))
      → IsBegun tells reads sight kept forms.Open me (Some disk) provider
  opened_so disk provider runs desk opened moments =
      let whole : provider.chronicle.interrupted ≡ None = ap (λ (d : Desk). d.interrupted) desk in
      let list : provider.chronicle.entries ++ chosen false provider.chronicle.interrupted ≡ provider.chronicle.entries =
      ap (λ (o : Option Entry). provider.chronicle.entries ++ chosen false o) whole ∙ append-nil provider.chronicle.entries in record {
        desk = desk;
        journal = λ trade of.
            subst (λ (l : List Entry). IsOwn trade me l) list
            (subst (λ (n : ℕ). IsOwn trade n (provider.chronicle.entries ++ chosen false provider.chronicle.interrupted)) runs.is
            (runs.agree.own trade of false));
        held = λ told r was is.
            let same : disk ≡ was = cc in
            subst (λ (d : D). IsJournalOf provider.chronicle.entries (sight d).seen) same (opened r).0;
        moments = λ told r was is.
            let same : disk ≡ was = cc in
            subst (λ (d : D). Stays (sight d) (sight provider.chronicle.disk)) same (moments r);
        stands = λ r. (opened r).1;
      }

  -- ---- disks that come back

  pub unmade_back : (fault : CreateFault) (was now : D)
      → (reads → fault ≡ create.NotEmpty → (length (sight was).seen ≢ 0) × Rests (sight was) (sight now))
      → (reads → length (sight was).seen ≢ 0 → Rests (sight was) (sight now))
      → (reads → GrowsTo (size_made kept me) (sight was) (sight now)) → (reads → IsNow (sight was))
      → IsBack tells reads sight kept forms.Make me (unmade_as me fault) was (Some now)
  unmade_back create.NotEmpty was now not_empty as_it_was moments only = record {
    now = now;
    is = refl;
    left = λ r. at_rest (sight was) (sight now) (only r) (not_empty r refl).1;
    moments = moments;
    says = λ r. let some = (not_empty r refl).0 in omega arith;
  }
  unmade_back create.DiskFault was now not_empty as_it_was moments only = record {
    now = now;
    is = refl;
    left = λ r. unwritten (sight was) (sight now) (only r) (as_it_was r);
    moments = moments;
    says = λ r. tt;
  }
  unmade_back create.NoMemory was now not_empty as_it_was moments only = record {
    now = now;
    is = refl;
    left = λ r. unwritten (sight was) (sight now) (only r) (as_it_was r);
    moments = moments;
    says = λ r. tt;
  }

  unopened_says : (fault : ReopenFault) (bytes : Bytes)
      → ((trade : Trade) (list : List Entry) → IsOf kept trade → IsOwn trade me list → IsJournalOf list bytes → IsOutside fault)
      → ((trade : Trade) → IsOf kept trade → IsUnfit trade me bytes fault) → Says kept me bytes (unopened_as me fault)
  unopened_says reopen.DiskFault bytes own unfit = tt
  unopened_says (reopen.NotAJournal place) bytes own unfit = record { unfit = unfit; none = own }
  unopened_says (reopen.OtherDirectory digest given) bytes own unfit = record { unfit = unfit; none = own }
  unopened_says (reopen.BadEntry number) bytes own unfit = record { unfit = unfit; none = own }
  unopened_says reopen.NoMemory bytes own unfit = tt

  pub unopened_back : (fault : ReopenFault) (was now : D) → (reads → Stays (sight was) (sight now))
      → (reads → (trade : Trade) (list : List Entry) → IsOf kept trade → IsOwn trade me list → IsJournalOf list (sight was).seen
      → IsOutside fault)
      → (reads → (trade : Trade) → IsOf kept trade → IsUnfit trade me (sight was).seen fault)
      → IsBack tells reads sight kept forms.Open me (unopened_as me fault) was (Some now)
  unopened_back fault was now stays own unfit = record {
    now = now;
    is = refl;
    left = λ r. left_so forms.Open (unopened_as me fault) (sight was) (sight now) (stays r);
    moments = stays;
    says = λ r. unopened_says fault (sight was).seen (own r) (unfit r);
  }

-- ---- a provider over what a depot hands out

module _ {D : Type 0} (tells reads : Type 0) (sight : D → Sight) (kept : List Kept) (form : Form) (me : ℕ) where
  -- over the disk that was at home all the while
  pub begun_moved : (home mid : Option D) (provider : ProviderState D) → (tells → mid ≡ home)
      → IsBegun tells reads sight kept form me mid provider → IsBegun tells reads sight kept form me home provider
  begun_moved home mid provider same begun = record {
    desk = begun.desk;
    journal = begun.journal;
    held = λ told r was is. begun.held told r was (same told ∙ is);
    moments = λ told r was is. begun.moments told r was (same told ∙ is);
    stands = begun.stands;
  }

  -- over a disk that was at home, where what is at home is told
  pub begun_at_home : (disk : D) (home : Option D) (provider : ProviderState D) → (tells → home ≡ Some disk)
      → IsBegun reads reads sight kept form me (Some disk) provider → IsBegun tells reads sight kept form me home provider
  begun_at_home disk home provider here begun = record {
    desk = begun.desk;
    journal = begun.journal;
    held = λ told r was is. begun.held r r was (sym (here told) ∙ is);
    moments = λ told r was is. begun.moments r r was (sym (here told) ∙ is);
    stands = begun.stands;
  }

  -- a disk that wasn't asked for, or wasn't handed out
  pub back_again : (fault : StartFault) (was : D) (home : Option D) → home ≡ Some was → Says kept me (sight was).seen fault
      → (reads → IsNow (sight was)) → IsBack tells reads sight kept form me fault was home
  back_again fault was home is says only = record {
    now = was;
    is = is;
    left = λ r. left_so form fault (sight was) (sight was) (stays (sight was) (only r));
    moments = λ r. nothing_done form kept me (sight was) (only r);
    says = λ r. says;
  }
