-- What is known of a provider that runs, in the words of the ledger.
use Rattle.std.proofs.Common.{◌≡◌, ℕ, List, length, refl, sym, ap, subst, ◌∙◌, true, false}
use Rattle.std.specs.Prelude.{Result}
use Rattle.std.proofs.lemmas.Bool.{false≢true}
use Rattle.std.proofs.lemmas.List.{append-nil}
use Rattle.pec_types.specs.Bytes.{Bytes}
use Rattle.pec_types.specs.declared.letters.Letter.{Letter}
use Rattle.pec_types.specs.declared.turns.ProviderFault.{ProviderFault}
use Rattle.pec_directory.specs.Directory.{Kept}
use Rattle.pec_records.specs.declared.entries.Entry.{Entry}
use Rattle.pec_ledger.specs.Half.{Half}
use Rattle.pec_ledger.specs.Ledger.{Journals, Meets}
use Rattle.pec_ledger.specs.Lookups.{mailbox}
use Rattle.pec_ledger.specs.OfDirectory.{IsOf}
use Rattle.pec_ledger.specs.Steps.{half}
use Rattle.pec_ledger.specs.Trade.{Trade}
use Rattle.pec_chronicle.specs.Chronicle.{ChronicleState, down_over, past_of}
use Rattle.pec_shelf.specs.Prepared.{AreSteps, IsStep, IsStepOf}
use Rattle.pec_seal.specs.Seals.{Seals}
use Rattle.pec_shelf.specs.Seen.{Seen}
use Rattle.pec_stock.specs.Stock.{Agree}
use Rattle.pec_provider.specs.Appending.{MayEnter}
use Rattle.pec_provider.specs.Provider.{ProviderState, Runs, desk_of}
use Rattle.pec_provider.specs.Reading.{Reads, ReadsOver}
use Rattle.pec_provider.proofs.ReadLemmas.{desk_reads, entries_read, interrupted_read, up_read}

-- its half is what its entries come to
pub half_runs : {D : Type 0} {seals : Seals} (kept : List Kept) (me : ℕ) (provider : ProviderState D) (trade : Trade)
    → Runs kept seals me provider → IsOf kept trade
    → provider.shelf.half ≡ half trade me provider.chronicle.entries
half_runs kept me provider trade runs of =
    runs.agree.holds.is_half trade of ∙ ap (λ (n : ℕ). half trade n provider.chronicle.entries) runs.is

-- while it is up its journal ends where the half says
pub end_runs : {D : Type 0} {seals : Seals} (kept : List Kept) (me : ℕ) (provider : ProviderState D) (trade : Trade)
    → Runs kept seals me provider → IsOf kept trade
    → provider.chronicle.down ≡ false → provider.chronicle.end ≡ (half trade me provider.chronicle.entries).end
end_runs kept me provider trade runs of up = runs.agree.ends up
    ∙ ap (λ (h : Half). h.end) (half_runs kept me provider trade runs of)

-- a step of its entries is one of its shelf
pub step_runs : {D : Type 0} {seals : Seals} (kept : List Kept) (me : ℕ) (provider : ProviderState D) (entry : Entry)
    → Runs kept seals me provider
    → MayEnter kept me provider.chronicle.entries entry → IsStepOf kept provider.shelf entry
step_runs kept me provider entry runs may = record {
  trade = may.trade;
  of = may.of;
  step = subst (λ (n : ℕ). IsStep may.trade n provider.shelf.half entry) (sym runs.is)
      (subst (λ (h : Half). IsStep may.trade me h entry) (sym (half_runs kept me provider may.trade runs may.of))
      may.step);
}

-- what may follow in the ledger of some journals is a step
pub enters_by : (kept : List Kept) (me : ℕ) (list : List Entry) (entry : Entry) (trade : Trade) (journals : Journals)
    → IsOf kept trade
    → Meets trade journals me (half trade me list) entry → MayEnter kept me list entry
enters_by kept me list entry trade journals of meets =
    record { trade = trade; of = of; step = record { own = meets.own; in_time = meets.in_time } }

-- entries over another disk agree with the half as those did that were there, where they are down
pub agree_down : {D : Type 0} (kept : List Kept) (old new : ChronicleState D) (shelf : Seen) → Agree kept old shelf
    → new.entries ≡ old.entries → new.interrupted ≡ old.interrupted → new.down ≡ true → Agree kept new shelf
agree_down kept old new shelf agree entries interrupted down = record {
  holds = rw entries agree.holds;
  ends = λ up. absurd (false≢true (sym up ∙ down));
  whole = λ up. absurd (false≢true (sym up ∙ down));
  own = λ trade of choice. rw (entries, interrupted) (agree.own trade of choice);
}

pub runs_down : {D : Type 0} {seals : Seals} (kept : List Kept) (me : ℕ) (inside old : ProviderState D) → inside ≡ old
    → (new : ChronicleState D)
    (after : Seen) (owed : List Letter) (places : ℕ) → after ≡ inside.shelf
    → new ≡ down_over (past_of inside.chronicle) new.disk
    → Runs kept seals me old
    → Runs kept seals me (record { chronicle = new; shelf = after; owed = owed; places = places })
runs_down {D} {seals} kept me inside old view new after owed places same down runs =
    let before : Runs kept seals me inside = subst (λ (p : ProviderState D). Runs kept seals me p) (sym view) runs in
    let entries : new.entries ≡ inside.chronicle.entries = ap (λ s. s.entries) down in
    rw same (record {
      number = before.number;
      is = before.is;
      agree = agree_down kept inside.chronicle new inside.shelf before.agree entries
          (ap (λ s. s.interrupted) down)
          (ap (λ s. s.down) down);
    })

-- what is borrowed of a provider runs as the provider does
pub runs_inside : {D : Type 0} {seals : Seals} (kept : List Kept) (me : ℕ) (inside old : ProviderState D) → inside ≡ old
    → Runs kept seals me old → Runs kept seals me inside
runs_inside {D} {seals} kept me inside old view runs =
    subst (λ (p : ProviderState D). Runs kept seals me p) (sym view) runs

pub up_inside : {D : Type 0} {inside old : ProviderState D} → inside ≡ old → old.chronicle.down ≡ false
    → inside.chronicle.down ≡ false
up_inside {D} view up = ap (λ (p : ProviderState D). p.chronicle.down) view ∙ up

-- so do entries that were read
pub agree_read : {D X : Type 0} (kept : List Kept) (old new : ChronicleState D) (shelf : Seen) (r : Result X ProviderFault)
    → Agree kept old shelf → ReadsOver old new r → Agree kept new shelf
agree_read kept old new shelf r agree reads =
    let entries = entries_read old new r reads in
    let interrupted = interrupted_read old new r reads in
    record {
      holds = rw entries agree.holds;
      ends = λ up. (let was = up_read old new r reads up in was.1 ∙ agree.ends was.0);
      whole = λ up. interrupted ∙ agree.whole (up_read old new r reads up).0;
      own = λ trade of choice. rw (entries, interrupted) (agree.own trade of choice);
    }

pub runs_read : {D X : Type 0} {seals : Seals} (kept : List Kept) (me : ℕ) (inside old : ProviderState D) → inside ≡ old
    → (new : ChronicleState D) (places : ℕ) (r : Result X ProviderFault) → ReadsOver inside.chronicle new r
    → Runs kept seals me old
    → Runs kept seals me (record { chronicle = new; shelf = inside.shelf; owed = inside.owed; places = places })
runs_read {D} {X} {seals} kept me inside old view new places r reads runs =
    let before : Runs kept seals me inside = subst (λ (p : ProviderState D). Runs kept seals me p) (sym view) runs in
    record {
      number = before.number;
      is = before.is;
      agree = agree_read kept inside.chronicle new inside.shelf r before.agree reads;
    }

-- and what a turn sees of it is what it was, or it has stopped
pub desk_read : {D X : Type 0} {seals : Seals} (kept : List Kept) (me : ℕ) (inside : ProviderState D)
    (new : ChronicleState D) (places : ℕ) (r : Result X ProviderFault) → ReadsOver inside.chronicle new r
    → inside.chronicle.down ≡ false → Runs kept seals me inside
    → Reads (desk_of inside)
    (desk_of (record { chronicle = new; shelf = inside.shelf; owed = inside.owed; places = places })) r
desk_read {D} kept me inside new places r reads up runs =
    desk_reads inside (record { chronicle = new; shelf = inside.shelf; owed = inside.owed; places = places }) r up
    (runs.agree.whole up) refl reads

-- ---- by what stands in the provider

pub me_runs : {D : Type 0} {seals : Seals} (kept : List Kept) (me : ℕ) (inside old : ProviderState D) → inside ≡ old → Runs kept seals me old
    → inside.shelf.me ≡ me
me_runs {D} kept me inside old view runs = ap (λ (p : ProviderState D). p.shelf.me) view ∙ runs.is

pub count_runs : {D : Type 0} {seals : Seals} (kept : List Kept) (me : ℕ) (inside old : ProviderState D) → inside ≡ old
    → (trade : Trade) → Runs kept seals me old
    → IsOf kept trade → length inside.shelf.half.messages ≡ length (half trade me old.chronicle.entries).messages
count_runs {D} kept me inside old view trade runs of =
    ap (λ (p : ProviderState D). length p.shelf.half.messages) view
    ∙ ap (λ (h : Half). length h.messages) (half_runs kept me old trade runs of)

pub half_inside : {D : Type 0} {seals : Seals} (kept : List Kept) (me : ℕ) (inside old : ProviderState D) → inside ≡ old
    → (trade : Trade) → Runs kept seals me old
    → IsOf kept trade → inside.shelf.half ≡ half trade inside.shelf.me old.chronicle.entries
half_inside {D} kept me inside old view trade runs of =
    subst (λ (p : ProviderState D). p.shelf.half ≡ half trade p.shelf.me old.chronicle.entries) (sym view)
    (runs.agree.holds.is_half trade of)

-- its journal is of this version, or of another one
pub version_runs : {D : Type 0} {seals : Seals} (kept : List Kept) (me : ℕ) (inside old : ProviderState D)
    → inside ≡ old
    → (trade : Trade) → Runs kept seals me old → IsOf kept trade → (version : ℕ) → version ≡ inside.shelf.half.version
    → version ≡ (half trade me old.chronicle.entries).version
version_runs {D} kept me inside old view trade runs of version is =
    is ∙ ap (λ (p : ProviderState D). p.shelf.half.version) view
    ∙ ap (λ (h : Half). h.version) (half_runs kept me old trade runs of)

-- its mailboxes are those of its entries
pub items_runs : {D : Type 0} {seals : Seals} (kept : List Kept) (me : ℕ) (inside old : ProviderState D) → inside ≡ old
    → (trade : Trade) → Runs kept seals me old → IsOf kept trade → (account : Bytes)
    → mailbox inside.shelf.half account ≡ mailbox (half trade me old.chronicle.entries) account
items_runs {D} kept me inside old view trade runs of account =
    ap (λ (p : ProviderState D). mailbox p.shelf.half account) view
    ∙ ap (λ (h : Half). mailbox h account) (half_runs kept me old trade runs of)

-- each of its entries is a step of those before it
pub steps_inside : {D : Type 0} {seals : Seals} (kept : List Kept) (me : ℕ) (inside old : ProviderState D) → inside ≡ old
    → (trade : Trade) → Runs kept seals me old
    → IsOf kept trade → AreSteps trade inside.shelf.me old.chronicle.entries
steps_inside {D} kept me inside old view trade runs of =
    subst (λ (p : ProviderState D). AreSteps trade p.shelf.me old.chronicle.entries) (sym view)
    (subst (λ (l : List Entry). AreSteps trade old.shelf.me l) (append-nil old.chronicle.entries)
    (runs.agree.own trade of false).steps)
