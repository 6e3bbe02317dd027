-- How the logs of all providers are written, provider by provider: what is so of the first and of the others is so of all.
use Rattle.std.proofs.Common.{◌≡◌, ℕ, ◌+◌, ◌<◌, ◌≤◌, zero, suc, List, [], ◌∷◌, ◌++◌, length, map, Option, Result, Ok, Err, refl, sym, ap, subst, ◌∙◌, arith, append_assoc}
use Rattle.std.specs.Prelude.{OnErr, OnOk, slice_index_or}
use Rattle.std.proofs.lemmas.Grind.{flat_map-append}
use Rattle.std.proofs.lemmas.List.{append-nil}
use Rattle.pec_types.specs.Bytes.{Bytes}
use Rattle.pec_outside.specs.DiskModel.{Sight}
use Rattle.pec_outside.specs.Flow.{HasRisen, WrotePart, followed_by}
use Rattle.pec_directory.specs.Directory.{Kept, Provider}
use Rattle.pec_seal.specs.Seals.{Seals}
use Rattle.pec_records.specs.declared.entries.Entry.{Entry}
use Rattle.pec_ledger.specs.Network.{journals_in}
use Rattle.pec_ledger.specs.Steps.{half}
use Rattle.pec_ledger.specs.Trade.{Trade}
use Rattle.pec_chronicle.specs.Carrying.{CarriesOn, NothingMay}
use Rattle.pec_chronicle.specs.Chronicle.{ChronicleState}
use Rattle.pec_provider.specs.Provider.{Desk, ProviderState, Runs, desk_of}
use Rattle.pec_extract.specs.LogRows.{both, log_rows, totals_of}
use Rattle.pec_extract.specs.Logs.{AllRead, AllRun, Each, HasGrown, HasRisenIn, FaultLeaves, IsChangedFrom, IsChangedIn, IsRead, LogsTell, LogsTellFrom, OneHasStopped, RunFrom, TotalsUpTo, logs_of, rows_of_all, totals_of_all}
use Rattle.pec_provider.specs.Reading.{HasStopped}
use Rattle.pec_extract.specs.Reading.{IsLogChanged, LogTells, OnChanged, Reads}
use Rattle.pec_extract.specs.Records.{Record, header, record_text, records_text}
use Rattle.pec_extract.specs.declared.faults.ExtractFault.{ExtractFault}
use Rattle.pec_extract.specs.declared.faults.ExtractFault.TheVariants as faults
use Rattle.pec_extract.specs.declared.writing.Totals.{Totals}
use Rattle.pec_extract.proofs.LogLemmas.{followed_by-append, followed_by-nil}

-- ---- the first and the others

module _ {D : Type 0} (So : ℕ → ProviderState D → Type 0) (old : List (ProviderState D)) (first : ProviderState D)
    (others : List (ProviderState D)) (cut : old ≡ first ∷ others) (all : Each So old) where
  cut_so : Each So (first ∷ others)
  cut_so = subst (λ (providers : List (ProviderState D)). Each So providers) cut all

  pub first_so : So 0 first
  first_so = cut_so 0 first (omega arith)

  pub others_so : Each (λ number provider. So (suc number) provider) others
  others_so = λ number other within. cut_so (suc number) other (omega (arith, within))

-- so it is of all
each_more : {D : Type 0} (So : ℕ → ProviderState D → Type 0) (first : ProviderState D) (others : List (ProviderState D))
    → So 0 first → Each (λ number provider. So (suc number) provider) others
    → (number : ℕ) (other : ProviderState D) → number < length (first ∷ others)
    → So number (slice_index_or (first ∷ others) number other)
each_more So first others here rest zero other within = here
each_more So first others here rest (suc number) other within = rest number other (omega (arith, within))

module _ {D : Type 0} (kept : List Kept) (seals : Seals) (me : ℕ) where
  -- the others are numbered from the next number on
  pub run_others : (others : List (ProviderState D))
      → Each (λ number provider. Runs kept seals (me + suc number) provider) others → RunFrom kept seals (me + 1) others
  run_others others all = λ number other within.
      subst (λ (n : ℕ). Runs kept seals n (slice_index_or others number other)) (omega arith) (all number other within)

  -- and the first has this number
  pub run_first : (first : ProviderState D) → Runs kept seals (me + 0) first → Runs kept seals me first
  run_first first runs = subst (λ (n : ℕ). Runs kept seals n first) (omega arith) runs

  pub run_all : (all : List (ProviderState D)) (first : ProviderState D) (others : List (ProviderState D))
      → all ≡ first ∷ others → Runs kept seals me first → RunFrom kept seals (me + 1) others → RunFrom kept seals me all
  run_all all first others cut here rest =
      subst (λ (providers : List (ProviderState D)). RunFrom kept seals me providers) (sym cut)
      (each_more (λ number provider. Runs kept seals (me + number) provider) first others
      (subst (λ (n : ℕ). Runs kept seals n first) (omega arith) here)
      (λ number other within. subst (λ (n : ℕ). Runs kept seals n (slice_index_or others number other)) (omega arith)
      (rest number other within)))

-- ---- what is left of the providers

module _ {D : Type 0} (Tells : Type 0) (sight : D → Sight) (count : D → ℕ) where
  -- one whose log was read
  pub one_read : {X : Type 0} (old new : ProviderState D) (result : Result X ExtractFault)
      → Reads (desk_of old) (desk_of new) result → new.owed ≡ old.owed
      → (Tells → CarriesOn sight NothingMay old.chronicle new.chronicle) → count old.chronicle.disk ≤ count
      new.chronicle.disk
      → IsRead Tells sight count old new
  one_read old new (Ok x) reads owed carries later = record {
    entries = ap (λ (desk : Desk). desk.journal) reads;
    interrupted = ap (λ (desk : Desk). desk.interrupted) reads;
    owed = owed;
    carries = carries;
    later = later;
  }
  one_read old new (Err faults.DiskFault) reads owed carries later = record {
    entries = ap (λ (desk : Desk). desk.journal) reads.2;
    interrupted = ap (λ (desk : Desk). desk.interrupted) reads.2;
    owed = owed;
    carries = carries;
    later = later;
  }
  one_read old new (Err (faults.Changed number)) reads owed carries later = record {
    entries = ap (λ (desk : Desk). desk.journal) reads.2;
    interrupted = ap (λ (desk : Desk). desk.interrupted) reads.2;
    owed = owed;
    carries = carries;
    later = later;
  }
  one_read old new (Err faults.WriteFault) reads owed carries later = record {
    entries = ap (λ (desk : Desk). desk.journal) reads;
    interrupted = ap (λ (desk : Desk). desk.interrupted) reads;
    owed = owed;
    carries = carries;
    later = later;
  }
  one_read old new (Err faults.NoMemory) reads owed carries later = record {
    entries = ap (λ (desk : Desk). desk.journal) reads;
    interrupted = ap (λ (desk : Desk). desk.interrupted) reads;
    owed = owed;
    carries = carries;
    later = later;
  }

  -- those that nothing has touched
  pub none_read : (Tells → (state : ChronicleState D) → CarriesOn sight NothingMay state state) → (all : List
      (ProviderState D))
      → AllRead Tells sight count all all
  none_read rests all = λ number other within. record {
    entries = refl;
    interrupted = refl;
    owed = refl;
    carries = λ tells. rests tells (slice_index_or all number other).chronicle;
    later = omega arith;
  }

  read_more : (first done : ProviderState D) (others rest : List (ProviderState D)) → IsRead Tells sight count first
      done
      → AllRead Tells sight count others rest
      → (number : ℕ) (other : ProviderState D) → number < length (first ∷ others)
      → IsRead Tells sight count (slice_index_or (first ∷ others) number other) (slice_index_or (done ∷ rest) number
      other)
  read_more first done others rest here all zero other within = here
  read_more first done others rest here all (suc number) other within = all number other (omega (arith, within))

  -- the first and the others
  pub all_read : (old new : List (ProviderState D)) (first done : ProviderState D) (others rest : List (ProviderState
      D))
      → old ≡ first ∷ others → new ≡ done ∷ rest → IsRead Tells sight count first done
      → AllRead Tells sight count others rest → AllRead Tells sight count old new
  all_read old new first done others rest cut made here all =
      subst (λ (providers : List (ProviderState D)). AllRead Tells sight count old providers) (sym made)
      (subst (λ (providers : List (ProviderState D)). AllRead Tells sight count providers (done ∷ rest)) (sym cut)
      (read_more first done others rest here all))

  -- the count of the first's disk has risen
  pub risen_first : (old new : List (ProviderState D)) (first done : ProviderState D) (others rest : List
      (ProviderState D))
      → old ≡ first ∷ others → new ≡ done ∷ rest → HasRisen (count first.chronicle.disk) (count done.chronicle.disk)
      → HasRisenIn count old new
  risen_first old new first done others rest cut made risen =
      subst (λ (providers : List (ProviderState D)). HasRisenIn count old providers) (sym made)
      (subst (λ (providers : List (ProviderState D)). HasRisenIn count providers (done ∷ rest)) (sym cut)
      (0, omega arith, λ other. risen))

  -- that of another one
  pub risen_other : (old new : List (ProviderState D)) (first done : ProviderState D) (others rest : List
      (ProviderState D))
      → old ≡ first ∷ others → new ≡ done ∷ rest → HasRisenIn count others rest → HasRisenIn count old new
  risen_other old new first done others rest cut made risen =
      let below = risen.1 in
      subst (λ (providers : List (ProviderState D)). HasRisenIn count old providers) (sym made)
      (subst (λ (providers : List (ProviderState D)). HasRisenIn count providers (done ∷ rest)) (sym cut)
      (suc risen.0, omega (arith, below), risen.2))

-- ---- bytes

-- what was written behind what was written
pub grown_again : (u v w : Option Bytes) → HasGrown u v → HasGrown v w → HasGrown u w
grown_again u v w first second = (
  first.0 ++ second.0,
  second.1 ∙ ap (λ (o : Option Bytes). followed_by o second.0) first.1 ∙ followed_by-append u
      first.0 second.0,
)

pub grown_none : (u : Option Bytes) → HasGrown u u
grown_none u = ([], sym (followed_by-nil u))

-- all of a text was written, or a front of it
pub grown_by : {X E : Type 0} (result : Result X E) (u v : Option Bytes) (text : Bytes) → OnOk result (v ≡ followed_by
    u text)
    → OnErr result (WrotePart u v text) → HasGrown u v
grown_by (Ok x) u v text all part = (text, all)
grown_by (Err e) u v text all part = (part.wrote.done, part.wrote.held)

-- a front of the first of two texts
pub front_first : (u v : Option Bytes) (first second : Bytes) → WrotePart u v first → WrotePart u v (first ++ second)
front_first u v first second part = record {
  rest = part.rest ++ second;
  wrote = record {
    done = part.wrote.done;
    held = part.wrote.held;
    text = ap (λ (t : Bytes). t ++ second) part.wrote.text ∙ append_assoc part.wrote.done part.rest second;
  };
}

-- the first of two texts, and a front of the second
pub front_second : (u v w : Option Bytes) (first second : Bytes) → v ≡ followed_by u first → WrotePart v w second
    → WrotePart u w (first ++ second)
front_second u v w first second all part = record {
  rest = part.rest;
  wrote = record {
    done = first ++ part.wrote.done;
    held = part.wrote.held ∙ ap (λ (o : Option Bytes). followed_by o part.wrote.done) all ∙ followed_by-append u first
        part.wrote.done;
    text = ap (λ (t : Bytes). first ++ t) part.wrote.text ∙ sym (append_assoc first part.wrote.done part.rest);
  };
}

-- two texts
pub both_texts : (u v w : Option Bytes) (first second : Bytes) → v ≡ followed_by u first → w ≡ followed_by v second
    → w ≡ followed_by u (first ++ second)
both_texts u v w first second all more =
    more ∙ ap (λ (o : Option Bytes). followed_by o second) all ∙ followed_by-append u first second

-- the rows of the first journal, and those of the others
module _ {D : Type 0} (trade : Trade) (providers : List Provider) (from upto me : ℕ) (old : List (ProviderState D))
    (first : ProviderState D) (others : List (ProviderState D)) (cut : old ≡ first ∷ others) where
  pub rows_cut : records_text (rows_of_all trade providers from upto me (logs_of old))
      ≡ records_text (log_rows trade providers me first.chronicle.entries from upto)
      ++ records_text (rows_of_all trade providers from upto (me + 1) (logs_of others))
  rows_cut =
      ap (λ (all : List (ProviderState D)). records_text (rows_of_all trade providers from upto me (logs_of all))) cut
      ∙ flat_map-append record_text (log_rows trade providers me first.chronicle.entries from upto)
      (rows_of_all trade providers from upto (me + 1) (logs_of others))

-- ---- faults

module _ {D : Type 0} (trade : Trade) (me : ℕ) (old : List (ProviderState D)) (first : ProviderState D)
    (others : List (ProviderState D)) (cut : old ≡ first ∷ others) where
  -- it is an entry of the first
  pub changed_first : (number : ℕ) → IsLogChanged trade me first.chronicle.entries number
      → IsChangedFrom trade me (logs_of old) number
  changed_first number is =
      subst (λ (all : List (ProviderState D)). IsChangedFrom trade me (logs_of all) number) (sym cut)
      (0, omega arith, subst (λ (n : ℕ). IsLogChanged trade n first.chronicle.entries number) (omega arith) is)

  -- or of another one
  pub changed_other : (number : ℕ) → IsChangedFrom trade (me + 1) (logs_of others) number
      → IsChangedFrom trade me (logs_of old) number
  changed_other number is =
      let within = is.1 in
      subst (λ (all : List (ProviderState D)). IsChangedFrom trade me (logs_of all) number) (sym cut) (
        suc is.0,
        omega (arith, within),
        subst (λ (n : ℕ). IsLogChanged trade n (journals_in (logs_of others) is.0)
            number) (omega arith) is.2,
      )

module _ {D : Type 0} (trade : Trade) (from upto me : ℕ) (old : List (ProviderState D)) (first : ProviderState D)
    (others : List (ProviderState D)) (cut : old ≡ first ∷ others) where
  -- the originals of which the rows of the first tell are there, and those of the others
  pub tells_all : LogTells trade me from upto first.chronicle.entries
      → LogsTellFrom trade from upto (me + 1) (logs_of others) → LogsTellFrom trade from upto me (logs_of old)
  tells_all one more =
      subst (λ (all : List (ProviderState D)). LogsTellFrom trade from upto me (logs_of all)) (sym cut) each
    where
      each : LogsTellFrom trade from upto me (logs_of (first ∷ others))
      each zero within = subst (λ (n : ℕ). LogTells trade n from upto first.chronicle.entries) (omega arith) one
      each (suc place) within =
          subst (λ (n : ℕ). LogTells trade n from upto (journals_in (logs_of others) place)) (omega arith)
          (more place (omega (arith, within)))

-- what is so of each number is so of a fault
pub on_changed : (So Then : ℕ → Type 0) → ((number : ℕ) → So number → Then number) → (fault : ExtractFault)
    → OnChanged So fault → OnChanged Then fault
on_changed So Then step faults.DiskFault is = tt
on_changed So Then step faults.WriteFault is = tt
on_changed So Then step (faults.Changed number) is = step number is
on_changed So Then step faults.NoMemory is = tt

-- ---- desks

module _ {D : Type 0} (old : List (ProviderState D)) (first done : ProviderState D) (others : List (ProviderState D))
    (cut : old ≡ first ∷ others) where
  desks_cut : map desk_of old ≡ desk_of first ∷ map desk_of others
  desks_cut = ap (λ (all : List (ProviderState D)). map desk_of all) cut

  -- the others were not touched
  rest_same : desk_of done ≡ desk_of first → desk_of done ∷ map desk_of others ≡ map desk_of old
  rest_same here = ap (λ (desk : Desk). desk ∷ map desk_of others) here ∙ sym desks_cut

  first_stopped : HasStopped (desk_of first) (desk_of done) → OneHasStopped (map desk_of old) (desk_of done ∷ map desk_of others)
  first_stopped stopped = record {
    before = [];
    desk = desk_of first;
    behind = map desk_of others;
    was = desks_cut;
    up = stopped.0;
    interrupted = stopped.1;
    is = ap (λ (desk : Desk). desk ∷ map desk_of others) stopped.2;
  }

  -- a fault at the first
  pub stopped_first : (fault : ExtractFault) → Reads {X = Totals} (desk_of first) (desk_of done) (Err fault)
      → FaultLeaves (map desk_of old) (desk_of done ∷ map desk_of others) fault
  stopped_first faults.DiskFault reads = first_stopped reads
  stopped_first (faults.Changed number) reads = first_stopped reads
  stopped_first faults.WriteFault reads = rest_same reads
  stopped_first faults.NoMemory reads = rest_same reads

  module _ (rest : List (ProviderState D)) (here : desk_of done ≡ desk_of first) where
    other_same : map desk_of rest ≡ map desk_of others → desk_of done ∷ map desk_of rest ≡ map desk_of old
    other_same all =
        ap (λ (desk : Desk). desk ∷ map desk_of rest) here ∙ ap (λ (desks : List Desk). desk_of first ∷ desks) all ∙ sym desks_cut

    other_stopped : OneHasStopped (map desk_of others) (map desk_of rest)
        → OneHasStopped (map desk_of old) (desk_of done ∷ map desk_of rest)
    other_stopped one = record {
      before = desk_of first ∷ one.before;
      desk = one.desk;
      behind = one.behind;
      was = desks_cut ∙ ap (λ (desks : List Desk). desk_of first ∷ desks) one.was;
      up = one.up;
      interrupted = one.interrupted;
      is = ap (λ (desk : Desk). desk ∷ map desk_of rest) here ∙ ap (λ (desks : List Desk). desk_of first ∷ desks) one.is;
    }

    -- a fault behind it
    pub stopped_other : (fault : ExtractFault) → FaultLeaves (map desk_of others) (map desk_of rest) fault
        → FaultLeaves (map desk_of old) (desk_of done ∷ map desk_of rest) fault
    stopped_other faults.DiskFault one = other_stopped one
    stopped_other (faults.Changed number) one = other_stopped one
    stopped_other faults.WriteFault all = other_same all
    stopped_other faults.NoMemory all = other_same all

-- ---- totals

module _ {D : Type 0} (trade : Trade) (from upto me : ℕ) (old : List (ProviderState D)) (first : ProviderState D)
    (others : List (ProviderState D)) (cut : old ≡ first ∷ others) where
  -- those of the first and those of the others
  pub totals_more : (own rest whole : Totals) → whole ≡ both own rest
      → own ≡ totals_of trade me from upto (half trade me first.chronicle.entries)
      → rest ≡ totals_of_all trade from upto (me + 1) (logs_of others)
      → whole ≡ totals_of_all trade from upto me (logs_of old)
  totals_more own rest whole is here all =
      is
      ∙ ap (λ (t : Totals). both t rest) here
      ∙ ap (both (totals_of trade me from upto (half trade me first.chronicle.entries))) all
      ∙ sym (ap (λ (providers : List (ProviderState D)). totals_of_all trade from upto me (logs_of providers)) cut)

-- the numbers of one provider more
pub few_more : (own rest whole : Totals) (count : ℕ) (all : ℕ) → whole ≡ both own rest → TotalsUpTo own 1
    → TotalsUpTo rest count → all ≡ count + 1 → TotalsUpTo whole all
few_more own rest whole count all is few more e =
    subst (λ (t : Totals). TotalsUpTo t all) (sym is)
    (record {
      accepted = let a = few.accepted in let b = more.accepted in omega (arith, a, b, e);
      delivered = let a = few.delivered in let b = more.delivered in omega (arith, a, b, e);
      refused = let a = few.refused in let b = more.refused in omega (arith, a, b, e);
      pending = let a = few.pending in let b = more.pending in omega (arith, a, b, e);
    })

-- no more than those of more providers
pub few_among : (totals : Totals) (count most : ℕ) → count ≤ most → TotalsUpTo totals count → TotalsUpTo totals most
few_among totals count most within few = record {
  accepted = let a = few.accepted in omega (arith, a, within);
  delivered = let a = few.delivered in omega (arith, a, within);
  refused = let a = few.refused in omega (arith, a, within);
  pending = let a = few.pending in omega (arith, a, within);
}

-- ---- the whole

module _ (rows : List Record) (last : Record) where
  whole_text : records_text (header ∷ (rows ++ last ∷ []))
      ≡ record_text header ++ (records_text rows ++ record_text last)
  whole_text =
      ap (λ (text : Bytes). record_text header ++ text)
      (flat_map-append record_text rows (last ∷ [])
      ∙ ap (λ (text : Bytes). records_text rows ++ text) (append-nil (record_text last)))

  pub all_written : (u v w x : Option Bytes) → v ≡ followed_by u (record_text header) → w ≡ followed_by v (records_text
      rows)
      → x ≡ followed_by w (record_text last) → x ≡ followed_by u (records_text (header ∷ (rows ++ last ∷ [])))
  all_written u v w x first second third =
      both_texts u v x (record_text header) (records_text rows ++ record_text last) first
      (both_texts v w x (records_text rows) (record_text last) second third)
      ∙ ap (followed_by u) (sym whole_text)

  pub front_header : (u v : Option Bytes) → WrotePart u v (record_text header)
      → WrotePart u v (records_text (header ∷ (rows ++ last ∷ [])))
  front_header u v part =
      subst (WrotePart u v) (sym whole_text)
      (front_first u v (record_text header) (records_text rows ++ record_text last) part)

  pub front_rows : (u v w : Option Bytes) → v ≡ followed_by u (record_text header) → WrotePart v w (records_text rows)
      → WrotePart u w (records_text (header ∷ (rows ++ last ∷ [])))
  front_rows u v w first part =
      subst (WrotePart u w) (sym whole_text)
      (front_second u v w (record_text header) (records_text rows ++ record_text last) first
      (front_first v w (records_text rows) (record_text last) part))

  pub front_last : (u v w x : Option Bytes) → v ≡ followed_by u (record_text header) → w ≡ followed_by v (records_text
      rows)
      → WrotePart w x (record_text last) → WrotePart u x (records_text (header ∷ (rows ++ last ∷ [])))
  front_last u v w x first second part =
      subst (WrotePart u x) (sym whole_text)
      (front_second u v x (record_text header) (records_text rows ++ record_text last) first
      (front_second v w x (records_text rows) (record_text last) second part))

-- providers numbered from 0 on
module _ {D : Type 0} (kept : List Kept) (seals : Seals) (all : List (ProviderState D)) where
  pub run_from : AllRun kept seals all → RunFrom kept seals 0 all
  run_from runs = λ number other within.
      subst (λ (n : ℕ). Runs kept seals n (slice_index_or all number other)) (omega arith) (runs number other within)

  pub run_to : RunFrom kept seals 0 all → AllRun kept seals all
  run_to runs = λ number other within.
      subst (λ (n : ℕ). Runs kept seals n (slice_index_or all number other)) (omega arith) (runs number other within)

pub changed_in : (trade : Trade) (journals : List (List Entry)) (number : ℕ) → IsChangedFrom trade 0 journals number
    → IsChangedIn trade journals number
changed_in trade journals number is =
    (is.0, is.1, subst (λ (n : ℕ). IsLogChanged trade n (journals_in journals is.0) number) (omega arith) is.2)

pub tells_in : (trade : Trade) (from upto : ℕ) (journals : List (List Entry)) → LogsTellFrom trade from upto 0 journals
    → LogsTell trade from upto journals
tells_in trade from upto journals tells me within =
    subst (λ (n : ℕ). LogTells trade n from upto (journals_in journals me)) (omega arith) (tells me within)

-- no provider is left
pub tells_none : {D : Type 0} (trade : Trade) (from upto me : ℕ) (old : List (ProviderState D)) → length old ≡ 0
    → LogsTellFrom trade from upto me (logs_of old)
tells_none trade from upto me [] none place within = absurd (omega (arith, within))
tells_none trade from upto me (first ∷ others) none place within = absurd (omega (arith, none))
