-- What runs leave fits together: from what disks hold to the journals that may be theirs.
use Rattle.std.proofs.Common.{◌≡◌, ◌≢◌, ℕ, ◌+◌, ◌<◌, ◌≤◌, ◌⊎◌, inl, inr, List, [], ◌∷◌, length, map, refl, ap, sym, subst, ◌∙◌, arith, Option, Some, None}
use Rattle.std.specs.Prelude.{slice_index_or}
use Rattle.std.specs.List.{flat_map}
use Rattle.std.specs.Int.{w32, to_be_bytes}
use Rattle.std.proofs.lemmas.Bool.{cases_lt}
use Rattle.std.proofs.lemmas.List.{get_or_past, length-append}
use Rattle.std.proofs.lemmas.Option.{slice_get-get_or}
use Rattle.pec_types.specs.Bytes.{Bytes}
use Rattle.pec_outside.specs.DiskModel.{Sight}
use Rattle.pec_journal.specs.JournalFile.{framed, framing, front, header, open_gate}
use Rattle.pec_records.specs.Entry.{entry_text}
use Rattle.pec_records.specs.declared.entries.Entry.{Entry}
use Rattle.pec_records.specs.declared.entries.Entry.TheVariants as entries
use Rattle.pec_ledger.specs.Half.{empty}
use Rattle.pec_ledger.specs.Ledger.{Begins, Fit, Follows, Journals}
use Rattle.pec_ledger.specs.Network.{FollowsState, Site, Sound, journals_in}
use Rattle.pec_ledger.specs.Own.{Own}
use Rattle.pec_ledger.specs.Trade.{Trade}
use Rattle.pec_chronicle.specs.Carrying.{FollowsSo}
use Rattle.pec_chronicle.specs.Chronicle.{IsJournalOf, made_size}
use Rattle.pec_stock.specs.Stock.{IsOwn}
use Rattle.pec_runs.specs.Openings.{IsOpening, NoMore, Opening, Resume, disks_at}
use Rattle.pec_runs.specs.Passing.{AreEmpty, AreFitting, AreRuns, Followed, HadOnly, Holdings, IsFoundOrMade, IsFresh, IsOurs, MayBe, Passes, held, last_found}
use Rattle.pec_runs.specs.Through.{AreAtHome, size_begun}
use Rattle.pec_runs.proofs.RunLemmas.{all_there}

-- ---- how long journals are

journal_size : (list : List Entry) (bytes : Bytes) → IsJournalOf list bytes
    → length (front (map entry_text list)) + 1 ≤ length bytes
journal_size list bytes is =
    omega (
      arith,
      ap (λ (b : Bytes). length b) is.file.is,
      length-append (front (map entry_text list)) (is.file.gate ∷ is.file.rest),
    )

-- an empty disk holds no journal
pub no_journal : (list : List Entry) → IsJournalOf list [] → ⊥
no_journal list is =
    let size = journal_size list [] is in omega (arith, size)

abbrev frames : List Bytes → Bytes
frames texts = flat_map (λ (e : Bytes). open_gate ∷ framed e) texts

frames_more : (text : Bytes) (texts : List Bytes)
    → length (frames (text ∷ texts)) ≡ framing + length text + length (frames texts)
frames_more text texts =
    omega (
      arith,
      length-append (open_gate ∷ framed text) (frames texts),
      length-append (to_be_bytes w32 (length text)) text,
    )

front_size : (texts : List Bytes) → length (front texts) ≡ length header + length (frames texts)
front_size texts = length-append header (frames texts)

-- a journal that is no longer than one that was just made has its first entry alone
fresh_alone : (start : Entry) (rest : List Entry) (bytes : Bytes) → IsJournalOf (start ∷ rest) bytes
    → length bytes ≤ made_size start → rest ≡ []
fresh_alone start [] bytes is small = refl
fresh_alone start (entry ∷ rest) bytes is small =
    let size = journal_size (start ∷ entry ∷ rest) bytes is in
    let whole = front_size (map entry_text (start ∷ entry ∷ rest)) in
    let first = frames_more (entry_text start) (map entry_text (entry ∷ rest)) in
    let next = frames_more (entry_text entry) (map entry_text rest) in
    absurd (omega (arith, size, whole, first, next, small))

-- ---- journals that begin with their provider's Start

abbrev FirstOwn : Trade → ℕ → List Entry → Type 0
FirstOwn trade provider [] = Unit {0}
FirstOwn trade provider (entry ∷ list) = Own trade provider empty entry

starts_ours : (trade : Trade) (provider : ℕ) (list : List Entry) → Begins list → FirstOwn trade provider list
    → IsOurs trade provider list
starts_ours trade provider [] begins own = absurd begins
starts_ours trade provider (entries.Start number digest ∷ rest) begins own = (
  rest,
  inr (ap (λ (n : ℕ). entries.Start n digest ∷ rest) own.1 ∙ ap (λ (d : Bytes). entries.Start provider d ∷ rest) own.2),
)
starts_ours trade provider (entries.StartTwo number digest ∷ rest) begins own = (
  rest,
  inl (ap (λ (n : ℕ). entries.StartTwo n digest ∷ rest) own.1
      ∙ ap (λ (d : Bytes). entries.StartTwo provider d ∷ rest) own.2),
)
starts_ours trade provider (entries.Accepted moment sender message ∷ rest) begins own = absurd begins
starts_ours trade provider (entries.NotAccepted moment sender cause path message ∷ rest) begins own = absurd begins
starts_ours trade provider (entries.Took moment id message ∷ rest) begins own = absurd begins
starts_ours trade provider (entries.Decided moment id recipient decision ∷ rest) begins own = absurd begins
starts_ours trade provider (entries.Charged moment id by ∷ rest) begins own = absurd begins
starts_ours trade provider (entries.Learned moment id recipient decision decided message ∷ rest) begins own = absurd begins
starts_ours trade provider (entries.Acked moment id recipient ∷ rest) begins own = absurd begins
starts_ours trade provider (entries.Ticked moment ∷ rest) begins own = absurd begins
starts_ours trade provider (entries.Anomaly moment accounts message ∷ rest) begins own = absurd begins
starts_ours trade provider (entries.Upgraded moment ∷ rest) begins own = absurd begins
starts_ours trade provider (entries.Archived moment account place ∷ rest) begins own = absurd begins

own_first : (trade : Trade) (provider : ℕ) (list : List Entry) → IsOwn trade provider list → FirstOwn trade provider list
own_first trade provider [] is = tt
own_first trade provider (entry ∷ list) is = is.steps.0.own

own_ours : (trade : Trade) (provider : ℕ) (list : List Entry) → IsOwn trade provider list → IsOurs trade provider list
own_ours trade provider list is = starts_ours trade provider list is.begins (own_first trade provider list is)

module _ (trade : Trade) where
  start_alone : (start : Entry) (rest list : List Entry) (bytes : Bytes) → list ≡ start ∷ rest → IsJournalOf list bytes
      → length bytes ≤ made_size start → list ≡ start ∷ []
  start_alone start rest list bytes first is small =
      first
      ∙ ap (λ (r : List Entry). start ∷ r)
      (fresh_alone start rest bytes (subst (λ (l : List Entry). IsJournalOf l bytes) first is) small)

  -- a first entry of either version takes as many bytes
  fresh_so : (provider : ℕ) (list : List Entry) (bytes : Bytes) → IsOurs trade provider list → IsJournalOf list bytes
      → length bytes ≤ size_begun trade provider → IsFresh trade provider list
  fresh_so provider list bytes ours is small = by_first ours.1
    where
      by_first : (list ≡ entries.StartTwo provider trade.digest ∷ ours.0)
          ⊎ (list ≡ entries.Start provider trade.digest ∷ ours.0) → IsFresh trade provider list
      by_first (inl first) =
          inl (start_alone (entries.StartTwo provider trade.digest) ours.0 list bytes first is small)
      by_first (inr first) =
          inr (start_alone (entries.Start provider trade.digest) ours.0 list bytes first is small)

  -- ---- from one run to the next

  module _ (old new : Holdings) where
    -- what IsFoundOrMade says of some bytes
    abbrev FoundOrMade : ℕ → Bytes → Type 0
    FoundOrMade provider bytes =
        old provider bytes
        ⊎ (old provider [] × (((was : Bytes) → old provider was → length was ≤ size_begun trade provider)
        → length bytes ≤ size_begun trade provider))

    none_before : (provider : ℕ) → FoundOrMade provider [] → old provider []
    none_before provider (inl before) = before
    none_before provider (inr made) = made.0

    short_by : AreFitting trade old → (provider : ℕ) → provider < trade.providers → old provider [] → (bytes : Bytes)
        → FoundOrMade provider bytes → length bytes ≤ size_begun trade provider
    short_by fitting provider within none bytes (inl before) = fitting.small provider within none bytes before
    short_by fitting provider within none bytes (inr made) = made.1 (fitting.small provider within none)

    held_before : AreFitting trade old → (provider : ℕ) → provider < trade.providers → (list : List Entry)
        → IsOurs trade provider list → (bytes : Bytes) → IsJournalOf list bytes → FoundOrMade provider bytes
        → MayBe trade old provider list
    held_before fitting provider within list ours bytes is (inl before) = inl (ours, (bytes, before, is))
    held_before fitting provider within list ours bytes is (inr made) = inr (
      fresh_so provider list bytes ours is (made.1 (fitting.small provider within made.0)),
      made.0,
    )

    -- what may be a journal on the disks that are found may have been one before
    was_there : ((provider : ℕ) → provider < trade.providers → IsFoundOrMade trade old new provider)
        → AreFitting trade old → (provider : ℕ) → provider < trade.providers → (list : List Entry)
        → MayBe trade new provider list → MayBe trade old provider list
    was_there found fitting provider within list (inl there) =
        held_before fitting provider within list there.0 there.1.0 there.1.2 (found provider within there.1.0 there.1.1)
    was_there found fitting provider within list (inr none) =
        inr (none.0, none_before provider (found provider within [] none.1))

    had_fitting : ((provider : ℕ) → provider < trade.providers → IsFoundOrMade trade old new provider)
        → AreFitting trade old → AreFitting trade new
    had_fitting found fitting = record {
      fits = λ lists count each. fitting.fits lists count (λ p l.
          was_there found fitting p l (slice_index_or lists p []) (each p l));
      small = λ p l none bytes holds.
          short_by fitting p l (none_before p (found p l [] none)) bytes (found p l bytes holds);
    }

    module _ (one_list : (one other : List Entry) (bytes : Bytes) → IsJournalOf one bytes → IsJournalOf other bytes
        → one ≡ other)
        (any : (sites : List Site) → Sound trade sites → (images : List (List Entry)) → length images ≡ trade.providers
        → ((provider : ℕ) → provider < trade.providers
        → FollowsState trade sites provider (slice_index_or images provider []))
        → Fit trade (journals_in images)) where
      follows_by : (sites : List Site)
          → ((provider : ℕ) (bytes : Bytes) → provider < trade.providers → new provider bytes
          → FollowsSo trade sites provider bytes)
          → (provider : ℕ) → provider < trade.providers → (list : List Entry) → MayBe trade new provider list
          → FollowsState trade sites provider list
      follows_by sites follows provider within list (inl there) =
          let this = follows provider there.1.0 within there.1.1 in
          subst (λ (l : List Entry). FollowsState trade sites provider l)
          (one_list this.0 list there.1.0 this.2 there.1.2) this.1
      follows_by sites follows provider within list (inr none) =
          let this = follows provider [] within none.1 in absurd (no_journal this.0 this.2)

      followed_fitting : (sites : List Site) → Sound trade sites
          → ((provider : ℕ) (bytes : Bytes) → provider < trade.providers → new provider bytes
          → FollowsSo trade sites provider bytes)
          → AreFitting trade new
      followed_fitting sites sound follows = record {
        fits = λ lists count each. any sites sound lists count (λ p l.
            follows_by sites follows p l (slice_index_or lists p []) (each p l));
        small = λ p l none bytes holds. let this = follows p [] l none in absurd (no_journal this.0 this.2);
      }

      pub passes_fitting : Passes trade old new → AreFitting trade old → AreFitting trade new
      passes_fitting (HadOnly found) fitting = had_fitting found fitting
      passes_fitting (Followed sites given) fitting =
          let so = given fitting in followed_fitting sites so.0 so.1

  -- ---- the first run

  module _ (holds : Holdings) (none : AreEmpty trade holds) where
    fresh_by : (provider : ℕ) → provider < trade.providers → (list : List Entry) → MayBe trade holds provider list
        → IsFresh trade provider list
    fresh_by provider within list (inl there) =
        absurd (no_journal list (subst (λ (b : Bytes). IsJournalOf list b)
        (none provider there.1.0 within there.1.1) there.1.2))
    fresh_by provider within list (inr there) = there.0

    first_begins : (provider : ℕ) (list : List Entry) → IsFresh trade provider list → Begins list
    first_begins provider list (inl is) = subst Begins (sym is) tt
    first_begins provider list (inr is) = subst Begins (sym is) tt

    first_follows : (journals : Journals) (provider : ℕ) (list : List Entry) → IsFresh trade provider list
        → Follows trade journals provider empty list
    first_follows journals provider list (inl is) =
        subst (λ (l : List Entry). Follows trade journals provider empty l) (sym is)
        (record { own = (refl, refl, refl); in_time = omega arith; in_range = omega arith; joint = tt }, tt)
    first_follows journals provider list (inr is) =
        subst (λ (l : List Entry). Follows trade journals provider empty l) (sym is)
        (record { own = (refl, refl, refl); in_time = omega arith; in_range = omega arith; joint = tt }, tt)

    fits_fresh : (lists : List (List Entry)) → length lists ≡ trade.providers
        → ((provider : ℕ) → provider < trade.providers → MayBe trade holds provider (slice_index_or lists provider []))
        → Fit trade (journals_in lists)
    fits_fresh lists count each = record {
      begins = λ p l. first_begins p (slice_index_or lists p []) (fresh_by p l (slice_index_or lists p []) (each p l));
      follows = λ p. elim (cases_lt p trade.providers) [
        | inl l ↦ first_follows (journals_in lists) p (slice_index_or lists p [])
            (fresh_by p l (slice_index_or lists p []) (each p l))
        | inr l ↦
            let past : slice_index_or lists p [] ≡ [] = get_or_past lists p [] (omega (arith, count, l)) in
            subst (λ (list : List Entry). Follows trade (journals_in lists) p empty list) (sym past) tt
      ];
    }

    pub empty_fitting : AreFitting trade holds
    empty_fitting = record {
      fits = fits_fresh;
      small = λ p l nothing bytes there.
          let size = ap (λ (b : Bytes). length b) (none p bytes l there) in omega (arith, size);
    }

-- ---- journals that are opened

pub some_there : {D : Type 0} (home : Option D) → home ≢ None → (disk : D) × (home ≡ Some disk)
some_there None some = absurd (some refl)
some_there (Some disk) some = (disk, refl)

pub opened_fitting : {D : Type 0} (tells : Type 0) (sight : D → Sight) (home : ℕ → Option D) (trade : Trade) → tells
    → ((disk : D) → (sight disk).may_leave (sight disk).seen) → AreAtHome trade home
    → AreFitting trade (held tells sight home) → (opening : Opening)
    → IsOpening trade (disks_at tells sight home) Resume opening → opening.next ≡ NoMore
    → Fit trade (journals_in opening.journals)
opened_fitting tells sight home trade told reads_so at_home fitting opening is all =
    let count = all_there trade (disks_at tells sight home) Resume opening is all in
    fitting.fits opening.journals count (λ p l.
    let there = some_there (home p) (at_home p l) in
    let seen = (sight there.0).seen in
    let journal = slice_index_or opening.journals p [] in
    let had = is.each p journal (slice_get-get_or opening.journals p [] (omega (arith, count, l))) in
    inl (
      own_ours trade p journal had.0,
      (seen, (told, (there.0, there.1, reads_so there.0)), had.1 seen (told, (there.0, there.1, refl))),
    ))

-- ---- runs one after another

module _ {D : Type 0} (tells : Type 0) (sight : D → Sight) (trade : Trade)
    (passes : (old new : ℕ → Option D) → Passes trade (held tells sight old) (held tells sight new)
    → AreFitting trade (held tells sight old) → AreFitting trade (held tells sight new)) where
  pub runs_fitting : (first : ℕ → Option D) (more : List (ℕ → Option D)) → AreRuns tells sight trade first more
      → AreFitting trade (held tells sight first) → AreFitting trade (held tells sight (last_found first more))
  runs_fitting first [] are fitting = fitting
  runs_fitting first (next ∷ more) are fitting = runs_fitting next more are.1 (passes first next are.0 fitting)
