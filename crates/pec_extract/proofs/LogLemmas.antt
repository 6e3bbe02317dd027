-- How the rows of a provider's log are written, one after another.
use Rattle.std.proofs.Common.{◌≡◌, ℕ, ◌+◌, ◌<◌, ◌≤◌, zero, suc, Bool, true, false, not, List, [], ◌∷◌, ◌++◌, length, drop, Option, Some, None, Result, Ok, Err, ◌⊎◌, inl, inr, refl, sym, ap, subst, ◌∙◌, arith, append_assoc, add-one, drop-cons}
use Rattle.std.specs.Prelude.{IfErr, IfSome, IsTrue, OnErr, OnOk, slice_get}
use Rattle.std.specs.List.{flat_map}
use Rattle.std.specs.Option.{option_map, option_to_list}
use Rattle.std.proofs.Math.ListN.{drop_of_length-le}
use Rattle.std.proofs.lemmas.Grind.{flat_map-append}
use Rattle.std.proofs.lemmas.List.{append-nil}
use Rattle.std.proofs.lemmas.Bool.{false≢true}
use Rattle.std.proofs.lemmas.Option.{get_or_from_slice_get, same_Some, slice_get_within}
use Rattle.pec_types.specs.Bytes.{Bytes}
use Rattle.pec_types.specs.Message.{Id}
use Rattle.pec_types.specs.Moments.{is_within}
use Rattle.pec_types.specs.declared.messages.Facts.{Facts}
use Rattle.pec_outside.specs.DiskModel.{Sight}
use Rattle.pec_outside.specs.Flow.{followed_by, Wrote, WrotePart}
use Rattle.pec_directory.specs.Directory.{Kept, Provider}
use Rattle.pec_seal.specs.Seals.{Seals}
use Rattle.pec_records.specs.declared.entries.Entry.{Entry}
use Rattle.pec_records.specs.declared.entries.Entry.TheVariants as kinds
use Rattle.pec_ledger.specs.Steps.{half, moment_of}
use Rattle.pec_ledger.specs.Trade.{Trade}
use Rattle.pec_chronicle.specs.Carrying.{CarriesOn, NothingMay}
use Rattle.pec_chronicle.specs.CarryingLaws.{carries_and_then}
use Rattle.pec_chronicle.specs.Chronicle.{Stands}
use Rattle.pec_provider.specs.Provider.{Desk, ProviderState, Runs, desk_of}
use Rattle.pec_provider.specs.Telling.{facts_taken, own_facts}
use Rattle.pec_extract.specs.LogRows.{facts_by, log_rows, original_in, row_with, row_within, rows_from, submits, told_by, told_with}
use Rattle.pec_extract.specs.Reading.{IsLogChanged, LogTells, OnChanged, Reads, TellsOriginal}
use Rattle.pec_extract.specs.Records.{Record, record_text, records_text}
use Rattle.pec_extract.specs.Remembering.{AreTaken, Original, facts_kept, told_known}
use Rattle.pec_extract.specs.declared.faults.ExtractFault.{ExtractFault}
use Rattle.pec_extract.specs.declared.faults.ExtractFault.TheVariants as faults

-- ---- bytes that are written one after another

pub followed_by-append : (o : Option Bytes) (a b : Bytes) → followed_by (followed_by o a) b ≡ followed_by o (a ++ b)
followed_by-append None a b = refl
followed_by-append (Some bytes) a b = ap Some (append_assoc bytes a b)

pub followed_by-nil : (o : Option Bytes) → followed_by o [] ≡ o
followed_by-nil None = refl
followed_by-nil (Some bytes) = ap Some (append-nil bytes)

-- one more piece was written
wrote_more : (u v w : Option Bytes) (all now piece more : Bytes) → Wrote u v all now → w ≡ followed_by v piece
    → now ≡ piece ++ more → Wrote u w all more
wrote_more u v w all now piece more wrote written cut = record {
  done = wrote.done ++ piece;
  held = written ∙ ap (λ o. followed_by o piece) wrote.held ∙ followed_by-append u wrote.done piece;
  text = wrote.text ∙ ap (λ rest. wrote.done ++ rest) cut ∙ sym (append_assoc wrote.done piece more);
}

-- a part of one more piece was written
wrote_part : (u v w : Option Bytes) (all now piece more : Bytes) → Wrote u v all now → WrotePart v w piece
    → now ≡ piece ++ more → WrotePart u w all
wrote_part u v w all now piece more wrote part cut = record {
  rest = part.rest ++ more;
  wrote = wrote_more u v w all now part.wrote.done (part.rest ++ more) wrote part.wrote.held
      (cut ∙ ap (λ front. front ++ more) part.wrote.text ∙ append_assoc part.wrote.done part.rest more);
}

-- all was written
wrote_all : (u v : Option Bytes) (all now : Bytes) → Wrote u v all now → now ≡ [] → v ≡ followed_by u all
wrote_all u v all now wrote none =
    wrote.held
    ∙ ap (λ done. followed_by u done)
    (sym (wrote.text ∙ ap (λ rest. wrote.done ++ rest) none ∙ append-nil wrote.done))

pub wrote_none : (u : Option Bytes) (all : Bytes) → Wrote u u all all
wrote_none u all = record { done = []; held = sym (followed_by-nil u); text = refl }

-- nothing was written yet
pub wrote_nothing : (u : Option Bytes) (all : Bytes) → WrotePart u u all
wrote_nothing u all = record { rest = all; wrote = wrote_none u all }

pub on_err : {T E : Type 0} {P : Type 0} (r : Result T E) → P → OnErr r P
on_err (Ok x) p = tt
on_err (Err e) p = p

-- ---- the rows that are left

drop_there : {X : Type 0} (xs : List X) (n : ℕ) (x : X) → slice_get xs n ≡ Some x → drop n xs ≡ x ∷ drop (n + 1) xs
drop_there xs n x at =
    rw (add-one n, drop-cons xs n x (slice_get_within xs n x at))
    (ap (λ y. y ∷ drop (suc n) xs) (get_or_from_slice_get xs n x x at))

module _ (trade : Trade) (providers : List Provider) (me : ℕ) (journal : List Entry) (from upto : ℕ) where
  -- the rows of the entries from a number on, before which so many messages were submitted
  abbrev pub left : ℕ → ℕ → List Record
  left number submitted = rows_from trade providers me journal from upto number submitted (drop number journal)

  -- one entry less
  pub left_less : (number submitted : ℕ) (entry : Entry) → slice_get journal number ≡ Some entry
      → records_text (left number submitted)
      ≡ records_text (option_to_list (row_within trade providers me journal from upto number submitted entry))
      ++ records_text (left (number + 1) (submitted + submits entry))
  left_less number submitted entry at =
      ap (λ (entries : List Entry). records_text (rows_from trade providers me journal from upto number submitted entries))
      (drop_there journal number entry at)
      ∙ flat_map-append record_text (option_to_list (row_within trade providers me journal from upto number submitted entry))
      (left (number + 1) (submitted + submits entry))

  -- none behind the last
  pub left_none : (number submitted : ℕ) → length journal ≤ number → records_text (left number submitted) ≡ []
  left_none number submitted l =
      ap (λ (entries : List Entry). records_text (rows_from trade providers me journal from upto number submitted entries))
      (drop_of_length-le journal l)

-- ---- what an entry tells

-- where what is remembered of its original is what the journal says, the row says what it has to say
by_original : (accepted taken known : Id → Option Facts) (me submitted : ℕ) (entry : Entry)
    → IfSome (original_in entry) (λ id. known id ≡ taken id)
    → facts_by accepted known me submitted entry ≡ facts_by accepted taken me submitted entry
by_original accepted taken known me submitted (kinds.Start provider digest) same = refl
by_original accepted taken known me submitted (kinds.StartTwo provider digest) same = refl
by_original accepted taken known me submitted (kinds.Accepted moment sender message) same = refl
by_original accepted taken known me submitted (kinds.NotAccepted moment sender cause path message) same = refl
by_original accepted taken known me submitted (kinds.Took moment id message) same = same
by_original accepted taken known me submitted (kinds.Decided moment id recipient decision) same = same
by_original accepted taken known me submitted (kinds.Charged moment id by) same = refl
by_original accepted taken known me submitted (kinds.Learned moment id recipient decision decided message) same = refl
by_original accepted taken known me submitted (kinds.Acked moment id recipient) same = same
by_original accepted taken known me submitted (kinds.Ticked moment) same = refl
by_original accepted taken known me submitted (kinds.Upgraded moment) same = refl
by_original accepted taken known me submitted (kinds.Anomaly moment accounts message) same = refl
by_original accepted taken known me submitted (kinds.Archived moment account place) same = refl

module _ {D : Type 0} (trade : Trade) (providers : List Provider) (me number submitted : ℕ) (old mid : ProviderState D)
    (same : desk_of mid ≡ desk_of old) (originals : List Original) (entry : Entry)
    (known : IfSome (original_in entry) (λ id. facts_kept originals id ≡ facts_taken trade me old.chronicle.entries id)) where
  abbrev row_known : Bytes
  row_known = records_text (option_to_list (option_map (row_with providers me number (moment_of entry))
      (told_known trade providers me (half trade me mid.chronicle.entries) originals number submitted entry)))

  abbrev row_told : Bytes
  row_told = records_text (option_to_list (option_map (row_with providers me number (moment_of entry))
      (told_by trade providers me old.chronicle.entries number submitted entry)))

  pub same_told : row_known ≡ row_told
  same_told =
      ap (λ (entries : List Entry). records_text (option_to_list (option_map (row_with providers me number (moment_of entry))
      (told_known trade providers me (half trade me entries) originals number submitted entry))))
      (ap (λ (desk : Desk). desk.journal) same)
      ∙ ap (λ (facts : Option Facts). records_text (option_to_list (option_map
      (row_with providers me number (moment_of entry))
      (told_with trade providers me (half trade me old.chronicle.entries) number submitted facts entry))))
      (by_original (own_facts me (half trade me old.chronicle.entries)) (facts_taken trade me old.chronicle.entries)
      (facts_kept originals) me submitted entry known)

-- where nothing is read what is remembered is so of the same journal
module _ {D : Type 0} (trade : Trade) (me : ℕ) (old mid : ProviderState D) (same : desk_of mid ≡ desk_of old)
    (originals : List Original) where
  pub taken_mid : AreTaken trade me old.chronicle.entries originals → AreTaken trade me mid.chronicle.entries originals
  taken_mid taken =
      subst (λ (entries : List Entry). AreTaken trade me entries originals)
      (sym (ap (λ (desk : Desk). desk.journal) same)) taken

  pub taken_old : AreTaken trade me mid.chronicle.entries originals → AreTaken trade me old.chronicle.entries originals
  taken_old taken =
      subst (λ (entries : List Entry). AreTaken trade me entries originals)
      (ap (λ (desk : Desk). desk.journal) same) taken

-- ---- one entry

module _ {D : Type 0} (trade : Trade) (providers : List Provider) (me from upto number submitted : ℕ)
    (old mid : ProviderState D) (same : desk_of mid ≡ desk_of old) (entry told : Entry)
    (at : slice_get old.chronicle.entries number ≡ Some told) (is : slice_get old.chronicle.entries number ≡ Some entry) where
  told_is : entry ≡ told
  told_is = same_Some entry told (sym is ∙ at)

  abbrev rows_of : ProviderState D → Entry → Bytes
  rows_of provider one = records_text (option_to_list
      (row_within trade providers me provider.chronicle.entries from upto number submitted one))

  same_rows : rows_of mid entry ≡ rows_of old told
  same_rows =
      ap (λ (entries : List Entry). records_text (option_to_list
      (row_within trade providers me entries from upto number submitted entry))) (ap (λ (desk : Desk). desk.journal) same)
      ∙ ap (rows_of old) told_is

  pub row_so : (held after : Option Bytes) → after ≡ followed_by held (records_text (option_to_list
      (row_within trade providers me mid.chronicle.entries from upto number submitted entry)))
      → after ≡ followed_by held (records_text (option_to_list
      (row_within trade providers me old.chronicle.entries from upto number submitted told)))
  row_so held after written = written ∙ ap (followed_by held) same_rows

  pub front_so : (held after : Option Bytes) → WrotePart held after (records_text (option_to_list
      (row_within trade providers me mid.chronicle.entries from upto number submitted entry)))
      → WrotePart held after (records_text (option_to_list
      (row_within trade providers me old.chronicle.entries from upto number submitted told)))
  front_so held after part = subst (WrotePart held after) same_rows part

  -- and so is the original of which it tells
  abbrev tells_of : ProviderState D → Entry → Type 0
  tells_of provider one =
      IsTrue (is_within from upto (moment_of one)) → TellsOriginal trade me provider.chronicle.entries one

  pub original_so : tells_of mid entry → tells_of old told
  original_so tells =
      subst (λ (one : Entry). tells_of old one) told_is
      (subst (λ (entries : List Entry). IsTrue (is_within from upto (moment_of entry)) → TellsOriginal trade me entries entry)
      (ap (λ (desk : Desk). desk.journal) same) tells)

  pub submits_so : submits entry ≡ submits told
  submits_so = ap submits told_is

-- ---- the loop

before_or_here : (k n : ℕ) → k < n + 1 → (k < n) ⊎ (k ≡ n)
before_or_here zero zero l = inr refl
before_or_here zero (suc n) l = inl (omega arith)
before_or_here (suc k) zero l = absurd (omega (arith, l))
before_or_here (suc k) (suc n) l = elim (before_or_here k n (omega (arith, l))) [
  | inl less ↦ inl (omega (arith, less))
  | inr same ↦ inr (ap suc same)
]

there_at : {X : Type 0} (xs : List X) (n : ℕ) → n < length xs → (x : X) × (slice_get xs n ≡ Some x)
there_at [] n l = absurd (omega (arith, l))
there_at (x ∷ xs) zero l = (x, refl)
there_at (x ∷ xs) (suc n) l = there_at xs n (omega (arith, l))

module _ {D : Type 0} (Tells : Type 0) (sight : D → Sight) (count : D → ℕ) (kept : List Kept) (seals : Seals)
    (trade : Trade) (providers : List Provider) (me from upto : ℕ) (begun : ProviderState D) (held : Option Bytes) where
  abbrev all_rows : Bytes
  all_rows = records_text (log_rows trade providers me begun.chronicle.entries from upto)

  -- The rows of the entries before this one are written, of which so many submit messages, the originals of which they tell
  -- are there, what is remembered is what the journal says, and nothing else has changed.
  pub record LogSoFar (number submitted : ℕ) (now : ProviderState D) (written : Option Bytes) (originals : List Original)
      : Type 0 where
    pub desk : desk_of now ≡ desk_of begun
    pub owed : now.owed ≡ begun.owed
    pub runs : Runs kept seals me now
    pub carries : Tells → CarriesOn sight NothingMay begun.chronicle now.chronicle
    pub later : count begun.chronicle.disk ≤ count now.chronicle.disk
    pub few : submitted ≤ number
    pub taken : Tells → Stands sight begun.chronicle → AreTaken trade me begun.chronicle.entries originals
    pub tells : Tells → Stands sight begun.chronicle → (k : ℕ) (entry : Entry) → k < number
        → slice_get begun.chronicle.entries k ≡ Some entry → IsTrue (is_within from upto (moment_of entry))
        → TellsOriginal trade me begun.chronicle.entries entry
    pub wrote : Tells → Stands sight begun.chronicle
        → Wrote held written all_rows (records_text (left trade providers me begun.chronicle.entries from upto number submitted))

  pub log_begins : (originals : List Original) → originals ≡ [] → Runs kept seals me begun
      → (Tells → CarriesOn sight NothingMay begun.chronicle begun.chronicle) → LogSoFar 0 0 begun held originals
  log_begins originals none runs rests = record {
    desk = refl;
    owed = refl;
    runs = runs;
    carries = rests;
    later = omega arith;
    few = omega arith;
    taken = λ tells stands.
        subst (λ (found : List Original). AreTaken trade me begun.chronicle.entries found) (sym none) (λ id. tt);
    tells = λ tells stands k entry l. absurd (omega (arith, l));
    wrote = λ tells stands. wrote_none held all_rows;
  }

  module _ (number submitted : ℕ) (now : ProviderState D) (written : Option Bytes) (originals : List Original)
      (so_far : LogSoFar number submitted now written originals) where
    same_journal : now.chronicle.entries ≡ begun.chronicle.entries
    same_journal = ap (λ (desk : Desk). desk.journal) so_far.desk

    taken_now : Tells → Stands sight begun.chronicle → AreTaken trade me now.chronicle.entries originals
    taken_now tells stands =
        subst (λ (entries : List Entry). AreTaken trade me entries originals) (sym same_journal) (so_far.taken tells stands)

    pub still_up : begun.chronicle.down ≡ false → now.chronicle.down ≡ false
    still_up up = not_again now.chronicle.down (ap (λ (desk : Desk). desk.up) so_far.desk ∙ ap not up)
      where
        not_again : (b : Bool) → not b ≡ true → b ≡ false
        not_again true e = absurd (false≢true e)
        not_again false e = refl

    pub still_there : number < length begun.chronicle.entries → number < length now.chronicle.entries
    still_there l = subst (λ (entries : List Entry). number < length entries) (sym same_journal) l

    module _ (new : ProviderState D) (after : Option Bytes) where
      -- one entry more
      pub log_more : (found : List Original) (more : ℕ) → Reads (desk_of now) (desk_of new) (Ok more) → new.owed ≡ now.owed → Runs kept seals me new
          → (Tells → CarriesOn sight NothingMay now.chronicle new.chronicle)
          → count now.chronicle.disk ≤ count new.chronicle.disk → more ≤ 1 → number < length begun.chronicle.entries
          → (Tells → Stands sight now.chronicle → AreTaken trade me now.chronicle.entries originals
          → AreTaken trade me now.chronicle.entries found)
          → (Tells → Stands sight now.chronicle → AreTaken trade me now.chronicle.entries originals
          → (entry : Entry) → slice_get now.chronicle.entries number ≡ Some entry
          → after ≡ followed_by written (records_text (option_to_list
          (row_within trade providers me now.chronicle.entries from upto number submitted entry))))
          → (Tells → Stands sight now.chronicle → (entry : Entry) → slice_get now.chronicle.entries number ≡ Some entry
          → more ≡ submits entry)
          → (Tells → Stands sight now.chronicle → AreTaken trade me now.chronicle.entries originals
          → (entry : Entry) → slice_get now.chronicle.entries number ≡ Some entry
          → IsTrue (is_within from upto (moment_of entry)) → TellsOriginal trade me now.chronicle.entries entry)
          → LogSoFar (number + 1) (submitted + more) new after found
      log_more found more reads owed runs carries later few l taken row submits_so original =
          let there = there_at begun.chronicle.entries number l in
          let few_so_far = so_far.few in
          let later_so_far = so_far.later in
          record {
            desk = reads ∙ so_far.desk;
            owed = owed ∙ so_far.owed;
            runs = runs;
            carries = λ tells.
                carries_and_then sight NothingMay begun.chronicle now.chronicle new.chronicle (so_far.carries tells) (carries tells);
            later = omega (arith, later_so_far, later);
            few = omega (arith, few_so_far, few);
            taken = λ tells stands.
                subst (λ (entries : List Entry). AreTaken trade me entries found) same_journal
                (taken tells ((so_far.carries tells).stands stands) (taken_now tells stands));
            tells = λ tells stands k entry l at within. elim (before_or_here k number l) [
              | inl less ↦ so_far.tells tells stands k entry less at within
              | inr same ↦ subst (λ (entries : List Entry). TellsOriginal trade me entries entry) same_journal
                  (original tells ((so_far.carries tells).stands stands) (taken_now tells stands) entry
                  (ap (λ (entries : List Entry). slice_get entries number) same_journal
                  ∙ ap (slice_get begun.chronicle.entries) (sym same) ∙ at) within)
            ];
            wrote = λ tells stands.
                let stands_now = (so_far.carries tells).stands stands in
                let at : slice_get now.chronicle.entries number ≡ Some there.0 =
                ap (λ (entries : List Entry). slice_get entries number) same_journal ∙ there.1 in
                subst (λ (n : ℕ). Wrote held after all_rows
                (records_text (left trade providers me begun.chronicle.entries from upto (number + 1) (submitted + n))))
                (sym (submits_so tells stands_now there.0 at))
                (wrote_more held written after all_rows _ _ _ (so_far.wrote tells stands)
                (row tells stands_now (taken_now tells stands) there.0 at
                ∙ ap (λ (entries : List Entry). followed_by written (records_text (option_to_list
                (row_within trade providers me entries from upto number submitted there.0)))) same_journal)
                (left_less trade providers me begun.chronicle.entries from upto number submitted there.0 there.1));
          }

      -- it fails at this entry: a front of the rows was written
      pub log_front : number < length begun.chronicle.entries
          → (Tells → Stands sight now.chronicle → AreTaken trade me now.chronicle.entries originals
          → (entry : Entry) → slice_get now.chronicle.entries number ≡ Some entry
          → WrotePart written after (records_text (option_to_list
          (row_within trade providers me now.chronicle.entries from upto number submitted entry))))
          → Tells → Stands sight begun.chronicle → WrotePart held after all_rows
      log_front l part tells stands =
          let there = there_at begun.chronicle.entries number l in
          let stands_now = (so_far.carries tells).stands stands in
          let at : slice_get now.chronicle.entries number ≡ Some there.0 =
          ap (λ (entries : List Entry). slice_get entries number) same_journal ∙ there.1 in
          wrote_part held written after all_rows _ _ _ (so_far.wrote tells stands)
          (subst (λ (entries : List Entry). WrotePart written after (records_text (option_to_list
          (row_within trade providers me entries from upto number submitted there.0)))) same_journal
          (part tells stands_now (taken_now tells stands) there.0 at))
          (left_less trade providers me begun.chronicle.entries from upto number submitted there.0 there.1)

    -- it fails at this entry: what is kept goes on
    pub log_carries : (new : ProviderState D) → (Tells → CarriesOn sight NothingMay now.chronicle new.chronicle)
        → Tells → CarriesOn sight NothingMay begun.chronicle new.chronicle
    log_carries new carries tells =
        carries_and_then sight NothingMay begun.chronicle now.chronicle new.chronicle (so_far.carries tells) (carries tells)

    -- what its half is, is what it was
    pub log_half : half trade me now.chronicle.entries ≡ half trade me begun.chronicle.entries
    log_half = ap (half trade me) same_journal

    -- the originals of which all rows tell are there
    pub log_tells : length begun.chronicle.entries ≤ number → Tells → Stands sight begun.chronicle
        → LogTells trade me from upto begun.chronicle.entries
    log_tells l tells stands k entry at within =
        let there = slice_get_within begun.chronicle.entries k entry at in
        so_far.tells tells stands k entry (omega (arith, l, there)) at within

    -- all rows are written
    pub log_ends : length begun.chronicle.entries ≤ number → Tells → Stands sight begun.chronicle
        → written ≡ followed_by held all_rows
    log_ends l tells stands =
        wrote_all held written all_rows _ (so_far.wrote tells stands)
        (left_none trade providers me begun.chronicle.entries from upto number submitted l)
