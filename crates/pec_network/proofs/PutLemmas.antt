-- How the frames for all providers are composed, for one provider after another, before any is put.
use Rattle.std.proofs.Common.{◌≡◌, ◌≢◌, ℕ, ◌+◌, ◌≤◌, false, List, [], ◌∷◌, ◌++◌, length, get_or, refl, ap, sym, subst, ◌∙◌, inl, inr, arith}
use Rattle.std.proofs.Common.{Some, None, Err}
use Rattle.std.specs.Prelude.{not}
use Rattle.std.proofs.Math.Seq.{get_or-append_seam}
use Rattle.std.proofs.lemmas.Bool.{cases_eq, cases_lt, false≢true}
use Rattle.std.proofs.lemmas.List.{get_or_append_left, get_or_past, length-append}
use Rattle.std.proofs.lemmas.Option.{same_Some}
use Rattle.pec_types.specs.Bytes.{Bytes}
use Rattle.pec_types.specs.declared.letters.Letter.{Letter}
use Rattle.pec_types.specs.declared.turns.ProviderFault.{ProviderFault}
use Rattle.pec_types.specs.declared.turns.ProviderFault.TheVariants as faults
use Rattle.pec_outside.specs.DiskModel.{Sight}
use Rattle.pec_directory.specs.Directory.{Kept}
use Rattle.pec_records.specs.declared.entries.Entry.{Entry}
use Rattle.pec_ledger.specs.Ledger.{Fit, Journals}
use Rattle.pec_ledger.specs.Trade.{Trade}
use Rattle.pec_plays.specs.Frames.{due_frames}
use Rattle.pec_plays.specs.Turns.{puts_from}
use Rattle.pec_seal.specs.Seals.{Seals}
use Rattle.pec_chronicle.specs.Carrying.{CarriesOn, NothingMay}
use Rattle.pec_chronicle.specs.CarryingLaws.{carries_and_then}
use Rattle.pec_chronicle.specs.Chronicle.{ChronicleState, Stands}
use Rattle.pec_provider.specs.Provider.{Desk, ProviderState, Runs, desk_of}
use Rattle.pec_provider.specs.Reading.{HasStopped, IsUnread, LetterIsChanged, OnChanged, Reads}
use Rattle.pec_network.specs.Turning.{NoneIsChanged, Puts}
use Rattle.pec_network.proofs.EndLemmas.{not_down}
use Rattle.pec_network.proofs.FrameLemmas.{puts_count, puts_step}

-- ---- for one provider more

fits_more : (rooms : ℕ → ℕ) (out : List (List Bytes)) (put : List Bytes) (number : ℕ) → length out ≡ number
    → ((to : ℕ) → length (get_or out to []) ≤ rooms to) → length put ≤ rooms number
    → (to : ℕ) → length (get_or (out ++ put ∷ []) to []) ≤ rooms to
fits_more rooms out put number many fits short to =
    elim (cases_lt to (length out)) [
      | inl before ↦
          subst (λ (l : List Bytes). length l ≤ rooms to) (sym (get_or_append_left out (put ∷ []) [] to before)) (fits to)
      | inr past ↦
          elim (cases_eq to (length out)) [
            | inl last ↦
                subst (λ (n : ℕ). length (get_or (out ++ put ∷ []) n []) ≤ rooms n) (sym last)
                (subst (λ (l : List Bytes). length l ≤ rooms (length out)) (sym (get_or-append_seam out put [] []))
                (subst (λ (n : ℕ). length put ≤ rooms n) (sym many) short))
            | inr apart ↦
                let size = length-append out (put ∷ []) in
                let beyond : length (out ++ put ∷ []) ≤ to = omega (arith, past, apart, size) in
                subst (λ (l : List Bytes). length l ≤ rooms to) (sym (get_or_past (out ++ put ∷ []) to [] beyond))
                (omega arith)
          ]
    ]

module _ {D : Type 0} (Tells : Type 0) (sight : D → Sight) (count : D → ℕ) (kept : List Kept) (seals : Seals)
    (trade : Trade) (me : ℕ) (rooms : ℕ → ℕ) (begun : ProviderState D) where
  -- The frames for the first providers are composed, and the provider stands as it did.
  pub record PutSoFar (number : ℕ) (now : ProviderState D) (out : List (List Bytes)) : Type 0 where
    pub desk : desk_of now ≡ desk_of begun
    pub up : now.chronicle.down ≡ false
    pub runs : Runs kept seals me now
    pub carries : Tells → CarriesOn sight NothingMay begun.chronicle now.chronicle
    pub later : count begun.chronicle.disk ≤ count now.chronicle.disk
    pub many : length out ≡ number
    pub fits : (to : ℕ) → length (get_or out to []) ≤ rooms to
    pub due : Tells × Stands sight begun.chronicle
        → out ≡ puts_from trade me begun.chronicle.entries rooms begun.owed 0 number

  pub none_put : Runs kept seals me begun → begun.chronicle.down ≡ false
      → (Tells → (state : ChronicleState D) → CarriesOn sight NothingMay state state) → PutSoFar 0 begun []
  none_put runs up rests = record {
    desk = refl;
    up = up;
    runs = runs;
    carries = λ tells. rests tells begun.chronicle;
    later = omega arith;
    many = refl;
    fits = λ to. omega arith;
    due = λ stood. refl;
  }

  pub one_put : (number : ℕ) (now new : ProviderState D) (out more : List (List Bytes)) (put frames : List Bytes)
      → PutSoFar number now out → more ≡ out ++ put ∷ [] → put ≡ frames → desk_of new ≡ desk_of now
      → Runs kept seals me new → (Tells → CarriesOn sight NothingMay now.chronicle new.chronicle)
      → count now.chronicle.disk ≤ count new.chronicle.disk → length frames ≤ rooms number
      → (Tells → Stands sight now.chronicle
      → frames ≡ due_frames trade me now.chronicle.entries number (rooms number) now.owed)
      → PutSoFar (number + 1) new more
  one_put number now new out more put frames so_far pushed is same runs carries later short due =
      let desk = same ∙ so_far.desk in
      let size = length-append out (put ∷ []) in
      record {
        desk = desk;
        up = not_down new.chronicle.down (ap (λ (d : Desk). d.up) same ∙ ap not so_far.up);
        runs = runs;
        carries = λ tells. carries_and_then sight NothingMay begun.chronicle now.chronicle new.chronicle
            (so_far.carries tells) (carries tells);
        later = let l = so_far.later in omega (arith, l, later);
        many = ap (λ (l : List (List Bytes)). length l) pushed ∙ size ∙ ap (λ (n : ℕ). n + 1) so_far.many;
        fits = λ to.
            subst (λ (l : List (List Bytes)). length (get_or l to []) ≤ rooms to) (sym pushed)
            (fits_more rooms out put number so_far.many so_far.fits
            (subst (λ (l : List Bytes). length l ≤ rooms number) (sym is) short) to);
        due = λ stood.
            puts_step trade me begun.chronicle.entries rooms begun.owed out more put frames number pushed
            (so_far.due stood) is
            (due stood.0 ((so_far.carries stood.0).stands stood.1)
            ∙ ap (λ (d : Desk). due_frames trade me d.journal number (rooms number) d.owed) so_far.desk);
      }

  -- all are composed
  pub all_put : (number total : ℕ) (now : ProviderState D) (out : List (List Bytes)) → PutSoFar number now out → number ≡ total
      → Puts (Tells × Stands sight begun.chronicle) (puts_from trade me begun.chronicle.entries rooms begun.owed 0 total)
      rooms (desk_of begun) (desk_of now) None out
  all_put number total now out so_far all = (
    so_far.desk,
    λ stood. so_far.due stood
        ∙ ap (λ (n : ℕ). puts_from trade me begun.chronicle.entries rooms begun.owed 0 n) all,
    so_far.many ∙ all ∙ sym (puts_count trade me begun.chronicle.entries rooms begun.owed 0 total),
    so_far.fits,
  )

  -- ---- one isn't

  stops_so : (now new : ProviderState D) → desk_of now ≡ desk_of begun → HasStopped (desk_of now) (desk_of new)
      → HasStopped (desk_of begun) (desk_of new)
  stops_so now new same stops = subst (λ (d : Desk). HasStopped d (desk_of new)) same stops

  pub put_fails : (X : Type 0) (number : ℕ) (now new : ProviderState D) (out : List (List Bytes)) (fault : ProviderFault)
      → PutSoFar number now out → Reads {X = X} (desk_of now) (desk_of new) (Err fault)
      → IsUnread (not now.chronicle.down) fault → fault ≢ faults.NoMemory
      → (Stood : Type 0) (due : List (List Bytes)) → Puts Stood due rooms (desk_of begun) (desk_of new) (Some fault) []
  put_fails X number now new out faults.DiskFault so_far reads refused other Stood due =
      let stops = stops_so now new so_far.desk reads in (stops.2, stops.1, tt, refl)
  put_fails X number now new out (faults.Changed which) so_far reads refused other Stood due =
      let stops = stops_so now new so_far.desk reads in (stops.2, stops.1, tt, refl)
  put_fails X number now new out faults.Down so_far reads refused other Stood due =
      absurd (false≢true (sym refused ∙ ap not so_far.up))
  put_fails X number now new out faults.NoMemory so_far reads refused other Stood due = absurd (other refl)
  put_fails X number now new out (faults.ClockBack moment) so_far reads refused other Stood due = absurd refused
  put_fails X number now new out faults.NoAccount so_far reads refused other Stood due = absurd refused
  put_fails X number now new out faults.Full so_far reads refused other Stood due = absurd refused
  put_fails X number now new out faults.NoItem so_far reads refused other Stood due = absurd refused
  put_fails X number now new out faults.JournalFull so_far reads refused other Stood due = absurd refused
  put_fails X number now new out faults.OldJournal so_far reads refused other Stood due = absurd refused
  put_fails X number now new out faults.NoNeed so_far reads refused other Stood due = absurd refused

  -- an entry that isn't what a letter is composed of is told of no journals that are Fit
  pub unchanged_so : (number : ℕ) (now : ProviderState D) (out : List (List Bytes)) (fault : ProviderFault)
      → PutSoFar number now out
      → ((journals : Journals) → Fit trade journals → (to room : ℕ) (owed : List Letter) (which : ℕ)
      → LetterIsChanged trade me (journals me) to room owed which → ⊥)
      → (Tells → Stands sight now.chronicle
      → OnChanged (LetterIsChanged trade me now.chronicle.entries number (rooms number) now.owed) fault)
      → Tells × Stands sight begun.chronicle → NoneIsChanged trade me begun.chronicle.entries (Some fault)
  unchanged_so number now out fault so_far none changed stood journals fit here which is =
      let told : LetterIsChanged trade me now.chronicle.entries number (rooms number) now.owed which =
      subst (λ (f : ProviderFault). OnChanged (LetterIsChanged trade me now.chronicle.entries number (rooms number) now.owed) f)
      (same_Some fault (faults.Changed which) is) (changed stood.0 ((so_far.carries stood.0).stands stood.1)) in
      none journals fit number (rooms number) now.owed which
      (subst (λ (entries : List Entry). LetterIsChanged trade me entries number (rooms number) now.owed which)
      (ap (λ (d : Desk). d.journal) so_far.desk ∙ sym here) told)

  -- what was left where memory ran out
  pub stays_so : (X : Type 0) (number : ℕ) (now new : ProviderState D) (out : List (List Bytes)) (fault : ProviderFault)
      → PutSoFar number now out → Reads {X = X} (desk_of now) (desk_of new) (Err fault) → fault ≡ faults.NoMemory
      → desk_of new ≡ desk_of begun
  stays_so X number now new out fault so_far reads is =
      subst (λ (f : ProviderFault). Reads {X = X} (desk_of now) (desk_of new) (Err f)) is reads ∙ so_far.desk
