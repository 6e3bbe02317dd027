-- Runs that are over, that were halted, that began and that played, with what their disks went through: as `RanSoOver`.
use Rattle.std.proofs.Common.{◌≡◌, ℕ, ◌<◌, ◌≤◌, Bool, true, false, List, [], refl, ap, sym, subst, ◌∙◌, arith}
use Rattle.std.proofs.Common.{length, Option, Some, None, Result, Ok}
use Rattle.std.specs.Prelude.{option_map, slice_get}
use Rattle.std.proofs.lemmas.Option.{get_or_from_slice_get, none-some, same_Some, slice_get-get_or, slice_get_within}
use Rattle.pec_types.specs.Bytes.{Bytes}
use Rattle.pec_outside.specs.DiskModel.{Sight}
use Rattle.pec_input.specs.Directory.{directory_in}
use Rattle.pec_input.specs.Opening.{parts_left}
use Rattle.pec_input.specs.Parts.{Parts}
use Rattle.pec_input.specs.declared.opening.TheConstants.{LONGEST_DIRECTORY}
use Rattle.pec_ledger.specs.Network.{Site, interrupted_at, journal_at}
use Rattle.pec_ledger.specs.Trade.{Trade}
use Rattle.pec_records.specs.declared.entries.Entry.{Entry}
use Rattle.pec_serving.specs.OfNetworks.{Luck}
use Rattle.pec_seal.specs.Seals.{Seals}
use Rattle.pec_serving.specs.OfNetworks.{AllAt, AllStand, ChronicleState, IsOfDirectory, NetworkState, ProviderState, count_or, state_in}
use Rattle.pec_screen.specs.Verdicts.{Patterns}
use Rattle.pec_serving.specs.OfNetworks.{Stands, sites}
use Rattle.pec_runs.specs.Endings.{End, end_text}
use Rattle.pec_runs.specs.Happened.{Asked, Begun, Halted, Happened, IsSetting, Over, Setting, by_form, by_next}
use Rattle.pec_runs.specs.Happened.{providers_in, stage_of, trade_in}
use Rattle.pec_runs.specs.Openings.{AreLeft, AreUntouched, Form, IsOpening, NoMore, Opening, Resume, disks_at}
use Rattle.pec_runs.specs.Openings.{form_in, opened_all}
use Rattle.pec_runs.specs.Plays.{Rest}
use Rattle.pec_runs.specs.Plays as plays
use Rattle.pec_runs.specs.Ran.{Blames, Counts, IsInput, LeavesOff, NoneFell, PlaysOn, Tells, TellsAs, WritesAt, command_in_hand, world}
use Rattle.pec_runs.specs.Reading.{AreLinesLeft, IsRead}
use Rattle.pec_runs.specs.ScriptLines.{Hands, Script, script_of}
use Rattle.pec_runs.specs.Statuses.{Status}
use Rattle.pec_runs.specs.Steps.{AreCounted, AreSeen, Point}
use Rattle.pec_runs.specs.Moments.{AllStandIn}
use Rattle.pec_runs.specs.Through.{AreHadFrom, DisksWent, PlaysThrough, RanThrough, disks_in}
use Rattle.pec_top.specs.Blaming.{BlamesDevices, BlamesDisks}
use Rattle.pec_top.specs.Running.{RanSoOver, disk_counts, parts_behind}
use Rattle.pec_top.specs.Scripts.{at_first}
use Rattle.pec_top.specs.Shown.{result_shown}
use Rattle.pec_top.specs.declared.ending.End.{End as Last}
use Rattle.pec_top.specs.declared.ending.Stop.{Stop}
use Rattle.pec_top.proofs.RunningLemmas.{no_hands, parts_there, ran_begun, ran_halted, ran_over, ran_whole, stage_read}
use Rattle.pec_top.proofs.TopLemmas.{blames_result}
use Rattle.pec_top.proofs.WholeLemmas.{at_home, ran_script, site_is}

over_not : (end : End) (form : Form) (script : Script) → Over end ≡ Begun form script → ⊥
over_not end form script e = cc

halted_not : (form : Form) (script : Script) → Halted ≡ Begun form script → ⊥
halted_not form script e = cc

one_form : (a b : Form) (x y : Script) → Begun a x ≡ Begun b y → a ≡ b
one_form a b x y e = cc

one_script : (a b : Form) (x y : Script) → Begun a x ≡ Begun b y → x ≡ y
one_script a b x y e = cc

module _ {D : Type 0} (tells : Type 0) (sight : D → Sight) (faults : D → ℕ) (home left : ℕ → Option D) (from upto : ℕ → ℕ)
    (before after : Option Bytes) (asked : Asked) (happened : Happened) where
  -- It doesn't begin, and nothing is written on a disk.
  pub went_unasked : ((form : Form) (script : Script) → stage_of asked happened.hands happened.early happened.parts ≡ Begun form script → ⊥)
      → AreHadFrom sight tells Resume (world happened) home left → DisksWent tells sight faults home left from upto before after asked happened
  went_unasked none had = record {
    unasked = λ same. had;
    stopped = λ form script begun some. absurd (none form script begun);
    played = λ form script begun all. absurd (none form script begun);
  }

  module _ (form : Form) (script : Script) (begun : stage_of asked happened.hands happened.early happened.parts ≡ Begun form script) where
    -- Not all journals are had.
    pub went_stopped : (happened.opening.next ≡ NoMore → ⊥) → AreHadFrom sight tells form (world happened) home left
        → DisksWent tells sight faults home left from upto before after asked happened
    went_stopped some had = record {
      unasked = λ none. absurd (none form script begun);
      stopped = λ way written is more.
          subst (λ (f : Form). AreHadFrom sight tells f (world happened) home left)
          (one_form form way script written (sym begun ∙ is)) had;
      played = λ way written is all. absurd (some all);
    }

    -- All are had, and the script is played.
    pub went_played : happened.opening.next ≡ NoMore → PlaysThrough tells sight faults home left from upto before after happened form script
        → DisksWent tells sight faults home left from upto before after asked happened
    went_played all plays = record {
      unasked = λ none. absurd (none form script begun);
      stopped = λ way written is some. absurd (some all);
      played = λ way written is more.
          subst (λ (s : Script). PlaysThrough tells sight faults home left from upto before after happened way s)
          (one_script form way script written (sym begun ∙ is))
          (subst (λ (f : Form). PlaysThrough tells sight faults home left from upto before after happened f script)
          (one_form form way script written (sym begun ∙ is)) plays);
    }

-- ---- runs without a script

module _ {D : Type 0} (asked : Asked) (unread before after : Option Bytes) (tells : Type 0) (sight : D → Sight) (faults : D → ℕ)
    (home left : ℕ → Option D) (from upto : ℕ → ℕ)
    (untouched_ : AreUntouched (disks_at tells sight home) (disks_at tells sight left))
    (had : (trade : Trade) → AreHadFrom sight tells Resume trade home left) where
  -- It is over.
  pub over_through : (parts : Parts) (early : Bool) (end : End) (status : Status)
      → stage_of asked no_hands early parts ≡ Over end → IsInput unread parts
      → TellsAs status before after (end_text [] end) (plays.Ends end)
      → RanSoOver tells sight faults asked status unread before after home left from upto
  unfolding ran_over
  over_through parts early end status stage input told =
      let so = ran_over asked unread before after tells (disks_at tells sight home) (disks_at tells sight left) from upto
      untouched_ parts early end status stage input told in
      record {
        so = so;
        through = went_unasked tells sight faults home left from upto before after asked so.happened
            (λ form script begun. over_not end form script (sym stage ∙ begun)) (had (world so.happened));
      }

  -- It was halted before a disk was asked for, and nothing was written.
  pub halted_through : (form : Form) (status : Status) → form_in asked.words ≡ Some form
      → TellsAs status before after [] plays.Stops
      → RanSoOver tells sight faults asked status unread before after home left from upto
  unfolding ran_halted stage_of
  halted_through form status is told =
      let so = ran_halted asked unread before after tells (disks_at tells sight home) (disks_at tells sight left) from upto
      untouched_ form status is told in
      record {
        so = so;
        through = went_unasked tells sight faults home left from upto before after asked so.happened
            (λ way script begun. halted_not way script
            (sym (ap (by_form no_hands true (parts_there unread).0) is) ∙ begun))
            (had (world so.happened));
      }

-- ---- a run that begins

module _ (asked : Asked) (form : Form) (is : form_in asked.words ≡ Some form) (bytes : Bytes)
    (short : length bytes ≤ LONGEST_DIRECTORY) (setting : Setting)
    (reads : directory_in bytes ≡ Ok (providers_in setting)) (is_setting : IsSetting (providers_in setting) setting)
    {D : Type 0} (tells : Type 0) (sight : D → Sight) (faults : D → ℕ) (home left : ℕ → Option D) (from upto : ℕ → ℕ) where
  abbrev script_had : Hands → List Bytes → Script
  script_had hands lines = script_of hands (providers_in setting) 1 lines

  pub begun_had : (hands : Hands) (lines : List Bytes)
      → stage_of asked hands false (record { directory = bytes; script = Some lines })
      ≡ Begun form (script_had hands lines)
  begun_had hands lines = stage_read asked hands form (record { directory = bytes; script = Some lines }) is short lines refl
      (Ok (providers_in setting)) reads

  -- Not all journals are had.
  pub stopped_through : (hands : Hands) (lines : List Bytes) (opening : Opening) (lucks : List Luck) (rest : Rest)
      (status : Status) (unread behind before after : Option Bytes) (stands : List Site) → parts_left unread ≡ parts_behind bytes behind
      → AreLinesLeft behind lines → IsOpening (trade_in setting) (disks_at tells sight home) form opening
      → WritesAt status opening.next
      → PlaysOn tells (disks_at tells sight home) (disks_at tells sight left) (disk_counts from) (disk_counts upto)
      (record {
        parts = record { directory = bytes; script = Some lines };
        early = false;
        setting = setting;
        screens = asked.screens;
        spares = asked.spares;
        hands = hands;
        opening = opening;
        lucks = lucks;
        rest = rest;
      }) (script_had hands lines) opening.next
      → LeavesOff (trade_in setting)
      (by_next (trade_in setting) asked.screens opening lucks rest (script_had hands lines) opening.next).after
      (command_in_hand status opening.next rest lucks (script_had hands lines)) stands
      → AreLeft (disks_at tells sight home) (disks_at tells sight left) form opening stands
      → Tells (providers_in setting) status before after
      (by_next (trade_in setting) asked.screens opening lucks rest (script_had hands lines) opening.next)
      → (opening.next ≡ NoMore → ⊥) → AreHadFrom sight tells form (trade_in setting) home left
      → RanSoOver tells sight faults asked status unread before after home left from upto
  unfolding ran_begun
  stopped_through hands lines opening lucks rest status unread behind before after stands input lines_left opens writes plays_on
      leaves disks told some had =
      let so = ran_begun asked form is bytes short setting reads is_setting hands lines opening lucks rest status unread behind
      before after tells (disks_at tells sight home) (disks_at tells sight left) from upto stands input lines_left opens writes
      plays_on leaves disks told in
      record {
        so = so;
        through = went_stopped tells sight faults home left from upto before after asked so.happened form (script_had hands lines) (begun_had hands lines)
            some had;
      }

  -- All are had, and the script is played from one point to another.
  unfoldable pub script_through : (journals : List (List Entry)) (status : Status) (unread behind : Option Bytes)
      (point there : Point D) → point.state.sites ≡ opened_all (trade_in setting) asked.screens journals
      → point.state.spares ≡ asked.spares
      → ((k : ℕ) → from k ≤ point.state.counts k) → ((k : ℕ) → there.state.counts k ≤ upto k)
      → parts_left unread ≡ parts_behind bytes behind
      → IsOpening (trade_in setting) (disks_at tells sight home) form (record { journals = journals; next = NoMore })
      → IsRead (trade_in setting) (providers_in setting) tells sight faults (at_first point behind) there status
      → ((stands : List Site) → (tells → stands ≡ there.state.sites)
      → AreLeft (disks_at tells sight home) (disks_at tells sight left) form
      (record { journals = journals; next = NoMore }) stands)
      → AreSeen point.state → AreCounted faults point.state → (tells → AllStandIn sight point.state)
      → AreHadFrom sight tells form (trade_in setting) home (disks_in point.state)
      → (tells → (provider : ℕ) → provider < (trade_in setting).providers
      → (one : ChronicleState D) × (there.state.chronicles provider ≡ Some one) × (left provider ≡ Some one.disk))
      → (tells → (provider : ℕ) → (trade_in setting).providers ≤ provider → left provider ≡ home provider)
      → RanSoOver tells sight faults asked status unread point.held there.held home left from upto
  unfolding ran_script ran_begun
  script_through journals status unread behind point there begins spares since later input opens read leaves seen counted stand had kept elsewhere =
      let so = ran_script asked form is bytes short setting reads is_setting journals status unread behind tells sight faults
      (disks_at tells sight home) (disks_at tells sight left) from upto point there begins spares since later input opens read
      leaves in
      let played = read.played in
      record {
        so = so;
        through = went_played tells sight faults home left from upto point.held there.held asked so.happened form (script_had read.hands read.lines)
            (begun_had read.hands read.lines) refl
            (record {
              goes = record {
                first = point.state;
                steps = played.steps;
                last = there.state;
                begins = begins;
                seen = seen;
                stand = stand;
                had = had;
                sooner = since;
                begun = counted;
                counted = played.counted counted;
                each = played.each;
                moments = played.moments;
                later = λ k. let a = played.since k in let b = later k in omega (arith, a, b);
                kept = kept;
                elsewhere = elsewhere;
              };
              lucks = refl;
              unplayed = played.unplayed;
              acts = played.acts_are;
              written = played.written;
            });
      }

-- ---- the whole run

unfoldable pub whole_through : {D : Type 0} (asked : Asked) (status : Status) (unread before after : Option Bytes) (tells : Type 0)
    (sight : D → Sight) (faults : D → ℕ) (home left : ℕ → Option D) (old new : Counts) → Blames status old new → NoneFell old new
    → RanSoOver tells sight faults asked status unread before after home left old.disks new.disks
    → RanThrough tells sight faults asked status unread before after home left old new
unfolding ran_whole
whole_through asked status unread before after tells sight faults home left old new blames fell ran = record {
  ran = ran_whole asked status unread before after tells (disks_at tells sight home) (disks_at tells sight left) old new
      blames fell ran.so;
  through = ran.through;
}

-- the same of a result
unfoldable pub counted_through : {D : Type 0} (result : Result Last Stop) (asked : Asked) (unread before after : Option Bytes)
    (tells : Type 0) (sight : D → Sight) (faults : D → ℕ) (home left : ℕ → Option D) (old new : Counts)
    → BlamesDevices result old.source new.source old.sink new.sink
    → BlamesDisks result old.depot new.depot old.disks new.disks → old.depot ≤ new.depot
    → ((provider : ℕ) → old.disks provider ≤ new.disks provider)
    → RanSoOver tells sight faults asked (result_shown result) unread before after home left old.disks new.disks
    → RanThrough tells sight faults asked (result_shown result) unread before after home left old new
counted_through result asked unread before after tells sight faults home left old new devices disks depot last ran =
    whole_through asked (result_shown result) unread before after tells sight faults home left old new
    (blames_result result old new devices disks)
    (record { source = devices.1.1.0; sink = devices.1.1.1; depot = depot; disks = last }) ran

-- ---- a network between commands

-- the provider of a number whose entries these are
one_at : {D : Type 0} (found : Option (ProviderState D)) (one : ChronicleState D)
    → option_map (λ (p : ProviderState D). p.chronicle) found ≡ Some one
    → (x : ProviderState D) × (found ≡ Some x) × (x.chronicle ≡ one)
one_at None one e = absurd (none-some one e)
one_at (Some x) one e = (x, refl, same_Some x.chronicle one e)

module _ {D S : Type 0} {seals : Seals} (home_tells reads : Type 0) (sight : D → Sight) (network : NetworkState D S)
    (whole : IsOfDirectory network.kept seals network.providers network.waiting) where
  -- what is kept of its providers is what the ledger sees
  pub all_seen : (k : ℕ) (one : ChronicleState D)
      → option_map (λ (p : ProviderState D). p.chronicle) (slice_get network.providers k) ≡ Some one
      → (journal_at (sites network) k ≡ one.entries) × (interrupted_at (sites network) k ≡ one.interrupted)
  all_seen k one e =
      let x = one_at (slice_get network.providers k) one e in
      let within = slice_get_within network.providers k x.0 x.1 in
      let same = get_or_from_slice_get network.providers k x.0 x.0 x.1 in
      let site = site_is network.providers network.screens network.waiting k x.0 within (whole.links ∙ sym whole.count) in (
        ap (λ (s : Site). s.journal) site
            ∙ (ap (λ (p : ProviderState D). p.chronicle.entries) same
            ∙ ap (λ (c : ChronicleState D). c.entries) x.2),
        ap (λ (s : Site). s.interrupted) site
            ∙ (ap (λ (p : ProviderState D). p.chronicle.interrupted) same
            ∙ ap (λ (c : ChronicleState D). c.interrupted) x.2),
      )

  -- and stands on their disks
  pub all_stand : AllStand sight network.providers → (k : ℕ) (one : ChronicleState D)
      → option_map (λ (p : ProviderState D). p.chronicle) (slice_get network.providers k) ≡ Some one → Stands sight one
  all_stand stands k one e =
      let x = one_at (slice_get network.providers k) one e in
      subst (λ (c : ChronicleState D). Stands sight c) x.2
      (subst (λ (p : ProviderState D). Stands sight p.chronicle)
      (get_or_from_slice_get network.providers k x.0 x.0 x.1)
      (stands k x.0 (slice_get_within network.providers k x.0 x.1)))

  -- and its counts of faults are those of their disks
  pub all_counted : (count : D → ℕ) (elsewhere : ℕ → ℕ) (spares : List Patterns)
      → AreCounted count (state_in count elsewhere spares network)
  all_counted count elsewhere spares k one e =
      let x = one_at (slice_get network.providers k) one e in
      ap (λ (o : Option (ProviderState D)). count_or count (elsewhere k) o) x.1
      ∙ ap (λ (c : ChronicleState D). count c.disk) x.2

  -- the disks of its providers are put back
  pub all_kept : (mid new : ℕ → Option D)
      → (home_tells → AllAt (λ (p : ProviderState D). Some p.chronicle.disk) mid new network.providers) → home_tells
      → (k : ℕ) → k < length network.kept
      → (one : ChronicleState D)
      × (option_map (λ (p : ProviderState D). p.chronicle) (slice_get network.providers k) ≡ Some one)
      × (new k ≡ Some one.disk)
  all_kept mid new kept told k within =
      let x = at_home home_tells reads sight network whole mid new kept told k within in (
        x.0.chronicle,
        ap (λ (o : Option (ProviderState D)). option_map (λ (p : ProviderState D). p.chronicle) o)
            (slice_get-get_or network.providers k x.0 x.1.1.1
            ∙ ap (λ (p : ProviderState D). Some p) x.1.1.0),
        x.1.0,
      )
