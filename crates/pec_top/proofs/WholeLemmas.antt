-- A script that was played over all journals, and the disks behind it: a run.
use Rattle.std.proofs.Common.{◌≡◌, ◌≢◌, ℕ, zero, suc, ◌+◌, ◌<◌, ◌≤◌, List, [], ◌∷◌, refl, ap, sym, subst, ◌∙◌, arith}
use Rattle.std.proofs.Common.{length, get_or, Option, Some, None, Ok}
use Rattle.std.proofs.lemmas.Option.{none-some, same_Some}
use Rattle.pec_screen.specs.Verdicts.{Patterns}
use Rattle.pec_seal.specs.Seals.{Seals}
use Rattle.pec_types.specs.Bytes.{Bytes}
use Rattle.pec_outside.specs.Depots.{Alike}
use Rattle.pec_outside.specs.DiskModel.{Sight}
use Rattle.pec_input.specs.Directory.{directory_in}
use Rattle.pec_input.specs.Opening.{parts_left}
use Rattle.pec_input.specs.declared.opening.TheConstants.{LONGEST_DIRECTORY}
use Rattle.pec_records.specs.declared.entries.Entry.{Entry}
use Rattle.pec_ledger.specs.Network.{Site, site_at}
use Rattle.pec_ledger.specs.Trade.{Trade}
use Rattle.pec_serving.specs.OfNetworks.{AllAt, AllStand, IsOfDirectory, NetworkState, ProviderState, Stands, desk_of, site_of, sites, sites_of}
use Rattle.pec_serving.specs.OfNetworks.{Command, Luck, played}
use Rattle.pec_serving.specs.OfNetworks.{Waiting, behind_first, waiting_for}
use Rattle.pec_runs.specs.Happened.{Asked, IsSetting, Setting, providers_in, trade_in}
use Rattle.pec_runs.specs.Openings.{AreLeft, Disks, Form, IsLeft, IsOpening, IsUntouched, NoMore, disks_at, form_in, opened_all}
use Rattle.pec_runs.specs.Plays.{MayPlay, Rest, RoseAlong, RoseBy, outcome_from}
use Rattle.pec_runs.specs.Ran.{LeavesOff, Tells, command_in_hand}
use Rattle.pec_runs.specs.ScriptLines.{Script, script_of}
use Rattle.pec_runs.specs.Statuses.{Status}
use Rattle.pec_top.specs.Running.{RanSo, parts_behind}
use Rattle.pec_runs.specs.Steps.{Point, lucks_in}
use Rattle.pec_runs.specs.Reading.{IsRead}
use Rattle.pec_top.specs.Scripts.{AreKept, at_first}
use Rattle.pec_top.proofs.HadLemmas.{left_so, screens_of}
use Rattle.pec_top.proofs.RunningLemmas.{ran_begun, untouched_same}

pub there : {X : Type 0} (xs : List X) (k : ℕ) → k < length xs → X
there [] k l = absurd (omega (arith, l))
there (x ∷ xs) k l = x

-- counts that are taken earlier, and later
rose_between : (number earlier from upto later : ℕ) → earlier ≤ from → RoseBy number from upto → upto ≤ later
    → RoseBy number earlier later
rose_between number earlier from upto later first rose second =
    let least = rose.0 in
    (omega arith, λ low. let more : from + number ≤ upto = rose.1 (omega arith) in omega (arith, more, first, second))

-- so it is along a script
rose_along : (trade : Trade) (lucks : List Luck) (sites : List Site) (commands : List Command)
    (earlier from upto later : ℕ → ℕ) → ((k : ℕ) → earlier k ≤ from k) → ((k : ℕ) → upto k ≤ later k)
    → RoseAlong trade lucks sites commands from upto → RoseAlong trade lucks sites commands earlier later
rose_along trade [] sites commands earlier from upto later first second rose =
    λ k. omega (arith, first k, rose k, second k)
rose_along trade (luck ∷ lucks) sites [] earlier from upto later first second rose =
    λ k. omega (arith, first k, rose k, second k)
rose_along trade (luck ∷ lucks) sites (command ∷ commands) earlier from upto later first second rose = (
  rose.0,
  λ k. rose_between _ (earlier k) (from k) (rose.0 k) (rose.0 k) (first k) (rose.1 k) (omega arith),
  rose_along trade lucks (played trade luck sites command).after commands rose.0 rose.0 upto later (λ k. omega arith)
      second rose.2,
)

pub may_between : (tells : Type 0) (trade : Trade) (spares : List Patterns) (sites : List Site) (earlier from upto later : ℕ → ℕ) (script : Script)
    (lucks : List Luck) (rest : Rest) → ((k : ℕ) → earlier k ≤ from k) → ((k : ℕ) → upto k ≤ later k)
    → MayPlay trade tells spares sites from upto script lucks rest
    → MayPlay trade tells spares sites earlier later script lucks rest
may_between tells trade spares sites earlier from upto later script lucks rest first second may = record {
  enough = may.enough;
  meet = may.meet;
  memory = may.memory;
  handed = may.handed;
  counts = rose_along trade lucks sites script.commands earlier from upto later first second may.counts;
  kept = may.kept;
  shown = may.shown;
  unchanged = may.unchanged;
  strays = may.strays;
}

-- ---- disks that are kept again

pub site_is : {D : Type 0} (providers : List (ProviderState D)) (screens : List (List Patterns)) (waiting : List Waiting)
    (number : ℕ) (other : ProviderState D)
    → number < length providers → length waiting ≡ length providers
    → site_at (sites_of providers screens waiting) number
    ≡ site_of (desk_of (get_or providers number other)) (screens_of screens number) (waiting_for waiting number)
site_is [] screens waiting number other l e = absurd (omega (arith, l))
site_is (provider ∷ providers) screens [] number other l e = absurd (omega (arith, e))
site_is (provider ∷ providers) screens (links ∷ waiting) zero other l e = refl
site_is (provider ∷ providers) screens (links ∷ waiting) (suc number) other l e =
    site_is providers (behind_first screens) waiting number other (omega (arith, l)) (omega (arith, e))

module _ {D S : Type 0} {seals : Seals} (home_tells reads : Type 0) (sight : D → Sight) (network : NetworkState D S)
    (whole : IsOfDirectory network.kept seals network.providers network.waiting) (mid new : ℕ → Option D)
    (kept : home_tells → AllAt (λ (p : ProviderState D). Some p.chronicle.disk) mid new network.providers) where
  pub at_home : home_tells → (k : ℕ) → k < length network.kept
      → (x : ProviderState D) × ((new k ≡ Some x.chronicle.disk)
      × ((get_or network.providers k x ≡ x) × (k < length network.providers)))
  at_home told k within =
      let inside : k < length network.providers = omega (arith, whole.count, within)
      in let other = there network.providers k inside
      in let x = get_or network.providers k other
      in (x, ((kept told).here k other inside, (ap_same network.providers k other x inside, inside)))
    where
      ap_same : {X : Type 0} (xs : List X) (k : ℕ) (d e : X) → k < length xs → get_or xs k e ≡ get_or xs k d
      ap_same [] k d e l = absurd (omega (arith, l))
      ap_same (x ∷ xs) zero d e l = refl
      ap_same (x ∷ xs) (suc k) d e l = ap_same xs k d e (omega (arith, l))

  pub none_gone : home_tells → (k : ℕ) → k < length network.kept → new k ≢ None
  none_gone told k within none =
      let x = at_home told k within
      in none-some x.0.chronicle.disk (sym none ∙ x.1.0)

  pub all_kept_so : (old : ℕ → Option D) → (home_tells × reads → AllStand sight network.providers)
      → (home_tells → Alike old mid) → AreKept (home_tells × reads) sight (length network.kept) (sites network) old
      new
  all_kept_so old stands alike = record {
    here = λ told k within.
        let x = at_home told.0 k within
        in let site = site_is network.providers network.screens network.waiting k x.0 x.1.1.1
        (whole.links ∙ sym whole.count)
        in let same = x.1.1.0
        in (
          x.0.chronicle.disk,
          x.1.0,
          λ bytes leaves. left_so sight (sites network) k x.0.chronicle
              (ap (λ (s : Site). s.journal) site ∙ ap (λ (p : ProviderState D). p.chronicle.entries) same)
              (ap (λ (s : Site). s.interrupted) site ∙ ap (λ (p : ProviderState D). p.chronicle.interrupted) same)
              (subst (λ (p : ProviderState D). Stands sight p.chronicle) same (stands told k x.0 x.1.1.1)) bytes
              leaves,
        );
    elsewhere = λ told k past.
        (kept told.0).elsewhere k (omega (arith, whole.count, past)) ∙ alike told.0 k;
  }

-- ---- the run

module _ {D : Type 0} (tells : Type 0) (sight : D → Sight)
    (reads_so : tells → (disk : D) → (sight disk).may_leave (sight disk).seen) (form : Form)
    (journals : List (List Entry)) (count : ℕ) (size : length journals ≡ count) (state left : List Site)
    (same : tells → left ≡ state) (old mid new : ℕ → Option D)
    (apart : tells → (k : ℕ) → count ≤ k → mid k ≡ old k) (kept : AreKept tells sight count state mid new) where
  left_at : (k : ℕ) → k < count → tells → (disk : D) → new k ≡ Some disk → (bytes : Bytes)
      → (sight disk).may_leave bytes → IsLeft left k bytes
  left_at k within told disk is bytes leaves =
      let x = kept.here told k within
      in let one : x.0 ≡ disk = same_Some x.0 disk (sym x.1 ∙ is)
      in subst (λ (s : List Site). IsLeft s k bytes) (sym (same told))
      (x.2 bytes (subst (λ (d : D). (sight d).may_leave bytes) (sym one) leaves))

  untouched_at : (k : ℕ) → count ≤ k → (was : Bytes) → (disks_at tells sight old).reads k was
      → IsUntouched (disks_at tells sight old) (disks_at tells sight new) k was
  untouched_at k past was before =
      untouched_same tells sight old new k was before (λ told. kept.elsewhere told.0 k past ∙ apart told.0 k past)

  pub left_whole : AreLeft (disks_at tells sight old) (disks_at tells sight new) form
      (record { journals = journals; next = NoMore }) left
  left_whole = record {
    reads = λ k within bytes read.
        subst (IsLeft left k) read.1.2
        (left_at k (omega (arith, size, within)) read.0 read.1.0 read.1.1 (sight read.1.0).seen
        (reads_so read.0 read.1.0));
    crash = λ k within bytes leaves.
        left_at k (omega (arith, size, within)) leaves.0 leaves.1.0 leaves.1.1 bytes leaves.1.2;
    next = λ was before spared. untouched_at (length journals) (omega (arith, size)) was before;
    others = λ k far was before. untouched_at k (omega (arith, size, far)) was before;
  }

unfoldable pub ran_script : {D : Type 0} (asked : Asked) (form : Form) → form_in asked.words ≡ Some form → (bytes : Bytes)
    → length bytes ≤ LONGEST_DIRECTORY
    → (setting : Setting) → directory_in bytes ≡ Ok (providers_in setting)
    → IsSetting (providers_in setting) setting
    → (journals : List (List Entry)) (status : Status) (unread behind : Option Bytes) (tells : Type 0)
    (sight : D → Sight) (faults : D → ℕ) (old new : Disks) (from upto : ℕ → ℕ) (point there : Point D)
    → point.state.sites ≡ opened_all (trade_in setting) asked.screens journals → point.state.spares ≡ asked.spares
    → ((k : ℕ) → from k ≤ point.state.counts k)
    → ((k : ℕ) → there.state.counts k ≤ upto k) → parts_left unread ≡ parts_behind bytes behind
    → IsOpening (trade_in setting) old form (record { journals = journals; next = NoMore })
    → IsRead (trade_in setting) (providers_in setting) tells sight faults (at_first point behind) there status
    → ((left : List Site) → (tells → left ≡ there.state.sites)
    → AreLeft old new form (record { journals = journals; next = NoMore }) left)
    → RanSo asked status unread point.held there.held tells old new from upto
ran_script asked form is bytes short setting reads is_setting journals status unread behind tells sight faults old new from
    upto point
    there begins spares since later input opens read leaves =
    let trade = trade_in setting
    in let providers = providers_in setting
    in let played = read.played
    in let lucks = lucks_in played.steps
    in let script = script_of read.hands providers 1 read.lines
    in ran_begun asked form is bytes short setting reads is_setting read.hands read.lines
    (record { journals = journals; next = NoMore }) lucks played.rest status unread behind point.held there.held tells
    old new from upto played.left input read.left opens (λ failed. tt)
    (subst (λ (s : List Site). MayPlay trade tells asked.spares s from upto script lucks played.rest) begins
    (subst (λ (p : List Patterns). MayPlay trade tells p point.state.sites from upto script lucks played.rest) spares
    (may_between tells trade point.state.spares point.state.sites from point.state.counts there.state.counts upto script
    lucks played.rest since later played.may)))
    (subst (λ (s : List Site). LeavesOff trade (outcome_from trade lucks played.rest s script).after
    (command_in_hand status NoMore played.rest lucks script) played.left) begins played.leaves_off)
    (leaves played.left played.is_left)
    (subst (λ (s : List Site). Tells providers status point.held there.held (outcome_from trade lucks played.rest s
    script))
    begins played.told)
