-- What is told of a network that wasn't looked at, and of one that was, behind a script.
use Rattle.std.proofs.Common.{◌≡◌, ◌≢◌, ℕ, ◌<◌, ◌≤◌, List, length, Option, Some, None, Ok, ap, sym, subst, ◌∙◌}
use Rattle.std.proofs.lemmas.Option.{none-some}
use Rattle.pec_types.specs.Bytes.{Bytes}
use Rattle.pec_outside.specs.DiskModel.{Sight}
use Rattle.pec_input.specs.Directory.{directory_in}
use Rattle.pec_input.specs.Opening.{parts_left}
use Rattle.pec_input.specs.declared.opening.TheConstants.{LONGEST_DIRECTORY}
use Rattle.pec_records.specs.declared.entries.Entry.{Entry}
use Rattle.pec_ledger.specs.Network.{Site}
use Rattle.pec_ledger.specs.Trade.{Trade}
use Rattle.pec_serving.specs.OfNetworks.{Luck}
use Rattle.pec_runs.specs.Happened.{Asked, IsSetting, Setting, outcome_of, providers_in, trade_in}
use Rattle.pec_runs.specs.Openings.{AreLeft, Form, IsOpening, NoMore, Opening, disks_at, form_in, opened_all}
use Rattle.pec_runs.specs.Plays.{Outcome, Rest, Strayed, Strays, finish_of, outcome_from}
use Rattle.pec_runs.specs.Ran.{Behind, LeavesOff, Within, command_in_hand, world}
use Rattle.pec_runs.specs.Reading.{IsRead}
use Rattle.pec_runs.specs.ScriptLines.{Script, script_of}
use Rattle.pec_runs.specs.Statuses.{Status}
use Rattle.pec_runs.specs.Moments.{AllStandIn}
use Rattle.pec_runs.specs.Steps.{AreCounted, AreSeen, Point, lucks_in}
use Rattle.pec_runs.specs.Through.{AreHadFrom, disks_in}
use Rattle.pec_serving.specs.OfNetworks.{ChronicleState}
use Rattle.pec_top.specs.Reporting.{RanReporting, Reports}
use Rattle.pec_top.specs.Running.{RanSoOver, parts_behind}
use Rattle.pec_top.specs.Scripts.{at_first}
use Rattle.pec_top.specs.declared.reporting.Report.{Report}
use Rattle.pec_top.specs.declared.reporting.Report.TheVariants as reports
use Rattle.pec_top.proofs.RunningLemmas.{outcome_so, ran_begun}
use Rattle.pec_top.proofs.ThroughLemmas.{script_through}
use Rattle.pec_top.proofs.WholeLemmas.{ran_script}

-- what stands as it was
pub unlooked : (report : Report) (trade : Trade) (sites : List Site) → Reports report report trade sites
unlooked reports.Unasked trade sites = tt
unlooked reports.Asked trade sites = tt
unlooked (reports.Told summary alfa beta) trade sites = tt
unlooked reports.Untold trade sites = tt

-- what was asked stands as it was
pub unreported : {D : Type 0} (tells : Type 0) (sight : D → Sight) (faults : D → ℕ) (asked : Asked) (status : Status)
    (unread before after : Option Bytes) (home left : ℕ → Option D) (from upto : ℕ → ℕ) (report : Report)
    → RanSoOver tells sight faults asked status unread before after home left from upto
    → RanReporting tells sight faults asked status unread before after home left from upto report report
unreported tells sight faults asked status unread before after home left from upto report ran = record {
  ran = ran;
  reported = λ done on. unlooked report (world ran.so.happened) (outcome_of asked ran.so.happened).after;
}

-- a run that doesn't stray has no rest that does
on_its_way : (lucks : List Luck) (rest : Rest) (script : Script) → (finish_of rest lucks script ≢ Strays) → rest ≢ Strayed
on_its_way lucks rest script on e = on (ap (λ (r : Rest). finish_of r lucks script) e)

-- with no command in hand the journals that are left are those behind the last answer
left_off : (trade : Trade) (after left : List Site) → LeavesOff trade after None left → left ≡ after
left_off trade after left (Behind is) = is
left_off trade after left (Within command luck some journals interrupted) = absurd (none-some command some)

-- A script was played, and what was told is told of the state behind it.
pub script_told : {D : Type 0} (asked : Asked) (form : Form) (is : form_in asked.words ≡ Some form) (bytes : Bytes)
    (short : length bytes ≤ LONGEST_DIRECTORY) (setting : Setting)
    (reads : directory_in bytes ≡ Ok (providers_in setting)) (is_setting : IsSetting (providers_in setting) setting)
    (tells : Type 0) (sight : D → Sight) (faults : D → ℕ) (home left : ℕ → Option D) (from upto : ℕ → ℕ) (journals : List (List Entry))
    (status : Status) (unread behind : Option Bytes) (point there : Point D)
    (begins : point.state.sites ≡ opened_all (trade_in setting) asked.screens journals)
    (spares : point.state.spares ≡ asked.spares)
    (since : (k : ℕ) → from k ≤ point.state.counts k) (later : (k : ℕ) → there.state.counts k ≤ upto k)
    (input : parts_left unread ≡ parts_behind bytes behind)
    (opens : IsOpening (trade_in setting) (disks_at tells sight home) form (record { journals = journals; next = NoMore }))
    (read : IsRead (trade_in setting) (providers_in setting) tells sight faults (at_first point behind) there status)
    (leaves : (stands : List Site) → (tells → stands ≡ there.state.sites)
    → AreLeft (disks_at tells sight home) (disks_at tells sight left) form
    (record { journals = journals; next = NoMore }) stands)
    (seen : AreSeen point.state) (counted : AreCounted faults point.state) (stand : tells → AllStandIn sight point.state)
    (had : AreHadFrom sight tells form (trade_in setting) home (disks_in point.state))
    (kept : tells → (provider : ℕ) → provider < (trade_in setting).providers
    → (one : ChronicleState D) × (there.state.chronicles provider ≡ Some one) × (left provider ≡ Some one.disk))
    (elsewhere : tells → (provider : ℕ) → (trade_in setting).providers ≤ provider → left provider ≡ home provider)
    (report told : Report) → Reports report told (trade_in setting) there.state.sites
    → RanReporting tells sight faults asked status unread point.held there.held home left from upto report told
unfolding script_through ran_script ran_begun
script_told asked form is bytes short setting reads is_setting tells sight faults home left from upto journals status unread behind
    point there begins spares since later input opens read leaves seen counted stand had kept elsewhere report told says = record {
      ran = script_through asked form is bytes short setting reads is_setting tells sight faults home left from upto journals status
          unread behind point there begins spares since later input opens read leaves seen counted stand had kept elsewhere;
      reported = λ done on.
          let trade = trade_in setting
          in let played = read.played
          in let lucks = lucks_in played.steps
          in let script = script_of read.hands (providers_in setting) 1 read.lines
          in let after = (outcome_from trade lucks played.rest (opened_all trade asked.screens journals) script).after
          in let opening : Opening = record { journals = journals; next = NoMore }
          in let comes = outcome_so asked form is bytes short setting reads is_setting read.hands read.lines opening lucks
          played.rest
          in let stays = played.stays (on_its_way lucks played.rest script
          (λ e. on (ap (λ (o : Outcome). o.finish) comes ∙ e)))
          in let in_hand = command_in_hand status NoMore played.rest lucks script
          in let leaves_off = subst (λ (s : List Site). LeavesOff trade (outcome_from trade lucks played.rest s script).after
          in_hand played.left) begins played.leaves_off
          in let off = left_off trade after played.left (subst (λ (s : Status). LeavesOff trade after
          (command_in_hand s NoMore played.rest lucks script) played.left) done leaves_off)
          in subst (λ (s : List Site). Reports report told trade s)
          (sym stays ∙ (off ∙ sym (ap (λ (o : Outcome). o.after) comes))) says;
    }
