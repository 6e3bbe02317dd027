-- Two settings of the same providers have one world, and two runs without faults in them write alike.
use Rattle.std.proofs.Common.{◌≡◌, ◌∙◌, ◌⊎◌, inl, inr, Bool, List, [], ◌∷◌, length, get_or, Option, Some, Result, Ok, ap, arith, subst, sym}
use Rattle.std.proofs.lemmas.List.{same_lists}
use Rattle.std.proofs.lemmas.Option.{same_Some, slice_get-get_or}
use Rattle.pec_types.specs.Bytes.{Bytes}
use Rattle.pec_outside.specs.Flow.{followed_by}
use Rattle.pec_directory.specs.Directory.{Kept, Provider, providers_of}
use Rattle.pec_directory.specs.Zones.{AreByRule}
use Rattle.pec_records.specs.declared.entries.Entry.{Entry}
use Rattle.pec_records.specs.declared.entries.Entry.TheVariants as entries
use Rattle.pec_ledger.specs.Network.{Site}
use Rattle.pec_ledger.specs.Trade.{Trade}
use Rattle.pec_plays.specs.Possible.{quiet_lucks}
use Rattle.pec_screen.specs.Verdicts.{Patterns}
use Rattle.pec_seal.specs.Seals.{Seals}
use Rattle.pec_trade.specs.TradeOf.{trade_of}
use Rattle.pec_input.specs.Directory.{Refusal, directory_in}
use Rattle.pec_input.specs.Parts.{Parts}
use Rattle.pec_runs.specs.Happened.{Asked, Begun, Happened, IsGiven, IsSetting, Setting, by_next, providers_in, stage_of, trade_in}
use Rattle.pec_runs.specs.Openings.{Disks, Form, IsOpening, Next, NoMore, Opening, Run, opened_all}
use Rattle.pec_runs.specs.Plays.{AllHanded, Outcome, ToTheEnd, outcome_text}
use Rattle.pec_runs.specs.Ran.{IsInput, beginning, status_at, world}
use Rattle.pec_runs.specs.ScriptLines.{Script, script_of}
use Rattle.pec_runs.specs.Statuses.{Status}
use Rattle.pec_runs.specs.Statuses as statuses
use Rattle.pec_runs.specs.Transcripts.{TellsTranscript, WroteAlike, transcript, transcript_at}
use Rattle.pec_runs.proofs.HandsLemmas.{same_scripts}
use Rattle.pec_runs.proofs.RunLemmas.{all_there}
use Rattle.pec_runs.proofs.StageLemmas.{HasAll, has_all}

-- ---- one world

-- what the law of worlds says
abbrev pub OneWorld : Type 0
OneWorld = (kept others : List Kept) (seals : Seals) → AreByRule kept → AreByRule others
    → providers_of kept ≡ providers_of others → trade_of kept seals ≡ trade_of others seals

pub one_world : OneWorld → (providers : List Provider) (one other : Setting) → IsSetting providers one
    → IsSetting providers other → trade_in one ≡ trade_in other
one_world law providers one other is is_other =
    ap (trade_of one.kept) (is.seals ∙ sym is_other.seals)
    ∙ law one.kept other.kept other.seals is.zones is_other.zones (is.kept ∙ sym is_other.kept)

-- what the law of settings says
abbrev pub OneSetting : Type 0
OneSetting = (providers : List Provider) (one other : Setting) → IsSetting providers one
    → IsSetting providers other → trade_in one ≡ trade_in other

pub same_world : OneSetting → (one other : Setting) → IsSetting (providers_in one) one
    → IsSetting (providers_in other) other → providers_in other ≡ providers_in one → trade_in other ≡ trade_in one
same_world law one other is is_other same =
    law (providers_in one) other one (subst (λ (providers : List Provider). IsSetting providers other) same is_other) is

-- ---- one transcript

-- what a script comes to in a world, with the journals of an opening, where its commands meet no fault
abbrev quiet_by : Trade → List (List Patterns) → Opening → Script → Outcome
quiet_by trade screens opening script =
    by_next trade screens opening (quiet_lucks trade (opened_all trade screens opening.journals) script.commands) ToTheEnd
    script opening.next

transcript_is : (asked : Asked) (happened : Happened) (form : Form) (script : Script)
    → stage_of asked happened.hands happened.early happened.parts ≡ Begun form script
    → transcript asked happened ≡ quiet_by (world happened) happened.screens happened.opening script
unfolding transcript
transcript_is asked happened form script begun =
    ap (transcript_at happened) (subst (λ (early : Bool). stage_of asked happened.hands early happened.parts ≡ Begun form script)
    (has_all asked happened.hands happened.early happened.parts form script begun).late begun)

module _ (asked others : Asked) (one other : Happened) (form : Form) (script : Script)
    (begun : stage_of asked one.hands one.early one.parts ≡ Begun form script)
    (begun_again : stage_of others other.hands other.early other.parts ≡ Begun form script)
    (providers : providers_in other.setting ≡ providers_in one.setting) (worlds : world other ≡ world one)
    (openings : other.opening ≡ one.opening) (screens : other.screens ≡ one.screens) where
  same_transcript : transcript others other ≡ transcript asked one
  same_transcript =
      transcript_is others other form script begun_again
      ∙ (ap (λ (trade : Trade). quiet_by trade other.screens other.opening script) worlds
      ∙ (ap (λ (opening : Opening). quiet_by (world one) other.screens opening script) openings
      ∙ (ap (λ (boxes : List (List Patterns)). quiet_by (world one) boxes one.opening script) screens
      ∙ sym (transcript_is asked one form script begun))))

  tells_alike : (status again : Status) (before after other_before other_after : Option Bytes)
      → TellsTranscript asked one status before after → TellsTranscript others other again other_before other_after
      → WroteAlike status again before after other_before other_after
  tells_alike status again before after other_before other_after told told_again = record {
    status_is = same_Some again status
        (sym told_again.status_is ∙ (ap (λ (outcome : Outcome). status_at outcome.finish) same_transcript ∙ told.status_is));
    text = outcome_text (providers_in one.setting) (transcript asked one);
    written = told.written;
    again = told_again.written
        ∙ (ap (λ (p : List Provider). followed_by other_before (outcome_text p (transcript others other))) providers
        ∙ ap (λ (outcome : Outcome). followed_by other_before (outcome_text (providers_in one.setting) outcome))
        same_transcript);
  }

  pub wrote_alike : (status again : Status) (before after other_before other_after : Option Bytes)
      → (status ≡ statuses.NoMemory) ⊎ TellsTranscript asked one status before after
      → (again ≡ statuses.NoMemory) ⊎ TellsTranscript others other again other_before other_after
      → (status ≡ statuses.NoMemory) ⊎ (again ≡ statuses.NoMemory)
      ⊎ WroteAlike status again before after other_before other_after
  wrote_alike status again before after other_before other_after (inl lack) said = inl lack
  wrote_alike status again before after other_before other_after (inr told) (inl lack) = inr (inl lack)
  wrote_alike status again before after other_before other_after (inr told) (inr told_again) =
      inr (inr (tells_alike status again before after other_before other_after told told_again))

-- ---- one input

same_ok : (directory : Result (List Provider) Refusal) (one other : List Provider)
    → directory ≡ Ok one → directory ≡ Ok other → other ≡ one
same_ok directory one other e f = cc

-- The providers of two runs of one input are the same.
pub same_providers : (text : Bytes) (one other : Parts) (providers others : List Provider)
    → IsInput (Some text) one → IsInput (Some text) other
    → directory_in one.directory ≡ Ok providers → directory_in other.directory ≡ Ok others → others ≡ providers
same_providers text one other providers others is is_other reads reads_other =
    let same : one ≡ other = is ∙ sym is_other
    in same_ok (directory_in one.directory) providers others reads
    (ap (λ (parts : Parts). directory_in parts.directory) same ∙ reads_other)

same_opening : (one other : Opening) → other.journals ≡ one.journals → other.next ≡ one.next → other ≡ one
same_opening one other journals next =
    ap (λ (js : List (List Entry)). record { journals = js; next = other.next }) journals
    ∙ ap (λ (n : Next). record { journals = one.journals; next = n }) next

-- Journals that were all made, in one world, are the same ones.
pub same_made : (trade others : Trade) → others ≡ trade → (disks found : Disks) (one other : Opening)
    → IsOpening trade disks Run one → IsOpening others found Run other → one.next ≡ NoMore → other.next ≡ NoMore
    → other ≡ one
same_made trade others worlds disks found one other is is_other all all_other =
    same_opening one other
    (same_lists other.journals one.journals
    (all_there others found Run other is_other all_other
    ∙ (ap (λ (t : Trade). t.providers) worlds ∙ sym (all_there trade disks Run one is all)))
    (λ k journal within.
    (is_other.each k (get_or other.journals k journal) (slice_get-get_or other.journals k journal within)).0
    ∙ (ap (λ (t : Trade). entries.StartTwo k t.digest ∷ []) worlds
    ∙ sym (is.each k (get_or one.journals k journal)
    (slice_get-get_or one.journals k journal (omega (arith, within, as_many)))).0)))
    (all_other ∙ sym all)
  where
    as_many : length other.journals ≡ length one.journals
    as_many = all_there others found Run other is_other all_other
        ∙ (ap (λ (t : Trade). t.providers) worlds ∙ sym (all_there trade disks Run one is all))

-- ---- one script

module _ (asked : Asked) (one other : Happened) (script again : Script) (form : Form)
    (begun : stage_of asked one.hands one.early one.parts ≡ Begun form script)
    (begun_again : stage_of asked other.hands other.early other.parts ≡ Begun form again)
    (given : IsGiven asked one) (given_again : IsGiven asked other) (parts : other.parts ≡ one.parts)
    (worlds : world other ≡ world one) (openings : other.opening ≡ one.opening) where
  abbrev first : HasAll asked one.hands one.early one.parts form script
  first = has_all asked one.hands one.early one.parts form script begun

  abbrev second : HasAll asked other.hands other.early other.parts form again
  second = has_all asked other.hands other.early other.parts form again begun_again

  screens_same : other.screens ≡ one.screens
  screens_same = given_again.screens ∙ sym given.screens

  spares_same : other.spares ≡ one.spares
  spares_same = given_again.spares ∙ sym given.spares

  beginnings_same : beginning other ≡ beginning one
  beginnings_same =
      ap (λ (trade : Trade). opened_all trade other.screens other.opening.journals) worlds
      ∙ (ap (λ (screens : List (List Patterns)). opened_all (world one) screens other.opening.journals) screens_same
      ∙ ap (λ (opening : Opening). opened_all (world one) one.screens opening.journals) openings)

  providers_same : second.providers ≡ first.providers
  providers_same =
      same_ok (directory_in one.parts.directory) first.providers second.providers first.directory
      (ap (λ (p : Parts). directory_in p.directory) (sym parts) ∙ second.directory)

  lines_same : second.lines ≡ first.lines
  lines_same =
      same_Some second.lines first.lines
      (sym second.lines_are ∙ (ap (λ (p : Parts). p.script) parts ∙ first.lines_are))

  abbrev IsHanded : Trade → List Patterns → List Site → Script → Type 0
  IsHanded trade spares sites written =
      AllHanded trade (quiet_lucks trade sites written.commands) spares sites written.commands

  -- two runs of one input, each handed the last spare that is left, play one script
  pub scripts_same : IsHanded (world one) one.spares (beginning one) script
      → IsHanded (world other) other.spares (beginning other) again → again ≡ script
  scripts_same handed handed_again =
      let there = subst (λ (sites : List Site). IsHanded (world one) one.spares sites again) beginnings_same
      (subst (λ (spares : List Patterns). IsHanded (world one) spares (beginning other) again) spares_same
      (subst (λ (trade : Trade). IsHanded trade other.spares (beginning other) again) worlds handed_again))
      in let is : again ≡ script_of other.hands first.providers 1 first.lines =
      second.script_is ∙ (ap (λ (p : List Provider). script_of other.hands p 1 second.lines) providers_same
      ∙ ap (λ (l : List Bytes). script_of other.hands first.providers 1 l) lines_same)
      in is ∙ (same_scripts (world one) first.providers one.hands other.hands one.spares (beginning one) 1 first.lines
      (subst (IsHanded (world one) one.spares (beginning one)) first.script_is handed)
      (subst (IsHanded (world one) one.spares (beginning one)) is there)
      ∙ sym first.script_is)

  -- where one of them isn't, its memory ran out
  pub made_alike : (status other_status : Status) (before after other_before other_after : Option Bytes)
      → providers_in other.setting ≡ providers_in one.setting
      → (status ≡ statuses.NoMemory) ⊎ IsHanded (world one) one.spares (beginning one) script
      → (other_status ≡ statuses.NoMemory) ⊎ IsHanded (world other) other.spares (beginning other) again
      → (status ≡ statuses.NoMemory) ⊎ TellsTranscript asked one status before after
      → (other_status ≡ statuses.NoMemory) ⊎ TellsTranscript asked other other_status other_before other_after
      → (status ≡ statuses.NoMemory) ⊎ (other_status ≡ statuses.NoMemory)
      ⊎ WroteAlike status other_status before after other_before other_after
  made_alike status other_status before after other_before other_after same (inl lack) handed_again told told_again =
      inl lack
  made_alike status other_status before after other_before other_after same (inr handed) (inl lack) told told_again =
      inr (inl lack)
  made_alike status other_status before after other_before other_after same (inr handed) (inr handed_again) told
      told_again =
      wrote_alike asked asked one other form script begun
      (begun_again ∙ ap (λ (s : Script). Begun form s) (scripts_same handed handed_again)) same worlds openings
      screens_same status other_status before after other_before other_after told told_again
