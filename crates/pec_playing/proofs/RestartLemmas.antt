-- A crash, and a restart: over a disk that doesn't tell what it holds, it is told by the state that a restart came to
-- whether it was played.
use Rattle.std.proofs.Common.{◌≡◌, ◌⊎◌, inl, inr, ℕ, ◌<◌, true, false, List, length, refl, ap, sym, ◌∙◌, Global, Vec}
use Rattle.std.proofs.Common.{Bool, Result, Ok, Err}
use Rattle.std.specs.Prelude.{IfErr, IfOk, IsErr, IsErrOf, OnOk}
use Rattle.std.proofs.lemmas.Bool.{cases_eq}
use Rattle.pec_outside.specs.DiskModel.{Sight}
use Rattle.pec_types.specs.Bytes.{Bytes}
use Rattle.pec_types.specs.declared.faults.NoMemory.{NoMemory}
use Rattle.pec_types.specs.declared.turns.ProviderFault.TheVariants as faults
use Rattle.pec_directory.specs.Directory.{Provider, providers_of}
use Rattle.pec_ledger.specs.Network.{Site, is_up, site_at}
use Rattle.pec_ledger.specs.Trade.{Trade}
use Rattle.pec_plays.specs.Commands.{Answer, Crash, Crashed, IsUp, Luck, Played, Refuses, Restart, Restarted, answers}
use Rattle.pec_plays.specs.Commands.{played, restarted_site, with_site}
use Rattle.pec_network.specs.Carrying.{AllStand}
use Rattle.pec_network.specs.OfProviders.{luck_of}
use Rattle.pec_network.specs.Changing.{HasRisenAt, StandsAt}
use Rattle.pec_network.specs.Network.{NetworkState, sites}
use Rattle.pec_network.specs.Restarting.{IsFit, IsNotRestarted, IsRestarted, luck_told}
use Rattle.pec_network.specs.declared.faults.RestartFault.{RestartFault}
use Rattle.pec_network.specs.declared.faults.RestartFault.TheVariants as restart_faults
use Rattle.pec_script.specs.Texts as texts
use Rattle.pec_script.specs.declared.answers.Answer.TheVariants as lines
use Rattle.pec_runs.specs.AnswerLines.{answer_text}
use Rattle.pec_runs.specs.Plays.{HasMemory, RoseBy, faults_by}
use Rattle.pec_runs.specs.Ran.{Behind}
use Rattle.pec_playing.specs.Doing.{Does, Keeps, Strange}
use Rattle.pec_playing.specs.Playing.{counts_in}
use Rattle.pec_playing.specs.Saying.{IsRestartText}
use Rattle.pec_playing.proofs.ChangeLemmas.{crash_unchanged, restart_unchanged}
use Rattle.pec_playing.proofs.CountLemmas.{counts_of_refusal, counts_stay}
use Rattle.pec_playing.proofs.PlayLemmas.{GaveBack, does_say, does_stop, left_so, none_read, played_so}
use Rattle.pec_playing.proofs.SameLemmas.{CausesFound, Told, sites_told}

-- ---- lines

restarted_line : (providers : List Provider) (entries : ℕ)
    → answer_text providers (Restarted entries) ≡ texts.answer_text (lines.Restarted entries)
unfolding answer_text
restarted_line providers entries = refl

up_line : (providers : List Provider) → answer_text providers IsUp ≡ texts.answer_text lines.Up
unfolding answer_text
up_line providers = refl

crashed_line : (providers : List Provider) → answer_text providers Crashed ≡ texts.answer_text lines.Crashed
unfolding answer_text
crashed_line providers = refl

fault_line : (providers : List Provider)
    → answer_text providers (Refuses faults.DiskFault) ≡ texts.fault_text faults.DiskFault
unfolding answer_text
fault_line providers = refl

-- ---- crashes

module _ {D S : Type 0} (sight : D → Sight) (count : D → ℕ) (disks : Type 0) (trade : Trade) (provider : ℕ)
    (old new : NetworkState D S) (keeps : Keeps sight count disks old new)
    (many : length new.providers ≡ length old.providers)
    (plays : (t : Trade) (luck : Luck)
    → played t luck (sites old) (Crash provider) ≡ record { answer = Crashed; after = sites new }) where
  pub crash_says : (text : Vec ℕ Global) → text.items ≡ texts.answer_text lines.Crashed
      → Does sight count disks trade (Crash provider) old new (Ok text)
  crash_says text written =
      does_say sight count disks trade (Crash provider) old new keeps text (λ elsewhere.
      played_so (disks × AllStand sight old.providers) trade (sites old) (Crash provider) (providers_of old.kept)
      (counts_in count old.providers elsewhere)
      (counts_in count new.providers elsewhere) (luck_of false) Crashed (sites new) text.items
      (plays trade (luck_of false)) tt tt
      (λ number. counts_stay count old.providers new.providers many elsewhere keeps.later number 0 refl)
      (none_read (disks × AllStand sight old.providers) trade (sites old) (Crash provider) false
      (crash_unchanged trade (luck_of false) (sites old) provider))
      (written ∙ sym (crashed_line (providers_of old.kept))))

  pub crash_stops : (result : Result (Vec ℕ Global) NoMemory) → IsErr result
      → Does sight count disks trade (Crash provider) old new result
  crash_stops result failed =
      does_stop sight count disks trade (Crash provider) old new keeps result failed
      (left_so trade (sites old) (Crash provider) (luck_of false) Crashed (sites new) (plays trade (luck_of false)))

-- ---- restarts

module _ (trade : Trade) (luck : Luck) (state : List Site) (provider : ℕ) (works : luck.fails ≡ false)
    (down : is_up state provider ≡ false) where
  abbrev site : Site
  site = site_at state provider

  abbrev again : Site
  again = restarted_site luck.found site

  -- a restart that doesn't fail
  restart_is : played trade luck state (Restart provider)
      ≡ record { answer = Restarted (length again.journal); after = with_site state provider again }
  unfolding played
  restart_is = rw (down, works) refl

entries_in : Answer → ℕ
entries_in (Restarted entries) = entries
entries_in _ = 0

-- whether it is that is told by the number of entries and the state
module _ (trade : Trade) (state after : List Site) (provider entries : ℕ) (down : is_up state provider ≡ false) where
  abbrev told : Luck
  told = luck_told state provider entries

  abbrev Plays : Type 0
  Plays = played trade told state (Restart provider) ≡ record { answer = Restarted entries; after = after }

  by_tests : Told entries (length (restarted_site told.found (site_at state provider)).journal)
      → Told after (with_site state provider (restarted_site told.found (site_at state provider))) → Plays ⊎ (Plays → ⊥)
  unfolding entries_in
  by_tests (inl count) (inl same) =
      inl (restart_is trade told state provider refl down
      ∙ ap (λ (n : ℕ). (let p : Played = record {
        answer = Restarted n;
        after = with_site state provider (restarted_site told.found (site_at state provider));
      } in p)) (sym count)
      ∙ ap (λ (s : List Site). (let p : Played = record { answer = Restarted entries; after = s } in p)) (sym same))
  by_tests (inl count) (inr differ) =
      inr (λ is. differ (ap (λ (p : Played). p.after) (sym is ∙ restart_is trade told state provider refl down)))
  by_tests (inr differ) same =
      inr (λ is. differ (ap (λ (p : Played). entries_in p.answer)
      (sym is ∙ restart_is trade told state provider refl down)))

  pub played_or_not : CausesFound → Plays ⊎ (Plays → ⊥)
  played_or_not found =
      by_tests (cases_eq entries (length (restarted_site told.found (site_at state provider)).journal))
      (sites_told found after (with_site state provider (restarted_site told.found (site_at state provider))))

module _ {D S : Type 0} (sight : D → Sight) (count : D → ℕ) (disks : Type 0) (trade : Trade) (provider : ℕ)
    (old new : NetworkState D S) (keeps : Keeps sight count disks old new)
    (many : length new.providers ≡ length old.providers) (within : provider < length old.providers) where
  abbrev Done : Result (Vec ℕ Global) NoMemory → Type 0
  Done result = Does sight count disks trade (Restart provider) old new result

  strange : is_up (sites old) provider ≡ false → (disks → StandsAt sight provider old.providers → ⊥)
      → Strange sight disks old.providers (sites old) (Restart provider)
  strange down never = record {
    provider = provider;
    restarts = refl;
    down = down;
    never = λ tells all. never tells (λ other. all provider other within);
  }

  strays : is_up (sites old) provider ≡ false → (disks → StandsAt sight provider old.providers → ⊥)
      → (result : Result (Vec ℕ Global) NoMemory) → Done result
  strays down never (Ok text) = record { said = λ elsewhere. inr (strange down never); left = tt; keeps = keeps }
  strays down never (Err fault) = record { said = λ elsewhere. tt; left = inr (strange down never); keeps = keeps }

  abbrev Gave : Luck → Type 0
  Gave luck = GaveBack (disks × AllStand sight old.providers) trade (sites old) (Restart provider) luck

  by_entries : (entries : ℕ) → Gave (luck_told (sites old) provider entries)
  by_entries entries = record {
    kept = λ stood number. tt;
    shown = λ stood. refl;
    unchanged = λ stood world sound. restart_unchanged trade (luck_told (sites old) provider entries) (sites old) provider;
  }

  by_fault : (fails : Bool) → Gave (luck_of fails)
  by_fault fails =
      none_read (disks × AllStand sight old.providers) trade (sites old) (Restart provider) fails
      (restart_unchanged trade (luck_of fails) (sites old) provider)

  plays_so : (luck : Luck) → Gave luck → (answer : Answer) (line : Bytes)
      → played trade luck (sites old) (Restart provider) ≡ record { answer = answer; after = sites new }
      → ((elsewhere : ℕ → ℕ) (number : ℕ) → RoseBy (faults_by trade number (Restart provider) answer)
      (counts_in count old.providers elsewhere number) (counts_in count new.providers elsewhere number))
      → HasMemory answer → answer_text (providers_of old.kept) answer ≡ line
      → (text : Vec ℕ Global) → text.items ≡ line → Done (Ok text)
  plays_so luck gave answer line is counts memory its text written =
      does_say sight count disks trade (Restart provider) old new keeps text (λ elsewhere.
      played_so (disks × AllStand sight old.providers) trade (sites old) (Restart provider) (providers_of old.kept)
      (counts_in count old.providers elsewhere) (counts_in count new.providers elsewhere) luck answer (sites new)
      text.items is tt memory (counts elsewhere) gave (written ∙ sym its))

  -- it is up again
  module _ (entries : ℕ) (down : is_up (sites old) provider ≡ false)
      (plays : disks → StandsAt sight provider old.providers → (t : Trade)
      → IsRestarted (λ (luck : Luck). played t luck (sites old) (Restart provider)) (sites old) provider
      (sites new) entries) where
    abbrev IsPlayed : Type 0
    IsPlayed = played trade (luck_told (sites old) provider entries) (sites old) (Restart provider)
        ≡ record { answer = Restarted entries; after = sites new }

    says_if : IsPlayed ⊎ (IsPlayed → ⊥) → (text : Vec ℕ Global) → text.items ≡ texts.answer_text
        (lines.Restarted entries)
        → Done (Ok text)
    says_if (inl is) text written =
        plays_so (luck_told (sites old) provider entries) (by_entries entries) (Restarted entries)
        (texts.answer_text (lines.Restarted entries)) is
        (λ elsewhere number. counts_stay count old.providers new.providers many elsewhere keeps.later number 0 refl) tt
        (restarted_line (providers_of old.kept) entries) text written
    says_if (inr never) text written = strays down (λ tells stands. never (plays tells stands trade)) (Ok text)

    stops_if : IsPlayed ⊎ (IsPlayed → ⊥) → (result : Result (Vec ℕ Global) NoMemory) → IsErr result → Done result
    stops_if (inl is) result failed =
        does_stop sight count disks trade (Restart provider) old new keeps result failed
        (left_so trade (sites old) (Restart provider) (luck_told (sites old) provider entries) (Restarted entries)
        (sites new) is)
    stops_if (inr never) result failed = strays down (λ tells stands. never (plays tells stands trade)) result

    pub up_says : CausesFound → (text : Vec ℕ Global) → text.items ≡ texts.answer_text (lines.Restarted entries) → Done (Ok text)
    up_says found = says_if (played_or_not trade (sites old) (sites new) provider entries down found)

    pub up_stops : CausesFound → (result : Result (Vec ℕ Global) NoMemory) → IsErr result → Done result
    up_stops found = stops_if (played_or_not trade (sites old) (sites new) provider entries down found)

  -- it is refused
  abbrev Refused : RestartFault → Type 0
  Refused fault =
      IsNotRestarted (λ (luck : Luck). played trade luck (sites old) (Restart provider)) (sites old) provider
      (sites new) fault

  unchanged : (luck : Luck) (answer : Answer) → played trade luck (sites old) (Restart provider) ≡ answers
      (sites old) answer
      → sites new ≡ sites old
      → played trade luck (sites old) (Restart provider) ≡ record { answer = answer; after = sites new }
  unchanged luck answer is same =
      is ∙ ap (λ (s : List Site). (let p : Played = record { answer = answer; after = s } in p)) (sym same)

  pub refused_says : (fault : RestartFault) → Refused fault
      → (disks → StandsAt sight provider old.providers → IsFit fault)
      → (fault ≡ restart_faults.DiskFault → HasRisenAt count provider old.providers new.providers)
      → (text : Vec ℕ Global) → IsRestartText (Err fault) text.items → Done (Ok text)
  refused_says restart_faults.Up is fit rose text written =
      plays_so (luck_of false) (by_fault false) IsUp (texts.answer_text lines.Up) (unchanged (luck_of false) IsUp is.0 is.1)
      (λ elsewhere number. counts_stay count old.providers new.providers many elsewhere keeps.later number 0 refl) tt
      (up_line (providers_of old.kept)) text written
  refused_says restart_faults.DiskFault is fit rose text written =
      plays_so (luck_of true) (by_fault true) (Refuses faults.DiskFault) (texts.fault_text faults.DiskFault)
      (unchanged (luck_of true) (Refuses faults.DiskFault) is.0 is.1)
      (λ elsewhere number. counts_of_refusal count old.providers new.providers many elsewhere keeps.later provider
      within
      faults.DiskFault (λ e. rose refl) number) tt
      (fault_line (providers_of old.kept)) text written
  refused_says (restart_faults.NotFit why) is fit rose text written =
      strays is.0 (λ tells stands. fit tells stands) (Ok text)
  refused_says restart_faults.NoMemory is fit rose text written = absurd written

  pub refused_stops : (fault : RestartFault) → Refused fault → (result : Result (Vec ℕ Global) NoMemory) → IsErr result
      → Done result
  refused_stops fault is result failed =
      does_stop sight count disks trade (Restart provider) old new keeps result failed (Behind (same fault is))
    where
      same : (f : RestartFault) → Refused f → sites new ≡ sites old
      same restart_faults.Up e = e.1
      same restart_faults.DiskFault e = e.1
      same (restart_faults.NotFit why) e = e.1
      same restart_faults.NoMemory e = e

  -- ---- whatever it came to

  abbrev PlaysSo : Result ℕ RestartFault → Type 0
  PlaysSo outcome = disks → StandsAt sight provider old.providers → IfOk outcome (λ (entries : ℕ). (t : Trade)
      → IsRestarted (λ (luck : Luck). played t luck (sites old) (Restart provider)) (sites old) provider
      (sites new) entries)

  abbrev FitsSo : Result ℕ RestartFault → Type 0
  FitsSo outcome = disks → StandsAt sight provider old.providers → IfErr outcome IsFit

  abbrev RefusedSo : Result ℕ RestartFault → Type 0
  RefusedSo outcome = IfErr outcome (λ (fault : RestartFault). (t : Trade)
      → IsNotRestarted (λ (luck : Luck). played t luck (sites old) (Restart provider)) (sites old) provider
      (sites new) fault)

  pub restart_says : CausesFound → (outcome : Result ℕ RestartFault) → PlaysSo outcome → FitsSo outcome → RefusedSo outcome
      → OnOk outcome (is_up (sites old) provider ≡ false)
      → (IsErrOf outcome restart_faults.DiskFault → HasRisenAt count provider old.providers new.providers)
      → (text : Vec ℕ Global) → IsRestartText outcome text.items → Done (Ok text)
  restart_says found (Ok entries) plays fit refused down rose text written = up_says entries down plays found text written
  restart_says found (Err fault) plays fit refused down rose text written =
      refused_says fault (refused trade) fit (λ e. rose (ap Err e)) text written

  pub restart_stops : CausesFound → (outcome : Result ℕ RestartFault) → PlaysSo outcome → RefusedSo outcome
      → OnOk outcome (is_up (sites old) provider ≡ false)
      → (result : Result (Vec ℕ Global) NoMemory) → IsErr result → Done result
  restart_stops found (Ok entries) plays refused down result failed = up_stops entries down plays found result failed
  restart_stops found (Err fault) plays refused down result failed = refused_stops fault (refused trade) result failed
