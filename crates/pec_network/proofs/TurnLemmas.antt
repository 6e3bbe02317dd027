-- What one turn of a round leaves, however it is cut.
use Rattle.std.proofs.Common.{◌≡◌, ℕ, zero, suc, ◌+◌, ◌-◌, ◌<◌, ◌≤◌, Bool, true, false, List, [], ◌∷◌, ◌++◌, length}
use Rattle.std.proofs.Common.{get_or, take, refl, ap, sym, subst, ◌∙◌, ◌⊎◌, inl, inr, arith, Option, None}
use Rattle.std.specs.Prelude.{nat_lt, if◌then◌else◌}
use Rattle.std.proofs.lemmas.Bool.{le-ltb}
use Rattle.std.proofs.lemmas.List.{append-nil, length-drop}
use Rattle.pec_types.specs.Bytes.{Bytes}
use Rattle.pec_types.specs.declared.letters.Letter.{Letter}
use Rattle.pec_types.specs.declared.turns.Event.{Event}
use Rattle.pec_types.specs.declared.turns.ProviderFault.{ProviderFault}
use Rattle.pec_types.specs.declared.turns.ProviderFault.TheVariants as faults
use Rattle.pec_records.specs.declared.entries.Entry.{Entry}
use Rattle.pec_ledger.specs.Network.{Site}
use Rattle.pec_ledger.specs.Trade.{Trade}
use Rattle.pec_plays.specs.Frames.{due_frames}
use Rattle.pec_plays.specs.Steps.{Step}
use Rattle.pec_screen.specs.Verdicts.{Patterns}
use Rattle.pec_plays.specs.Decisions.{Looks}
use Rattle.pec_plays.specs.Possible.{IsOfKept}
use Rattle.pec_plays.specs.Scripts.{put_instead}
use Rattle.pec_plays.specs.Turns.{Cut, Fails, Full, Other, Sees, Stops, Turned, Unread, Whole, behind, cut_turn, entries_of}
use Rattle.pec_plays.specs.Turns.{events_of, frames_in, last_of, looks_by, not_begun, owed_of, plan, puts_from, steps_of}
use Rattle.pec_plays.specs.Turns.{that_fit, turned, without_first}
use Rattle.pec_posts.specs.Arrivals.{Waiting}
use Rattle.pec_network.specs.Turning.{IsForFew, StopsShort}

abbrev turn_with : Site → List Event → List (List Bytes) → Option ProviderFault → Turned
turn_with site events out ended = record { site = site; events = events; out = out; ended = ended }

if_so : (test : Bool) (one other : Turned) → test ≡ true → (if test then one else other) ≡ one
if_so test one other e = rw e refl

if_not : (test : Bool) (one other : Turned) → test ≡ false → (if test then one else other) ≡ other
if_not test one other e = rw e refl

without_shorter : (number : ℕ) (links : Waiting) (from : ℕ)
    → length (get_or (without_first number links) from []) ≤ length (get_or links from [])
without_shorter number [] from = omega arith
without_shorter number (link ∷ links) zero = omega (arith, length-drop number link)
without_shorter number (link ∷ links) (suc from) = without_shorter (number - length link) links from

module _ (trade : Trade) (me now : ℕ) where
  -- what holds of a turn that doesn't begin, and of one that was cut, holds of either
  pick : (P : Turned → Type 0) (up late : Bool) (waits begins stays : Turned) → P waits → P begins → P stays
      → P (if up then (if late then waits else begins) else stays)
  pick P true true waits begins stays a b c = a
  pick P true false waits begins stays a b c = b
  pick P false late waits begins stays a b c = c

  each_turn : (P : Turned → Type 0) (rooms : ℕ → ℕ) (cut : Cut) (site : Site)
      → ((fault : ProviderFault) → P (not_begun site fault))
      → P (cut_turn trade me rooms site (steps_of trade me now site cut) cut)
      → P (turned trade me now rooms cut site)
  unfolding turned
  each_turn P rooms cut site stays begins =
      pick P site.up (nat_lt now (last_of trade me site.journal))
      (not_begun site (faults.ClockBack (last_of trade me site.journal)))
      (cut_turn trade me rooms site (steps_of trade me now site cut) cut)
      (not_begun site faults.Down) (stays (faults.ClockBack (last_of trade me site.journal))) begins (stays faults.Down)

  -- ---- rooms

  puts_count : (journal : List Entry) (rooms : ℕ → ℕ) (owed : List Letter) (to count : ℕ)
      → length (puts_from trade me journal rooms owed to count) ≡ count
  puts_count journal rooms owed to zero = refl
  puts_count journal rooms owed to (suc count) = ap suc (puts_count journal rooms owed (to + 1) count)

  puts_alike : (journal : List Entry) (rooms others : ℕ → ℕ) (owed : List Letter) (to count : ℕ)
      → ((k : ℕ) → k < count → rooms (to + k) ≡ others (to + k))
      → puts_from trade me journal rooms owed to count ≡ puts_from trade me journal others owed to count
  puts_alike journal rooms others owed to zero same = refl
  puts_alike journal rooms others owed to (suc count) same =
      let none : to + 0 ≡ to = omega arith in
      let here : rooms to ≡ others to = subst (λ (n : ℕ). rooms n ≡ others n) none (same 0 (omega arith)) in
      let more : puts_from trade me journal rooms owed (to + 1) count
      ≡ puts_from trade me journal others owed (to + 1) count =
      puts_alike journal rooms others owed (to + 1) count (λ k l.
      let next : to + suc k ≡ (to + 1) + k = omega arith in
      subst (λ (n : ℕ). rooms n ≡ others n) next (same (suc k) (omega arith))) in
      ap (λ (room : ℕ). due_frames trade me journal to room owed ∷ puts_from trade me journal rooms owed (to + 1) count)
      here
      ∙ ap (λ (out : List (List Bytes)). due_frames trade me journal to (others to) owed ∷ out) more

  fit_count : (rooms : ℕ → ℕ) (to : ℕ) (out : List (List Bytes)) → length (that_fit rooms to out) ≡ length out
  fit_count rooms to [] = refl
  fit_count rooms to (frames ∷ out) = ap suc (fit_count rooms (to + 1) out)

  fit_alike : (rooms others : ℕ → ℕ) (to : ℕ) (out : List (List Bytes))
      → ((k : ℕ) → k < length out → rooms (to + k) ≡ others (to + k))
      → that_fit rooms to out ≡ that_fit others to out
  fit_alike rooms others to [] same = refl
  fit_alike rooms others to (frames ∷ out) same =
      let none : to + 0 ≡ to = omega arith in
      let here : rooms to ≡ others to = subst (λ (n : ℕ). rooms n ≡ others n) none (same 0 (omega arith)) in
      let more : that_fit rooms (to + 1) out ≡ that_fit others (to + 1) out =
      fit_alike rooms others (to + 1) out (λ k l.
      let next : to + suc k ≡ (to + 1) + k = omega arith in
      subst (λ (n : ℕ). rooms n ≡ others n) next (same (suc k) (omega arith))) in
      ap (λ (room : ℕ). take room frames ∷ that_fit rooms (to + 1) out) here
      ∙ ap (λ (rest : List (List Bytes)). take (others to) frames ∷ rest) more

  cut_alike : (rooms others : ℕ → ℕ) (site : Site) (steps : List Step) (cut : Cut) → IsForFew trade.providers cut
      → ((k : ℕ) → k < trade.providers → rooms k ≡ others k)
      → cut_turn trade me rooms site steps cut ≡ cut_turn trade me others site steps cut
  cut_alike rooms others site steps Whole few same =
      ap (λ (out : List (List Bytes)). turn_with (behind site steps (length steps)) (events_of steps) out None)
      (puts_alike (site.journal ++ entries_of steps) rooms others (owed_of steps) 0 trade.providers (λ k l.
      let here : k ≡ 0 + k = omega arith in
      subst (λ (n : ℕ). rooms n ≡ others n) here (same k l)))
  cut_alike rooms others site steps (Fails number fault) few same = refl
  cut_alike rooms others site steps (Full number) few same = refl
  cut_alike rooms others site steps (Stops number) few same = refl
  cut_alike rooms others site steps (Unread number fault) few same = refl
  cut_alike rooms others site steps (Other out) few same =
      ap (λ (put : List (List Bytes)). turn_with (behind site steps (length steps)) (events_of steps) put None)
      (fit_alike rooms others 0 out (λ k l.
      let here : k ≡ 0 + k = omega arith in
      subst (λ (n : ℕ). rooms n ≡ others n) here (same k (omega (arith, l, few)))))
  cut_alike rooms others site steps (Sees looks cut) few same = cut_alike rooms others site steps cut few same

  -- a turn looks at the rooms of the trade's providers alone
  pub turned_alike : (rooms others : ℕ → ℕ) (cut : Cut) (site : Site) → IsForFew trade.providers cut
      → ((k : ℕ) → k < trade.providers → rooms k ≡ others k)
      → turned trade me now rooms cut site ≡ turned trade me now others cut site
  unfolding turned
  turned_alike rooms others cut site few same =
      ap (λ (t : Turned). if site.up
      then (if nat_lt now (last_of trade me site.journal) then not_begun site
      (faults.ClockBack (last_of trade me site.journal)) else t)
      else not_begun site faults.Down)
      (cut_alike rooms others site (steps_of trade me now site cut) cut few same)

  -- ---- what waits, and what is put

  cut_shorter : (rooms : ℕ → ℕ) (site : Site) (steps : List Step) (cut : Cut) (from : ℕ)
      → length (get_or (cut_turn trade me rooms site steps cut).site.waiting from []) ≤ length
      (get_or site.waiting from [])
  cut_shorter rooms site steps Whole from = without_shorter (length steps) site.waiting from
  cut_shorter rooms site steps (Fails number fault) from = without_shorter (number + 1) site.waiting from
  cut_shorter rooms site steps (Full number) from = without_shorter (number + 1) site.waiting from
  cut_shorter rooms site steps (Stops number) from = without_shorter (number + 1) site.waiting from
  cut_shorter rooms site steps (Unread number fault) from = without_shorter (number + 1) site.waiting from
  cut_shorter rooms site steps (Other out) from = without_shorter (length steps) site.waiting from
  cut_shorter rooms site steps (Sees looks cut) from = cut_shorter rooms site steps cut from

  -- a turn only takes frames
  pub waits_shorter : (rooms : ℕ → ℕ) (cut : Cut) (site : Site) (from : ℕ)
      → length (get_or (turned trade me now rooms cut site).site.waiting from []) ≤ length (get_or site.waiting from [])
  waits_shorter rooms cut site from =
      each_turn (λ (t : Turned). length (get_or t.site.waiting from []) ≤ length (get_or site.waiting from [])) rooms
      cut site
      (λ fault. omega arith)
      (cut_shorter rooms site (steps_of trade me now site cut) cut from)

  cut_few : (rooms : ℕ → ℕ) (site : Site) (steps : List Step) (cut : Cut) → IsForFew trade.providers cut
      → length (cut_turn trade me rooms site steps cut).out ≤ trade.providers
  cut_few rooms site steps Whole few =
      let count = puts_count (site.journal ++ entries_of steps) rooms (owed_of steps) 0 trade.providers in
      omega (arith, count)
  cut_few rooms site steps (Fails number fault) few = omega arith
  cut_few rooms site steps (Full number) few = omega arith
  cut_few rooms site steps (Stops number) few = omega arith
  cut_few rooms site steps (Unread number fault) few = omega arith
  cut_few rooms site steps (Other out) few = let count = fit_count rooms 0 out in omega (arith, count, few)
  cut_few rooms site steps (Sees looks cut) few = cut_few rooms site steps cut few

  -- it puts frames for no other provider
  pub puts_few : (rooms : ℕ → ℕ) (cut : Cut) (site : Site) → IsForFew trade.providers cut
      → length (turned trade me now rooms cut site).out ≤ trade.providers
  puts_few rooms cut site few =
      each_turn (λ (t : Turned). length t.out ≤ trade.providers) rooms cut site (λ fault. omega arith)
      (cut_few rooms site (steps_of trade me now site cut) cut few)

  -- ---- the entries that a cut leaves

  -- the same without frames that were put in place of those that are due
  abbrev pub without_other : Cut → Cut
  without_other Whole = Whole
  without_other (Fails number fault) = Fails number fault
  without_other (Full number) = Full number
  without_other (Stops number) = Stops number
  without_other (Unread number fault) = Unread number fault
  without_other (Other out) = Whole
  without_other (Sees looks cut) = Sees looks (without_other cut)

  pub puts_none : (cut : Cut) → put_instead (without_other cut) ≡ None
  puts_none Whole = refl
  puts_none (Fails number fault) = refl
  puts_none (Full number) = refl
  puts_none (Stops number) = refl
  puts_none (Unread number fault) = refl
  puts_none (Other out) = refl
  puts_none (Sees looks cut) = puts_none cut

  cut_without : (rooms : ℕ → ℕ) (site : Site) (steps : List Step) (cut : Cut)
      → (cut_turn trade me rooms site steps (without_other cut)).site ≡ (cut_turn trade me rooms site steps cut).site
  cut_without rooms site steps Whole = refl
  cut_without rooms site steps (Fails number fault) = refl
  cut_without rooms site steps (Full number) = refl
  cut_without rooms site steps (Stops number) = refl
  cut_without rooms site steps (Unread number fault) = refl
  cut_without rooms site steps (Other out) = refl
  cut_without rooms site steps (Sees looks cut) = cut_without rooms site steps cut

  -- its steps are the same
  looks_without : (screens : List Patterns) (cut : Cut)
      → looks_by trade me screens (without_other cut) ≡ looks_by trade me screens cut
  looks_without screens Whole = refl
  looks_without screens (Fails number fault) = refl
  looks_without screens (Full number) = refl
  looks_without screens (Stops number) = refl
  looks_without screens (Unread number fault) = refl
  looks_without screens (Other out) = refl
  looks_without screens (Sees looks cut) = refl

  one_site : (up late : Bool) (waits one other stays : Turned) → one.site ≡ other.site
      → (if up then (if late then waits else one) else stays).site
      ≡ (if up then (if late then waits else other) else stays).site
  one_site true true waits one other stays e = refl
  one_site true false waits one other stays e = e
  one_site false late waits one other stays e = refl

  pub without_same : (rooms : ℕ → ℕ) (cut : Cut) (site : Site)
      → (turned trade me now rooms (without_other cut) site).site ≡ (turned trade me now rooms cut site).site
  unfolding turned
  without_same rooms cut site =
      let less = without_other cut in
      one_site site.up (nat_lt now (last_of trade me site.journal))
      (not_begun site (faults.ClockBack (last_of trade me site.journal)))
      (cut_turn trade me rooms site (steps_of trade me now site less) less)
      (cut_turn trade me rooms site (steps_of trade me now site cut) cut) (not_begun site faults.Down)
      (ap (λ (looks : Looks). (cut_turn trade me rooms site
      (plan trade me now looks site.journal (frames_in site.waiting)) less).site) (looks_without site.screens cut)
      ∙ cut_without rooms site (steps_of trade me now site cut) cut)

  -- ---- want of memory

  -- before the first step nothing is appended
  pub stops_first : (rooms : ℕ → ℕ) (site : Site)
      → (site.journal ≡ (turned trade me now rooms (Stops 0) site).site.journal)
      × (site.interrupted ≡ (turned trade me now rooms (Stops 0) site).site.interrupted)
  stops_first rooms site =
      each_turn (λ (t : Turned). (site.journal ≡ t.site.journal) × (site.interrupted ≡ t.site.interrupted)) rooms
      (Stops 0) site
      (λ fault. (refl, refl)) (sym (append-nil site.journal), refl)

  pub kept_without : (cut : Cut) → IsOfKept cut → IsOfKept (without_other cut)
  kept_without Whole kept = kept
  kept_without (Fails number fault) kept = kept
  kept_without (Full number) kept = kept
  kept_without (Stops number) kept = kept
  kept_without (Unread number fault) kept = kept
  kept_without (Other out) kept = tt
  kept_without (Sees looks cut) kept = absurd kept

  -- a turn that stopped behind steps that were planned so has their entries
  stops_by : (rooms : ℕ → ℕ) (old new : Site) (cut : Cut) (steps frames : ℕ) → old.up ≡ true
      → last_of trade me old.journal ≤ now
      → new ≡ behind old (take steps (steps_of trade me now old cut)) frames
      → ((l : List Step) → ((behind old (take steps l) frames).journal ≡ (cut_turn trade me rooms old l cut).site.journal)
      × ((behind old (take steps l) frames).interrupted ≡ (cut_turn trade me rooms old l cut).site.interrupted))
      → (new.journal ≡ (turned trade me now rooms cut old).site.journal)
      × (new.interrupted ≡ (turned trade me now rooms cut old).site.interrupted)
  unfolding turned
  stops_by rooms old new cut steps frames up in_time new_is site_is =
      let late = not_begun old (faults.ClockBack (last_of trade me old.journal)) in
      let begun = cut_turn trade me rooms old (steps_of trade me now old cut) cut in
      let is = if_so old.up (if nat_lt now (last_of trade me old.journal) then late else begun)
      (not_begun old faults.Down) up
      ∙ if_not (nat_lt now (last_of trade me old.journal)) late begun
      (le-ltb now (last_of trade me old.journal) in_time) in
      let same = site_is (steps_of trade me now old cut) in (
        ap (λ (s : Site). s.journal) new_is ∙ same.0 ∙ sym (ap (λ (t : Turned). t.site.journal) is),
        ap (λ (s : Site). s.interrupted) new_is ∙ same.1 ∙ sym (ap (λ (t : Turned). t.site.interrupted) is),
      )

  -- a turn that had begun is cut where memory ran out, with what was found in it
  pub record ShortCut (Stood : Type 0) (rooms : ℕ → ℕ) (old new : Site) : Type 0 where
    pub cut : Cut
    pub instead : put_instead cut ≡ None
    pub kept : Stood → IsOfKept cut
    pub journal : new.journal ≡ (turned trade me now rooms cut old).site.journal
    pub interrupted : new.interrupted ≡ (turned trade me now rooms cut old).site.interrupted

  pub short_cut : (Stood : Type 0) (rooms : ℕ → ℕ) (old new : Site) → StopsShort Stood trade me now old new
      → ShortCut Stood rooms old new
  short_cut Stood rooms old new short =
      let steps = short.front.steps in
      let frames = short.front.frames in
      elim short.front.kept [
        | inl same ↦
            let is = stops_by rooms old new (Stops steps) steps frames short.up short.in_time
            (short.front.is ∙ ap (λ (looks : Looks). behind old
            (take steps (plan trade me now looks old.journal (frames_in old.waiting))) frames) same)
            (λ l. (refl, refl)) in
            record {
              cut = Stops steps;
              instead = refl;
              kept = λ stood. tt;
              journal = is.0;
              interrupted = is.1;
            }
        | inr other ↦
            let cut = Sees short.front.looks (Stops steps) in
            let is = stops_by rooms old new cut steps frames short.up short.in_time short.front.is (λ l. (refl, refl)) in
            record {
              cut = cut;
              instead = refl;
              kept = λ stood. absurd (other stood);
              journal = is.0;
              interrupted = is.1;
            }
      ]
