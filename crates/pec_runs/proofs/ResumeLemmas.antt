-- What a run leaves on its disks fits, and a run that resumes there begins with it.
use Rattle.std.proofs.Common.{◌≡◌, ℕ, ◌<◌, ◌≤◌, List, [], ◌++◌, Bool, true, false, inl, inr, length, nat_lt, refl, ap, sym, subst, ◌∙◌, arith, Option, Some, None}
use Rattle.std.specs.Prelude.{if◌then◌else◌, slice_get, slice_index_or}
use Rattle.std.proofs.lemmas.Bool.{cases_lt}
use Rattle.std.proofs.lemmas.List.{append-nil, get_or_past}
use Rattle.std.proofs.lemmas.Option.{none-some, slice_get-get_or}
use Rattle.pec_types.specs.Bytes.{Bytes}
use Rattle.pec_types.specs.declared.turns.ProviderFault.TheVariants as faults
use Rattle.pec_records.specs.declared.entries.Entry.{Entry}
use Rattle.pec_chronicle.specs.Chronicle.{IsJournalOf}
use Rattle.pec_ledger.specs.Ledger.{Fit}
use Rattle.pec_ledger.specs.Network.{Site, Sound, chosen, empty_site, interrupted_at, journal_at, journals_in, site_at, with_choice}
use Rattle.pec_ledger.specs.Trade.{Trade}
use Rattle.pec_plays.specs.Commands.{Command, Luck, Submit, Tick, Round, Lose, Repeat, Swap, Inject, Crash, Restart, Book, Mailbox, Show, Archive, Upgrade, Vault, VaultShow, Screen, played}
use Rattle.pec_plays.specs.Rounds.{rooms_of, rounded}
use Rattle.pec_plays.specs.Steps.{Step}
use Rattle.pec_plays.specs.Decisions.{Looks}
use Rattle.pec_plays.specs.Scripts.{put_instead}
use Rattle.pec_plays.specs.Turns.{Cut, Turned, Whole, Fails, Full, Stops, Unread, Other, Sees, cut_turn, frames_in, last_of}
use Rattle.pec_plays.specs.Turns.{looks_by, not_begun, plan, steps_of, turned}
use Rattle.pec_screen.specs.Verdicts.{Patterns}
use Rattle.pec_runs.specs.Headline.{PutsHonestly}
use Rattle.pec_runs.specs.Openings.{IsLeft}
use Rattle.pec_runs.specs.Ran.{LeavesOff, Behind, Within}
use Rattle.pec_runs.proofs.BeginningLemmas.{fit_alike}
use Rattle.pec_runs.proofs.StepLemmas.{JointStays}

-- a state whose journals fit, with what was interrupted or without, and past its providers there is nothing
pub record FitsAnyWay (trade : Trade) (left : List Site) : Type 0 where
  pub any : (choice : ℕ → Bool) → Fit trade (with_choice left choice)
  pub past : (p : ℕ) → trade.providers ≤ p → (journal_at left p ≡ []) × (interrupted_at left p ≡ None)

-- ---- a luck with which each turn puts what is due

due_cut : Cut → Cut
due_cut Whole = Whole
due_cut (Fails number fault) = Fails number fault
due_cut (Full number) = Full number
due_cut (Stops number) = Stops number
due_cut (Unread number fault) = Unread number fault
due_cut (Other out) = Whole
due_cut (Sees looks cut) = Sees looks (due_cut cut)

never_other : (cut : Cut) (out : List (List Bytes)) → put_instead (due_cut cut) ≡ Some out → ⊥
unfolding due_cut
never_other Whole out e = none-some out e
never_other (Fails number fault) out e = none-some out e
never_other (Full number) out e = none-some out e
never_other (Stops number) out e = none-some out e
never_other (Unread number fault) out e = none-some out e
never_other (Other other) out e = none-some out e
never_other (Sees looks cut) out e = never_other cut out e

due_luck : Luck → Luck
due_luck luck = record {
  cuts = λ p. due_cut (luck.cuts p);
  fails = luck.fails;
  found = luck.found;
  read = luck.read;
  shown = luck.shown;
}

-- what the law of rounds says
pub record RoundsSo (trade : Trade) : Type 0 where
  pub count : (now : ℕ) (cuts : ℕ → Cut) (sites : List Site) → length (rounded trade now cuts sites).sites ≡ length sites
  pub journals : (now : ℕ) (cuts : ℕ → Cut) (sites : List Site) (provider : ℕ) → provider < length sites
      → journal_at (rounded trade now cuts sites).sites provider
      ≡ (turned trade provider now (rooms_of sites provider) (cuts provider) (site_at sites provider)).site.journal
  pub interrupted : (now : ℕ) (cuts : ℕ → Cut) (sites : List Site) (provider : ℕ) → provider < length sites
      → interrupted_at (rounded trade now cuts sites).sites provider
      ≡ (turned trade provider now (rooms_of sites provider) (cuts provider) (site_at sites provider)).site.interrupted

module _ (trade : Trade) (rounds : RoundsSo trade) where
  cut_site : (p : ℕ) (rooms : ℕ → ℕ) (site : Site) (steps : List Step) (cut : Cut)
      → (cut_turn trade p rooms site steps (due_cut cut)).site ≡ (cut_turn trade p rooms site steps cut).site
  unfolding due_cut
  cut_site p rooms site steps Whole = refl
  cut_site p rooms site steps (Fails number fault) = refl
  cut_site p rooms site steps (Full number) = refl
  cut_site p rooms site steps (Stops number) = refl
  cut_site p rooms site steps (Unread number fault) = refl
  cut_site p rooms site steps (Other out) = refl
  cut_site p rooms site steps (Sees looks cut) = cut_site p rooms site steps cut

  -- screens look at the same messages
  same_looks : (p : ℕ) (screens : List Patterns) (cut : Cut)
      → looks_by trade p screens (due_cut cut) ≡ looks_by trade p screens cut
  unfolding due_cut
  same_looks p screens Whole = refl
  same_looks p screens (Fails number fault) = refl
  same_looks p screens (Full number) = refl
  same_looks p screens (Stops number) = refl
  same_looks p screens (Unread number fault) = refl
  same_looks p screens (Other out) = refl
  same_looks p screens (Sees looks cut) = refl

  due_site : (p now : ℕ) (rooms : ℕ → ℕ) (site : Site) (cut : Cut)
      → (cut_turn trade p rooms site (steps_of trade p now site (due_cut cut)) (due_cut cut)).site
      ≡ (cut_turn trade p rooms site (steps_of trade p now site cut) cut).site
  due_site p now rooms site cut =
      ap (λ (looks : Looks). (cut_turn trade p rooms site (plan trade p now looks site.journal (frames_in site.waiting))
      (due_cut cut)).site) (same_looks p site.screens cut)
      ∙ cut_site p rooms site (steps_of trade p now site cut) cut

  site_if : (b : Bool) (x y z : Turned) → y.site ≡ z.site → (if b then x else y).site ≡ (if b then x else z).site
  site_if true x y z e = refl
  site_if false x y z e = e

  site_else : (b : Bool) (x y z : Turned) → x.site ≡ y.site → (if b then x else z).site ≡ (if b then y else z).site
  site_else true x y z e = e
  site_else false x y z e = refl

  turned_site : (p now : ℕ) (rooms : ℕ → ℕ) (site : Site) (cut : Cut)
      → (turned trade p now rooms (due_cut cut) site).site ≡ (turned trade p now rooms cut site).site
  unfolding turned
  turned_site p now rooms site cut =
      let is_late = nat_lt now (last_of trade p site.journal)
      in let late = not_begun site (faults.ClockBack (last_of trade p site.journal))
      in let one = cut_turn trade p rooms site (steps_of trade p now site (due_cut cut)) (due_cut cut)
      in let other = cut_turn trade p rooms site (steps_of trade p now site cut) cut
      in site_else site.up (if is_late then late else one) (if is_late then late else other) (not_begun site faults.Down)
      (site_if is_late late one other (due_site p now rooms site cut))

  past_round : (now : ℕ) (cuts : ℕ → Cut) (sites : List Site) (p : ℕ) → length sites ≤ p
      → site_at (rounded trade now cuts sites).sites p ≡ empty_site
  past_round now cuts sites p l =
      get_or_past (rounded trade now cuts sites).sites p empty_site
      (let e = rounds.count now cuts sites in omega (arith, e, l))

  due_round : (now : ℕ) (luck : Luck) (sites : List Site) (p : ℕ)
      → (journal_at (rounded trade now (due_luck luck).cuts sites).sites p
      ≡ journal_at (rounded trade now luck.cuts sites).sites p)
      × (interrupted_at (rounded trade now (due_luck luck).cuts sites).sites p
      ≡ interrupted_at (rounded trade now luck.cuts sites).sites p)
  unfolding due_luck
  due_round now luck sites p = elim (cases_lt p (length sites)) [
    | inl l ↦
        let same = turned_site p now (rooms_of sites p) (site_at sites p) (luck.cuts p)
        in (
          rounds.journals now (λ q. due_cut (luck.cuts q)) sites p l ∙ ap (λ (s : Site). s.journal) same
              ∙ sym (rounds.journals now luck.cuts sites p l),
          rounds.interrupted now (λ q. due_cut (luck.cuts q)) sites p l ∙ ap (λ (s : Site). s.interrupted) same
              ∙ sym (rounds.interrupted now luck.cuts sites p l),
        )
    | inr l ↦
        let same = past_round now (λ q. due_cut (luck.cuts q)) sites p l ∙ sym (past_round now luck.cuts sites p l)
        in (ap (λ (s : Site). s.journal) same, ap (λ (s : Site). s.interrupted) same)
  ]

  -- it leaves the same journals
  due_same : (luck : Luck) (sites : List Site) (command : Command) (p : ℕ)
      → (journal_at (played trade (due_luck luck) sites command).after p
      ≡ journal_at (played trade luck sites command).after p)
      × (interrupted_at (played trade (due_luck luck) sites command).after p
      ≡ interrupted_at (played trade luck sites command).after p)
  unfolding played due_luck
  due_same luck sites (Submit q now sender along message) p = (refl, refl)
  due_same luck sites (Tick q now) p = (refl, refl)
  due_same luck sites (Round now) p = due_round now luck sites p
  due_same luck sites (Lose from to at) p = (refl, refl)
  due_same luck sites (Repeat from to at) p = (refl, refl)
  due_same luck sites (Swap from to at) p = (refl, refl)
  due_same luck sites (Inject from to frame) p = (refl, refl)
  due_same luck sites (Crash q) p = (refl, refl)
  due_same luck sites (Restart q) p = (refl, refl)
  due_same luck sites (Book account) p = (refl, refl)
  due_same luck sites (Mailbox account) p = (refl, refl)
  due_same luck sites (Show account at) p = (refl, refl)
  due_same luck sites (Archive account now at) p = (refl, refl)
  due_same luck sites (Upgrade q now) p = (refl, refl)
  due_same luck sites (Vault account) p = (refl, refl)
  due_same luck sites (VaultShow account at) p = (refl, refl)
  due_same luck sites (Screen q at spare) p = (refl, refl)

  -- and puts no forged frame
  due_puts : (luck : Luck) (sites : List Site) (command : Command) → PutsHonestly trade (due_luck luck) sites command
  unfolding due_luck
  due_puts luck sites (Submit q now sender along message) = tt
  due_puts luck sites (Tick q now) = tt
  due_puts luck sites (Round now) = λ p out within other. absurd (never_other (luck.cuts p) out other)
  due_puts luck sites (Lose from to at) = tt
  due_puts luck sites (Repeat from to at) = tt
  due_puts luck sites (Swap from to at) = tt
  due_puts luck sites (Inject from to frame) = tt
  due_puts luck sites (Crash q) = tt
  due_puts luck sites (Restart q) = tt
  due_puts luck sites (Book account) = tt
  due_puts luck sites (Mailbox account) = tt
  due_puts luck sites (Show account at) = tt
  due_puts luck sites (Archive account now at) = tt
  due_puts luck sites (Upgrade q now) = tt
  due_puts luck sites (Vault account) = tt
  due_puts luck sites (VaultShow account at) = tt
  due_puts luck sites (Screen q at spare) = tt

-- ---- what is left

module _ (trade : Trade) (stays : JointStays trade) where
  past_sites : (sites : List Site) (p : ℕ) → length sites ≤ p
      → (journal_at sites p ≡ []) × (interrupted_at sites p ≡ None)
  past_sites sites p l =
      let e = get_or_past sites p empty_site l
      in (ap (λ (s : Site). s.journal) e, ap (λ (s : Site). s.interrupted) e)

  pub sound_fits : (sites : List Site) → Sound trade sites → FitsAnyWay trade sites
  sound_fits sites sound = record {
    any = sound.any_choice;
    past = λ p l. past_sites sites p (let e = sound.count in omega (arith, e, l));
  }

  chosen_alike : (choice : Bool) (i j : Option Entry) → i ≡ j → chosen choice i ≡ chosen choice j
  chosen_alike choice i j e = ap (chosen choice) e

  -- journals that are those of a state that fits
  like_it : (sites left : List Site) → FitsAnyWay trade sites → ((p : ℕ) → journal_at left p ≡ journal_at sites p)
      → ((p : ℕ) → interrupted_at left p ≡ interrupted_at sites p) → FitsAnyWay trade left
  like_it sites left fits journals interrupted = record {
    any = λ choice. fit_alike trade stays (with_choice sites choice) (with_choice left choice)
        (λ p. ap (λ (l : List Entry). l ++ chosen (choice p) (interrupted_at sites p)) (sym (journals p))
        ∙ ap (λ (l : List Entry). journal_at left p ++ l)
        (chosen_alike (choice p) (interrupted_at sites p) (interrupted_at left p) (sym (interrupted p))))
        (fits.any choice);
    past = λ p l. (journals p ∙ (fits.past p l).0, interrupted p ∙ (fits.past p l).1);
  }

  -- what a run leaves
  pub left_fits : RoundsSo trade → (after left : List Site) (next : Option Command) → Sound trade after
      → ((luck : Luck) (command : Command) → next ≡ Some command → PutsHonestly trade luck after command
      → Sound trade (played trade luck after command).after)
      → LeavesOff trade after next left → FitsAnyWay trade left
  left_fits rounds after left next sound more (Behind is) = subst (FitsAnyWay trade) (sym is) (sound_fits after sound)
  left_fits rounds after left next sound more (Within command luck is journals interrupted) =
      like_it (played trade (due_luck luck) after command).after left
      (sound_fits (played trade (due_luck luck) after command).after
      (more (due_luck luck) command is (due_puts trade rounds luck after command)))
      (λ p. journals p ∙ sym (due_same trade rounds luck after command p).0)
      (λ p. interrupted p ∙ sym (due_same trade rounds luck after command p).1)

  -- the disks' journals, as they are opened again
  module _ (left : List Site) (fits : FitsAnyWay trade left) (journals : List (List Entry))
      (count : length journals ≡ trade.providers)
      (one : (a b : List Entry) (bytes : Bytes) → IsJournalOf a bytes → IsJournalOf b bytes → a ≡ b)
      (was : (k : ℕ) → k < trade.providers
      → (bytes : Bytes) × IsLeft left k bytes
      × ((j : List Entry) → slice_get journals k ≡ Some j → IsJournalOf j bytes)) where
    pick : (k : ℕ) → (choice : Bool)
        × (slice_index_or journals k [] ≡ journal_at left k ++ chosen choice (interrupted_at left k))
    pick k =
        elim (cases_lt k trade.providers) [
          | inl l ↦
              let is = was k l
              in (
                is.1.0,
                one (slice_index_or journals k [])
                    (journal_at left k ++ chosen is.1.0 (interrupted_at left k)) is.0
                    (is.2 (slice_index_or journals k []) (slice_get-get_or journals k [] (omega (arith, count, l)))) is.1.1,
              )
          | inr l ↦ (
            false,
            get_or_past journals k [] (omega (arith, count, l))
                ∙ (sym (fits.past k l).0 ∙ sym (append-nil (journal_at left k))),
          )
        ]

    pub opened_fit : Fit trade (journals_in journals)
    opened_fit =
        fit_alike trade stays (with_choice left (λ k. (pick k).0)) (journals_in journals) (λ k. sym (pick k).1)
        (fits.any (λ k. (pick k).0))
