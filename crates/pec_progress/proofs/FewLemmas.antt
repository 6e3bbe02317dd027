-- Where little is owed, links stay light, round by round, and so they carry what is owed.
use Rattle.std.proofs.Common.{◌≡◌, ℕ, ◌+◌, ◌<◌, ◌≤◌, List, [], ◌∷◌, ◌++◌, inl, inr, length, refl, ap, sym, subst, ◌∙◌, arith, Option, Some, None}
use Rattle.std.specs.Prelude.{Contains, slice_index_or}
use Rattle.std.specs.List.{cons_option, filter_map}
use Rattle.std.proofs.lemmas.Bool.{cases_lt}
use Rattle.std.proofs.lemmas.List.{append-nil, length-append, take_all}
use Rattle.std.proofs.lemmas.List.Elements.{filter_map-append}
use Rattle.pec_types.specs.Bytes.{Bytes}
use Rattle.pec_types.specs.declared.letters.Letter.{Letter}
use Rattle.pec_types.specs.declared.letters.Letter.TheVariants as letters
use Rattle.pec_records.specs.declared.entries.Entry.{Entry}
use Rattle.pec_ledger.specs.Due.{answers_to}
use Rattle.pec_ledger.specs.Ledger.{Fit, Journals}
use Rattle.pec_ledger.specs.Network.{Site, Sound, frames_between, journal_at, journals_of, site_at}
use Rattle.pec_ledger.specs.Pairs.{id_of, pair_of}
use Rattle.pec_ledger.specs.Steps.{half}
use Rattle.pec_ledger.specs.Trade.{Trade}
use Rattle.pec_plays.specs.Composed.{IsFrameOf}
use Rattle.pec_plays.specs.Decisions.{Looks}
use Rattle.pec_plays.specs.Frames.{due_frames, frame_of}
use Rattle.pec_plays.specs.Rounds.{rooms_of}
use Rattle.pec_plays.specs.Turns.{Cut, Turned, Whole, frames_in, looks_by, owed_of, turned}
use Rattle.pec_progress.specs.Progress.{AllCarry, AllGoWell, AllOweLittle, GoesWell, LinksCarry, NothingWaits, OwesLittle, RoundAt, after_round, journal_behind, most_open, open_over, owed_over, whole_steps}
use Rattle.pec_progress.proofs.AnswerLemmas.{Each, IsAnswer, IsAsking, IsQuiet, Light, ack_quiet, charge_quiet, costs_few, envelope_asks, outcome_asks, plan_answers, plan_length}
use Rattle.pec_progress.proofs.LawLemmas.{FitLaws, PlayLaws, RoundLaws, RowLaws}
use Rattle.pec_progress.proofs.ListLemmas.{contains_cases, contains_here, contains_none, contains_there, from_filter}
use Rattle.pec_progress.proofs.PlanLemmas.{none_left}
use Rattle.pec_progress.proofs.RoundLemmas.{journal_is, laws_after, sound_after, turn_whole}

-- ---- what a map that may give nothing gives

fewer : {X Y : Type 0} (f : X → Option Y) (xs : List X) → length (filter_map f xs) ≤ length xs
fewer f [] = omega arith
fewer f (x ∷ xs) = by_test (f x) (fewer f xs)
  where
    by_test : (o : Option _) → length (filter_map f xs) ≤ length xs → length (cons_option o (filter_map f xs)) ≤ length (x ∷ xs)
    by_test None l = omega (arith, l)
    by_test (Some y) l = omega (arith, l)

each_given : {X Y : Type 0} (P : Y → Type 0) (f : X → Option Y) (xs : List X) → ((x : X) (y : Y) → Contains xs x → f x ≡ Some y → P y) → Each P (filter_map f xs)
each_given P f [] is y c = absurd (contains_none y c)
each_given P f (x ∷ xs) is y c = by_test (f x) refl (each_given P f xs (λ z w d e. is z w (contains_there x xs z d) e) y) c
  where
    by_test : (o : Option _) → f x ≡ o → (Contains (filter_map f xs) y → P y) → Contains (cons_option o (filter_map f xs)) y → P y
    by_test None e later there = later there
    by_test (Some z) e later there =
        elim (contains_cases z (filter_map f xs) y there) [
          | inl same ↦ subst P same (is x z (contains_here x xs) e)
          | inr more ↦ later more
        ]

nothing_light : (trade : Trade) (from to : ℕ) → Light trade from to []
nothing_light trade from to = record {
  quiet = [];
  asking = [];
  is = refl;
  quiets = λ f c. absurd (contains_none f c);
  askings = λ f c. absurd (contains_none f c);
  few = omega arith;
  less = omega arith;
}

-- every link is light
abbrev pub AllLight : Trade → List Site → Type 0
AllLight trade sites = (from to : ℕ) → to < length sites → Light trade from to (frames_between sites from to)

module _ (trade : Trade) (rows : RowLaws trade) (plays : PlayLaws trade) (rounds : RoundLaws trade)
    (fits : (J : Journals) → Fit trade J → FitLaws trade J) where
  module _ (now : ℕ) (cuts : ℕ → Cut) (sites : List Site) (sound : Sound trade sites) (well : GoesWell trade now cuts sites) where
    abbrev pub looks_at : ℕ → Looks
    looks_at p = looks_by trade p (site_at sites p).screens Whole

    abbrev pub answers_over : ℕ → ℕ → List Letter
    answers_over from to = answers_to trade to (owed_of (whole_steps trade now sites from))

    abbrev J : Journals
    J = journals_of (after_round trade now cuts sites)

    abbrev laws : FitLaws trade J
    laws = laws_after trade rows plays rounds fits now cuts sites sound well

    abbrev gives : ℕ → Letter → Option Bytes
    gives from letter = frame_of trade from (J from) letter

    -- ---- what the frames of owed letters ask for

    answer_quiet : (from to : ℕ) (letter : Letter) (frame : Bytes) → IsAnswer letter → gives from letter ≡ Some frame → IsQuiet trade to frame
    answer_quiet from to (letters.Charge id by) frame is e = charge_quiet trade J laws from to id by frame (laws.framed from (letters.Charge id by) frame e)
    answer_quiet from to (letters.Ack id recipient) frame is e = ack_quiet trade J laws from to (pair_of id recipient) frame (laws.framed from (letters.Ack id recipient) frame e)
    answer_quiet from to (letters.Envelope id other) frame is e = absurd is
    answer_quiet from to (letters.Outcome id recipient) frame is e = absurd is

    owed_quiet : (from to : ℕ) (letter : Letter) (frame : Bytes) → Contains (answers_over from to) letter → gives from letter ≡ Some frame → IsQuiet trade to frame
    owed_quiet from to letter frame c =
        answer_quiet from to letter frame
        (plan_answers trade plays from now (looks_at from) (frames_in (site_at sites from).waiting) (journal_at sites from) letter (from_filter _ (owed_of (whole_steps trade now sites from)) letter c).0)

    open_asks : (from to : ℕ) (letter : Letter) (frame : Bytes) → Contains (open_over trade now sites from to) letter → gives from letter ≡ Some frame → IsAsking trade from to frame
    open_asks from to letter frame c e =
        let put = laws.framed from letter frame e
        in elim ((plays.owed_says from (half trade from (journal_behind trade now sites from)) to [] letter).0 c) [
          | inl answer ↦ absurd (contains_none letter answer.0)
          | inr (inl outcome) ↦ outcome_asks trade J laws from to outcome.fate.pair frame (subst (λ (x : Letter). IsFrameOf trade J from x frame) outcome.is put)
          | inr (inr envelope) ↦ envelope_asks trade J laws from to (id_of from envelope.number) frame (subst (λ (x : Letter). IsFrameOf trade J from x frame) envelope.is put)
        ]

    -- ---- what waits behind the round

    -- what is left of the frames that waited
    left_none : (from to : ℕ) → to < length sites
        → slice_index_or (turned trade to now (rooms_of sites to) (cuts to) (site_at sites to)).site.waiting from [] ≡ []
    left_none from to l =
        ap (λ (t : Turned). slice_index_or t.site.waiting from []) (turn_whole trade rows plays rounds fits now cuts sites sound well to l)
        ∙ none_left (site_at sites to).waiting (length (whole_steps trade now sites to)) from
        (plan_length trade plays to now (looks_at to) (frames_in (site_at sites to).waiting) (journal_at sites to))

    -- nothing comes from where no provider is
    pub nobody_puts : (from to : ℕ) → length sites ≤ from → to < length sites → frames_between (after_round trade now cuts sites) from to ≡ []
    nobody_puts from to past lt = rounds.nobody now cuts sites from to past lt ∙ left_none from to lt

    -- just the frames that were put
    pub put_waits : (from to : ℕ) → from < length sites → to < length sites
        → frames_between (after_round trade now cuts sites) from to ≡ slice_index_or (turned trade from now (rooms_of sites from) (cuts from) (site_at sites from)).out to []
    put_waits from to lf lt =
        rounds.frames now cuts sites from to lf lt
        ∙ ap (λ (l : List Bytes). l ++ slice_index_or (turned trade from now (rooms_of sites from) (cuts from) (site_at sites from)).out to []) (left_none from to lt)

    abbrev put_over : ℕ → ℕ → List Bytes
    put_over from to = filter_map (gives from) (answers_over from to ++ open_over trade now sites from to)

    module _ (room : (from to : ℕ) → from < length sites → to < length sites → length (owed_over trade now sites from to) ≤ rooms_of sites from to) where
      due_all : (from to : ℕ) → from < length sites → to < length sites
          → due_frames trade from (journal_behind trade now sites from) to (rooms_of sites from to) (owed_of (whole_steps trade now sites from)) ≡ put_over from to
      unfolding due_frames
      due_all from to lf lt =
          let es = journal_behind trade now sites from
          in ap (filter_map (frame_of trade from es))
          (plays.due_says from (half trade from es) to (rooms_of sites from to) (owed_of (whole_steps trade now sites from))
          ∙ take_all (rooms_of sites from to) (owed_over trade now sites from to) (room from to lf lt))
          ∙ ap (λ (l : List Entry). filter_map (frame_of trade from l) (answers_over from to ++ open_over trade now sites from to))
          (sym (journal_is trade rows plays rounds fits now cuts sites sound well from lf))

      waits_is : (from to : ℕ) → from < length sites → to < length sites → frames_between (after_round trade now cuts sites) from to ≡ put_over from to
      waits_is from to lf lt =
          put_waits from to lf lt
          ∙ ap (λ (t : Turned). slice_index_or t.out to []) (turn_whole trade rows plays rounds fits now cuts sites sound well from lf)
          ∙ plays.puts_says from (rooms_of sites from) (site_at sites from) (whole_steps trade now sites from) to (subst (λ (n : ℕ). to < n) sound.count lt)
          ∙ due_all from to lf lt

      -- where nothing is owed, nothing waits
      pub nothing_waits : (from to : ℕ) → from < length sites → to < length sites → answers_over from to ≡ [] → open_over trade now sites from to ≡ []
          → frames_between (after_round trade now cuts sites) from to ≡ []
      nothing_waits from to lf lt none nothing =
          waits_is from to lf lt ∙ ap (λ (l : List Letter). filter_map (gives from) (l ++ open_over trade now sites from to)) none ∙ ap (filter_map (gives from)) nothing

      -- where nothing is open, nothing that waits asks for an answer
      pub quiet_behind : (from to : ℕ) → from < length sites → to < length sites → open_over trade now sites from to ≡ [] → Each (IsQuiet trade to) (frames_between (after_round trade now cuts sites) from to)
      quiet_behind from to lf lt nothing =
          subst (Each (IsQuiet trade to))
          (sym (waits_is from to lf lt ∙ ap (λ (l : List Letter). filter_map (gives from) (answers_over from to ++ l)) nothing ∙ ap (filter_map (gives from)) (append-nil (answers_over from to))))
          (each_given (IsQuiet trade to) (gives from) (answers_over from to) (owed_quiet from to))

    -- ---- where little is owed

    module _ (light : AllLight trade sites) (little : OwesLittle trade now sites) where
      answers_few : (from to : ℕ) → from < length sites → length (answers_over from to) ≤ most_open
      answers_few from to l =
          costs_few trade plays from now (looks_at from) to (site_at sites from).waiting 0
          (λ k. subst (λ (n : ℕ). Light trade n from (slice_index_or (site_at sites from).waiting k [])) (let e : k ≡ 0 + k = omega arith in e) (light k from l))
          (journal_at sites from)

      has_room : (from to : ℕ) → from < length sites → to < length sites → length (owed_over trade now sites from to) ≤ rooms_of sites from to
      has_room from to lf lt =
          let waits = light from to lt
          in let all = ap (λ (l : List Bytes). length l) waits.is ∙ length-append waits.quiet waits.asking
          in let sum = length-append (answers_over from to) (open_over trade now sites from to)
          in let answers = answers_few from to lf
          in let open_letters = little.few from to lf lt
          in let few = waits.few
          in let less = waits.less
          in omega (arith, all, sum, answers, open_letters, few, less)

      pub carries : LinksCarry trade now sites
      carries = record { room = has_room; frames = little.frames }

      put_light : (from to : ℕ) → from < length sites → to < length sites → Light trade from to (put_over from to)
      put_light from to lf lt = record {
        quiet = filter_map (gives from) (answers_over from to);
        asking = filter_map (gives from) (open_over trade now sites from to);
        is = filter_map-append (gives from) (answers_over from to) (open_over trade now sites from to);
        quiets = each_given (IsQuiet trade to) (gives from) (answers_over from to) (owed_quiet from to);
        askings = each_given (IsAsking trade from to) (gives from) (open_over trade now sites from to) (open_asks from to);
        few = let a = fewer (gives from) (answers_over from to) in let b = answers_few from to lf in omega (arith, a, b);
        less = let a = fewer (gives from) (open_over trade now sites from to) in let b = little.few from to lf lt in omega (arith, a, b);
      }

      pub light_after : AllLight trade (after_round trade now cuts sites)
      light_after from to l =
          let lt : to < length sites = subst (λ (n : ℕ). to < n) (rounds.count now cuts sites) l
          in elim (cases_lt from (length sites)) [
            | inl lf ↦ subst (λ (frames : List Bytes). Light trade from to frames) (sym (waits_is has_room from to lf lt)) (put_light from to lf lt)
            | inr past ↦ subst (λ (frames : List Bytes). Light trade from to frames) (sym (nobody_puts from to past lt)) (nothing_light trade from to)
          ]

  -- ---- rounds one after another

  all_carry : (rs : List RoundAt) (sites : List Site) → Sound trade sites → AllLight trade sites → AllGoWell trade rs sites → AllOweLittle trade rs sites → AllCarry trade rs sites
  all_carry [] sites sound light well little = tt
  all_carry (r ∷ rs) sites sound light well little = (
    carries r.now r.cuts sites sound well.0 light little.0,
    all_carry rs (after_round trade r.now r.cuts sites) (sound_after trade rows plays rounds fits r.now r.cuts sites sound well.0)
        (light_after r.now r.cuts sites sound well.0 light little.0) well.1 little.1,
  )

  pub few_are_carried : (sites : List Site) → Sound trade sites → NothingWaits sites → (rs : List RoundAt) → AllGoWell trade rs sites → AllOweLittle trade rs sites
      → AllCarry trade rs sites
  few_are_carried sites sound empty rs well little =
      all_carry rs sites sound (λ from to l. subst (λ (frames : List Bytes). Light trade from to frames) (sym (empty from to)) (nothing_light trade from to)) well little
