-- Acts one after another: a run that went by some of them goes on by others.
use Rattle.std.proofs.Common.{◌≡◌, ◌≢◌, false, ℕ, ◌<◌, ◌≤◌, ◌⊎◌, inl, inr, List, [], ◌∷◌, ◌++◌, refl, ap, sym, subst, ◌∙◌, Option, Some, None, arith}
use Rattle.std.specs.Prelude.{◌-◌, ◌^◌}
use Rattle.std.proofs.lemmas.Bool.{cases_lt}
use Rattle.std.proofs.lemmas.List.{append-nil, append_assoc}
use Rattle.pec_types.specs.Bytes.{Bytes}
use Rattle.pec_outside.specs.DiskModel.{Sight}
use Rattle.pec_outside.specs.Flow.{HasRisen, WrotePart, followed_by}
use Rattle.pec_directory.specs.Directory.{Provider}
use Rattle.pec_ledger.specs.Trade.{Trade}
use Rattle.pec_plays.specs.Commands.{Command, Luck, played}
use Rattle.pec_plays.specs.Turns.{Whole}
use Rattle.pec_runs.specs.AnswerLines.{answer_text}
use Rattle.pec_runs.specs.Plays.{MayStray}
use Rattle.pec_runs.specs.Ran.{Behind, LeavesOff}
use Rattle.pec_runs.specs.Steps.{Act, AllCounted, AllMoments, AreCounted, AreMoments, AreSteps, Climbs, EndsSo, Goes, GoesAstray, Hands, IsCall, IsHanded, IsMoment, IsStep, IsWritten}
use Rattle.pec_runs.specs.Steps.{NoMemory, NoneFell, Plays, Point, ReadFault, State, Step, Stop, WriteFault, Writes, acts_of, next_of, state_behind}
use Rattle.pec_runs.specs.Steps.{text_by, text_of}

-- ---- steps

module _ {D : Type 0} where
  pub behind_append : (here : State D) (steps more : List (Step D))
      → state_behind here (steps ++ more) ≡ state_behind (state_behind here steps) more
  behind_append here [] more = refl
  behind_append here (step ∷ steps) more = behind_append step.behind steps more

  acts_append : (steps more : List (Step D)) → acts_of (steps ++ more) ≡ acts_of steps ++ acts_of more
  acts_append [] more = refl
  acts_append (step ∷ steps) more = ap (λ (l : List Act). step.act ∷ l) (acts_append steps more)

  steps_append : (trade : Trade) (tells : Type 0) (here : State D) (steps more : List (Step D))
      → AreSteps trade tells here steps → AreSteps trade tells (state_behind here steps) more
      → AreSteps trade tells here (steps ++ more)
  steps_append trade tells here [] more are then = then
  steps_append trade tells here (step ∷ steps) more are then =
      (are.0, steps_append trade tells step.behind steps more are.1 then)

  pub counted_append : (faults : D → ℕ) (steps more : List (Step D)) → AllCounted faults steps → AllCounted faults more
      → AllCounted faults (steps ++ more)
  counted_append faults [] more are then = then
  counted_append faults (step ∷ steps) more are then = (are.0, counted_append faults steps more are.1 then)

  -- so are the last of them
  pub counted_behind : (faults : D → ℕ) (here : State D) (steps : List (Step D)) → AreCounted faults here
      → AllCounted faults steps → AreCounted faults (state_behind here steps)
  counted_behind faults here [] first are = first
  counted_behind faults here (step ∷ steps) first are = counted_behind faults step.behind steps are.0 are.1

  text_append : (trade : Trade) (providers : List Provider) (here : State D) (steps more : List (Step D))
      → text_of trade providers here (steps ++ more)
      ≡ text_of trade providers here steps ++ text_of trade providers (state_behind here steps) more
  text_append trade providers here [] more = refl
  text_append trade providers here (step ∷ steps) more =
      ap (λ (t : Bytes). text_by trade providers here.sites step.act step.luck ++ t)
      (text_append trade providers step.behind steps more)
      ∙ sym (append_assoc (text_by trade providers here.sites step.act step.luck)
      (text_of trade providers step.behind steps) (text_of trade providers (state_behind step.behind steps) more))

module _ (trade : Trade) {D : Type 0} (sight : D → Sight) where
  moments_append : (here : State D) (steps more : List (Step D)) → AreMoments trade sight here steps
      → AreMoments trade sight (state_behind here steps) more → AreMoments trade sight here (steps ++ more)
  moments_append here [] more are then = then
  moments_append here (step ∷ steps) more are then = (are.0, moments_append step.behind steps more are.1 then)

  pub moments_joined : (first here there : State D) (steps more : List (Step D)) → here ≡ state_behind first steps
      → AllMoments trade sight first here steps → AllMoments trade sight here there more
      → AllMoments trade sight first there (steps ++ more)
  moments_joined first here there steps more state went goes = record {
    each = moments_append first steps more went.each
        (subst (λ (s : State D). AreMoments trade sight s more) state goes.each);
    last = subst (λ (s : State D). IsMoment trade sight s there)
        (ap (λ (s : State D). state_behind s more) state ∙ sym (behind_append first steps more)) goes.last;
  }

-- a luck of an act that plays no command
abbrev quiet : Luck
quiet = record { cuts = λ provider. Whole; fails = false; found = false; read = None; shown = None }

-- ---- acts that are left

front_none : (left more : List Act) → left ++ more ≡ [] → left ≡ []
front_none [] more e = refl
front_none (act ∷ left) more e = cc

next_before : (left more : List Act) → left ≢ [] → next_of (left ++ more) ≡ next_of left
next_before [] more some = absurd (some refl)
next_before (Plays command ∷ left) more some = refl
next_before (Hands command ∷ left) more some = refl
next_before (Writes text ∷ left) more some = refl

-- where a command comes next an act is left
pub is_left : (left : List Act) {command : Command} → next_of left ≡ Some command → left ≢ []
is_left [] next = λ e. cc
is_left (act ∷ left) next = λ e. cc

acts_left : (done left some more : List Act) → done ++ left ≡ some → done ++ (left ++ more) ≡ some ++ more
acts_left done left some more is = sym (append_assoc done left more) ∙ ap (λ (l : List Act). l ++ more) is

-- ---- counts, and what was written

followed_nothing : (held : Option Bytes) → held ≡ followed_by held []
followed_nothing None = refl
followed_nothing (Some bytes) = ap (λ (b : Bytes). Some b) (sym (append-nil bytes))

followed_twice : (held : Option Bytes) (a b : Bytes) → followed_by (followed_by held a) b ≡ followed_by held (a ++ b)
followed_twice None a b = refl
followed_twice (Some bytes) a b = ap (λ (t : Bytes). Some t) (append_assoc bytes a b)

-- a count that rose since
risen_since : (a b c : ℕ) → a ≤ b → b ≤ c → HasRisen b c → HasRisen a c
risen_since a b c l k risen = λ h. by_size h (cases_lt b (2 ^ 64 - 1))
  where
    by_size : a < 2 ^ 64 - 1 → (b < 2 ^ 64 - 1) ⊎ (2 ^ 64 - 1 ≤ b) → a < c
    by_size h (inl small) = let x : b < c = risen small in omega (arith, x, l)
    by_size h (inr large) = omega (arith, large, h, k)

pub wrote_more : (before after : Option Bytes) (done all : Bytes) → WrotePart (followed_by before done) after all
    → WrotePart before after (done ++ all)
wrote_more before after done all part = record {
  rest = part.rest;
  wrote = record {
    done = done ++ part.wrote.done;
    held = part.wrote.held ∙ followed_twice before done part.wrote.done;
    text = ap (λ (t : Bytes). done ++ t) part.wrote.text ∙ sym (append_assoc done part.wrote.done part.rest);
  };
}

module _ (trade : Trade) (providers : List Provider) (tells : Type 0) {D : Type 0} (sight : D → Sight)
    (faults : D → ℕ) where
  -- ---- ends

  abbrev Ends : State D → Bytes → List Act → Option Bytes → Point D → Option Stop → Type 0
  Ends behind text left before there stop =
      EndsSo trade providers tells sight behind text left before there stop
      ⊎ GoesAstray trade providers tells sight behind text left before there

  -- more was written before
  ends_behind : (behind : State D) (done text : Bytes) (left : List Act) (before : Option Bytes) (there : Point D)
      (stop : Option Stop) → Ends behind text left (followed_by before done) there stop
      → Ends behind (done ++ text) left before there stop
  ends_behind behind done text left before there None (inl ends) =
      inl (ends.0, ends.1, ends.2 ∙ followed_twice before done text)
  ends_behind behind done text left before there (Some WriteFault) (inl ends) =
      inl (ends.0, wrote_more before there.held done text ends.1)
  ends_behind behind done text left before there (Some ReadFault) (inl ends) =
      inl (ends.0, ends.1, ends.2 ∙ followed_twice before done text)
  ends_behind behind done text left before there (Some NoMemory) (inl ends) =
      inl (ends.0, ends.1, ends.2 ∙ followed_twice before done text)
  ends_behind behind done text left before there stop (inr astray) = inr (record {
    strays = astray.strays;
    more = astray.more;
    held = astray.held
        ∙ (followed_twice before done (text ++ astray.more)
        ∙ ap (followed_by before) (sym (append_assoc done text astray.more)));
  })

  astray_before : (behind : State D) (text : Bytes) (left more : List Act) (before : Option Bytes) (there : Point D)
      → GoesAstray trade providers tells sight behind text left before there
      → GoesAstray trade providers tells sight behind text (left ++ more) before there
  astray_before behind text left more before there astray = record {
    strays = record {
      untold = astray.strays.untold;
      provider = astray.strays.provider;
      restarts = next_before left more (is_left left astray.strays.restarts) ∙ astray.strays.restarts;
      down = astray.strays.down;
    };
    more = astray.more;
    held = astray.held;
  }

  -- more was left
  ends_before : (behind : State D) (text : Bytes) (left more : List Act) (before : Option Bytes) (there : Point D)
      (stop : Stop) → Ends behind text left before there (Some stop)
      → Ends behind text (left ++ more) before there (Some stop)
  ends_before behind text left more before there WriteFault (inl ends) = inl ends
  ends_before behind text left more before there ReadFault (inl ends) =
      inl (λ e. ends.0 (front_none left more e), ends.1, ends.2)
  ends_before behind text left more before there NoMemory (inl ends) = inl (
    λ e. ends.0 (front_none left more e),
    subst (λ (next : Option Command). LeavesOff trade behind.sites next there.state.sites)
        (sym (next_before left more ends.0)) ends.1,
    ends.2,
  )
  ends_before behind text left more before there stop (inr astray) =
      inr (astray_before behind text left more before there astray)

  -- what was written, however it ends
  ends_text : (behind : State D) (text : Bytes) (left : List Act) (before : Option Bytes) (there : Point D)
      (stop : Option Stop) → Ends behind text left before there stop
      → (done : Bytes) × (there.held ≡ followed_by before done)
  ends_text behind text left before there None (inl ends) = (text, ends.2)
  ends_text behind text left before there (Some WriteFault) (inl ends) = (ends.1.wrote.done, ends.1.wrote.held)
  ends_text behind text left before there (Some ReadFault) (inl ends) = (text, ends.2)
  ends_text behind text left before there (Some NoMemory) (inl ends) = (text, ends.2)
  ends_text behind text left before there stop (inr astray) = (text ++ astray.more, astray.held)

  -- ---- going on

  later_on : (first here there : Point D) → NoneFell first here → NoneFell here there → NoneFell first there
  later_on first here there one other = record {
    disks = λ p. let x = one.disks p in let y = other.disks p in omega (arith, x, y);
    output = let x = one.output in let y = other.output in omega (arith, x, y);
  }

  module _ (done acts : List Act) (first here there : Point D) (stop : Option Stop)
      (went : Goes trade providers tells sight faults done first here None) (goes : Goes trade providers tells sight faults acts
      here there stop) where
    blamed : stop ≡ Some WriteFault → HasRisen first.faults there.faults
    blamed e = risen_since first.faults here.faults there.faults went.later.output goes.later.output (goes.blame e)

    -- all of the first were done
    done_all : went.left ≡ [] → here.state ≡ state_behind first.state went.steps
        → here.held ≡ followed_by first.held (text_of trade providers first.state went.steps)
        → Goes trade providers tells sight faults (done ++ acts) first there stop
    done_all none state held =
        let behind = behind_append first.state went.steps goes.steps
        in let same = ap (λ (s : State D). state_behind s goes.steps) state ∙ sym behind
        in record {
          steps = went.steps ++ goes.steps;
          left = goes.left;
          acts_are = ap (λ (l : List Act). l ++ goes.left) (acts_append went.steps goes.steps)
              ∙ (append_assoc (acts_of went.steps) (acts_of goes.steps) goes.left
              ∙ (ap (λ (l : List Act). l ++ (acts_of goes.steps ++ goes.left)) all ∙ ap (λ (l : List Act). done ++ l)
              goes.acts_are));
          each = steps_append trade tells first.state went.steps goes.steps went.each
              (subst (λ (s : State D). AreSteps trade tells s goes.steps) state goes.each);
          counted = λ first_so. counted_append faults went.steps goes.steps (went.counted first_so)
              (goes.counted (subst (AreCounted faults) (sym state)
              (counted_behind faults first.state went.steps first_so (went.counted first_so))));
          moments = λ told. moments_joined trade sight first.state here.state there.state went.steps goes.steps state
              (went.moments told) (goes.moments told);
          ends = subst (λ (s : State D). Ends s (text_of trade providers first.state (went.steps ++ goes.steps))
              goes.left
              first.held there stop) same
              (subst (λ (t : Bytes). Ends (state_behind here.state goes.steps) t goes.left first.held there stop) text
              (ends_behind _ (text_of trade providers first.state went.steps) _ goes.left first.held there stop
              (subst (λ (h : Option Bytes). Ends (state_behind here.state goes.steps)
              (text_of trade providers here.state goes.steps) goes.left h there stop) held goes.ends)));
          since = subst (λ (s : State D). (p : ℕ) → s.counts p ≤ there.state.counts p) same goes.since;
          later = later_on first here there went.later goes.later;
          blame = blamed;
        }
      where
        all : acts_of went.steps ≡ done
        all = sym (append-nil (acts_of went.steps))
            ∙ (ap (λ (l : List Act). acts_of went.steps ++ l) (sym none) ∙ went.acts_are)

        text : text_of trade providers first.state went.steps ++ text_of trade providers here.state goes.steps
            ≡ text_of trade providers first.state (went.steps ++ goes.steps)
        text = ap (λ (s : State D). text_of trade providers first.state went.steps ++ text_of trade providers s
            goes.steps) state
            ∙ sym (text_append trade providers first.state went.steps goes.steps)

    -- once it strayed it may go on in any way
    strayed_on : GoesAstray trade providers tells sight (state_behind first.state went.steps)
        (text_of trade providers first.state went.steps) went.left first.held here
        → Goes trade providers tells sight faults (done ++ acts) first there stop
    strayed_on astray =
        let before = astray_before _ _ went.left acts first.held here astray
        in let text = ends_text _ _ goes.left here.held there stop goes.ends
        in record {
          steps = went.steps;
          left = went.left ++ acts;
          acts_are = acts_left (acts_of went.steps) went.left done acts went.acts_are;
          each = went.each;
          counted = went.counted;
          moments = λ told. absurd (astray.strays.untold told);
          ends = inr (record {
            strays = before.strays;
            more = before.more ++ text.0;
            held = text.1
                ∙ (ap (λ (h : Option Bytes). followed_by h text.0) before.held
                ∙ (followed_twice first.held (text_of trade providers first.state went.steps ++ before.more) text.0
                ∙ ap (followed_by first.held) (append_assoc (text_of trade providers first.state went.steps)
                before.more text.0)));
          });
          since = λ p. let x = went.since p in let y = goes.later.disks p in omega (arith, x, y);
          later = later_on first here there went.later goes.later;
          blame = blamed;
        }

    goes_joined : Ends (state_behind first.state went.steps) (text_of trade providers first.state went.steps) went.left
        first.held here None → Goes trade providers tells sight faults (done ++ acts) first there stop
    goes_joined (inl ends) = done_all ends.0 ends.1 ends.2
    goes_joined (inr astray) = strayed_on astray

  -- ---- the laws

  pub goes_on : (done acts : List Act) (first here there : Point D) (stop : Option Stop)
      → Goes trade providers tells sight faults done first here None → Goes trade providers tells sight faults acts here there stop
      → Goes trade providers tells sight faults (done ++ acts) first there stop
  goes_on done acts first here there stop went goes = goes_joined done acts first here there stop went goes went.ends

  pub stops_before : (some left : List Act) (here there : Point D) (stop : Stop)
      → Goes trade providers tells sight faults some here there (Some stop)
      → Goes trade providers tells sight faults (some ++ left) here there (Some stop)
  stops_before some left here there stop goes = record {
    steps = goes.steps;
    left = goes.left ++ left;
    acts_are = acts_left (acts_of goes.steps) goes.left some left goes.acts_are;
    each = goes.each;
    counted = goes.counted;
    moments = goes.moments;
    ends = ends_before _ _ goes.left left here.held there stop goes.ends;
    since = goes.since;
    later = goes.later;
    blame = goes.blame;
  }

  pub goes_nowhere : (first : Point D) → Goes trade providers tells sight faults [] first first None
  goes_nowhere first = record {
    steps = [];
    left = [];
    acts_are = refl;
    each = tt;
    counted = λ first. tt;
    moments = λ told. record { each = tt; last = inl refl };
    ends = inl (refl, refl, followed_nothing first.held);
    since = λ p. omega arith;
    later = record { disks = λ p. omega arith; output = omega arith };
    blame = λ e. cc;
  }

  -- ---- one act

  abbrev step_of : Act → Luck → State D → Step D
  step_of act luck behind = record { act = act; luck = luck; behind = behind }

  -- an act that was done, and its lines written
  one_step : (act : Act) (luck : Luck) (here there : Point D) (behind : State D) (text : Bytes) (stop : Option Stop)
      → IsStep trade tells here.state act luck behind → (AreCounted faults here.state → AreCounted faults behind)
      → (tells → IsMoment trade sight here.state behind) → there.state ≡ behind → text_by trade providers here.state.sites act luck ≡ text → NoneFell here there
      → IsWritten text here there stop
      → Goes trade providers tells sight faults (act ∷ []) here there stop
  one_step act luck here there behind text stop is counted moment same lines later wrote = record {
    steps = step_of act luck behind ∷ [];
    left = [];
    acts_are = refl;
    each = (is, tt);
    counted = λ first. (counted first, tt);
    moments = λ told. record { each = (moment told, tt); last = inl same };
    ends = inl (by_stop stop wrote);
    since = λ p. let e = ap (λ (s : State D). s.counts p) same in omega (arith, e);
    later = later;
    blame = by_blame stop wrote;
  }
    where
      whole : text ≡ text_by trade providers here.state.sites act luck ++ []
      whole = sym (append-nil (text_by trade providers here.state.sites act luck) ∙ lines)

      by_stop : (stop : Option Stop) → IsWritten text here there stop
          → EndsSo trade providers tells sight behind (text_by trade providers here.state.sites act luck ++ []) []
          here.held there
          stop
      by_stop None wrote = (refl, same, wrote ∙ ap (followed_by here.held) whole)
      by_stop (Some WriteFault) wrote = (same, subst (λ (t : Bytes). WrotePart here.held there.held t) whole wrote.0)
      by_stop (Some ReadFault) wrote = absurd wrote
      by_stop (Some NoMemory) wrote = absurd wrote

      by_blame : (stop : Option Stop) → IsWritten text here there stop → stop ≡ Some WriteFault
          → HasRisen here.faults there.faults
      by_blame None wrote e = cc
      by_blame (Some WriteFault) wrote e = wrote.1
      by_blame (Some ReadFault) wrote e = absurd wrote
      by_blame (Some NoMemory) wrote e = absurd wrote

  pub one_played : (command : Command) (luck : Luck) (here there : Point D) (stop : Option Stop)
      → IsCall trade tells here.state.sites here.state.counts there.state.counts command luck there.state.sites
      → IsHanded trade here.state.spares here.state.sites command luck there.state.spares
      → AreCounted faults there.state → (tells → IsMoment trade sight here.state there.state) → NoneFell here there
      → IsWritten (answer_text providers (played trade luck here.state.sites command).answer) here there stop
      → Goes trade providers tells sight faults (Plays command ∷ []) here there stop
  one_played command luck here there stop is handed counted moment later wrote =
      one_step (Plays command) luck here there there.state _ stop (is, handed) (λ first. counted) moment refl refl later
      wrote

  pub one_written : (text : Bytes) (here there : Point D) (stop : Option Stop) → there.state ≡ here.state
      → NoneFell here there → IsWritten text here there stop
      → Goes trade providers tells sight faults (Writes text ∷ []) here there stop
  one_written text here there stop same later wrote =
      one_step (Writes text) quiet here there here.state text stop refl (λ first. first) (λ told. inl refl) same refl
      later wrote

  -- memory ran out in a command, and nothing was written
  pub one_stopped : (command : Command) (here there : Point D)
      → LeavesOff trade here.state.sites (Some command) there.state.sites
      → (tells → IsMoment trade sight here.state there.state) → NoneFell here there → there.held ≡ here.held
      → Goes trade providers tells sight faults (Plays command ∷ []) here there (Some NoMemory)
  one_stopped command here there left moment later same = record {
    steps = [];
    left = Plays command ∷ [];
    acts_are = refl;
    each = tt;
    counted = λ first. tt;
    moments = λ told. record { each = tt; last = moment told };
    ends = inl (λ e. cc, left, same ∙ followed_nothing here.held);
    since = later.disks;
    later = later;
    blame = λ e. cc;
  }

  -- a command strayed
  pub one_strayed : (command : Command) (here there : Point D) (text : Bytes) (stop : Option Stop)
      → MayStray tells here.state.sites (Some command) → NoneFell here there → there.held ≡ followed_by here.held text
      → (stop ≡ Some WriteFault → HasRisen here.faults there.faults)
      → Goes trade providers tells sight faults (Plays command ∷ []) here there stop
  one_strayed command here there text stop strays later held blame = record {
    steps = [];
    left = Plays command ∷ [];
    acts_are = refl;
    each = tt;
    counted = λ first. tt;
    moments = λ told. absurd (strays.untold told);
    ends = inr (record { strays = strays; more = text; held = held });
    since = later.disks;
    later = later;
    blame = blame;
  }

  -- a text is written that is none
  pub writes_none : (text : Bytes) (here : Point D) → text ≡ []
      → Goes trade providers tells sight faults (Writes text ∷ []) here here None
  writes_none text here none =
      one_written text here here None refl (record { disks = λ p. omega arith; output = omega arith })
      (followed_nothing here.held ∙ ap (followed_by here.held) (sym none))

  -- the run was stopped by its input or for want of memory, and nothing was done
  pub halts : (acts : List Act) (here : Point D) (stop : Stop) → acts ≢ [] → (stop ≡ WriteFault → ⊥)
      → Goes trade providers tells sight faults acts here here (Some stop)
  halts acts here stop some other = record {
    steps = [];
    left = acts;
    acts_are = refl;
    each = tt;
    counted = λ first. tt;
    moments = λ told. record { each = tt; last = inl refl };
    ends = inl (by_stop stop other);
    since = λ p. omega arith;
    later = record { disks = λ p. omega arith; output = omega arith };
    blame = λ e. absurd (other cc);
  }
    where
      by_stop : (stop : Stop) → (stop ≡ WriteFault → ⊥)
          → EndsSo trade providers tells sight here.state [] acts here.held here (Some stop)
      by_stop WriteFault other = absurd (other refl)
      by_stop ReadFault other = (some, refl, followed_nothing here.held)
      by_stop NoMemory other = (some, Behind refl, followed_nothing here.held)

  -- ---- loops

  pub climbs_on : (acts some left : List Act) (first here there : Point D)
      → Climbs trade providers tells sight faults acts (some ++ left) first here
      → Goes trade providers tells sight faults some here there None
      → Climbs trade providers tells sight faults acts left first there
  climbs_on acts some left first here there climbs goes = record {
    done = climbs.done ++ some;
    acts_are = append_assoc climbs.done some left ∙ climbs.acts_are;
    goes = goes_on climbs.done some first here there None climbs.goes goes;
  }

  pub climbs_stop : (acts some left : List Act) (first here there : Point D) (stop : Stop)
      → Climbs trade providers tells sight faults acts (some ++ left) first here
      → Goes trade providers tells sight faults some here there (Some stop)
      → Goes trade providers tells sight faults acts first there (Some stop)
  climbs_stop acts some left first here there stop climbs goes =
      subst (λ (l : List Act). Goes trade providers tells sight faults l first there (Some stop)) climbs.acts_are
      (goes_on climbs.done (some ++ left) first here there (Some stop) climbs.goes
      (stops_before some left here there stop goes))

  pub climbs_end : (acts : List Act) (first here : Point D) → Climbs trade providers tells sight faults acts [] first here
      → Goes trade providers tells sight faults acts first here None
  climbs_end acts first here climbs =
      subst (λ (l : List Act). Goes trade providers tells sight faults l first here None)
      (sym (append-nil climbs.done) ∙ climbs.acts_are) climbs.goes
