-- Acts that are a script come to what may be played: from steps to lucks, an outcome, and what is told of it.
use Rattle.std.proofs.Common.{◌≡◌, ◌≢◌, ℕ, inl, inr, List, [], ◌∷◌, ◌++◌, length, refl, ap, sym, subst, ◌∙◌, Option, Some, None}
use Rattle.std.specs.Prelude.{slice_get}
use Rattle.std.proofs.lemmas.List.{append-nil, append_assoc}
use Rattle.pec_types.specs.Bytes.{Bytes}
use Rattle.pec_outside.specs.DiskModel.{Sight}
use Rattle.pec_outside.specs.Flow.{WrotePart, followed_by}
use Rattle.pec_directory.specs.Directory.{Provider}
use Rattle.pec_ledger.specs.Network.{Site}
use Rattle.pec_ledger.specs.Trade.{Trade}
use Rattle.pec_plays.specs.Commands.{Command, Luck, played}
use Rattle.pec_plays.specs.Scripts.{script}
use Rattle.pec_screen.specs.Verdicts.{Patterns}
use Rattle.pec_runs.specs.AnswerLines.{answer_text, answers_text}
use Rattle.pec_runs.specs.Endings.{End, end_text}
use Rattle.pec_runs.specs.Plays.{Ends, Finish, MayPlay, MayStray, Rest, Stopped, Strayed, ToTheEnd, at_end, finish_text}
use Rattle.pec_runs.specs.Ran.{Behind, LeavesOff, Tells, TellsAs, command_in_hand}
use Rattle.pec_runs.specs.Openings.{NoMore}
use Rattle.pec_runs.specs.Plays.{outcome_from, outcome_text}
use Rattle.pec_runs.specs.ScriptLines.{Script, nothing_but, onto_script}
use Rattle.pec_runs.specs.Statuses.{Status, status_of}
use Rattle.pec_runs.specs.Statuses as statuses
use Rattle.pec_runs.specs.Steps.{Act, AreSteps, EndsSo, Goes, GoesAstray, IsScriptPlayed, IsStep, NoMemory, Plays, Point}
use Rattle.pec_runs.specs.Steps.{ReadFault, State, Step, Stop, WriteFault, Writes, acts_of, acts_of_script}
use Rattle.pec_runs.specs.Steps.{lucks_in, next_of, state_behind, status_by, text_of}
use Rattle.pec_runs.proofs.ClimbLemmas.{plays_astray, plays_none, plays_on, plays_over}
use Rattle.pec_runs.proofs.GoingLemmas.{is_left}
use Rattle.pec_runs.proofs.ThereLemmas.{tells_end}

abbrev written_as : List Command → End → Script
written_as commands end = record { commands = commands; end = end }

next_is : (providers : List Provider) (commands : List Command) (end : End)
    → next_of (acts_of_script providers (written_as commands end)) ≡ slice_get commands 0
next_is providers [] end = refl
next_is providers (command ∷ commands) end = refl

pub some_acts : (providers : List Provider) (commands : List Command) (end : End)
    → acts_of_script providers (written_as commands end) ≢ []
some_acts providers [] end = λ e. cc
some_acts providers (command ∷ commands) end = λ e. cc

module _ (trade : Trade) (providers : List Provider) (tells : Type 0) {D : Type 0} (sight : D → Sight)
    (faults : D → ℕ) where
  abbrev script_text : Rest → State D → List (Step D) → Script → Bytes
  script_text rest here steps written =
      outcome_text providers (outcome_from trade (lucks_in steps) rest here.sites written)

  -- What steps wrote: all acts of the script were done, and its last line was written; or some acts are left.
  pub data IsText (here : State D) (steps : List (Step D)) (left : List Act) (written more : Script) : Type 0 where
    All : left ≡ [] → more.commands ≡ [] → at_end (lucks_in steps) written.commands written.end ≡ Ends written.end
        → text_of trade providers here steps ≡ script_text ToTheEnd here steps written
        → IsText here steps left written more
    Some_left : left ≡ acts_of_script providers more
        → next_of left ≡ slice_get written.commands (length (lucks_in steps))
        → text_of trade providers here steps ≡ script_text Stopped here steps written
        → IsText here steps left written more

  -- Steps are a front of the script, and more of it may be played behind them.
  pub record Front (here : State D) (steps : List (Step D)) (left : List Act) (written : Script) : Type 0 where
    pub more : Script
    pub end : more.end ≡ written.end
    pub may : (upto : ℕ → ℕ) (rest : Rest)
        → MayPlay trade tells (state_behind here steps).spares (state_behind here steps).sites
        (state_behind here steps).counts upto more [] rest
        → MayPlay trade tells here.spares here.sites here.counts upto written (lucks_in steps) rest
    pub after : (script trade (lucks_in steps) here.sites written.commands).after ≡ (state_behind here steps).sites
    pub text : IsText here steps left written more

  nothing_done : (here : State D) (left : List Act) (written : Script) → left ≡ acts_of_script providers written
      → Front here [] left written
  nothing_done here left written is = record {
    more = written;
    end = refl;
    may = λ upto rest may. may;
    after = refl;
    text = Some_left is (ap next_of is ∙ next_is providers written.commands written.end) refl;
  }

  -- the last line was written
  last_done : (here behind : State D) (luck : Luck) (end : End) → behind ≡ here
      → Front here (record { act = Writes (end_text providers end); luck = luck; behind = behind } ∷ []) []
      (nothing_but end)
  last_done here behind luck end same = record {
    more = nothing_but end;
    end = refl;
    may = λ upto rest may.
        subst (λ (s : State D). MayPlay trade tells s.spares s.sites s.counts upto (nothing_but end) [] rest)
        same may;
    after = ap (λ (s : State D). s.sites) (sym same);
    text = All refl refl refl (append-nil (end_text providers end));
  }

  -- a command was played before
  played_first : (here behind : State D) (command : Command) (luck : Luck) (steps : List (Step D)) (left : List Act)
      (written : Script) → IsStep trade tells here (Plays command) luck behind → Front behind steps left written
      → Front here (record { act = Plays command; luck = luck; behind = behind } ∷ steps) left
      (onto_script command written)
  played_first here behind command luck steps left written is front = record {
    more = front.more;
    end = front.end;
    may = λ upto rest may.
        plays_on trade tells here.spares here.sites here.counts behind.counts upto command luck written (lucks_in steps)
        rest is.0.meet is.1.last is.0.memory is.0.counts is.0.kept is.0.shown is.0.unchanged
        (subst (λ (left : List Patterns). MayPlay trade tells left (played trade luck here.sites command).after
        behind.counts upto written (lucks_in steps) rest) is.1.behind
        (subst (λ (s : List Site). MayPlay trade tells behind.spares s behind.counts upto written (lucks_in steps) rest)
        is.0.state (front.may upto rest may)));
    after = ap (λ (s : List Site). (script trade (lucks_in steps) s written.commands).after) (sym is.0.state) ∙
        front.after;
    text = by_text front.text;
  }
    where
      line : Bytes
      line = answer_text providers (played trade luck here.sites command).answer

      told : List Site → Bytes
      told sites = answers_text providers (script trade (lucks_in steps) sites written.commands).answers

      more_text : (last : Bytes) → text_of trade providers behind steps ≡ told behind.sites ++ last
          → line ++ text_of trade providers behind steps ≡ (line ++ told (played trade luck here.sites command).after)
          ++ last
      more_text last e =
          ap (λ (t : Bytes). line ++ t) e
          ∙ (ap (λ (s : List Site). line ++ (told s ++ last)) is.0.state
          ∙ sym (append_assoc line (told (played trade luck here.sites command).after) last))

      by_text : IsText behind steps left written front.more
          → IsText here (record { act = Plays command; luck = luck; behind = behind } ∷ steps) left
          (onto_script command written) front.more
      by_text (All none over ended e) = All none over ended (more_text _ e)
      by_text (Some_left some next e) = Some_left some next (more_text [] e)

  front_of : (here : State D) (steps : List (Step D)) (left : List Act) (commands : List Command) (end : End)
      → acts_of steps ++ left ≡ acts_of_script providers (written_as commands end)
      → AreSteps trade tells here steps → Front here steps left (written_as commands end)
  front_of here [] left commands end is are = nothing_done here left (written_as commands end) is
  front_of here (step ∷ other ∷ steps) left [] end is are = cc
  front_of here (step ∷ []) (act ∷ left) [] end is are = cc
  front_of here (step ∷ []) [] [] end is are =
      let act : step.act ≡ Writes (end_text providers end) = cc
      in subst (λ (a : Act). Front here (record { act = a; luck = step.luck; behind = step.behind } ∷ []) []
      (nothing_but end)) (sym act)
      (last_done here step.behind step.luck end
      (subst (λ (a : Act). IsStep trade tells here a step.luck step.behind) act are.0))
  front_of here (step ∷ steps) left (command ∷ commands) end is are =
      let act : step.act ≡ Plays command = cc
      in let rest : acts_of steps ++ left ≡ acts_of_script providers (written_as commands end) = cc
      in subst (λ (a : Act). Front here (record { act = a; luck = step.luck; behind = step.behind } ∷ steps) left
      (written_as (command ∷ commands) end)) (sym act)
      (played_first here step.behind command step.luck steps left (written_as commands end)
      (subst (λ (a : Act). IsStep trade tells here a step.luck step.behind) act are.0)
      (front_of step.behind steps left commands end rest are.1))

  -- ---- how a script goes

  module _ (written : Script) (here there : Point D) {how : Option Stop}
      (goes : Goes trade providers tells sight faults (acts_of_script providers written) here there how) where
    abbrev behind : State D
    behind = state_behind here.state goes.steps

    abbrev text : Bytes
    text = text_of trade providers here.state goes.steps

    abbrev lucks : List Luck
    lucks = lucks_in goes.steps

    front : Front here.state goes.steps goes.left written
    front = front_of here.state goes.steps goes.left written.commands written.end goes.acts_are goes.each

    -- what was written is a front of the lines of the steps
    front_of_all : (held : Option Bytes) (all : Bytes) → held ≡ followed_by here.held all → WrotePart here.held held all
    front_of_all held all is =
        record { rest = []; wrote = record { done = all; held = is; text = sym (append-nil all) } }

    front_by : (stop : Option Stop) → EndsSo trade providers tells sight behind text goes.left here.held there stop
        → WrotePart here.held there.held text
    front_by None ends = front_of_all there.held text ends.2
    front_by (Some WriteFault) ends = ends.1
    front_by (Some ReadFault) ends = front_of_all there.held text ends.2
    front_by (Some NoMemory) ends = front_of_all there.held text ends.2

    was_written : tells → WrotePart here.held there.held text
    was_written told = elim goes.ends [
      | inl ends ↦ front_by how ends
      | inr astray ↦ absurd (astray.strays.untold told)
    ]

    -- it was played so, with its state told
    as_played : (status : Status) (rest : Rest)
        → MayPlay trade tells behind.spares behind.sites behind.counts there.state.counts front.more [] rest
        → Tells providers status here.held there.held (outcome_from trade lucks rest here.state.sites written)
        → LeavesOff trade behind.sites (command_in_hand status NoMore rest lucks written) there.state.sites
        → IsScriptPlayed trade providers tells sight faults written status here there
    as_played status rest may told leaves_off = record {
      steps = goes.steps;
      unplayed = goes.left;
      acts_are = goes.acts_are;
      each = goes.each;
      counted = goes.counted;
      moments = goes.moments;
      since = goes.since;
      rest = rest;
      may = front.may there.state.counts rest may;
      told = told;
      written = was_written;
      left = there.state.sites;
      leaves_off = subst (λ (s : List Site). LeavesOff trade s (command_in_hand status NoMore rest lucks written)
          there.state.sites) (sym front.after) leaves_off;
      is_left = λ t. refl;
      stays = λ on. refl;
    }

    at_state : {next : Option Command} → there.state ≡ behind → LeavesOff trade behind.sites next there.state.sites
    at_state same = Behind (ap (λ (s : State D). s.sites) same)

    may_stop : MayPlay trade tells behind.spares behind.sites behind.counts there.state.counts front.more [] Stopped
    may_stop = plays_none trade tells behind.spares behind.sites behind.counts there.state.counts front.more goes.since

    may_end : front.more.commands ≡ []
        → MayPlay trade tells behind.spares behind.sites behind.counts there.state.counts front.more [] ToTheEnd
    may_end none =
        subst (λ (l : List Command). MayPlay trade tells behind.spares behind.sites behind.counts there.state.counts
        (written_as l front.more.end) [] ToTheEnd) (sym none)
        (plays_over trade tells behind.spares behind.sites behind.counts there.state.counts front.more.end goes.since)

    may_stray : (commands : List Command) (end : End)
        → MayStray tells behind.sites (next_of (acts_of_script providers (written_as commands end)))
        → MayPlay trade tells behind.spares behind.sites behind.counts there.state.counts (written_as commands end) [] Strayed
    may_stray [] end may = absurd (is_left [] may.restarts refl)
    may_stray (command ∷ commands) end may = plays_astray trade tells behind.spares behind.sites behind.counts there.state.counts
        command
        (written_as commands end) goes.since may

    told_end : at_end lucks written.commands written.end ≡ Ends written.end
        → there.held ≡ followed_by here.held (script_text ToTheEnd here.state goes.steps written)
        → TellsAs (status_of written.end) here.held there.held (script_text ToTheEnd here.state goes.steps written)
        (at_end lucks written.commands written.end)
    told_end ended held =
        let answers = answers_text providers (script trade lucks here.state.sites written.commands).answers
        in subst (λ (h : Option Bytes). TellsAs (status_of written.end) here.held h
        (script_text ToTheEnd here.state goes.steps written) (at_end lucks written.commands written.end)) (sym held)
        (subst (λ (f : Finish). TellsAs (status_of written.end) here.held
        (followed_by here.held (answers ++ finish_text providers f)) (answers ++ finish_text providers f) f) (sym ended)
        (tells_end written.end here.held (answers ++ end_text providers written.end)))

    ends_so : (stop : Option Stop) → EndsSo trade providers tells sight behind text goes.left here.held there stop
        → IsText here.state goes.steps goes.left written front.more
        → IsScriptPlayed trade providers tells sight faults written (status_by written.end stop) here there
    ends_so None ends (All none over ended is) = as_played (status_of written.end) ToTheEnd (may_end over)
        (inl (told_end ended (ends.2 ∙ ap (followed_by here.held) is))) (at_state ends.1)
    ends_so None ends (Some_left some next is) =
        absurd (some_acts providers front.more.commands front.more.end (sym some ∙ ends.0))
    ends_so (Some WriteFault) ends (All none over ended is) = as_played statuses.WriteFault ToTheEnd (may_end over)
        (inl (subst (λ (t : Bytes). WrotePart here.held there.held t) is ends.1)) (at_state ends.0)
    ends_so (Some WriteFault) ends (Some_left some next is) = as_played statuses.WriteFault Stopped may_stop
        (inl (subst (λ (t : Bytes). WrotePart here.held there.held t) is ends.1)) (at_state ends.0)
    ends_so (Some ReadFault) ends (All none over ended is) = absurd (ends.0 none)
    ends_so (Some ReadFault) ends (Some_left some next is) = as_played statuses.ReadFault Stopped may_stop
        (inl (refl, ends.2 ∙ ap (followed_by here.held) is)) (at_state ends.1)
    ends_so (Some NoMemory) ends (All none over ended is) = absurd (ends.0 none)
    ends_so (Some NoMemory) ends (Some_left some next is) = as_played statuses.NoMemory Stopped may_stop
        (inl (refl, ends.2 ∙ ap (followed_by here.held) is))
        (subst (λ (n : Option Command). LeavesOff trade behind.sites n there.state.sites) next ends.1)

    astray_so : (status : Status) → GoesAstray trade providers tells sight behind text goes.left here.held there
        → IsText here.state goes.steps goes.left written front.more
        → IsScriptPlayed trade providers tells sight faults written status here there
    astray_so status astray (All none over ended is) = absurd (is_left goes.left astray.strays.restarts none)
    astray_so status astray (Some_left some next is) = record {
      steps = goes.steps;
      unplayed = goes.left;
      acts_are = goes.acts_are;
      each = goes.each;
      counted = goes.counted;
      moments = goes.moments;
      since = goes.since;
      rest = Strayed;
      may = front.may there.state.counts Strayed (may_stray front.more.commands front.more.end
          (subst (λ (l : List Act). MayStray tells behind.sites (next_of l)) some astray.strays));
      told = inr (record {
        strays = refl;
        more = astray.more;
        held = astray.held ∙ ap (λ (t : Bytes). followed_by here.held (t ++ astray.more)) is;
      });
      written = was_written;
      left = (script trade lucks here.state.sites written.commands).after;
      leaves_off = Behind refl;
      is_left = λ t. absurd (astray.strays.untold t);
      stays = λ on. absurd (on refl);
    }

  pub script_goes : (written : Script) (here there : Point D) (stop : Option Stop)
      → Goes trade providers tells sight faults (acts_of_script providers written) here there stop
      → IsScriptPlayed trade providers tells sight faults written (status_by written.end stop) here there
  script_goes written here there stop goes = elim goes.ends [
    | inl ends ↦ ends_so written here there goes stop ends (front written here there goes).text
    | inr astray ↦ astray_so written here there goes (status_by written.end stop) astray (front written here there
        goes).text
  ]
