-- A loop over the lines of a dossier: what was told of the messages so far, and what the lines come to.
use Rattle.std.proofs.Common.{◌≡◌, ℕ, ◌+◌, ◌<◌, ◌≤◌, List, [], ◌∷◌, ◌++◌, length, refl, ap, sym, subst, ◌∙◌, arith, append_assoc, Global, Vec, Option, None, Some}
use Rattle.std.proofs.Math.Seq.{take-append_seam}
use Rattle.std.proofs.lemmas.List.{append-nil, length-append, length-map, map-append}
use Rattle.pec_types.specs.Bytes.{Bytes}
use Rattle.pec_outside.specs.Flow.{WrotePart, followed_by}
use Rattle.pec_directory.specs.Directory.{Provider}
use Rattle.pec_seal.specs.Seals.{Seals}
use Rattle.pec_check.specs.GenuineReading.{report_of}
use Rattle.pec_input.specs.Finding.{IsAtEnd, IsFound}
use Rattle.pec_input.specs.Lines.{content_of}
use Rattle.pec_input.specs.declared.buffers.Found.{Found}
use Rattle.pec_input.specs.declared.buffers.Found.TheVariants as found
use Rattle.pec_input.specs.declared.buffers.InputFault.{InputFault}
use Rattle.pec_input.specs.declared.buffers.InputFault.TheVariants as faults
use Rattle.pec_script.specs.Texts.{text_of}
use Rattle.pec_runs.specs.Endings.{End}
use Rattle.pec_runs.specs.Endings as ends
use Rattle.pec_runs.specs.Plays as plays
use Rattle.pec_runs.specs.Ran.{TellsAs}
use Rattle.pec_runs.specs.ScriptLines.{longest_line, most_lines}
use Rattle.pec_runs.specs.Statuses.{Status, status_of}
use Rattle.pec_runs.specs.Statuses as statuses
use Rattle.pec_dossier.specs.Checks.{AreChecked, AreLeft, all_told, last_text, saved_text, seals_of, told_of, told_text}
use Rattle.pec_dossier.specs.Lines.{Line, PassedOver, Saved, Saves, behind_line, behind_messages, nothing_but, said_by, saved_in}
use Rattle.pec_dossier.specs.Reading.{EndsAt, IsSaid, last_shown, stop_of, stop_shown}
use Rattle.pec_dossier.specs.Tallies.{summary_text, tally_of}
use Rattle.pec_dossier.specs.Texts.{Told, message_rows}
use Rattle.pec_dossier.specs.declared.ending.Last.{Last}
use Rattle.pec_dossier.specs.declared.lines.Said.TheVariants as said
use Rattle.pec_dossier.specs.declared.tallies.Tally.{Tally}
use Rattle.pec_dossier.proofs.FoundLemmas.{IsFirst, lines_on, long_there, none_left, some_left}
use Rattle.pec_dossier.proofs.LineLemmas.{last_early}
use Rattle.pec_dossier.proofs.TellingLemmas.{tally_counts, told_more, told_none}

-- ---- bytes

written_on : (o : Option Bytes) (a b : Bytes) → followed_by (followed_by o a) b ≡ followed_by o (a ++ b)
written_on None a b = refl
written_on (Some bytes) a b = ap Some (append_assoc bytes a b)

nothing_written : (o : Option Bytes) → followed_by o [] ≡ o
nothing_written None = refl
nothing_written (Some bytes) = ap Some (append-nil bytes)

-- a part of one more piece was written
part_behind : (u v w : Option Bytes) (front piece : Bytes) → v ≡ followed_by u front → WrotePart v w piece
    → WrotePart u w (front ++ piece)
part_behind u v w front piece held part = record {
  rest = part.rest;
  wrote = record {
    done = front ++ part.wrote.done;
    held = part.wrote.held ∙ (ap (λ (o : Option Bytes). followed_by o part.wrote.done) held
        ∙ written_on u front part.wrote.done);
    text = ap (λ (t : Bytes). front ++ t) part.wrote.text ∙ sym (append_assoc front part.wrote.done part.rest);
  };
}

-- lines that came to an end were written whole
tells_end : (end : End) (before : Option Bytes) (text : Bytes)
    → TellsAs (status_of end) before (followed_by before text) text (plays.Ends end)
tells_end ends.Done before text = (refl, refl)
tells_end ends.Usage before text = (refl, refl)
tells_end ends.LongDirectory before text = (refl, refl)
tells_end ends.NoScript before text = (refl, refl)
tells_end (ends.DirectoryRefused fault) before text = (refl, refl)
tells_end (ends.NotEmpty provider) before text = (refl, refl)
tells_end (ends.NotFit provider unfit) before text = (refl, refl)
tells_end (ends.LongLine number) before text = (refl, refl)
tells_end ends.LongScript before text = (refl, refl)
tells_end (ends.LineRefused number fault) before text = (refl, refl)

-- what the laws of pec_input say of what a line says
abbrev pub ContentTold : Type 0
ContentTold =
    (line : Bytes) → (length (content_of line) ≤ length line) × (length line ≤ length (content_of line) + 2)

module _ (providers : List Provider) (first before : Option Bytes) where
  -- Where the loop stands: of these messages the lines were written, and they are what the lines between say, whatever
  -- lines are left.
  pub record Reached (number : ℕ) (unread held : Option Bytes) (tally : Tally) : Type 0 where
    pub done : List Bytes
    pub held_is : held ≡ followed_by before (told_text providers done)
    pub tally_is : tally ≡ tally_of (all_told providers done)
    pub few : length done < number
    pub saved : (lines : List Bytes) → AreLeft unread lines
        → (all : List Bytes) × AreLeft first all × (saved_in 1 all ≡ behind_messages done (saved_in number lines))

  -- the lines of so many messages
  upto : (done : List Bytes) (all rest : Saved) → all ≡ behind_messages done rest
      → saved_text providers (Some (length done)) all ≡ told_text providers done
  upto done all rest e =
      ap (λ (s : Saved). saved_text providers (Some (length done)) s) e
      ∙ ap (told_text providers) (take-append_seam done rest.messages)

  -- all that is written of lines that come to this end
  whole_text : (done : List Bytes) (all : Saved) (end : End) → all ≡ behind_messages done (nothing_but end)
      → saved_text providers None all ≡ told_text providers done ++ last_text providers done end
  whole_text done all end e =
      ap (λ (s : Saved). saved_text providers None s) e
      ∙ ap (λ (ms : List Bytes). told_text providers ms ++ last_text providers ms end) (append-nil done)

  module _ (number : ℕ) (unread held : Option Bytes) (tally : Tally) (came : Reached number unread held tally) where
    -- the input failed, or memory ran out
    pub halted : (fault : InputFault) → AreChecked providers (stop_shown (stop_of fault)) first before held
    halted fault =
        let lines = some_left unread
        in let all = came.saved lines.0 lines.1
        in record {
          lines = all.0;
          stopped = Some (length came.done);
          left = all.1;
          told = so fault _ (came.held_is
              ∙ ap (followed_by before) (sym (upto came.done (saved_in 1 all.0) (saved_in number lines.0) all.2)));
        }
      where
        so : (fault : InputFault) (text : Bytes) → held ≡ followed_by before text
            → TellsAs (stop_shown (stop_of fault)) before held text plays.Stops
        so faults.NoMemory text e = (refl, e)
        so faults.ReadFault text e = (refl, e)

    -- there is room for one more message in what is counted
    pub room : number ≤ most_lines → tally.genuine + tally.refused < most_lines
    room few_lines =
        let counts = tally_counts (all_told providers came.done) tally came.tally_is
        in let size = length-map came.done (told_of providers)
        in let few = came.few in omega (arith, counts, size, few, few_lines)

    -- what is told of one more message, in the words of the lines so far
    pub told_here : (message bytes : Bytes) → bytes ≡ message → (seals : Seals) → seals ≡ seals_of providers
        → (text : Bytes) (now : Tally)
        → ((all : List Told) → tally ≡ tally_of all
        → (text ≡ text_of (message_rows providers (length all) (report_of seals providers bytes)))
        × (now ≡ tally_of (all ++ report_of seals providers bytes ∷ [])))
        → (text ≡ text_of (message_rows providers (length came.done) (told_of providers message)))
        × (now ≡ tally_of (all_told providers (came.done ++ message ∷ [])))
    told_here message bytes is seals exact text now so =
        let done = all_told providers came.done
        in let here = so done came.tally_is
        in let told : report_of seals providers bytes ≡ told_of providers message =
        ap (λ (s : Seals). report_of s providers bytes) exact ∙ ap (told_of providers) is
        in let size : length done ≡ length came.done = length-map came.done (told_of providers)
        in (
          here.0
              ∙ (ap (λ (t : Told). text_of (message_rows providers (length done) t)) told
              ∙ ap (λ (k : ℕ). text_of (message_rows providers k (told_of providers message))) size),
          here.1
              ∙ (ap (λ (t : Told). tally_of (done ++ t ∷ [])) told
              ∙ ap tally_of (sym (map-append (told_of providers) came.done (message ∷ [])))),
        )

    module _ (line : Bytes) (behind : Option Bytes) where
      abbrev WasFound : Found → Type 0
      WasFound what = IsFound longest_line what line unread behind

      -- ---- the loop goes on

      over : IsFirst unread line behind → said_by number line ≡ PassedOver
          → Reached (number + 1) behind held tally
      over top says = record {
        done = came.done;
        held_is = came.held_is;
        tally_is = came.tally_is;
        few = let few = came.few in omega (arith, few);
        saved = λ lines left.
            let all = came.saved (line ∷ lines) (lines_on unread line behind lines top left)
            in (
              all.0,
              all.1,
              all.2 ∙ ap (λ (w : Line). behind_messages came.done (behind_line number w (saved_in (number + 1) lines))) says,
            );
      }

      module _ (message : Bytes) where
        abbrev told : Told
        told = told_of providers message

        abbrev more : List Bytes
        more = came.done ++ message ∷ []

        again : (s : Saved) → behind_messages came.done (behind_line number (Saves message) s) ≡ behind_messages more s
        again s =
            ap (λ (ms : List Bytes). (let r : Saved = record { messages = ms; end = s.end } in r))
            (sym (append_assoc came.done (message ∷ []) s.messages))

        saved_more : IsFirst unread line behind → said_by number line ≡ Saves message
            → (lines : List Bytes) → AreLeft behind lines
            → (all : List Bytes) × AreLeft first all
            × (saved_in 1 all ≡ behind_messages more (saved_in (number + 1) lines))
        saved_more top says lines left =
            let all = came.saved (line ∷ lines) (lines_on unread line behind lines top left)
            in (
              all.0,
              all.1,
              all.2
                  ∙ (ap (λ (w : Line). behind_messages came.done (behind_line number w (saved_in (number + 1) lines))) says
                  ∙ again (saved_in (number + 1) lines)),
            )

        module _ (top : IsFirst unread line behind) (says : said_by number line ≡ Saves message) (text : Bytes)
            (text_is : text ≡ text_of (message_rows providers (length came.done) told)) (later : Option Bytes) where
          -- what is told of a message was written
          one_more : (now : Tally) → now ≡ tally_of (all_told providers more) → later ≡ followed_by held text
              → Reached (number + 1) behind later now
          one_more now now_is wrote = record {
            done = more;
            held_is = wrote
                ∙ (ap (λ (o : Option Bytes). followed_by o text) came.held_is
                ∙ (written_on before (told_text providers came.done) text
                ∙ ap (followed_by before)
                (ap (λ (t : Bytes). told_text providers came.done ++ t) text_is
                ∙ sym (told_more providers came.done message))));
            tally_is = now_is;
            few = let few = came.few in omega (arith, few, length-append came.done (message ∷ []));
            saved = saved_more top says;
          }

          -- or a front of it
          one_broken : WrotePart held later text → AreChecked providers statuses.WriteFault first before later
          one_broken part =
              let lines = some_left behind
              in let all = saved_more top says lines.0 lines.1
              in let whole = part_behind before held later (told_text providers came.done) text came.held_is part
              in let is : told_text providers came.done ++ text
              ≡ saved_text providers (Some (length more)) (saved_in 1 all.0) =
              ap (λ (t : Bytes). told_text providers came.done ++ t) text_is
              ∙ (sym (told_more providers came.done message)
              ∙ sym (upto more (saved_in 1 all.0) (saved_in (number + 1) lines.0) all.2))
              in record {
                lines = all.0;
                stopped = Some (length more);
                left = all.1;
                told = subst (WrotePart before later) is whole;
              }

      -- ---- and ends

      -- the lines at which the dossier ends, with what is written behind its messages
      pub record EndsHere (text : Bytes) (status : Status) : Type 0 where
        pub lines : List Bytes
        pub left : AreLeft unread lines
        pub end : End
        pub saved : saved_in number lines ≡ nothing_but end
        pub text_is : text ≡ last_text providers came.done end
        pub status_is : status ≡ status_of end

      by_end : (text : Bytes) (last : Last) (lines : List Bytes) → AreLeft unread lines
          → EndsAt number lines text last → EndsHere text (last_shown last)
      by_end text last lines left there = record {
        lines = lines;
        left = left;
        end = there.end;
        saved = there.saved;
        text_is = there.text_is providers ∙ sym (last_early providers came.done there.end there.early);
        status_is = there.shown;
      }

      pub ends_at : ContentTold → (what : Found) → WasFound what → (text : Vec ℕ Global) (last : Last)
          → IsSaid number what line (said.Last text last) → EndsHere text.items (last_shown last)
      ends_at content found.End was text last says = absurd says
      ends_at content found.Line was text last says =
          let more = some_left behind
          in by_end text.items last (line ∷ more.0) (lines_on unread line behind more.0 was.2 more.1) (says more.0)
      ends_at content found.Long was text last says =
          let long = long_there content longest_line unread was
          in by_end text.items last (long.line ∷ long.lines) long.left (says long.line long.lines long.long)

      pub ends_over : (what : Found) → WasFound what → IsSaid number what line said.End → (text : Bytes)
          → text ≡ summary_text providers tally → ContentTold → EndsHere text statuses.Done
      ends_over found.End was says text is content = record {
        lines = [];
        left = none_left unread was.1;
        end = ends.Done;
        saved = refl;
        text_is = is ∙ ap (summary_text providers) came.tally_is;
        status_is = refl;
      }
      ends_over found.Line was says text is content = absurd says
      ends_over found.Long was says text is content =
          let long = long_there content longest_line unread was
          in absurd (says long.line long.lines long.long)

      -- then nothing is left
      pub all_over : (what : Found) → WasFound what → IsSaid number what line said.End → ContentTold → IsAtEnd behind
      all_over found.End was says content = was.2
      all_over found.Line was says content = absurd says
      all_over found.Long was says content =
          let long = long_there content longest_line unread was
          in absurd (says long.line long.lines long.long)

      module _ (text : Bytes) (status : Status) (here : EndsHere text status) (later : Option Bytes) where
        all_is : (all : List Bytes) → saved_in 1 all ≡ behind_messages came.done (saved_in number here.lines)
            → saved_in 1 all ≡ behind_messages came.done (nothing_but here.end)
        all_is all e = e ∙ ap (behind_messages came.done) here.saved

        pub ended : later ≡ followed_by held text → AreChecked providers status first before later
        ended wrote =
            let all = came.saved here.lines here.left
            in let is = all_is all.0 all.2
            in let whole : later ≡ followed_by before (saved_text providers None (saved_in 1 all.0)) =
            wrote ∙ (ap (λ (o : Option Bytes). followed_by o text) came.held_is
            ∙ (written_on before (told_text providers came.done) text
            ∙ ap (followed_by before) (ap (λ (t : Bytes). told_text providers came.done ++ t) here.text_is
            ∙ sym (whole_text came.done (saved_in 1 all.0) here.end is))))
            in let told = tells_end here.end before (saved_text providers None (saved_in 1 all.0))
            in record {
              lines = all.0;
              stopped = None;
              left = all.1;
              told = subst (λ (s : Status). TellsAs s before later (saved_text providers None (saved_in 1 all.0))
                  (plays.Ends (saved_in 1 all.0).end)) (sym here.status_is)
                  (subst (λ (e : End). TellsAs (status_of here.end) before later
                  (saved_text providers None (saved_in 1 all.0)) (plays.Ends e)) (sym (ap (λ (s : Saved). s.end) is))
                  (subst (λ (o : Option Bytes). TellsAs (status_of here.end) before o
                  (saved_text providers None (saved_in 1 all.0)) (plays.Ends here.end)) (sym whole) told));
            }

        pub broken : WrotePart held later text → AreChecked providers statuses.WriteFault first before later
        broken part =
            let all = came.saved here.lines here.left
            in let is = all_is all.0 all.2
            in let whole = part_behind before held later (told_text providers came.done) text came.held_is part
            in record {
              lines = all.0;
              stopped = None;
              left = all.1;
              told = subst (WrotePart before later)
                  (ap (λ (t : Bytes). told_text providers came.done ++ t) here.text_is
                  ∙ sym (whole_text came.done (saved_in 1 all.0) here.end is)) whole;
            }

      -- ---- by what was found

      pub passes : ContentTold → (what : Found) → WasFound what → IsSaid number what line said.Nothing
          → Reached (number + 1) behind held tally
      passes content found.End was says = absurd says
      passes content found.Line was says = over was.2 says
      passes content found.Long was says =
          let long = long_there content longest_line unread was
          in absurd (says long.line long.lines long.long)

      module _ (content : ContentTold) (what : Found) (was : WasFound what) (message : Vec ℕ Global)
          (says : IsSaid number what line (said.Message message)) where
        -- a message was saved in a line that was found
        record WasSaved : Type 0 where
          pub top : IsFirst unread line behind
          pub is : said_by number line ≡ Saves message.items

        was_saved : WasSaved
        was_saved = so what was says
          where
            so : (what : Found) → WasFound what → IsSaid number what line (said.Message message) → WasSaved
            so found.End was says = absurd says
            so found.Line was says = record { top = was.2; is = says }
            so found.Long was says =
                let long = long_there content longest_line unread was
                in absurd (says long.line long.lines long.long)

        module _ (text : Bytes)
            (text_is : text ≡ text_of (message_rows providers (length came.done) (told_of providers message.items)))
            (later : Option Bytes) where
          pub checks : (now : Tally) → now ≡ tally_of (all_told providers (came.done ++ message.items ∷ []))
              → later ≡ followed_by held text → Reached (number + 1) behind later now
          checks now now_is wrote =
              one_more message.items was_saved.top was_saved.is text text_is later now now_is wrote

          pub breaks : WrotePart held later text → AreChecked providers statuses.WriteFault first before later
          breaks part = one_broken message.items was_saved.top was_saved.is text text_is later part

-- the loop begins
pub begins : (providers : List Provider) (unread held : Option Bytes) (tally : Tally) → tally ≡ tally_of []
    → Reached providers unread held 1 unread held tally
begins providers unread held tally is = record {
  done = [];
  held_is = sym (nothing_written held) ∙ ap (followed_by held) (sym (told_none providers));
  tally_is = is;
  few = omega arith;
  saved = λ lines left. (lines, left, refl);
}

-- memory ran out before
pub lacks_first : (providers : List Provider) (unread held : Option Bytes)
    → AreChecked providers statuses.NoMemory unread held held
lacks_first providers unread held =
    halted providers unread held 1 unread held (tally_of []) (begins providers unread held (tally_of []) refl)
    faults.NoMemory
