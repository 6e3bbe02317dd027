-- The last line of a run, as its status tells it.
use Rattle.std.proofs.Common.{◌≡◌, ◌∙◌, [], inl, inr, ◌⊎◌, refl, ap, sym, subst, Option, Result, Ok, Err}
use Rattle.std.specs.Prelude.{IfErr, IfOk, OnErr}
use Rattle.pec_types.specs.Bytes.{Bytes}
use Rattle.pec_outside.specs.Flow.{WrotePart, followed_by}
use Rattle.pec_runs.specs.Endings.{End, end_text}
use Rattle.pec_runs.specs.Endings as ends
use Rattle.pec_runs.specs.Plays as plays
use Rattle.pec_runs.specs.Ran.{TellsAs}
use Rattle.pec_runs.specs.Statuses.{Status, status_of}
use Rattle.pec_top.specs.Shown.{end_shown, result_shown, stop_shown}
use Rattle.pec_top.specs.declared.ending.End.{End as Last}
use Rattle.pec_top.specs.declared.ending.Stop.{Stop}
use Rattle.pec_top.specs.declared.ending.Stop.TheVariants as stops

-- it was written whole
tells_end : (end : End) (before : Option Bytes) (text : Bytes)
    → TellsAs (status_of end) before (followed_by before text) text (plays.Ends end)
tells_end ends.Done before text = (refl, refl)
tells_end ends.Usage before text = (refl, refl)
tells_end ends.LongDirectory before text = (refl, refl)
tells_end ends.NoScript before text = (refl, refl)
tells_end (ends.DirectoryRefused fault) before text = (refl, refl)
tells_end (ends.NotEmpty provider) before text = (refl, refl)
tells_end (ends.NotFit provider unfit) before text = (refl, refl)
tells_end (ends.LongLine number) before text = (refl, refl)
tells_end ends.LongScript before text = (refl, refl)
tells_end (ends.LineRefused number fault) before text = (refl, refl)

-- it was written, or a front of it
pub told_last : (end : End) (last : Last) → end_shown last ≡ status_of end → (before after : Option Bytes) (line text : Bytes)
    → line ≡ text → (result : Result Last Stop)
    → IfOk result (λ told. (told ≡ last) × (after ≡ followed_by before line))
    → OnErr result (WrotePart before after line) → IfErr result (λ stop. stop ≡ stops.WriteFault)
    → TellsAs (result_shown result) before after text (plays.Ends end)
told_last end last shown before after line text is (Ok told) ok err stop =
    subst (λ (s : Status). TellsAs s before after text (plays.Ends end)) (sym (ap end_shown ok.0 ∙ shown))
    (subst (λ (held : Option Bytes). TellsAs (status_of end) before held text (plays.Ends end))
    (sym (ok.1 ∙ ap (followed_by before) is)) (tells_end end before text))
told_last end last shown before after line text is (Err why) ok err stop =
    subst (λ (s : Stop). TellsAs (stop_shown s) before after text (plays.Ends end)) (sym stop)
    (subst (λ (written : Bytes). WrotePart before after written) is err)

-- such a line names no provider
pub last_told : (end : End) (last : Last) → end_shown last ≡ status_of end → (before after : Option Bytes) (line : Bytes)
    → line ≡ end_text [] end → (result : Result Last Stop)
    → IfOk result (λ told. (told ≡ last) × (after ≡ followed_by before line))
    → OnErr result (WrotePart before after line) → IfErr result (λ stop. stop ≡ stops.WriteFault)
    → TellsAs (result_shown result) before after (end_text [] end) (plays.Ends end)
last_told end last shown before after line is result ok err stop =
    told_last end last shown before after line (end_text [] end) is result ok err stop

-- the run was halted by its input, or for want of memory
pub halted_told : (stop : Stop) → (stop ≡ stops.NoMemory) ⊎ (stop ≡ stops.ReadFault) → (before after : Option Bytes)
    (text : Bytes) → after ≡ followed_by before text → TellsAs (stop_shown stop) before after text plays.Stops
halted_told stop (inl same) before after text held =
    subst (λ (s : Stop). TellsAs (stop_shown s) before after text plays.Stops) (sym same) (refl, held)
halted_told stop (inr same) before after text held =
    subst (λ (s : Stop). TellsAs (stop_shown s) before after text plays.Stops) (sym same) (refl, held)
