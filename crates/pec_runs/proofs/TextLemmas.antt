-- What is written is whole lines.
use Rattle.std.proofs.Common.{List, [], ◌∷◌, ◌++◌, refl, ap, sym, ◌∙◌}
use Rattle.std.specs.Prelude.{codes, length, map}
use Rattle.std.specs.Fmt.{decimal}
use Rattle.std.specs.List.{flat_map}
use Rattle.std.proofs.lemmas.Grind.{flat_map-append}
use Rattle.base64.specs.Engines.{standard}
use Rattle.base64.specs.GeneralPurpose.{encode_of}
use Rattle.pec_types.specs.Bytes.{Bytes}
use Rattle.pec_directory.specs.Directory.{Provider}
use Rattle.pec_plays.specs.Commands.{Answer, Submits, Marks, Turns, Lost, Repeated, Swapped, Injected, Crashed, Restarted, Lines, Items, Vaults, Archived, Upgraded, Screened, Shown, Refuses, NoFrame, NoSpare, NoScreen, LinkFull, IsUp}
use Rattle.pec_script.specs.Texts.{answer_text as one_line, answer_words, book_row, book_text, fault_text, item_rows, item_text, items_text, line_of, mark_rows, marks_text, refusal_rows, submitted_text, submitted_words, text_of, turn_rows, turns_text, vault_text}
use Rattle.pec_script.specs.declared.answers.Answer.TheVariants as written
use Rattle.pec_runs.specs.AnswerLines.{AreLines, answer_text, answers_text}
use Rattle.pec_runs.specs.Endings.{End, end_rows, end_text}

pub answer_lines : (providers : List Provider) (answer : Answer) → AreLines (answer_text providers answer)
unfolding answer_text one_line book_text fault_text item_text items_text marks_text submitted_text turns_text vault_text
answer_lines providers (Submits submitted) = (submitted_words providers submitted ∷ [], refl)
answer_lines providers (Marks marks) = (flat_map (mark_rows providers) marks ++ (codes "ticked" ∷ []) ∷ [], refl)
answer_lines providers (Turns turns) = (flat_map (turn_rows providers) turns ++ (codes "round" ∷ []) ∷ [], refl)
answer_lines providers Lost = (answer_words written.Lost ∷ [], refl)
answer_lines providers Repeated = (answer_words written.Repeated ∷ [], refl)
answer_lines providers Swapped = (answer_words written.Swapped ∷ [], refl)
answer_lines providers Injected = (answer_words written.Injected ∷ [], refl)
answer_lines providers Crashed = (answer_words written.Crashed ∷ [], refl)
answer_lines providers (Restarted entries) = (answer_words (written.Restarted entries) ∷ [], refl)
answer_lines providers (Lines lines) =
    (map (book_row providers) lines ++ (codes "book" ∷ decimal (length lines) ∷ []) ∷ [], refl)
answer_lines providers (Items lines) =
    (item_rows providers 0 lines ++ (codes "mailbox" ∷ decimal (length lines) ∷ []) ∷ [], refl)
answer_lines providers (Vaults lines) =
    (item_rows providers 0 lines ++ (codes "vault" ∷ decimal (length lines) ∷ []) ∷ [], refl)
answer_lines providers Archived = (answer_words written.Archived ∷ [], refl)
answer_lines providers Upgraded = (answer_words written.Upgraded ∷ [], refl)
answer_lines providers Screened = (answer_words written.Screened ∷ [], refl)
answer_lines providers (Shown bytes) = ((encode_of standard bytes ∷ []) ∷ [], refl)
answer_lines providers (Refuses fault) = (refusal_rows [] fault, refl)
answer_lines providers NoFrame = (answer_words written.NoFrame ∷ [], refl)
answer_lines providers NoSpare = (answer_words written.NoSpare ∷ [], refl)
answer_lines providers NoScreen = (answer_words written.NoScreen ∷ [], refl)
answer_lines providers LinkFull = (answer_words written.LinkFull ∷ [], refl)
answer_lines providers IsUp = (answer_words written.Up ∷ [], refl)

both_lines : (a b : Bytes) → AreLines a → AreLines b → AreLines (a ++ b)
both_lines a b first second = (
  first.0 ++ second.0,
  ap (λ (t : Bytes). t ++ b) first.1
      ∙ (ap (λ (t : Bytes). text_of first.0 ++ t) second.1 ∙ sym (flat_map-append line_of first.0 second.0)),
)

pub answers_lines : (providers : List Provider) (answers : List Answer) → AreLines (answers_text providers answers)
answers_lines providers [] = ([], refl)
answers_lines providers (answer ∷ answers) =
    both_lines (answer_text providers answer) (answers_text providers answers) (answer_lines providers answer)
    (answers_lines providers answers)

pub end_lines : (providers : List Provider) (end : End) → AreLines (end_text providers end)
unfolding end_text
end_lines providers end = (end_rows providers end, refl)
