-- The lines that are written of an answer, in a directory: `answer_text`. This project's profile.
use Rattle.std.specs.Prelude.{◌≡◌, List}
use Rattle.std.specs.List.{flat_map}
use Rattle.pec_types.specs.Bytes.{Bytes}
use Rattle.pec_directory.specs.Directory.{Provider}
use Rattle.pec_plays.specs.Commands.{Answer, Submits, Marks, Turns, Lost, Repeated, Swapped, Injected, Crashed, Restarted, Lines, Items, Vaults, Archived, Upgraded, Screened, Shown, Refuses, NoFrame, NoSpare, NoScreen, LinkFull, IsUp}
use Rattle.pec_script.specs.Texts.{Row, book_text, fault_text, item_text, items_text, marks_text, submitted_text, text_of, turns_text, vault_text}
use Rattle.pec_script.specs.Texts as texts
use Rattle.pec_script.specs.declared.answers.Answer.TheVariants as written

-- All lines of an answer, the last one too.
unfoldable pub answer_text : List Provider → Answer → Bytes
answer_text providers (Submits submitted) = submitted_text providers submitted
answer_text providers (Marks marks) = marks_text providers marks
answer_text providers (Turns turns) = turns_text providers turns
answer_text providers Lost = texts.answer_text written.Lost
answer_text providers Repeated = texts.answer_text written.Repeated
answer_text providers Swapped = texts.answer_text written.Swapped
answer_text providers Injected = texts.answer_text written.Injected
answer_text providers Crashed = texts.answer_text written.Crashed
answer_text providers (Restarted entries) = texts.answer_text (written.Restarted entries)
answer_text providers (Lines lines) = book_text providers lines
answer_text providers (Items lines) = items_text providers lines
answer_text providers (Vaults lines) = vault_text providers lines
answer_text providers Archived = texts.answer_text written.Archived
answer_text providers Upgraded = texts.answer_text written.Upgraded
answer_text providers Screened = texts.answer_text written.Screened
answer_text providers (Shown bytes) = item_text bytes
answer_text providers (Refuses fault) = fault_text fault
answer_text providers NoFrame = texts.answer_text written.NoFrame
answer_text providers NoSpare = texts.answer_text written.NoSpare
answer_text providers NoScreen = texts.answer_text written.NoScreen
answer_text providers LinkFull = texts.answer_text written.LinkFull
answer_text providers IsUp = texts.answer_text written.Up

-- The lines of answers, in their order.
abbrev pub answers_text : List Provider → List Answer → Bytes
answers_text providers answers = flat_map (answer_text providers) answers

-- A text of whole lines.
abbrev pub AreLines : Bytes → Type 0
AreLines text = (rows : List Row) × (text ≡ text_of rows)
