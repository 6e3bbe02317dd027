-- The script of a load, `generated`: as many submissions as are asked for, one a second, and behind each sixteenth and the
-- last one a clock call of the senders' provider and four rounds. Messages are numbered from 0; moments are in seconds since
-- 1970-01-01T00:00:00Z. This project's profile.
use Rattle.std.specs.Prelude.{ℕ, ◌+◌, ◌-◌, ◌%◌, ◌==◌, Bool, ◌||◌, List, [], ◌∷◌, ◌++◌, codes, if◌then◌else◌}
use Rattle.std.specs.Fmt.{decimal}
use Rattle.std.specs.List.{flat_map, range_with_len}
use Rattle.base64.specs.Engines.{standard}
use Rattle.base64.specs.GeneralPurpose.{encode_of}
use Rattle.pec_types.specs.Bytes.{Bytes}
use Rattle.pec_script.specs.Texts.{Row, text_of}
use Rattle.pec_script.specs.declared.commands.Command.{Command}
use Rattle.pec_script.specs.declared.commands.Command.TheVariants as written
use Rattle.pec_load.specs.declared.generating.TheConstants.{BATCH, FIRST_MOMENT, LAST_WAIT}

-- ---- messages

-- who hands in the message of a number
unfoldable pub sender_of : ℕ → Bytes
sender_of number = codes "u" ++ decimal (number % 10) ++ codes "@alfa.example"

-- and to whom: each tenth to an address that is no account
unfoldable pub recipient_of : ℕ → Bytes
recipient_of number =
    if number % 10 == 9 then codes "nobody@beta.example" else codes "v" ++ decimal (number % 7) ++ codes "@beta.example"

-- the message itself: three fields of a head, and a body of one letter
unfoldable pub message_of : ℕ → Bytes
message_of number =
    codes "From: " ++ sender_of number ++ codes "\r\nTo: " ++ recipient_of number ++ codes "\r\nSubject: "
    ++ decimal number ++ codes "\r\n\r\nx\r\n"

-- when it is handed in
abbrev pub moment_of : ℕ → ℕ
moment_of number = FIRST_MOMENT + number

-- ---- batches

-- behind the message of this number, of so many in all, a batch ends: it is a sixteenth one, or the last
abbrev pub ends_batch : ℕ → ℕ → Bool
ends_batch count number = (number % BATCH == BATCH - 1) || (number + 1 == count)

-- when it ends: with its last message, and the last batch once the limits of all messages have passed
abbrev pub end_moment : ℕ → ℕ → ℕ
end_moment count number = moment_of number + (if number + 1 == count then LAST_WAIT else 0)

-- ---- lines, by their words

-- the line of the message of a number
abbrev pub submit_row : ℕ → Row
submit_row number =
    codes "submit" ∷ codes "alfa" ∷ decimal (moment_of number) ∷ sender_of number ∷ recipient_of number
    ∷ encode_of standard (message_of number) ∷ []

-- a clock call
abbrev pub tick_row : ℕ → Row
tick_row moment = codes "tick" ∷ codes "alfa" ∷ decimal moment ∷ []

-- a round
abbrev pub round_row : ℕ → Row
round_row moment = codes "round" ∷ decimal moment ∷ []

-- the lines of a batch's end
abbrev pub end_rows : ℕ → List Row
end_rows moment =
    tick_row moment ∷ round_row moment ∷ round_row moment ∷ round_row moment ∷ round_row moment ∷ []

-- the lines of the message of a number, and of the batch's end behind it
abbrev pub rows_at : ℕ → ℕ → List Row
rows_at count number =
    submit_row number ∷ (if ends_batch count number then end_rows (end_moment count number) else [])

-- all lines
abbrev pub rows_of : ℕ → List Row
rows_of count = flat_map (rows_at count) (range_with_len 0 count)

-- The text of the script.
unfoldable pub generated : ℕ → Bytes
generated count = text_of (rows_of count)

-- ---- what the lines say

-- the submission of the message of a number, to the first provider
abbrev pub submission : ℕ → Command
submission number =
    written.Submit 0 (moment_of number) (sender_of number) (recipient_of number ∷ []) (message_of number)

abbrev pub end_commands : ℕ → List Command
end_commands moment =
    written.Tick 0 moment ∷ written.Round moment ∷ written.Round moment ∷ written.Round moment
    ∷ written.Round moment ∷ []

abbrev pub commands_at : ℕ → ℕ → List Command
commands_at count number =
    submission number ∷ (if ends_batch count number then end_commands (end_moment count number) else [])

-- The commands of the script, in their order.
abbrev pub commands_of : ℕ → List Command
commands_of count = flat_map (commands_at count) (range_with_len 0 count)
