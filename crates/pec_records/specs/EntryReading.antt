-- How the bytes of an entry are read from left to right, field by field: `entry_of`, at the end. That this reads
-- `IsEntry` exactly is a law of the crate.
use Rattle.std.specs.Prelude.{ℕ, zero, suc, ◌^◌, Bool, false, not, ◌&&◌, ◌||◌, ◌==◌, nat_lt, List, [], ◌∷◌, length, ◌-◌, Result, Ok, Err, Option, Some, None, map}
use Rattle.pec_types.specs.AddressSteps.{further}
use Rattle.pec_types.specs.Bytes.{Bytes, Path}
use Rattle.pec_types.specs.Message.{Id}
use Rattle.pec_types.specs.Words.{all_causes}
use Rattle.pec_types.specs.declared.messages.TheConstants.{MESSAGES}
use Rattle.pec_types.specs.declared.messages.Cause.{Cause}
use Rattle.pec_types.specs.declared.messages.Decision.{Decision}
use Rattle.pec_types.specs.declared.messages.Decision.TheVariants as decisions
use Rattle.pec_types.specs.declared.messages.Refusal.TheVariants as refusals
use Rattle.pec_types.specs.declared.moments.TheConstants.{END_OF_TIME}
use Rattle.pec_types.specs.declared.scanning.Stand.{Stand}
use Rattle.pec_types.specs.declared.scanning.Stand.TheVariants as stands
use Rattle.pec_grammar.specs.Grammar.{Cursor, Read, ◌>>=◌, byte_at, both_at, seen_at, led_at, choice_at, ending}
use Rattle.pec_grammar.specs.Dependent.{keyed_at, raw_at, times_at}
use Rattle.pec_grammar.specs.Numbers.{number_at}
use Rattle.pec_records.specs.Entry.{cause_field}
use Rattle.pec_records.specs.declared.entries.Entry.{Entry}
use Rattle.pec_records.specs.declared.entries.Entry.TheVariants as entries
use Rattle.pec_records.specs.declared.faults.EntryFault.{EntryFault}
use Rattle.pec_records.specs.declared.faults.EntryFault.TheVariants as faults
use Rattle.pec_records.specs.declared.tags.Tag.{Tag}
use Rattle.pec_records.specs.declared.tags.Tag.TheVariants as tags

-- Addresses of a given length.

-- exactly so many bytes can lead from a stand to an address's end
abbrev pub can_fill : Stand → ℕ → Bool
can_fill stands.AtomBegins left = nat_lt 2 left
can_fill stands.InAtom left = nat_lt 1 left
can_fill stands.LabelBegins left = nat_lt 0 left
can_fill (stands.BehindLetter room) left = not (left == 1) || nat_lt 0 room
can_fill (stands.BehindHyphen room) left = nat_lt 0 left && (nat_lt 0 room && (not (left == 2) || nat_lt 1 room))

abbrev pub can_fill_behind : Option Stand → ℕ → Bool
can_fill_behind None left = false
can_fill_behind (Some stand) left = can_fill stand left

-- a byte with which an address goes on that ends so many bytes behind it
abbrev pub can_go_on : Stand → ℕ → ℕ → Bool
can_go_on stand left b = can_fill_behind (further stand b) left

abbrev pub stand_behind : Stand → Option Stand → Stand
stand_behind stand None = stand
stand_behind stand (Some next) = next

-- the rest of an address from a stand on
unfoldable pub rest_at : Stand → ℕ → Cursor → Read (Bytes)
rest_at stand zero at = Ok ([], at)
rest_at stand (suc left) at =
    byte_at (can_go_on stand left) at >>= λ b. rest_at (stand_behind stand (further stand b.0)) left b.1 >>= λ bs.
    Ok (b.0 ∷ bs.0, bs.1)

-- the lengths that an address can have
abbrev pub is_length : ℕ → Bool
is_length n = nat_lt 2 n && nat_lt n 255

unfoldable pub length_at : Cursor → Read ℕ
length_at = led_at (0 ∷ []) (byte_at is_length)

unfoldable pub address_at : Cursor → Read (Bytes)
address_at = keyed_at length_at (rest_at stands.AtomBegins)

-- The other fields.

unfoldable pub moment_at : Cursor → Read ℕ
moment_at = number_at END_OF_TIME 8 0

unfoldable pub number_32_at : Cursor → Read ℕ
number_32_at = number_at (2 ^ 32) 4 0

abbrev pub id_from : ℕ × ℕ → Id
id_from p = record { provider = p.0; number = p.1 }

unfoldable pub id_at : Cursor → Read Id
id_at = seen_at id_from (both_at number_32_at (number_at MESSAGES 8 0))

unfoldable pub bytes_at : Cursor → Read (Bytes)
bytes_at = keyed_at number_32_at raw_at

unfoldable pub addresses_at : Cursor → Read (Path)
addresses_at = keyed_at number_32_at (times_at address_at)

abbrev pub decision_table : List (Bytes × Decision)
decision_table =
    (0 ∷ [], decisions.Placed) ∷ (1 ∷ [], decisions.Refused refusals.NoMailbox)
    ∷ (2 ∷ [], decisions.Refused refusals.MailboxFull) ∷ (3 ∷ [], decisions.Refused refusals.Virus) ∷ []

abbrev pub cause_rows : List Cause → List (Bytes × Cause)
cause_rows causes = map (λ (cause : Cause). (cause_field cause, cause)) causes

abbrev pub cause_table : List (Bytes × Cause)
cause_table = cause_rows all_causes

abbrev pub tag_table : List (Bytes × Tag)
tag_table =
    (0 ∷ [], tags.Start) ∷ (1 ∷ [], tags.Accepted) ∷ (2 ∷ [], tags.NotAccepted) ∷ (3 ∷ [], tags.Took)
    ∷ (4 ∷ [], tags.Decided) ∷ (5 ∷ [], tags.Charged) ∷ (6 ∷ [], tags.Learned) ∷ (7 ∷ [], tags.Acked)
    ∷ (8 ∷ [], tags.Ticked) ∷ (9 ∷ [], tags.Anomaly) ∷ (10 ∷ [], tags.StartTwo) ∷ (11 ∷ [], tags.Upgraded)
    ∷ (12 ∷ [], tags.Archived) ∷ []

-- The fields behind each tag.

-- what a journal begins with: the number of its provider, and the digest of a directory
unfoldable pub origin_at : Cursor → Read (ℕ × Bytes)
origin_at = both_at number_32_at (raw_at 32)

abbrev pub start_from : ℕ × Bytes → Entry
start_from p = entries.Start p.0 p.1

unfoldable pub start_at : Cursor → Read Entry
start_at = seen_at start_from origin_at

abbrev pub accepted_from : ℕ × (Bytes × Bytes) → Entry
accepted_from p = entries.Accepted p.0 p.1.0 p.1.1

unfoldable pub accepted_at : Cursor → Read Entry
accepted_at = seen_at accepted_from (both_at moment_at (both_at address_at bytes_at))

abbrev pub not_accepted_from : ℕ × (Bytes × (Cause × (Path × Bytes))) → Entry
not_accepted_from p = entries.NotAccepted p.0 p.1.0 p.1.1.0 p.1.1.1.0 p.1.1.1.1

unfoldable pub not_accepted_at : Cursor → Read Entry
not_accepted_at =
    seen_at not_accepted_from
    (both_at moment_at (both_at address_at (both_at (choice_at cause_table) (both_at addresses_at bytes_at))))

abbrev pub took_from : ℕ × (Id × Bytes) → Entry
took_from p = entries.Took p.0 p.1.0 p.1.1

unfoldable pub took_at : Cursor → Read Entry
took_at = seen_at took_from (both_at moment_at (both_at id_at bytes_at))

abbrev pub decided_from : ℕ × (Id × (Bytes × Decision)) → Entry
decided_from p = entries.Decided p.0 p.1.0 p.1.1.0 p.1.1.1

unfoldable pub decided_at : Cursor → Read Entry
decided_at = seen_at decided_from (both_at moment_at (both_at id_at (both_at address_at (choice_at decision_table))))

abbrev pub charged_from : ℕ × (Id × ℕ) → Entry
charged_from p = entries.Charged p.0 p.1.0 p.1.1

unfoldable pub charged_at : Cursor → Read Entry
charged_at = seen_at charged_from (both_at moment_at (both_at id_at number_32_at))

abbrev pub learned_from : ℕ × (Id × (Bytes × (Decision × (ℕ × Bytes)))) → Entry
learned_from p = entries.Learned p.0 p.1.0 p.1.1.0 p.1.1.1.0 p.1.1.1.1.0 p.1.1.1.1.1

unfoldable pub learned_at : Cursor → Read Entry
learned_at =
    seen_at learned_from
    (both_at moment_at (both_at id_at (both_at address_at (both_at (choice_at decision_table) (both_at moment_at bytes_at)))))

abbrev pub acked_from : ℕ × (Id × Bytes) → Entry
acked_from p = entries.Acked p.0 p.1.0 p.1.1

unfoldable pub acked_at : Cursor → Read Entry
acked_at = seen_at acked_from (both_at moment_at (both_at id_at address_at))

abbrev pub ticked_from : ℕ → Entry
ticked_from moment = entries.Ticked moment

unfoldable pub ticked_at : Cursor → Read Entry
ticked_at = seen_at ticked_from moment_at

abbrev pub anomaly_from : ℕ × (Path × Bytes) → Entry
anomaly_from p = entries.Anomaly p.0 p.1.0 p.1.1

unfoldable pub anomaly_at : Cursor → Read Entry
anomaly_at = seen_at anomaly_from (both_at moment_at (both_at addresses_at bytes_at))

abbrev pub start_two_from : ℕ × Bytes → Entry
start_two_from p = entries.StartTwo p.0 p.1

unfoldable pub start_two_at : Cursor → Read Entry
start_two_at = seen_at start_two_from origin_at

abbrev pub upgraded_from : ℕ → Entry
upgraded_from moment = entries.Upgraded moment

unfoldable pub upgraded_at : Cursor → Read Entry
upgraded_at = seen_at upgraded_from moment_at

abbrev pub archived_from : ℕ × (Bytes × ℕ) → Entry
archived_from p = entries.Archived p.0 p.1.0 p.1.1

unfoldable pub archived_at : Cursor → Read Entry
archived_at = seen_at archived_from (both_at moment_at (both_at address_at number_32_at))

abbrev pub fields_at : Tag → Cursor → Read Entry
fields_at tags.Start = start_at
fields_at tags.Accepted = accepted_at
fields_at tags.NotAccepted = not_accepted_at
fields_at tags.Took = took_at
fields_at tags.Decided = decided_at
fields_at tags.Charged = charged_at
fields_at tags.Learned = learned_at
fields_at tags.Acked = acked_at
fields_at tags.Ticked = ticked_at
fields_at tags.Anomaly = anomaly_at
fields_at tags.StartTwo = start_two_at
fields_at tags.Upgraded = upgraded_at
fields_at tags.Archived = archived_at

unfoldable pub entry_at : Cursor → Read Entry
entry_at = keyed_at (choice_at tag_table) fields_at

abbrev pub answer_of : Bytes → Result Entry Bytes → Result Entry EntryFault
answer_of bytes (Ok entry) = Ok entry
answer_of bytes (Err stop) = Err (faults.Syntax (length bytes - length stop))

-- the entry that these bytes are, or their fault
unfoldable pub entry_of : Bytes → Result Entry EntryFault
entry_of bytes = answer_of bytes (ending (entry_at (record { rest = bytes; farthest = bytes })))
