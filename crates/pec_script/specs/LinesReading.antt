-- How a line is read, word by word: `command_of`. That this finds the commands and the faults of `Lines`, and no others, is a
-- law of the crate.
use Rattle.std.specs.Prelude.{ℕ, ◌+◌, ◌^◌, ◌==◌, List, [], ◌∷◌, length, Option, Some, None, Result, Ok, Err, find, if◌then◌else◌}
use Rattle.std.specs.List.{slice_split}
use Rattle.std.specs.Result.{result_ok}
use Rattle.std.specs.Str.{bytes_eq}
use Rattle.base64.specs.Engines.{standard}
use Rattle.base64.specs.GeneralPurpose.{decode_of}
use Rattle.pec_directory.specs.Directory.{Provider, named}
use Rattle.pec_types.specs.AddressReading.{address_of}
use Rattle.pec_types.specs.Bytes.{Bytes, space}
use Rattle.pec_types.specs.Results.{◌>>=◌}
use Rattle.pec_types.specs.declared.moments.TheConstants.{END_OF_TIME}
use Rattle.pec_script.specs.Forms.{Kind, provider, moment, place, address, path, base64, Meaning, Said, form_of, kinds_of, made, verbs}
use Rattle.pec_script.specs.Lines.{fault_of}
use Rattle.pec_script.specs.declared.commands.Command.{Command}
use Rattle.pec_script.specs.declared.faults.LineFault.{LineFault}
use Rattle.pec_script.specs.declared.faults.LineFault.TheVariants.{UnknownWord, Arity}
use Rattle.pec_script.specs.declared.verbs.Verb.{Verb}
use Rattle.pec_words.specs.Cuts.{is_at}
use Rattle.pec_words.specs.Numbers.{number_below}
use Rattle.pec_words.specs.Paths.{path_of}

unfoldable pub moment_of : Bytes → Option ℕ
moment_of text = number_below END_OF_TIME text

unfoldable pub place_of : Bytes → Option ℕ
place_of text = number_below (2 ^ 32) text

unfoldable pub message_of : Bytes → Option Bytes
message_of text = result_ok (decode_of standard text)

unfoldable pub address_in : Bytes → Option Bytes
address_in text = result_ok (address_of text)

-- what the text of an argument says, of its kind
abbrev pub meaning_of : List Provider → (kind : Kind) → Bytes → Option (Meaning kind)
meaning_of providers provider = named providers
meaning_of providers moment = moment_of
meaning_of providers place = place_of
meaning_of providers address = address_in
meaning_of providers path = path_of
meaning_of providers base64 = message_of

-- what is there, or this fault
unfoldable pub or_fault : {A : Type 0} → LineFault → Option A → Result A LineFault
or_fault fault None = Err fault
or_fault fault (Some value) = Ok value

-- the next of these texts, and those behind it
unfoldable pub next_of : List Bytes → Result (Bytes × List Bytes) LineFault
next_of [] = Err Arity
next_of (text ∷ texts) = Ok (text, texts)

-- arguments of these kinds, the first of which has this number, and what is made of them
abbrev pub arguments_of : List Provider → (kinds : List Kind) → ℕ → List Bytes → (Said kinds → Command) → Result Command LineFault
arguments_of providers [] number texts makes = Ok (makes tt)
arguments_of providers (kind ∷ kinds) number texts makes =
    next_of texts >>= λ next.
    or_fault (fault_of kind number) (meaning_of providers kind next.0) >>= λ meaning.
    arguments_of providers kinds (number + 1) next.1 (λ said. makes (meaning, said))

-- the command of a verb, from the texts of its arguments
abbrev pub made_of : List Provider → Verb → List Bytes → Result Command LineFault
made_of providers verb texts = arguments_of providers (kinds_of verb) 1 texts (made verb)

-- the word of a verb
unfoldable pub word_of : Verb → Bytes
word_of verb = (form_of verb).word

-- the verb of a word
unfoldable pub verb_of : Bytes → Option Verb
verb_of word = find (λ verb. bytes_eq word (word_of verb)) verbs

abbrev pub counted : List Provider → List Bytes → Option Verb → Result Command LineFault
counted providers texts None = Err UnknownWord
counted providers texts (Some verb) = if length texts == length (kinds_of verb) then made_of providers verb texts else Err Arity

abbrev pub command_in : List Provider → List Bytes → Result Command LineFault
command_in providers [] = Err UnknownWord
command_in providers (word ∷ texts) = counted providers texts (verb_of word)

-- The command that a line says, or why it says none.
unfoldable pub command_of : List Provider → Bytes → Result Command LineFault
command_of providers line = command_in providers (slice_split (is_at space) line)
