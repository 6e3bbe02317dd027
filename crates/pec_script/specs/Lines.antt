-- What a line of a script says, or why it says nothing: `IsCommand` and `IsLineFault`. A line is cut at each space: a verb, and
-- its arguments. Words are counted before arguments are read, and these from the left. This project's profile; base64 by RFC 4648,
-- section 4, padded and canonical.
use Rattle.std.specs.Prelude.{◌≡◌, ◌≢◌, ℕ, ◌+◌, ◌<◌, ◌^◌, List, [], ◌∷◌, length, Some, Ok}
use Rattle.std.specs.Prelude.{◌⊎◌}
use Rattle.base64.specs.Engines.{standard}
use Rattle.base64.specs.GeneralPurpose.{decode_of}
use Rattle.pec_directory.specs.Directory.{Provider, named}
use Rattle.pec_types.specs.Address.{IsReadAs}
use Rattle.pec_types.specs.Bytes.{Bytes, space}
use Rattle.pec_types.specs.declared.moments.TheConstants.{END_OF_TIME}
use Rattle.pec_script.specs.Forms.{Kind, provider, moment, place, address, path, base64, Meaning, Said, form_of, kinds_of, made}
use Rattle.pec_script.specs.declared.commands.Command.{Command}
use Rattle.pec_script.specs.declared.faults.LineFault.{LineFault}
use Rattle.pec_script.specs.declared.faults.LineFault.TheVariants.{UnknownWord, Arity, BadNumber, BadAddress, BadBase64, UnknownProvider, NoMemory}
use Rattle.pec_script.specs.declared.verbs.Verb.{Verb}
use Rattle.pec_words.specs.Cuts.{IsCut}
use Rattle.pec_words.specs.Numbers.{IsNumber}
use Rattle.pec_words.specs.Paths.{IsPath}

-- The text of an argument says this of its kind. A number is printed in decimal, with no sign and no leading zero.
abbrev pub Says : List Provider → (kind : Kind) → Bytes → Meaning kind → Type 0
Says providers provider text number = named providers text ≡ Some number
Says providers moment text seconds = IsNumber END_OF_TIME text seconds
Says providers place text at = IsNumber (2 ^ 32) text at
Says providers address text bytes = IsReadAs text bytes
Says providers path text addresses = IsPath text addresses
Says providers base64 text bytes = decode_of standard text ≡ Ok bytes

-- the texts of arguments, as many as there are kinds, say this
abbrev pub AllSay : List Provider → (kinds : List Kind) → List Bytes → Said kinds → Type 0
AllSay providers [] [] said = Unit {0}
AllSay providers [] (text ∷ texts) said = ⊥
AllSay providers (kind ∷ kinds) [] said = ⊥
AllSay providers (kind ∷ kinds) (text ∷ texts) said = Says providers kind text said.0 × AllSay providers kinds texts said.1

-- The line says this command: a verb's word and as many arguments as its form has, of which each says something of its kind.
pub record IsCommand (providers : List Provider) (line : Bytes) (command : Command) : Type 0 where
  pub verb : Verb
  pub arguments : List Bytes
  pub said : Said (kinds_of verb)
  pub line_is : IsCut space line ((form_of verb).word ∷ arguments)
  pub arguments_say : AllSay providers (kinds_of verb) arguments said
  pub command_is : command ≡ made verb said

-- what is wrong with an argument of a kind, by its number
abbrev pub fault_of : Kind → ℕ → LineFault
fault_of provider number = UnknownProvider number
fault_of moment number = BadNumber number
fault_of place number = BadNumber number
fault_of address number = BadAddress number
fault_of path number = BadAddress number
fault_of base64 number = BadBase64 number

-- the text says nothing of this kind
abbrev pub SaysNothing : List Provider → Kind → Bytes → Type 0
SaysNothing providers kind text = (meaning : Meaning kind) → Says providers kind text meaning → ⊥

-- Of these arguments, the first of which has this number, the first that says nothing of its kind has this fault.
abbrev pub IsFirstWrong : List Provider → ℕ → List Kind → List Bytes → LineFault → Type 0
IsFirstWrong providers number [] texts fault = ⊥
IsFirstWrong providers number (kind ∷ kinds) [] fault = ⊥
IsFirstWrong providers number (kind ∷ kinds) (text ∷ texts) fault =
    (SaysNothing providers kind text × (fault ≡ fault_of kind number))
    ⊎ ((meaning : Meaning kind) × Says providers kind text meaning × IsFirstWrong providers (number + 1) kinds texts fault)

-- the first word is no verb's
pub record IsUnknownWord (line : Bytes) : Type 0 where
  pub word : Bytes
  pub arguments : List Bytes
  pub line_is : IsCut space line (word ∷ arguments)
  pub none : (verb : Verb) → word ≢ (form_of verb).word

-- there are more or fewer words than the verb's form has
pub record IsOtherCount (line : Bytes) : Type 0 where
  pub verb : Verb
  pub arguments : List Bytes
  pub line_is : IsCut space line ((form_of verb).word ∷ arguments)
  pub other : length arguments ≢ length (kinds_of verb)

-- there are as many words as the verb's form has, and the first argument that is wrong, counted from 1, has this fault
pub record HasWrong (providers : List Provider) (line : Bytes) (fault : LineFault) : Type 0 where
  pub verb : Verb
  pub arguments : List Bytes
  pub line_is : IsCut space line ((form_of verb).word ∷ arguments)
  pub count : length arguments ≡ length (kinds_of verb)
  pub wrong : IsFirstWrong providers 1 (kinds_of verb) arguments fault

-- The line says no command, for this cause.
abbrev pub IsLineFault : List Provider → Bytes → LineFault → Type 0
IsLineFault providers line UnknownWord = IsUnknownWord line
IsLineFault providers line Arity = IsOtherCount line
IsLineFault providers line (BadNumber number) = HasWrong providers line (BadNumber number)
IsLineFault providers line (BadAddress number) = HasWrong providers line (BadAddress number)
IsLineFault providers line (BadBase64 number) = HasWrong providers line (BadBase64 number)
IsLineFault providers line (UnknownProvider number) = HasWrong providers line (UnknownProvider number)
IsLineFault providers line NoMemory = ⊥
