-- The forms of the commands, as a table: for each verb its word, of which kind each of its arguments is, and which command
-- they make. This project's profile.
use Rattle.std.specs.Prelude.{ℕ, List, [], ◌∷◌, codes}
use Rattle.pec_types.specs.Bytes.{Bytes, Path}
use Rattle.pec_script.specs.declared.commands.Command.{Command}
use Rattle.pec_script.specs.declared.commands.Command.TheVariants as commands
use Rattle.pec_script.specs.declared.verbs.Verb.{Verb}
use Rattle.pec_script.specs.declared.verbs.Verb.TheVariants.{Submit, Tick, Round, Lose, Repeat, Swap, Inject, Crash, Restart, Book, Mailbox, Show, Archive, Upgrade, Vault, VaultShow, Screen}

-- What an argument is.
pub data Kind : Type 0 where
  -- the name of a provider of the directory
  provider : Kind
  -- a moment, in seconds since 1970-01-01T00:00:00Z
  moment : Kind
  -- a place, from 0
  place : Kind
  -- one address
  address : Kind
  -- addresses joined by commas
  path : Kind
  -- bytes, in base64
  base64 : Kind

-- What an argument of a kind says: a provider by its number, an address and a path in lower case, bytes decoded.
abbrev pub Meaning : Kind → Type 0
Meaning provider = ℕ
Meaning moment = ℕ
Meaning place = ℕ
Meaning address = Bytes
Meaning path = Path
Meaning base64 = Bytes

-- what arguments of these kinds say, one after another
abbrev pub Said : List Kind → Type 0
Said [] = Unit {0}
Said (kind ∷ kinds) = Meaning kind × Said kinds

-- A row of the table: the verb's word, and the kinds of the arguments behind it.
pub record Form : Type 0 where
  pub word : Bytes
  pub kinds : List Kind

-- The table.
abbrev pub form_of : Verb → Form
form_of Submit = record { word = codes "submit"; kinds = provider ∷ moment ∷ address ∷ path ∷ base64 ∷ [] }
form_of Tick = record { word = codes "tick"; kinds = provider ∷ moment ∷ [] }
form_of Round = record { word = codes "round"; kinds = moment ∷ [] }
form_of Lose = record { word = codes "lose"; kinds = provider ∷ provider ∷ place ∷ [] }
form_of Repeat = record { word = codes "repeat"; kinds = provider ∷ provider ∷ place ∷ [] }
form_of Swap = record { word = codes "swap"; kinds = provider ∷ provider ∷ place ∷ [] }
form_of Inject = record { word = codes "inject"; kinds = provider ∷ provider ∷ base64 ∷ [] }
form_of Crash = record { word = codes "crash"; kinds = provider ∷ [] }
form_of Restart = record { word = codes "restart"; kinds = provider ∷ [] }
form_of Book = record { word = codes "book"; kinds = address ∷ [] }
form_of Mailbox = record { word = codes "mailbox"; kinds = address ∷ [] }
form_of Show = record { word = codes "show"; kinds = address ∷ place ∷ [] }
form_of Archive = record { word = codes "archive"; kinds = address ∷ moment ∷ place ∷ [] }
form_of Upgrade = record { word = codes "upgrade"; kinds = provider ∷ moment ∷ [] }
form_of Vault = record { word = codes "vault"; kinds = address ∷ [] }
form_of VaultShow = record { word = codes "vault-show"; kinds = address ∷ place ∷ [] }
form_of Screen = record { word = codes "screen"; kinds = provider ∷ place ∷ [] }

-- the kinds of a verb's arguments
abbrev pub kinds_of : Verb → List Kind
kinds_of verb = (form_of verb).kinds

-- The command that a verb and its arguments make.
abbrev pub made : (verb : Verb) → Said (kinds_of verb) → Command
made Submit said = commands.Submit said.0 said.1.0 said.1.1.0 said.1.1.1.0 said.1.1.1.1.0
made Tick said = commands.Tick said.0 said.1.0
made Round said = commands.Round said.0
made Lose said = commands.Lose said.0 said.1.0 said.1.1.0
made Repeat said = commands.Repeat said.0 said.1.0 said.1.1.0
made Swap said = commands.Swap said.0 said.1.0 said.1.1.0
made Inject said = commands.Inject said.0 said.1.0 said.1.1.0
made Crash said = commands.Crash said.0
made Restart said = commands.Restart said.0
made Book said = commands.Book said.0
made Mailbox said = commands.Mailbox said.0
made Show said = commands.Show said.0 said.1.0
made Archive said = commands.Archive said.0 said.1.0 said.1.1.0
made Upgrade said = commands.Upgrade said.0 said.1.0
made Vault said = commands.Vault said.0
made VaultShow said = commands.VaultShow said.0 said.1.0
made Screen said = commands.Screen said.0 said.1.0

-- all verbs
abbrev pub verbs : List Verb
verbs =
    Submit ∷ Tick ∷ Round ∷ Lose ∷ Repeat ∷ Swap ∷ Inject ∷ Crash ∷ Restart ∷ Book ∷ Mailbox ∷ Show ∷ Archive ∷ Upgrade
    ∷ Vault ∷ VaultShow ∷ Screen ∷ []
