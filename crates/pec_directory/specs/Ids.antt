-- The names of messages (`pec.NNNNNNN@DOMAIN`, from a provider's first domain and a number in seven digits), and which
-- message a text names: `Names`, and the function beside it, `id_of`. This project's profile.
use Rattle.std.specs.Prelude.{◌≡◌, ℕ, ◌<◌, nat_le, Bool, List, length, take, drop, Option, Some, None, if◌then◌else◌}
use Rattle.std.specs.List.{position_from}
use Rattle.std.specs.Str.{bytes_eq}
use Rattle.pec_types.specs.Bytes.{Bytes}
use Rattle.pec_types.specs.Message.{Id}
use Rattle.pec_types.specs.Words.{id_text, number_in}
use Rattle.pec_types.specs.declared.messages.TheConstants.{MESSAGES}
use Rattle.pec_directory.specs.Directory.{Provider, first_domain, first_of}

-- The text names this message: it is printed of the first domain of a provider of the directory, and a number below
-- 1,000,000.
pub record Names (providers : List Provider) (text : Bytes) (id : Id) : Type 0 where
  pub provider : id.provider < length providers
  pub number : id.number < MESSAGES
  pub printed : text ≡ id_text (first_domain providers id.provider) id.number

-- the number in the seven bytes behind `pec.`, whatever they are
unfoldable pub number_named : Bytes → ℕ
number_named text = number_in (take 7 (drop 4 text))

-- the name of the provider's message of this number prints as the text
abbrev pub prints : Bytes → ℕ → Provider → Bool
prints text number provider = bytes_eq text (id_text (first_of provider.domains) number)

-- the first provider whose message of this number has the text for its name
unfoldable pub provider_named : List Provider → Bytes → ℕ → Option ℕ
provider_named providers text number = position_from (prints text number) 0 providers

-- the message of this number, where there is a provider
abbrev pub id_at : ℕ → Option ℕ → Option Id
id_at number None = None
id_at number (Some provider) = Some (record { provider = provider; number = number })

-- the message that a text names, by printing: there is one where a name prints as the text
unfoldable pub id_of : List Provider → Bytes → Option Id
id_of providers text =
    if nat_le MESSAGES (number_named text) then None
    else id_at (number_named text) (provider_named providers text (number_named text))
