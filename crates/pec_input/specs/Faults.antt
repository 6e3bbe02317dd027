-- How a refused directory is written: `refused directory`, and the fault by its word and its numbers. Providers count
-- from 0, and a provider's accounts from 1, where 0 is its receipt address; places in LDIF count bytes from 0. This
-- project's profile.
use Rattle.std.specs.Prelude.{ℕ, [], ◌∷◌, codes}
use Rattle.std.specs.Fmt.{decimal}
use Rattle.pec_types.specs.Bytes.{Bytes}
use Rattle.pec_directory.specs.declared.faults.DirectoryFault.{DirectoryFault}
use Rattle.pec_directory.specs.declared.faults.DirectoryFault.TheVariants as refusals
use Rattle.pec_directory.specs.declared.faults.Field.{Field}
use Rattle.pec_directory.specs.declared.faults.Field.TheVariants as fields
use Rattle.pec_ldif.specs.declared.faults.LdifFault.{LdifFault}
use Rattle.pec_ldif.specs.declared.faults.LdifFault.TheVariants as ldif
use Rattle.pec_ldif.specs.declared.refusals.LdifRefused.TheVariants as whys
use Rattle.pec_script.specs.Texts.{Row, text_of}
use Rattle.pec_input.specs.Directory.{Refusal}

-- a field by its name in the TOML
abbrev pub field_word : Field → Bytes
field_word fields.Name = codes "name"
field_word fields.MailReceipt = codes "mailReceipt"
field_word fields.ManagedDomains = codes "managedDomains"
field_word fields.Key = codes "key"
field_word fields.Zone = codes "zone"
field_word fields.Limit = codes "limit"
field_word fields.Account = codes "account"
field_word fields.Address = codes "address"
field_word fields.Quota = codes "quota"

-- the provider, or the provider and the account, behind a word
abbrev pub provider_words : Bytes → ℕ → Row
provider_words word provider = word ∷ decimal provider ∷ []

abbrev pub account_words : Bytes → ℕ → ℕ → Row
account_words word provider account = word ∷ decimal provider ∷ decimal account ∷ []

abbrev pub field_words : ℕ → Field → Row
field_words provider field = codes "bad-field" ∷ decimal provider ∷ field_word field ∷ []

-- A fault by its word and its numbers. Want of memory is never written.
abbrev pub directory_words : DirectoryFault → Row
directory_words refusals.NotToml = codes "not-toml" ∷ []
directory_words (refusals.BadField provider field) = field_words provider field
directory_words (refusals.NameTwice provider) = provider_words (codes "name-twice") provider
directory_words (refusals.DomainTwice provider) = provider_words (codes "domain-twice") provider
directory_words (refusals.BadAddress provider account) = account_words (codes "bad-address") provider account
directory_words (refusals.AccountOutside provider account) = account_words (codes "account-outside") provider account
directory_words (refusals.AccountTwice provider account) = account_words (codes "account-twice") provider account
directory_words (refusals.BadKey provider) = provider_words (codes "bad-key") provider
directory_words (refusals.BadZone provider) = provider_words (codes "bad-zone") provider
directory_words refusals.TooMany = codes "too-many" ∷ []
directory_words refusals.NoProvider = codes "no-provider" ∷ []
directory_words refusals.NoMemory = []

-- the place behind a word, for a text of LDIF
abbrev pub place_words : Bytes → ℕ → Row
place_words word place = codes "ldif" ∷ word ∷ decimal place ∷ []

-- A fault of LDIF by its word and its place. Want of memory is never written.
abbrev pub ldif_words : LdifFault → Row
ldif_words (ldif.Syntax place) = place_words (codes "syntax") place
ldif_words (ldif.BadBase64 place) = place_words (codes "base64") place
ldif_words (ldif.NoDn place) = place_words (codes "no-dn") place
ldif_words (ldif.Change place) = place_words (codes "change") place
ldif_words (ldif.Orphan place) = place_words (codes "orphan") place
ldif_words ldif.NoMemory = []

-- why a directory is refused, by its words
abbrev pub refusal_words : Refusal → Row
refusal_words (whys.Ldif fault) = ldif_words fault
refusal_words (whys.Directory fault) = directory_words fault
refusal_words whys.NoMemory = []

-- the words of the line
abbrev pub refused_directory_words : Refusal → Row
refused_directory_words why = codes "refused" ∷ codes "directory" ∷ refusal_words why

-- The line of a refused directory.
unfoldable pub refused_directory_text : Refusal → Bytes
refused_directory_text why = text_of (refused_directory_words why ∷ [])
