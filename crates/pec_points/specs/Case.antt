-- What an access point sees of a message that an account hands in: `Case`. The limit is that of a provider of the
-- directory. This project's profile.
use Rattle.std.specs.Prelude.{ℕ, Bool, false, List, Option, Some, None, slice_get}
use Rattle.pec_types.specs.Bytes.{Bytes, Path}
use Rattle.pec_directory.specs.Directory.{Provider}

-- The provider's limit in bytes, the account that hands the message in, the forward path and the message; and whether
-- some screen of the provider finds a rule in the message.
pub record Case : Type 0 where
  pub limit : ℕ
  pub sender : Bytes
  pub path : Path
  pub message : Bytes
  pub found : Bool

abbrev pub limit_in : Option Provider → ℕ
limit_in None = 0
limit_in (Some provider) = provider.limit

-- The limit of the provider of a number, from 0, and 0 where there is none.
unfoldable pub limit_of : List Provider → ℕ → ℕ
limit_of providers number = limit_in (slice_get providers number)

-- The same case where no screen finds a rule.
abbrev pub unscreened : Case → Case
unscreened case = record case { found = false }

-- The case at the provider of a number.
abbrev pub case_at : List Provider → ℕ → Bytes → Path → Bytes → Bool → Case
case_at providers number sender path message found = record {
  limit = limit_of providers number;
  sender = sender;
  path = path;
  message = message;
  found = found;
}
