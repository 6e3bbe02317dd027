-- Who may come to the desk of a network: an account with its own key (`pass_of`). This project's profile.
use Rattle.std.specs.Prelude.{ℕ, List, Option, None, Some, slice_get, if◌then◌else◌}
use Rattle.std.specs.Str.{bytes_eq}
use Rattle.pec_types.specs.Bytes.{Bytes}
use Rattle.pec_directory.specs.Directory.{Account, Kept, account_home, account_of, providers_of}
use Rattle.pec_http.specs.declared.passes.Pass.{Pass}
use Rattle.pec_http.specs.declared.passes.Pass.TheVariants as passes

-- the most bytes of a message that a provider takes
abbrev pub limit_in : Option Kept → ℕ
limit_in None = 0
limit_in (Some kept) = kept.provider.limit

-- an account, by what is said of it: its key is the one that was given, or isn't
abbrev pub keyed : ℕ → Option Account → Bytes → Pass
keyed limit None key = passes.WrongKey
keyed limit (Some account) key = if bytes_eq key account.key then passes.Admitted limit else passes.WrongKey

-- an address, by the number of the provider whose account it is
abbrev pub passed : List Kept → Bytes → Bytes → Option ℕ → Pass
passed kept address key None = passes.NoAddress
passed kept address key (Some number) = keyed (limit_in (slice_get kept number)) (account_of (providers_of kept) address) key

-- What is said of an address and a key.
unfoldable pub pass_of : List Kept → Bytes → Bytes → Pass
pass_of kept address key = passed kept address key (account_home (providers_of kept) address)
