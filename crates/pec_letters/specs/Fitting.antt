-- What those who compose a letter know: that a sealer and a directory speak of the same providers (`Fits`), and what a message is
-- that a provider may send (`IsSent`).
use Rattle.std.specs.Prelude.{◌≡◌, ℕ, List, Option, Some, slice_get}
use Rattle.std.specs.Option.{option_map}
use Rattle.pec_types.specs.Bytes.{Bytes}
use Rattle.pec_types.specs.Message.{Id}
use Rattle.pec_types.specs.declared.messages.Facts.{Facts}
use Rattle.pec_heads.specs.FactsOfHeads.{IsFacts}
use Rattle.pec_heads.specs.Heads.{IsHead, NamedValue}
use Rattle.pec_directory.specs.Directory.{Provider, home_of}
use Rattle.pec_seal.specs.Seals.{Seals}

-- the name of the provider of a number, where there is one
abbrev pub name_at : List Provider → ℕ → Option Bytes
name_at providers number = option_map (λ (provider : Provider). provider.name) (slice_get providers number)

-- The sealer's providers have the numbers and the names of the directory's, and there are no others.
pub record Fits (seals : Seals) (providers : List Provider) : Type 0 where
  pub names : (number : ℕ) → seals.name_of number ≡ name_at providers number

-- the message begins with a head of these facts
pub record HasFacts (message : Bytes) (facts : Facts) : Type 0 where
  pub fields : List NamedValue
  pub place : ℕ
  pub head : IsHead message fields place
  pub facts_are : IsFacts fields facts

-- the provider of the message is the home of its sender
pub record IsSentFrom (providers : List Provider) (id : Id) (facts : Facts) : Type 0 where
  pub home : home_of providers facts.sender ≡ Some id.provider
