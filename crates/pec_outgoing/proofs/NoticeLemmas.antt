-- A notice along a path in lower case is the trade's.
use Rattle.std.proofs.Common.{◌≡◌, ℕ, Bool, true, cond, List, [], ◌∷◌, None, refl, ap, sym, ◌∙◌}
use Rattle.std.specs.List.{AllByRecursion, list_all}
use Rattle.std.proofs.lemmas.Bool.{and_from}
use Rattle.std.proofs.lemmas.Slice.Eq.{bytes_eq-Decides}
use Rattle.pec_types.specs.Address.{IsAddressFault, IsLowerAddress, IsReadAs}
use Rattle.pec_types.specs.AddressReading.{address_of}
use Rattle.pec_types.specs.Answers.{TellsExactly}
use Rattle.pec_types.specs.Bytes.{Bytes, Path}
use Rattle.pec_types.specs.Message.{Id}
use Rattle.pec_types.specs.declared.messages.Cause.{Cause}
use Rattle.pec_types.specs.declared.messages.Facts.{Facts}
use Rattle.pec_types.specs.declared.receipts.Kind.TheVariants as kinds
use Rattle.pec_cert.specs.ValueTests.{is_kept, is_lower}
use Rattle.pec_directory.specs.Directory.{Kept}
use Rattle.pec_seal.specs.Seals.{Seals}
use Rattle.pec_receipts.specs.declared.receipts.Receipt.{Receipt as Given}
use Rattle.pec_trade.specs.Refused.{refused_facts}
use Rattle.pec_trade.specs.Texts.{given_text, or_none, refusal, refusal_bytes}

-- what the law of addresses says
abbrev pub Told : Type 0
Told = (text : Bytes) → TellsExactly (IsReadAs text) (IsAddressFault text) (address_of text)

lower_again : Told → (bytes : Bytes) → IsLowerAddress bytes → is_lower bytes ≡ true
unfolding is_lower
lower_again told bytes lower =
    ap (is_kept bytes) (((told bytes).value bytes).1 (lower.address, sym lower.lower))
    ∙ (bytes_eq-Decides bytes bytes).1 refl

path_again : Told → (path : Path) → AllByRecursion IsLowerAddress path → list_all is_lower path ≡ true
path_again told [] all = refl
path_again told (a ∷ path) all = and_from (is_lower a) (list_all is_lower path) (lower_again told a all.0) (path_again
    told path all.1)

-- the notice with these facts, by this provider
abbrev notice_by : Id → ℕ → Cause → ℕ → Facts → Given
notice_by id moment cause by facts = record {
  kind = kinds.NonAcceptance cause;
  id = id;
  by = by;
  moment = moment;
  facts = facts;
  recipient = None;
}

pub refusal_so : Told → (kept : List Kept) (seals : Seals) (id : Id) (moment by : ℕ) (account : Bytes) (cause : Cause)
    (path : Path) (message text : Bytes) (facts : Facts)
    → AllByRecursion IsLowerAddress path → by ≡ id.provider → facts ≡ refused_facts account path message
    → text ≡ or_none (given_text kept seals (notice_by id moment cause by facts) message)
    → text ≡ refusal_bytes kept seals id moment account cause path message
unfolding refusal_bytes
refusal_so told kept seals id moment by account cause path message text facts lower ours same given =
    let from : Given → Bytes = λ r. or_none (given_text kept seals r message)
    in given
    ∙ ap (λ (b : ℕ). from (notice_by id moment cause b facts)) ours
    ∙ ap (λ (f : Facts). from (notice_by id moment cause id.provider f)) same
    ∙ ap (λ (t : Bool). cond t (from (refusal id moment account cause path message)) []) (sym (path_again told path
    lower))
