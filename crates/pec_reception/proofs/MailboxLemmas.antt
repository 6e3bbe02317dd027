-- What the decision sees of a recipient, by the directory and the half.
use Rattle.std.proofs.Common.{◌≡◌, ℕ, List, Bool, refl}
use Rattle.pec_types.specs.Bytes.{Bytes}
use Rattle.pec_directory.specs.Directory.{Kept, is_account_of, providers_of}
use Rattle.pec_points.specs.Decision.{Mailbox}
use Rattle.pec_ledger.specs.Half.{Half}
use Rattle.pec_ledger.specs.Lookups.{counted}
use Rattle.pec_ledger.specs.OfDirectory.{IsOf, quota_of}
use Rattle.pec_ledger.specs.Trade.{Trade}
use Rattle.pec_plays.specs.TableSight.{mailbox_at}

abbrev pub mailbox_of : Bool → Bool → ℕ → ℕ → Mailbox
mailbox_of account virus count quota = record { account = account; virus = virus; count = count; quota = quota }

pub mailbox_is : (kept : List Kept) (trade : Trade) → IsOf kept trade → (me : ℕ) (half : Half) (recipient : Bytes)
    (account found : Bool) (count quota : ℕ)
    → account ≡ is_account_of (providers_of kept) me recipient → count ≡ counted half recipient
    → quota ≡ quota_of (providers_of kept) recipient
    → mailbox_of account found count quota ≡ mailbox_at trade me half recipient found
unfolding mailbox_at
mailbox_is kept trade of me half recipient account found count quota a b c = rw
    (a, b, c, of.is_account me recipient, of.quota recipient) refl
