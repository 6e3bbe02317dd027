-- What a notice of non-acceptance says of a message that a provider didn't accept, whatever its head: `refused_facts`
-- (RFC 6109, section 3.1.1, for what the notice is for; this project's profile).
use Rattle.std.specs.Prelude.{[], Option, codes}
use Rattle.std.specs.Option.{option_and_then}
use Rattle.pec_types.specs.Bytes.{Bytes, Path}
use Rattle.pec_types.specs.declared.messages.Facts.{Facts}
use Rattle.pec_types.specs.declared.messages.Wish.TheVariants.{Full}
use Rattle.pec_heads.specs.FactsOfHeads.{recipients_of, text_of}
use Rattle.pec_ledger.specs.OfDirectory.{fields_of}

-- the subject or the reference of a message, where it begins with a head that has one
unfoldable pub text_in : Bytes → Bytes → Option Bytes
text_in name message = option_and_then (text_of name) (fields_of message)

-- The account that handed the message in, its forward path without repeats, and the subject and the reference of its
-- head, where it has one. Answers go to the account.
abbrev pub refused_facts : Bytes → Path → Bytes → Facts
refused_facts account path message = record {
  sender = account;
  recipients = recipients_of path [];
  wish = Full;
  subject = text_in (codes "Subject") message;
  reference = text_in (codes "Message-ID") message;
  reply = account;
}
