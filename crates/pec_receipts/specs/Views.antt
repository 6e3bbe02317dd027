-- What contracts see of the crate's types: without where their bytes lie in memory.
use Rattle.std.specs.Prelude.{Option, Some, None}
use Rattle.std.specs.Option.{option_map}
use Rattle.pec_types.specs.Bytes.{Bytes}
use Rattle.pec_receipts.specs.Kinds as kinds
use Rattle.pec_receipts.specs.declared.kinds.Row.{Row}
use Rattle.pec_receipts.specs.declared.kinds.Said.{Said}
use Rattle.pec_receipts.specs.declared.messages.Shown.{Shown}
use Rattle.pec_receipts.specs.declared.messages.Shown.TheVariants.{Nothing, Whole, Shortened}

abbrev pub said_shown : Said → kinds.Said
said_shown said = record {
  word = said.word.now;
  kind = said.kind;
  error = said.error;
  flagged = said.flagged;
  wish = said.wish;
  delivers = said.delivers;
  detail = option_map (λ text. text.now) said.detail;
  phrase = said.phrase.now;
  behind = said.behind.now;
  explains = said.explains;
}

abbrev pub row_shown : Row → kinds.Row
row_shown row = record {
  tag = row.tag.now;
  prefix = row.prefix.now;
  about = row.about;
  to = row.to;
  elsewhere = row.elsewhere;
  said = option_map said_shown row.said;
}

-- the message as a receipt shows it
abbrev pub message_shown : Shown → Option Bytes
message_shown Nothing = None
message_shown (Whole original) = Some original.now
message_shown (Shortened brief) = Some brief.items
