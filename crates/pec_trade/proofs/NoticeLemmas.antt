-- What is seen in a notice of non-acceptance is one, and in an anomaly nothing is seen.
use Rattle.std.proofs.Common.{◌≡◌, ℕ, ◌<◌, ◌≤◌, ◌^◌, nat_lt, Bool, true, false, cond, List, [], ◌∷◌, ◌++◌, length, map, Option, None, Some, Err, codes, refl, ap, sym, subst, ◌∙◌, arith, length-append}
use Rattle.std.specs.Prelude.{IsTrue}
use Rattle.std.specs.List.{AllByRecursion, list_all}
use Rattle.std.specs.Option.{IfSome, option_and_then}
use Rattle.std.proofs.lemmas.Bool.{ltb-true}
use Rattle.std.proofs.lemmas.List.{length-map}
use Rattle.std.proofs.lemmas.Option.{none-some, same_Some}
use Rattle.pec_types.specs.Address.{IsLowerAddress}
use Rattle.pec_types.specs.Bytes.{Bytes, Path}
use Rattle.pec_types.specs.Message.{Id}
use Rattle.pec_types.specs.Text.{AllPrintable}
use Rattle.pec_types.specs.declared.disputes.LetterFault.{LetterFault}
use Rattle.pec_types.specs.declared.disputes.LetterFault.TheVariants as faults
use Rattle.pec_types.specs.declared.messages.Cause.{Cause}
use Rattle.pec_types.specs.declared.messages.Class.TheVariants.{Primary}
use Rattle.pec_types.specs.declared.messages.Recipient.{Recipient}
use Rattle.pec_types.specs.declared.messages.TheConstants.{MESSAGES}
use Rattle.pec_types.specs.declared.moments.TheConstants.{END_OF_TIME}
use Rattle.pec_types.specs.declared.receipts.Kind.TheVariants as kinds
use Rattle.pec_heads.specs.BoundedFacts.{IsShortText}
use Rattle.pec_heads.specs.FactsOfHeads.{fresh, has_address, recipient, recipients_of}
use Rattle.pec_cert.specs.ValueTests.{is_lower}
use Rattle.pec_cert.specs.Zone.{stamp_of}
use Rattle.pec_directory.specs.Directory.{first_of, Kept, Provider, home_of, is_account_of, providers_of}
use Rattle.pec_directory.specs.Lawful.{IsLawful}
use Rattle.pec_records.specs.Entry.{most_addresses}
use Rattle.pec_seal.specs.Seals.{Seals}
use Rattle.pec_letter_parts.specs.Contents.{parts_of}
use Rattle.pec_letter_parts.specs.Letters.{Headed, IsHeaded}
use Rattle.pec_letter_parts.specs.Sealing.{letter_text}
use Rattle.pec_letter_parts.specs.LettersReading.{letter_of}
use Rattle.pec_letter_parts.specs.declared.headings.Marking.TheVariants as markings
use Rattle.pec_letter_facts.specs.Certifying.{ArePrintable}
use Rattle.pec_letter_facts.specs.Questions.{marking_of}
use Rattle.pec_letters.specs.Anomalies.{IsAnomaly, anomaly_contents, anomaly_heading, anomaly_phrase, anomaly_text, anomaly_word}
use Rattle.pec_letters.specs.Fitting.{Fits}
use Rattle.pec_letters.specs.SeenReading.{view as envelope_view}
use Rattle.pec_receipts.specs.Kinds.{Said, row_of}
use Rattle.pec_receipts.specs.Receipts.{CanBeGiven, message_in, receipt_text}
use Rattle.pec_receipts.specs.Seen.{seen_again}
use Rattle.pec_receipts.specs.SeenReading.{view as receipt_view}
use Rattle.pec_ledger.specs.Trade.{Seen}
use Rattle.pec_ledger.specs.TradeLaws.{IsRefusal}
use Rattle.pec_trade.specs.Refused.{refused_facts, text_in}
use Rattle.pec_trade.specs.Giving.{can_be_given}
use Rattle.pec_trade.specs.Texts.{anomaly_bytes, given_text, or_none, receipt_seen, refusal, refusal_bytes, seen_in}
use Rattle.pec_trade.proofs.DirectoryLemmas.{account_is_home, account_lower, issuer_at, name_short, named_by, provider_at}
use Rattle.pec_trade.proofs.FactsLemmas.{Heads, text_short}
use Rattle.pec_trade.proofs.FrameLemmas.{Told, path_lower}
use Rattle.pec_trade.proofs.GivingLemmas.{anomaly_so, refusal_so}
use Rattle.pec_trade.proofs.PathLemmas.{all_joined, all_mapped}
use Rattle.pec_trade.proofs.ReceiptLemmas.{Receipts}
use Rattle.pec_trade.proofs.SeenLemmas.{as_receipt, in_neither, nothing_seen}
use Rattle.pec_trade.proofs.SizeLemmas.{bare_parts_small}
use Rattle.pec_trade.proofs.TextLemmas.{AreSmall, MessageFits, Stands, letter_there, receipt_is, receipt_with}

-- ---- the facts of a refused message

fresh_lower : (before path : Path) → AllByRecursion IsLowerAddress path → AllByRecursion IsLowerAddress (fresh before path)
fresh_lower before [] lower = tt
fresh_lower before (a ∷ path) lower = kept (has_address before a) (fresh_lower before path lower.1) (fresh_lower (before ++ a ∷ []) path lower.1)
  where
    kept : (t : Bool) → AllByRecursion IsLowerAddress (fresh before path) → AllByRecursion IsLowerAddress (fresh (before ++ a ∷ []) path)
        → AllByRecursion IsLowerAddress (cond t (fresh before path) (a ∷ fresh (before ++ a ∷ []) path))
    kept true more others = more
    kept false more others = (lower.0, others)

fresh_few : (before path : Path) → length (fresh before path) ≤ length path
fresh_few before [] = omega arith
fresh_few before (a ∷ path) = kept (has_address before a) (fresh_few before path) (fresh_few (before ++ a ∷ []) path)
  where
    kept : (t : Bool) → length (fresh before path) ≤ length path → length (fresh (before ++ a ∷ []) path) ≤ length path
        → length (cond t (fresh before path) (a ∷ fresh (before ++ a ∷ []) path)) ≤ length (a ∷ path)
    kept true more others = omega (arith, more)
    kept false more others = omega (arith, others)

fresh_some : (path : Path) → 0 < length path → 0 < length (fresh [] path)
fresh_some [] some = some
fresh_some (a ∷ path) some = omega arith

-- recipients of a path, each once
recipients_lower : (path : Path) → AllByRecursion IsLowerAddress path → AllByRecursion (λ (r : Recipient). IsLowerAddress r.address) (recipients_of path [])
unfolding recipients_of
recipients_lower path lower =
    all_joined (λ (r : Recipient). IsLowerAddress r.address) (map (recipient Primary) (fresh [] path)) []
    (all_mapped (λ (r : Recipient). IsLowerAddress r.address) (recipient Primary) (fresh [] path) (fresh_lower [] path lower)) tt

recipients_count : (path : Path) → length (recipients_of path []) ≡ length (fresh [] path)
unfolding recipients_of
recipients_count path = omega (arith, length-append (map (recipient Primary) (fresh [] path)) [], length-map (fresh [] path) (recipient Primary))

shows_text : (text : Option Bytes) → IfSome text IsShortText → IfSome text AllPrintable
shows_text None short = tt
shows_text (Some text) short = short.printable

fits_text : (text : Option Bytes) → IfSome text IsShortText → IfSome text (λ t. length t ≤ 900)
fits_text None short = tt
fits_text (Some text) short = short.short

-- what the laws say of notices and anomalies
pub record Notices (seals : Seals) : Type 0 where
  pub receipts : Receipts seals
  pub heads : Heads
  pub told : Told
  pub anomaly : (kept : List Kept) (provider number moment : ℕ) (message text : Bytes) → anomaly_text seals kept provider number moment message ≡ Some text
      → IsAnomaly seals kept provider number moment message text
  pub head : (kept : List Kept) (provider number moment : ℕ) (message text : Bytes) → IsLawful (providers_of kept) → number < 2 ^ 64 → moment < END_OF_TIME
      → IsAnomaly seals kept provider number moment message text
      → (read : Headed) × (IsHeaded seals text read × (marking_of read.head ≡ Some (markings.Transport, anomaly_word)))
  pub letter : (kept : List Kept) (provider number moment : ℕ) (message text : Bytes) → IsLawful (providers_of kept) → number < 2 ^ 64 → moment < END_OF_TIME
      → IsAnomaly seals kept provider number moment message text → letter_of seals text ≡ Err faults.Cert
  pub unseen : (kept : List Kept) (providers : List Provider) (provider number moment : ℕ) (message text : Bytes) → IsLawful (providers_of kept) → number < 2 ^ 64
      → moment < END_OF_TIME → IsAnomaly seals kept provider number moment message text → envelope_view seals providers text ≡ Err faults.Cert
  pub unread : (providers : List Provider) (text : Bytes) (read : Headed) (word : Bytes) (fault : LetterFault) → IsHeaded seals text read
      → marking_of read.head ≡ Some (markings.Transport, word) → letter_of seals text ≡ Err fault → receipt_view seals providers text ≡ Err fault

module _ (seals : Seals) (laws : Notices seals) (kept : List Kept) (lawful : IsLawful (providers_of kept)) where
  -- nothing is seen in a text
  abbrev pub IsUnseen : Bytes → Type 0
  IsUnseen text = seen_in seals (providers_of kept) text ≡ None

  -- what is seen in a text, if anything is, is a notice of non-acceptance
  abbrev pub IsNotice : Bytes → Type 0
  IsNotice text = (seen : Seen) → seen_in seals (providers_of kept) text ≡ Some seen → IsRefusal seen

  nothing : IsUnseen []
  nothing = nothing_seen seals (providers_of kept)

  no_notice : (text : Bytes) → IsUnseen text → IsNotice text
  no_notice text none seen e = absurd (none-some seen (sym none ∙ e))

  -- ---- notices

  facts_printable : (account : Bytes) (path : Path) (message : Bytes) → IsLowerAddress account → AllByRecursion IsLowerAddress path → ArePrintable (refused_facts account path message)
  facts_printable account path message lower all = record {
    sender = lower;
    recipients = recipients_lower path all;
    reply = (laws.receipts.texts.address account lower).0;
    subject = shows_text (text_in (codes "Subject") message) (text_short laws.heads (codes "Subject") message);
    reference = shows_text (text_in (codes "Message-ID") message) (text_short laws.heads (codes "Message-ID") message);
  }

  given_so : (id : Id) (moment : ℕ) (account : Bytes) (cause : Cause) (path : Path) (message : Bytes) → id.provider < length (providers_of kept)
      → home_of (providers_of kept) account ≡ Some id.provider → 0 < length (recipients_of path []) → CanBeGiven (providers_of kept) (refusal id moment account cause path message)
  unfolding row_of
  given_so id moment account cause path message within home some = record {
    by_is = within;
    provider_is = within;
    home = home;
    recipients = some;
    subject = fits_text (text_in (codes "Subject") message) (text_short laws.heads (codes "Subject") message);
    named = refl;
    own = λ e. refl;
  }

  some_so : (path : Path) → 0 < length path → 0 < length (recipients_of path [])
  some_so path some = omega (arith, recipients_count path, fresh_some path some)

  few_so : (path : Path) → length path ≤ most_addresses → length (recipients_of path []) ≤ 1000
  few_so path few = omega (arith, recipients_count path, fresh_few [] path, few)

  -- What is asked of a message that isn't accepted.
  pub record Refused (id : Id) (moment : ℕ) (account : Bytes) (path : Path) : Type 0 where
    pub within : id.provider < length (providers_of kept)
    pub below : id.number < MESSAGES
    pub is : IsTrue (is_account_of (providers_of kept) id.provider account)
    pub some : 0 < length path
    pub few : length path ≤ most_addresses
    pub lower : AllByRecursion IsLowerAddress path
    pub before : moment < END_OF_TIME

  account_so : (id : Id) (moment : ℕ) (account : Bytes) (path : Path) → Refused id moment account path → IsLowerAddress account
  account_so id moment account path refused = account_lower (providers_of kept) id.provider account lawful refused.is

  stands_so : (id : Id) (moment : ℕ) (account : Bytes) (cause : Cause) (path : Path) (message : Bytes) → Refused id moment account path
      → Stands laws.receipts.texts kept (refusal id moment account cause path message)
  stands_so id moment account cause path message refused = record {
    lawful = lawful;
    within = refused.within;
    printable = facts_printable account path message (account_so id moment account path refused) refused.lower;
    some = some_so path refused.some;
    named = tt;
    before = refused.before;
  }

  can_so : (id : Id) (moment : ℕ) (account : Bytes) (cause : Cause) (path : Path) (message : Bytes) → Refused id moment account path
      → CanBeGiven (providers_of kept) (refusal id moment account cause path message)
  can_so id moment account cause path message refused =
      given_so id moment account cause path message refused.within (account_is_home (providers_of kept) id.provider account refused.is) (some_so path refused.some)

  -- a notice is seen as what it is
  seen_so : (id : Id) (moment : ℕ) (account : Bytes) (cause : Cause) (path : Path) (message : Bytes) → Refused id moment account path → (text : Bytes)
      → receipt_text seals kept (refusal id moment account cause path message) message ≡ Some text
      → seen_in seals (providers_of kept) text ≡ Some (receipt_seen (seen_again (refusal id moment account cause path message)))
  seen_so id moment account cause path message refused text e =
      let r = refusal id moment account cause path message
      in let stands = stands_so id moment account cause path message refused
      in as_receipt seals (providers_of kept) text laws.receipts.views (seen_again r)
      (laws.receipts.seen kept r message text lawful (can_so id moment account cause path message refused) stands.printable refused.below refused.before
      (omega (arith, few_so path refused.few)) (receipt_is laws.receipts.texts seals kept r message text stands (provider_at kept id.provider) e))

  notice_so : (id : Id) (moment : ℕ) (account : Bytes) (cause : Cause) (path : Path) (message : Bytes) → Refused id moment account path → (found : Option Bytes)
      → receipt_text seals kept (refusal id moment account cause path message) message ≡ found → IsNotice (or_none found)
  notice_so id moment account cause path message refused None e = no_notice [] nothing
  notice_so id moment account cause path message refused (Some text) e =
      λ seen is.
      subst IsRefusal (same_Some (receipt_seen (seen_again (refusal id moment account cause path message))) seen
      (sym (seen_so id moment account cause path message refused text e) ∙ is)) (cause, refl)

  -- What is seen in a notice of non-acceptance is one.
  pub refusal_seen : (id : Id) (moment : ℕ) (account : Bytes) (cause : Cause) (path : Path) (message : Bytes) → id.provider < length (providers_of kept) → id.number < MESSAGES
      → IsTrue (is_account_of (providers_of kept) id.provider account) → 0 < length path → length path ≤ most_addresses → moment < END_OF_TIME
      → IsNotice (refusal_bytes kept seals id moment account cause path message)
  unfolding refusal_bytes
  refusal_seen id moment account cause path message within below is some few before = by (list_all is_lower path) refl
    where
      given_or_not : (t : Bool) → IsNotice (or_none (receipt_text seals kept (refusal id moment account cause path message) message))
          → IsNotice (or_none (cond t (receipt_text seals kept (refusal id moment account cause path message) message) None))
      given_or_not true one = one
      given_or_not false one = no_notice [] nothing

      by : (t : Bool) → list_all is_lower path ≡ t → IsNotice (cond t (or_none (given_text kept seals (refusal id moment account cause path message) message)) [])
      by true e =
          given_or_not (can_be_given (providers_of kept) (refusal id moment account cause path message))
          (notice_so id moment account cause path message (record {
            within = within;
            below = below;
            is = is;
            some = some;
            few = few;
            lower = path_lower laws.told path e;
            before = before;
          }) (receipt_text seals kept (refusal id moment account cause path message) message) refl)
      by false e = no_notice [] nothing

  -- ---- its text

  no_message : (id : Id) (moment : ℕ) (account : Bytes) (cause : Cause) (path : Path) (message : Bytes)
      → IfSome (row_of (kinds.NonAcceptance cause)).said (λ (said : Said). MessageFits (refusal id moment account cause path message) said message)
  unfolding row_of message_in
  no_message id moment account cause path message = tt

  -- The notice of a message that isn't accepted.
  pub record Notice (id : Id) (moment : ℕ) (account : Bytes) (cause : Cause) (path : Path) (message : Bytes) : Type 0 where
    pub text : Bytes
    pub there : receipt_text seals kept (refusal id moment account cause path message) message ≡ Some text
    pub can : CanBeGiven (providers_of kept) (refusal id moment account cause path message)
    pub bytes : refusal_bytes kept seals id moment account cause path message ≡ text
    pub seen : seen_in seals (providers_of kept) text ≡ Some (receipt_seen (seen_again (refusal id moment account cause path message)))

  pub notice : Fits seals (providers_of kept) → (id : Id) (moment : ℕ) (account : Bytes) (cause : Cause) (path : Path) (message : Bytes) → Refused id moment account path
      → Notice id moment account cause path message
  notice fits id moment account cause path message refused =
      let providers = providers_of kept
      in let texts = laws.receipts.texts
      in let r = refusal id moment account cause path message
      in let stands = stands_so id moment account cause path message refused
      in let can = can_so id moment account cause path message refused
      in let issuer = issuer_at kept id.provider refused.within
      in let account_is : AllPrintable account × (length account ≤ 254) = texts.address account (account_so id moment account path refused)
      in let small : AreSmall (refused_facts account path message) = record {
        printable = stands.printable;
        some = stands.some;
        few = few_so path refused.few;
        reply = omega (arith, account_is.1);
        subject = can.subject;
        reference = fits_text (text_in (codes "Message-ID") message) (text_short laws.heads (codes "Message-ID") message);
      }
      in let found = receipt_with texts seals kept r message issuer stands small (no_message id moment account cause path message)
      (name_short providers id.provider issuer.issuer.provider lawful issuer.there) (named_by seals providers id.provider issuer.issuer.provider fits issuer.there)
      in record {
        text = found.0;
        there = found.1;
        can = can;
        bytes = refusal_so kept seals laws.told id moment account cause path message found.0 refused.lower can found.1;
        seen = seen_so id moment account cause path message refused found.0 found.1;
      }

  -- ---- anomalies

  handed_on : (provider entry moment : ℕ) (message : Bytes) → entry < 2 ^ 64 → moment < END_OF_TIME → (found : Option Bytes)
      → anomaly_text seals kept provider entry moment message ≡ found → IsUnseen (or_none found)
  handed_on provider entry moment message small before None e = nothing
  handed_on provider entry moment message small before (Some text) e =
      let is = laws.anomaly kept provider entry moment message text e
      in let head = laws.head kept provider entry moment message text lawful small before is
      in let letter = laws.letter kept provider entry moment message text lawful small before is
      in in_neither seals (providers_of kept) text faults.Cert faults.Cert
      (laws.unseen kept (providers_of kept) provider entry moment message text lawful small before is)
      (laws.unread (providers_of kept) text head.0 anomaly_word faults.Cert head.1.0 head.1.1 letter)

  -- In an anomaly nothing is seen.
  pub anomaly_unseen : (provider entry moment : ℕ) (message : Bytes) → moment < END_OF_TIME → IsUnseen (anomaly_bytes kept seals provider entry moment message)
  unfolding anomaly_bytes
  anomaly_unseen provider entry moment message before = by (nat_lt entry (2 ^ 64)) refl
    where
      by : (t : Bool) → nat_lt entry (2 ^ 64) ≡ t → IsUnseen (cond t (or_none (anomaly_text seals kept provider entry moment message)) [])
      by true e = handed_on provider entry moment message (ltb-true entry (2 ^ 64) e) before (anomaly_text seals kept provider entry moment message) refl
      by false e = nothing

  there_so : Fits seals (providers_of kept) → (provider entry moment : ℕ) (message : Bytes) → provider < length (providers_of kept) → length message ≤ 67108864
      → (text : Bytes) × (anomaly_text seals kept provider entry moment message ≡ Some text)
  unfolding anomaly_text
  there_so fits provider entry moment message within small =
      let issuer = issuer_at kept provider within
      in let stamp = stamp_of issuer.issuer.zone moment
      in let by = λ (one : Kept).
      letter_text seals provider (anomaly_heading (first_of one.provider.domains) entry (stamp_of one.zone moment) message) (parts_of (anomaly_contents (stamp_of one.zone moment) message))
      in let found = letter_there laws.receipts.texts seals provider (anomaly_heading (first_of issuer.issuer.provider.domains) entry stamp message)
      (parts_of (anomaly_contents stamp message)) issuer.issuer.provider.name
      (named_by seals (providers_of kept) provider issuer.issuer.provider fits issuer.there) (bare_parts_small stamp anomaly_phrase message (omega arith) small)
      in (found.0, ap (option_and_then by) issuer.is ∙ found.1)

  -- An anomaly of a message of at most 64 MiB has its text.
  pub anomaly_there : Fits seals (providers_of kept) → (provider entry moment : ℕ) (message : Bytes) → provider < length (providers_of kept) → entry < 2 ^ 64
      → length message ≤ 67108864
      → (text : Bytes) × (anomaly_text seals kept provider entry moment message ≡ Some text) × (anomaly_bytes kept seals provider entry moment message ≡ text)
  anomaly_there fits provider entry moment message within below small =
      let found = there_so fits provider entry moment message within small
      in (found.0, found.1, anomaly_so kept seals provider entry moment message found.0 below found.1)
