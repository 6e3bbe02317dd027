-- The law of accounts, over any disks and seals.
use Rattle.std.proofs.Common.{◌≡◌, inl, inr, ℕ, false, List, refl, ap, sym, ◌∙◌, subst, Option, Some, None, Result, Ok, Err}
use Rattle.std.specs.Prelude.{◌⊎◌}
use Rattle.std.specs.Option.{option_and_then, option_map}
use Rattle.pec_outside.specs.DiskModel.{Sight}
use Rattle.pec_types.specs.Bytes.{Bytes, Path}
use Rattle.pec_types.specs.declared.turns.ProviderFault.{ProviderFault}
use Rattle.pec_types.specs.declared.turns.ProviderFault.TheVariants as faults
use Rattle.pec_types.specs.declared.turns.Submitted.{Submitted}
use Rattle.pec_directory.specs.Directory.{Kept, Provider, account_home, providers_of}
use Rattle.pec_seal.specs.Seals.{Seals}
use Rattle.pec_ledger.specs.Network.{Site}
use Rattle.pec_network.specs.OfProviders.{luck_of}
use Rattle.pec_network.specs.Network.{sites, world_of}
use Rattle.pec_plays.specs.Commands.{Show, Shown, played}
use Rattle.pec_network.specs.Carrying.{AllStand}
use Rattle.pec_network.specs.Playing.{luck_of_read, IsReadSo}
use Rattle.pec_http.specs.Asking.{Asks, Question, Submit, See}
use Rattle.pec_http.specs.Desks.{Answers}
use Rattle.pec_http.specs.Replies.{Reply, memory_reply, shown_reply, submitted_reply}
use Rattle.pec_http.specs.Serving.{IsAnswer, IsAnswered, MayShow, Submits, kind_of}
use Rattle.pec_http.specs.declared.demands.Look.{Look}
use Rattle.pec_http.specs.declared.demands.Look.TheVariants as looks
use Rattle.pec_http.specs.declared.passes.Pass.{Pass}
use Rattle.pec_http.specs.declared.stops.Stop.{Stop}
use Rattle.pec_desk.specs.Desks.{DeskState, HandsIn, LooksAt, answers_of, domain_at}
use Rattle.pec_service.specs.Passes.{pass_of}
use Rattle.pec_service.specs.Own.{IsFaultOf, Share, asker, reply_to, reply_with, share_at, shown_to}
use Rattle.pec_desk.specs.Shares.{ReadsItsOwn, asking_share, share_of}
use Rattle.pec_desk.proofs.LookLemmas.{item_is}
use Rattle.pec_desk.proofs.PassLemmas.{pass_same}
use Rattle.pec_desk.proofs.ShareLemmas.{book_is, book_of_nobody, items_is, items_of_nobody, submission_is}

-- a request asks one thing
abbrev AsksOne : Type 0
AsksOne = (pass : Bytes → Bytes → Pass) (input : Bytes) (asked other : Result Question Stop)
    → Asks pass input asked → Asks pass input other → asked ≡ other

module _ {D S : Type 0} (sight : D → Sight) (count : D → ℕ) (tells : Type 0) (seals : S → Seals) where
  abbrev desk_answers : Answers (DeskState D S)
  desk_answers = answers_of sight count tells seals

  module _ (desk after : DeskState D S) where
    abbrev kept : List Kept
    kept = desk.network.kept

    abbrev state : List Site
    state = sites desk.network

    abbrev homes : Bytes → Option ℕ
    homes address = account_home (providers_of kept) address

    abbrev own_reply : Result Question Stop → Reply
    own_reply asked = reply_to (providers_of kept) desk.moment (asking_share seals desk asked) asked

    abbrev IsOwnReply : Result Question Stop → Reply → Type 0
    IsOwnReply asked reply = (reply ≡ own_reply asked) ⊎ IsFaultOf asked reply

    -- the share of an account, whose provider is known
    with_home : (address : Bytes) (home : Option ℕ) (question : Question) → homes address ≡ home
        → reply_with (providers_of kept) desk.moment (share_of seals desk address) question
        ≡ reply_with (providers_of kept) desk.moment
        (option_map (share_at (world_of seals desk.network) state address) home) question
    with_home address home question is =
        ap (λ (h : Option ℕ). reply_with (providers_of kept) desk.moment
        (option_map (share_at (world_of seals desk.network) state address) h) question) is

    handed_reply : (address : Bytes) (path : Path) (message : Bytes) (reply : Reply)
        → Submits desk_answers desk address path message after reply
        → IsOwnReply (Ok (Submit address path message)) reply
    handed_reply address path message reply submits =
        let handed : HandsIn sight count tells seals desk address path message submits.said after = submits.may_say
        in let domain : submitted_reply (domain_at (providers_of kept) (homes address)) submits.said
        ≡ submitted_reply (domain_at (providers_of kept) (Some handed.number)) submits.said =
        ap (λ (h : Option ℕ). submitted_reply (domain_at (providers_of kept) h) submits.said) handed.home
        in let answered : reply ≡ submitted_reply (domain_at (providers_of kept) (Some handed.number)) submits.said =
        submits.answer ∙ domain
        in elim (submission_is kept (seals desk.network.sealer) state address handed.number handed.home desk.moment path
        message (sites after.network) submits.said handed.plays) [
          | inl own ↦ inl (answered
              ∙ ap (λ (r : Result Submitted ProviderFault).
              submitted_reply (domain_at (providers_of kept) (Some handed.number)) r) own
              ∙ sym (with_home address (Some handed.number) (Submit address path message) handed.home))
          | inr fault ↦ inr (elim fault [
            | inl lack ↦ inl (answered ∙ ap (λ (r : Result Submitted ProviderFault).
                submitted_reply (domain_at (providers_of kept) (Some handed.number)) r) lack)
            | inr disk ↦ inr (answered ∙ ap (λ (r : Result Submitted ProviderFault).
                submitted_reply (domain_at (providers_of kept) (Some handed.number)) r) disk)
          ])
        ]

    -- what the desk may show of a book or a mailbox is the account's own
    abbrev IsOpen : Look → Type 0
    IsOpen (looks.Item place) = ⊥
    IsOpen looked = Unit {0}

    shown_own : (address : Bytes) (number : ℕ) → homes address ≡ Some number → (looked : Look) → IsOpen looked
        → (said : Result Bytes ProviderFault) → MayShow desk_answers desk address looked said after
        → (said ≡ Err faults.NoMemory)
        ⊎ (said ≡ shown_to (providers_of kept) (share_at (world_of seals desk.network) state address number) looked)
    shown_own address number home looks.Book plainly said shows =
        book_is kept (seals desk.network.sealer) state address number home (luck_of false) said shows.0
    shown_own address number home looks.Items plainly said shows =
        items_is kept (seals desk.network.sealer) state address number home (luck_of false) said shows.0
    shown_own address number home (looks.Item place) plainly said shows = absurd plainly

    shown_nobody : (address : Bytes) → homes address ≡ None → (looked : Look) → IsOpen looked
        → (said : Result Bytes ProviderFault) → MayShow desk_answers desk address looked said after
        → (said ≡ Err faults.NoMemory) ⊎ (said ≡ Err faults.NoAccount)
    shown_nobody address none looks.Book plainly said shows =
        book_of_nobody kept (seals desk.network.sealer) state address none (luck_of false) said shows.0
    shown_nobody address none looks.Items plainly said shows =
        items_of_nobody kept (seals desk.network.sealer) state address none (luck_of false) said shows.0
    shown_nobody address none (looks.Item place) plainly said shows = absurd plainly

    seen_by : (address : Bytes) (looked : Look) → IsOpen looked → (home : Option ℕ) → homes address ≡ home → (reply : Reply)
        (said : Result Bytes ProviderFault) → MayShow desk_answers desk address looked said after
        → reply ≡ shown_reply (kind_of looked) said → (reply ≡ own_reply (Ok (See address looked))) ⊎ (reply ≡ memory_reply)
    seen_by address looked plainly None home reply said shows answer = elim (shown_nobody address home looked plainly said shows) [
      | inl lack ↦ inr (answer ∙ ap (shown_reply (kind_of looked)) lack)
      | inr none ↦ inl (answer ∙ ap (shown_reply (kind_of looked)) none ∙ sym (with_home address None (See address looked) home))
    ]
    seen_by address looked plainly (Some number) home reply said shows answer =
        elim (shown_own address number home looked plainly said shows) [
          | inl lack ↦ inr (answer ∙ ap (shown_reply (kind_of looked)) lack)
          | inr own ↦ inl (answer ∙ ap (shown_reply (kind_of looked)) own
              ∙ sym (with_home address (Some number) (See address looked) home))
        ]

    -- an item that is looked at
    item_own : (address : Bytes) (place : ℕ) (reply : Reply) (said : Result Bytes ProviderFault)
        → reply ≡ shown_reply (kind_of (looks.Item place)) said
        → LooksAt sight count tells seals desk address place said after → tells × AllStand sight desk.network.providers
        → IsOwnReply (Ok (See address (looks.Item place))) reply
    item_own address place reply said answer looks_at stood =
        item_is kept (seals desk.network.sealer) state (sites after.network) address place said reply answer
        (subst (λ (other : Option Bytes). IsReadSo Shown
        (λ read. played (world_of seals desk.network) (luck_of_read read other) state (Show address place)) state
        (sites after.network) said) (looks_at.reads.kept stood) looks_at.reads.is)

    answered_own : (asked : Result Question Stop) (reply : Reply) → IsAnswered desk_answers desk asked after reply
        → ReadsItsOwn sight tells desk asked → IsOwnReply asked reply
    answered_own (Err stop) reply stays reads = inl stays.is
    answered_own (Ok (Submit address path message)) reply submits reads = handed_reply address path message reply submits
    answered_own (Ok (See address looks.Book)) reply shows reads =
        seen_by address looks.Book tt (homes address) refl reply shows.said shows.may_say shows.answer
    answered_own (Ok (See address looks.Items)) reply shows reads =
        seen_by address looks.Items tt (homes address) refl reply shows.said shows.may_say shows.answer
    answered_own (Ok (See address (looks.Item place))) reply shows reads =
        item_own address place reply shows.said shows.answer shows.may_say reads

    pub own_answer : AsksOne → (input : Bytes) (reply : Reply) → IsAnswer desk_answers desk input after reply
        → (asked : Result Question Stop) → Asks (pass_of kept) input asked → ReadsItsOwn sight tells desk asked
        → IsOwnReply asked reply
    own_answer one input reply answer asked asks reads =
        answered_own asked reply
        (subst (λ (a : Result Question Stop). IsAnswered desk_answers desk a after reply)
        (one (pass_of kept) input answer.asked asked answer.asks asks) answer.answered) reads

  -- ---- two networks

  module _ (one other after last : DeskState D S)
      (providers_same : providers_of one.network.kept ≡ providers_of other.network.kept)
      (moment_same : one.moment ≡ other.moment) where
    same_asker : (asker' : Option Bytes)
        → ((account : Bytes) → asker' ≡ Some account → share_of seals one account ≡ share_of seals other account)
        → option_and_then (share_of seals one) asker' ≡ option_and_then (share_of seals other) asker'
    same_asker None same = refl
    same_asker (Some account) same = same account refl

    same_reply : (asked : Result Question Stop)
        → ((account : Bytes) → asker asked ≡ Some account → share_of seals one account ≡ share_of seals other account)
        → own_reply one after asked ≡ own_reply other last asked
    same_reply asked same =
        ap (λ (share : Option Share). reply_to (providers_of one.network.kept) one.moment share asked)
        (same_asker (asker asked) same)
        ∙ ap (λ (ps : List Provider). reply_to ps one.moment (asking_share seals other asked) asked) providers_same
        ∙ ap (λ (m : ℕ). reply_to (providers_of other.network.kept) m (asking_share seals other asked) asked) moment_same

    pub apart : AsksOne → (input : Bytes) (reply again : Reply) (asked : Result Question Stop)
        → Asks (pass_of one.network.kept) input asked → ReadsItsOwn sight tells one asked → ReadsItsOwn sight tells other asked
        → ((account : Bytes) → asker asked ≡ Some account → share_of seals one account ≡ share_of seals other account)
        → IsAnswer desk_answers one input after reply → IsAnswer desk_answers other input last again
        → (reply ≡ again) ⊎ IsFaultOf asked reply ⊎ IsFaultOf asked again
    apart asks_one input reply again asked asks reads reads' same answer answer' =
        let asks' : Asks (pass_of other.network.kept) input asked =
        subst (λ (pass : Bytes → Bytes → Pass). Asks pass input asked)
        (pass_same one.network.kept other.network.kept providers_same) asks
        in elim (own_answer one after asks_one input reply answer asked asks reads) [
          | inr fault ↦ inr (inl fault)
          | inl own ↦ elim (own_answer other last asks_one input again answer' asked asks' reads') [
            | inr fault ↦ inr (inr fault)
            | inl own' ↦ inl (own ∙ same_reply asked same ∙ sym own')
          ]
        ]
