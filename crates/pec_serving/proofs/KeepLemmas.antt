-- What the desk keeps of a network, whatever was asked of it.
use Rattle.std.proofs.Common.{◌≡◌, inl, inr, ℕ, ◌<◌, List, [], length, refl, ap, sym, subst, ◌∙◌, arith, Option, Result, Ok, Err}
use Rattle.std.proofs.lemmas.Option.{slice_get_cases}
use Rattle.pec_types.specs.Bytes.{Bytes}
use Rattle.pec_types.specs.declared.turns.ProviderFault.{ProviderFault}
use Rattle.pec_types.specs.declared.turns.Submitted.{Submitted}
use Rattle.pec_outside.specs.DiskModel.{Sight}
use Rattle.pec_directory.specs.Directory.{Kept}
use Rattle.pec_seal.specs.Seals.{Seals}
use Rattle.pec_ledger.specs.Trade.{Trade}
use Rattle.pec_playing.specs.OfNetworks.{NetworkState, trade_of, world_of}
use Rattle.pec_http.specs.Asking.{Question, See}
use Rattle.pec_http.specs.Asking as asking
use Rattle.pec_http.specs.Desks.{Answers}
use Rattle.pec_http.specs.Replies.{Reply}
use Rattle.pec_http.specs.Serving.{HasRested, IsAnswerOrLack, IsAnswered, Serves}
use Rattle.pec_http.specs.declared.demands.Look.TheVariants as looks
use Rattle.pec_http.specs.declared.serving.Served.{Served}
use Rattle.pec_http.specs.declared.serving.Served.TheVariants as served
use Rattle.pec_http.specs.declared.stops.Stop.{Stop}
use Rattle.pec_desk.specs.Desks.{DeskState, HandsIn, LooksAt, answers_of}
use Rattle.pec_desk.specs.OfNetworks.{ConcernsOne}
use Rattle.pec_playing.specs.Doing.{Keeps}

module _ {D S : Type 0} (sight : D → Sight) (count : D → ℕ) (disks : Type 0) where
  pub keeps_all : (network : NetworkState D S) → Keeps sight count disks network network
  keeps_all network = record {
    directory = refl;
    many = refl;
    seals = refl;
    stands = λ told all. all;
    later = λ number other within. omega arith;
  }

  -- what is kept twice is kept
  pub keeps_on : (old mid new : NetworkState D S) → Keeps sight count disks old mid → Keeps sight count disks mid new
      → Keeps sight count disks old new
  keeps_on old mid new first second = record {
    directory = second.directory ∙ first.directory;
    many = second.many ∙ first.many;
    seals = second.seals ∙ first.seals;
    stands = λ told all. second.stands told (first.stands told all);
    later = λ number other within.
        omega (arith, first.later number other within, second.later number other (omega (arith, within, first.many)));
  }

  -- What holds of a desk, and of it with a message handed in or an item looked at, holds of whatever it leaves.
  module _ (seals : S → Seals) (desk after : DeskState D S) (Holds : DeskState D S → Type 0) (rests : Holds desk)
      (hands : (address : Bytes) (path : List Bytes) (message : Bytes) (said : Result Submitted ProviderFault)
      → HandsIn sight count disks seals desk address path message said after → Holds after)
      (reads : (address : Bytes) (place : ℕ) (said : Result Bytes ProviderFault)
      → LooksAt sight count disks seals desk address place said after → Holds after) where
    abbrev desk_answers : Answers (DeskState D S)
    desk_answers = answers_of sight count disks seals

    holds_same : after ≡ desk → Holds after
    holds_same same = subst Holds (sym same) rests

    holds_answered : (asked : Result Question Stop) (reply : Reply) → IsAnswered desk_answers desk asked after reply
        → Holds after
    holds_answered (Err stop) reply stays = holds_same stays.same
    holds_answered (Ok (asking.Submit address path message)) reply submits =
        hands address path message submits.said submits.may_say
    holds_answered (Ok (See address looks.Book)) reply shows = holds_same shows.may_say.1
    holds_answered (Ok (See address looks.Items)) reply shows = holds_same shows.may_say.1
    holds_answered (Ok (See address (looks.Item place))) reply shows = reads address place shows.said shows.may_say

    holds_rested : (input : Bytes) → HasRested desk_answers desk input after → Holds after
    holds_rested input (inl same) = holds_same same
    holds_rested input (inr read) = reads read.address read.place (Ok read.bytes) read.shown

    holds_by : (input : Bytes) (reply : Reply) → IsAnswerOrLack desk_answers desk input after reply → Holds after
    holds_by input reply (inl answer) = holds_answered answer.asked reply answer.answered
    holds_by input reply (inr lack) = holds_rested input lack.1

    pub holds_served : (left held held_then : Option Bytes) (told : Served)
        → Serves desk_answers left held desk after held_then told → Holds after
    holds_served left held held_then (served.Answered code) replies = holds_by replies.input replies.reply replies.is_answer
    holds_served left held held_then served.WriteFault replies = holds_by replies.input replies.reply replies.is_answer
    holds_served left held held_then served.ReadFault rest = holds_same rest.same

  module _ (seals : S → Seals) (desk after : DeskState D S) where
    -- a call at one provider keeps what every command keeps
    concern_keeps : {X : Type 0} (whole : length desk.network.providers ≡ length desk.network.kept)
        (whole_after : length after.network.providers ≡ length after.network.kept) (provider : ℕ)
        → provider < length desk.network.kept → (said : Result X ProviderFault)
        → ConcernsOne sight count disks seals provider desk.network after.network said
        → Keeps sight count disks desk.network after.network
    concern_keeps whole whole_after provider below_all said concerns =
        elim (slice_get_cases desk.network.providers provider).1 [
          | inl there ↦
              let only = concerns.others there.0
              in let kept : after.network.kept ≡ desk.network.kept = ap (λ (n : NetworkState D S). n.kept) only
              in let many : length after.network.providers ≡ length desk.network.providers =
              whole_after ∙ ap (λ (k : List Kept). length k) kept ∙ sym whole
              in record {
                directory = kept;
                many = many;
                seals = ap (λ (n : NetworkState D S). n.sealer) only;
                stands = λ told all number other within.
                    (let below : number < length desk.network.providers = omega (arith, within, many)
                    in (concerns.carries told (λ p. []) number other below).stands (all number other below));
                later = concerns.later;
              }
          | inr past ↦ absurd (omega (arith, past.0, below_all, whole))
        ]

    pub serves_keep : length desk.network.providers ≡ length desk.network.kept
        → length after.network.providers ≡ length after.network.kept → (left held held_then : Option Bytes) (told : Served)
        → Serves (answers_of sight count disks seals) left held desk after held_then told
        → Keeps sight count disks desk.network after.network
    serves_keep whole whole_after left held held_then told serves =
        holds_served seals desk after (λ (d : DeskState D S). Keeps sight count disks desk.network d.network)
        (keeps_all desk.network)
        (λ address path message said handed. concern_keeps whole whole_after handed.number handed.within said handed.concerns)
        (λ address place said looked. concern_keeps whole whole_after looked.number looked.within said looked.concerns)
        left held held_then told serves

-- the world is the same as long as directory and seals are kept
pub as_begun : {D S : Type 0} (sight : D → Sight) (count : D → ℕ) (disks : Type 0) (seals : S → Seals)
    (old now : NetworkState D S) → Keeps sight count disks old now → (P : Trade → List Kept → Type 0)
    → P (world_of seals now) now.kept → P (world_of seals old) old.kept
as_begun {D} {S} sight count disks seals old now keeps P holds =
    subst (λ (s : S). P (trade_of old.kept (seals s)) old.kept) keeps.seals
    (subst (λ (k : List Kept). P (trade_of k (seals now.sealer)) k) keeps.directory holds)
