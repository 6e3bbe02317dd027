-- The next connection of a service, from what became of it at the desk.
use Rattle.std.proofs.Common.{◌≡◌, ℕ, ◌<◌, true, List, [], ◌∷◌, ◌++◌, refl, ap, sym, subst, ◌∙◌, arith, Option, Some, None}
use Rattle.std.specs.Prelude.{IfSome, nat_lt}
use Rattle.std.proofs.lemmas.Bool.{lt-ltb}
use Rattle.std.proofs.lemmas.List.{append-nil}
use Rattle.pec_types.specs.Bytes.{Bytes}
use Rattle.pec_types.specs.declared.moments.TheConstants.{END_OF_TIME}
use Rattle.pec_outside.specs.Clocks.{Gives}
use Rattle.pec_outside.specs.Doors.{Reply as ToldReply, in_front, replied}
use Rattle.pec_outside.specs.Flow.{HasRisen, followed_by}
use Rattle.pec_directory.specs.Directory.{Kept}
use Rattle.pec_ledger.specs.Trade.{Trade}
use Rattle.pec_http.specs.Replies.{reply_text}
use Rattle.pec_http.specs.declared.serving.Served.{Served}
use Rattle.pec_http.specs.declared.serving.Served.TheVariants as served
use Rattle.pec_service.specs.Calls.{AreCalls, Call, State, state_behind}
use Rattle.pec_service.specs.Connections.{Connection, Hearing, IsConnection, IsReplied, Place, answered_by, calls_of, outcome_line}
use Rattle.pec_service.specs.Connections as connections
use Rattle.pec_serving.specs.Hearing.{Hears, IsServed}
use Rattle.pec_serving.specs.Serving.{ComesNext, IsServedNext, served_line}
use Rattle.pec_serving.specs.declared.next.Came.{Came}
use Rattle.pec_serving.specs.declared.next.Came.TheVariants as came_variants

rose_from : (faults : ℕ) → HasRisen 0 faults → nat_lt 0 faults ≡ true
rose_from faults risen = lt-ltb 0 faults (risen (omega arith))

module _ (trade : Trade) (tells : Type 0) (kept : List Kept) (moment : ℕ) (in_time : moment < END_OF_TIME) (here there : Place)
    (left held held_then : Option Bytes) (fresh faults : ℕ) (told : Served)
    (gives : Gives here.moments moment there.moments) (came : here.requests ≡ in_front left there.requests)
    (empty : IfSome here.replies (λ rs. held ≡ Some [])) (none_yet : fresh ≡ 0)
    (closed : there.replies ≡ replied here.replies held_then faults)
    (hears : Hears trade tells kept moment here.network there.network left held held_then told)
    (read_fault : told ≡ served.ReadFault → HasRisen fresh faults)
    (write_fault : told ≡ served.WriteFault → HasRisen fresh faults) where
  abbrev reply : Bytes → ToldReply
  reply text = record { text = text; raised = nat_lt 0 faults }

  raised : HasRisen fresh faults → nat_lt 0 faults ≡ true
  raised risen = rose_from faults (subst (λ (n : ℕ). HasRisen n faults) none_yet risen)

  -- what was written to the connection
  record Written (hearing : Hearing) : Type 0 where
    pub text : Bytes
    pub is : IsReplied trade kept here.network.sites hears.handed hearing (reply text)
    pub held_is : held ≡ Some [] → held_then ≡ Some text
    pub line : served_line told ≡ outcome_line trade kept here.network.sites hears.handed hearing

  written : (hearing : Hearing) → IsServed trade kept here.network.sites hears.handed hearing held held_then told → Written hearing
  written connections.Unheard is = record {
    text = [];
    is = (refl, raised (read_fault is.0));
    held_is = λ e. is.1 ∙ e;
    line = ap served_line is.0;
  }
  written (connections.Heard answering) is = record {
    text = reply_text (answered_by trade kept here.network.sites hears.handed answering);
    is = refl;
    held_is = λ e. is.1 ∙ ap (λ (o : Option Bytes).
        followed_by o (reply_text (answered_by trade kept here.network.sites hears.handed answering))) e;
    line = ap served_line is.0;
  }
  written (connections.Broken answering) is = record {
    text = is.1.wrote.done;
    is = ((is.1.rest, is.1.wrote.text), raised (write_fault is.0));
    held_is = λ e. is.1.wrote.held ∙ ap (λ (o : Option Bytes). followed_by o is.1.wrote.done) e;
    line = ap served_line is.0;
  }

  abbrev done : Written hears.hearing
  done = written hears.hearing hears.served

  replies_by : (before : Option (List ToldReply)) → here.replies ≡ before
      → IfSome before (λ rs. there.replies ≡ Some (rs ++ reply done.text ∷ []))
  replies_by None is = tt
  replies_by (Some replies) is =
      closed
      ∙ ap (λ (o : Option (List ToldReply)). replied o held_then faults) is
      ∙ ap (λ (o : Option Bytes). replied (Some replies) o faults)
      (done.held_is (subst (λ (o : Option (List ToldReply)). IfSome o (λ rs. held ≡ Some [])) is empty))

  pub served_next : IsServedNext trade tells kept here there moment told
  served_next = record {
    connection = record {
      moment = moment;
      input = hears.input;
      hearing = hears.hearing;
      reply = reply done.text;
      handed = hears.handed;
      clock = [];
      behind = there;
    };
    is = record {
      moment = gives;
      in_time = in_time;
      left = left;
      request = came;
      is_input = hears.is_input;
      heard = hears.heard;
      replied = done.is;
      replies = replies_by here.replies refl;
      hands = hears.hands;
      unplayed = _;
      plays = refl;
      calls = subst (λ (l : List Call). AreCalls trade tells here.network l) (sym (append-nil hears.handed)) hears.calls;
      state = hears.state ∙ ap (λ (l : List Call). (state_behind here.network l).sites) (sym (append-nil hears.handed));
      later = λ provider.
          (let e : (state_behind here.network (hears.handed ++ [])).counts provider
          ≡ (state_behind here.network hears.handed).counts provider =
          ap (λ (l : List Call). (state_behind here.network l).counts provider) (append-nil hears.handed)
          in omega (arith, e, hears.later provider));
    };
    moment_is = refl;
    unplayed = refl;
    behind_is = refl;
    line = done.line;
  }

-- a connection that was closed with nothing written
pub unserved_replies : (replies : Option (List ToldReply)) (held : Option Bytes) (faults : ℕ)
    → IfSome replies (λ rs. held ≡ Some []) → faults ≡ 0 → replied replies held faults ≡ replied replies (Some []) 0
unserved_replies None held faults empty fresh = refl
unserved_replies (Some replies) held faults empty fresh =
    ap (λ (o : Option Bytes). replied (Some replies) o faults) empty ∙ ap (λ (n : ℕ). replied (Some replies) (Some []) n) fresh

-- ---- what disks tell

-- what is said where some disks tell is said where more is asked
module _ (trade : Trade) (tells all : Type 0) (more : all → tells) where
  calls_told : (here : State) (calls : List Call) → AreCalls trade tells here calls → AreCalls trade all here calls
  calls_told here [] are = tt
  calls_told here (call ∷ calls) are = (
    record {
      meet = are.0.meet;
      memory = are.0.memory;
      counts = are.0.counts;
      state = are.0.state;
      kept = λ told. are.0.kept (more told);
      shown = λ told. are.0.shown (more told);
      unchanged = λ told. are.0.unchanged (more told);
    },
    calls_told call.behind calls are.1,
  )

  connection_told : (kept : List Kept) (here : Place) (connection : Connection)
      → IsConnection trade tells kept here connection → IsConnection trade all kept here connection
  connection_told kept here connection is = record {
    moment = is.moment;
    in_time = is.in_time;
    left = is.left;
    request = is.request;
    is_input = is.is_input;
    heard = is.heard;
    replied = is.replied;
    replies = is.replies;
    hands = is.hands;
    unplayed = is.unplayed;
    plays = is.plays;
    calls = calls_told here.network (calls_of connection) is.calls;
    state = is.state;
    later = is.later;
  }

  pub comes_told : (kept : List Kept) (here there : Place) (came : Came)
      → ComesNext trade tells kept here there came → ComesNext trade all kept here there came
  comes_told kept here there (came_variants.Served moment told) next = record {
    connection = next.connection;
    is = connection_told kept here next.connection next.is;
    moment_is = next.moment_is;
    unplayed = next.unplayed;
    behind_is = next.behind_is;
    line = next.line;
  }
  comes_told kept here there came_variants.NoMoment next = next
  comes_told kept here there came_variants.NoConnection next = next
