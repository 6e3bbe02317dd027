-- Connections one after another in a service, and how it ends.
use Rattle.std.proofs.Common.{◌≡◌, ℕ, zero, suc, ◌+◌, ◌<◌, ◌≤◌, List, [], ◌∷◌, ◌++◌, length, refl, ap, sym, subst, ◌∙◌, arith, Option, Some, None}
use Rattle.std.specs.Prelude.{All, IfSome, slice_get}
use Rattle.std.proofs.lemmas.List.{append-nil, append_assoc, length-append, length-map}
use Rattle.std.proofs.lemmas.List.Elements.{All-append, All-cons, All-nil}
use Rattle.pec_types.specs.Bytes.{Bytes}
use Rattle.pec_outside.specs.Clocks.{Gives}
use Rattle.pec_outside.specs.Doors.{in_front, replied}
use Rattle.pec_outside.specs.Flow.{WrotePart, followed_by}
use Rattle.pec_directory.specs.Directory.{Kept, Provider, providers_of}
use Rattle.pec_ledger.specs.Trade.{Trade}
use Rattle.pec_plays.specs.Commands.{Command}
use Rattle.pec_http.specs.declared.serving.Served.{Served}
use Rattle.pec_outside.specs.DiskModel.{Sight}
use Rattle.pec_service.specs.OfRuns.{Behind, LeavesOff, Moves, MovesOn, State as RunState}
use Rattle.pec_service.specs.Calls.{AreCalls, Call, State, calls_text, clock_from, commands_of, seen, state_behind}
use Rattle.pec_service.specs.Connections.{Connection, IsConnection, IsWhole, Place, connection_text}
use Rattle.pec_service.specs.Services.{AllServed, AreConnections, Halted, NoConnection, NoMoment, Service, connections_text, next_in, place_behind}
use Rattle.pec_service.specs.Services as services
use Rattle.pec_service.specs.Through.{AreMoved}
use Rattle.pec_serving.specs.Serving.{IsServedNext, ServesSo, served_line}
use Rattle.pec_serving.specs.declared.serving.Ending.TheVariants as endings
use Rattle.pec_serving.proofs.WritingLemmas.{followed_nothing, followed_twice, part_behind}

-- ---- what is known of calls and of connections that are joined

pub record CallLaws (trade : Trade) (tells : Type 0) : Type 0 where
  pub all : (here : State) (calls more : List Call) → AreCalls trade tells here calls
      → AreCalls trade tells (state_behind here calls) more → AreCalls trade tells here (calls ++ more)
  pub since : (here there : State) (calls : List Call) → here.sites ≡ there.sites
      → ((provider : ℕ) → here.counts provider ≤ there.counts provider)
      → AreCalls trade tells there calls → AreCalls trade tells here calls
  pub same : (here there : State) (calls : List Call) → here.sites ≡ there.sites
      → (state_behind here calls).sites ≡ (state_behind there calls).sites
  pub later : (here there : State) (calls : List Call)
      → ((provider : ℕ) → here.counts provider ≤ there.counts provider)
      → (provider : ℕ) → (state_behind here calls).counts provider ≤ (state_behind there calls).counts provider
  pub same_text : (providers : List Provider) (here there : State) (calls : List Call) → here.sites ≡ there.sites
      → calls_text trade providers here calls ≡ calls_text trade providers there calls
  pub behind : (here : State) (calls more : List Call)
      → state_behind here (calls ++ more) ≡ state_behind (state_behind here calls) more

pub record ConnectionLaws (trade : Trade) (tells : Type 0) (kept : List Kept) : Type 0 where
  pub one : (here : Place) (connections : List Connection) (connection : Connection)
      → AreConnections trade tells kept here connections
      → IsConnection trade tells kept (place_behind here connections) connection
      → AreConnections trade tells kept here (connections ++ connection ∷ [])
  pub behind : (here : Place) (connections : List Connection) (connection : Connection)
      → place_behind here (connections ++ connection ∷ []) ≡ connection.behind
  pub text : (here : Place) (connections : List Connection) (connection : Connection)
      → connections_text trade kept here (connections ++ connection ∷ [])
      ≡ connections_text trade kept here connections
      ++ connection_text trade kept (place_behind here connections).network connection

-- ---- one connection, behind its line

module _ (trade : Trade) (tells : Type 0) (kept : List Kept) (laws : CallLaws trade tells) (here there : Place) (moment : ℕ) (told : Served)
    (next : IsServedNext trade tells kept here there moment told) where
  abbrev connection : Connection
  connection = next.connection

  abbrev handed : List Call
  handed = connection.handed

  abbrev mid : State
  mid = state_behind here.network handed

  only_handed : handed ++ connection.clock ≡ handed
  only_handed = ap (λ (l : List Call). handed ++ l) next.unplayed ∙ append-nil handed

  handed_are : AreCalls trade tells here.network handed
  handed_are = subst (λ (l : List Call). AreCalls trade tells here.network l) only_handed next.is.calls

  mid_same : mid.sites ≡ there.network.sites
  mid_same =
      ap (λ (l : List Call). (state_behind here.network l).sites) (sym only_handed)
      ∙ sym next.is.state ∙ ap (λ (p : Place). p.network.sites) next.behind_is

  mid_later : (provider : ℕ) → mid.counts provider ≤ there.network.counts provider
  mid_later provider =
      let a : (state_behind here.network (handed ++ connection.clock)).counts provider ≡ mid.counts provider =
      ap (λ (l : List Call). (state_behind here.network l).counts provider) only_handed
      in let b : connection.behind.network.counts provider ≡ there.network.counts provider =
      ap (λ (p : Place). p.network.counts provider) next.behind_is
      in omega (arith, a, b, next.is.later provider)

  -- with these calls behind its answer, and the network as it then is
  abbrev with_calls : List Call → State → Connection
  with_calls calls now = record {
    moment = connection.moment;
    input = connection.input;
    hearing = connection.hearing;
    reply = connection.reply;
    handed = handed;
    clock = calls;
    behind = record { network = now; moments = there.moments; requests = there.requests; replies = there.replies };
  }

  module _ (calls : List Call) (unplayed : List Command)
      (plays : commands_of calls ++ unplayed ≡ clock_from (length kept) 0 moment)
      (are : AreCalls trade tells there.network calls) where
    behind_is : state_behind here.network (handed ++ calls) ≡ state_behind mid calls
    behind_is = laws.behind here.network handed calls

    behind_same : (state_behind here.network (handed ++ calls)).sites ≡ (state_behind there.network calls).sites
    behind_same = ap (λ (s : State). s.sites) behind_is ∙ laws.same mid there.network calls mid_same

    behind_later : (provider : ℕ) → (state_behind here.network (handed ++ calls)).counts provider
        ≤ (state_behind there.network calls).counts provider
    behind_later provider =
        let a : (state_behind here.network (handed ++ calls)).counts provider ≡ (state_behind mid calls).counts provider =
        ap (λ (s : State). s.counts provider) behind_is
        in omega (arith, a, laws.later mid there.network calls mid_later provider)

    pub with_calls_is : (now : State) → now.sites ≡ (state_behind here.network (handed ++ calls)).sites
        → ((provider : ℕ) → (state_behind here.network (handed ++ calls)).counts provider ≤ now.counts provider)
        → IsConnection trade tells kept here (with_calls calls now)
    with_calls_is now same later = record {
      moment = subst (λ (p : Place). Gives here.moments connection.moment p.moments) next.behind_is next.is.moment;
      in_time = next.is.in_time;
      left = next.is.left;
      request = subst (λ (p : Place). here.requests ≡ in_front next.is.left p.requests) next.behind_is next.is.request;
      is_input = next.is.is_input;
      heard = next.is.heard;
      replied = next.is.replied;
      replies = subst (λ (p : Place). IfSome here.replies (λ rs. p.replies ≡ Some (rs ++ connection.reply ∷ [])))
          next.behind_is next.is.replies;
      hands = next.is.hands;
      unplayed = unplayed;
      plays = plays ∙ ap (λ (m : ℕ). clock_from (length kept) 0 m) (sym next.moment_is);
      calls = laws.all here.network handed calls handed_are (laws.since mid there.network calls mid_same mid_later are);
      state = same;
      later = later;
    }

    -- its lines
    pub with_calls_text : (now : State) → connection_text trade kept here.network (with_calls calls now)
        ≡ served_line told ++ calls_text trade (providers_of kept) there.network calls
    with_calls_text now =
        ap (λ (t : Bytes). t ++ calls_text trade (providers_of kept) mid calls) (sym next.line)
        ∙ ap (λ (t : Bytes). served_line told ++ t) (laws.same_text (providers_of kept) mid there.network calls mid_same)

-- the commands of a clock and a round, in number
clock_size : (more from moment : ℕ) → length (clock_from more from moment) ≡ more + 1
clock_size zero from moment = refl
clock_size (suc more) from moment = ap suc (clock_size more (from + 1) moment) ∙ omega arith

-- the first of the commands that are left
first_behind : (calls : List Call) (unplayed : List Command)
    → slice_get (commands_of calls ++ unplayed) (length calls) ≡ slice_get unplayed 0
first_behind [] unplayed = refl
first_behind (call ∷ calls) unplayed = first_behind calls unplayed

-- a place, with another network
abbrev pub moved : Place → State → Place
moved there state =
    record { network = state; moments = there.moments; requests = there.requests; replies = there.replies }

-- ---- how far a service is

-- So many connections were served whole, from here to now, and written; the network moved on so from the first state.
pub record Going (trade : Trade) (tells : Type 0) {D : Type 0} (sight : D → Sight) (faults : D → ℕ) (kept : List Kept)
    (first at : RunState D) (here now : Place) (served : ℕ) (before after : Option Bytes) : Type 0 where
  pub whole : List Connection
  pub are : AreConnections trade tells kept here whole
  pub all_whole : All (IsWhole kept) whole
  pub count : length whole ≡ served
  pub behind : place_behind here whole ≡ now
  pub held : after ≡ followed_by before (connections_text trade kept here whole)
  pub moved : AreMoved trade tells sight faults first whole at

pub goes_none : (trade : Trade) (tells : Type 0) {D : Type 0} (sight : D → Sight) (faults : D → ℕ) (kept : List Kept)
    (first : RunState D) (here : Place) (before : Option Bytes)
    → Going trade tells sight faults kept first first here here 0 before before
goes_none trade tells sight faults kept first here before = record {
  whole = [];
  are = tt;
  all_whole = All-nil (IsWhole kept);
  count = refl;
  behind = refl;
  held = followed_nothing before;
  moved = refl;
}

-- one connection more
moved_one : (trade : Trade) (tells : Type 0) {D : Type 0} (sight : D → Sight) (faults : D → ℕ) (first at behind : RunState D)
    (whole : List Connection) (connection : Connection) → AreMoved trade tells sight faults first whole at
    → connection.behind.network ≡ seen behind → MovesOn trade tells sight faults at behind
    → AreMoved trade tells sight faults first (whole ++ connection ∷ []) behind
moved_one trade tells sight faults first at behind [] connection moved same moves =
    (behind, same, subst (λ (s : RunState _). MovesOn trade tells sight faults s behind) moved moves, refl)
moved_one trade tells sight faults first at behind (one ∷ whole) connection moved same moves = (
  moved.0,
  moved.1,
  moved.2,
  moved_one trade tells sight faults moved.0 at behind whole connection moved.3 same moves,
)

module _ (trade : Trade) (tells : Type 0) {D : Type 0} (sight : D → Sight) (faults : D → ℕ) (kept : List Kept)
    (laws : CallLaws trade tells) (joins : ConnectionLaws trade tells kept) (first at : RunState D) (here now : Place)
    (served : ℕ) (before mid : Option Bytes) (going : Going trade tells sight faults kept first at here now served before mid)
  where
    -- ---- one more

    module _ (there : Place) (moment : ℕ) (told : Served) (next : IsServedNext trade tells kept now there moment told)
        (line_held : Option Bytes) (line_written : line_held ≡ followed_by mid (served_line told)) where
      abbrev due : List Command
      due = clock_from (length kept) 0 moment

      abbrev whole_text : Bytes
      whole_text = connections_text trade kept here going.whole

      is_behind : (c : Connection) → IsConnection trade tells kept now c
          → IsConnection trade tells kept (place_behind here going.whole) c
      is_behind c is = subst (λ (p : Place). IsConnection trade tells kept p c) (sym going.behind) is

      text_with : (c : Connection) (text : Bytes) → connection_text trade kept now.network c ≡ text
          → connections_text trade kept here (going.whole ++ c ∷ []) ≡ whole_text ++ text
      text_with c text is =
          joins.text here going.whole c
          ∙ ap (λ (p : Place). whole_text ++ connection_text trade kept p.network c) going.behind
          ∙ ap (λ (t : Bytes). whole_text ++ t) is

      text_held : (more : Bytes) → followed_by line_held more ≡ followed_by before (whole_text ++ (served_line told ++ more))
      text_held more =
          ap (λ (o : Option Bytes). followed_by o more) (line_written ∙ ap (λ (o : Option Bytes). followed_by o (served_line told)) going.held)
          ∙ ap (λ (o : Option Bytes). followed_by o more) (followed_twice before whole_text (served_line told))
          ∙ followed_twice before (whole_text ++ served_line told) more
          ∙ ap (followed_by before) (append_assoc whole_text (served_line told) more)

      -- ---- all of it was played

      module _ (left : State) (calls : List Call) (unplayed : List Command)
          (plays : commands_of calls ++ unplayed ≡ due) (are : AreCalls trade tells there.network calls) where
        abbrev then_at : State → Connection
        then_at state = with_calls trade tells kept laws now there moment told next calls state

        one_is : (state : State)
            → state.sites ≡ (state_behind now.network (next.connection.handed ++ calls)).sites
            → ((provider : ℕ) → (state_behind now.network (next.connection.handed ++ calls)).counts provider ≤ state.counts provider)
            → AreConnections trade tells kept here (going.whole ++ then_at state ∷ [])
        one_is state same later =
            joins.one here going.whole (then_at state) going.are
            (is_behind (then_at state) (with_calls_is trade tells kept laws now there moment told next calls unplayed plays are state same later))

        all_text : (state : State) → connections_text trade kept here (going.whole ++ then_at state ∷ [])
            ≡ whole_text ++ (served_line told ++ calls_text trade (providers_of kept) there.network calls)
        all_text state =
            text_with (then_at state) (served_line told ++ calls_text trade (providers_of kept) there.network calls)
            (with_calls_text trade tells kept laws now there moment told next calls unplayed plays are state)

        -- the network is the one behind these calls
        at_same : state_behind there.network calls ≡ left
            → left.sites ≡ (state_behind now.network (next.connection.handed ++ calls)).sites
        at_same is =
            ap (λ (s : State). s.sites) (sym is)
            ∙ sym (behind_same trade tells kept laws now there moment told next calls unplayed plays are)

        at_later : state_behind there.network calls ≡ left → (provider : ℕ)
            → (state_behind now.network (next.connection.handed ++ calls)).counts provider ≤ left.counts provider
        at_later is provider =
            let a : (state_behind there.network calls).counts provider ≡ left.counts provider =
            ap (λ (s : State). s.counts provider) is
            in omega (arith, a, behind_later trade tells kept laws now there moment told next calls unplayed plays are provider)

        -- as many calls as are due
        as_many : unplayed ≡ [] → length calls ≡ length kept + 1
        as_many none =
            sym (length-map calls (λ (call : Call). call.command))
            ∙ ap length (sym (append-nil (commands_of calls)) ∙ ap (λ (l : List Command). commands_of calls ++ l) (sym none) ∙ plays)
            ∙ clock_size (length kept) 0 moment

        pub goes : unplayed ≡ [] → state_behind there.network calls ≡ left → (after : Option Bytes)
            → after ≡ followed_by line_held (calls_text trade (providers_of kept) there.network calls)
            → (behind : RunState D) → left ≡ seen behind → MovesOn trade tells sight faults at behind
            → Going trade tells sight faults kept first behind here (moved there left) (served + 1) before after
        goes none is after written behind_state same moves = record {
          whole = going.whole ++ then_at left ∷ [];
          are = one_is left (at_same is) (at_later is);
          all_whole = All-append (IsWhole kept) going.whole (then_at left ∷ []) going.all_whole
              (All-cons (IsWhole kept) (then_at left) [] (as_many none) (All-nil (IsWhole kept)));
          count = length-append going.whole (then_at left ∷ []) ∙ ap (λ (n : ℕ). n + 1) going.count;
          behind = joins.behind here going.whole (then_at left);
          held = written ∙ text_held (calls_text trade (providers_of kept) there.network calls)
              ∙ ap (followed_by before) (sym (all_text left));
          moved = moved_one trade tells sight faults first at behind_state going.whole (then_at left) going.moved same moves;
        }

        -- the service that halted within the connection, which left the network so
        halted : Connection → Service
        halted c = record { whole = going.whole; part = Some c; ending = Halted }

        pub broke : (wanted : ℕ) → served < wanted → state_behind there.network calls ≡ left → (after : Option Bytes)
            → WrotePart mid after (served_line told ++ calls_text trade (providers_of kept) there.network calls)
            → (last : RunState D) → Moves trade tells sight faults at last
            → ServesSo trade tells sight faults kept wanted first last here (moved there left) before after endings.WriteFault
        broke wanted few is after part last moves = record {
          service = record { whole = going.whole; part = Some (then_at left); ending = Halted };
          is = record {
            each = one_is left (at_same is) (at_later is);
            whole = going.all_whole;
            ends = (omega (arith, few, going.count), refl);
            leaves = (
              Behind (ap (λ (p : Place). p.network.sites) (sym (joins.behind here going.whole (then_at left)))),
              ap (λ (p : Place). p.replies) (sym (joins.behind here going.whole (then_at left))),
            );
            later = λ provider. (let e : (place_behind here (going.whole ++ then_at left ∷ [])).network.counts provider
                ≡ left.counts provider = ap (λ (p : Place). p.network.counts provider)
                (joins.behind here going.whole (then_at left)) in omega (arith, e));
          };
          ending_is = refl;
          written = subst (λ (t : Bytes). WrotePart before after t) (sym (all_text left))
              (part_behind before mid after whole_text
              (served_line told ++ calls_text trade (providers_of kept) there.network calls) going.held part);
          moved = record { mid = at; whole = going.moved; part = moves };
        }

        -- memory ran out at the next command
        pub lacks : (wanted : ℕ) → served < wanted
            → LeavesOff trade (state_behind there.network calls).sites (slice_get unplayed 0) left.sites
            → ((provider : ℕ) → (state_behind there.network calls).counts provider ≤ left.counts provider)
            → (after : Option Bytes)
            → after ≡ followed_by line_held (calls_text trade (providers_of kept) there.network calls)
            → (last : RunState D) → Moves trade tells sight faults at last
            → ServesSo trade tells sight faults kept wanted first last here (moved there left) before after endings.NoMemory
        lacks wanted few leaves later after written last moves =
            let then = state_behind there.network calls
            in let same = sym (behind_same trade tells kept laws now there moment told next calls unplayed plays are)
            in let behind = joins.behind here going.whole (then_at then)
            in record {
              service = record { whole = going.whole; part = Some (then_at then); ending = Halted };
              is = record {
                each = one_is then same (behind_later trade tells kept laws now there moment told next calls unplayed plays are);
                whole = going.all_whole;
                ends = (omega (arith, few, going.count), refl);
                leaves = (
                  subst (λ (p : Place). LeavesOff trade p.network.sites (next_in kept (then_at then)) left.sites) (sym behind)
                      (subst (λ (o : Option Command). LeavesOff trade then.sites o left.sites) (sym (next_is then)) leaves),
                  ap (λ (p : Place). p.replies) (sym behind),
                );
                later = λ provider. (let e : (place_behind here (going.whole ++ then_at then ∷ [])).network.counts provider
                    ≡ then.counts provider = ap (λ (p : Place). p.network.counts provider) behind
                    in omega (arith, e, later provider));
              };
              ending_is = refl;
              written = written ∙ text_held (calls_text trade (providers_of kept) there.network calls)
                  ∙ ap (followed_by before) (sym (all_text then));
              moved = record { mid = at; whole = going.moved; part = moves };
            }
          where
            next_is : (state : State) → next_in kept (then_at state) ≡ slice_get unplayed 0
            next_is state =
                ap (λ (m : ℕ). slice_get (clock_from (length kept) 0 m) (length calls)) next.moment_is
                ∙ ap (λ (l : List Command). slice_get l (length calls)) (sym plays)
                ∙ first_behind calls unplayed

    -- ---- between two connections

    abbrev between : services.Ending → Service
    between ending = record { whole = going.whole; part = None; ending = ending }

    each_is : AreConnections trade tells kept here (going.whole ++ [])
    each_is = subst (λ (l : List Connection). AreConnections trade tells kept here l) (sym (append-nil going.whole)) going.are

    place_is : place_behind here (going.whole ++ []) ≡ now
    place_is = ap (place_behind here) (append-nil going.whole) ∙ going.behind

    text_is : connections_text trade kept here (going.whole ++ []) ≡ connections_text trade kept here going.whole
    text_is = ap (connections_text trade kept here) (append-nil going.whole)

    written_all : mid ≡ followed_by before (connections_text trade kept here (going.whole ++ []))
    written_all = going.held ∙ ap (followed_by before) (sym text_is)

    count_is : (provider : ℕ) (left : Place) → left.network ≡ now.network
        → (place_behind here (going.whole ++ [])).network.counts provider ≤ left.network.counts provider
    count_is provider left same =
        let a : (place_behind here (going.whole ++ [])).network.counts provider ≡ now.network.counts provider =
        ap (λ (p : Place). p.network.counts provider) place_is
        in let b : left.network.counts provider ≡ now.network.counts provider = ap (λ (s : State). s.counts provider) same
        in omega (arith, a, b)

    sites_is : (left : Place) → left.network ≡ now.network
        → left.network.sites ≡ (place_behind here (going.whole ++ [])).network.sites
    sites_is left same = ap (λ (s : State). s.sites) same ∙ ap (λ (p : Place). p.network.sites) (sym place_is)

    pub all_served : (wanted : ℕ) → served ≡ wanted → Moves trade tells sight faults at at
        → ServesSo trade tells sight faults kept wanted first at here now before mid endings.AllServed
    all_served wanted is moves = record {
      service = between AllServed;
      is = record {
        each = each_is;
        whole = going.all_whole;
        ends = (going.count ∙ is, refl);
        leaves = (sites_is now refl, ap (λ (p : Place). p.replies) (sym place_is));
        later = λ provider. count_is provider now refl;
      };
      ending_is = refl;
      written = written_all;
      moved = record { mid = at; whole = going.moved; part = moves };
    }

    pub none_met : (wanted : ℕ) → served < wanted → (left : Place) → left.network ≡ now.network → left.replies ≡ now.replies
        → (last : RunState D) → Moves trade tells sight faults at last
        → ServesSo trade tells sight faults kept wanted first last here left before mid endings.NoConnection
    none_met wanted few left same replies last moves = record {
      service = between NoConnection;
      is = record {
        each = each_is;
        whole = going.all_whole;
        ends = (omega (arith, few, going.count), refl);
        leaves = (sites_is left same, replies ∙ ap (λ (p : Place). p.replies) (sym place_is));
        later = λ provider. count_is provider left same;
      };
      ending_is = refl;
      written = written_all;
      moved = record { mid = at; whole = going.moved; part = moves };
    }

    pub none_told : (wanted : ℕ) → served < wanted → (left : Place) → left.network ≡ now.network
        → left.replies ≡ replied now.replies (Some []) 0
        → (last : RunState D) → Moves trade tells sight faults at last
        → ServesSo trade tells sight faults kept wanted first last here left before mid endings.NoMoment
    none_told wanted few left same replies last moves = record {
      service = between NoMoment;
      is = record {
        each = each_is;
        whole = going.all_whole;
        ends = (omega (arith, few, going.count), refl);
        leaves = (
          sites_is left same,
          replies ∙ ap (λ (p : Place). replied p.replies (Some []) 0) (sym place_is),
        );
        later = λ provider. count_is provider left same;
      };
      ending_is = refl;
      written = written_all;
      moved = record { mid = at; whole = going.moved; part = moves };
    }

    -- the line of the connection wasn't written whole
    module _ (there : Place) (moment : ℕ) (told : Served) (next : IsServedNext trade tells kept now there moment told) where
      pub line_broke : (wanted : ℕ) → served < wanted → (after : Option Bytes) → WrotePart mid after (served_line told)
          → (last : RunState D) → Moves trade tells sight faults at last
          → ServesSo trade tells sight faults kept wanted first last here there before after endings.WriteFault
      line_broke wanted few after part last moves =
          broke there moment told next (followed_by mid (served_line told)) refl there.network []
          (clock_from (length kept) 0 moment) refl tt wanted few refl after
          (subst (λ (t : Bytes). WrotePart mid after t) (sym (append-nil (served_line told))) part) last moves
