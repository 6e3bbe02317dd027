-- What a provider's turn was, by how it ended.
use Rattle.std.proofs.Common.{◌≡◌, ◌≢◌, ℕ, ◌-◌, ◌^◌, ◌≤◌, List, [], ◌∷◌, ◌∙◌, ap, arith, refl, sym, subst, get_or, length}
use Rattle.std.proofs.Common.{◌⊎◌, inl, inr, Option, Some, None, Ok, Err}
use Rattle.std.specs.Prelude.{Bool, true, false, IfOk, OnErr, OnOk, Result, not}
use Rattle.std.proofs.lemmas.Bool.{cases_eq, cases_lt}
use Rattle.std.proofs.lemmas.Option.{same_Some}
use Rattle.pec_types.specs.Bytes.{Bytes}
use Rattle.pec_types.specs.declared.faults.NoMemory.{NoMemory}
use Rattle.pec_types.specs.declared.turns.Event.{Event}
use Rattle.pec_types.specs.declared.turns.ProviderFault.{ProviderFault}
use Rattle.pec_types.specs.declared.turns.ProviderFault.TheVariants as faults
use Rattle.pec_types.specs.declared.turns.Turn.{Turn}
use Rattle.pec_outside.specs.Flow.{HasRisen}
use Rattle.pec_records.specs.declared.entries.Entry.{Entry}
use Rattle.pec_ledger.specs.Network.{Site}
use Rattle.pec_ledger.specs.Trade.{Trade}
use Rattle.pec_plays.specs.Decisions.{kept_looks, undecided}
use Rattle.pec_screen.specs.Verdicts.{Patterns}
use Rattle.pec_plays.specs.Possible.{IsOfKept, IsOfRead, MayCut, TellsCut, cut_by}
use Rattle.pec_plays.specs.Rounds.{sent_from}
use Rattle.pec_plays.specs.Turns.{Cut, Fails, Other, Turned, Whole, cut_turn, frames_in, looks_by, puts_from, that_fit}
use Rattle.pec_provider.specs.Appending.{WorksAt}
use Rattle.pec_provider.specs.Provider.{Desk, site_of, stopped}
use Rattle.pec_provider.specs.Working.{IsAtWork}
use Rattle.pec_network.specs.Turning.{Breaks, Ends, IsForFew, IsFront, Leads, NoneIsChanged, Puts, StopsShort, Took}
use Rattle.pec_network.specs.Turning.{Waiting, told_of, turn_of}
use Rattle.pec_network.specs.declared.turns.Taken.{Taken}
use Rattle.pec_network.proofs.CutLemmas.{all_done, all_honest, front_of, other_of, took_by, took_down, took_late}
use Rattle.pec_network.proofs.CutLemmas.{took_not_done, unread_all, unread_of, whole_of}
use Rattle.pec_network.proofs.FrameLemmas.{none_taken, puts_count}
use Rattle.pec_network.proofs.StepLemmas.{Joins}

abbrev ended_turn : Site → List Event → ProviderFault → Turned
ended_turn site events fault = record { site = site; events = events; out = []; ended = Some fault }

abbrev pub told_turn : ℕ → List Event → List (ℕ × ℕ) → Option ProviderFault → Turn
told_turn me events sent ended = record { provider = me; events = events; sent = sent; ended = ended }

-- want of memory, where it is the one cause
pub on_err : {X F P : Type 0} (r : Result X F) → P → OnErr r P
on_err (Ok x) p = tt
on_err (Err fault) p = p

-- ---- which frames were put

abbrev head_or : {X : Type 0} → X → List X → X
head_or x [] = x
head_or x (y ∷ ys) = y

abbrev tail_of : {X : Type 0} → List X → List X
tail_of [] = []
tail_of (x ∷ xs) = xs

-- two lists are the same, or they aren't, where it is so of elements
pub lists_same : {X : Type 0} → ((x y : X) → (x ≡ y) ⊎ (x ≡ y → ⊥)) → (xs ys : List X) → (xs ≡ ys) ⊎ (xs ≡ ys → ⊥)
lists_same each [] [] = inl refl
lists_same each [] (y ∷ ys) = inr (λ e. absurd (omega (arith, ap length e)))
lists_same each (x ∷ xs) [] = inr (λ e. absurd (omega (arith, ap length e)))
lists_same {X} each (x ∷ xs) (y ∷ ys) =
    elim (each x y) [
      | inl first ↦
          elim (lists_same each xs ys) [
            | inl others ↦ inl (rw (first, others) refl)
            | inr apart ↦ inr (λ e. apart (ap (λ (l : List X). tail_of l) e))
          ]
      | inr apart ↦ inr (λ e. apart (ap (λ (l : List X). head_or x l) e))
    ]

frames_same : (one other : List Bytes) → (one ≡ other) ⊎ (one ≡ other → ⊥)
frames_same one other = lists_same (λ (a b : Bytes). lists_same cases_eq a b) one other

puts_same : (one other : List (List Bytes)) → (one ≡ other) ⊎ (one ≡ other → ⊥)
puts_same one other = lists_same frames_same one other

-- frames for which there is room are put as they are
abbrev pub Fit : Type 0
Fit = (rooms : ℕ → ℕ) (out : List (List Bytes)) → ((to : ℕ) → length (get_or out to []) ≤ rooms to) → that_fit rooms 0 out ≡ out

-- a read that fails is told
unread_told : (fault : ProviderFault) → IsOfRead fault → (number : ℕ) → Fails number fault ≡ cut_by (Some fault) number
unread_told faults.DiskFault is number = refl
unread_told faults.Down is number = absurd is
unread_told (faults.ClockBack moment) is number = absurd is
unread_told faults.NoAccount is number = absurd is
unread_told faults.Full is number = absurd is
unread_told faults.NoItem is number = absurd is
unread_told (faults.Changed which) is number = refl
unread_told faults.JournalFull is number = absurd is
unread_told faults.OldJournal is number = absurd is
unread_told faults.NoNeed is number = absurd is
unread_told faults.NoMemory is number = absurd is

module _ (Stood : Type 0) (trade : Trade) (me now : ℕ) (screens : List Patterns) (rooms : ℕ → ℕ) (begun : Desk)
    (waiting : Waiting) where
  abbrev old : Site
  old = site_of begun screens waiting

  -- a turn that didn't begin
  pub took_refused : (fault : ProviderFault) → WorksAt {X = Unit {0}} trade me now begun (Err fault)
      → Took Stood trade me now rooms old (ended_turn old [] fault)
  took_refused faults.Down down = took_down Stood trade me now rooms old down
  took_refused (faults.ClockBack moment) late = took_late Stood trade me now rooms old moment late.0 late.1 late.2
  took_refused faults.DiskFault none = absurd none
  took_refused faults.NoAccount none = absurd none
  took_refused faults.Full none = absurd none
  took_refused faults.NoItem none = absurd none
  took_refused (faults.Changed which) none = absurd none
  took_refused faults.JournalFull none = absurd none
  took_refused faults.OldJournal none = absurd none
  took_refused faults.NoNeed none = absurd none
  took_refused faults.NoMemory none = absurd none

  -- a turn that ended early
  took_breaks : (joins : Joins trade me now) (last new : Desk) (waits left : Waiting) (events : List Event)
      (fault : ProviderFault) → IsAtWork trade me now begun
      → Leads Stood trade me now screens begun waiting [] last waits events
      → Breaks Stood trade me now screens last waits fault new left → (fault ≡ faults.NoMemory → ⊥)
      → Took Stood trade me now rooms old (ended_turn (site_of new screens left) events fault)
  took_breaks joins last new waits left events faults.DiskFault works leads breaks other =
      took_not_done Stood trade me now screens begun last waiting waits events leads joins new left faults.DiskFault
      breaks works rooms
  took_breaks joins last new waits left events (faults.Changed which) works leads breaks other =
      took_not_done Stood trade me now screens begun last waiting waits events leads joins new left
      (faults.Changed which) breaks works rooms
  took_breaks joins last new waits left events faults.JournalFull works leads breaks other =
      took_not_done Stood trade me now screens begun last waiting waits events leads joins new left faults.JournalFull
      breaks works rooms
  took_breaks joins last new waits left events faults.NoMemory works leads breaks other = absurd (other refl)
  took_breaks joins last new waits left events faults.Down works leads breaks other = absurd breaks
  took_breaks joins last new waits left events (faults.ClockBack moment) works leads breaks other = absurd breaks
  took_breaks joins last new waits left events faults.NoAccount works leads breaks other = absurd breaks
  took_breaks joins last new waits left events faults.Full works leads breaks other = absurd breaks
  took_breaks joins last new waits left events faults.NoItem works leads breaks other = absurd breaks
  took_breaks joins last new waits left events faults.OldJournal works leads breaks other = absurd breaks
  took_breaks joins last new waits left events faults.NoNeed works leads breaks other = absurd breaks

  -- ---- all steps were done

  module _ (joins : Joins trade me now) (fit : Fit) (desk new : Desk) (left : Waiting) (events : List Event) (count : ℕ)
      (works : IsAtWork trade me now begun) (owed : begun.owed ≡ []) (all : count ≡ trade.providers)
      (far : Leads Stood trade me now screens begun waiting [] desk left events) (none : frames_in left ≡ [])
      (decided : undecided trade me desk.journal ≡ []) where
    abbrev due : List (List Bytes)
    due = puts_from trade me desk.journal rooms desk.owed 0 count

    abbrev put_turn : Option ProviderFault → List (List Bytes) → Turned
    put_turn ended out = record { site = site_of new screens left; events = events; out = out; ended = ended }

    -- it was cut so, with these steps
    took_steps : (turn : Turned) (cut : Cut) → looks_by trade me screens cut ≡ kept_looks trade me screens
        → TellsCut turn.ended (length turn.events) cut
        → cut_turn trade me rooms old far.steps cut ≡ turn
        → MayCut trade me far.steps cut → (Stood → IsOfKept cut) → IsForFew trade.providers cut
        → (Stood → NoneIsChanged trade me turn.site.journal turn.ended)
        → Took Stood trade me now rooms old turn
    took_steps turn cut plain tells is may kept few unchanged =
        took_by Stood trade me now rooms screens begun waiting turn cut far.steps
        (far.sees (kept_looks trade me screens)) plain
        (all_done Stood trade me now screens begun desk waiting left events far none decided)
        (all_honest Stood trade me now screens begun desk waiting left events far none decided) works tells is may kept
        few unchanged

    -- the frames that are due were put
    took_due : new ≡ desk → (out : List (List Bytes)) → out ≡ due → Took Stood trade me now rooms old (put_turn None out)
    took_due same out is =
        took_steps (put_turn None out) Whole refl refl
        (whole_of Stood trade me now screens begun desk waiting left events far none decided owed rooms
        ∙ ap (λ (k : ℕ). record {
          site = site_of desk screens left;
          events = events;
          out = puts_from trade me desk.journal rooms desk.owed 0 k;
          ended = None;
        }) (sym all)
        ∙ ap (λ (o : List (List Bytes)). record { site = site_of desk screens left; events = events; out = o; ended = None })
        (sym is)
        ∙ ap (λ (d : Desk). record { site = site_of d screens left; events = events; out = out; ended = None }) (sym same))
        far.room (λ stood. tt) tt (λ stood journals fit here number is. cc)

    -- others were
    took_other : new ≡ desk → (out : List (List Bytes)) → (out ≡ due → ⊥) → (Stood → out ≡ due)
        → length out ≡ length due → ((to : ℕ) → length (get_or out to []) ≤ rooms to)
        → Took Stood trade me now rooms old (put_turn None out)
    took_other same out apart kept many fits =
        let size = puts_count trade me desk.journal rooms desk.owed 0 count in
        took_steps (put_turn None out) (Other out) refl refl
        (other_of Stood trade me now screens begun desk waiting left events far none decided rooms out (fit rooms out fits)
        ∙ ap (λ (d : Desk). record { site = site_of d screens left; events = events; out = out; ended = None }) (sym same))
        far.room (λ stood. apart (kept stood)) (omega (arith, many, size, all))
        (λ stood journals fit here number is. cc)

    -- a read failed
    took_unread : new ≡ stopped desk → desk.interrupted ≡ None → (fault : ProviderFault) → IsOfRead fault
        → (Stood → NoneIsChanged trade me desk.journal (Some fault))
        → Took Stood trade me now rooms old (put_turn (Some fault) [])
    took_unread same whole fault is unchanged =
        took_steps (put_turn (Some fault) []) (Fails (length events) fault) refl (unread_told fault is (length events))
        (unread_of Stood trade me now screens begun desk waiting left events far none decided joins whole rooms fault
        ∙ ap (λ (d : Desk). record { site = site_of d screens left; events = events; out = []; ended = Some fault })
        (sym same))
        (unread_all Stood trade me now screens begun desk waiting left events far none decided fault is) (λ stood. is) tt
        (λ stood. subst (λ (entries : List Entry). NoneIsChanged trade me entries (Some fault))
        (sym (ap (λ (d : Desk). d.journal) same)) (unchanged stood))

    took_put : (ended : Option ProviderFault) (out : List (List Bytes)) → Puts Stood due rooms desk new ended out
        → (Stood → NoneIsChanged trade me desk.journal ended)
        → Took Stood trade me now rooms old (put_turn ended out)
    took_put None out puts unchanged =
        elim (puts_same out due) [
          | inl is ↦ took_due puts.0 out is
          | inr apart ↦ took_other puts.0 out apart puts.1 puts.2 puts.3
        ]
    took_put (Some fault) out puts unchanged =
        subst (λ (o : List (List Bytes)). Took Stood trade me now rooms old (put_turn (Some fault) o))
        (sym puts.3) (took_unread puts.0 puts.1 fault puts.2 unchanged)

    pub took_whole : (r : Result Taken NoMemory)
        → IfOk r (λ taken. Puts Stood due rooms desk new taken.turn.ended taken.out)
        → (Stood → IfOk r (λ taken. NoneIsChanged trade me desk.journal taken.turn.ended))
        → IfOk r (λ taken. taken.turn ≡ told_turn me events (sent_from 0 taken.out) taken.turn.ended)
        → IfOk r (λ taken. Took Stood trade me now rooms old
        (turn_of (site_of new screens left) taken.turn taken.out))
    took_whole (Err fault) puts unchanged turn = tt
    took_whole (Ok taken) puts unchanged turn =
        subst (λ (told : List Event). Took Stood trade me now rooms old
        (record { site = site_of new screens left; events = told; out = taken.out; ended = taken.turn.ended }))
        (sym (ap (λ (t : Turn). t.events) turn)) (took_put taken.turn.ended taken.out puts unchanged)

  -- a turn that ended early, unless for want of memory
  pub took_early : (joins : Joins trade me now) (new : Desk) (left : Waiting) (events : List Event)
      (fault : ProviderFault) (r : Result Taken NoMemory) → IsAtWork trade me now begun
      → Ends Stood trade me now screens begun waiting [] fault new left events → OnOk r (fault ≢ faults.NoMemory)
      → IfOk r (λ taken. taken.out ≡ []) → IfOk r (λ taken. taken.turn ≡ told_turn me events [] (Some fault))
      → IfOk r (λ taken. Took Stood trade me now rooms old (turn_of (site_of new screens left) taken.turn taken.out))
  took_early joins new left events fault (Err none) works ends other out turn = tt
  took_early joins new left events fault (Ok taken) works ends other out turn = rw (turn, out)
      (took_breaks joins ends.last new ends.waits left events fault works ends.leads ends.breaks other)

module _ (Stood : Type 0) (trade : Trade) (me now : ℕ) (screens : List Patterns) (begun : Desk) (waiting : Waiting)
    (joins : Joins trade me now) where
  short_so : (new : Desk) (left : Waiting) → IsAtWork trade me now begun
      → IsFront Stood trade me now (site_of begun screens waiting) (site_of new screens left)
      → StopsShort Stood trade me now (site_of begun screens waiting) (site_of new screens left)
  short_so new left works front = record { up = works.up; in_time = works.in_time; front = front }

  pub short_whole : (desk new : Desk) (left : Waiting) (events : List Event) (r : Result Taken NoMemory)
      → IsAtWork trade me now begun
      → Leads Stood trade me now screens begun waiting [] desk left events → OnErr r (new ≡ desk)
      → OnErr r (StopsShort Stood trade me now (site_of begun screens waiting) (site_of new screens left))
  short_whole desk new left events (Ok taken) works far same = tt
  short_whole desk new left events (Err none) works far same =
      short_so new left works
      (front_of Stood trade me now screens begun desk waiting left events far joins new left 0 same
      (sym (none_taken left)))

  short_breaks : (last new : Desk) (waits left : Waiting) (events : List Event)
      → IsAtWork trade me now begun
      → Leads Stood trade me now screens begun waiting [] last waits events
      → Breaks Stood trade me now screens last waits faults.NoMemory new left
      → StopsShort Stood trade me now (site_of begun screens waiting) (site_of new screens left)
  short_breaks last new waits left events works far breaks =
      short_so new left works
      (front_of Stood trade me now screens begun last waiting waits events far joins new left breaks.1 breaks.0 breaks.2)

  pub short_early : (new : Desk) (left : Waiting) (events : List Event) (fault : ProviderFault)
      (r : Result Taken NoMemory) → IsAtWork trade me now begun
      → Ends Stood trade me now screens begun waiting [] fault new left events → OnErr r (fault ≡ faults.NoMemory)
      → OnErr r (StopsShort Stood trade me now (site_of begun screens waiting) (site_of new screens left))
  short_early new left events fault (Ok taken) works ends memory = tt
  short_early new left events fault (Err none) works ends memory =
      short_breaks ends.last new ends.waits left events works ends.leads
      (subst (λ (f : ProviderFault). Breaks Stood trade me now screens ends.last ends.waits f new left) memory ends.breaks)

-- only a fault of the disk is told as one
pub disk_early : {P : Type 0} (me : ℕ) (events : List Event) (fault : ProviderFault) (r : Result Taken NoMemory)
    → IfOk r (λ taken. taken.turn ≡ told_turn me events [] (Some fault)) → (fault ≡ faults.DiskFault → P)
    → IfOk r (λ taken. taken.turn.ended ≡ Some faults.DiskFault → P)
disk_early me events fault (Err none) turn rises = tt
disk_early me events fault (Ok taken) turn rises = λ ended.
    rises (same_Some fault faults.DiskFault (sym (ap (λ (t : Turn). t.ended) turn) ∙ ended))

-- ---- want of memory isn't told

-- a turn that didn't begin
pub memory_refused : (trade : Trade) (me now : ℕ) (begun : Desk) (fault : ProviderFault) (told : Option ProviderFault)
    → WorksAt {X = Unit {0}} trade me now begun (Err fault) → told ≡ Some fault → told ≢ Some faults.NoMemory
memory_refused trade me now begun faults.NoMemory told works ended = absurd works
memory_refused trade me now begun faults.DiskFault told works ended = absurd works
memory_refused trade me now begun faults.Down told works ended = λ is.
    let e : Some faults.Down ≡ Some faults.NoMemory = sym ended ∙ is in cc
memory_refused trade me now begun (faults.ClockBack moment) told works ended = λ is.
    let e : Some (faults.ClockBack moment) ≡ Some faults.NoMemory = sym ended ∙ is in cc
memory_refused trade me now begun faults.NoAccount told works ended = absurd works
memory_refused trade me now begun faults.Full told works ended = absurd works
memory_refused trade me now begun faults.NoItem told works ended = absurd works
memory_refused trade me now begun (faults.Changed which) told works ended = absurd works
memory_refused trade me now begun faults.JournalFull told works ended = absurd works
memory_refused trade me now begun faults.OldJournal told works ended = absurd works
memory_refused trade me now begun faults.NoNeed told works ended = absurd works

-- a turn that did all its steps
memory_put : (Stood : Type 0) (frames : List (List Bytes)) (rooms : ℕ → ℕ) (old new : Desk) (ended : Option ProviderFault)
    (out : List (List Bytes)) → Puts Stood frames rooms old new ended out → ended ≢ Some faults.NoMemory
memory_put Stood frames rooms was new None out puts = λ is. cc
memory_put Stood frames rooms was new (Some fault) out puts = λ is.
    subst (λ (f : ProviderFault). IsOfRead f) (same_Some fault faults.NoMemory is) puts.2

pub memory_whole : (Stood : Type 0) (frames : List (List Bytes)) (rooms : ℕ → ℕ) (old new : Desk) (r : Result Taken NoMemory)
    → IfOk r (λ taken. Puts Stood frames rooms old new taken.turn.ended taken.out)
    → IfOk r (λ taken. taken.turn.ended ≢ Some faults.NoMemory)
memory_whole Stood frames rooms was new (Err none) puts = tt
memory_whole Stood frames rooms was new (Ok taken) puts =
    memory_put Stood frames rooms was new taken.turn.ended taken.out puts

-- ---- what is put behind all steps

module _ (Stood : Type 0) (due : List (List Bytes)) (rooms : ℕ → ℕ) (old new : Desk) where
  -- no more than there is room for
  fit_put : (ended : Option ProviderFault) (out : List (List Bytes)) → Puts Stood due rooms old new ended out
      → (to : ℕ) → length (get_or out to []) ≤ rooms to
  fit_put None out puts = puts.3
  fit_put (Some fault) out puts = λ to.
      subst (λ (o : List (List Bytes)). length (get_or o to []) ≤ rooms to) (sym puts.3) (omega arith)

  pub fit_whole : (r : Result Taken NoMemory) → IfOk r (λ taken. Puts Stood due rooms old new taken.turn.ended taken.out)
      → IfOk r (λ taken. (to : ℕ) → length (get_or taken.out to []) ≤ rooms to)
  fit_whole (Err none) puts = tt
  fit_whole (Ok taken) puts = fit_put taken.turn.ended taken.out puts

  -- all were composed
  pub put_all : (events : List Event) (me : ℕ) (out : List (List Bytes)) (r : Result Taken NoMemory)
      → Puts Stood due rooms old new None out → IfOk r (λ taken. taken.out ≡ out)
      → IfOk r (λ taken. taken.turn ≡ told_turn me events (sent_from 0 out) None)
      → IfOk r (λ taken. Puts Stood due rooms old new taken.turn.ended taken.out)
  put_all events me out (Err none) puts is turn = tt
  put_all events me out (Ok taken) puts is turn =
      subst (λ (ended : Option ProviderFault). Puts Stood due rooms old new ended taken.out)
      (sym (ap (λ (t : Turn). t.ended) turn))
      (subst (λ (o : List (List Bytes)). Puts Stood due rooms old new None o) (sym is) puts)

  -- one wasn't
  pub put_none : (events : List Event) (me : ℕ) (fault : ProviderFault) (r : Result Taken NoMemory)
      → (fault ≢ faults.NoMemory → Puts Stood due rooms old new (Some fault) [])
      → OnOk r (fault ≢ faults.NoMemory) → IfOk r (λ taken. taken.out ≡ [])
      → IfOk r (λ taken. taken.turn ≡ told_turn me events [] (Some fault))
      → IfOk r (λ taken. Puts Stood due rooms old new taken.turn.ended taken.out)
  put_none events me fault (Err none) puts other out turn = tt
  put_none events me fault (Ok taken) puts other out turn =
      subst (λ (ended : Option ProviderFault). Puts Stood due rooms old new ended taken.out)
      (sym (ap (λ (t : Turn). t.ended) turn))
      (subst (λ (o : List (List Bytes)). Puts Stood due rooms old new (Some fault) o) (sym out) (puts other))

-- no entry is told as changed where all were composed, or where the fault isn't that
pub unchanged_put : (trade : Trade) (entries : List Entry) (me : ℕ) (events : List Event) (sent : List (ℕ × ℕ))
    (r : Result Taken NoMemory) → IfOk r (λ taken. taken.turn ≡ told_turn me events sent None)
    → IfOk r (λ taken. NoneIsChanged trade me entries taken.turn.ended)
unchanged_put trade entries me events sent (Err none) turn = tt
unchanged_put trade entries me events sent (Ok taken) turn = λ journals fit here number is.
    let e : None ≡ Some (faults.Changed number) = sym (ap (λ (t : Turn). t.ended) turn) ∙ is in cc

pub unchanged_none : (trade : Trade) (entries : List Entry) (me : ℕ) (events : List Event) (fault : ProviderFault)
    (r : Result Taken NoMemory) → IfOk r (λ taken. taken.turn ≡ told_turn me events [] (Some fault))
    → NoneIsChanged trade me entries (Some fault) → IfOk r (λ taken. NoneIsChanged trade me entries taken.turn.ended)
unchanged_none trade entries me events fault (Err none) turn unchanged = tt
unchanged_none trade entries me events fault (Ok taken) turn unchanged = λ journals fit here number is.
    unchanged journals fit here number (sym (ap (λ (t : Turn). t.ended) turn) ∙ is)

-- where less is asked of the disk more is known
puts_weaker : (Stood Asked : Type 0) → (Asked → Stood) → (frames : List (List Bytes)) (rooms : ℕ → ℕ) (old new : Desk)
    (ended : Option ProviderFault) (out : List (List Bytes)) → Puts Stood frames rooms old new ended out
    → Puts Asked frames rooms old new ended out
puts_weaker Stood Asked so frames rooms was new None out puts = (puts.0, λ asked. puts.1 (so asked), puts.2, puts.3)
puts_weaker Stood Asked so frames rooms was new (Some fault) out puts = puts

pub whole_weaker : (Stood Asked : Type 0) → (Asked → Stood) → (frames : List (List Bytes)) (rooms : ℕ → ℕ) (old new : Desk)
    (r : Result Taken NoMemory) → IfOk r (λ taken. Puts Stood frames rooms old new taken.turn.ended taken.out)
    → IfOk r (λ taken. Puts Asked frames rooms old new taken.turn.ended taken.out)
whole_weaker Stood Asked so frames rooms was new (Err none) puts = tt
whole_weaker Stood Asked so frames rooms was new (Ok taken) puts =
    puts_weaker Stood Asked so frames rooms was new taken.turn.ended taken.out puts

-- a count that rose behind all steps rose in the turn
pub risen_whole : (before between now : ℕ) (r : Result Taken NoMemory) → before ≤ between → between ≤ now
    → IfOk r (λ taken. taken.turn.ended ≡ Some faults.DiskFault → HasRisen between now)
    → IfOk r (λ taken. taken.turn.ended ≡ Some faults.DiskFault → HasRisen before now)
risen_whole before between now (Err none) first second rises = tt
risen_whole before between now (Ok taken) first second rises = λ ended.
    λ few.
    elim (cases_lt between (2 ^ 64 - 1)) [
      | inl below ↦ let rose = rises ended below in omega (arith, first, rose)
      | inr past ↦ omega (arith, second, past, few)
    ]

pub not_down : (down : Bool) → not down ≡ true → down ≡ false
not_down false e = refl
not_down true e = absurd (cc)

-- what is told of it
pub told_all : (me : ℕ) (events : List Event) (out : List (List Bytes)) (r : Result Taken NoMemory)
    → IfOk r (λ taken. taken.out ≡ out) → IfOk r (λ taken. taken.turn ≡ told_turn me events (sent_from 0 out) None)
    → IfOk r (λ taken. taken.turn ≡ told_turn me events (sent_from 0 taken.out) taken.turn.ended)
told_all me events out (Err none) is turn = tt
told_all me events out (Ok taken) is turn =
    turn
    ∙ ap (λ (o : List (List Bytes)). told_turn me events (sent_from 0 o) None) (sym is)
    ∙ ap (λ (ended : Option ProviderFault). told_turn me events (sent_from 0 taken.out) ended)
    (sym (ap (λ (t : Turn). t.ended) turn))

pub told_none : (me : ℕ) (events : List Event) (fault : ProviderFault) (r : Result Taken NoMemory)
    → IfOk r (λ taken. taken.out ≡ []) → IfOk r (λ taken. taken.turn ≡ told_turn me events [] (Some fault))
    → IfOk r (λ taken. taken.turn ≡ told_turn me events (sent_from 0 taken.out) taken.turn.ended)
told_none me events fault (Err none) is turn = tt
told_none me events fault (Ok taken) is turn =
    turn
    ∙ ap (λ (o : List (List Bytes)). told_turn me events (sent_from 0 o) (Some fault)) (sym is)
    ∙ ap (λ (ended : Option ProviderFault). told_turn me events (sent_from 0 taken.out) ended)
    (sym (ap (λ (t : Turn). t.ended) turn))

-- as the turn's own clause says it
pub told_whole : (me : ℕ) (events : List Event) (site : Site) (r : Result Taken NoMemory)
    → IfOk r (λ taken. taken.turn ≡ told_turn me events (sent_from 0 taken.out) taken.turn.ended)
    → IfOk r (λ taken. taken.turn ≡ told_of me (turn_of site taken.turn taken.out))
told_whole me events site (Err none) turn = tt
told_whole me events site (Ok taken) turn =
    turn
    ∙ ap (λ (told : List Event). told_turn me told (sent_from 0 taken.out) taken.turn.ended)
    (sym (ap (λ (t : Turn). t.events) turn))

-- a turn that ended early
pub memory_early : (me : ℕ) (events : List Event) (fault : ProviderFault) (r : Result Taken NoMemory)
    → OnOk r (fault ≢ faults.NoMemory) → IfOk r (λ taken. taken.turn ≡ told_turn me events [] (Some fault))
    → IfOk r (λ taken. taken.turn.ended ≢ Some faults.NoMemory)
memory_early me events fault (Err none) other turn = tt
memory_early me events fault (Ok taken) other turn = λ is.
    other (same_Some fault faults.NoMemory (sym (ap (λ (t : Turn). t.ended) turn) ∙ is))
