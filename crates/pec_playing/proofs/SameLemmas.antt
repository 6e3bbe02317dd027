-- Two states of a network are the same, or they differ: each is told by lists of numbers.
use Rattle.std.proofs.Common.{◌≡◌, ◌≢◌, ◌⊎◌, inl, inr, ℕ, List, [], ◌∷◌, Bool, true, false, map, get_or, drop, refl, ap}
use Rattle.std.proofs.Common.{sym, ◌∙◌, Option, Some, None}
use Rattle.std.proofs.lemmas.Bool.{cases_eq}
use Rattle.std.proofs.lemmas.Option.{same_Some}
use Rattle.pec_types.specs.Bytes.{Bytes}
use Rattle.pec_types.specs.Words.{all_causes}
use Rattle.pec_types.specs.declared.messages.Cause.{Cause}
use Rattle.pec_types.specs.declared.messages.Cause.TheVariants as causes
use Rattle.pec_types.specs.declared.messages.Decision.{Decision}
use Rattle.pec_types.specs.declared.messages.Decision.TheVariants as decisions
use Rattle.pec_types.specs.declared.messages.Refusal.TheVariants as refusals
use Rattle.pec_records.specs.Entry.{cause_field, decision_field}
use Rattle.pec_records.specs.declared.entries.Entry.{Entry}
use Rattle.pec_records.specs.declared.entries.Entry.TheVariants as entries
use Rattle.pec_ledger.specs.Network.{Site}

-- the two are the same, or they differ
abbrev pub Told : {X : Type 0} → X → X → Type 0
Told a b = (a ≡ b) ⊎ (a ≢ b)

-- ---- lists

cons_told : {X : Type 0} (a b : X) (xs ys : List X) → Told a b → Told xs ys → Told (a ∷ xs) (b ∷ ys)
cons_told a b xs ys (inl x) (inl y) = inl (ap (λ (z : _). z ∷ xs) x ∙ ap (λ (l : List _). b ∷ l) y)
cons_told a b xs ys (inl x) (inr n) = inr (λ e. n (let t : xs ≡ ys = cc in t))
cons_told a b xs ys (inr n) y = inr (λ e. n (let h : a ≡ b = cc in h))

pub lists_told : {X : Type 0} → ((a b : X) → Told a b) → (xs ys : List X) → Told xs ys
lists_told told [] [] = inl refl
lists_told told [] (b ∷ ys) = inr (λ e. absurd cc)
lists_told told (a ∷ xs) [] = inr (λ e. absurd cc)
lists_told told (a ∷ xs) (b ∷ ys) = cons_told a b xs ys (told a b) (lists_told told xs ys)

-- what is told by something else that gives it back
by_code : {X C : Type 0} (code : X → C) (back : C → X) → ((x : X) → back (code x) ≡ x) → (a b : X) → Told (code a)
    (code b) → Told a b
by_code code back again a b (inl e) = inl (sym (again a) ∙ ap back e ∙ again b)
by_code code back again a b (inr n) = inr (λ e. n (ap code e))

-- ---- entries

abbrev Code : Type 0
Code = List Bytes

abbrev number_in : Code → ℕ → ℕ
number_in code place = get_or (get_or code place []) 0 0

abbrev bytes_in : Code → ℕ → Bytes
bytes_in code place = get_or code place []

abbrev cause_back : Bytes → Cause
cause_back field = get_or (causes.Head ∷ all_causes) (get_or field 0 0) causes.Head

-- what finds all causes finds each
abbrev pub CausesFound : Type 0
CausesFound =
    (find : Cause → Option Cause) → map find all_causes ≡ map (λ (one : Cause). Some one) all_causes → (cause : Cause)
    → find cause ≡ Some cause

cause_again : CausesFound → (cause : Cause) → cause_back (cause_field cause) ≡ cause
cause_again found cause =
    same_Some (cause_back (cause_field cause)) cause
    (found (λ (one : Cause). Some (cause_back (cause_field one))) refl cause)

abbrev decision_back : Bytes → Decision
decision_back field =
    get_or (decisions.Placed ∷ decisions.Refused refusals.NoMailbox ∷ decisions.Refused refusals.MailboxFull
    ∷ decisions.Refused refusals.Virus ∷ []) (get_or field 0 0) decisions.Placed

decision_again : (decision : Decision) → decision_back (decision_field decision) ≡ decision
decision_again decisions.Placed = refl
decision_again (decisions.Refused refusals.NoMailbox) = refl
decision_again (decisions.Refused refusals.MailboxFull) = refl
decision_again (decisions.Refused refusals.Virus) = refl

abbrev entry_code : Entry → Code
entry_code (entries.Start provider digest) = (0 ∷ []) ∷ (provider ∷ []) ∷ digest ∷ []
entry_code (entries.Accepted moment sender message) = (1 ∷ []) ∷ (moment ∷ []) ∷ sender ∷ message ∷ []
entry_code (entries.NotAccepted moment sender cause path message) =
    (2 ∷ []) ∷ (moment ∷ []) ∷ sender ∷ cause_field cause ∷ message ∷ path
entry_code (entries.Took moment id message) =
    (3 ∷ []) ∷ (moment ∷ []) ∷ (id.provider ∷ []) ∷ (id.number ∷ []) ∷ message ∷ []
entry_code (entries.Decided moment id recipient decision) =
    (4 ∷ []) ∷ (moment ∷ []) ∷ (id.provider ∷ []) ∷ (id.number ∷ []) ∷ recipient ∷ decision_field decision ∷ []
entry_code (entries.Charged moment id by) =
    (5 ∷ []) ∷ (moment ∷ []) ∷ (id.provider ∷ []) ∷ (id.number ∷ []) ∷ (by ∷ []) ∷ []
entry_code (entries.Learned moment id recipient decision decided message) =
    (6 ∷ []) ∷ (moment ∷ []) ∷ (id.provider ∷ []) ∷ (id.number ∷ []) ∷ recipient ∷ decision_field decision ∷
    (decided ∷ [])
    ∷ message ∷ []
entry_code (entries.Acked moment id recipient) =
    (7 ∷ []) ∷ (moment ∷ []) ∷ (id.provider ∷ []) ∷ (id.number ∷ []) ∷ recipient ∷ []
entry_code (entries.Ticked moment) = (8 ∷ []) ∷ (moment ∷ []) ∷ []
entry_code (entries.Anomaly moment accounts message) = (9 ∷ []) ∷ (moment ∷ []) ∷ message ∷ accounts
entry_code (entries.StartTwo provider digest) = (10 ∷ []) ∷ (provider ∷ []) ∷ digest ∷ []
entry_code (entries.Upgraded moment) = (11 ∷ []) ∷ (moment ∷ []) ∷ []
entry_code (entries.Archived moment account place) = (12 ∷ []) ∷ (moment ∷ []) ∷ account ∷ (place ∷ []) ∷ []

abbrev backs : Code → List Entry
backs code =
    entries.Start (number_in code 1) (bytes_in code 2)
    ∷ entries.Accepted (number_in code 1) (bytes_in code 2) (bytes_in code 3)
    ∷ entries.NotAccepted (number_in code 1) (bytes_in code 2) (cause_back (bytes_in code 3)) (drop 5 code)
    (bytes_in code 4)
    ∷ entries.Took (number_in code 1) (record { provider = number_in code 2; number = number_in code 3 })
    (bytes_in code 4)
    ∷ entries.Decided (number_in code 1) (record { provider = number_in code 2; number = number_in code 3 })
    (bytes_in code 4)
    (decision_back (bytes_in code 5))
    ∷ entries.Charged (number_in code 1) (record { provider = number_in code 2; number = number_in code 3 })
    (number_in code 4)
    ∷ entries.Learned (number_in code 1) (record { provider = number_in code 2; number = number_in code 3 })
    (bytes_in code 4)
    (decision_back (bytes_in code 5)) (number_in code 6) (bytes_in code 7)
    ∷ entries.Acked (number_in code 1) (record { provider = number_in code 2; number = number_in code 3 })
    (bytes_in code 4)
    ∷ entries.Ticked (number_in code 1)
    ∷ entries.Anomaly (number_in code 1) (drop 3 code) (bytes_in code 2)
    ∷ entries.StartTwo (number_in code 1) (bytes_in code 2)
    ∷ entries.Upgraded (number_in code 1)
    ∷ entries.Archived (number_in code 1) (bytes_in code 2) (number_in code 3)
    ∷ []

abbrev entry_back : Code → Entry
entry_back code = get_or (backs code) (number_in code 0) (entries.Ticked 0)

entry_again : CausesFound → (entry : Entry) → entry_back (entry_code entry) ≡ entry
entry_again found (entries.Start provider digest) = refl
entry_again found (entries.Accepted moment sender message) = refl
entry_again found (entries.NotAccepted moment sender cause path message) =
    ap (λ (c : Cause). entries.NotAccepted moment sender c path message) (cause_again found cause)
entry_again found (entries.Took moment id message) = refl
entry_again found (entries.Decided moment id recipient decision) =
    ap (λ (d : Decision). entries.Decided moment id recipient d) (decision_again decision)
entry_again found (entries.Charged moment id by) = refl
entry_again found (entries.Learned moment id recipient decision decided message) =
    ap (λ (d : Decision). entries.Learned moment id recipient d decided message) (decision_again decision)
entry_again found (entries.Acked moment id recipient) = refl
entry_again found (entries.Ticked moment) = refl
entry_again found (entries.Anomaly moment accounts message) = refl
entry_again found (entries.StartTwo provider digest) = refl
entry_again found (entries.Upgraded moment) = refl
entry_again found (entries.Archived moment account place) = refl

codes_told : (a b : Code) → Told a b
codes_told = lists_told (lists_told cases_eq)

-- ---- sites

abbrev flag_code : Bool → List Code
flag_code true = [] ∷ []
flag_code false = []

abbrev flag_back : List Code → Bool
flag_back [] = false
flag_back (code ∷ more) = true

flag_again : (flag : Bool) → flag_back (flag_code flag) ≡ flag
flag_again true = refl
flag_again false = refl

abbrev option_code : Option Entry → List Code
option_code None = []
option_code (Some entry) = entry_code entry ∷ []

abbrev option_back : List Code → Option Entry
option_back [] = None
option_back (code ∷ more) = Some (entry_back code)

option_again : CausesFound → (o : Option Entry) → option_back (option_code o) ≡ o
option_again found None = refl
option_again found (Some entry) = ap (λ (e : Entry). Some e) (entry_again found entry)

list_again : CausesFound → (list : List Entry) → map entry_back (map entry_code list) ≡ list
list_again found [] = refl
list_again found (entry ∷ list) =
    ap (λ (e : Entry). e ∷ map entry_back (map entry_code list)) (entry_again found entry)
    ∙ ap (λ (l : List Entry). entry ∷ l) (list_again found list)

abbrev site_code : Site → List (List Code)
site_code site =
    map entry_code site.journal ∷ flag_code site.up ∷ option_code site.interrupted ∷ site.waiting ∷ site.screens ∷ []

abbrev site_back : List (List Code) → Site
site_back code = record {
  journal = map entry_back (get_or code 0 []);
  up = flag_back (get_or code 1 []);
  interrupted = option_back (get_or code 2 []);
  waiting = get_or code 3 [];
  screens = get_or code 4 [];
}

site_again : CausesFound → (site : Site) → site_back (site_code site) ≡ site
site_again found site =
    ap (λ (l : List Entry). (let s : Site = record {
      journal = l;
      up = flag_back (flag_code site.up);
      interrupted = option_back (option_code site.interrupted);
      waiting = site.waiting;
      screens = site.screens;
    } in s)) (list_again found site.journal)
    ∙ ap (λ (b : Bool). (let s : Site = record {
      journal = site.journal;
      up = b;
      interrupted = option_back (option_code site.interrupted);
      waiting = site.waiting;
      screens = site.screens;
    } in s)) (flag_again site.up)
    ∙ ap (λ (o : Option Entry). (let s : Site = record {
      journal = site.journal;
      up = site.up;
      interrupted = o;
      waiting = site.waiting;
      screens = site.screens;
    } in s)) (option_again found site.interrupted)

site_told : CausesFound → (a b : Site) → Told a b
site_told found a b =
    by_code site_code site_back (site_again found) a b (lists_told (lists_told codes_told) (site_code a) (site_code b))

pub sites_told : CausesFound → (xs ys : List Site) → Told xs ys
sites_told found = lists_told (site_told found)
