-- What becomes of a network where one provider crashes, or is restarted.
use Rattle.std.proofs.Common.{◌≡◌, ℕ, zero, suc, ◌<◌, Bool, true, false, List, [], ◌∷◌, ◌++◌, length, get_or, set, refl, ap, sym, subst, ◌∙◌, arith, inl, inr, Option, Some, None}
use Rattle.std.specs.Prelude.{nat_lt, not}
use Rattle.std.specs.List.{insert, remove}
use Rattle.std.proofs.lemmas.Bool.{cases_eq, le-ltb, lt-ltb}
use Rattle.std.proofs.lemmas.List.{get_or-set_other, get_or-set_same, length-append, set-get_or}
use Rattle.pec_types.specs.declared.turns.ProviderFault.TheVariants as refusals
use Rattle.pec_records.specs.declared.entries.Entry.{Entry}
use Rattle.pec_ledger.specs.Network.{Site, chosen, is_up, site_at}
use Rattle.pec_ledger.specs.Trade.{Trade}
use Rattle.pec_plays.specs.Commands.{Crash, Crashed, IsUp, Luck, Played, Refuses, Restart, Restarted, answers, played, restarted, stopped_site, with_site}
use Rattle.pec_posts.specs.Arrivals.{Waiting, waiting_for}
use Rattle.pec_screen.specs.Verdicts.{Patterns}
use Rattle.pec_provider.specs.Playing.{luck_of}
use Rattle.pec_provider.specs.Provider.{Desk, ProviderState, desk_of, fresh, site_of, stopped}
use Rattle.pec_outside.specs.DiskModel.{Only, Sight}
use Rattle.pec_stock.specs.Opening.{IsOutside}
use Rattle.pec_stock.specs.declared.faults.ReopenFault.{ReopenFault}
use Rattle.pec_stock.specs.declared.faults.ReopenFault.TheVariants as reopen
use Rattle.pec_network.specs.Changing.{ChangesOnly, CrashedAt, IsCrashedDisk, SameCounts}
use Rattle.pec_network.specs.Network.{NetworkState, sites_of}
use Rattle.pec_network.specs.Restarting.{IsFit, IsNotRestarted, IsRestarted, IsUpAt, luck_told, restarted_as}
use Rattle.pec_network.specs.declared.faults.RestartFault.TheVariants as faults
use Rattle.pec_network.proofs.ChangeLemmas.{at_new, at_old, there_from}
use Rattle.pec_network.proofs.SiteLemmas.{provider_changes, site_again, site_is}

-- ---- lists

-- what was taken out, and something else put in its place
pub put_instead : {X : Type 0} (list : List X) (at : ℕ) (element : X) → at < length list → insert (remove list at) at element ≡ set list at element
put_instead [] at element l = absurd (omega arith)
put_instead (x ∷ xs) zero element l = refl
put_instead (x ∷ xs) (suc at) element l = ap (λ (more : List _). x ∷ more) (put_instead xs at element (omega arith))

-- ---- interrupted entries

chosen_none : (choice : Bool) → chosen choice None ≡ []
chosen_none true = refl
chosen_none false = refl

-- whether an interrupted entry was found is told by the number of entries
told_found : (journal : List Entry) (interrupted : Option Entry) (found : Bool)
    → chosen (nat_lt (length journal) (length (journal ++ chosen found interrupted))) interrupted ≡ chosen found interrupted
told_found journal None found = chosen_none (nat_lt (length journal) (length (journal ++ chosen found None))) ∙ sym (chosen_none found)
told_found journal (Some entry) true =
    ap (λ (b : Bool). chosen b (Some entry)) (lt-ltb (length journal) (length (journal ++ entry ∷ []))
    (let e = length-append journal (entry ∷ []) in omega arith))
told_found journal (Some entry) false =
    ap (λ (b : Bool). chosen b (Some entry)) (le-ltb (length journal) (length (journal ++ []))
    (let e = length-append journal [] in omega arith))

-- ---- one provider

pub changes_only : {D S : Type 0} (network : NetworkState D S) (number : ℕ) (new : ProviderState D) (looks : List (List ℕ))
    → number < length network.providers
    → ChangesOnly number network (record network { providers = set network.providers number new; looks = looks })
changes_only {D} {S} network number new looks within = λ other.
    ap (λ (p : ProviderState D). (let n : NetworkState D S =
    record network { providers = set network.providers number p; looks = looks } in n))
    (sym (get_or-set_same network.providers number new other within))

-- a provider that is down is stopped
stays_stopped : {D : Type 0} (old : ProviderState D) → old.chronicle.down ≡ true → stopped (desk_of old) ≡ desk_of old
stays_stopped old down =
    ap (λ (b : Bool). (let d : Desk = record {
      journal = old.chronicle.entries;
      owed = old.owed;
      up = not b;
      interrupted = old.chronicle.interrupted;
    } in d)) (sym down)

module _ {D : Type 0} (trade : Trade) (providers : List (ProviderState D)) (screens : List (List Patterns))
    (waiting : List Waiting) (me : ℕ) (old new : ProviderState D)
    (within : me < length providers) (here : old ≡ get_or providers me old) where
  abbrev all : List Site
  all = sites_of providers screens waiting

  abbrev after : List Site
  after = sites_of (set providers me new) screens waiting

  abbrev boxes : List Patterns
  boxes = get_or screens me []

  abbrev links : Waiting
  links = waiting_for waiting me

  is_there : site_at all me ≡ site_of (desk_of old) boxes links
  is_there = there_from providers me old new within here screens waiting

  goes_to : (desk : Desk) → desk_of new ≡ desk → with_site all me (site_of desk boxes links) ≡ after
  goes_to desk is =
      ap (λ (d : Desk). with_site all me (site_of d boxes links)) (sym is)
      ∙ sym (provider_changes providers screens waiting me new within)

  -- nothing but the room has changed
  pub stays_there : desk_of new ≡ desk_of old → after ≡ all
  stays_there same = sym (goes_to (desk_of old) same) ∙ ap (λ (s : Site). with_site all me s) (sym is_there) ∙ site_again all me

  pub crashed_so : (luck : Luck) → desk_of new ≡ stopped (desk_of old)
      → played trade luck all (Crash me) ≡ record { answer = Crashed; after = after }
  unfolding played
  crashed_so luck is =
      ap (λ (s : Site). (let p : Played = record { answer = Crashed; after = with_site all me (stopped_site s) } in p)) is_there
      ∙ ap (λ (s : List Site). (let p : Played = record { answer = Crashed; after = s } in p)) (goes_to (stopped (desk_of old)) is)

  restart_is : (luck : Luck) → played trade luck all (Restart me) ≡ restarted luck all me (site_of (desk_of old) boxes links)
  unfolding played
  restart_is luck = ap (λ (s : Site). restarted luck all me s) is_there

  pub up_so : old.chronicle.down ≡ false → (luck : Luck) → played trade luck all (Restart me) ≡ answers all IsUp
  up_so up luck = restart_is luck ∙ rw up refl

  failed_so : old.chronicle.down ≡ true → played trade (luck_of true) all (Restart me) ≡ answers all (Refuses refusals.DiskFault)
  failed_so down = restart_is (luck_of true) ∙ rw down refl

  pub restarted_so : old.chronicle.down ≡ true → desk_of new ≡ fresh new.chronicle.entries
      → (found : Bool) × (new.chronicle.entries ≡ old.chronicle.entries ++ chosen found old.chronicle.interrupted)
      → IsRestarted (λ (luck : Luck). played trade luck all (Restart me)) all me after (length new.chronicle.entries)
  restarted_so down up (found, is) =
      let luck = luck_told all me (length new.chronicle.entries) in
      let told : chosen luck.found old.chronicle.interrupted ≡ chosen found old.chronicle.interrupted =
      ap (λ (s : Site). chosen (nat_lt (length s.journal) (length new.chronicle.entries)) old.chronicle.interrupted) is_there
      ∙ ap (λ (l : List Entry). chosen (nat_lt (length old.chronicle.entries) (length l)) old.chronicle.interrupted) is
      ∙ told_found old.chronicle.entries old.chronicle.interrupted found in
      let journal : old.chronicle.entries ++ chosen luck.found old.chronicle.interrupted ≡ new.chronicle.entries =
      ap (λ (l : List Entry). old.chronicle.entries ++ l) told ∙ sym is in
      restart_is luck
      ∙ restarts luck refl down
      ∙ ap (λ (l : List Entry). (let p : Played = record {
        answer = Restarted (length l);
        after = with_site all me (site_of (fresh l) boxes links);
      } in p)) journal
      ∙ ap (λ (s : List Site). (let p : Played = record { answer = Restarted (length new.chronicle.entries); after = s } in p))
      (goes_to (fresh new.chronicle.entries) up)
    where
      restarts : (luck : Luck) → luck.fails ≡ false → old.chronicle.down ≡ true
          → restarted luck all me (site_of (desk_of old) boxes links)
          ≡ record {
            answer = Restarted (length (old.chronicle.entries ++ chosen luck.found old.chronicle.interrupted));
            after = with_site all me (site_of (fresh (old.chronicle.entries ++ chosen luck.found old.chronicle.interrupted)) boxes links);
          }
      restarts luck works down = rw (down, works) refl

  pub not_restarted_so : old.chronicle.down ≡ true → desk_of new ≡ stopped (desk_of old) → (fault : ReopenFault)
      → IsNotRestarted (λ (luck : Luck). played trade luck all (Restart me)) all me after (restarted_as fault)
  not_restarted_so down is fault =
      let same = stays_there (is ∙ stays_stopped old down) in
      let is_down : (site_at all me).up ≡ false = ap (λ (s : Site). s.up) is_there ∙ ap not down in
      by_fault fault same is_down
    where
      by_fault : (f : ReopenFault) → after ≡ all → (site_at all me).up ≡ false
          → IsNotRestarted (λ (luck : Luck). played trade luck all (Restart me)) all me after (restarted_as f)
      by_fault reopen.DiskFault same is_down = (failed_so down, same)
      by_fault (reopen.NotAJournal place) same is_down = (is_down, same)
      by_fault (reopen.OtherDirectory kept given) same is_down = (is_down, same)
      by_fault (reopen.BadEntry number) same is_down = (is_down, same)
      by_fault reopen.NoMemory same is_down = same

-- ---- what else is said of the call

pub down_there : {D : Type 0} (providers : List (ProviderState D)) (screens : List (List Patterns)) (waiting : List Waiting)
    (me : ℕ) (old : ProviderState D)
    → me < length providers → old ≡ get_or providers me old → old.chronicle.down ≡ true
    → is_up (sites_of providers screens waiting) me ≡ false
down_there providers screens waiting me old within here down =
    ap (λ (s : Site). s.up) (site_is providers screens waiting me old within)
    ∙ ap (λ (p : ProviderState _). not p.chronicle.down) (sym here)
    ∙ ap not down

pub changes_nothing : {D S : Type 0} (network : NetworkState D S) (number : ℕ) → number < length network.providers
    → ChangesOnly number network network
changes_nothing {D} {S} network number within = λ other.
    ap (λ (l : List (ProviderState D)). (let n : NetworkState D S = record network { providers = l; looks = network.looks } in n))
    (sym (set-get_or network.providers number other))

module _ {D : Type 0} (providers : List (ProviderState D)) (number : ℕ) (old new : ProviderState D) (within : number < length providers)
    (here : old ≡ get_or providers number old) where
  pub crashed_disk : (sight : D → Sight) → (sight old.chronicle.disk).may_leave (sight new.chronicle.disk).seen
      → Only (sight new.chronicle.disk).seen (sight new.chronicle.disk).may_leave
      → CrashedAt sight number providers (set providers number new)
  crashed_disk sight left durable = λ other.
      subst (λ (p : ProviderState D). IsCrashedDisk sight p.chronicle.disk (get_or (set providers number new) number other).chronicle.disk)
      (sym (at_old providers number old new within here other))
      (subst (λ (p : ProviderState D). IsCrashedDisk sight old.chronicle.disk p.chronicle.disk)
      (sym (at_new providers number old new within here other)) (record { left = left; durable = durable }))

  pub same_counts : (count : D → ℕ) → count new.chronicle.disk ≡ count old.chronicle.disk → SameCounts count providers (set providers number new)
  same_counts count same = λ k other.
      elim (cases_eq k number) [
        | inl at ↦
            ap (λ (n : ℕ). count (get_or (set providers number new) n other).chronicle.disk) at
            ∙ ap (λ (p : ProviderState D). count p.chronicle.disk) (at_new providers number old new within here other)
            ∙ same
            ∙ ap (λ (p : ProviderState D). count p.chronicle.disk) (sym (at_old providers number old new within here other))
            ∙ ap (λ (n : ℕ). count (get_or providers n other).chronicle.disk) (sym at)
        | inr elsewhere ↦ ap (λ (p : ProviderState D). count p.chronicle.disk) (get_or-set_other providers number k new other elsewhere)
      ]

  pub up_at : (entries : ℕ) → entries ≡ length new.chronicle.entries → desk_of new ≡ fresh new.chronicle.entries
      → IsUpAt number (set providers number new) entries
  up_at entries size up =
      (new.chronicle.entries, sym size, λ other. ap (λ (p : ProviderState D). desk_of p) (at_new providers number old new within here other) ∙ up)

pub fit_outside : (fault : ReopenFault) → IsOutside fault → IsFit (restarted_as fault)
fit_outside reopen.DiskFault out = tt
fit_outside (reopen.NotAJournal place) out = absurd out
fit_outside (reopen.OtherDirectory kept given) out = absurd out
fit_outside (reopen.BadEntry number) out = absurd out
fit_outside reopen.NoMemory out = tt

-- only a fault of the disk is answered as one
pub disk_fault_so : (fault : ReopenFault) → restarted_as fault ≡ faults.DiskFault → fault ≡ reopen.DiskFault
disk_fault_so reopen.DiskFault e = refl
disk_fault_so (reopen.NotAJournal place) e = absurd (cc)
disk_fault_so (reopen.OtherDirectory kept given) e = absurd (cc)
disk_fault_so (reopen.BadEntry number) e = absurd (cc)
disk_fault_so reopen.NoMemory e = absurd (cc)
