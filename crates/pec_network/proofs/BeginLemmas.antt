-- Providers that begin one after another, and the network that they make.
use Rattle.std.proofs.Common.{◌≡◌, ℕ, zero, suc, ◌+◌, ◌<◌, ◌≤◌, List, [], ◌∷◌, ◌++◌, length, replicate, get_or, refl, ap, sym, subst, ◌∙◌, arith, inl, inr, Option, None}
use Rattle.std.proofs.Math.Seq.{get_or-append_seam}
use Rattle.std.proofs.lemmas.Bool.{cases_eq, cases_lt}
use Rattle.std.proofs.lemmas.List.{get_or-replicate, get_or_append_left, length-append, length-map, length-replicate}
use Rattle.pec_outside.specs.DiskModel.{Sight}
use Rattle.pec_outside.specs.Depots.{Alike, OnlyAt}
use Rattle.pec_directory.specs.Directory.{Kept, providers_of}
use Rattle.pec_directory.specs.Lawful.{IsLawful}
use Rattle.pec_ledger.specs.Network.{Site}
use Rattle.pec_posts.specs.Arrivals.{Waiting, waiting_for}
use Rattle.pec_provider.specs.Provider.{Desk, ProviderState, Runs, desk_of, fresh, site_of}
use Rattle.pec_records.specs.declared.entries.Entry.{Entry}
use Rattle.pec_screen.specs.Verdicts.{Patterns}
use Rattle.pec_seal.specs.Seals.{Seals}
use Rattle.pec_provider.specs.OfTrades.{Fits}
use Rattle.pec_network.specs.Beginning.{AllBegun, IsAbout, IsBegun, IsRefused, NoneFell, all_rested, all_rested_of, journals_had, rested}
use Rattle.pec_network.specs.Homes.{AllAt}
use Rattle.pec_network.specs.Network.{IsOfDirectory, behind_first, first_of, of_first, sites_of}
use Rattle.pec_network.specs.Starting.{AllRun}
use Rattle.pec_network.specs.declared.faults.StartFault.TheVariants as faults
use Rattle.pec_network.specs.declared.opening.Form.{Form}
use Rattle.pec_network.specs.declared.opening.Form.TheVariants as forms
use Rattle.pec_network.proofs.StartLemmas.{IsNow, back_again, begun_moved}

-- ---- one provider more

pub length_more : {X : Type 0} (front : List X) (x : X) → length (front ++ x ∷ []) ≡ length front + 1
length_more front x = length-append front (x ∷ [])

module _ {D : Type 0} where
  -- what is said of each, by its number, is said of one more
  pub each_more : (Said : ℕ → ProviderState D → Type 0) (front : List (ProviderState D)) (provider : ProviderState D)
      → ((number : ℕ) (other : ProviderState D) → number < length front → Said number (get_or front number other))
      → Said (length front) provider
      → (number : ℕ) (other : ProviderState D) → number < length (front ++ provider ∷ [])
      → Said number (get_or (front ++ provider ∷ []) number other)
  each_more Said front provider so_far this number other l =
      let size = length_more front provider in
      elim (cases_eq number (length front)) [
        | inl same ↦
            subst (λ (n : ℕ). Said n (get_or (front ++ provider ∷ []) n other)) (sym same)
            (subst (λ (p : ProviderState D). Said (length front) p) (sym (get_or-append_seam front provider [] other)) this)
        | inr differs ↦
            let before : number < length front = let e = differs in omega arith in
            subst (λ (p : ProviderState D). Said number p) (sym (get_or_append_left front (provider ∷ []) other number before))
            (so_far number other before)
      ]

  -- one disk more is out
  pub out_more : (start mid new : ℕ → Option D) (front : List (ProviderState D)) (provider : ProviderState D)
      → AllAt (λ (p : ProviderState D). None) start mid front → OnlyAt mid new (length front) None
      → AllAt (λ (p : ProviderState D). None) start new (front ++ provider ∷ [])
  out_more start mid new front provider so_far only =
      let size = length_more front provider in record {
        here = λ number other l.
            elim (cases_eq number (length front)) [
              | inl same ↦ ap new same ∙ only.here
              | inr differs ↦ only.elsewhere number differs ∙ so_far.here number other (let e = differs in omega arith)
            ];
        elsewhere = λ number l. only.elsewhere number (λ e. absurd (omega arith)) ∙ so_far.elsewhere number (omega arith);
      }

module _ {D : Type 0} (front : List (ProviderState D)) (me : ℕ) (here : length front ≡ me)
    (all : List (ProviderState D)) (provider : ProviderState D) (next : all ≡ front ++ provider ∷ []) where
  pub count_next : length all ≡ me + 1
  count_next =
      let more = ap (λ (l : List (ProviderState D)). length l) next in let size = length_more front provider in omega arith

  each_next : (Said : ℕ → ProviderState D → Type 0)
      → ((number : ℕ) (other : ProviderState D) → number < length front → Said number (get_or front number other))
      → Said me provider
      → (number : ℕ) (other : ProviderState D) → number < length all → Said number (get_or all number other)
  each_next Said so_far this =
      subst (λ (l : List (ProviderState D)). (number : ℕ) (other : ProviderState D) → number < length l → Said number (get_or l number other)) (sym next)
      (each_more Said front provider so_far (subst (λ (n : ℕ). Said n provider) (sym here) this))

  pub runs_next : {seals : Seals} (kept : List Kept) → AllRun kept seals front → Runs kept seals me provider → AllRun kept seals all
  runs_next {seals} kept so_far this = each_next (λ n p. Runs kept seals n p) so_far this

  pub begun_next : (tells reads : Type 0) (sight : D → Sight) (kept : List Kept) (form : Form) (start mid : ℕ → Option D)
      → AllBegun tells reads sight kept form start front → (tells → AllAt (λ (p : ProviderState D). None) start mid front)
      → IsBegun tells reads sight kept form me (mid me) provider → AllBegun tells reads sight kept form start all
  begun_next tells reads sight kept form start mid so_far out this =
      each_next (λ n p. IsBegun tells reads sight kept form n (start n) p) so_far
      (begun_moved tells reads sight kept form me (start me) (mid me) provider (λ told. (out told).elsewhere me (omega arith)) this)

  pub counts_next : (count : D → ℕ) (last between : ℕ → ℕ) → NoneFell count last front → Alike last between
      → between me ≤ count provider.chronicle.disk → NoneFell count last all
  counts_next count last between so_far same this =
      each_next (λ n p. last n ≤ count p.chronicle.disk) so_far (let e = same me in omega arith)

  pub out_next : (start mid new : ℕ → Option D) → AllAt (λ (p : ProviderState D). None) start mid front → OnlyAt mid new me None
      → AllAt (λ (p : ProviderState D). None) start new all
  out_next start mid new so_far only =
      subst (λ (l : List (ProviderState D)). AllAt (λ (p : ProviderState D). None) start new l) (sym next)
      (out_more start mid new front provider so_far (subst (λ (n : ℕ). OnlyAt mid new n None) (sym here) only))

-- ---- the network that they make

-- lists past the last provider's are of no consequence
rested_first : (screens : List (List Patterns)) (journals : List (List Entry)) (count many : ℕ) → length journals ≡ many
    → all_rested_of count (of_first many screens) journals ≡ all_rested_of count screens journals
rested_first screens [] count many size = refl
rested_first screens (journal ∷ journals) count zero size = absurd (omega (arith, size))
rested_first screens (journal ∷ journals) count (suc many) size =
    ap (λ (more : List Site). rested count (first_of screens) journal ∷ more)
    (rested_first (behind_first screens) journals count many (omega (arith, size)))

module _ {D : Type 0} where
  rested_one_by_one : (providers : List (ProviderState D)) (count : ℕ) (screens : List (List Patterns))
      → ((number : ℕ) (other : ProviderState D) → number < length providers
      → desk_of (get_or providers number other) ≡ fresh (get_or providers number other).chronicle.entries)
      → sites_of providers screens (replicate (length providers) (replicate count []))
      ≡ all_rested_of count screens (journals_had providers)
  rested_one_by_one [] count screens desks = refl
  rested_one_by_one (provider ∷ providers) count screens desks =
      ap (λ (d : Desk). site_of d (first_of screens) (replicate count [])
      ∷ sites_of providers (behind_first screens) (replicate (length providers) (replicate count [])))
      (desks 0 provider (omega arith))
      ∙ ap (λ (more : List Site). rested count (first_of screens) provider.chronicle.entries ∷ more)
      (rested_one_by_one providers count (behind_first screens) (λ number other l. desks (suc number) other (omega arith)))

  pub sites_rested : (providers : List (ProviderState D)) (screens had : List (List Patterns)) (waiting : List Waiting)
      (count : ℕ) → length providers ≡ count → screens ≡ of_first count had
      → waiting ≡ replicate count (replicate count [])
      → ((number : ℕ) (other : ProviderState D) → number < length providers
      → desk_of (get_or providers number other) ≡ fresh (get_or providers number other).chronicle.entries)
      → sites_of providers screens waiting ≡ all_rested had (journals_had providers)
  sites_rested providers screens had waiting count size boxes links desks =
      let all : length (journals_had providers) ≡ count =
      length-map providers (λ (p : ProviderState D). p.chronicle.entries) ∙ size in
      ap (λ (w : List Waiting). sites_of providers screens w) links
      ∙ ap (λ (n : ℕ). sites_of providers screens (replicate n (replicate count []))) (sym size)
      ∙ rested_one_by_one providers count screens desks
      ∙ ap (λ (s : List (List Patterns)). all_rested_of count s (journals_had providers)) boxes
      ∙ rested_first had (journals_had providers) count count all
      ∙ ap (λ (n : ℕ). all_rested_of n had (journals_had providers)) (sym all)

  pub of_directory : {seals : Seals} (kept : List Kept) (providers : List (ProviderState D)) (waiting : List Waiting) (count : ℕ)
      → Fits seals (providers_of kept) → count ≡ length kept
      → length providers ≡ length kept → waiting ≡ replicate count (replicate count []) → AllRun kept seals providers
      → ((number : ℕ) (other : ProviderState D) → number < length providers
      → desk_of (get_or providers number other) ≡ fresh (get_or providers number other).chronicle.entries)
      → IsOfDirectory kept seals providers waiting
  of_directory kept providers waiting count fits size all links runs desks =
      let none : Waiting = replicate count [] in
      let many : length waiting ≡ count = ap (λ (w : List Waiting). length w) links ∙ length-replicate count none in record {
        fits = fits;
        count = all;
        links = many ∙ size;
        senders = λ to l.
            ap (λ (w : List Waiting). length (waiting_for w to)) links
            ∙ ap (λ (w : Waiting). length w) (get_or-replicate count to none [] (omega arith))
            ∙ length-replicate count [] ∙ size;
        runs = runs;
        nothing_owed = λ number other l. ap (λ (d : Desk). d.owed) (desks number other l);
      }

-- ---- a network that doesn't begin

about_nothing : (form : Form) (me : ℕ) → IsAbout form me faults.NoMemory
about_nothing forms.Make me = tt
about_nothing forms.Open me = tt

module _ {D : Type 0} where
  -- no count has fallen once all are kept
  pub last_until : (count : D → ℕ) (last between left : ℕ → ℕ) (providers : List (ProviderState D)) → NoneFell count last providers
      → ((number : ℕ) → last number ≤ between number)
      → AllAt (λ (p : ProviderState D). count p.chronicle.disk) between left providers → (number : ℕ) → last number ≤ left number
  last_until count last between left [] none later all number =
      let a = all.elsewhere number (omega arith) in let b = later number in omega arith
  last_until count last between left (provider ∷ providers) none later all number =
      elim (cases_lt number (length (provider ∷ providers))) [
        | inl within ↦ let a = all.here number provider within in let b = none number provider within in omega arith
        | inr behind ↦ let a = all.elsewhere number behind in let b = later number in omega arith
      ]

module _ {D : Type 0} (tells reads : Type 0) (sight : D → Sight) (kept : List Kept) (form : Form) where
  -- nothing was asked for
  pub nothing_begun : (home : ℕ → Option D) → IsLawful (providers_of kept) → (reads → (disk : D) → IsNow (sight disk))
      → IsRefused tells reads sight kept form home home faults.NoMemory
  nothing_begun home lawful only = record {
    providers = [];
    count = let some = lawful.some in let same = length-map kept (λ (k : Kept). k.provider) in omega arith;
    begun = λ number other l. absurd (omega arith);
    about = about_nothing form 0;
    home = λ told number other l. absurd (omega arith);
    next = λ told was is. back_again tells reads sight kept form 0 faults.NoMemory was (home 0) is tt (λ r. only r was);
    behind = λ told number l. refl;
  }
