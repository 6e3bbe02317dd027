-- Sites in lists: one is put in the place of another; what the laws of the ledger give for states that differ so.
use Rattle.std.proofs.Common.{◌≡◌, ℕ, List, [], true, ◌⊎◌, inl, inr, length, refl, ap, sym, subst, ◌∙◌, Option, Some, None}
use Rattle.std.specs.Prelude.{IsSome, is_some, slice_index_or}
use Rattle.std.proofs.lemmas.Bool.{cases_eq, cases_lt, false≢true}
use Rattle.std.proofs.lemmas.List.{append-nil, get_or-set_other, get_or-set_same, length-set, set_past}
use Rattle.pec_types.specs.Bytes.{Bytes}
use Rattle.pec_records.specs.declared.entries.Entry.{Entry}
use Rattle.pec_ledger.specs.Along.{GoesOnAs}
use Rattle.pec_ledger.specs.Ledger.{Journals}
use Rattle.pec_ledger.specs.Network.{AreGenuine, Continues, Happens, IsNext, Site, Sound, chosen, empty_site, frames_between, interrupted_at, journal_at, journals_of, site_at, Stays, Appends, Fails, Restarts}
use Rattle.pec_ledger.specs.Trade.{Trade}
use Rattle.pec_plays.specs.Commands.{with_site}

-- what the ledger's laws say of states
pub record StateLaws (trade : Trade) : Type 0 where
  pub next : (old new : List Site) → Sound trade old → IsNext trade old new → Sound trade new
  pub each : (old new : List Site) (provider : ℕ) → Happens trade old new provider → Continues trade old new provider
  pub frames : (old new : Journals) → ((provider : ℕ) → GoesOnAs (old provider) (new provider)) → (frames : List Bytes)
      → AreGenuine trade old frames → AreGenuine trade new frames

-- a site in another's place stands there, and all others stay; past the end nothing changes
pub put_cases : (sites : List Site) (p q : ℕ) (site : Site)
    → ((q ≡ p) × (site_at (with_site sites p site) q ≡ site)) ⊎ (site_at (with_site sites p site) q ≡ site_at sites q)
put_cases sites p q site =
    elim (cases_lt p (length sites)) [
      | inl within ↦ elim (cases_eq q p) [
        | inl same ↦ inl (same, ap (site_at (with_site sites p site)) same ∙ get_or-set_same sites p site empty_site within)
        | inr other ↦ inr (get_or-set_other sites p q site empty_site other)
      ]
      | inr past ↦ inr (ap (λ (l : List Site). site_at l q) (set_past sites p site past))
    ]

pub put_length : (sites : List Site) (p : ℕ) (site : Site) → length (with_site sites p site) ≡ length sites
put_length sites p site = length-set sites p site

module _ (trade : Trade) (laws : StateLaws trade) where
  -- a provider that stands as it stood
  pub stays_as_it_was : (old new : List Site) (q : ℕ) → Sound trade old → site_at new q ≡ site_at old q → Happens trade old new q
  stays_as_it_was old new q sound e =
      Stays (ap (λ (s : Site). s.journal) e) (ap (λ (s : Site). s.interrupted) e)
      (λ some.
      ap (λ (s : Site). s.up) e
      ∙ sound.down q (subst (λ (i : Option Entry). IsSome i) (ap (λ (s : Site). s.interrupted) e) some))

  pub goes_on : (old new : List Site) (p : ℕ) → Happens trade old new p → GoesOnAs (journal_at old p) (journal_at new p)
  goes_on old new p (Stays journal interrupted down) = ([], journal ∙ sym (append-nil (journal_at old p)))
  goes_on old new p (Appends more before after journal follows) = (more, journal)
  goes_on old new p (Fails more entry before after down journal follows) = (more, journal)
  goes_on old new p (Restarts found journal after) = (chosen found (interrupted_at old p), journal)

  -- a state in which each provider went on, and every frame is genuine as it was before
  pub next_behind : (old new : List Site) → length new ≡ length old → ((p : ℕ) → Happens trade old new p)
      → ((from to : ℕ) → AreGenuine trade (journals_of old) (frames_between new from to)) → IsNext trade old new
  next_behind old new count each genuine = record {
    count = count;
    each = λ p. laws.each old new p (each p);
    genuine = λ from to.
        laws.frames (journals_of old) (journals_of new) (λ p. goes_on old new p (each p)) (frames_between new from to) (genuine from to);
  }

  -- nothing changed
  pub next_as_it_was : (sites : List Site) → Sound trade sites → IsNext trade sites sites
  next_as_it_was sites sound =
      next_behind sites sites refl (λ q. stays_as_it_was sites sites q sound refl) sound.genuine

  -- one provider changed
  pub next_with : (sites : List Site) (p : ℕ) (site : Site) → Sound trade sites
      → ((new : List Site) → site_at new p ≡ site → Happens trade sites new p)
      → ((from : ℕ) → AreGenuine trade (journals_of sites) (slice_index_or site.waiting from [])) → IsNext trade sites (with_site sites p site)
  next_with sites p site sound happens genuine =
      let new = with_site sites p site
      in next_behind sites new (put_length sites p site)
      (λ q. elim (put_cases sites p q site) [
        | inl same ↦ subst (λ (k : ℕ). Happens trade sites new k) (sym same.0)
            (happens new (subst (λ (k : ℕ). site_at new k ≡ site) same.0 same.1))
        | inr unchanged ↦ stays_as_it_was sites new q sound unchanged
      ])
      (λ from to. elim (put_cases sites p to site) [
        | inl same ↦ subst (λ (s : Site). AreGenuine trade (journals_of sites) (slice_index_or s.waiting from [])) (sym same.1) (genuine from)
        | inr unchanged ↦ subst (λ (s : Site). AreGenuine trade (journals_of sites) (slice_index_or s.waiting from [])) (sym unchanged) (sound.genuine from to)
      ])

  -- a provider that is up has no interrupted entry
  pub none_interrupted : (sites : List Site) (p : ℕ) → Sound trade sites → (site_at sites p).up ≡ true → interrupted_at sites p ≡ None
  none_interrupted sites p sound up = without (interrupted_at sites p) refl
    where
      without : (i : Option Entry) → interrupted_at sites p ≡ i → i ≡ None
      without None e = refl
      without (Some entry) e = absurd (false≢true (sym (sound.down p (ap is_some e)) ∙ up))
