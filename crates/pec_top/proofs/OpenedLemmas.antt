-- The journals of a network were had, or not all: from what is said of the call that begins it.
use Rattle.std.proofs.Common.{◌≡◌, ℕ, ◌<◌, ◌≤◌, ◌⊎◌, inl, inr, Bool, List, refl, sym, subst, ◌∙◌, length, Option, None, arith}
use Rattle.std.specs.Prelude.{◌-◌, ◌^◌}
use Rattle.std.proofs.lemmas.Bool.{cases_lt}
use Rattle.std.proofs.lemmas.List.{length-map}
use Rattle.pec_types.specs.Bytes.{Bytes}
use Rattle.pec_outside.specs.Depots.{Alike}
use Rattle.pec_outside.specs.DiskModel.{Sight}
use Rattle.pec_outside.specs.Flow.{HasRisen}
use Rattle.pec_directory.specs.Directory.{Kept, providers_of}
use Rattle.pec_records.specs.declared.entries.Entry.{Entry}
use Rattle.pec_ledger.specs.OfDirectory.{IsOf}
use Rattle.pec_ledger.specs.Trade.{Trade}
use Rattle.pec_screen.specs.Verdicts.{Patterns}
use Rattle.pec_seal.specs.Seals.{Seals}
use Rattle.pec_serving.specs.OfNetworks.{AllAt, AllBegun, BlamesDisk, IsAbout, IsLeft as LeftAt, IsRefused, NetworkState}
use Rattle.pec_serving.specs.OfNetworks.{NoneFell, ProviderState, StartFault, all_rested, journals_had, sites, trade_of}
use Rattle.pec_serving.specs.OfNetworks.{world_of}
use Rattle.pec_serving.specs.OfNetworks.faults as faults
use Rattle.pec_runs.specs.Happened.{IsSetting}
use Rattle.pec_runs.specs.Openings.{AreLeft, Disks, IsOpening, Next, NoMore, Holds, Unfits, Fails, Stops, disks_at, opened_all}
use Rattle.pec_runs.specs.Through.{AreHadFrom}
use Rattle.pec_service.specs.Runs.{IsLookedAt, finish_at}
use Rattle.pec_top.specs.Blaming.{HaveDisksRisen}
use Rattle.pec_top.specs.Opened.{Came, Finishes, IsFormOf, IsOpened, IsRefusedAt, IsRefusedSo, IsUnfit, MayHold, next_by}
use Rattle.pec_top.specs.Opened.{disks_of, provider_named}
use Rattle.pec_top.specs.Shown.{form_shown, way_of}
use Rattle.pec_top.specs.Surveys.{AreAsTheyWere}
use Rattle.pec_top.specs.declared.forms.Form.{Form}
use Rattle.pec_top.specs.declared.forms.Form.TheVariants as forms
use Rattle.pec_top.specs.declared.opening.Journals.{Journals}
use Rattle.pec_top.specs.declared.opening.Journals.TheVariants as journals
use Rattle.pec_top.specs.declared.opening.Refusal.{Refusal}
use Rattle.pec_top.proofs.CountLemmas.{fell_so}
use Rattle.pec_top.proofs.HadFromLemmas.{all_begun, all_refused, all_since, all_until}
use Rattle.pec_top.proofs.HadLemmas.{begins_so, left_part, opening_part, opening_whole}
use Rattle.pec_top.proofs.RefusedLemmas.{names_next, not_all}
use Rattle.pec_top.proofs.RestLemmas.{leaves_back, left_failing, left_since, left_until, opening_failing, opening_since}
use Rattle.pec_top.proofs.RestLemmas.{reads_back, reads_on}
use Rattle.pec_top.proofs.WholeLemmas.{left_whole}

-- what is said of each disk: this moment is one of those since an earlier one
abbrev pub CountsNow : {D : Type 0} → Type 0 → (D → Sight) → Type 0
CountsNow {D} reads sight =
    reads → (disk : D) (t : ℕ) (bytes : Bytes) → t ≤ (sight disk).moment → (sight disk).may_leave bytes
    → (sight disk).left_since t bytes

-- ---- all are had

-- What is known of the directory and the sealer that a network was begun with.
pub record Known {D S : Type 0} (tells reads : Type 0) (sight : D → Sight) (seals : S → Seals) (how : Journals) (form : Form)
    (home looked : ℕ → Option D) (providers : List (ProviderState D)) (kept : List Kept) (sealer : S) : Type 0 where
  pub is_form : IsFormOf (disks_at (tells × reads) sight home) (length kept) how (form_shown form)
  pub setting : IsSetting (providers_of kept) (record { kept = kept; seals = seals sealer })
  pub of : IsOf kept (trade_of kept (seals sealer))
  pub count : length providers ≡ length kept
  pub begun : AllBegun tells reads sight kept (way_of form) looked providers

pub opened_so : {D S : Type 0} (tells reads : Type 0) (sight : D → Sight) (seals : S → Seals) (count : D → ℕ)
    (screens : List (List Patterns)) (how : Journals) (form : Form) (home looked left : ℕ → Option D) (last mid later : ℕ → ℕ) (network : NetworkState D S)
    → Known tells reads sight seals how form home looked network.providers network.kept network.sealer
    → (tells → AreAsTheyWere reads sight home looked)
    → (tells → (k : ℕ) → length network.kept ≤ k → looked k ≡ home k)
    → (reads → (disk : D) → (sight disk).may_leave (sight disk).seen) → CountsNow reads sight
    → sites network ≡ all_rested screens (journals_had network.providers)
    → (tells → AllAt (λ (p : ProviderState D). None) looked left network.providers)
    → NoneFell count mid network.providers → Alike mid later → ((k : ℕ) → last k ≤ mid k)
    → IsOpened tells reads sight seals count screens how home left last later network
opened_so {D} {S} tells reads sight seals count screens how form home looked left last mid later network known rest looked_past reads_so counts_now
    rests out
    fell alike sooner =
    let kept = network.kept
    in let world = world_of seals network
    in let journals = journals_had network.providers
    in let size = length-map network.providers (λ (p : ProviderState D). p.chronicle.entries) ∙ known.count
    in let many = length-map kept (λ (one : Kept). one.provider)
    in let on = reads_on tells reads sight home looked rest
    in let both : Disks = disks_at (tells × reads) sight looked
    in record {
      form = form_shown form;
      is_form = known.is_form;
      setting = known.setting;
      opening = opening_since world (disks_at (tells × reads) sight home) both on (form_shown form)
          (record { journals = journals; next = NoMore })
          (opening_whole tells reads sight kept (seals network.sealer) known.of looked form network.providers known.count
          known.begun);
      begins = begins_so world screens journals (sites network) (size ∙ sym many) rests;
      stands = λ told k other within. (known.begun k other within).stands told.1;
      had = all_since tells reads sight counts_now (form_shown form) world home looked (disks_of network.providers) rest
          (all_begun tells reads sight kept (seals network.sealer) looked form network.providers known.begun);
      counts = λ k.
          let later_so : NoneFell count later network.providers = λ n other within.
          let l = fell n other within in let e = alike n in omega (arith, l, e)
          in let l = fell_so count later network.providers later_so k in let e = alike k in let s = sooner k
          in omega (arith, l, e, s);
      leaves = λ state after new same again.
          left_since (disks_at (tells × reads) sight home) both (disks_at (tells × reads) sight new) on
          (leaves_back tells reads sight home looked rest) (form_shown form) (record { journals = journals; next = NoMore })
          after
          (left_whole (tells × reads) sight (λ told. reads_so told.1) (form_shown form) journals (length kept) size state after
          same looked left new
          (λ told k past. (out told.0).elsewhere k (let c = known.count in omega (arith, c, past))) again);
      apart = λ told k past.
          (out told).elsewhere k (let c = known.count in omega (arith, c, past)) ∙ looked_past told k past;
    }

-- ---- not all are had

-- only a journal that was to be opened is unfit
unfit_opens : (way : Form) (why : StartFault) (k : ℕ) → IsAbout (way_of way) k why → IsUnfit why → way ≡ forms.Resume
unfit_opens forms.Run (faults.NotEmpty number) k about unfit = absurd unfit
unfit_opens forms.Run (faults.DiskFault number) k about unfit = absurd unfit
unfit_opens forms.Run (faults.NotFit number why) k about unfit = absurd about
unfit_opens forms.Run faults.NoMemory k about unfit = absurd unfit
unfit_opens forms.Resume why k about unfit = refl

seen_so : (way : Form) (why : StartFault) → IsUnfit why → (was now : Sight) → LeftAt (way_of way) why was now
    → now.seen ≡ was.seen
seen_so way (faults.NotEmpty number) unfit was now left = absurd unfit
seen_so way (faults.DiskFault number) unfit was now left = absurd unfit
seen_so forms.Run (faults.NotFit number why) unfit was now left = left.seen
seen_so forms.Resume (faults.NotFit number why) unfit was now left = left.seen
seen_so way faults.NoMemory unfit was now left = absurd unfit

unfit_known : (fault : StartFault) (unfit : _) → Unfits unfit ≡ next_by fault → IsUnfit fault
unfit_known (faults.NotEmpty number) unfit e = cc
unfit_known (faults.DiskFault number) unfit e = cc
unfit_known (faults.NotFit number why) unfit e = tt
unfit_known faults.NoMemory unfit e = cc

unfit_came : (fault : StartFault) (unfit : _) → Came fault (Unfits unfit) → IsUnfit fault
unfit_came fault unfit (inl (inl e)) = unfit_known fault unfit e
unfit_came fault unfit (inl (inr e)) = cc
unfit_came fault unfit (inr x) = x.1

none_came : (fault : StartFault) (next : Next) → Came fault next → next ≡ NoMore → ⊥
none_came fault next (inl which) e = not_all fault next which e
none_came fault next (inr x) e = fails (sym x.0 ∙ e)
  where
    fails : Fails ≡ NoMore → ⊥
    fails e = cc

module _ {D : Type 0} (home_tells reads : Type 0) (sight : D → Sight) (kept : List Kept) (seals : Seals)
    (of : IsOf kept (trade_of kept seals)) (home mid new : ℕ → Option D) (form : Form) (fault : StartFault)
    (refused : IsRefused home_tells reads sight kept (way_of form) home mid fault)
    (screens : List (List Patterns)) (reads_so : reads → (disk : D) → (sight disk).may_leave (sight disk).seen)
    (rest : home_tells → AreAsTheyWere reads sight mid new) where
  abbrev World : Trade
  World = trade_of kept seals

  abbrev Old : Disks
  Old = disks_at (home_tells × reads) sight home

  abbrev Mid : Disks
  Mid = disks_at (home_tells × reads) sight mid

  abbrev Had : List (List Entry)
  Had = journals_had refused.providers

  abbrev me : ℕ
  me = length refused.providers

  size : length Had ≡ me
  size = length-map refused.providers (λ (p : ProviderState D). p.chronicle.entries)

  named : provider_named me fault ≡ length Had
  named = names_next form me fault refused.about ∙ sym size

  opens : (next : Next) → Came fault next → IsOpening World Old (form_shown form) (record { journals = Had; next = next })
  opens next (inl which) = opening_part home_tells reads sight kept seals of home form mid fault refused next which
  opens next (inr x) =
      subst (λ (n : Next). IsOpening World Old (form_shown form) (record { journals = Had; next = n })) (sym x.0)
      (opening_failing World Old (form_shown form) Had
      (opening_part home_tells reads sight kept seals of home form mid fault refused Stops (inr refl)))

  abbrev LeftIn : Form → Next → Type 0
  LeftIn way next = AreLeft Old Mid (form_shown way) (record { journals = Had; next = next }) (opened_all World screens Had)

  leaves : (next : Next) → Came fault next → LeftIn form next
  leaves next (inl which) = left_part home_tells reads sight kept seals of home form mid fault refused screens reads_so next which
  leaves next (inr x) =
      let opened = unfit_opens form fault me refused.about x.1
      in let stopped = left_part home_tells reads sight kept seals of home form mid fault refused screens reads_so Stops (inr refl)
      in subst (LeftIn form) (sym x.0)
      (subst (λ (way : Form). LeftIn way Fails) (sym opened)
      (left_failing Old Mid Had (opened_all World screens Had) (subst (λ (way : Form). LeftIn way Stops) opened stopped)))

  mid_reads : IsUnfit fault → (bytes : Bytes) → Old.reads (length Had) bytes → Mid.reads (provider_named me fault) bytes
  mid_reads unfit bytes read =
      subst (λ (k : ℕ). Mid.reads k bytes) (sym (named ∙ size)) (here (subst (λ (k : ℕ). Old.reads k bytes) size read))
    where
      here : Old.reads me bytes → Mid.reads me bytes
      here read =
          let back = refused.next read.0.0 read.1.0 read.1.1
          in (
            read.0,
            (
              back.now,
              back.is,
              seen_so form fault unfit (sight read.1.0) (sight back.now) (back.left read.0.1) ∙ read.1.2,
            ),
          )

  -- the disk that was looked at again is as it was
  looked_so : (holds : Bool) (next : Next) → Came fault next → IsLookedAt Mid (provider_named me fault) holds next
      → IsLookedAt Old (length Had) holds next
  looked_so holds NoMore came looked = tt
  looked_so holds Holds came looked = tt
  looked_so holds (Unfits unfit) came looked =
      λ headless bytes read. looked headless bytes (mid_reads (unfit_came fault unfit came) bytes read)
  looked_so holds Fails came looked = tt
  looked_so holds Stops came looked = tt

  -- what may be held of a disk as the network's opening left it, and as it was before
  held_so : (how : Journals) (holds : Bool) (next : Next) → Came fault next
      → MayHold how Mid (provider_named me fault) holds next → MayHold how Old (length Had) holds next
  held_so (journals.As way) holds next came held = held
  held_so journals.Chosen holds next came held = looked_so holds next came held

-- what was held of a disk that was looked at before
held_since : (how : Journals) (old mid : Disks) → ((k : ℕ) (bytes : Bytes) → old.reads k bytes → mid.reads k bytes)
    → (number : ℕ) (holds : Bool) (next : Next) → MayHold how mid number holds next → MayHold how old number holds next
held_since (journals.As way) old mid on number holds next held = held
held_since journals.Chosen old mid on number holds NoMore held = tt
held_since journals.Chosen old mid on number holds Holds held = tt
held_since journals.Chosen old mid on number holds (Unfits unfit) held = λ headless bytes read. held headless bytes (on number bytes read)
held_since journals.Chosen old mid on number holds Fails held = tt
held_since journals.Chosen old mid on number holds Stops held = tt

-- Disks were looked at, from those at home; the network didn't begin; and a disk was looked at again.
pub refused_at : {D : Type 0} (tells reads : Type 0) (sight : D → Sight) (kept : List Kept) (seals : Seals)
    (of : IsOf kept (trade_of kept seals)) (screens : List (List Patterns)) (how : Journals)
    (home looked mid new : ℕ → Option D) (form : Form) (fault : StartFault) (refusal : Refusal) (refused : IsRefused tells reads sight kept (way_of form) looked mid fault)
    → (reads → (disk : D) → (sight disk).may_leave (sight disk).seen) → CountsNow reads sight
    → (tells → AreAsTheyWere reads sight home looked) → (tells → AreAsTheyWere reads sight mid new)
    → IsFormOf (disks_at (tells × reads) sight home) (length kept) how (form_shown form)
    → IsSetting (providers_of kept) (record { kept = kept; seals = seals })
    → IsRefusedSo how (providers_of kept) fault (disks_at (tells × reads) sight mid) refusal
    → IsRefusedAt how screens (record { kept = kept; seals = seals }) (providers_of kept) (disks_at (tells × reads) sight home)
    (disks_at (tells × reads) sight new) (λ way trade. AreHadFrom sight (tells × reads) way trade home new) refusal
refused_at {D} tells reads sight kept seals of screens how home looked mid new form fault refusal refused reads_so counts_now first again
    is_form is_setting so =
    let old : Disks = disks_at (tells × reads) sight home
    in let seen : Disks = disks_at (tells × reads) sight looked
    in let back : Disks = disks_at (tells × reads) sight mid
    in let now : Disks = disks_at (tells × reads) sight new
    in let world = trade_of kept seals
    in let journals = journals_had refused.providers
    in let on = reads_on tells reads sight home looked first
    in let number = named tells reads sight kept seals of looked mid new form fault refused screens reads_so again
    in record {
      form = form_shown form;
      is_form = is_form;
      is_setting = is_setting;
      opening = record { journals = journals; next = so.next };
      some = none_came fault so.next so.is_next;
      holds = so.holds;
      may_hold = held_since how old seen on (length journals) so.holds so.next
          (held_so tells reads sight kept seals of looked mid new form fault refused screens reads_so again how so.holds so.next so.is_next
          (so.may_hold (length refused.providers)));
      is_opening = opening_since world old seen on (form_shown form) (record { journals = journals; next = so.next })
          (opens tells reads sight kept seals of looked mid new form fault refused screens reads_so again so.next so.is_next);
      left = left_since old seen now on (leaves_back tells reads sight home looked first) (form_shown form)
          (record { journals = journals; next = so.next }) (opened_all world screens journals)
          (left_until seen back now (reads_back tells reads sight mid new again) (leaves_back tells reads sight mid new again)
          (form_shown form) (record { journals = journals; next = so.next }) (opened_all world screens journals)
          (leaves tells reads sight kept seals of looked mid new form fault refused screens reads_so again so.next so.is_next));
      went = all_until tells reads sight counts_now (form_shown form) world home mid new again
          (all_since tells reads sight counts_now (form_shown form) world home looked mid first
          (all_refused tells reads sight kept seals looked form mid fault refused));
      finishes = subst (λ (k : ℕ). Finishes (providers_of kept) refusal (finish_at so.holds k so.next)) number
          (so.finishes (length refused.providers));
    }

-- ---- blame

pub risen_over : (a b c d : ℕ) → a ≤ b → b ≤ c → c ≤ d → HasRisen b c → HasRisen a d
risen_over a b c d first mid last risen = λ low. so low (cases_lt b (2 ^ 64 - 1))
  where
    so : a < 2 ^ 64 - 1 → (b < 2 ^ 64 - 1) ⊎ (2 ^ 64 - 1 ≤ b) → a < d
    so low (inl within) = let up = risen within in omega (arith, first, last, up)
    so low (inr past) = omega (arith, low, past, mid, last)

-- A disk is blamed that failed as the network began, or as one was looked at again: counts before a look at disks, behind
-- it, as the network was refused, and in the end.
pub begun_blames : (fault : StartFault) (a b c d : ℕ) (last_a last_b last_c last_d : ℕ → ℕ) → a ≤ b → b ≤ c → c ≤ d
    → ((k : ℕ) → last_a k ≤ last_b k) → ((k : ℕ) → last_b k ≤ last_c k) → ((k : ℕ) → last_c k ≤ last_d k)
    → BlamesDisk b c last_b last_c fault
    → ((number : ℕ) × (fault ≡ faults.DiskFault number)) ⊎ HaveDisksRisen c d last_c last_d
    → HaveDisksRisen a d last_a last_d
begun_blames fault a b c d last_a last_b last_c last_d ab bc cd ab_k bc_k cd_k began (inl disk) =
    by_disk disk.0 (subst (BlamesDisk b c last_b last_c) disk.1 began)
  where
    by_disk : (number : ℕ) → HasRisen b c ⊎ HasRisen (last_b number) (last_c number) → HaveDisksRisen a d last_a last_d
    by_disk number (inl risen) = inl (risen_over a b c d ab bc cd risen)
    by_disk number (inr risen) = inr (
      number,
      risen_over (last_a number) (last_b number) (last_c number) (last_d number) (ab_k number) (bc_k number) (cd_k number) risen,
    )
begun_blames fault a b c d last_a last_b last_c last_d ab bc cd ab_k bc_k cd_k began (inr (inl risen)) =
    inl (risen_over a c d d (omega (arith, ab, bc)) cd (omega arith) risen)
begun_blames fault a b c d last_a last_b last_c last_d ab bc cd ab_k bc_k cd_k began (inr (inr risen)) =
    let k = risen.0 in let x = ab_k k in let y = bc_k k in inr (
      k,
      risen_over (last_a k) (last_c k) (last_d k) (last_d k) (omega (arith, x, y)) (cd_k k) (omega arith) risen.1,
    )
