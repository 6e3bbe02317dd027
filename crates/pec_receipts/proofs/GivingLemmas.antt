-- The test of receipts that may be given tells exactly those.
use Rattle.std.proofs.Common.{◌≡◌, ◌↔◌, ℕ, ◌<◌, ◌≤◌, ◌==◌, Bool, true, false, ◌&&◌, ◌||◌, nat_lt, nat_le, List, length, Option, None, Some, eq-eqb, refl, ap, sym, ◌∙◌}
use Rattle.std.proofs.lemmas.Bool.{and_from, and_parts, eqb-true, le-leb, leb-true, lt-ltb, ltb-true}
use Rattle.std.specs.Option.{IfSome, is_none, is_some}
use Rattle.pec_types.specs.Bytes.{Bytes}
use Rattle.pec_directory.specs.Directory.{Provider, home_of, is_certified, is_number}
use Rattle.pec_receipts.specs.Giving.{can_be_given, is_from_there, is_named, is_short}
use Rattle.pec_receipts.specs.Kinds.{row_of}
use Rattle.pec_receipts.specs.Receipts.{CanBeGiven, IsNamed, place_among}
use Rattle.pec_receipts.specs.declared.kinds.About.{About}
use Rattle.pec_receipts.specs.declared.kinds.About.TheVariants as about
use Rattle.pec_receipts.specs.declared.receipts.Receipt.{Receipt}

none_is : {X : Type 0} (o : Option X) → is_none o ≡ true → o ≡ None
none_is None e = refl
none_is (Some x) e = absurd cc

some_is : {X : Type 0} (o : Option X) → is_some o ≡ true → (x : X) × (o ≡ Some x)
some_is None e = absurd cc
some_is (Some x) e = (x, refl)

number_is : (n : ℕ) (o : Option ℕ) → is_number n o ≡ true → o ≡ Some n
number_is n None e = absurd cc
number_is n (Some k) e = ap Some (eqb-true k n e)

short_is : (subject : Option Bytes) → is_short subject ≡ true → IfSome subject (λ s. length s ≤ 900)
short_is None e = tt
short_is (Some s) e = leb-true (length s) 900 e

is_short_so : (subject : Option Bytes) → IfSome subject (λ s. length s ≤ 900) → is_short subject ≡ true
is_short_so None e = refl
is_short_so (Some s) e = le-leb (length s) 900 e

named_is : (providers : List Provider) (r : Receipt) (row_about : About) (recipient : Option Bytes)
    → is_named providers r.facts.recipients row_about recipient ≡ true → IsNamed providers r row_about recipient
named_is providers r about.Message recipient e = none_is recipient e
named_is providers r about.Provider recipient e = none_is recipient e
named_is providers r about.Recipient None e = absurd cc
named_is providers r about.Recipient (Some address) e =
    let both = and_parts (is_certified providers address) (is_some (place_among r.facts.recipients address)) e
    in (both.0, some_is (place_among r.facts.recipients address) both.1)

is_named_so : (providers : List Provider) (r : Receipt) (row_about : About) (recipient : Option Bytes)
    → IsNamed providers r row_about recipient → is_named providers r.facts.recipients row_about recipient ≡ true
is_named_so providers r about.Message recipient e = ap is_none e
is_named_so providers r about.Provider recipient e = ap is_none e
is_named_so providers r about.Recipient None e = absurd e
is_named_so providers r about.Recipient (Some address) e =
    and_from (is_certified providers address) (is_some (place_among r.facts.recipients address)) e.0 (ap is_some e.1.1)

own_is : (elsewhere : Bool) (by provider : ℕ) → (elsewhere || by == provider) ≡ true → elsewhere ≡ false → by ≡ provider
own_is false by provider e f = eqb-true by provider e
own_is true by provider e f = absurd cc

is_own_so : (elsewhere : Bool) (by provider : ℕ) → (elsewhere ≡ false → by ≡ provider) → (elsewhere || by == provider) ≡ true
is_own_so false by provider f = eq-eqb by provider (f refl)
is_own_so true by provider f = refl

-- The test is true exactly where a provider may give the receipt.
pub given_told : (providers : List Provider) (r : Receipt) → (can_be_given providers r ≡ true) ↔ CanBeGiven providers r
unfolding can_be_given is_from_there
given_told providers r =
    let by = nat_lt r.by (length providers)
    in let provider = nat_lt r.id.provider (length providers)
    in let home = is_number r.id.provider (home_of providers r.facts.sender)
    in let some = nat_lt 0 (length r.facts.recipients)
    in let short = is_short r.facts.subject
    in let named = is_named providers r.facts.recipients (row_of r.kind).about r.recipient
    in let own = (row_of r.kind).elsewhere || r.by == r.id.provider
    in let there = (by && provider) && home
    in (
      (λ e.
          let a = and_parts (((there && some) && short) && named) own e
          in let b = and_parts ((there && some) && short) named a.0
          in let c = and_parts (there && some) short b.0
          in let d = and_parts there some c.0
          in let f = and_parts (by && provider) home d.0
          in let g = and_parts by provider f.0
          in record {
            by_is = ltb-true r.by (length providers) g.0;
            provider_is = ltb-true r.id.provider (length providers) g.1;
            home = number_is r.id.provider (home_of providers r.facts.sender) f.1;
            recipients = ltb-true 0 (length r.facts.recipients) d.1;
            subject = short_is r.facts.subject c.1;
            named = named_is providers r (row_of r.kind).about r.recipient b.1;
            own = own_is (row_of r.kind).elsewhere r.by r.id.provider a.1;
          }),
      (λ is.
          and_from (((there && some) && short) && named) own
          (and_from ((there && some) && short) named
          (and_from (there && some) short
          (and_from there some
          (and_from (by && provider) home
          (and_from by provider (lt-ltb r.by (length providers) is.by_is) (lt-ltb r.id.provider (length providers) is.provider_is))
          (ap (is_number r.id.provider) is.home ∙ eq-eqb r.id.provider r.id.provider refl))
          (lt-ltb 0 (length r.facts.recipients) is.recipients))
          (is_short_so r.facts.subject is.subject))
          (is_named_so providers r (row_of r.kind).about r.recipient is.named))
          (is_own_so (row_of r.kind).elsewhere r.by r.id.provider is.own)),
    )
