-- The values of a text, one after another, up to the first that is wrong.
use Rattle.std.proofs.Common.{◌≡◌, ℕ, ◌+◌, ◌<◌, List, [], ◌∷◌, ◌++◌, length, get_or, take, drop, map, Option, Some, None, Err, refl, sym, ap, subst, ◌∙◌, inl, inr, append_assoc}
use Rattle.std.specs.Prelude.{MatchOption, IfSome, codes}
use Rattle.std.specs.List.{flat_map, AllByRecursion}
use Rattle.std.proofs.lemmas.List.{append-nil, take-append-drop, drop_more}
use Rattle.pec_types.specs.Address.{IsLowerAddress}
use Rattle.pec_types.specs.Text.{AllPrintable}
use Rattle.pec_grammar.specs.Grammar.{AllOfSome}
use Rattle.pec_cert.specs.Certificate.{Value, address, clock, values_from, addressee, addressees_from, delivered_from, received_from, before_recipients, before_shown, before_delivered, before_received, values, lines_of, CanBeWritten, IsFirstFault}
use Rattle.pec_cert.specs.Checking.{AllGood, Checked, HasValues, Says}
use Rattle.pec_cert.specs.Lines.{front_text, addressee_opening, addressee_text, Fits}
use Rattle.pec_cert.specs.Markup.{opening, element}
use Rattle.pec_cert.specs.Shown.{IsShown}
use Rattle.pec_cert.specs.declared.lines.Lines.{Lines}
use Rattle.pec_cert.specs.declared.certificates.CertData.{CertData}
use Rattle.pec_cert.specs.declared.values.Values.{Values}
use Rattle.pec_cert.specs.declared.certificates.CertRecipient.{CertRecipient}
use Rattle.pec_cert.specs.declared.lines.Addressee.{Addressee}
use Rattle.pec_cert.specs.declared.faults.CertFault.{CertFault}
use Rattle.pec_cert.specs.declared.faults.CertFault.TheVariants.{Syntax, BadDate, BadAddress, NoMemory}

pub first_passes : (us vs : List (List ℕ × Value)) (fault : CertFault) → AllGood us → IsFirstFault vs fault → IsFirstFault (us ++ vs) fault
first_passes [] vs fault good first = first
first_passes (u ∷ us) vs fault good first = inr (good.0, first_passes us vs fault good.1 first)

pub first_stops : (us vs : List (List ℕ × Value)) (fault : CertFault) → IsFirstFault us fault → IsFirstFault (us ++ vs) fault
first_stops [] vs fault first = absurd first
first_stops (u ∷ us) vs fault first = elim first [ inl here ↦ inl here | inr later ↦ inr (later.0, first_stops us vs fault later.1) ]

pub all_good : (us vs : List (List ℕ × Value)) → AllGood us → AllGood vs → AllGood (us ++ vs)
all_good [] vs good more = more
all_good (u ∷ us) vs good more = (good.0, all_good us vs good.1 more)

pub checked_after : {X Y : Type 0} (Made : X → Type 0) (Done : Y → Type 0) (us vs : List (List ℕ × Value)) (e : CertFault) → AllGood us → Checked vs Made (Err e) → Checked (us ++ vs) Done (Err e)
checked_after Made Done us vs (Syntax place) good checked = first_passes us vs (Syntax place) good checked
checked_after Made Done us vs (BadDate place) good checked = first_passes us vs (BadDate place) good checked
checked_after Made Done us vs (BadAddress place) good checked = first_passes us vs (BadAddress place) good checked
checked_after Made Done us vs NoMemory good checked = tt

pub checked_before : {X Y : Type 0} (Made : X → Type 0) (Done : Y → Type 0) (us vs : List (List ℕ × Value)) (e : CertFault) → Checked us Made (Err e) → Checked (us ++ vs) Done (Err e)
checked_before Made Done us vs (Syntax place) checked = first_stops us vs (Syntax place) checked
checked_before Made Done us vs (BadDate place) checked = first_stops us vs (BadDate place) checked
checked_before Made Done us vs (BadAddress place) checked = first_stops us vs (BadAddress place) checked
checked_before Made Done us vs NoMemory checked = tt

-- Addresses in lines.

module _ {X : Type 0} (tag bytes line : X → List ℕ) where
  values_append : (front : List ℕ) (xs ys : List X) → values_from tag bytes line front (xs ++ ys) ≡ values_from tag bytes line front xs ++ values_from tag bytes line (front ++ flat_map line xs) ys
  values_append front [] ys = ap (λ z. values_from tag bytes line z ys) (sym (append-nil front))
  values_append front (x ∷ xs) ys =
      let here : List ℕ × Value = (front ++ tag x, address (bytes x)) in
      ap (λ z. here ∷ z) (values_append (front ++ line x) xs ys
      ∙ ap (λ z. values_from tag bytes line (front ++ line x) xs ++ values_from tag bytes line z ys) (append_assoc front (line x) (flat_map line xs)))

  cut_at : (xs : List X) (i : ℕ) (x : X) → i < length xs → x ≡ get_or xs i x → xs ≡ take i xs ++ x ∷ drop (i + 1) xs
  cut_at xs i x lt is = sym (take-append-drop i xs) ∙ ap (λ z. take i xs ++ z) (drop_more xs i x lt ∙ ap (λ z. z ∷ drop (i + 1) xs) (sym is))

  pub wrong_at : (front : List ℕ) (xs : List X) (i : ℕ) (x : X) (place : ℕ) → i < length xs → x ≡ get_or xs i x → AllGood (values_from tag bytes line front (take i xs)) → (IsLowerAddress (bytes x) → ⊥)
      → place ≡ length ((front ++ flat_map line (take i xs)) ++ tag x) → IsFirstFault (values_from tag bytes line front xs) (BadAddress place)
  wrong_at front xs i x place lt is good wrong at =
      let parts = ap (λ z. values_from tag bytes line front z) (cut_at xs i x lt is) ∙ values_append front (take i xs) (x ∷ drop (i + 1) xs) in
      subst (λ vs. IsFirstFault vs (BadAddress place)) (sym parts)
      (first_passes (values_from tag bytes line front (take i xs)) (values_from tag bytes line (front ++ flat_map line (take i xs)) (x ∷ drop (i + 1) xs)) (BadAddress place) good (inl (wrong, at)))

  pub good_at : (front : List ℕ) (xs ys : List X) (x : X) → ys ≡ xs ++ x ∷ [] → AllGood (values_from tag bytes line front xs) → IsLowerAddress (bytes x) → AllGood (values_from tag bytes line front ys)
  good_at front xs ys x is good right =
      subst (λ vs. AllGood vs) (sym (ap (λ z. values_from tag bytes line front z) is ∙ values_append front xs (x ∷ [])))
      (all_good (values_from tag bytes line front xs) (values_from tag bytes line (front ++ flat_map line xs) (x ∷ [])) good (right, tt))

  pub lower_from : (front : List ℕ) (xs : List X) → AllGood (values_from tag bytes line front xs) → AllByRecursion (λ x. IsLowerAddress (bytes x)) xs
  lower_from front [] good = tt
  lower_from front (x ∷ xs) good = (good.0, lower_from (front ++ line x) xs good.1)

-- the recipients of a certificate, from its lines
pub lower_recipients : (rs : List CertRecipient) → AllOfSome (λ (r : Addressee). AllPrintable r.address) (map addressee rs) → AllByRecursion (λ (r : Addressee). IsLowerAddress r.address) (map addressee rs)
    → AllOfSome (λ (r : CertRecipient). IsLowerAddress r.address) rs
lower_recipients [] some lower = absurd some
lower_recipients (r ∷ rs) some lower = (lower.0, all_lower rs lower.1)
  where
    all_lower : (rs : List CertRecipient) → AllByRecursion (λ (r : Addressee). IsLowerAddress r.address) (map addressee rs) → AllByRecursion (λ (r : CertRecipient). IsLowerAddress r.address) rs
    all_lower [] lower = tt
    all_lower (r ∷ rs) lower = (lower.0, all_lower rs lower.1)

pub map_push : {X Y : Type 0} (f : X → Y) (xs : List X) (x : X) → map f (xs ++ x ∷ []) ≡ map f xs ++ f x ∷ []
map_push f [] x = refl
map_push f (y ∷ ys) x = ap (λ z. f y ∷ z) (map_push f ys x)

-- what a look for an address in lower case found
abbrev pub Found : Option (List ℕ) → List ℕ → Type 0
Found found bytes = MatchOption found (IsLowerAddress bytes → ⊥) (λ a. (a ≡ bytes) × IsLowerAddress bytes)

pub addressee_is : (front front' : List Addressee) (r : Addressee) (made : CertRecipient) → front ≡ front' → made.address ≡ r.address → front ++ record { certified = r.certified; address = made.address } ∷ [] ≡ front' ++ r ∷ []
addressee_is front front' r made same address_is =
    ap (λ z. z ++ record { certified = r.certified; address = made.address } ∷ []) same
    ∙ ap (λ (a : List ℕ). front' ++ record { certified = r.certified; address = a } ∷ []) address_is

pub text_is : (front front' : List (List ℕ)) (text made : List ℕ) → front ≡ front' → made ≡ text → front ++ made ∷ [] ≡ front' ++ text ∷ []
text_is front front' text made same is = ap (λ z. z ++ made ∷ []) same ∙ ap (λ z. front' ++ z ∷ []) is

-- The five runs of values, one after another.

abbrev at_sender : Lines → List (List ℕ × Value)
at_sender l = (front_text l.kind l.error ++ opening (codes "mittente"), address l.sender) ∷ []

abbrev at_recipients : Lines → List (List ℕ × Value)
at_recipients l = addressees_from (before_recipients l) l.recipients

abbrev at_clock : Lines → List (List ℕ × Value)
at_clock l = (before_shown l ++ codes "<data zona=\"", clock l.shown) ∷ []

abbrev at_delivered : Lines → List (List ℕ × Value)
at_delivered l = delivered_from (before_delivered l) l.delivered

abbrev at_received : Lines → List (List ℕ × Value)
at_received l = received_from (before_received l) l.received

module _ {X : Type 0} (Made : X → Type 0) (l : Lines) (e : CertFault) where
  pub after_sender : AllGood (at_sender l) → Checked (at_recipients l) Made (Err e) → Checked (values l) (λ (v : Values). HasValues l v) (Err e)
  after_sender sender checked =
      checked_after Made (λ (v : Values). HasValues l v) (at_sender l) (at_recipients l ++ (at_clock l ++ (at_delivered l ++ at_received l))) e sender
      (checked_before Made Made (at_recipients l) (at_clock l ++ (at_delivered l ++ at_received l)) e checked)

  pub after_recipients : AllGood (at_sender l) → AllGood (at_recipients l) → Checked (at_clock l) Made (Err e) → Checked (values l) (λ (v : Values). HasValues l v) (Err e)
  after_recipients sender recipients checked =
      checked_after Made (λ (v : Values). HasValues l v) (at_sender l) (at_recipients l ++ (at_clock l ++ (at_delivered l ++ at_received l))) e sender
      (checked_after Made Made (at_recipients l) (at_clock l ++ (at_delivered l ++ at_received l)) e recipients
      (checked_before Made Made (at_clock l) (at_delivered l ++ at_received l) e checked))

  pub after_stamp : AllGood (at_sender l) → AllGood (at_recipients l) → AllGood (at_clock l) → Checked (at_delivered l) Made (Err e) → Checked (values l) (λ (v : Values). HasValues l v) (Err e)
  after_stamp sender recipients stamp checked =
      checked_after Made (λ (v : Values). HasValues l v) (at_sender l) (at_recipients l ++ (at_clock l ++ (at_delivered l ++ at_received l))) e sender
      (checked_after Made Made (at_recipients l) (at_clock l ++ (at_delivered l ++ at_received l)) e recipients
      (checked_after Made Made (at_clock l) (at_delivered l ++ at_received l) e stamp
      (checked_before Made Made (at_delivered l) (at_received l) e checked)))

  pub after_delivered : AllGood (at_sender l) → AllGood (at_recipients l) → AllGood (at_clock l) → AllGood (at_delivered l) → Checked (at_received l) Made (Err e)
      → Checked (values l) (λ (v : Values). HasValues l v) (Err e)
  after_delivered sender recipients stamp delivered checked =
      checked_after Made (λ (v : Values). HasValues l v) (at_sender l) (at_recipients l ++ (at_clock l ++ (at_delivered l ++ at_received l))) e sender
      (checked_after Made Made (at_recipients l) (at_clock l ++ (at_delivered l ++ at_received l)) e recipients
      (checked_after Made Made (at_clock l) (at_delivered l ++ at_received l) e stamp
      (checked_after Made Made (at_delivered l) (at_received l) e delivered checked)))

pub all_checked : (l : Lines) → AllGood (at_sender l) → AllGood (at_recipients l) → AllGood (at_clock l) → AllGood (at_delivered l) → AllGood (at_received l) → AllGood (values l)
all_checked l sender recipients stamp delivered received =
    all_good (at_sender l) (at_recipients l ++ (at_clock l ++ (at_delivered l ++ at_received l))) sender
    (all_good (at_recipients l) (at_clock l ++ (at_delivered l ++ at_received l)) recipients
    (all_good (at_clock l) (at_delivered l ++ at_received l) stamp
    (all_good (at_delivered l) (at_received l) delivered received)))

-- The fault in the values of lines is the fault of the lines.
pub lines_fault : (l : Lines) (e : CertFault) → Checked (values l) (λ (v : Values). HasValues l v) (Err e)
    → Checked (values l) (λ (c : CertData). Says l c) (Err e)
lines_fault l e checked = checked_after (λ (v : Values). HasValues l v) (λ (c : CertData). Says l c) [] (values l) e tt checked

delivered_lower : (front : List ℕ) (o : Option (List ℕ)) → AllGood (delivered_from front o) → IfSome o IsLowerAddress
delivered_lower front None good = tt
delivered_lower front (Some bytes) good = good.0

pub split : (us vs : List (List ℕ × Value)) → AllGood (us ++ vs) → AllGood us × AllGood vs
split [] vs good = (tt, good)
split (u ∷ us) vs good = let r = split us vs good.1 in ((good.0, r.0), r.1)

-- a certificate that is made of good values says what the lines say
pub says : (l : Lines) (c : CertData) → Fits l → AllGood (values l) → IsShown l.shown c.stamp → l ≡ lines_of c l.shown → Says l c
says l c fits good stamp same = record {
  stamp = stamp;
  lines = same;
  written = can_be l same fits good;
}
  where
    can_be : (m : Lines) → m ≡ lines_of c l.shown → Fits m → AllGood (values m) → CanBeWritten c
    can_be m is m_fits m_good =
        let n = lines_of c l.shown in
        let n_fits = subst (λ x. Fits x) is m_fits in
        let n_good = subst (λ x. AllGood (values x)) is m_good in
        let parts = split (at_recipients n) (at_clock n ++ (at_delivered n ++ at_received n)) n_good.1 in
        let later = split (at_delivered n) (at_received n) parts.1.1 in
        record {
          sender = n_good.0;
          recipients = lower_recipients c.recipients n_fits.recipients
              (lower_from (λ (r : Addressee). addressee_opening r.certified) (λ (r : Addressee). r.address) addressee_text (before_recipients n) (map addressee c.recipients) parts.0);
          reply = n_fits.reply;
          subject = n_fits.subject;
          provider = n_fits.provider;
          id = n_fits.id;
          reference = n_fits.reference;
          delivered = delivered_lower (before_delivered n) c.delivered later.0;
          received = lower_from (λ (x : List ℕ). opening (codes "ricezione")) (λ (x : List ℕ). x) (element (codes "ricezione")) (before_received n) c.received later.1;
          detail = n_fits.detail;
        }

-- lines with these four values in the place of their own
with_values : Lines → List ℕ → List Addressee → Option (List ℕ) → List (List ℕ) → Lines
with_values l sender recipients delivered received = record l { sender = sender; recipients = recipients; delivered = delivered; received = received }

pub lines_are : (l : Lines) (sender : List ℕ) (recipients : List Addressee) (delivered : Option (List ℕ)) (received : List (List ℕ))
    → sender ≡ l.sender → recipients ≡ l.recipients → delivered ≡ l.delivered → received ≡ l.received
    → l ≡ record l { sender = sender; recipients = recipients; delivered = delivered; received = received }
unfolding with_values
lines_are l sender recipients delivered received s r d v =
    ap (λ x. with_values l x l.recipients l.delivered l.received) (sym s)
    ∙ (ap (λ x. with_values l sender x l.delivered l.received) (sym r)
    ∙ (ap (λ x. with_values l sender recipients x l.received) (sym d)
    ∙ ap (λ x. with_values l sender recipients delivered x) (sym v)))
