-- The walk's fault is that of the first test that is met: `fault_told`, at the end.
use Rattle.std.proofs.Common.{◌≡◌, ◌↔◌, ◌⊎◌, inl, inr, ℕ, ◌+◌, Bool, true, false, cond, eqb, leb, ltb, List, [], ◌∷◌, ◌++◌, length, codes, Option, Some, None, is_none, option_and_then, Result, Ok, Err, refl, sym, ap, subst, ◌∙◌}
use Rattle.std.proofs.lemmas.Bool.{false≢true}
use Rattle.toml.specs.Data.{Data, Items, no_items, item}
use Rattle.jiff_tz.specs.PosixReader.{read_whole}
use Rattle.pec_types.specs.Bytes.{Bytes}
use Rattle.pec_types.specs.Results.{◌>>=◌}
use Rattle.pec_directory.specs.Directory.{Account, Provider, accounts_of}
use Rattle.pec_directory.specs.Fields.{accounts_at, address_at, address_in, domains_at, key_at, key_of, limit_at, name_at, quota_at, receipts_at, rule_at, seal_key_at, text_at}
use Rattle.pec_directory.specs.Faults.{AccountsStop, IsDirectoryFault, IsFirstFault, IsMet, IsProviderFault, IsTableFault, NoneMet, ProvidersStop, Row, account_rows, meets, provider_rows}
use Rattle.pec_directory.specs.Tables.{SaysFields}
use Rattle.pec_directory.specs.Walk.{Fields, account_in, accounts_from, count_of, directory_in, directory_of, document_of, domains_of, fault_if, fields_of, is_named, is_outside, is_taken, key_in, most_accounts, most_providers, or_fault, provider_in, providers_from, providers_in, receipts_in, rule_in, settled, stands_twice, with_accounts}
use Rattle.pec_directory.specs.declared.faults.DirectoryFault.{DirectoryFault}
use Rattle.pec_directory.specs.declared.faults.DirectoryFault.TheVariants.{AccountOutside, AccountTwice, BadAddress, BadField, BadKey, BadZone, DomainTwice, NameTwice, NoProvider, NotToml, TooMany}
use Rattle.pec_directory.specs.declared.faults.Field.TheVariants as field
use Rattle.pec_directory.proofs.AddressLaws.{AddressLaws}
use Rattle.pec_directory.proofs.LawfulLemmas.{account_so, provider_so}
use Rattle.pec_directory.proofs.TableLemmas.{account_again, provider_again}

-- ---- rows

abbrev no_fault : Result (Unit {0}) DirectoryFault
no_fault = Ok tt

-- the fault of the first row that is met; none where none is
abbrev stop : List Row → Result (Unit {0}) DirectoryFault
stop [] = no_fault
stop (row ∷ rows) = cond row.0 (Err row.1) (stop rows)

abbrev wrong : {A : Type 0} → DirectoryFault → Result A DirectoryFault
wrong fault = Err fault

err_same : {A : Type 0} (a b : DirectoryFault) → wrong {A = A} a ≡ wrong b → a ≡ b
err_same a b e = cc

never : {A : Type 0} {x : A} (fault : DirectoryFault) → Ok x ≡ wrong fault → ⊥
never fault e = cc

stop_so : (rows : List Row) (fault : DirectoryFault) → stop rows ≡ Err fault → IsFirstFault rows fault
stop_so [] fault e = absurd (never fault e)
stop_so (row ∷ rows) fault e = by_test row.0 refl (stop_so rows fault) e
  where
    by_test : (b : Bool) → row.0 ≡ b → (stop rows ≡ Err fault → IsFirstFault rows fault) → cond b (Err row.1) (stop rows) ≡ Err fault → IsFirstFault (row ∷ rows) fault
    by_test true met further e = (row, record { before = []; after = rows; place = refl; none_before = tt; applies = met }, cc)
    by_test false unmet further e =
        let rest = further e in (
          rest.0,
          record {
            before = row ∷ rest.1.before;
            after = rest.1.after;
            place = ap (λ l. row ∷ l) rest.1.place;
            none_before = ((λ (met : row.0 ≡ true). false≢true (sym unmet ∙ met)), rest.1.none_before);
            applies = rest.1.applies;
          },
          rest.2,
        )

unmet_is : (b : Bool) → (b ≡ true → ⊥) → b ≡ false
unmet_is true stays = absurd (stays refl)
unmet_is false stays = refl

passed : (before after : List Row) (row : Row) → NoneMet before → IsMet row → stop (before ++ row ∷ after) ≡ Err row.1
passed [] after row none met = ap (λ b. cond b (Err row.1) (stop after)) met
passed (first ∷ before) after row none met =
    ap (λ b. cond b (Err first.1) (stop (before ++ row ∷ after))) (unmet_is first.0 none.0) ∙ passed before after row none.1 met

stop_again : (rows : List Row) (fault : DirectoryFault) → IsFirstFault rows fault → stop rows ≡ Err fault
stop_again rows fault first = ap stop first.1.place ∙ passed first.1.before first.1.after first.0 first.1.none_before first.1.applies ∙ ap (λ f. Err f) first.2

none_so : (rows : List Row) → stop rows ≡ no_fault → NoneMet rows
none_so [] e = tt
none_so (row ∷ rows) e = by_test row.0 refl (none_so rows) e
  where
    by_test : (b : Bool) → row.0 ≡ b → (stop rows ≡ no_fault → NoneMet rows) → cond b (Err row.1) (stop rows) ≡ no_fault → NoneMet (row ∷ rows)
    by_test true met further e = let no : ⊥ = cc in absurd no
    by_test false unmet further e = ((λ (met : row.0 ≡ true). false≢true (sym unmet ∙ met)), further e)

-- ---- accounts

three : {A : Type 0} (x : A) (a b c : Bool) (fa fb fc fault : DirectoryFault)
    → (fault_if a fa (fault_if b fb (fault_if c fc (Ok x))) ≡ Err fault) ↔ (stop ((a, fa) ∷ (b, fb) ∷ (c, fc) ∷ []) ≡ Err fault)
three x true b c fa fb fc fault = (λ e. cc, λ e. cc)
three x false true c fa fb fc fault = (λ e. cc, λ e. cc)
three x false false true fa fb fc fault = (λ e. cc, λ e. cc)
three x false false false fa fb fc fault = (λ e. cc, λ e. cc)

abbrev account_found : Bytes → ℕ → Bytes → Result Account DirectoryFault
account_found address quota key = Ok (record { address = address; quota = quota; key = key })

address_steps : (o : Option Bytes) (outside taken : Bytes → Bool) (full : Bool) (quota : ℕ) (key : Bytes) (fb fo ft ff fault : DirectoryFault)
    → ((or_fault fb o >>= λ address. fault_if (outside address) fo (fault_if (taken address) ft (fault_if full ff (account_found address quota key)))) ≡ Err fault)
    ↔ (stop ((is_none o, fb) ∷ (meets outside o, fo) ∷ (meets taken o, ft) ∷ (full, ff) ∷ []) ≡ Err fault)
address_steps None outside taken full quota key fb fo ft ff fault = (λ e. cc, λ e. cc)
address_steps (Some address) outside taken full quota key fb fo ft ff fault = three (record { address = address; quota = quota; key = key }) (outside address) (taken address) full fo ft ff fault

account_steps : (a : Option Bytes) (q : Option ℕ) (k : Option Bytes) (f : Bytes → Option Bytes) (outside taken : Bytes → Bool) (full : Bool) (fa fq fk fb fo ft ff fault : DirectoryFault)
    → ((or_fault fa a >>= λ t. (or_fault fq q >>= λ quota. (or_fault fk k >>= λ key. (or_fault fb (f t) >>= λ address.
    fault_if (outside address) fo (fault_if (taken address) ft (fault_if full ff (account_found address quota key))))))) ≡ Err fault)
    ↔ (stop ((is_none a, fa) ∷ (is_none q, fq) ∷ (is_none k, fk) ∷ (is_none (option_and_then f a), fb) ∷ (meets outside (option_and_then f a), fo)
    ∷ (meets taken (option_and_then f a), ft) ∷ (full, ff) ∷ []) ≡ Err fault)
account_steps None q k f outside taken full fa fq fk fb fo ft ff fault = (λ e. cc, λ e. cc)
account_steps (Some t) None k f outside taken full fa fq fk fb fo ft ff fault = (λ e. cc, λ e. cc)
account_steps (Some t) (Some quota) None f outside taken full fa fq fk fb fo ft ff fault = (λ e. cc, λ e. cc)
account_steps (Some t) (Some quota) (Some key) f outside taken full fa fq fk fb fo ft ff fault = address_steps (f t) outside taken full quota key fb fo ft ff fault

account_told : (earlier : List Provider) (fields : Fields) (before : List Account) (entry : Data) (fault : DirectoryFault)
    → (account_in earlier fields before entry ≡ Err fault) ↔ IsFirstFault (account_rows earlier fields before entry) fault
unfolding account_in address_at
account_told earlier fields before entry fault =
    let number = length earlier in
    let at = length before + 1 in
    let steps =
    account_steps (text_at (codes "address") entry) (quota_at entry) (key_at entry) address_in (is_outside fields.domains) (is_taken earlier fields.receipts before)
    (leb most_accounts (length (accounts_of earlier) + length before)) (BadField number field.Address) (BadField number field.Quota) (BadField number field.Key) (BadAddress number at)
    (AccountOutside number at) (AccountTwice number at) TooMany fault in
    let rows = account_rows earlier fields before entry in
    (λ e. stop_so rows fault (steps.0 e), λ first. steps.1 (stop_again rows fault first))

accounts_told : AddressLaws → (earlier : List Provider) (fields : Fields) (before : List Account) (tables : Items) (fault : DirectoryFault)
    → (accounts_from earlier fields before tables ≡ Err fault) ↔ AccountsStop earlier fields before tables fault
accounts_told laws earlier fields before no_items fault = (λ e. absurd (never fault e), λ stops. absurd stops)
accounts_told laws earlier fields before (item entry tables) fault =
    let further = λ (account : Account). accounts_told laws earlier fields (before ++ account ∷ []) tables fault in
    (by_first further (account_in earlier fields before entry) refl, again further)
  where
    by_first : ((account : Account) → (accounts_from earlier fields (before ++ account ∷ []) tables ≡ Err fault) ↔ AccountsStop earlier fields (before ++ account ∷ []) tables fault)
        → (r : Result Account DirectoryFault) → account_in earlier fields before entry ≡ r → (r >>= λ next. accounts_from earlier fields (before ++ next ∷ []) tables) ≡ Err fault
        → AccountsStop earlier fields before (item entry tables) fault
    by_first further (Ok account) is e =
        let so = account_so laws earlier fields before entry account is in
        inr (account, (so.1, so.0), (further account).0 e)
    by_first further (Err first) is e = inl ((account_told earlier fields before entry fault).0 (is ∙ ap wrong (err_same first fault e)))

    again : ((account : Account) → (accounts_from earlier fields (before ++ account ∷ []) tables ≡ Err fault) ↔ AccountsStop earlier fields (before ++ account ∷ []) tables fault)
        → AccountsStop earlier fields before (item entry tables) fault → accounts_from earlier fields before (item entry tables) ≡ Err fault
    again further stops = elim stops [
      | inl first ↦ ap (λ r. r >>= (λ next. accounts_from earlier fields (before ++ next ∷ []) tables)) ((account_told earlier fields before entry fault).1 first)
      | inr rest ↦ ap (λ r. r >>= (λ next. accounts_from earlier fields (before ++ next ∷ []) tables)) (account_again earlier fields before entry rest.0 rest.1.1 rest.1.0)
          ∙ (further rest.0).1 rest.2
    ]

-- ---- providers

none_again : (rows : List Row) → NoneMet rows → stop rows ≡ no_fault
none_again [] none = refl
none_again (row ∷ rows) none = ap (λ b. cond b (Err row.1) (stop rows)) (unmet_is row.0 none.0) ∙ none_again rows none.1

-- a text, and then what the text is
two_steps : {A B : Type 0} (o : Option A) (f : A → Option B) (x y : DirectoryFault) → (or_fault x o >>= λ t. or_fault y (f t)) ≡ fault_if (is_none o) x (or_fault y (option_and_then f o))
two_steps None f x y = refl
two_steps (Some t) f x y = refl

-- a text, and then a test on it
test_steps : {A : Type 0} (o : Option A) (test : A → Bool) (x y : DirectoryFault) → (or_fault x o >>= λ t. fault_if (test t) y (Ok t)) ≡ (or_fault x o >>= λ t. fault_if (meets test o) y (Ok t))
test_steps None test x y = refl
test_steps (Some t) test x y = refl

abbrev own_walk : ℕ → Option Bytes → Bool → Option Bytes → Option (List Bytes) → Bool → Option Bytes → Option Bytes → Bool → Option ℕ → Result Fields DirectoryFault
own_walk number name receipts_text receipts domains key_text key rule zone limit =
    or_fault (BadField number field.Name) name >>= λ n. (fault_if receipts_text (BadField number field.MailReceipt) (or_fault (BadAddress number 0) receipts) >>= λ r. (
    or_fault (BadField number field.ManagedDomains) domains >>= λ d. (fault_if key_text (BadField number field.Key) (or_fault (BadKey number) key) >>= λ k. (
    (or_fault (BadField number field.Zone) rule >>= λ z. fault_if zone (BadZone number) (Ok z)) >>= λ z. (or_fault (BadField number field.Limit) limit >>= λ l.
    Ok (record { name = n; receipts = r; domains = d; key = k; rule = z; limit = l }))))))

abbrev own_rows : ℕ → Option Bytes → Bool → Option Bytes → Option (List Bytes) → Bool → Option Bytes → Option Bytes → Bool → Option ℕ → List Row → List Row
own_rows number name receipts_text receipts domains key_text key rule zone limit more =
    (is_none name, BadField number field.Name) ∷ (receipts_text, BadField number field.MailReceipt) ∷ (is_none receipts, BadAddress number 0)
    ∷ (is_none domains, BadField number field.ManagedDomains) ∷ (key_text, BadField number field.Key) ∷ (is_none key, BadKey number)
    ∷ (is_none rule, BadField number field.Zone) ∷ (zone, BadZone number) ∷ (is_none limit, BadField number field.Limit) ∷ more

-- either both give the same fault, or the fields are there and the rows go on
record OwnGoesOn (number : ℕ) (name : Option Bytes) (receipts_text : Bool) (receipts : Option Bytes) (domains : Option (List Bytes)) (key_text : Bool) (key rule : Option Bytes) (zone : Bool) (limit : Option ℕ)
    (more : List Row) (fields : Fields) : Type 0 where
  walk : own_walk number name receipts_text receipts domains key_text key rule zone limit ≡ Ok fields
  rows : stop (own_rows number name receipts_text receipts domains key_text key rule zone limit more) ≡ stop more
  name_is : name ≡ Some fields.name
  receipts_is : receipts ≡ Some fields.receipts
  domains_is : domains ≡ Some fields.domains
  key_is : key ≡ Some fields.key
  rule_is : rule ≡ Some fields.rule
  limit_is : limit ≡ Some fields.limit

own_case : (number : ℕ) (name : Option Bytes) (receipts_text : Bool) (receipts : Option Bytes) (domains : Option (List Bytes)) (key_text : Bool) (key rule : Option Bytes) (zone : Bool) (limit : Option ℕ) (more : List Row)
    → ((fault : DirectoryFault) × (own_walk number name receipts_text receipts domains key_text key rule zone limit ≡ Err fault)
    × (stop (own_rows number name receipts_text receipts domains key_text key rule zone limit more) ≡ Err fault))
    ⊎ ((fields : Fields) × OwnGoesOn number name receipts_text receipts domains key_text key rule zone limit more fields)
own_case number None rt r d kt k z bz l more = inl (BadField number field.Name, refl, refl)
own_case number (Some n) true r d kt k z bz l more = inl (BadField number field.MailReceipt, refl, refl)
own_case number (Some n) false None d kt k z bz l more = inl (BadAddress number 0, refl, refl)
own_case number (Some n) false (Some r) None kt k z bz l more = inl (BadField number field.ManagedDomains, refl, refl)
own_case number (Some n) false (Some r) (Some d) true k z bz l more = inl (BadField number field.Key, refl, refl)
own_case number (Some n) false (Some r) (Some d) false None z bz l more = inl (BadKey number, refl, refl)
own_case number (Some n) false (Some r) (Some d) false (Some k) None bz l more = inl (BadField number field.Zone, refl, refl)
own_case number (Some n) false (Some r) (Some d) false (Some k) (Some z) true l more = inl (BadZone number, refl, refl)
own_case number (Some n) false (Some r) (Some d) false (Some k) (Some z) false None more = inl (BadField number field.Limit, refl, refl)
own_case number (Some n) false (Some r) (Some d) false (Some k) (Some z) false (Some l) more =
    inr (
      record { name = n; receipts = r; domains = d; key = k; rule = z; limit = l },
      record { walk = refl; rows = refl; name_is = refl; receipts_is = refl; domains_is = refl; key_is = refl; rule_is = refl; limit_is = refl },
    )

abbrev settle_walk : ℕ → Option Items → Bool → Bool → Bool → (Items → Result Provider DirectoryFault) → Result Provider DirectoryFault
settle_walk number tables named twice outside rest =
    or_fault (BadField number field.Account) tables >>= λ a. fault_if named (NameTwice number) (fault_if twice (DomainTwice number) (fault_if outside (AccountOutside number 0) (rest a)))

abbrev settle_rows : ℕ → Option Items → Bool → Bool → Bool → List Row
settle_rows number tables named twice outside = (is_none tables, BadField number field.Account) ∷ (named, NameTwice number) ∷ (twice, DomainTwice number) ∷ (outside, AccountOutside number 0) ∷ []

settle_case : (number : ℕ) (o : Option Items) (named twice outside : Bool) (rest : Items → Result Provider DirectoryFault)
    → ((fault : DirectoryFault) × (settle_walk number o named twice outside rest ≡ Err fault) × (stop (settle_rows number o named twice outside) ≡ Err fault))
    ⊎ ((tables : Items) × (o ≡ Some tables) × (settle_walk number o named twice outside rest ≡ rest tables) × (stop (settle_rows number o named twice outside) ≡ no_fault))
settle_case number None named twice outside rest = inl (BadField number field.Account, refl, refl)
settle_case number (Some a) true twice outside rest = inl (NameTwice number, refl, refl)
settle_case number (Some a) false true outside rest = inl (DomainTwice number, refl, refl)
settle_case number (Some a) false false true rest = inl (AccountOutside number 0, refl, refl)
settle_case number (Some a) false false false rest = inr (a, refl, refl, refl)

fields_walk : (number : ℕ) (entry : Data) → fields_of number entry
    ≡ own_walk number (name_at entry) (is_none (text_at (codes "mailReceipt") entry)) (receipts_at entry) (domains_at entry) (is_none (text_at (codes "key") entry)) (seal_key_at entry) (rule_at entry)
    (meets (λ rule. is_none (read_whole rule)) (rule_at entry)) (limit_at entry)
unfolding fields_of receipts_in receipts_at key_in seal_key_at rule_in
fields_walk number entry =
    rw (
      two_steps (text_at (codes "mailReceipt") entry) address_in (BadField number field.MailReceipt) (BadAddress number 0),
      two_steps (text_at (codes "key") entry) key_of (BadField number field.Key) (BadKey number),
      test_steps (rule_at entry) (λ rule. is_none (read_whole rule)) (BadField number field.Zone) (BadZone number),
    )
    refl

-- what a provider's accounts make of its fields
abbrev rest_of : List Provider → Fields → Items → Result Provider DirectoryFault
rest_of earlier fields tables = accounts_from earlier fields [] tables >>= λ all. Ok (with_accounts fields all)

record ProviderGoesOn (earlier : List Provider) (entry : Data) (fields : Fields) (tables : Items) : Type 0 where
  said : SaysFields entry fields
  there : accounts_at entry ≡ Some tables
  rows : stop (provider_rows earlier entry) ≡ no_fault
  walk : provider_in earlier entry ≡ rest_of earlier fields tables

abbrev ProviderCase : List Provider → Data → Type 0
ProviderCase earlier entry =
    ((fault : DirectoryFault) × (provider_in earlier entry ≡ Err fault) × (stop (provider_rows earlier entry) ≡ Err fault)) ⊎ ((fields : Fields) × (tables : Items) × ProviderGoesOn earlier entry fields tables)

module _ (earlier : List Provider) (entry : Data) where
  abbrev number : ℕ
  number = length earlier

  abbrev receipts_text : Bool
  receipts_text = is_none (text_at (codes "mailReceipt") entry)

  abbrev key_text : Bool
  key_text = is_none (text_at (codes "key") entry)

  abbrev zone : Bool
  zone = meets (λ rule. is_none (read_whole rule)) (rule_at entry)

  -- the rows behind those on the provider's own fields, by what is there of these
  abbrev more_of : Option Bytes → Option (List Bytes) → Option Bytes → List Row
  more_of name domains receipts =
      settle_rows number (accounts_at entry) (meets (λ n. is_named n earlier) name) (meets (λ d. stands_twice (domains_of earlier) d) domains) (meets (λ d. meets (is_outside d) receipts) domains)

  abbrev more : List Row
  more = more_of (name_at entry) (domains_at entry) (receipts_at entry)

  abbrev rest : Fields → Result Provider DirectoryFault
  rest fields = or_fault (BadField number field.Account) (accounts_at entry) >>= λ a. settled earlier fields a

  settle : (fields : Fields) → OwnGoesOn number (name_at entry) receipts_text (receipts_at entry) (domains_at entry) key_text (seal_key_at entry) (rule_at entry) zone (limit_at entry) more fields → ProviderCase earlier entry
  unfolding provider_in settled
  settle fields on =
      let named = is_named fields.name earlier in
      let twice = stands_twice (domains_of earlier) fields.domains in
      let outside = is_outside fields.domains fields.receipts in
      let rows : stop (provider_rows earlier entry) ≡ stop (settle_rows number (accounts_at entry) named twice outside) =
      on.rows
      ∙ ap (λ o. stop (more_of o (domains_at entry) (receipts_at entry))) on.name_is
      ∙ ap (λ o. stop (more_of (Some fields.name) o (receipts_at entry))) on.domains_is
      ∙ ap (λ o. stop (more_of (Some fields.name) (Some fields.domains) o)) on.receipts_is in
      let walk : provider_in earlier entry ≡ rest fields = ap (λ r. r >>= rest) (fields_walk number entry ∙ on.walk) in
      elim (settle_case number (accounts_at entry) named twice outside (rest_of earlier fields)) [
        | inl bad ↦ inl (bad.0, walk ∙ bad.1, rows ∙ bad.2)
        | inr good ↦ inr (
          fields,
          good.0,
          record {
            said = record { name = on.name_is; receipts = on.receipts_is; domains = on.domains_is; key = on.key_is; rule = on.rule_is; limit = on.limit_is };
            there = good.1;
            rows = rows ∙ good.3;
            walk = walk ∙ good.2;
          },
        )
      ]

  provider_case : ProviderCase earlier entry
  unfolding provider_in
  provider_case =
      elim (own_case number (name_at entry) receipts_text (receipts_at entry) (domains_at entry) key_text (seal_key_at entry) (rule_at entry) zone (limit_at entry) more) [
        | inl bad ↦ inl (bad.0, ap (λ r. r >>= rest) (fields_walk number entry ∙ bad.1), bad.2)
        | inr good ↦ settle good.0 good.1
      ]

some_same : {A : Type 0} (x y : A) → Some x ≡ Some y → x ≡ y
some_same x y e = cc

fields_same : (entry : Data) (f g : Fields) → SaysFields entry f → SaysFields entry g → f ≡ g
fields_same entry f g said other =
    ap (λ n. record { name = n; receipts = f.receipts; domains = f.domains; key = f.key; rule = f.rule; limit = f.limit }) (some_same f.name g.name (sym said.name ∙ other.name))
    ∙ ap (λ r. record { name = g.name; receipts = r; domains = f.domains; key = f.key; rule = f.rule; limit = f.limit }) (some_same f.receipts g.receipts (sym said.receipts ∙ other.receipts))
    ∙ ap (λ d. record { name = g.name; receipts = g.receipts; domains = d; key = f.key; rule = f.rule; limit = f.limit }) (some_same f.domains g.domains (sym said.domains ∙ other.domains))
    ∙ ap (λ k. record { name = g.name; receipts = g.receipts; domains = g.domains; key = k; rule = f.rule; limit = f.limit }) (some_same f.key g.key (sym said.key ∙ other.key))
    ∙ ap (λ z. record { name = g.name; receipts = g.receipts; domains = g.domains; key = g.key; rule = z; limit = f.limit }) (some_same f.rule g.rule (sym said.rule ∙ other.rule))
    ∙ ap (λ l. record { name = g.name; receipts = g.receipts; domains = g.domains; key = g.key; rule = g.rule; limit = l }) (some_same f.limit g.limit (sym said.limit ∙ other.limit))

not_ok : {A B : Type 0} (r : Result A DirectoryFault) (f : A → B) (fault : DirectoryFault) → (r >>= λ x. Ok (f x)) ≡ Err fault → r ≡ Err fault
not_ok (Ok x) f fault e = let no : ⊥ = cc in absurd no
not_ok (Err y) f fault e = cc

apart : (r : Result (Unit {0}) DirectoryFault) (fault : DirectoryFault) → r ≡ no_fault → r ≡ Err fault → ⊥
apart r fault e f = cc

provider_told : AddressLaws → (earlier : List Provider) (entry : Data) (fault : DirectoryFault) → (provider_in earlier entry ≡ Err fault) ↔ IsProviderFault earlier entry fault
provider_told laws earlier entry fault = (there, back)
  where
    rows : List Row
    rows = provider_rows earlier entry

    there : provider_in earlier entry ≡ Err fault → IsProviderFault earlier entry fault
    there e = elim (provider_case earlier entry) [
      | inl bad ↦ inl (stop_so rows fault (bad.2 ∙ ap wrong (err_same bad.0 fault (sym bad.1 ∙ e))))
      | inr good ↦ inr (
        none_so rows good.2.rows,
        (
          good.0,
          good.1,
          good.2.said,
          good.2.there,
          (accounts_told laws earlier good.0 [] good.1 fault).0 (not_ok (accounts_from earlier good.0 [] good.1) (with_accounts good.0) fault (sym good.2.walk ∙ e)),
        ),
      )
    ]

    back : IsProviderFault earlier entry fault → provider_in earlier entry ≡ Err fault
    back stops = elim stops [
      | inl first ↦ elim (provider_case earlier entry) [
        | inl bad ↦ bad.1 ∙ ap wrong (err_same bad.0 fault (sym bad.2 ∙ stop_again rows fault first))
        | inr good ↦ absurd (apart (stop rows) fault good.2.rows (stop_again rows fault first))
      ]
      | inr rest ↦ elim (provider_case earlier entry) [
        | inl bad ↦ absurd (apart (stop rows) bad.0 (none_again rows rest.0) bad.2)
        | inr good ↦
            good.2.walk
            ∙ ap (λ f. rest_of earlier f good.1) (fields_same entry good.0 rest.1.0 good.2.said rest.1.2)
            ∙ ap (rest_of earlier rest.1.0) (some_same good.1 rest.1.1 (sym good.2.there ∙ rest.1.3))
            ∙ ap (λ r. r >>= (λ all. Ok (with_accounts rest.1.0 all))) ((accounts_told laws earlier rest.1.0 [] rest.1.1 fault).1 rest.1.4)
      ]
    ]

providers_told : AddressLaws → (earlier : List Provider) (tables : Items) (fault : DirectoryFault) → (providers_from earlier tables ≡ Err fault) ↔ ProvidersStop earlier tables fault
providers_told laws earlier no_items fault = (λ e. absurd (never fault e), λ stops. absurd stops)
providers_told laws earlier (item entry tables) fault =
    let further = λ (provider : Provider). providers_told laws (earlier ++ provider ∷ []) tables fault in
    (by_first further (provider_in earlier entry) refl, again further)
  where
    by_first : ((provider : Provider) → (providers_from (earlier ++ provider ∷ []) tables ≡ Err fault) ↔ ProvidersStop (earlier ++ provider ∷ []) tables fault)
        → (r : Result Provider DirectoryFault) → provider_in earlier entry ≡ r → (r >>= λ next. providers_from (earlier ++ next ∷ []) tables) ≡ Err fault → ProvidersStop earlier (item entry tables) fault
    by_first further (Ok provider) is e =
        let so = provider_so laws earlier entry provider is in
        inr (provider, (so.1, so.0), (further provider).0 e)
    by_first further (Err first) is e = inl ((provider_told laws earlier entry fault).0 (is ∙ ap wrong (err_same first fault e)))

    again : ((provider : Provider) → (providers_from (earlier ++ provider ∷ []) tables ≡ Err fault) ↔ ProvidersStop (earlier ++ provider ∷ []) tables fault)
        → ProvidersStop earlier (item entry tables) fault → providers_from earlier (item entry tables) ≡ Err fault
    again further stops = elim stops [
      | inl first ↦ ap (λ r. r >>= (λ next. providers_from (earlier ++ next ∷ []) tables)) ((provider_told laws earlier entry fault).1 first)
      | inr rest ↦ ap (λ r. r >>= (λ next. providers_from (earlier ++ next ∷ []) tables)) (provider_again earlier entry rest.0 rest.1.1 rest.1.0)
          ∙ (further rest.0).1 rest.2
    ]

-- ---- the whole

abbrev two_rows : Bool → Bool → List Row
two_rows none many = (none, NoProvider) ∷ (many, TooMany) ∷ []

count_case : (none many : Bool) (rest : Result (List Provider) DirectoryFault)
    → ((fault : DirectoryFault) × (fault_if none NoProvider (fault_if many TooMany rest) ≡ Err fault) × (stop (two_rows none many) ≡ Err fault))
    ⊎ ((fault_if none NoProvider (fault_if many TooMany rest) ≡ rest) × (stop (two_rows none many) ≡ no_fault))
count_case true many rest = inl (NoProvider, refl, refl)
count_case false true rest = inl (TooMany, refl, refl)
count_case false false rest = inr (refl, refl)

abbrev tables_walk : Option Items → Result (List Provider) DirectoryFault
tables_walk o = or_fault NoProvider o >>= λ tables. fault_if (eqb (count_of tables) 0) NoProvider (fault_if (ltb most_providers (count_of tables)) TooMany (providers_from [] tables))

abbrev tables_rows : Option Items → List Row
tables_rows o = (is_none o, NoProvider) ∷ (meets (λ tables. eqb (count_of tables) 0) o, NoProvider) ∷ (meets (λ tables. ltb most_providers (count_of tables)) o, TooMany) ∷ []

tables_told : AddressLaws → (o : Option Items) (fault : DirectoryFault)
    → (tables_walk o ≡ Err fault) ↔ (IsFirstFault (tables_rows o) fault ⊎ (NoneMet (tables_rows o) × ((tables : Items) × (o ≡ Some tables) × ProvidersStop [] tables fault)))
tables_told laws None fault = (
  λ e. inl (stop_so (tables_rows None) fault cc),
  λ stops. elim stops [
    | inl first ↦ ap wrong (err_same NoProvider fault (stop_again (tables_rows None) fault first))
    | inr rest ↦ absurd (rest.0.0 refl)
  ],
)
tables_told laws (Some tables) fault = elim (count_case (eqb (count_of tables) 0) (ltb most_providers (count_of tables)) (providers_from [] tables)) [
  | inl bad ↦ (
    λ e. inl (stop_so (tables_rows (Some tables)) fault (bad.2 ∙ ap wrong (err_same bad.0 fault (sym bad.1 ∙ e)))),
    λ stops. elim stops [
      | inl first ↦ bad.1 ∙ ap wrong (err_same bad.0 fault (sym bad.2 ∙ stop_again (tables_rows (Some tables)) fault first))
      | inr rest ↦ absurd (apart (stop (tables_rows (Some tables))) bad.0 (none_again (tables_rows (Some tables)) rest.0) bad.2)
    ],
  )
  | inr good ↦ (
    λ e. inr (none_so (tables_rows (Some tables)) good.1, (tables, refl, (providers_told laws [] tables fault).0 (sym good.0 ∙ e))),
    λ stops. elim stops [
      | inl first ↦ absurd (apart (stop (tables_rows (Some tables))) fault good.1 (stop_again (tables_rows (Some tables)) fault first))
      | inr rest ↦ good.0 ∙ (providers_told laws [] tables fault).1 (subst (λ t. ProvidersStop [] t fault) (sym (some_same tables rest.1.0 rest.1.1)) rest.1.2)
    ],
  )
]

pub table_told : AddressLaws → (whole : Data) (fault : DirectoryFault) → (directory_in whole ≡ Err fault) ↔ IsTableFault whole fault
unfolding directory_in
table_told laws whole fault = tables_told laws (providers_in whole) fault

pub fault_told : AddressLaws → (text : Bytes) (fault : DirectoryFault) → (directory_of text ≡ Err fault) ↔ IsDirectoryFault text fault
unfolding directory_of
fault_told laws text fault = by_document (document_of text) refl
  where
    by_document : (o : Option Data) → document_of text ≡ o → ((or_fault NotToml o >>= directory_in) ≡ Err fault) ↔ (((o ≡ None) × (fault ≡ NotToml)) ⊎ ((whole : Data) × (o ≡ Some whole) × IsTableFault whole fault))
    by_document None is = (
      λ e. inl (refl, err_same fault NotToml (sym e)),
      λ stops. elim stops [
        | inl none ↦ ap wrong (sym none.1)
        | inr rest ↦ let no : ⊥ = cc in absurd no
      ],
    )
    by_document (Some whole) is = (
      λ e. inr (whole, refl, (table_told laws whole fault).0 e),
      λ stops. elim stops [
        | inl none ↦ let no : ⊥ = cc in absurd no
        | inr rest ↦ (table_told laws whole fault).1 (subst (λ w. IsTableFault w fault) (sym (some_same whole rest.0 rest.1)) rest.2)
      ],
    )
