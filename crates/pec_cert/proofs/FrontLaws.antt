-- Looking at a text up to its last value is exact.
use Rattle.std.proofs.Common.{◌≡◌, ℕ, ◌-◌, ◌<◌, ◌≤◌, Bool, true, false, cond, List, [], ◌∷◌, ◌++◌, length, Option, Some, None, Result, Ok, Err, refl, sym, ap, subst, ◌∙◌, arith, length-append}
use Rattle.std.specs.Prelude.{codes}
use Rattle.std.specs.List.{flat_map}
use Rattle.pec_types.specs.Address.{IsAddressFault, IsLowerAddress, IsReadAs}
use Rattle.pec_types.specs.AddressReading.{address_of}
use Rattle.pec_types.specs.Answers.{TellsExactly}
use Rattle.pec_grammar.specs.Grammar.{Cursor, Read, led, ended, choice, word}
use Rattle.pec_grammar.proofs.Parts.{Lawful}
use Rattle.pec_grammar.proofs.Sequences.{same_lawful, led_lawful, ended_lawful, word_lawful}
use Rattle.pec_cert.specs.Front.{Looked, in_turn, often, absent_or, judged, address_part, date_place, ranged, dated_so, date_part, tag_part, tagged_part, front_part, opening_at, opening, opening_part, wish_part, line_part, sender_part, recipient_part, heading_part, names_part, delivered_part, received_part, values_part, IsWrongIn, found, wrong_in}
use Rattle.pec_cert.specs.Lines.{class_word}
use Rattle.pec_cert.specs.LinesReading.{class_table, content_at, shown_at}
use Rattle.pec_cert.specs.Markup.{escape}
use Rattle.pec_cert.specs.Shown.{IsShown, AnswersShown}
use Rattle.pec_cert.specs.Stamp.{Instant}
use Rattle.pec_cert.specs.ValueTests.{is_lower, stamp_in}
use Rattle.pec_cert.specs.declared.dates.Part.{Part as DatePart}
use Rattle.pec_cert.specs.declared.faults.CertFault.{CertFault}
use Rattle.pec_cert.specs.declared.faults.CertFault.TheVariants.{BadDate, BadAddress}
use Rattle.pec_cert.specs.declared.stamps.Shown.{Shown}
use Rattle.pec_cert.proofs.FrontLemmas.{Told, IsOfValue, same_rest, not_both, same_fault, no_fault, read_parts, Again, read_again, plain_told, turn_told, absent_told, often_told}
use Rattle.pec_cert.proofs.LowerAddressLemmas.{lower_yes, lower_no}
use Rattle.pec_cert.proofs.NumberLemmas.{shown, shown_lawful}
use Rattle.pec_cert.proofs.PartLemmas.{front, front_lawful, class_lawful, has_class, wish, wish_lawful}
use Rattle.pec_cert.proofs.Printable.{printable_address}
use Rattle.pec_cert.proofs.Texts.{content, content_lawful, tagged, tagged_lawful}

opening_lawful : Lawful opening
unfolding opening_at
opening_lawful =
    same_lawful (led (codes "<destinatari tipo=\"") (ended (choice class_word class_table) (codes "\">"))) opening
    (λ b fits. tt) (λ b fits. has_class b) (λ b fits. refl) (λ at. refl)
    (led_lawful (codes "<destinatari tipo=\"") (ended (choice class_word class_table) (codes "\">"))
    (ended_lawful (choice class_word class_table) (codes "\">") class_lawful))

tag_told : (bytes : List ℕ) → Told (tag_part bytes)
tag_told bytes = plain_told (word bytes) (word_lawful bytes)

tagged_told : (start_tag end_tag : List ℕ) → Told (tagged_part start_tag (60 ∷ end_tag))
tagged_told start_tag end_tag = plain_told (tagged start_tag (60 ∷ end_tag)) (tagged_lawful start_tag end_tag)

module _ (one : (shown : Shown) (r : Result Instant DatePart) → AnswersShown shown r → stamp_in shown ≡ r) (size : ℕ) (text : List ℕ) (taken : Shown × Cursor) (e : shown_at (record { rest = text; farthest = text }) ≡ Ok taken) where
  pub date_is : (stamp : Instant) → IsShown taken.0 stamp → (date_part size).look text ≡ Ok taken.1.rest
  date_is stamp is = ap (dated_so size (length text)) e ∙ ap (λ (a : Result Instant DatePart). ranged size (length text) taken.0 taken.1.rest a) (one taken.0 (Ok stamp) is)

  pub date_isnt : (part : DatePart) → AnswersShown taken.0 (Err part) → (date_part size).look text ≡ Err (Some (BadDate (date_place size (length text) taken.0 part)))
  date_isnt part is = ap (dated_so size (length text)) e ∙ ap (λ (a : Result Instant DatePart). ranged size (length text) taken.0 taken.1.rest a) (one taken.0 (Err part) is)

module _ (told : (text : List ℕ) → TellsExactly (IsReadAs text) (IsAddressFault text) (address_of text)) where
  lower_true : (bytes : List ℕ) → IsLowerAddress bytes → (b : Bool) → is_lower bytes ≡ b → is_lower bytes ≡ true
  lower_true bytes is true e = e
  lower_true bytes is false e = absurd (lower_no told bytes e is)

  lower_false : (bytes : List ℕ) → (IsLowerAddress bytes → ⊥) → (b : Bool) → is_lower bytes ≡ b → is_lower bytes ≡ false
  lower_false bytes not true e = absurd (not (lower_yes told bytes e))
  lower_false bytes not false e = e

  module _ (size : ℕ) (text : List ℕ) where
    abbrev wrong_here : Looked
    wrong_here = Err (Some (BadAddress (size - length text)))

    address_right : (taken : List ℕ × _) (rest : List ℕ) → content_at (codes "<") (record { rest = text; farthest = text }) ≡ Ok taken → (b : Bool) → is_lower taken.0 ≡ b
        → cond b (Ok taken.1.rest) wrong_here ≡ Ok rest → (address_part size).Goes text rest
    address_right taken rest e true lower same =
        let parts = read_parts (content (60 ∷ [])) (content_lawful []) text taken e in
        (taken.0, lower_yes told taken.0 lower, parts.1 ∙ ap (λ z. (flat_map escape taken.0 ++ codes "<") ++ z) (same_rest (Ok taken.1.rest) taken.1.rest rest refl same))
    address_right taken rest e false lower same = absurd (not_both wrong_here rest (Some (BadAddress (size - length text))) same refl)

    address_ok : (rest : List ℕ) (r : Read (List ℕ)) → content_at (codes "<") (record { rest = text; farthest = text }) ≡ r → judged (size - length text) r ≡ Ok rest → (address_part size).Goes text rest
    address_ok rest (Ok taken) e same = address_right taken rest e (is_lower taken.0) refl same
    address_ok rest (Err stop) e same = absurd (not_both (Err None) rest None same refl)

    address_goes : (bytes rest : List ℕ) → IsLowerAddress bytes → (r : Read (List ℕ)) → Again (content (60 ∷ [])) (content_lawful []) bytes rest r → judged (size - length text) r ≡ Ok rest
    address_goes bytes rest is (Ok taken) back =
        ap (λ (b : Bool). cond b (Ok taken.1.rest) wrong_here) (ap is_lower back.0 ∙ lower_true bytes is (is_lower bytes) refl) ∙ ap (λ z. Ok z) back.1
    address_goes bytes rest is (Err stop) back = absurd back

    address_wrong : (bytes rest : List ℕ) → (IsLowerAddress bytes → ⊥) → (r : Read (List ℕ)) → Again (content (60 ∷ [])) (content_lawful []) bytes rest r → judged (size - length text) r ≡ wrong_here
    address_wrong bytes rest not (Ok taken) back =
        ap (λ (b : Bool). cond b (Ok taken.1.rest) wrong_here) (ap is_lower back.0 ∙ lower_false bytes not (is_lower bytes) refl)
    address_wrong bytes rest not (Err stop) back = absurd back

    address_faulty : (taken : List ℕ × _) (f : CertFault) → content_at (codes "<") (record { rest = text; farthest = text }) ≡ Ok taken → (b : Bool) → is_lower taken.0 ≡ b
        → cond b (Ok taken.1.rest) wrong_here ≡ Err (Some f) → (address_part size).IsWrong text f
    address_faulty taken f e true lower same = absurd (not_both (Ok taken.1.rest) taken.1.rest (Some f) refl same)
    address_faulty taken f e false lower same =
        let parts = read_parts (content (60 ∷ [])) (content_lawful []) text taken e in
        (taken.0, taken.1.rest, parts.0, parts.1, lower_no told taken.0 lower, same_fault wrong_here f (BadAddress (size - length text)) same refl)

    address_fault : (f : CertFault) (r : Read (List ℕ)) → content_at (codes "<") (record { rest = text; farthest = text }) ≡ r → judged (size - length text) r ≡ Err (Some f) → (address_part size).IsWrong text f
    address_fault f (Ok taken) e same = address_faulty taken f e (is_lower taken.0) refl same
    address_fault f (Err stop) e same = absurd (no_fault (Err None) f refl same)

    pub address_is : (taken : List ℕ × _) → content_at (codes "<") (record { rest = text; farthest = text }) ≡ Ok taken → IsLowerAddress taken.0 → (address_part size).look text ≡ Ok taken.1.rest
    address_is taken e is = ap (judged (size - length text)) e ∙ ap (λ (b : Bool). cond b (Ok taken.1.rest) wrong_here) (lower_true taken.0 is (is_lower taken.0) refl)

    pub address_isnt : (taken : List ℕ × _) → content_at (codes "<") (record { rest = text; farthest = text }) ≡ Ok taken → (IsLowerAddress taken.0 → ⊥) → (address_part size).look text ≡ Err (Some (BadAddress (size - length text)))
    address_isnt taken e not = ap (judged (size - length text)) e ∙ ap (λ (b : Bool). cond b (Ok taken.1.rest) wrong_here) (lower_false taken.0 not (is_lower taken.0) refl)

  address_told : (size : ℕ) → Told (address_part size)
  address_told size = record {
    ok = λ text rest e. address_ok size text rest (content_at (codes "<") (record { rest = text; farthest = text })) refl e;
    goes = λ text rest is.
        address_goes size text is.0 rest is.1 (content_at (codes "<") (record { rest = text; farthest = text }))
        (read_again (content (60 ∷ [])) (content_lawful []) text is.0 rest (printable_address is.0 is.1) is.2);
    fault = λ text f e. address_fault size text f (content_at (codes "<") (record { rest = text; farthest = text })) refl e;
    wrong = λ text f is.
        address_wrong size text is.0 is.1 is.4 (content_at (codes "<") (record { rest = text; farthest = text }))
        (read_again (content (60 ∷ [])) (content_lawful []) text is.0 is.1 is.2 is.3) ∙ ap (λ g. Err (Some g)) (sym is.5);
    kind = λ text f is. subst IsOfValue (sym is.5) tt;
  }

  line_told : (size : ℕ) (end_tag : List ℕ) → Told (line_part size end_tag)
  line_told size end_tag = turn_told (address_part size) (tag_part end_tag) (address_told size) (tag_told end_tag)

  module _ (stamps : (shown : Shown) → AnswersShown shown (stamp_in shown)) (one : (shown : Shown) (r : Result Instant DatePart) → AnswersShown shown r → stamp_in shown ≡ r) (size : ℕ) where
    abbrev date_at : List ℕ → Read Shown
    date_at text = shown_at (record { rest = text; farthest = text })

    date_right : (text rest : List ℕ) (taken : Shown × _) → date_at text ≡ Ok taken → (r : Result Instant DatePart) → stamp_in taken.0 ≡ r
        → ranged size (length text) taken.0 taken.1.rest r ≡ Ok rest → (date_part size).Goes text rest
    date_right text rest taken e (Ok stamp) is same =
        let parts = read_parts shown shown_lawful text taken e in (
          taken.0,
          stamp,
          parts.0,
          subst (λ r. AnswersShown taken.0 r) is (stamps taken.0),
          parts.1 ∙ ap (λ z. shown.spell taken.0 ++ z) (same_rest (Ok taken.1.rest) taken.1.rest rest refl same),
        )
    date_right text rest taken e (Err part) is same = absurd (not_both (Err (Some (BadDate (date_place size (length text) taken.0 part)))) rest (Some (BadDate (date_place size (length text) taken.0 part))) same refl)

    date_ok : (text rest : List ℕ) (r : Read Shown) → date_at text ≡ r → dated_so size (length text) r ≡ Ok rest → (date_part size).Goes text rest
    date_ok text rest (Ok taken) e same = date_right text rest taken e (stamp_in taken.0) refl same
    date_ok text rest (Err stop) e same = absurd (not_both (Err None) rest None same refl)

    date_goes : (text rest : List ℕ) (s : Shown) (stamp : Instant) → IsShown s stamp → (r : Read Shown) → Again shown shown_lawful s rest r → dated_so size (length text) r ≡ Ok rest
    date_goes text rest s stamp is (Ok taken) back =
        ap (λ (a : Result Instant DatePart). ranged size (length text) taken.0 taken.1.rest a) (ap stamp_in back.0 ∙ one s (Ok stamp) is) ∙ ap (λ z. Ok z) back.1
    date_goes text rest s stamp is (Err stop) back = absurd back

    date_wrong : (text rest : List ℕ) (s : Shown) (part : DatePart) → AnswersShown s (Err part) → (r : Read Shown) → Again shown shown_lawful s rest r
        → dated_so size (length text) r ≡ Err (Some (BadDate (date_place size (length text) s part)))
    date_wrong text rest s part is (Ok taken) back =
        ap (λ (a : Result Instant DatePart). ranged size (length text) taken.0 taken.1.rest a) (ap stamp_in back.0 ∙ one s (Err part) is)
        ∙ ap (λ (x : Shown). Err (Some (BadDate (date_place size (length text) x part)))) back.0
    date_wrong text rest s part is (Err stop) back = absurd back

    date_faulty : (text : List ℕ) (f : CertFault) (taken : Shown × _) → date_at text ≡ Ok taken → (r : Result Instant DatePart) → stamp_in taken.0 ≡ r
        → ranged size (length text) taken.0 taken.1.rest r ≡ Err (Some f) → (date_part size).IsWrong text f
    date_faulty text f taken e (Ok stamp) is same = absurd (not_both (Ok taken.1.rest) taken.1.rest (Some f) refl same)
    date_faulty text f taken e (Err part) is same =
        let parts = read_parts shown shown_lawful text taken e in (
          taken.0,
          part,
          taken.1.rest,
          parts.0,
          parts.1,
          subst (λ r. AnswersShown taken.0 r) is (stamps taken.0),
          same_fault (Err (Some (BadDate (date_place size (length text) taken.0 part)))) f (BadDate (date_place size (length text) taken.0 part)) same refl,
        )

    date_fault : (text : List ℕ) (f : CertFault) (r : Read Shown) → date_at text ≡ r → dated_so size (length text) r ≡ Err (Some f) → (date_part size).IsWrong text f
    date_fault text f (Ok taken) e same = date_faulty text f taken e (stamp_in taken.0) refl same
    date_fault text f (Err stop) e same = absurd (no_fault (Err None) f refl same)

    date_told : Told (date_part size)
    date_told = record {
      ok = λ text rest e. date_ok text rest (date_at text) refl e;
      goes = λ text rest is. date_goes text rest is.0 is.1 is.3 (date_at text) (read_again shown shown_lawful text is.0 rest is.2 is.4);
      fault = λ text f e. date_fault text f (date_at text) refl e;
      wrong = λ text f is.
          date_wrong text is.2 is.0 is.1 is.5 (date_at text) (read_again shown shown_lawful text is.0 is.2 is.3 is.4) ∙ ap (λ g. Err (Some g)) (sym is.6);
      kind = λ text f is. subst IsOfValue (sym is.6) tt;
    }

    sender_told : Told (sender_part size)
    unfolding sender_part
    sender_told =
        turn_told front_part (in_turn (tag_part (codes "<mittente>")) (line_part size (codes "/mittente>\r\n"))) (plain_told front front_lawful)
        (turn_told (tag_part (codes "<mittente>")) (line_part size (codes "/mittente>\r\n")) (tag_told (codes "<mittente>")) (line_told size (codes "/mittente>\r\n")))

    recipient_told : Told (recipient_part size)
    unfolding recipient_part
    recipient_told = turn_told opening_part (line_part size (codes "/destinatari>\r\n")) (plain_told opening opening_lawful) (line_told size (codes "/destinatari>\r\n"))

    heading_told : Told heading_part
    unfolding heading_part
    heading_told =
        turn_told (tagged_part (codes "<risposte>") (codes "</risposte>\r\n")) _ (tagged_told (codes "<risposte>") (codes "/risposte>\r\n"))
        (turn_told (absent_or (tagged_part (codes "<oggetto>") (codes "</oggetto>\r\n"))) _
        (absent_told (tagged_part (codes "<oggetto>") (codes "</oggetto>\r\n")) (tagged_told (codes "<oggetto>") (codes "/oggetto>\r\n")))
        (turn_told (tag_part (codes "</intestazione>\r\n<dati>\r\n")) (tagged_part (codes "<gestore-emittente>") (codes "</gestore-emittente>\r\n"))
        (tag_told (codes "</intestazione>\r\n<dati>\r\n")) (tagged_told (codes "<gestore-emittente>") (codes "/gestore-emittente>\r\n"))))

    names_told : Told names_part
    unfolding names_part
    names_told =
        turn_told (tagged_part (codes "<identificativo>") (codes "</identificativo>\r\n")) _ (tagged_told (codes "<identificativo>") (codes "/identificativo>\r\n"))
        (turn_told (absent_or (tagged_part (codes "<msgid>") (codes "</msgid>\r\n"))) (absent_or wish_part)
        (absent_told (tagged_part (codes "<msgid>") (codes "</msgid>\r\n")) (tagged_told (codes "<msgid>") (codes "/msgid>\r\n")))
        (absent_told wish_part (plain_told wish wish_lawful)))

    delivered_told : Told (delivered_part size)
    unfolding delivered_part
    delivered_told = turn_told (tag_part (codes "<consegna>")) (line_part size (codes "/consegna>\r\n")) (tag_told (codes "<consegna>")) (line_told size (codes "/consegna>\r\n"))

    received_told : Told (received_part size)
    unfolding received_part
    received_told = turn_told (tag_part (codes "<ricezione>")) (line_part size (codes "/ricezione>\r\n")) (tag_told (codes "<ricezione>")) (line_told size (codes "/ricezione>\r\n"))

    -- A line takes bytes.

    pub line_within : (end_tag text rest : List ℕ) → (line_part size end_tag).Goes text rest → length rest ≤ length text
    line_within end_tag text rest is =
        let here = is.1 in
        let there = is.2 in
        omega (arith, ap length here.2, length-append (flat_map escape here.0 ++ codes "<") is.0, ap length there.2, length-append end_tag rest)

    pub recipient_shorter : (text rest : List ℕ) → (recipient_part size).Goes text rest → length rest < length text
    unfolding recipient_part
    recipient_shorter text rest is =
        let here = is.1 in
        omega (arith, ap length here.2, length-append (class_word here.0 ++ codes "\">") is.0, line_within (codes "/destinatari>\r\n") is.0 rest is.2)

    pub received_shorter : (text rest : List ℕ) → (received_part size).Goes text rest → length rest < length text
    unfolding received_part
    received_shorter text rest is = let here = is.1 in omega (arith, ap length here.2, line_within (codes "/ricezione>\r\n") is.0 rest is.2)

    values_told : Told (values_part size)
    unfolding values_part
    values_told =
        turn_told (sender_part size) _ sender_told
        (turn_told (recipient_part size) _ recipient_told
        (turn_told (often (recipient_part size)) _ (often_told (recipient_part size) recipient_told recipient_shorter)
        (turn_told heading_part _ heading_told
        (turn_told (date_part size) _ date_told
        (turn_told names_part _ names_told
        (turn_told (absent_or (delivered_part size)) (often (received_part size)) (absent_told (delivered_part size) delivered_told)
        (often_told (received_part size) received_told received_shorter)))))))

  -- What is found in a text is its wrong value.
  module _ (stamps : (shown : Shown) → AnswersShown shown (stamp_in shown)) (one : (shown : Shown) (r : Result Instant DatePart) → AnswersShown shown r → stamp_in shown ≡ r) (text : List ℕ) where
    found_wrong : (f : CertFault) (l : Looked) → (values_part (length text)).look text ≡ l → found l ≡ Some f → (values_part (length text)).look text ≡ Err (Some f)
    found_wrong f (Ok rest) e some = let h : ⊥ = cc in absurd h
    found_wrong f (Err x) e some = e ∙ ap (λ (o : Option CertFault). Err o) some

    pub wrong_found : (f : CertFault) → wrong_in text ≡ Some f → IsWrongIn text f
    unfolding wrong_in
    wrong_found f some = (values_told stamps one (length text)).fault text f (found_wrong f ((values_part (length text)).look text) refl some)

    pub wrong_is_found : (f : CertFault) → IsWrongIn text f → wrong_in text ≡ Some f
    unfolding wrong_in
    wrong_is_found f is = ap found ((values_told stamps one (length text)).wrong text f is)

    pub wrong_kind : (f : CertFault) → IsWrongIn text f → IsOfValue f
    wrong_kind f is = (values_told stamps one (length text)).kind text f is

    pub recipient_less : (size : ℕ) (rest : List ℕ) → (recipient_part size).look text ≡ Ok rest → length rest < length text
    recipient_less size rest e = recipient_shorter stamps one size text rest ((recipient_told stamps one size).ok text rest e)

    pub received_less : (size : ℕ) (rest : List ℕ) → (received_part size).look text ≡ Ok rest → length rest < length text
    received_less size rest e = received_shorter stamps one size text rest ((received_told stamps one size).ok text rest e)
