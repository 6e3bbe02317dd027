-- With a sender and a list in `To`, the rows from ForwardPath on are left.
use Rattle.std.proofs.Common.{◌≡◌, true, false, Option, Some, codes, ap, sym, ◌∙◌, rules, tests}
use Rattle.std.specs.Option.{option_map}
use Rattle.std.specs.Str.{bytes_eq}
use Rattle.pec_types.specs.Bytes.{Bytes, Path}
use Rattle.pec_heads.specs.FactsReading.{listed, sender_of}
use Rattle.pec_points.specs.Admission.{Fields}
use Rattle.pec_points.specs.Case.{Case}
use Rattle.pec_points.proofs.AdmissionLemmas.{with_facts, with_no_facts}
use Rattle.pec_points.proofs.admission.admit_head.Goals as goal

listed_so : {V : Type 0} (items : V → Path) (name : Bytes) (head : Fields) (found : Option V) (list : V)
    → option_map items found ≡ listed name head → name ≡ codes "To" → found ≡ Some list → listed (codes "To") head ≡ Some (items list)
listed_so {V} items name head found list l n f = ap (λ (bytes : Bytes). listed bytes head) (sym n) ∙ (sym l ∙ ap (λ (o : Option V). option_map items o) f)

pub returns : goal.returns
returns c =
    let case : Case = record { limit = c.args.limit; sender = c.args.sender.now; path = c.args.path.now; message = c.args.message.now; found = false } in
    let from : sender_of c.args.head.now ≡ Some c.in-Some.from = cc (c.in_ok-from.ensures) in
    let same : bytes_eq c.in-Some.from c.args.sender.now ≡ true = search (rules, tests) in
    c.in_ok-admission.ensures
    ∙ with_facts case c.args.head.now c.in-Some.from c.in-Some-2.field-0.items c.in-Some-3.facts from
    (listed_so _ _ _ _ _ c.in_ok-list.ensures c.as_slice.ensures c.in-Some-2.is) same (sym c.in_ok-facts.ensures.exact ∙ c.in-Some-3.is)

pub returns-in_default-3 : goal.returns-in_default-3
returns-in_default-3 c =
    let case : Case = record { limit = c.args.limit; sender = c.args.sender.now; path = c.args.path.now; message = c.args.message.now; found = false } in
    let from : sender_of c.args.head.now ≡ Some c.in-Some.from = cc (c.in_ok-from.ensures) in
    let same : bytes_eq c.in-Some.from c.args.sender.now ≡ true = search (rules, tests) in
    with_no_facts case c.args.head.now c.in-Some.from c.in-Some-2.field-0.items from
    (listed_so _ _ _ _ _ c.in_ok-list.ensures c.as_slice.ensures c.in-Some-2.is) same (sym c.in_ok-facts.ensures.exact ∙ c.in_default-3.is)
