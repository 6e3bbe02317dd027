-- The pads are those of the provider's key, or of an empty one.
use Rattle.std.proofs.Common.{List, ℕ, [], ◌<◌, ◌≤◌, length, get_or, ap, arith, subst, sym, ◌∙◌}
use Rattle.std.proofs.Math.Logic.{∥∥₁_elim}
use Rattle.std.proofs.Props.{props}
use Rattle.std.proofs.lemmas.Bool.{ltb-false}
use Rattle.std.proofs.lemmas.List.{get_or_past}
use Rattle.pec_seal.specs.Hmac.{hmac}
use Rattle.pec_seal.specs.Pads.{ArePads}
use Rattle.pec_seal.specs.declared.pads.Pads.{Pads}
use Rattle.pec_seal.proofs.hmac.HmacSealerSealer.tag.Goals as goal

pub returns-in-Some : goal.returns-in-Some
returns-in-Some c =
    let sealer = c.args.self.now in
    let pads = c.in-Some.pads.now in
    let same = c.deref.ensures.value in
    let found = c.in-Some.ensures.lookup in
    let within = subst (λ (items : List Pads). c.args.provider < length items) same (omega arith) in
    let at = found.1 ∙ ap (λ (items : List Pads). get_or items c.args.provider pads) same in
    ∥∥₁_elim sealer.ready (Prim.hlevel props) (λ all. c.tag.ensures (get_or sealer.keys.items c.args.provider [])
    (subst (ArePads (get_or sealer.keys.items c.args.provider [])) (sym at) (all.each c.args.provider pads within)))

pub returns-in-None : goal.returns-in-None
returns-in-None c =
    let sealer = c.args.self.now in
    let past = subst (λ (items : List Pads). length items ≤ c.args.provider) c.deref.ensures.value
    (ltb-false _ _ (sym c.in-None.ensures.lookup.0)) in
    ∥∥₁_elim sealer.ready (Prim.hlevel props) (λ all. c.tag-in-None.ensures [] c.of.ensures
    ∙ ap (λ (key : List ℕ). hmac key c.args.bytes.now)
    (sym (get_or_past sealer.keys.items c.args.provider [] (let e = all.count in omega (arith, past, e)))))
