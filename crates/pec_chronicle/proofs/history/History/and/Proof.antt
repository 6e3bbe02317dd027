-- `and` makes the empty struct, with the items that its clause names. Assumes `Logic`.
use Rattle.std.proofs.Common.{List, [], ◌∷◌, ◌++◌, refl}
use mir.Val.{Val, vptr}
use base.Logic.{SProp}
use prog.Wp.{WpFn}
use contract.Running.{tables}
use types.Kit.{‵, raw, ◌⊛◌, prop, ◌$◌, ◌∵◌, !, qed, move, keep, drop, split, fsplit, fjoin, feq_l, regoal, suffices, done}
use types.Part.{agg}
use types.Run.{enter, returns, no_more}
use types.ByLocal.{alloc_all, pass_all, free_all, look_at, sets}
use denote.Exit.{yes}
use denote.RattleType.{owns}
use denote.Builtin.{RefOf}
use denote.Signature.{plain, types_at}
use denote.Steps.{nothing}
use denote.Triple.Entry.{alive}
use denote.Triple.Walked.{says, Stays, stay_dropped, walk_of, ends_at, Goes-dropped}
use Rattle.std.proofs.raw_atomic.Walks.{proved_at}
use Rattle.pec_chronicle.proofs.NoFields.{none, none_made}
use Rattle.pec_chronicle.specs.contracts.encoded.Encoded as Encoded
use Rattle.pec_chronicle.specs.contracts.history.History as History
use Rattle.pec_chronicle.specs.contracts.history.History.and.{ended, clauses}
use Rattle.pec_chronicle.specs.contracts.history.History.and.Key.{name as #self}
use Rattle.pec_chronicle.proofs.history.History.and.Statement.{statement}
use Rattle.pec_chronicle.proofs.history.History.and.Code as code

pub and_spec : {M : Type 1} → statement M
and_spec 𝓤 𝓛 𝓜 𝓡 wired =
    let held = clauses 𝓛 𝓜.mem 𝓡.returns in
    let 𝓣 = tables 𝓤 𝓛.H 𝓜 𝓡 𝓡.env in
    let mine = RefOf (0 ∷ []) tt (plain (λ _. History.the_row)) (λ _. tt) in
    let other = RefOf (1 ∷ []) tt (plain (λ _. Encoded.the_row)) (λ _. tt) in
    let stayed : Stays ended.signature.params ended.kept = (stay_dropped mine yes, (stay_dropped other yes, tt)) in
    proved_at 𝓛 ended stayed held 𝓜 𝓡 (Goes-dropped 𝓛 2 mine yes (λ κs x f. refl), (Goes-dropped 𝓛 2 other yes (λ κs x f. refl), tt)) #self code.function
    (code.unfolded 𝓤 𝓛.H 𝓜 𝓡 wired) (λ z are.
    let Post : Val → SProp 𝓤 = (walk_of 𝓛 ended stayed held).post z in
    let a = z.0.3 in
    let vss = z.0.4 in
    let made : (History.the_row).Denot = record { items = a.0.now.items ++ a.1.0.now ∷ [] } in
    qed 𝓛 ((raw (alive 𝓛 ended.signature z.0.0 z.0.1) ⊛ ‵ (owns (types_at ended.signature.params z.0.0) a vss)) ∷ raw ((held z.0.0 a).requires z.1) ∷ []) ∵
    keep ! (0 ∷ []) $ split ! $ move ! (1 ∷ []) $
    fsplit ! $ fsplit ! $ feq_l ! (λ is₀. drop ! $ fsplit ! $ fsplit ! $ feq_l ! (λ is₁. drop ! $ drop ! $
    let p = vptr a.0.ref_ptr.0 a.0.ref_ptr.1 in
    let q = vptr a.1.0.ref_ptr.0 a.1.0.ref_ptr.1 in
    regoal ! (λ (us : List Val). prop (WpFn 𝓤 𝓛.H 𝓣.C 𝓣.Λ code.function (us ++ (vss.1.0 ++ [])) Post)) is₀ refl $
    regoal ! (λ (us : List Val). prop (WpFn 𝓤 𝓛.H 𝓣.C 𝓣.Λ code.function ((p ∷ []) ++ (us ++ [])) Post)) is₁ refl $
    enter ! 𝓣.C 𝓣.Λ code.function (p ∷ q ∷ []) Post $ alloc_all ! (λ l. pass_all ! refl ((tt, tt), ((tt, tt), tt)) $
    sets ! (agg ! (no_more !)) refl (tt, tt) $
    nothing ! $ none_made ! $ fjoin ! $
    returns ! (look_at ! 0 refl) $ free_all ! refl $
    suffices ! _ (ends_at 𝓛 ended stayed held z none made (tt, (tt, tt)) (tt, (tt, tt))) $ says ! refl $
    nothing ! $ nothing ! $ fjoin ! $ nothing ! $ fjoin ! $ move ! (2 ∷ 0 ∷ 1 ∷ []) $ done !))))
