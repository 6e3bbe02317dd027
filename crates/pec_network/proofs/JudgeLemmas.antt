-- The judges of providers, by number: what is had by each, and what a submission leaves of them.
use Rattle.std.proofs.Common.{◌≡◌, ℕ, suc, ◌-◌, ◌<◌, List, [], ◌∷◌, ◌++◌, length, map, drop, get_or, set, refl, ap, sym, subst}
use Rattle.std.proofs.Common.{◌∙◌, append_assoc, arith}
use Rattle.std.specs.Prelude.{Option, Result, slice_get}
use Rattle.std.proofs.Math.Seq.{map-set_same}
use Rattle.std.proofs.lemmas.List.{append-nil, get_or-map, get_or-set_same, length-map, map-append, map-set}
use Rattle.pec_types.specs.declared.turns.ProviderFault.{ProviderFault}
use Rattle.pec_points.specs.Case.{Case}
use Rattle.pec_provider.specs.Looking.{Looks}
use Rattle.pec_screen.specs.Perhaps.{all_of}
use Rattle.pec_screen.specs.declared.perhaps.Perhaps.{Perhaps}
use Rattle.pec_network.specs.Judging.{lists_of}
use Rattle.pec_network.specs.Looking.{OnlyLooks}
use Rattle.pec_network.specs.Network.{behind_first, first_of, of_first}

module _ {J X : Type 0} (had : J → List X) (judges : List (Perhaps J)) (number : ℕ) (old new : Perhaps J)
    (within : number < length judges) (here : old ≡ get_or judges number old) where
  -- what one has stands at its number
  pub list_at : get_or (lists_of had judges) number [] ≡ all_of had old.judge
  list_at =
      get_or-map (λ (p : Perhaps J). all_of had p.judge) judges number old [] within
      ∙ ap (λ (p : Perhaps J). all_of had p.judge) (sym here)

  -- another one in its place
  pub lists_set : lists_of had (set judges number new) ≡ set (lists_of had judges) number (all_of had new.judge)
  lists_set = map-set (λ (p : Perhaps J). all_of had p.judge) judges number new

  -- and one that has the same
  pub lists_same : all_of had new.judge ≡ all_of had old.judge → lists_of had (set judges number new) ≡ lists_of had judges
  lists_same same =
      map-set_same (λ (p : Perhaps J). all_of had p.judge) judges number new old
      (same ∙ ap (λ (p : Perhaps J). all_of had p.judge) here)

module _ {J X : Type 0} (seen : J → List ℕ) (judges : List (Perhaps J)) (number : ℕ) (old new : Perhaps J)
    (within : number < length judges) (here : old ≡ get_or judges number old) (case : Case)
    (result : Result X ProviderFault) where
  -- the screens of one looked so, and no others
  pub only_looks : Looks case (all_of seen old.judge) (all_of seen new.judge) result
      → OnlyLooks number case (lists_of seen judges) (lists_of seen (set judges number new)) result
  only_looks looks =
      let before = lists_of seen judges in
      let after = lists_of seen (set judges number new) in
      let inside : number < length before =
      (let many = length-map judges (λ (p : Perhaps J). all_of seen p.judge) in omega (arith, many, within)) in
      let was = list_at seen judges number old new within here in
      let put = lists_set seen judges number old new within here in
      let is : get_or after number [] ≡ all_of seen new.judge =
      ap (λ (all : List (List ℕ)). get_or all number []) put
      ∙ get_or-set_same before number (all_of seen new.judge) [] inside in
      record {
        own = subst (λ (w : List ℕ). Looks case w (get_or after number []) result) (sym was)
            (subst (λ (n : List ℕ). Looks case (all_of seen old.judge) n result) (sym is) looks);
        others = put ∙ ap (λ (counts : List ℕ). set before number counts) (sym is);
      }

-- ---- one for each provider

module _ {J X : Type 0} (had : J → List X) where
  first_had : (judges : List J) → first_of (map had judges) ≡ all_of had (slice_get judges 0)
  first_had [] = refl
  first_had (judge ∷ judges) = refl

  behind_had : (judges : List J) → behind_first (map had judges) ≡ map had (drop 1 judges)
  behind_had [] = refl
  behind_had (judge ∷ judges) = refl

  -- none yet
  pub first_each : (each : List (Perhaps J)) (judges : List J) (count : ℕ) → each ≡ []
      → lists_of had each ++ of_first (count - 0) (map had judges) ≡ of_first count (map had judges)
  first_each each judges count none =
      let all : count - 0 ≡ count = omega arith in
      rw (none, all) refl

  -- one more
  pub each_more : (each later : List (Perhaps J)) (judges left : List J) (judge : Option J) (one : Perhaps J)
      (count less : ℕ) (all : List (List X)) → count ≡ suc less → judge ≡ slice_get judges 0 → left ≡ drop 1 judges
      → all_of had one.judge ≡ all_of had judge → later ≡ each ++ one ∷ []
      → lists_of had each ++ of_first count (map had judges) ≡ all
      → lists_of had later ++ of_first less (map had left) ≡ all
  each_more each later judges left judge one count less all next first rest is pushed so_far =
      let lists = map had judges in
      let head : all_of had one.judge ≡ first_of lists =
      is ∙ ap (λ (o : Option J). all_of had o) first ∙ sym (first_had judges) in
      let tail : of_first less (map had left) ≡ of_first less (behind_first lists) =
      ap (λ (l : List J). of_first less (map had l)) rest
      ∙ ap (λ (l : List (List X)). of_first less l) (sym (behind_had judges)) in
      ap (λ (l : List (Perhaps J)). lists_of had l ++ of_first less (map had left)) pushed
      ∙ ap (λ (l : List (List X)). l ++ of_first less (map had left))
      (map-append (λ (p : Perhaps J). all_of had p.judge) each (one ∷ []))
      ∙ append_assoc (lists_of had each) (all_of had one.judge ∷ []) (of_first less (map had left))
      ∙ ap (λ (x : List X). lists_of had each ++ x ∷ of_first less (map had left)) head
      ∙ ap (λ (l : List (List X)). lists_of had each ++ first_of lists ∷ l) tail
      ∙ ap (λ (n : ℕ). lists_of had each ++ of_first n lists) (sym next)
      ∙ so_far

  -- all
  pub each_done : (each : List (Perhaps J)) (judges : List J) (left : ℕ) (all : List (List X)) → left ≡ 0
      → lists_of had each ++ of_first left (map had judges) ≡ all → lists_of had each ≡ all
  each_done each judges left all none so_far =
      sym (append-nil (lists_of had each))
      ∙ ap (λ (n : ℕ). lists_of had each ++ of_first n (map had judges)) (sym none) ∙ so_far
