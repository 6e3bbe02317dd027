-- No command makes a link longer than 64 frames.
use Rattle.std.proofs.Common.{ℕ, suc, ◌≤◌, List, [], ◌∷◌, inl, inr, length, take, ap, sym, subst, ◌∙◌, arith, Option, Some, None}
use Rattle.std.specs.Prelude.{slice_index_or, slice_set}
use Rattle.std.specs.List.{cons_option, filter_map}
use Rattle.std.proofs.lemmas.Bool.{cases_eq, cases_lt}
use Rattle.std.proofs.lemmas.List.{get_or-set_other, get_or-set_same, length-take, set_past}
use Rattle.pec_types.specs.Bytes.{Bytes}
use Rattle.pec_types.specs.declared.letters.Letter.{Letter}
use Rattle.pec_records.specs.declared.entries.Entry.{Entry}
use Rattle.pec_ledger.specs.Due.{due_letters, owed_letters}
use Rattle.pec_ledger.specs.Half.{Half}
use Rattle.pec_ledger.specs.Network.{Site, site_at}
use Rattle.pec_ledger.specs.Steps.{half}
use Rattle.pec_ledger.specs.Trade.{Trade}
use Rattle.pec_plays.specs.Commands.{with_frames, with_site}
use Rattle.pec_plays.specs.Frames.{due_frames, frame_of}
use Rattle.pec_plays.specs.Rounds.{link_size, with_waiting}
use Rattle.pec_plays.specs.Scripts.{LinksAreShort}
use Rattle.pec_plays.proofs.SiteLemmas.{put_cases}

-- one link's frames are replaced
other_frames : (links : List (List Bytes)) (from k : ℕ) (frames : List Bytes) → length frames ≤ link_size → length (slice_index_or links k []) ≤ link_size
    → length (slice_index_or (slice_set links from frames) k []) ≤ link_size
other_frames links from k frames good old =
    elim (cases_lt from (length links)) [
      | inl within ↦ elim (cases_eq k from) [
        | inl same ↦ let e = ap (λ (n : ℕ). length (slice_index_or (slice_set links from frames) n [])) same ∙ ap length (get_or-set_same links from frames [] within) in omega (arith, e)
        | inr other ↦ let e = ap length (get_or-set_other links from k frames [] other) in omega (arith, e)
      ]
      | inr past ↦ let e = ap (λ (l : List (List Bytes)). length (slice_index_or l k [])) (set_past links from frames past) in omega (arith, e)
    ]

-- a site with short links in another's place
pub short_with : (sites : List Site) (p : ℕ) (site : Site) → LinksAreShort sites → ((from : ℕ) → length (slice_index_or site.waiting from []) ≤ link_size)
    → LinksAreShort (with_site sites p site)
short_with sites p site short good from to =
    elim (put_cases sites p to site) [
      | inl same ↦ subst (λ (s : Site). length (slice_index_or s.waiting from []) ≤ link_size) (sym same.1) (good from)
      | inr unchanged ↦ subst (λ (s : Site). length (slice_index_or s.waiting from []) ≤ link_size) (sym unchanged) (short from to)
    ]

pub short_frames : (sites : List Site) (from to : ℕ) (frames : List Bytes) → LinksAreShort sites → length frames ≤ link_size
    → LinksAreShort (with_frames sites from to frames)
short_frames sites from to frames short good =
    short_with sites to (with_waiting (site_at sites to) (slice_set (site_at sites to).waiting from frames)) short
    (λ k. other_frames (site_at sites to).waiting from k frames good (short k to))

one_at_most : {Y : Type 0} (o : Option Y) (ys : List Y) (n : ℕ) → length ys ≤ n → length (cons_option o ys) ≤ suc n
one_at_most None ys n l = omega arith
one_at_most (Some y) ys n l = omega arith

fewer : {X Y : Type 0} (f : X → Option Y) (xs : List X) → length (filter_map f xs) ≤ length xs
fewer f [] = omega arith
fewer f (x ∷ xs) = one_at_most (f x) (filter_map f xs) (length xs) (fewer f xs)

pub letters_fit : (trade : Trade) (p : ℕ) (h : Half) (to room : ℕ) (owed : List Letter) → length (due_letters trade p h to room owed) ≤ room
unfolding due_letters
letters_fit trade p h to room owed = let cut = length-take room (owed_letters trade p h to owed) in omega (arith, cut)

pub due_fit : (trade : Trade) (p : ℕ) (es : List Entry) (to room : ℕ) (owed : List Letter) → length (due_frames trade p es to room owed) ≤ room
unfolding due_frames due_letters
due_fit trade p es to room owed =
    let all = owed_letters trade p (half trade p es) to owed
    in let few = fewer (frame_of trade p es) (take room all)
    in let cut = length-take room all
    in omega (arith, few, cut)
