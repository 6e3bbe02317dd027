-- What is put and taken on links side by side: plans, schedules of a plan, which are its puts and takes in any order
-- (`IsSchedule`), and what steps one after another leave on each link (`ran`). That every schedule of a plan leaves the
-- same is `AnyOrderEndsSo`, at the end. This project's profile.
use Rattle.std.specs.Prelude.{◌≡◌, ℕ, suc, ◌+◌, ◌≤◌, nat_lt, Bool, ◌&&◌, ◌==◌, List, [], ◌∷◌, ◌++◌, length, take, drop, Option, Some, None, if◌then◌else◌}
use Rattle.std.specs.Option.{option_and_then, option_map}
use Rattle.pec_types.specs.Bytes.{Bytes}
use Rattle.pec_plays.specs.Rounds.{link_size}

-- ---- plans

-- A link: the number of the provider that puts frames on it, and that of the one that takes them.
abbrev pub Link : Type 0
Link = ℕ × ℕ

-- they are the same link
abbrev pub same_link : Link → Link → Bool
same_link a b = (a.0 == b.0) && (a.1 == b.1)

-- What is to be done on one link, on which these frames wait, oldest first: how many takes, and the frames to be put.
pub record Planned : Type 0 where
  pub waiting : List Bytes
  pub takes : ℕ
  pub puts : List Bytes

-- It takes no more than wait, and what waits and what is put has room on the link.
pub record IsPlanned (planned : Planned) : Type 0 where
  pub takes : planned.takes ≤ length planned.waiting
  pub room : length planned.waiting + length planned.puts ≤ link_size

-- What is to be done on each link.
abbrev pub Plan : Type 0
Plan = Link → Planned

-- No link of it asks for more than it has.
abbrev pub IsPlan : Plan → Type 0
IsPlan plan = (link : Link) → IsPlanned (plan link)

-- ---- schedules

-- One step: the next planned frame of a link is put on it, or the first frame on it is taken.
pub data Step : Type 0 where
  Put : (link : Link) → Step
  Take : (link : Link) → Step

-- how many of these steps put a frame on a link
abbrev pub puts_on : Link → List Step → ℕ
puts_on link [] = 0
puts_on link (Put at ∷ steps) = if same_link at link then suc (puts_on link steps) else puts_on link steps
puts_on link (Take at ∷ steps) = puts_on link steps

-- how many of them take one from it
abbrev pub takes_on : Link → List Step → ℕ
takes_on link [] = 0
takes_on link (Put at ∷ steps) = takes_on link steps
takes_on link (Take at ∷ steps) = if same_link at link then suc (takes_on link steps) else takes_on link steps

-- On each link these steps have as many puts and takes as the plan says. In which order they stand is free.
pub record IsSchedule (plan : Plan) (steps : List Step) : Type 0 where
  pub puts : (link : Link) → puts_on link steps ≡ length (plan link).puts
  pub takes : (link : Link) → takes_on link steps ≡ (plan link).takes

-- ---- what steps do

-- A link on the way: the frames on it, those that are still to be put, and those that were taken, each oldest first.
pub record Line : Type 0 where
  pub frames : List Bytes
  pub left : List Bytes
  pub taken : List Bytes

-- the next of these frames is put behind those on the link; none is left to be put
abbrev pub next_put : Line → List Bytes → Option Line
next_put line [] = None
next_put line (frame ∷ left) = Some (record { frames = line.frames ++ frame ∷ []; left = left; taken = line.taken })

-- A link behind a put. It finds the link full where 64 frames are on it.
abbrev pub put_on : Line → Option Line
put_on line = if nat_lt (length line.frames) link_size then next_put line line.left else None

-- the first of the frames on a link is taken; there is none
abbrev pub first_taken : Line → List Bytes → Option Line
first_taken line [] = None
first_taken line (frame ∷ frames) = Some (record { frames = frames; left = line.left; taken = line.taken ++ frame ∷ [] })

-- A link behind a take. It finds the link empty where no frame is on it.
abbrev pub take_on : Line → Option Line
take_on line = first_taken line line.frames

-- All links on the way.
abbrev pub Lines : Type 0
Lines = Link → Line

-- one of them has changed
abbrev pub with_line : Lines → Link → Line → Lines
with_line lines at line link = if same_link at link then line else lines link

-- The links behind one step.
abbrev pub stepped : Step → Lines → Option Lines
stepped (Put at) lines = option_map (with_line lines at) (put_on (lines at))
stepped (Take at) lines = option_map (with_line lines at) (take_on (lines at))

-- The links behind these steps; none where a put finds its link full, or a take its link empty.
abbrev pub ran : List Step → Lines → Option Lines
ran [] lines = Some lines
ran (step ∷ steps) lines = option_and_then (ran steps) (stepped step lines)

-- The links as a plan begins: all frames wait, and nothing is taken.
abbrev pub begun : Plan → Lines
begun plan link = record { frames = (plan link).waiting; left = (plan link).puts; taken = [] }

-- A link as its plan ends: its first waiting frames are taken, in order, and the planned frames are behind the others.
abbrev pub ended : Planned → Line
ended planned = record {
  frames = drop planned.takes planned.waiting ++ planned.puts;
  left = [];
  taken = take planned.takes planned.waiting;
}

-- ---- the claim

-- These steps are done, and no put finds a full link and no take an empty one; then each link is as its plan ends.
pub record EndsSo (plan : Plan) (steps : List Step) : Type 0 where
  pub after : Lines
  pub runs : ran steps (begun plan) ≡ Some after
  pub each : (link : Link) → after link ≡ ended (plan link)

-- So does every schedule of a plan, in whatever order its steps are.
abbrev pub AnyOrderEndsSo : Type 0
AnyOrderEndsSo = (plan : Plan) (steps : List Step) → IsPlan plan → IsSchedule plan steps → EndsSo plan steps
