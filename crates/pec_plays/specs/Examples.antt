-- Worked scripts in the small world of the ledger, with their lucks: what they answer. The provider 0 is alfa, with
-- alice (0) and anna (1); the provider 1 is beta, with bob (1).
use Rattle.std.specs.Prelude.{ℕ, zero, suc, false, true, List, [], ◌∷◌, ◌++◌, length, Option, None, Some}
use Rattle.pec_types.specs.Bytes.{Bytes}
use Rattle.pec_types.specs.declared.turns.Event.{Event}
use Rattle.pec_types.specs.declared.turns.ProviderFault.{ProviderFault}
use Rattle.pec_types.specs.declared.turns.ProviderFault.TheVariants as faults
use Rattle.pec_types.specs.declared.turns.Turn.{Turn}
use Rattle.pec_ledger.specs.Examples.{alice, anna, bob, morning, to_one}
use Rattle.pec_ledger.specs.Half.{Half}
use Rattle.pec_ledger.specs.Network.{Site, at_start, journal_at}
use Rattle.pec_ledger.specs.SmallWorld.{small}
use Rattle.pec_ledger.specs.Steps.{half}
use Rattle.pec_plays.specs.Commands.{Answer, Archive, Book, Command, Inject, Luck, Mailbox, Restart, Round, Screen, Show, Submit, Swap, Turns, Upgrade, Vault}
use Rattle.pec_plays.specs.Scripts.{script}
use Rattle.pec_plays.specs.Turns.{Cut, Fails, Unread, Whole}

-- no provider has a screen
abbrev pub no_screens : ℕ → List (List Bytes)
no_screens provider = []

-- beta has one screen, which finds its one pattern in each message
abbrev pub beta_looks : ℕ → List (List Bytes)
beta_looks zero = []
beta_looks (suc provider) = ([] ∷ []) ∷ []

-- no device fails
abbrev pub calm : Luck
calm = record { cuts = λ provider. Whole; fails = false; found = false; read = None; shown = None }

-- in a round the append of a step of alfa fails
abbrev pub cut_at : ℕ → ℕ → Cut
cut_at number zero = Fails number faults.DiskFault
cut_at number (suc provider) = Whole

-- the luck of such a round, by the number of the step, from 0
abbrev pub failing : ℕ → Luck
failing number = record { cuts = cut_at number; fails = false; found = false; read = None; shown = None }

-- a restart finds the interrupted entry
abbrev pub finding : Luck
finding = record { cuts = λ provider. Whole; fails = false; found = true; read = None; shown = None }

-- what alice writes, to this address
abbrev pub writes_to : Bytes → Command
writes_to recipient = Submit 0 morning alice (recipient ∷ []) (to_one recipient)

-- a provider's turn as it is told: what came of frames and pairs, how many frames it put for whom, why it ended early
abbrev pub turn_of : ℕ → List Event → List (ℕ × ℕ) → Option ProviderFault → Turn
turn_of provider events sent ended = record { provider = provider; events = events; sent = sent; ended = ended }

-- a turn in which nothing came and nothing was put
abbrev pub idle : ℕ → Turn
idle provider = turn_of provider [] [] None

-- a round in which alfa alone did something
abbrev pub alfa_turn : List Event → List (ℕ × ℕ) → Answer
alfa_turn events sent = Turns (turn_of 0 events sent None ∷ idle 1 ∷ [])

-- ---- one provider, to the end

-- alice writes to anna; five rounds follow, a second apart; then her book and both mailboxes are shown
abbrev pub to_the_end : List Command
to_the_end =
    writes_to anna ∷ Round 1704186001 ∷ Round 1704186002 ∷ Round 1704186003 ∷ Round 1704186004 ∷ Round 1704186005
    ∷ Book alice ∷ Mailbox alice ∷ Mailbox anna ∷ []

-- ---- two providers, and two letters that change places

-- alice writes to bob; the receipts of taking charge and of delivery change places on the link from beta to alfa
abbrev pub out_of_order : List Command
out_of_order = writes_to bob ∷ Round 1704186001 ∷ Round 1704186002 ∷ Swap 1 0 0 ∷ Round 1704186003 ∷ Round 1704186004 ∷ []

-- ---- a place behind the last frame

-- the second of these two frames is to change places with a third
abbrev pub no_such_place : List Command
no_such_place = writes_to bob ∷ Round 1704186001 ∷ Round 1704186002 ∷ Swap 1 0 1 ∷ []

-- ---- a message for bob that no provider sealed, and bytes that are no frame

-- that message, in a frame with bob in its path
abbrev pub unsealed : Bytes
unsealed = 1 ∷ length bob ∷ bob ++ 9 ∷ []

-- both come on the link from alfa to beta; a round follows, and bob's mailbox is shown
abbrev pub from_outside : List Command
from_outside = Inject 0 1 unsealed ∷ Inject 0 1 [] ∷ Round 1704186001 ∷ Mailbox bob ∷ []

-- ---- the append of a decision fails, and alfa is restarted

-- alice writes to anna; after two rounds a book is asked for, and alfa is restarted twice
abbrev pub with_a_fault : List Command
with_a_fault = writes_to anna ∷ Round 1704186001 ∷ Round 1704186002 ∷ Book alice ∷ Restart 0 ∷ Restart 0 ∷ []

-- ---- the read of an item fails

-- alice writes to anna; behind two rounds anna is shown the envelope in her mailbox, and a book is asked for
abbrev pub with_a_look : List Command
with_a_look = writes_to anna ∷ Round 1704186001 ∷ Round 1704186002 ∷ Show anna 0 ∷ Book alice ∷ Restart 0 ∷ []

-- the read of an item that is to be shown fails
abbrev pub unread : Luck
unread = record { cuts = λ provider. Whole; fails = false; found = false; read = Some faults.DiskFault; shown = None }

-- ---- the read of an envelope fails before a decision

-- in a round it is read for the step of alfa of a number
abbrev pub unread_at : ℕ → ℕ → Cut
unread_at number zero = Unread number faults.DiskFault
unread_at number (suc provider) = Whole

-- the luck of such a round, by the number of the step, from 0
abbrev pub looking_fails : ℕ → Luck
looking_fails number = record { cuts = unread_at number; fails = false; found = false; read = None; shown = None }

-- ---- an item is archived

-- alice writes to anna, whose item is archived after two rounds, and no item is left for another; alfa's journal is of
-- version 2 from its start
abbrev pub put_away : List Command
put_away =
    writes_to anna ∷ Round 1704186001 ∷ Round 1704186002 ∷ Archive anna 1704186002 0 ∷ Mailbox anna ∷ Vault anna
    ∷ Archive anna 1704186002 0 ∷ Upgrade 0 1704186002 ∷ []

-- ---- a virus at the incoming point

-- alice writes to bob, whose provider finds a virus; both mailboxes are shown, and then another screen is put in the
-- place of that one: there is one spare, and no place 1
abbrev pub unwelcome : List Command
unwelcome =
    writes_to bob ∷ Round 1704186001 ∷ Round 1704186002 ∷ Round 1704186003 ∷ Mailbox alice ∷ Mailbox bob
    ∷ Screen 1 1 (Some ((9 ∷ []) ∷ [])) ∷ Screen 1 0 (Some ((9 ∷ []) ∷ [])) ∷ Screen 1 0 None ∷ []

-- a luck for each command of a script, with which no device fails
abbrev pub calmly : List Command → List Luck
calmly [] = []
calmly (command ∷ commands) = calm ∷ calmly commands

-- the state behind a script without faults
abbrev pub left_by : List Command → List Site
left_by commands = (script small (calmly commands) (at_start small no_screens) commands).after

-- alfa's half then
abbrev pub alfa_behind : List Command → Half
alfa_behind commands = half small 0 (journal_at (left_by commands) 0)

-- a message that was taken and decided, and of which nothing was heard
abbrev pub halfway : List Command
halfway = writes_to anna ∷ Round 1704186001 ∷ Round 1704186002 ∷ []

-- what a script answers from the start, with these lucks
abbrev pub answers_of : List Luck → List Command → List Answer
answers_of lucks commands = (script small lucks (at_start small no_screens) commands).answers

-- the same without faults, where providers have these screens
abbrev pub answers_where : (ℕ → List (List Bytes)) → List Command → List Answer
answers_where screens commands = (script small (calmly commands) (at_start small screens) commands).answers
