-- What a line says can be played.
use Rattle.std.proofs.Common.{◌≡◌, ℕ, ◌+◌, ◌*◌, ◌/◌, ◌<◌, ◌≤◌, inl, inr, List, [], ◌∷◌, Bool, true, false, length, refl}
use Rattle.std.proofs.Common.{ap, sym, subst, ◌∙◌, arith, cond, get_or, Option, Some, None, Ok, Err}
use Rattle.std.specs.List.{AllByRecursion, join_with_byte, position_from}
use Rattle.std.specs.Str.{bytes_eq}
use Rattle.std.proofs.lemmas.Bool.{cases_lt}
use Rattle.std.proofs.lemmas.List.{length-append, length-map, length-take, nil_from_length}
use Rattle.base64.proofs.Decoding.{length-groups_bytes}
use Rattle.base64.specs.Decode.{decode_group, decode_outcome, decoded_bytes, groups_before_last, groups_bytes}
use Rattle.base64.specs.Decode.{scan_bytes, scan_last, scan_steps, suffix_bytes}
use Rattle.base64.specs.Engines.{standard}
use Rattle.base64.specs.GeneralPurpose.{decode_of}
use Rattle.base64.specs.declared.decode.DecodeError.{DecodeError}
use Rattle.pec_types.specs.Address.{lowered}
use Rattle.pec_types.specs.Answers.{TellsExactly}
use Rattle.pec_types.specs.Bytes.{Bytes, Path, space}
use Rattle.pec_directory.specs.Directory.{Kept, Provider, named, providers_of}
use Rattle.pec_records.specs.Entry.{longest_message, most_addresses}
use Rattle.pec_words.specs.Paths.{IsPath}
use Rattle.pec_script.specs.Forms.{Said, form_of, kinds_of, made}
use Rattle.pec_script.specs.Lines.{AllSay, IsCommand, IsLineFault}
use Rattle.pec_script.specs.LinesReading.{command_of}
use Rattle.pec_script.specs.declared.commands.Command.{Command as Written}
use Rattle.pec_script.specs.declared.verbs.Verb.{Verb}
use Rattle.pec_script.specs.declared.verbs.Verb.TheVariants as verbs
use Rattle.pec_runs.specs.ScriptLines.{longest_line}
use Rattle.pec_playing.specs.Playing.{CanPlay}

-- ---- bytes in base64

length_scanned : (table : List ℕ) (pad at : ℕ) (text : Bytes) → length (suffix_bytes table pad at text) ≤ 3
length_scanned table pad at text = elim (scan_last table pad at text) as (λ r. length (scan_bytes r) ≤ 3) [
  | Ok st ↦
      omega (
        arith,
        length-take (st.morsels_count * 6 / 8) (decode_group (get_or st.morsels 0 0) (get_or st.morsels 1 0)
            (get_or st.morsels 2 0) (get_or st.morsels 3 0)),
      )
  | Err e ↦ omega arith
]

length_of_nothing : (table : List ℕ) (pad : ℕ) → length (decoded_bytes table pad []) ≡ 0
unfolding groups_bytes scan_steps
length_of_nothing table pad = refl

-- three bytes at most from each four
length_decoded : (table : List ℕ) (pad : ℕ) (text : Bytes) → length (decoded_bytes table pad text) ≤
    (length text + 3) / 4 * 3
length_decoded table pad text = elim (cases_lt 0 (length text)) [
  | inl some ↦
      let groups : ℕ = groups_before_last (length text) in
      omega (
        arith,
        length-append (groups_bytes table text groups) (suffix_bytes table pad (4 * groups) text),
        length-groups_bytes table text groups,
        length_scanned table pad (4 * groups) text,
      )
  | inr none ↦
      let e : text ≡ [] = nil_from_length text (omega arith) in
      rw e (omega (arith, length_of_nothing table pad))
]

outcome_is : (fault : Option DecodeError) (bytes told : Bytes) → decode_outcome fault bytes ≡ Ok told → bytes ≡ told
outcome_is None bytes told e = cc
outcome_is (Some fault) bytes told e = absurd cc

message_bound : (text message : Bytes) → decode_of standard text ≡ Ok message → length text ≤ longest_line
    → length message ≤ longest_message
message_bound text message is short =
    let same : decoded_bytes standard.decode_table standard.padding.value text ≡ message = outcome_is _ _ message is in
    omega (
      arith,
      length_decoded standard.decode_table standard.padding.value text,
      ap (λ (l : Bytes). length l) same,
      short,
    )

-- ---- the parts of a line

-- no part is longer than the whole
all_short : (separator : ℕ) (parts : List Bytes) (bound : ℕ) → length (join_with_byte separator parts) ≤ bound
    → AllByRecursion (λ (part : Bytes). length part ≤ bound) parts
all_short separator [] bound short = tt
all_short separator (part ∷ []) bound short = (short, tt)
all_short separator (part ∷ next ∷ parts) bound short =
    let e = length-append part (separator ∷ join_with_byte separator (next ∷ parts)) in
    (omega (arith, e, short), all_short separator (next ∷ parts) bound (omega (arith, e, short)))

-- ---- names

found_by : (b : Bool) (start size number : ℕ) (rest : Option ℕ) → cond b (Some start) rest ≡ Some number
    → (rest ≡ Some number → number < start + 1 + size) → number < start + (size + 1)
found_by true start size number rest e more = (let s : start ≡ number = cc in omega (arith, s))
found_by false start size number rest e more = omega (arith, more e)

found_below : {X : Type 0} (test : X → Bool) (start : ℕ) (list : List X) (number : ℕ)
    → position_from test start list ≡ Some number → number < start + length list
found_below test start [] number e = absurd cc
found_below test start (x ∷ list) number e =
    (let l = found_by (test x) start (length list) number (position_from test (start + 1) list) e
    (found_below test (start + 1) list number) in omega (arith, l))

named_below : (providers : List Provider) (name : Bytes) (number : ℕ) → named providers name ≡ Some number
    → number < length providers
unfolding named
named_below providers name number e =
    omega (arith, found_below (λ (provider : Provider). bytes_eq name provider.name) 0 providers number e)

-- ---- commands

path_bounds : (text : Bytes) (along : Path) → IsPath text along → (0 < length along) × (length along ≤ most_addresses)
path_bounds text along is =
    let size : length along ≡ length is.parts = ap (λ (l : Path). length l) is.are.path_is ∙ length-map is.parts lowered
    in
    (omega (arith, size, is.cut.some), omega (arith, size, is.are.within))

module _ (providers : List Provider) where
  abbrev Can : Written → Type 0
  Can command = CanPlay (length providers) command

  submit_can : (word : Bytes) (texts : List Bytes) (said : Said (kinds_of verbs.Submit))
      → AllSay providers (kinds_of verbs.Submit) texts said
      → AllByRecursion (λ (part : Bytes). length part ≤ longest_line) (word ∷ texts) → Can (made verbs.Submit said)
  submit_can word [] said all short = absurd all
  submit_can word (a ∷ []) said all short = absurd all.1
  submit_can word (a ∷ b ∷ []) said all short = absurd all.1.1
  submit_can word (a ∷ b ∷ c ∷ []) said all short = absurd all.1.1.1
  submit_can word (a ∷ b ∷ c ∷ d ∷ []) said all short = absurd all.1.1.1.1
  submit_can word (a ∷ b ∷ c ∷ d ∷ e ∷ rest) said all short =
      let bounds = path_bounds d said.1.1.1.0 all.1.1.1.0 in (
        named_below providers a said.0 all.0,
        bounds.0,
        bounds.1,
        message_bound e said.1.1.1.1.0 all.1.1.1.1.0 short.1.1.1.1.1.0,
      )

  -- one provider, and whatever else
  one_can : (texts : List Bytes) (said : Said (kinds_of verbs.Crash)) → AllSay providers
      (kinds_of verbs.Crash) texts said
      → said.0 < length providers
  one_can [] said all = absurd all
  one_can (a ∷ rest) said all = named_below providers a said.0 all.0

  tick_can : (texts : List Bytes) (said : Said (kinds_of verbs.Tick)) → AllSay providers
      (kinds_of verbs.Tick) texts said
      → said.0 < length providers
  tick_can [] said all = absurd all
  tick_can (a ∷ rest) said all = named_below providers a said.0 all.0

  screen_can : (texts : List Bytes) (said : Said (kinds_of verbs.Screen)) → AllSay providers
      (kinds_of verbs.Screen) texts said
      → said.0 < length providers
  screen_can [] said all = absurd all
  screen_can (a ∷ rest) said all = named_below providers a said.0 all.0

  -- two, with a place
  two_can : (texts : List Bytes) (said : Said (kinds_of verbs.Lose)) → AllSay providers (kinds_of verbs.Lose) texts said
      → (said.0 < length providers) × (said.1.0 < length providers)
  two_can [] said all = absurd all
  two_can (a ∷ []) said all = absurd all.1
  two_can (a ∷ b ∷ rest) said all = (named_below providers a said.0 all.0, named_below providers b said.1.0 all.1.0)

  inject_can : (texts : List Bytes) (said : Said (kinds_of verbs.Inject)) → AllSay providers
      (kinds_of verbs.Inject) texts said
      → (said.0 < length providers) × (said.1.0 < length providers)
  inject_can [] said all = absurd all
  inject_can (a ∷ []) said all = absurd all.1
  inject_can (a ∷ b ∷ rest) said all = (named_below providers a said.0 all.0, named_below providers b said.1.0 all.1.0)

  made_can : (verb : Verb) (texts : List Bytes) (said : Said (kinds_of verb)) → AllSay providers
      (kinds_of verb) texts said
      → AllByRecursion (λ (part : Bytes). length part ≤ longest_line) ((form_of verb).word ∷ texts) → Can
      (made verb said)
  made_can verbs.Submit texts said all short = submit_can (form_of verbs.Submit).word texts said all short
  made_can verbs.Tick texts said all short = tick_can texts said all
  made_can verbs.Round texts said all short = tt
  made_can verbs.Lose texts said all short = two_can texts said all
  made_can verbs.Repeat texts said all short = two_can texts said all
  made_can verbs.Swap texts said all short = two_can texts said all
  made_can verbs.Inject texts said all short = inject_can texts said all
  made_can verbs.Crash texts said all short = one_can texts said all
  made_can verbs.Restart texts said all short = one_can texts said all
  made_can verbs.Book texts said all short = tt
  made_can verbs.Mailbox texts said all short = tt
  made_can verbs.Show texts said all short = tt
  made_can verbs.Archive texts said all short = tt
  made_can verbs.Upgrade texts said all short = tick_can texts said all
  made_can verbs.Vault texts said all short = tt
  made_can verbs.VaultShow texts said all short = tt
  made_can verbs.Screen texts said all short = screen_can texts said all

-- what the law of lines says
abbrev pub ReadsSo : Type 0
ReadsSo = (providers : List Provider) (line : Bytes)
    → TellsExactly (IsCommand providers line) (IsLineFault providers line) (command_of providers line)

pub line_can : ReadsSo → (kept : List Kept) (line : Bytes) (command : Written) → length line ≤ longest_line
    → command_of (providers_of kept) line ≡ Ok command → CanPlay (length kept) command
line_can reads kept line command short e =
    let is = ((reads (providers_of kept) line).value command).0 e in
    let size : length (providers_of kept) ≡ length kept = length-map kept (λ (one : Kept). one.provider) in
    let parts = all_short space ((form_of is.verb).word ∷ is.arguments) longest_line
    (omega (arith, ap (λ (l : Bytes). length l) is.line_is.joined, short)) in
    subst (λ (n : ℕ). CanPlay n command) size
    (subst (λ (w : Written). CanPlay (length (providers_of kept)) w) (sym is.command_is)
    (made_can (providers_of kept) is.verb is.arguments is.said is.arguments_say parts))
