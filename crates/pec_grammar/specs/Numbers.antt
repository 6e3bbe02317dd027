-- A number below a bound in so many bytes, the greatest first: `number`, at the end.
use Rattle.std.specs.Prelude.{ℕ, zero, suc, ◌+◌, ◌*◌, ◌^◌, ◌<◌, Bool, ◌&&◌, nat_lt, List, Ok}
use Rattle.std.specs.Int.{bytes_high_first}
use Rattle.pec_grammar.specs.Grammar.{Cursor, Read, Grammar, ◌>>=◌, byte_at, seen_at}

-- a byte behind those that make `high`, with so many bytes left behind it, leads to some number below the bound
abbrev pub can_follow : ℕ → ℕ → ℕ → ℕ → Bool
can_follow bound left high b = nat_lt b 256 && nat_lt ((high * 256 + b) * 256 ^ left) bound

unfoldable pub digit_at : ℕ → ℕ → ℕ → Cursor → Read ℕ
digit_at bound left high = seen_at (λ b. high * 256 + b) (byte_at (can_follow bound left high))

unfoldable pub number_at : ℕ → ℕ → ℕ → Cursor → Read ℕ
number_at bound zero high at = Ok (high, at)
number_at bound (suc left) high at = digit_at bound left high at >>= λ h. number_at bound left h.0 h.1

abbrev pub number : ℕ → ℕ → Grammar ℕ
number count bound = record { Fits = λ n. n < bound; spell = bytes_high_first count; read = number_at bound count 0 }
