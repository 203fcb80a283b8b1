-- A loop over the tokens of bytes gives their cut.
use Rattle.std.proofs.Common.{◌≡◌, ◌≤◌, ◌<◌, ℕ, ◌+◌, List, [], ◌∷◌, length, arith}
use Rattle.tptp_tokens.specs.Gaps.{IsGap}
use Rattle.tptp_tokens.specs.Remainders.{Remainder}
use Rattle.tptp_tokens.specs.Tokens.{PlacedToken, IsNextToken, IsCutFrom, IsCut}

-- some tokens have been counted, and with those of what is left they are the cut of all
pub record Counted (bytes : List ℕ) (left : Remainder) (count : ℕ) : Type 0 where
  pub joins : (tokens : List PlacedToken) → IsCutFrom left tokens → (all : List PlacedToken) × IsCut bytes all × (length all ≡ count + length tokens)
  pub within : count + length left.bytes ≤ length bytes

pub none_counted : (bytes : List ℕ) → Counted bytes (record { at = 0; bytes = bytes }) 0
none_counted bytes = record { joins = λ tokens c. (tokens, c, omega arith); within = omega arith }

pub one_more : (bytes : List ℕ) (now left : Remainder) (token : PlacedToken) (count : ℕ) → Counted bytes now count → IsNextToken now token left → length left.bytes < length now.bytes → Counted bytes left (count + 1)
one_more bytes now left token count c n lt = record {
  joins = λ tokens cut. let all = c.joins (token ∷ tokens) (left, n, cut) in (all.0, all.1, omega (arith, all.2));
  within = omega (arith, c.within);
}

pub all_counted : (bytes : List ℕ) (now : Remainder) (count : ℕ) → Counted bytes now count → IsGap now.bytes [] → (all : List PlacedToken) × IsCut bytes all × (length all ≡ count)
all_counted bytes now count c g = let all = c.joins [] g in (all.0, all.1, omega (arith, all.2))
