-- Gifts and Sats among pieces, and in the lists that accounts name.
use Rattle.std.proofs.Common.{◌≡◌, ℕ, List, [], ◌∷◌, reverse, refl, sym, subst, ap}
use Rattle.me_terms.specs.Context.{Context}
use Rattle.branch_core.specs.Paths.{Turns, key}
use Rattle.branch_core.specs.Pieces.{Piece, Closed, Bounded, Sat, Gift, Cut, NoMemory}
use Rattle.branch_core.specs.Portions.{gift_of, sat_key_of, gifts, sat_keys}
use Rattle.branch_core.specs.StandsFor.{Account}
use Rattle.branch_core.specs.Whole.{IsIn}
use Rattle.branch_core.proofs.Orderly.{none_in}
use Rattle.steal_pool.specs.Ledger.{gifts_given, sats_posted}
use Rattle.steal_pool.proofs.Lists.{in_here, in_one, in_flat, flat_in, in_reverse, reverse_in}

is_gift : (piece : Piece) (gift : Turns) → IsIn gift (gift_of piece) → piece ≡ Gift gift
is_gift (Closed list) gift h = absurd (none_in gift h.0 h.1)
is_gift (Bounded b) gift h = absurd (none_in gift h.0 h.1)
is_gift (Sat leaf context) gift h = absurd (none_in gift h.0 h.1)
is_gift (Gift path) gift h = ap Gift (sym (in_one path gift h))
is_gift (Cut turns k) gift h = absurd (none_in gift h.0 h.1)
is_gift NoMemory gift h = absurd (none_in gift h.0 h.1)

-- The pieces have a Sat for an exhausted leaf of this key.
abbrev pub HasSat : List Piece → ℕ → Type 0
HasSat pieces k = (leaf : Turns) × (context : Context) × IsIn (Sat leaf context) pieces × (key leaf ≡ k)

abbrev IsSatOf : ℕ → Piece → Type 0
IsSatOf k piece = (leaf : Turns) × (context : Context) × (piece ≡ Sat leaf context) × (key leaf ≡ k)

is_sat : (piece : Piece) (k : ℕ) → IsIn k (sat_key_of piece) → IsSatOf k piece
is_sat (Closed list) k h = absurd (none_in k h.0 h.1)
is_sat (Bounded b) k h = absurd (none_in k h.0 h.1)
is_sat (Sat leaf context) k h = (leaf, context, refl, sym (in_one (key leaf) k h))
is_sat (Gift path) k h = absurd (none_in k h.0 h.1)
is_sat (Cut turns cut_key) k h = absurd (none_in k h.0 h.1)
is_sat NoMemory k h = absurd (none_in k h.0 h.1)

pub gift_in : (pieces : List Piece) (gift : Turns) → IsIn (Gift gift) pieces → IsIn gift (gifts pieces)
gift_in pieces gift h = flat_in gift_of pieces (Gift gift) gift h (in_here gift [])

in_gift : (pieces : List Piece) (gift : Turns) → IsIn gift (gifts pieces) → IsIn (Gift gift) pieces
in_gift pieces gift h = let r = in_flat gift_of pieces gift h in subst (λ p. IsIn p pieces) (is_gift r.0 gift r.2) r.1

sat_in : (pieces : List Piece) (leaf : Turns) (context : Context) → IsIn (Sat leaf context) pieces → IsIn (key leaf) (sat_keys pieces)
sat_in pieces leaf context h = flat_in sat_key_of pieces (Sat leaf context) (key leaf) h (in_here (key leaf) [])

in_sat : (pieces : List Piece) (k : ℕ) → IsIn k (sat_keys pieces) → HasSat pieces k
in_sat pieces k h =
    let r = in_flat sat_key_of pieces k h in
    let s = is_sat r.0 k r.2 in (s.0, s.1, subst (λ p. IsIn p pieces) s.2 r.1, s.3)

-- ---- what accounts name
abbrev pub given_of : Account → List Turns
given_of account = reverse (gifts account.pieces)

abbrev pub posted_of : Account → List ℕ
posted_of account = sat_keys account.pieces

pub gift_given : (accounts : List Account) (account : Account) (gift : Turns) → IsIn account accounts → IsIn (Gift gift) account.pieces → IsIn gift (gifts_given accounts)
gift_given accounts account gift is has = flat_in given_of accounts account gift is (in_reverse (gifts account.pieces) gift (gift_in account.pieces gift has))

pub given_gift : (accounts : List Account) (gift : Turns) → IsIn gift (gifts_given accounts) → (account : Account) × IsIn account accounts × IsIn (Gift gift) account.pieces
given_gift accounts gift h =
    let r = in_flat given_of accounts gift h in (r.0, r.1, in_gift r.0.pieces gift (reverse_in (gifts r.0.pieces) gift r.2))

pub sat_posted : (accounts : List Account) (account : Account) (leaf : Turns) (context : Context) → IsIn account accounts → IsIn (Sat leaf context) account.pieces → IsIn (key leaf) (sats_posted accounts)
sat_posted accounts account leaf context is has = flat_in posted_of accounts account (key leaf) is (sat_in account.pieces leaf context has)

pub posted_sat : (accounts : List Account) (k : ℕ) → IsIn k (sats_posted accounts) → (account : Account) × IsIn account accounts × HasSat account.pieces k
posted_sat accounts k h = let r = in_flat posted_of accounts k h in (r.0, r.1, in_sat r.0.pieces k r.2)
