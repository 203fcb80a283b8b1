-- Symbols with numbers of their own, one by one.
use Rattle.std.proofs.Common.{◌≡◌, ℕ, ◌+◌, ◌<◌, ◌≤◌, Bool, true, false, eqb, List, length, slice_get, Some, None, refl, sym, ap, ◌∙◌, arith}
use Rattle.std.specs.Borrow.{Bor}
use Rattle.std.specs.Option.{option_copied}
use Rattle.std.proofs.lemmas.Bool.{eqb-true}
use Rattle.std.proofs.lemmas.Bool.Decides.{nat_tests}
use Rattle.std.proofs.lemmas.Option.{slice_get_within}
use Rattle.me_terms.specs.Signatures.{number_of}
use Rattle.me_terms.specs.Values.{SymbolValue}
use Rattle.problem_checks.specs.PlainTests.{HasOwnNumber, HaveOwnNumbers}

-- those below n have numbers of their own
abbrev pub HaveOwnBelow : List SymbolValue → ℕ → Type 0
HaveOwnBelow symbols n = (k : ℕ) → k < n → HasOwnNumber symbols k

pub own_none : (symbols : List SymbolValue) → HaveOwnBelow symbols 0
own_none symbols k lt s e = absurd (omega (arith, lt))

pub own_more : (symbols : List SymbolValue) (n : ℕ) → HaveOwnBelow symbols n → HasOwnNumber symbols n → HaveOwnBelow symbols (n + 1)
own_more symbols n h here k lt s e = by (eqb k n) refl
  where
    by : (b : Bool) → eqb k n ≡ b → number_of s symbols ≡ k
    by true f = let is : k ≡ n = eqb-true k n f in here s (ap (slice_get symbols) (sym is) ∙ e) ∙ sym is
    by false f = let less : k < n = grind (arith, nat_tests) in h k less s e

-- the symbol of a number, as a signature lends it
pub own_some : (symbols : List SymbolValue) (n : ℕ) (r : Bor SymbolValue) → option_copied (Some r) ≡ slice_get symbols n → number_of r.now symbols ≡ n → HasOwnNumber symbols n
own_some symbols n r is own s e = let same : Some r.now ≡ Some s = is ∙ e in let one : r.now ≡ s = cc in sym (ap (λ (x : SymbolValue). number_of x symbols) one) ∙ own

pub own_nothing : (symbols : List SymbolValue) (n : ℕ) → None ≡ slice_get symbols n → HasOwnNumber symbols n
own_nothing symbols n is s e = let no : None ≡ Some s = is ∙ e in absurd cc

pub own_all : (symbols : List SymbolValue) (n : ℕ) → HaveOwnBelow symbols n → length symbols ≤ n → HaveOwnNumbers symbols
own_all symbols n h le k s e = h k (omega (arith, slice_get_within symbols k s e, le)) s e
