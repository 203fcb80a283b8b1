-- How much room is left for further symbols.
use Rattle.std.proofs.Common.{◌≡◌, ℕ, suc, ◌+◌, ◌≤◌, Bool, true, false, cond, List, [], ◌∷◌, ◌++◌, length, Option, Some, None, subst, sym, arith}
use Rattle.std.proofs.lemmas.List.{length-append}
use Rattle.std.specs.Prelude.{option_to_list}
use Rattle.std.specs.List.{list_any}
use Rattle.me_terms.specs.LabelEquality.{same_symbol}
use Rattle.me_terms.specs.Signatures.{with_symbol}
use Rattle.me_terms.specs.Values.{SymbolValue, SignatureValue}
use Rattle.tptp_cnf.specs.Meaning.{with_symbols}
use Rattle.make_problem.specs.Drawn.{with_words, HasRoom}
use Rattle.make_problem.specs.Made.{constant_of, constants_of, predicates_of}

one_more : (known : List SymbolValue) (s : SymbolValue) → length (with_symbol known s) ≤ length known + 1
one_more known s = by (list_any (same_symbol s) known)
  where
    by : (b : Bool) → length (cond b known (known ++ s ∷ [])) ≤ length known + 1
    by true = omega arith
    by false = omega (arith, length-append known (s ∷ []))

more : (ss known : List SymbolValue) → length (with_symbols known ss) ≤ length known + length ss
more [] known = omega arith
more (s ∷ ss) known = omega (arith, more ss (with_symbol known s), one_more known s)

constants_count : (words : List ℕ) → length (constants_of words) ≤ length words
constants_count [] = omega arith
constants_count (w ∷ ws) = by (constant_of w) (constants_count ws)
  where
    by : (o : Option SymbolValue) → length (constants_of ws) ≤ length ws → length (option_to_list o ++ constants_of ws) ≤ suc (length ws)
    by None h = omega (arith, h)
    by (Some c) h = omega (arith, h)

predicates_count : (preds : ℕ) (words : List ℕ) → length (predicates_of preds words) ≤ length words
predicates_count preds [] = omega arith
predicates_count preds (w ∷ ws) = omega (arith, predicates_count preds ws)

-- words take no more room than a symbol of each kind for each
pub room_left : (preds : ℕ) (s new : SignatureValue) (words : List ℕ) (n : ℕ) → HasRoom s (length words + n) → new ≡ with_words preds s words → HasRoom new n
room_left preds s new words n h is = subst (λ (x : SignatureValue). HasRoom x n) (sym is) (record {
  functions = omega (arith, more (constants_of words) s.functions, constants_count words, h.functions);
  predicates = omega (arith, more (predicates_of preds words) s.predicates, predicates_count preds words, h.predicates);
})

pub room_for : (s : SignatureValue) (n fewer : ℕ) → HasRoom s n → fewer ≤ n → HasRoom s fewer
room_for s n fewer h le = record { functions = omega (arith, h.functions, le); predicates = omega (arith, h.predicates, le) }
