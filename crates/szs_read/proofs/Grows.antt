-- A signature that grows by the literals of several lines grows by those of the first and then by the others.
use Rattle.std.proofs.Common.{◌≡◌, ℕ, List, [], ◌∷◌, ◌++◌, map, sym, ap, subst, ◌∙◌}
use Rattle.std.proofs.lemmas.Grind.{flat_map-append}
use Rattle.std.proofs.lemmas.List.{append-nil, map-append}
use Rattle.std.specs.List.{AllByRecursion, flat_map}
use Rattle.me_terms.specs.Labels.{IsFunctionSymbol, IsPredicateSymbol}
use Rattle.me_terms.specs.Values.{SignatureValue}
use Rattle.me_terms.specs.declared.atom.Literal.{Literal}
use Rattle.tptp_cnf.specs.Meaning.{with_symbols}
use Rattle.tptp_cnf.specs.Plain.{symbols_at, function_numbers}
use Rattle.szs_read.specs.Claims.{IsLiteralOver, functions_in, predicates_in, IsGrownBy}
use Rattle.szs_read.specs.Coming.{AreSymbolsToCome, AreLiteralsToCome}
use Rattle.szs_read.proofs.Symbols.{at_both}

front : {X : Type 0} (P : X → Type 0) (xs ys : List X) → AllByRecursion P (xs ++ ys) → AllByRecursion P xs
front P [] ys h = tt
front P (x ∷ xs) ys h = (h.0, front P xs ys h.1)

back : {X : Type 0} (P : X → Type 0) (xs ys : List X) → AllByRecursion P (xs ++ ys) → AllByRecursion P ys
back P [] ys h = h
back P (x ∷ xs) ys h = back P xs ys h.1

functions_both : (s : SignatureValue) (ls ms : List Literal) → functions_in s (ls ++ ms) ≡ functions_in s ls ++ functions_in s ms
functions_both s ls ms =
    ap (symbols_at s.functions) (flat_map-append (λ l. function_numbers l.atom.args) ls ms)
    ∙ at_both s.functions (flat_map (λ l. function_numbers l.atom.args) ls) (flat_map (λ l. function_numbers l.atom.args) ms)

predicates_both : (s : SignatureValue) (ls ms : List Literal) → predicates_in s (ls ++ ms) ≡ predicates_in s ls ++ predicates_in s ms
predicates_both s ls ms =
    ap (symbols_at s.predicates) (map-append (λ l. l.atom.pred) ls ms)
    ∙ at_both s.predicates (map (λ l. l.atom.pred) ls) (map (λ l. l.atom.pred) ms)

-- the literals of the first line come first, and those of the others after them
pub first_grown : (now end : SignatureValue) (b : ℕ) (ls ms : List Literal) → AllByRecursion (IsLiteralOver end b) ls → IsGrownBy now (ls ++ ms) end → AreLiteralsToCome now end b ls (functions_in end ms) (predicates_in end ms)
first_grown now end b ls ms over g = record {
  over = over;
  symbols = record {
    functions_are = g.functions ∙ ap (with_symbols now.functions) (functions_both end ls ms);
    predicates_are = g.predicates ∙ ap (with_symbols now.predicates) (predicates_both end ls ms);
  };
  readable_functions = front IsFunctionSymbol (functions_in end ls) (functions_in end ms) (subst (AllByRecursion IsFunctionSymbol) (functions_both end ls ms) g.readable_functions);
  readable_predicates = front IsPredicateSymbol (predicates_in end ls) (predicates_in end ms) (subst (AllByRecursion IsPredicateSymbol) (predicates_both end ls ms) g.readable_predicates);
}

pub others_grown : (now new end : SignatureValue) (ls ms : List Literal) → IsGrownBy now (ls ++ ms) end → AreSymbolsToCome new end (functions_in end ms) (predicates_in end ms) → IsGrownBy new ms end
others_grown now new end ls ms g s = record {
  functions = s.functions_are;
  predicates = s.predicates_are;
  readable_functions = back IsFunctionSymbol (functions_in end ls) (functions_in end ms) (subst (AllByRecursion IsFunctionSymbol) (functions_both end ls ms) g.readable_functions);
  readable_predicates = back IsPredicateSymbol (predicates_in end ls) (predicates_in end ms) (subst (AllByRecursion IsPredicateSymbol) (predicates_both end ls ms) g.readable_predicates);
}

-- literals after which nothing comes
pub all_grown : (now end : SignatureValue) (b : ℕ) (ls : List Literal) → AllByRecursion (IsLiteralOver end b) ls → IsGrownBy now ls end → AreLiteralsToCome now end b ls [] []
all_grown now end b ls over g = record {
  over = over;
  symbols = record {
    functions_are = g.functions ∙ ap (with_symbols now.functions) (sym (append-nil (functions_in end ls)));
    predicates_are = g.predicates ∙ ap (with_symbols now.predicates) (sym (append-nil (predicates_in end ls)));
  };
  readable_functions = g.readable_functions;
  readable_predicates = g.readable_predicates;
}
