-- Signatures that grow by the symbols of literals.
use Rattle.std.proofs.Common.{◌≡◌, ◌≤◌, ℕ, Bool, true, ◌&&◌, List, [], ◌∷◌, ◌++◌, map, Some, refl, sym, ap, subst, ◌∙◌}
use Rattle.std.proofs.lemmas.Grind.{flat_map-append}
use Rattle.std.proofs.lemmas.List.{append-nil, map-append}
use Rattle.std.specs.Prelude.{slice_get}
use Rattle.std.specs.List.{AllByRecursion, flat_map}
use Rattle.me_terms.specs.Labels.{IsFunctionSymbol, IsPredicateSymbol}
use Rattle.me_terms.specs.Signatures.{takes, is_known, are_known}
use Rattle.me_terms.specs.TermEqualityLaws.{both_parts}
use Rattle.me_terms.specs.Terms.{TermValue, Var, App, Arguments, Nil, Cons}
use Rattle.me_terms.specs.Values.{SymbolValue, SignatureValue}
use Rattle.me_terms.specs.Variables.{count, depths}
use Rattle.me_terms.specs.declared.atom.Literal.{Literal}
use Rattle.tptp_cnf.specs.Meaning.{with_symbols}
use Rattle.tptp_cnf.specs.Plain.{symbols_at, function_numbers, term_function_numbers}
use Rattle.tptp_cnf.proofs.Numbering.{Longer, longer_same}
use Rattle.szs_read.specs.Claims.{IsLiteralOver, IsGrownBy}
use Rattle.szs_read.specs.Rows.{nodes_of, node_functions, IsNode, AreNumbered, IsPredicateAt, AreRead}
use Rattle.szs_read.specs.declared.number.Node.{Node}
use Rattle.szs_read.proofs.Symbols.{all_both, all_so, AreIn, added_both, added_longer, all_at_both, takes_longer, taken_at}
use Rattle.szs_read.proofs.Nodes.{terms_functions, terms_known, terms_small}

-- both lists of symbols are longer
pub record Wider (old new : SignatureValue) : Type 0 where
  pub functions : Longer old.functions new.functions
  pub predicates : Longer old.predicates new.predicates

pub wider_same : (s : SignatureValue) → Wider s s
wider_same s = record { functions = longer_same s.functions; predicates = longer_same s.predicates }

pub wider_by : (old new : SignatureValue) (ls : List Literal) → IsGrownBy old ls new → Wider old new
wider_by old new ls g = record {
  functions = added_longer old.functions new.functions (flat_map (λ l. function_numbers l.atom.args) ls) g.functions;
  predicates = added_longer old.predicates new.predicates (map (λ l. l.atom.pred) ls) g.predicates;
}

both_true : (a b : Bool) → a ≡ true → b ≡ true → (a && b) ≡ true
both_true a b h k = rw h (rw k refl)

-- ---- what is known stays known

module _ (old new : SignatureValue) (w : Wider old new) where
  mutual
    term_stays : (t : TermValue) → is_known old t ≡ true → is_known new t ≡ true
    term_stays (Var x) h = refl
    term_stays (App f ts) h =
        let parts = both_parts (takes (slice_get old.functions f) (count ts)) (are_known old ts) h in
        both_true (takes (slice_get new.functions f) (count ts)) (are_known new ts) (takes_longer old.functions new.functions f (count ts) w.functions parts.0) (terms_stay ts parts.1)

    terms_stay : (ts : Arguments) → are_known old ts ≡ true → are_known new ts ≡ true
    terms_stay Nil h = refl
    terms_stay (Cons t ts) h =
        let parts = both_parts (is_known old t) (are_known old ts) h in
        both_true (is_known new t) (are_known new ts) (term_stays t parts.0) (terms_stay ts parts.1)

  pub literal_stays : (b : ℕ) (l : Literal) → IsLiteralOver old b l → IsLiteralOver new b l
  literal_stays b l h =
      let parts = both_parts (takes (slice_get old.predicates l.atom.pred) (count l.atom.args)) (are_known old l.atom.args) h.known in
      record {
        known = both_true (takes (slice_get new.predicates l.atom.pred) (count l.atom.args)) (are_known new l.atom.args) (takes_longer old.predicates new.predicates l.atom.pred (count l.atom.args) w.predicates parts.0) (terms_stay l.atom.args parts.1);
        variables = h.variables;
        few_brackets = h.few_brackets;
      }

-- ---- the symbols of known literals

mutual
  term_in : (s : SignatureValue) (t : TermValue) → is_known s t ≡ true → AreIn s.functions (term_function_numbers t)
  term_in s (Var x) h = tt
  term_in s (App f ts) h =
      let parts = both_parts (takes (slice_get s.functions f) (count ts)) (are_known s ts) h in
      let t = taken_at (slice_get s.functions f) (count ts) parts.0 in
      ((t.symbol, t.is), terms_in s ts parts.1)

  terms_in : (s : SignatureValue) (ts : Arguments) → are_known s ts ≡ true → AreIn s.functions (function_numbers ts)
  terms_in s Nil h = tt
  terms_in s (Cons t ts) h =
      let parts = both_parts (is_known s t) (are_known s ts) h in
      all_both (λ n. (x : SymbolValue) × (slice_get s.functions n ≡ Some x)) (term_function_numbers t) (function_numbers ts) (term_in s t parts.0) (terms_in s ts parts.1)

pub functions_are_in : (s : SignatureValue) (b : ℕ) (ls : List Literal) → AllByRecursion (IsLiteralOver s b) ls → AreIn s.functions (flat_map (λ l. function_numbers l.atom.args) ls)
functions_are_in s b [] h = tt
functions_are_in s b (l ∷ ls) h =
    let parts = both_parts (takes (slice_get s.predicates l.atom.pred) (count l.atom.args)) (are_known s l.atom.args) h.0.known in
    all_both (λ n. (x : SymbolValue) × (slice_get s.functions n ≡ Some x)) (function_numbers l.atom.args) (flat_map (λ m. function_numbers m.atom.args) ls) (terms_in s l.atom.args parts.1) (functions_are_in s b ls h.1)

pub predicates_are_in : (s : SignatureValue) (b : ℕ) (ls : List Literal) → AllByRecursion (IsLiteralOver s b) ls → AreIn s.predicates (map (λ l. l.atom.pred) ls)
predicates_are_in s b [] h = tt
predicates_are_in s b (l ∷ ls) h =
    let parts = both_parts (takes (slice_get s.predicates l.atom.pred) (count l.atom.args)) (are_known s l.atom.args) h.0.known in
    let t = taken_at (slice_get s.predicates l.atom.pred) (count l.atom.args) parts.0 in
    ((t.symbol, t.is), predicates_are_in s b ls h.1)

-- ---- literals after others

pub grown_none : (s : SignatureValue) → IsGrownBy s [] s
grown_none s = record { functions = refl; predicates = refl; readable_functions = tt; readable_predicates = tt }

pub grown_both : (old mid new : SignatureValue) (b : ℕ) (ls ms : List Literal) → AllByRecursion (IsLiteralOver mid b) ls → IsGrownBy old ls mid → IsGrownBy mid ms new → IsGrownBy old (ls ++ ms) new
grown_both old mid new b ls ms over g h =
    let fs : List ℕ = flat_map (λ l. function_numbers l.atom.args) ls in
    let hs : List ℕ = flat_map (λ l. function_numbers l.atom.args) ms in
    let ps : List ℕ = map (λ l. l.atom.pred) ls in
    let qs : List ℕ = map (λ l. l.atom.pred) ms in
    let fe : flat_map (λ l. function_numbers l.atom.args) (ls ++ ms) ≡ fs ++ hs = flat_map-append (λ l. function_numbers l.atom.args) ls ms in
    let pe : map (λ l. l.atom.pred) (ls ++ ms) ≡ ps ++ qs = map-append (λ l. l.atom.pred) ls ms in
    let w : Wider mid new = wider_by mid new ms h in
    record {
      functions = added_both old.functions mid.functions new.functions fs hs (functions_are_in mid b ls over) g.functions h.functions ∙ ap (λ (v : List ℕ). with_symbols old.functions (symbols_at new.functions v)) (sym fe);
      predicates = added_both old.predicates mid.predicates new.predicates ps qs (predicates_are_in mid b ls over) g.predicates h.predicates ∙ ap (λ (v : List ℕ). with_symbols old.predicates (symbols_at new.predicates v)) (sym pe);
      readable_functions = subst (λ (v : List ℕ). AllByRecursion IsFunctionSymbol (symbols_at new.functions v)) (sym fe) (all_at_both IsFunctionSymbol mid.functions new.functions fs hs w.functions (functions_are_in mid b ls over) g.readable_functions h.readable_functions);
      readable_predicates = subst (λ (v : List ℕ). AllByRecursion IsPredicateSymbol (symbols_at new.predicates v)) (sym pe) (all_at_both IsPredicateSymbol mid.predicates new.predicates ps qs w.predicates (predicates_are_in mid b ls over) g.readable_predicates h.readable_predicates);
    }

pub read_none : (s : SignatureValue) (b : ℕ) → AreRead s s b []
read_none s b = record { grown = grown_none s; over = tt }

pub read_both : (old mid new : SignatureValue) (b : ℕ) (ls ms : List Literal) → AreRead old mid b ls → AreRead mid new b ms → AreRead old new b (ls ++ ms)
read_both old mid new b ls ms g h = record {
  grown = grown_both old mid new b ls ms g.over g.grown h.grown;
  over = all_both (IsLiteralOver new b) ls ms (all_so (IsLiteralOver mid b) (IsLiteralOver new b) ls (literal_stays mid new (wider_by mid new ms h.grown) b) g.over) h.over;
}

-- ---- one literal

abbrev literal : Bool → ℕ → Arguments → Literal
literal b p ts = record { positive = b; atom = record { pred = p; args = ts } }

pub literal_read : (old mid new : SignatureValue) (positive : Bool) (p n : ℕ) (ts : Arguments) (b : ℕ) (nodes : List Node) → IsPredicateAt old.predicates mid.predicates p n → mid.functions ≡ old.functions → AreNumbered mid.functions new.functions nodes → new.predicates ≡ mid.predicates → nodes_of ts ≡ nodes → count ts ≡ n → depths ts ≤ b → AreRead old new b (literal positive p ts ∷ [])
literal_read old mid new positive p n ts b nodes pa fe fa pe ne ce d =
    let fs : node_functions nodes ≡ function_numbers ts ++ [] = ap node_functions (sym ne) ∙ terms_functions ts ∙ sym (append-nil (function_numbers ts)) in
    let lawful = subst (λ (v : List Node). AllByRecursion (IsNode new.functions) v) (sym ne) fa.lawful in
    record {
      grown = record {
        functions = fa.symbols ∙ ap (λ (v : List SymbolValue). with_symbols v (symbols_at new.functions (node_functions nodes))) fe ∙ ap (λ (v : List ℕ). with_symbols old.functions (symbols_at new.functions v)) fs;
        predicates = pe ∙ pa.symbols ∙ ap (λ (v : List SymbolValue). with_symbols old.predicates (symbols_at v (p ∷ []))) (sym pe);
        readable_functions = subst (λ (v : List ℕ). AllByRecursion IsFunctionSymbol (symbols_at new.functions v)) fs fa.readable;
        readable_predicates = subst (λ (v : List SymbolValue). AllByRecursion IsPredicateSymbol (symbols_at v (p ∷ []))) (sym pe) pa.readable;
      };
      over = (
        record {
          known = both_true (takes (slice_get new.predicates p) (count ts)) (are_known new ts)
              (ap (λ (v : List SymbolValue). takes (slice_get v p) (count ts)) pe ∙ ap (λ (m : ℕ). takes (slice_get mid.predicates p) m) ce ∙ pa.takes)
              (terms_known new ts lawful);
          variables = terms_small new ts lawful;
          few_brackets = d;
        },
        tt,
      );
    }
