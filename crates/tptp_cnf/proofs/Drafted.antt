-- The draft behind all tokens of a file is what the file means.
use Rattle.std.proofs.Common.{◌≡◌, ℕ, ◌+◌, Bool, true, false, List, [], ◌∷◌, ◌++◌, refl, sym, ap, subst, ◌∙◌, append_assoc}
use Rattle.std.proofs.lemmas.List.{append-nil}
use Rattle.std.specs.Prelude.{if◌then◌else◌}
use Rattle.std.specs.List.{list_any, position_or_len}
use Rattle.me_terms.specs.Values.{SymbolValue, SignatureValue, ClauseValue, ProblemValue}
use Rattle.me_terms.specs.declared.atom.Literal.{Literal}
use Rattle.tptp_grammar.specs.Written.{WrittenFormula}
use Rattle.tptp_grammar.specs.Limits.{with_variables}
use Rattle.tptp_cnf.specs.Meaning.{label_of, literals_of, is_left_out, literals_predicates, literals_functions, file_predicates, file_functions, with_symbols, clause_literals, variables_in_formula, clause_of, clauses_of, is_constant, c0_symbol, with_constant, problem_of}
use Rattle.tptp_cnf.specs.Rows.{ItemValue, Names, names_of, names_signature, names_after, numbered, built, Built, Draft, empty_draft, ended, finished}
use Rattle.tptp_cnf.specs.declared.item.Node.{Node}
use Rattle.tptp_cnf.proofs.Fed.{flat_literals, after_formula, after_file}
use Rattle.tptp_cnf.proofs.Numbering.{Longer, longer_same, longer_on, symbol_longer, Within, numbered_is, symbols-append, after_functions, after_predicates, after_variables}
use Rattle.tptp_cnf.proofs.Trees.{functions_of_literals, predicates_of_literals, variables_of_literals, literals_built}

-- a signature with more symbols behind these
pub record Extends (small great : SignatureValue) : Type 0 where
  pub functions : Longer small.functions great.functions
  pub predicates : Longer small.predicates great.predicates

extends_on : (a b c : SignatureValue) → Extends a b → Extends b c → Extends a c
extends_on a b c h k = record { functions = longer_on a.functions b.functions c.functions h.functions k.functions; predicates = longer_on a.predicates b.predicates c.predicates h.predicates k.predicates }

symbols_longer : (ss known : List SymbolValue) → Longer known (with_symbols known ss)
symbols_longer [] known = longer_same known
symbols_longer (s ∷ ss) known = longer_on known (with_symbols known (s ∷ [])) (with_symbols known (s ∷ ss)) (symbol_longer known s) (symbols_longer ss (with_symbols known (s ∷ [])))

-- the signature with the symbols of more formulas
abbrev with_file : SignatureValue → List WrittenFormula → SignatureValue
with_file s fs = record { functions = with_symbols s.functions (file_functions fs); predicates = with_symbols s.predicates (file_predicates fs) }

with_file_extends : (s : SignatureValue) (fs : List WrittenFormula) → Extends s (with_file s fs)
with_file_extends s fs = record { functions = symbols_longer (file_functions fs) s.functions; predicates = symbols_longer (file_predicates fs) s.predicates }

-- ---- one formula

-- the signature with the symbols of a formula that is kept
abbrev with_kept : SignatureValue → WrittenFormula → SignatureValue
with_kept s f = record { functions = with_symbols s.functions (literals_functions (literals_of f)); predicates = with_symbols s.predicates (literals_predicates (literals_of f)) }

abbrev row : WrittenFormula → List ItemValue
row f = flat_literals (literals_of f)

kept_signature : (f : WrittenFormula) (s : SignatureValue) → names_signature (names_after (names_of s) (row f)) ≡ with_kept s f
kept_signature f s =
    let n : Names = names_after (names_of s) (row f) in
    ap (λ (x : List SymbolValue). names_signature (record { functions = x; predicates = n.predicates; variables = n.variables }))
    (after_functions (row f) (names_of s) ∙ ap (with_symbols s.functions) (functions_of_literals (literals_of f)))
    ∙ ap (λ (x : List SymbolValue). names_signature (record { functions = (with_kept s f).functions; predicates = x; variables = n.variables }))
    (after_predicates (row f) (names_of s) ∙ ap (with_symbols s.predicates) (predicates_of_literals (literals_of f)))

-- the literals that are made of a formula's row, over any greater signature
row_literals : (f : WrittenFormula) (s great : SignatureValue) → Extends (with_kept s f) great → (built (numbered (names_of s) (row f))).literals ≡ clause_literals great (variables_in_formula f) (literals_of f)
row_literals f s great h =
    let n : Names = names_after (names_of s) (row f) in
    let m : Names = record { functions = great.functions; predicates = great.predicates; variables = n.variables } in
    let e = sym (kept_signature f s) in
    let w : Within n m = record {
      functions = (h.functions.0, h.functions.1 ∙ ap (λ (x : SignatureValue). x.functions ++ h.functions.0) e);
      predicates = (h.predicates.0, h.predicates.1 ∙ ap (λ (x : SignatureValue). x.predicates ++ h.predicates.0) e);
      variables = longer_same n.variables;
    } in
    let variables : n.variables ≡ variables_in_formula f = after_variables (row f) (names_of s) ∙ ap (with_variables []) (variables_of_literals (literals_of f)) in
    ap (λ (x : List Node). (built x).literals) (numbered_is (row f) (names_of s) m w)
    ∙ ap (λ (b : Built). b.literals) (literals_built m (literals_of f))
    ∙ ap (λ (x : List (List ℕ)). clause_literals great x (literals_of f)) variables

-- ---- files

-- what more formulas add to a draft
pub record Drafted (fs : List WrittenFormula) (d e : Draft) : Type 0 where
  pub signature : e.signature ≡ with_file d.signature fs
  pub clauses : (great : SignatureValue) → Extends e.signature great → e.clauses ≡ d.clauses ++ clauses_of great (d.number + 1) fs

abbrev signature_with : List SymbolValue → List SymbolValue → SignatureValue
signature_with functions predicates = record { functions = functions; predicates = predicates }

abbrev clause_with : WrittenFormula → ℕ → List Literal → ClauseValue
clause_with f number literals = record { number = number; label = label_of f.label; literals = literals }

abbrev problem_with : List ClauseValue → SignatureValue → ProblemValue
problem_with clauses s = record { clauses = clauses; signature = signature_with (with_constant s.functions) s.predicates; c0 = position_or_len is_constant (with_constant s.functions) }

abbrev clauses_if : Bool → ClauseValue → List ClauseValue → List ClauseValue
clauses_if left_out c cs = if left_out then cs else c ∷ cs

abbrev file_if : Bool → SignatureValue → WrittenFormula → List WrittenFormula → SignatureValue
file_if left_out s f fs = record {
  functions = with_symbols s.functions (if left_out then file_functions fs else literals_functions (literals_of f) ++ file_functions fs);
  predicates = with_symbols s.predicates (if left_out then file_predicates fs else literals_predicates (literals_of f) ++ file_predicates fs);
}

-- the draft behind a formula that is left out, or kept
abbrev formula_if : Bool → WrittenFormula → Draft → Draft
formula_if left_out f d = ended (record { signature = d.signature; clauses = d.clauses; number = d.number + 1; label = label_of f.label; is_kept = if left_out then false else true; items = row f; open_items = [] })

one_formula : (b : Bool) (f : WrittenFormula) (fs : List WrittenFormula) (d e : Draft) → Drafted fs (formula_if b f d) e
    → (e.signature ≡ file_if b d.signature f fs) × ((great : SignatureValue) → Extends e.signature great → e.clauses ≡ d.clauses ++ clauses_if b (clause_of great (d.number + 1) f) (clauses_of great ((d.number + 1) + 1) fs))
one_formula true f fs d e h = (h.signature, h.clauses)
one_formula false f fs d e h =
    let kept : SignatureValue = with_kept d.signature f in
    let all : e.signature ≡ with_file kept fs = h.signature ∙ ap (λ (x : SignatureValue). with_file x fs) (kept_signature f d.signature) in
    let join : with_file kept fs ≡ file_if false d.signature f fs =
    ap (λ (x : List SymbolValue). signature_with x (with_symbols kept.predicates (file_predicates fs))) (sym (symbols-append (literals_functions (literals_of f)) (file_functions fs) d.signature.functions))
    ∙ ap (λ (x : List SymbolValue). signature_with (file_if false d.signature f fs).functions x) (sym (symbols-append (literals_predicates (literals_of f)) (file_predicates fs) d.signature.predicates)) in
    let clauses = λ (great : SignatureValue) (x : Extends e.signature great).
    h.clauses great x
    ∙ ap (λ (ls : List Literal). (d.clauses ++ clause_with f (d.number + 1) ls ∷ []) ++ clauses_of great ((d.number + 1) + 1) fs)
    (row_literals f d.signature great (extends_on kept e.signature great (subst (Extends kept) (sym all) (with_file_extends kept fs)) x))
    ∙ append_assoc d.clauses (clause_of great (d.number + 1) f ∷ []) (clauses_of great ((d.number + 1) + 1) fs) in
    (all ∙ join, clauses)

file_drafted : (fs : List WrittenFormula) (d : Draft) → Drafted fs d (after_file fs d)
file_drafted [] d = record { signature = refl; clauses = λ great x. sym (append-nil d.clauses) }
file_drafted (f ∷ fs) d =
    let k = one_formula (is_left_out f) f fs d (after_file fs (after_formula f d)) (file_drafted fs (after_formula f d)) in
    record { signature = k.0; clauses = k.1 }

with_constant_longer : (functions : List SymbolValue) → Longer functions (with_constant functions)
with_constant_longer functions = by (list_any is_constant functions)
  where
    by : (b : Bool) → Longer functions (if b then functions else functions ++ c0_symbol ∷ [])
    by true = longer_same functions
    by false = (c0_symbol ∷ [], refl)

-- The problem that is read from the tokens of a file is the one that it means.
pub finished_is : (fs : List WrittenFormula) → finished (after_file fs empty_draft) ≡ problem_of fs
finished_is fs =
    let e : Draft = after_file fs empty_draft in
    let h = file_drafted fs empty_draft in
    let great : SignatureValue = signature_with (with_constant e.signature.functions) e.signature.predicates in
    let x : Extends e.signature great = record { functions = with_constant_longer e.signature.functions; predicates = longer_same e.signature.predicates } in
    ap (λ (cs : List ClauseValue). problem_with cs e.signature) (h.clauses great x)
    ∙ ap (λ (s : SignatureValue). problem_with (clauses_of (signature_with (with_constant s.functions) s.predicates) 1 fs) s) h.signature
