-- The text of a refutation is an answer.
use Rattle.std.proofs.Common.{◌≡◌, ◌<◌, ◌+◌, ℕ, zero, suc, Bool, true, false, ◌||◌, cond, List, [], ◌∷◌, ◌++◌, length, map, Option, Some, refl, sym, ap, subst, ◌∙◌, append_assoc, arith}
use Rattle.std.proofs.lemmas.List.Elements.{recursion_from_All}
use Rattle.std.specs.Prelude.{slice_get, option_to_list, codes, decimal}
use Rattle.std.specs.List.{All, AllByRecursion, list_any, list_all, flat_map}
use Rattle.me_terms.specs.Known.{IsKnownInstance}
use Rattle.me_terms.specs.Labels.{IsClauseLabel, IsFunctionSymbol, IsPredicateSymbol}
use Rattle.me_terms.specs.LabelEquality.{same_symbol}
use Rattle.me_terms.specs.LabelEqualityLaws.{same_symbol_itself}
use Rattle.me_terms.specs.Sequences.{SequenceValue}
use Rattle.me_terms.specs.Signatures.{with_symbol, is_known_atom}
use Rattle.me_terms.specs.TermEqualityLaws.{both_parts}
use Rattle.me_terms.specs.Validity.{IsValidClause, IsValid}
use Rattle.me_terms.specs.Values.{SymbolValue, SignatureValue, ClauseValue, InstanceValue, ProblemValue}
use Rattle.me_terms.specs.declared.atom.Literal.{Literal}
use Rattle.me_terms.specs.declared.bounds.Bound.{Bound}
use Rattle.cnf_text.specs.ClauseText.{clause_text}
use Rattle.szs_print.specs.AnswerText.{gave_up_text}
use Rattle.szs_print.specs.Printable.{IsName}
use Rattle.szs_print.specs.RefutationText as printed
use Rattle.szs_print.specs.StatusText.{status_line, output_line}
use Rattle.tptp_cnf.specs.Meaning.{with_symbols}
use Rattle.tptp_cnf.specs.Plain.{symbols_at, function_numbers}
use Rattle.szs_read.specs.Answers.{IsAnswer}
use Rattle.szs_read.specs.Claims.{IsLineLiteral, IsInstanceLine, IsGrownBy, instance_literals}
use Rattle.szs_read.specs.ClaimText.{instance_line, instance_lines}
use Rattle.szs_read.specs.Printed.{AreLinesOf, IsNumbered, IsPrinted}
use Rattle.szs_read.specs.Values.{InstanceLineValue}
use Rattle.szs_read.specs.declared.claim.Claim.TheVariants.{Refuted, Open}
use Rattle.szs_read.proofs.Symbols.{AreIn}
use Rattle.szs_read.proofs.Grown.{functions_are_in, predicates_are_in, grown_none}
use Rattle.szs_read.proofs.Listed.{literals_of}

-- ---- lists

pub item_at : {X : Type 0} (P : X → Type 0) (xs : List X) (n : ℕ) → AllByRecursion P xs → n < length xs → (x : X) × (slice_get xs n ≡ Some x) × P x
item_at P [] n h e = absurd (omega (arith, e))
item_at P (x ∷ xs) zero h e = (x, refl, h.0)
item_at P (x ∷ xs) (suc n) h e = item_at P xs n h.1 (omega (arith, e))

any_at : {X : Type 0} (p : X → Bool) (xs : List X) (n : ℕ) (x : X) → slice_get xs n ≡ Some x → p x ≡ true → list_any p xs ≡ true
any_at p [] n x h k = absurd cc
any_at p (y ∷ ys) zero x h k = let e : y ≡ x = cc in rw e (rw k refl)
any_at p (y ∷ ys) (suc n) x h k = or_true (p y) (list_any p ys) (any_at p ys n x h k)
  where
    or_true : (a b : Bool) → b ≡ true → (a || b) ≡ true
    or_true true b e = refl
    or_true false b e = e

holds_at : {X : Type 0} (P : X → Type 0) (xs : List X) (n : ℕ) (x : X) → AllByRecursion P xs → slice_get xs n ≡ Some x → P x
holds_at P [] n x h e = absurd cc
holds_at {X} P (y ∷ ys) zero x h e = let f : y ≡ x = cc in subst P f h.0
holds_at P (y ∷ ys) (suc n) x h e = holds_at P ys n x h.1 e

-- ---- known symbols are added by none

known_with : (known : List SymbolValue) (s : SymbolValue) → list_any (same_symbol s) known ≡ true → with_symbol known s ≡ known
known_with known s h = ap (λ (b : Bool). cond b known (known ++ s ∷ [])) h

known_added : (known : List SymbolValue) (ns : List ℕ) → AreIn known ns → with_symbols known (symbols_at known ns) ≡ known
known_added known [] h = refl
known_added known (n ∷ ns) h =
    let s : SymbolValue = h.0.0 in
    ap (λ (o : Option SymbolValue). with_symbols known (option_to_list o ++ symbols_at known ns)) h.0.1
    ∙ ap (λ (v : List SymbolValue). with_symbols v (symbols_at known ns)) (known_with known s (any_at (same_symbol s) known n s h.0.1 (same_symbol_itself s)))
    ∙ known_added known ns h.1

all_at : (P : SymbolValue → Type 0) (known : List SymbolValue) (ns : List ℕ) → AllByRecursion P known → AreIn known ns → AllByRecursion P (symbols_at known ns)
all_at P known [] a h = tt
all_at P known (n ∷ ns) a h =
    subst (λ (o : Option SymbolValue). AllByRecursion P (option_to_list o ++ symbols_at known ns)) (sym h.0.1)
    (holds_at P known n h.0.0 a h.0.1, all_at P known ns a h.1)

pub known_grown : (s : SignatureValue) (ls : List Literal) → AllByRecursion (IsLineLiteral s) ls → AllByRecursion IsFunctionSymbol s.functions → AllByRecursion IsPredicateSymbol s.predicates → IsGrownBy s ls s
known_grown s ls h f p =
    let fs = functions_are_in s 999 ls h in
    let ps = predicates_are_in s 999 ls h in
    record {
      functions = sym (known_added s.functions (flat_map (λ l. function_numbers l.atom.args) ls) fs);
      predicates = sym (known_added s.predicates (map (λ l. l.atom.pred) ls) ps);
      readable_functions = all_at IsFunctionSymbol s.functions (flat_map (λ l. function_numbers l.atom.args) ls) f fs;
      readable_predicates = all_at IsPredicateSymbol s.predicates (map (λ l. l.atom.pred) ls) p ps;
    }

-- ---- refutations

known_literals : (s : SignatureValue) (ls : List Literal) → list_all (λ l. is_known_atom s l.atom) ls ≡ true → AllByRecursion IsPrinted ls → AllByRecursion (IsLineLiteral s) ls
known_literals s [] h k = tt
known_literals s (l ∷ ls) h k =
    let parts = both_parts (is_known_atom s l.atom) (list_all (λ m. is_known_atom s m.atom) ls) h in
    (record { known = parts.0; variables = k.0.0; few_brackets = k.0.1 }, known_literals s ls parts.1 k.1)

module _ (problem : ProblemValue) where
  pub record Made (list : List InstanceValue) : Type 0 where
    pub lines : List InstanceLineValue
    pub are : AreLinesOf problem list lines
    pub lawful : AllByRecursion (IsInstanceLine problem.signature) lines
    pub text : (k : ℕ) → printed.instance_lines problem k list ≡ instance_lines problem.signature k lines

  pub made : (list : List InstanceValue) → AllByRecursion (IsKnownInstance problem) list → AllByRecursion (λ c. IsNumbered c × IsClauseLabel c.label) problem.clauses → AllByRecursion (λ i. AllByRecursion IsPrinted i.literals) list → Made list
  made [] h c p = record { lines = []; are = refl; lawful = tt; text = λ k. refl }
  made (i ∷ list) h c p =
      let found = item_at (λ c. IsNumbered c × IsClauseLabel c.label) problem.clauses i.clause c h.0.clause in
      let clause : ClauseValue = found.0 in
      let line : InstanceLineValue = record { number = clause.number; label = clause.label; literals = i.literals } in
      let more = made list h.1 c p.1 in
      record {
        lines = line ∷ more.lines;
        are = (line, more.lines, refl, (clause, found.1, refl), more.are);
        lawful = (record { number = found.2.0; label = found.2.1; literals = known_literals problem.signature i.literals h.0.literals p.0 }, more.lawful);
        text = λ k.
            ap (λ (o : Option ClauseValue). (codes "cnf(i" ++ decimal k ++ codes ",plain," ++ clause_text problem.signature i.literals ++ codes ",instance(" ++ printed.origin_text o ++ codes ")).\n") ++ printed.instance_lines problem (k + 1) list) found.1
            ∙ ap (λ (v : List ℕ). instance_line problem.signature k line ++ v) (more.text (k + 1));
      }

both_said : (P Q : ClauseValue → Type 0) (cs : List ClauseValue) → AllByRecursion P cs → AllByRecursion Q cs → AllByRecursion (λ c. P c × Q c) cs
both_said P Q [] h k = tt
both_said P Q (c ∷ cs) h k = ((h.0, k.0), both_said P Q cs h.1 k.1)

labels : (s : SignatureValue) (cs : List ClauseValue) → AllByRecursion (IsValidClause s) cs → AllByRecursion (λ c. IsClauseLabel c.label) cs
labels s [] h = tt
labels s (c ∷ cs) h = (h.0.named, labels s cs h.1)

pub printed_refutation : (name : List ℕ) (problem : ProblemValue) (list : List InstanceValue) → IsName name → IsValid problem → All (IsKnownInstance problem) list → AllByRecursion IsNumbered problem.clauses → AllByRecursion (λ i. AllByRecursion IsPrinted i.literals) list → (lines : SequenceValue InstanceLineValue) × AreLinesOf problem list lines.items × IsAnswer problem.signature (printed.refutation_text name problem list) problem.signature (Refuted lines)
printed_refutation name problem list n v h c p =
    let m = made problem list (recursion_from_All (IsKnownInstance problem) list h) (both_said IsNumbered (λ c. IsClauseLabel c.label) problem.clauses c (labels problem.signature problem.clauses (recursion_from_All (IsValidClause problem.signature) problem.clauses v.clauses))) p in
    let status : List ℕ = status_line (codes "Unsatisfiable") name in
    let first : List ℕ = output_line (codes "start Refutation") name in
    let last : List ℕ = output_line (codes "end Refutation") name in
    let rows : List ℕ = instance_lines problem.signature 1 m.lines in (
      record { items = m.lines; spare = 0 },
      m.are,
      record {
        name = name;
        named = n;
        text = ap (λ (v : List ℕ). ((status ++ first) ++ v) ++ last) (m.text 1) ∙ ap (λ (v : List ℕ). v ++ last) (append_assoc status first rows) ∙ append_assoc status (first ++ rows) last;
        lawful = m.lawful;
        grown = known_grown problem.signature (instance_literals m.lines) (literals_of problem.signature m.lines m.lawful) (recursion_from_All IsFunctionSymbol problem.signature.functions v.functions) (recursion_from_All IsPredicateSymbol problem.signature.predicates v.predicates);
      },
    )

pub printed_bound : (name : List ℕ) (signature : SignatureValue) (bound : Bound) → IsName name → IsAnswer signature (gave_up_text name bound) signature (Open bound)
printed_bound name signature bound n = record { name = name; named = n; text = refl; lawful = tt; grown = grown_none signature }
