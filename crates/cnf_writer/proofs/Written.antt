-- The text of a plain problem is a file that means the problem.
use Rattle.std.proofs.Common.{◌≡◌, ◌≤◌, ℕ, List, [], ◌∷◌, length, ap, arith}
use Rattle.std.proofs.lemmas.List.{length-map}
use Rattle.std.proofs.lemmas.List.Elements.{recursion_from_All}
use Rattle.std.specs.List.{AllByRecursion}
use Rattle.me_terms.specs.Labels.{IsFunctionSymbol, IsPredicateSymbol}
use Rattle.me_terms.specs.Validity.{IsValidClause, clause_variables}
use Rattle.me_terms.specs.Values.{SignatureValue, ClauseValue, ProblemValue}
use Rattle.me_terms.specs.Variables.{first_ones}
use Rattle.tptp_grammar.specs.Limits.{with_variables}
use Rattle.tptp_grammar.specs.Printed.{printed}
use Rattle.tptp_cnf.specs.Files.{IsFile}
use Rattle.tptp_cnf.specs.Plain.{IsWithinLimits, IsPlain}
use Rattle.cnf_writer.specs.ProblemText.{problem_text}
use Rattle.cnf_writer.proofs.Bounds.{Few, WithinLimits, clauses_fine}
use Rattle.cnf_writer.proofs.Marks.{cut_as}
use Rattle.cnf_writer.proofs.Means.{Meant, Known, known_variables, means_itself}
use Rattle.cnf_writer.proofs.Reading.{Readable, lines_read}
use Rattle.cnf_writer.proofs.Spots.{all_within}
use Rattle.cnf_writer.proofs.Trees.{LawfulSignature, variable_text, names, problem_tree}

module _ (signature : SignatureValue) (lawful : LawfulSignature signature) (few : Few signature) where
  -- what the three parts of the proof ask of a clause
  record Ready (c : ClauseValue) : Type 0 where
    meant : Meant signature lawful c
    readable : Readable signature lawful c
    within : WithinLimits signature lawful few c

  ready : (c : ClauseValue) → IsValidClause signature c → IsWithinLimits c → Ready c
  ready c v w =
      let xs : List ℕ = clause_variables c.literals in
      let meant : Meant signature lawful c = record { known = v.known; numbered = v.numbered; label = v.named; few = w.variables } in
      let known : Known signature lawful c = known_variables signature lawful c meant in
      record {
        meant = meant;
        readable = record { label = v.named; small = known.small; known = v.known };
        within = record { known = v.known; literals = w.literals; nesting = w.nesting; variables = few_texts xs known.texts w.variables };
      }
    where
      few_texts : (xs : List ℕ) → with_variables [] (names xs) ≡ names (first_ones [] xs) → length (first_ones [] xs) ≤ 1024 → length (with_variables [] (names xs)) ≤ 1024
      few_texts xs e h = omega (arith, h, ap length e, length-map (first_ones [] xs) (λ x. variable_text x))

  all_meant : (cs : List ClauseValue) → AllByRecursion (IsValidClause signature) cs → AllByRecursion IsWithinLimits cs → AllByRecursion (Meant signature lawful) cs
  all_meant [] v w = tt
  all_meant (c ∷ cs) v w = ((ready c v.0 w.0).meant, all_meant cs v.1 w.1)

  all_readable : (cs : List ClauseValue) → AllByRecursion (IsValidClause signature) cs → AllByRecursion IsWithinLimits cs → AllByRecursion (Readable signature lawful) cs
  all_readable [] v w = tt
  all_readable (c ∷ cs) v w = ((ready c v.0 w.0).readable, all_readable cs v.1 w.1)

  all_limits : (cs : List ClauseValue) → AllByRecursion (IsValidClause signature) cs → AllByRecursion IsWithinLimits cs → AllByRecursion (WithinLimits signature lawful few) cs
  all_limits [] v w = tt
  all_limits (c ∷ cs) v w = ((ready c v.0 w.0).within, all_limits cs v.1 w.1)

pub text_is_file : (p : ProblemValue) → IsPlain p → IsFile (problem_text p) p
text_is_file p h =
    let lawful : LawfulSignature p.signature = record {
      functions = recursion_from_All IsFunctionSymbol p.signature.functions h.valid.functions;
      predicates = recursion_from_All IsPredicateSymbol p.signature.predicates h.valid.predicates;
    } in
    let few : Few p.signature = record { functions = h.arguments; predicates = h.predicate_arguments } in
    let valid = recursion_from_All (IsValidClause p.signature) p.clauses h.valid.clauses in
    let cut = cut_as (printed (problem_tree p)) 0 (problem_text p) (lines_read p.signature lawful p.clauses (all_readable p.signature lawful few p.clauses valid h.within)) in
    record {
      tokens = cut.tokens;
      cut = cut.cut;
      file = problem_tree p;
      written = record {
        written = cut.same;
        within = all_within (printed (problem_tree p))
            (clauses_fine p.signature lawful few p.clauses 0 (omega (arith, h.few_clauses)) (all_limits p.signature lawful few p.clauses valid h.within) 0 [] (omega arith));
      };
      means = means_itself p lawful (all_meant p.signature lawful few p.clauses valid h.within) h.numbers h.functions h.predicates h.constant;
    }
