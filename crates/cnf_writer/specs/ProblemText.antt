-- The text of a problem.
use Rattle.std.specs.Prelude.{ℕ, List, ◌++◌, codes}
use Rattle.std.specs.List.{flat_map}
use Rattle.me_terms.specs.Values.{SignatureValue, ClauseValue, ProblemValue}
use Rattle.cnf_text.specs.ClauseText.{clause_text}
use Rattle.cnf_text.specs.LabelText.{label_text}

-- The line of a clause: its label, the role axiom and its literals.
abbrev pub clause_line : SignatureValue → ClauseValue → List ℕ
clause_line signature c = codes "cnf(" ++ label_text c.label ++ codes ",axiom," ++ clause_text signature c.literals ++ codes ").\n"

-- One line for each clause.
abbrev pub clause_lines : SignatureValue → List ClauseValue → List ℕ
clause_lines signature clauses = flat_map (λ c. clause_line signature c) clauses

abbrev pub problem_text : ProblemValue → List ℕ
problem_text problem = clause_lines problem.signature problem.clauses
