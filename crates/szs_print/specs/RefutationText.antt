-- The text of a refutation, which is a list of instances.
use Rattle.std.specs.Prelude.{ℕ, ◌+◌, List, [], ◌∷◌, ◌++◌, codes, decimal, slice_get, Option, Some, None}
use Rattle.me_terms.specs.Values.{ClauseValue, InstanceValue, ProblemValue}
use Rattle.cnf_text.specs.ClauseText.{clause_text}
use Rattle.cnf_text.specs.LabelText.{label_text}
use Rattle.szs_print.specs.StatusText.{status_line, output_line}

-- The number and the label of a clause in the file. What is no clause has no text.
abbrev pub origin_text : Option ClauseValue → List ℕ
origin_text None = []
origin_text (Some clause) = decimal clause.number ++ codes "," ++ label_text clause.label

-- The line of the k-th instance.
abbrev pub instance_line : ProblemValue → ℕ → InstanceValue → List ℕ
instance_line problem k i =
    codes "cnf(i" ++ decimal k ++ codes ",plain," ++ clause_text problem.signature i.literals ++ codes ",instance(" ++ origin_text (slice_get problem.clauses i.clause) ++ codes ")).\n"

-- The lines of the instances, numbered from k on.
abbrev pub instance_lines : ProblemValue → ℕ → List InstanceValue → List ℕ
instance_lines problem k [] = []
instance_lines problem k (i ∷ list) = instance_line problem k i ++ instance_lines problem (k + 1) list

-- The instances are numbered from 1.
abbrev pub refutation_text : List ℕ → ProblemValue → List InstanceValue → List ℕ
refutation_text name problem list =
    status_line (codes "Unsatisfiable") name ++ output_line (codes "start Refutation") name ++ instance_lines problem 1 list ++ output_line (codes "end Refutation") name
