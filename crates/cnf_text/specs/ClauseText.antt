-- The texts of terms, literals and clauses over a signature.
use Rattle.std.specs.Prelude.{ℕ, List, [], ◌∷◌, ◌++◌, codes, decimal, slice_get, Option, Some, None, if◌then◌else◌}
use Rattle.std.specs.List.{flat_map}
use Rattle.me_terms.specs.Terms.{TermValue, Var, App, Arguments, Nil, Cons, AtomValue}
use Rattle.me_terms.specs.Values.{SymbolValue, SignatureValue}
use Rattle.me_terms.specs.declared.atom.Literal.{Literal}
use Rattle.cnf_text.specs.LabelText.{label_text}

-- A symbol's label. What is no symbol of the signature has no text.
abbrev pub symbol_text : Option SymbolValue → List ℕ
symbol_text None = []
symbol_text (Some symbol) = label_text symbol.label

abbrev mutual
  -- A variable is `X` and its number.
  pub term_text : SignatureValue → TermValue → List ℕ
  term_text signature (Var x) = codes "X" ++ decimal x
  term_text signature (App f ts) = symbol_text (slice_get signature.functions f) ++ arguments_text signature ts

  -- In round brackets, joined by commas; nothing where there is none.
  pub arguments_text : SignatureValue → Arguments → List ℕ
  arguments_text signature Nil = []
  arguments_text signature (Cons t ts) = codes "(" ++ term_text signature t ++ others_text signature ts ++ codes ")"

  -- Each behind a comma.
  pub others_text : SignatureValue → Arguments → List ℕ
  others_text signature Nil = []
  others_text signature (Cons t ts) = codes "," ++ term_text signature t ++ others_text signature ts

abbrev pub atom_text : SignatureValue → AtomValue → List ℕ
atom_text signature a = symbol_text (slice_get signature.predicates a.pred) ++ arguments_text signature a.args

-- A negative literal is `~` before its atom.
abbrev pub literal_text : SignatureValue → Literal → List ℕ
literal_text signature l = (if l.positive then [] else codes "~") ++ atom_text signature l.atom

-- Each behind a bar.
abbrev pub barred_text : SignatureValue → List Literal → List ℕ
barred_text signature ls = flat_map (λ l. codes " | " ++ literal_text signature l) ls

-- The literals, joined by bars; the empty clause is `$false`.
abbrev pub clause_text : SignatureValue → List Literal → List ℕ
clause_text signature [] = codes "$false"
clause_text signature (l ∷ ls) = literal_text signature l ++ barred_text signature ls
