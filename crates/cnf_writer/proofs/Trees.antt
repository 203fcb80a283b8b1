-- Problems as the trees of the files that are written of them.
use Rattle.std.proofs.Common.{◌≡◌, ◌≤◌, ℕ, zero, suc, Bool, true, false, List, [], ◌∷◌, ◌++◌, map, Option, Some, None, refl, sym, ap, ◌∙◌, arith}
use Rattle.std.proofs.lemmas.Bool.{eqb-true}
use Rattle.std.proofs.lemmas.List.{map-append}
use Rattle.std.specs.Prelude.{codes, decimal, slice_get}
use Rattle.std.specs.List.{AllByRecursion}
use Rattle.me_terms.specs.Labels.{IsReadableAs, IsFunctionForm, IsFunctionSymbol, IsPredicateSymbol}
use Rattle.me_terms.specs.Signatures.{takes}
use Rattle.me_terms.specs.Terms.{TermValue, Var, App, Arguments, Nil, Cons, AtomValue}
use Rattle.me_terms.specs.Values.{LabelValue, SymbolValue, SignatureValue, ClauseValue, ProblemValue}
use Rattle.me_terms.specs.Variables.{count}
use Rattle.me_terms.specs.declared.atom.Literal.{Literal}
use Rattle.me_terms.specs.declared.symbol.Form.{Form}
use Rattle.me_terms.specs.declared.symbol.Form.TheVariants as form
use Rattle.tptp_tokens.specs.Bytes.{is_lower_word}
use Rattle.tptp_grammar.specs.Written.{Name, Bare, Quoted, WrittenTerm, Variable, Distinct, Apply, WrittenTerms, NoTerms, OneMore, WrittenAtom, Truth, Predicate, Sign, Positive, Negative, WrittenLiteral, WrittenLabel, Named, Numbered, NoNotes, WrittenFormula}
use Rattle.tptp_grammar.specs.Limits.{with_variables}
use Rattle.tptp_cnf.specs.Meaning.{word, distinct, symbol}
use Rattle.tptp_cnf.proofs.Numbering.{texts-append}

-- ---- trees

abbrev pub name_if : Bool → List ℕ → Name
name_if true text = Bare text
name_if false text = Quoted text

abbrev pub name_of : List ℕ → Name
name_of text = name_if (is_lower_word text) text

abbrev pub label_as : Form → List ℕ → WrittenLabel
label_as form.Word text = Named (name_of text)
label_as form.Distinct text = Named (name_of text)
label_as form.Number text = Numbered text

abbrev pub variable_text : ℕ → List ℕ
variable_text x = 88 ∷ decimal x

abbrev pub applied_as : Form → List ℕ → WrittenTerms → WrittenTerm
applied_as form.Word text ts = Apply (name_of text) ts
applied_as form.Distinct text ts = Distinct text
applied_as form.Number text ts = Apply (name_of text) ts

abbrev pub applied : Option SymbolValue → WrittenTerms → WrittenTerm
applied None ts = Apply (Bare []) ts
applied (Some s) ts = applied_as s.label.form s.label.text ts

abbrev mutual
  pub term_tree : List SymbolValue → TermValue → WrittenTerm
  term_tree functions (Var x) = Variable (variable_text x)
  term_tree functions (App f ts) = applied (slice_get functions f) (terms_tree functions ts)

  pub terms_tree : List SymbolValue → Arguments → WrittenTerms
  terms_tree functions Nil = NoTerms
  terms_tree functions (Cons t ts) = OneMore (term_tree functions t) (terms_tree functions ts)

abbrev pub predicate : Option SymbolValue → WrittenTerms → WrittenAtom
predicate None ts = Predicate (Bare []) ts
predicate (Some s) ts = Predicate (name_of s.label.text) ts

abbrev pub atom_tree : SignatureValue → AtomValue → WrittenAtom
atom_tree signature a = predicate (slice_get signature.predicates a.pred) (terms_tree signature.functions a.args)

abbrev pub sign_of : Bool → Sign
sign_of true = Positive
sign_of false = Negative

abbrev pub literal_tree : SignatureValue → Literal → WrittenLiteral
literal_tree signature l = record { sign = sign_of l.positive; atom = atom_tree signature l.atom }

abbrev pub literal_trees : SignatureValue → List Literal → List WrittenLiteral
literal_trees signature ls = map (λ l. literal_tree signature l) ls

abbrev pub falsity : WrittenLiteral
falsity = record { sign = Positive; atom = Truth false }

abbrev pub framed : LabelValue → WrittenLiteral → List WrittenLiteral → WrittenFormula
framed label first others = record { label = label_as label.form label.text; role = codes "axiom"; role_known = refl; brackets = 0; first = first; others = others; notes = NoNotes }

-- the empty clause is $false
abbrev pub formula_tree : SignatureValue → LabelValue → List Literal → WrittenFormula
formula_tree signature label [] = framed label falsity []
formula_tree signature label (l ∷ ls) = framed label (literal_tree signature l) (literal_trees signature ls)

abbrev pub clauses_tree : SignatureValue → List ClauseValue → List WrittenFormula
clauses_tree signature cs = map (λ c. formula_tree signature c.label c.literals) cs

abbrev pub problem_tree : ProblemValue → List WrittenFormula
problem_tree problem = clauses_tree problem.signature problem.clauses

-- ---- symbols

-- the symbol is a word, or a distinct object, and takes n arguments
pub data Entry (o : Option SymbolValue) (n : ℕ) : Type 0 where
  a_word : (text : List ℕ) → o ≡ Some (symbol (word text) n) → IsReadableAs form.Word text → Entry o n
  an_object : (text : List ℕ) → o ≡ Some (symbol (distinct text) n) → IsReadableAs form.Distinct text → n ≡ 0 → Entry o n

entry_of : (s : SymbolValue) (n : ℕ) → IsFunctionSymbol s → s.arity ≡ n → Entry (Some s) n
entry_of s n h e = by s.label.form refl h.0 h.1
  where
    by : (f : Form) → s.label.form ≡ f → IsReadableAs f s.label.text → IsFunctionForm f s.arity → Entry (Some s) n
    by form.Word f r k = a_word s.label.text (λ i. Some (record { label = record { form = f i; text = s.label.text }; arity = e i })) r
    by form.Distinct f r k = an_object s.label.text (λ i. Some (record { label = record { form = f i; text = s.label.text }; arity = e i })) r (sym e ∙ k)
    by form.Number f r k = absurd k

pub entry : (functions : List SymbolValue) (f n : ℕ) → AllByRecursion IsFunctionSymbol functions → takes (slice_get functions f) n ≡ true → Entry (slice_get functions f) n
entry [] f n h t = absurd cc
entry (s ∷ ss) zero n h t = entry_of s n h.0 (eqb-true s.arity n t)
entry (s ∷ ss) (suc f) n h t = entry ss f n h.1 t

-- the symbol is a word, and takes n arguments
pub record WordEntry (o : Option SymbolValue) (n : ℕ) : Type 0 where
  pub text : List ℕ
  pub at : o ≡ Some (symbol (word text) n)
  pub readable : IsReadableAs form.Word text

word_entry_of : (s : SymbolValue) (n : ℕ) → IsPredicateSymbol s → s.arity ≡ n → WordEntry (Some s) n
word_entry_of s n h e = record {
  text = s.label.text;
  at = λ i. Some (record { label = record { form = h.1 i; text = s.label.text }; arity = e i });
  readable = subst_form s.label.form h.1 h.0;
}
  where
    subst_form : (f : Form) → f ≡ form.Word → IsReadableAs f s.label.text → IsReadableAs form.Word s.label.text
    subst_form form.Word e r = r
    subst_form form.Distinct e r = absurd cc
    subst_form form.Number e r = absurd cc

pub word_entry : (predicates : List SymbolValue) (p n : ℕ) → AllByRecursion IsPredicateSymbol predicates → takes (slice_get predicates p) n ≡ true → WordEntry (slice_get predicates p) n
word_entry [] p n h t = absurd cc
word_entry (s ∷ ss) zero n h t = word_entry_of s n h.0 (eqb-true s.arity n t)
word_entry (s ∷ ss) (suc p) n h t = word_entry ss p n h.1 t

pub few_arguments : (symbols : List SymbolValue) (f n : ℕ) → AllByRecursion (λ s. s.arity ≤ 64) symbols → takes (slice_get symbols f) n ≡ true → n ≤ 64
few_arguments [] f n h t = absurd cc
few_arguments (s ∷ ss) zero n h t = omega (arith, h.0, eqb-true s.arity n t)
few_arguments (s ∷ ss) (suc f) n h t = few_arguments ss f n h.1 t

pub nil_of : (ts : Arguments) → count ts ≡ 0 → ts ≡ Nil
nil_of Nil e = refl
nil_of (Cons t ts) e = absurd (omega arith)

pub record LawfulSignature (signature : SignatureValue) : Type 0 where
  pub functions : AllByRecursion IsFunctionSymbol signature.functions
  pub predicates : AllByRecursion IsPredicateSymbol signature.predicates

-- ---- lists

pub all_front : (P : ℕ → Type 0) (xs ys : List ℕ) → AllByRecursion P (xs ++ ys) → AllByRecursion P xs
all_front P [] ys h = tt
all_front P (x ∷ xs) ys h = (h.0, all_front P xs ys h.1)

pub all_back : (P : ℕ → Type 0) (xs ys : List ℕ) → AllByRecursion P (xs ++ ys) → AllByRecursion P ys
all_back P [] ys h = h
all_back P (x ∷ xs) ys h = all_back P xs ys h.1

-- the texts of variables
abbrev pub names : List ℕ → List (List ℕ)
names xs = map (λ x. variable_text x) xs

pub with_names : (vs : List (List ℕ)) (xs ys : List ℕ) → with_variables vs (names (xs ++ ys)) ≡ with_variables (with_variables vs (names xs)) (names ys)
with_names vs xs ys = ap (λ (x : List (List ℕ)). with_variables vs x) (map-append (λ x. variable_text x) xs ys) ∙ texts-append (names xs) (names ys) vs
