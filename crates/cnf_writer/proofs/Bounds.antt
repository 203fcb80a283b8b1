-- The tree of a problem within the limits passes none of them.
use Rattle.std.proofs.Common.{◌≡◌, ◌<◌, ◌≤◌, ◌+◌, ℕ, suc, Bool, true, false, List, [], ◌∷◌, ◌++◌, length, Option, refl, sym, ap, subst, arith}
use Rattle.std.proofs.lemmas.Bool.Decides.{nat_tests}
use Rattle.std.proofs.lemmas.List.{length-append}
use Rattle.std.specs.Prelude.{codes, nat_le, slice_get}
use Rattle.std.specs.List.{AllByRecursion, list_all}
use Rattle.me_terms.specs.Measures.{literal_depth}
use Rattle.me_terms.specs.Signatures.{takes, is_known, are_known, is_known_atom}
use Rattle.me_terms.specs.TermEqualityLaws.{both_parts}
use Rattle.me_terms.specs.Terms.{TermValue, Var, App, Arguments, Nil, Cons, AtomValue}
use Rattle.me_terms.specs.Validity.{clause_variables}
use Rattle.me_terms.specs.Values.{LabelValue, SymbolValue, SignatureValue, ClauseValue}
use Rattle.me_terms.specs.Variables.{term_variables, variables_of, count, depth, depths}
use Rattle.me_terms.specs.declared.atom.Literal.{Literal}
use Rattle.me_terms.specs.declared.symbol.Form.{Form}
use Rattle.me_terms.specs.declared.symbol.Form.TheVariants as form
use Rattle.tptp_grammar.specs.Limits.{with_variables}
use Rattle.tptp_grammar.specs.Terminals.{LowerWord, OpenRound, CloseRound, Comma, Dot, Bar, Tilde, Distinct}
use Rattle.tptp_grammar.specs.Terminals as terminal
use Rattle.tptp_grammar.specs.Written.{Name, Bare, Quoted}
use Rattle.tptp_grammar.specs.Printed.{Printed, plain_token, as_part, name_terminal, truth_terminal, label_terminal, term_then, arguments_then, others_then, has_none, atom_then, literal_then, barred_then, formula_then, printed}
use Rattle.tptp_grammar.specs.declared.part.Part.TheVariants.{Formula as FormulaPart, Role as RolePart, Negative as NegativePart, Positive as PositivePart, Atom as AtomPart, Argument as ArgumentPart, Label as LabelPart, OpenArguments, CloseArguments, End as EndPart}
use Rattle.tptp_cnf.proofs.Numbering.{text_longer}
use Rattle.cnf_writer.proofs.Spots.{spot, AllFine, fine}
use Rattle.cnf_writer.proofs.Trees.{name_of, label_as, variable_text, applied, term_tree, terms_tree, predicate, literal_tree, literal_trees, formula_tree, clauses_tree, Entry, a_word, an_object, entry, WordEntry, word_entry, few_arguments, nil_of, LawfulSignature, names, with_names}

never : {A : Type 0} → ◌≡◌ {A = Bool} false true → A
never e = absurd cc

longer : (texts known : List (List ℕ)) → length known ≤ length (with_variables known texts)
longer [] known = omega arith
longer (t ∷ texts) known =
    let one = text_longer known t in
    omega (arith, longer texts (with_variables known (t ∷ [])), ap length one.1, length-append known one.0)

few_front : (vs : List (List ℕ)) (xs ys : List ℕ) → length (with_variables vs (names (xs ++ ys))) ≤ 1024 → length (with_variables vs (names xs)) ≤ 1024
few_front vs xs ys h = omega (arith, ap length (with_names vs xs ys), longer (names ys) (with_variables vs (names xs)))

few_back : (vs : List (List ℕ)) (xs ys : List ℕ) → length (with_variables vs (names (xs ++ ys))) ≤ 1024 → length (with_variables (with_variables vs (names xs)) (names ys)) ≤ 1024
few_back vs xs ys h = omega (arith, ap length (with_names vs xs ys))

few_known : (vs : List (List ℕ)) (xs : List ℕ) → length (with_variables vs (names xs)) ≤ 1024 → length vs ≤ 1024
few_known vs xs h = omega (arith, longer (names xs) vs)

fine_back : (c l d : ℕ) (vs : List (List ℕ)) (xs ys : List ℕ) (ps : List Printed) → AllFine (spot c l (with_variables vs (names (xs ++ ys))) d) ps → AllFine (spot c l (with_variables (with_variables vs (names xs)) (names ys)) d) ps
fine_back c l d vs xs ys ps h = subst (λ (x : List (List ℕ)). AllFine (spot c l x d) ps) (with_names vs xs ys) h

some_depth : (t : TermValue) → 1 ≤ depth t
some_depth (Var x) = omega arith
some_depth (App f ts) = omega arith

few_places : (n : ℕ) → n ≤ 64 → nat_le 65 n ≡ false
few_places n h = grind (arith, nat_tests)

-- ---- single tokens

comma_fine : (c l d : ℕ) (vs : List (List ℕ)) (ps : List Printed) → length vs ≤ 1024 → AllFine (spot c l vs d) ps → AllFine (spot c l vs d) (plain_token Comma ∷ ps)
comma_fine c l d vs ps v h = (fine (spot c l vs d) (plain_token Comma) (λ e. never e) (λ e. never e) refl v (λ e. never e) (λ e. never e), h)

argument_name : (name : Name) (n c l d : ℕ) (vs : List (List ℕ)) (ps : List Printed) → n ≤ 64 → length vs ≤ 1024 → AllFine (spot c l vs d) ps → AllFine (spot c l vs d) (as_part (ArgumentPart n) (name_terminal name) ∷ ps)
argument_name (Bare text) n c l d vs ps a v h = (fine (spot c l vs d) (as_part (ArgumentPart n) (name_terminal (Bare text))) (λ e. never e) (λ e. never e) (few_places n a) v (λ e. never e) (λ e. never e), h)
argument_name (Quoted text) n c l d vs ps a v h = (fine (spot c l vs d) (as_part (ArgumentPart n) (name_terminal (Quoted text))) (λ e. never e) (λ e. never e) (few_places n a) v (λ e. never e) (λ e. never e), h)

positive_name : (name : Name) (ends : Bool) (c l d : ℕ) (vs : List (List ℕ)) (ps : List Printed) → l < 4096 → length vs ≤ 1024 → AllFine (spot c (suc l) vs d) ps → AllFine (spot c l vs d) ((record { terminal = name_terminal name; part = PositivePart; ends_atom = ends }) ∷ ps)
positive_name (Bare text) ends c l d vs ps k v h = (fine (spot c l vs d) (record { terminal = name_terminal (Bare text); part = PositivePart; ends_atom = ends }) (λ e. never e) (λ e. k) refl v (λ e. never e) (λ e. never e), h)
positive_name (Quoted text) ends c l d vs ps k v h = (fine (spot c l vs d) (record { terminal = name_terminal (Quoted text); part = PositivePart; ends_atom = ends }) (λ e. never e) (λ e. k) refl v (λ e. never e) (λ e. never e), h)

atom_name : (name : Name) (ends : Bool) (c l d : ℕ) (vs : List (List ℕ)) (ps : List Printed) → length vs ≤ 1024 → AllFine (spot c l vs d) ps → AllFine (spot c l vs d) ((record { terminal = name_terminal name; part = AtomPart; ends_atom = ends }) ∷ ps)
atom_name (Bare text) ends c l d vs ps v h = (fine (spot c l vs d) (record { terminal = name_terminal (Bare text); part = AtomPart; ends_atom = ends }) (λ e. never e) (λ e. never e) refl v (λ e. never e) (λ e. never e), h)
atom_name (Quoted text) ends c l d vs ps v h = (fine (spot c l vs d) (record { terminal = name_terminal (Quoted text); part = AtomPart; ends_atom = ends }) (λ e. never e) (λ e. never e) refl v (λ e. never e) (λ e. never e), h)

label_name : (name : Name) (c l d : ℕ) (vs : List (List ℕ)) (ps : List Printed) → length vs ≤ 1024 → AllFine (spot c l vs d) ps → AllFine (spot c l vs d) (as_part LabelPart (name_terminal name) ∷ ps)
label_name (Bare text) c l d vs ps v h = (fine (spot c l vs d) (as_part LabelPart (name_terminal (Bare text))) (λ e. never e) (λ e. never e) refl v (λ e. never e) (λ e. never e), h)
label_name (Quoted text) c l d vs ps v h = (fine (spot c l vs d) (as_part LabelPart (name_terminal (Quoted text))) (λ e. never e) (λ e. never e) refl v (λ e. never e) (λ e. never e), h)

label_fine : (f : Form) (text : List ℕ) (c l d : ℕ) (vs : List (List ℕ)) (ps : List Printed) → length vs ≤ 1024 → AllFine (spot c l vs d) ps → AllFine (spot c l vs d) (as_part LabelPart (label_terminal (label_as f text)) ∷ ps)
label_fine form.Word text c l d vs ps v h = label_name (name_of text) c l d vs ps v h
label_fine form.Distinct text c l d vs ps v h = label_name (name_of text) c l d vs ps v h
label_fine form.Number text c l d vs ps v h = (fine (spot c l vs d) (as_part LabelPart (label_terminal (label_as form.Number text))) (λ e. never e) (λ e. never e) refl v (λ e. never e) (λ e. never e), h)

-- ---- terms

pub record Few (signature : SignatureValue) : Type 0 where
  pub functions : AllByRecursion (λ s. s.arity ≤ 64) signature.functions
  pub predicates : AllByRecursion (λ s. s.arity ≤ 64) signature.predicates

module _ (signature : SignatureValue) (lawful : LawfulSignature signature) (few : Few signature) where
  abbrev after : List (List ℕ) → List ℕ → List (List ℕ)
  after vs xs = with_variables vs (names xs)

  applied_fine : (n : ℕ) (o : Option SymbolValue) (ts : Arguments) (c l d : ℕ) (vs : List (List ℕ)) (ps : List Printed) → Entry o (count ts) → n ≤ 64 → length vs ≤ 1024
      → AllFine (spot c l vs d) (arguments_then false (terms_tree signature.functions ts) ps) → AllFine (spot c l vs d) (term_then n (applied o (terms_tree signature.functions ts)) ps)
  applied_fine n o ts c l d vs ps (a_word text e r) a v h =
      subst (λ (x : Option SymbolValue). AllFine (spot c l vs d) (term_then n (applied x (terms_tree signature.functions ts)) ps)) (sym e)
      (argument_name (name_of text) n c l d vs (arguments_then false (terms_tree signature.functions ts) ps) a v h)
  applied_fine n o ts c l d vs ps (an_object text e r z) a v h =
      subst (λ (x : Option SymbolValue). AllFine (spot c l vs d) (term_then n (applied x (terms_tree signature.functions ts)) ps)) (sym e) (
        fine (spot c l vs d) (as_part (ArgumentPart n) (Distinct text)) (λ e. never e) (λ e. never e) (few_places n a) v (λ e. never e) (λ e. never e),
        subst (λ (x : Arguments). AllFine (spot c l vs d) (arguments_then false (terms_tree signature.functions x) ps)) (nil_of ts z) h,
      )

  mutual
    term_fine : (n : ℕ) (t : TermValue) (c l d : ℕ) (vs : List (List ℕ)) (ps : List Printed) → n ≤ 64 → is_known signature t ≡ true → depth t + d ≤ 251 → length (after vs (term_variables t)) ≤ 1024
        → AllFine (spot c l (after vs (term_variables t)) d) ps → AllFine (spot c l vs d) (term_then n (term_tree signature.functions t) ps)
    term_fine n (Var x) c l d vs ps a k b v h =
        (fine (spot c l vs d) (as_part (ArgumentPart n) (terminal.Variable (variable_text x))) (λ e. never e) (λ e. never e) (few_places n a) v (λ e. never e) (λ e. never e), h)
    term_fine n (App f ts) c l d vs ps a k b v h =
        let parts = both_parts (takes (slice_get signature.functions f) (count ts)) (are_known signature ts) k in
        applied_fine n (slice_get signature.functions f) ts c l d vs ps (entry signature.functions f (count ts) lawful.functions parts.0) a (few_known vs (variables_of ts) v)
        (arguments_fine false ts c l d vs ps (few_arguments signature.functions f (count ts) few.functions parts.0) parts.1 (omega (arith, b)) v h)

    arguments_fine : (ends : Bool) (ts : Arguments) (c l d : ℕ) (vs : List (List ℕ)) (ps : List Printed) → count ts ≤ 64 → are_known signature ts ≡ true → depths ts + d ≤ 250 → length (after vs (variables_of ts)) ≤ 1024
        → AllFine (spot c l (after vs (variables_of ts)) d) ps → AllFine (spot c l vs d) (arguments_then ends (terms_tree signature.functions ts) ps)
    arguments_fine ends Nil c l d vs ps a k b v h = h
    arguments_fine ends (Cons t ts) c l d vs ps a k b v h =
        let parts = both_parts (is_known signature t) (are_known signature ts) k in
        let us : List ℕ = term_variables t in
        let ws : List ℕ = variables_of ts in (
          fine (spot c l vs d) (as_part OpenArguments OpenRound) (λ e. never e) (λ e. never e) refl (few_known vs (us ++ ws) v) (λ e. omega (arith, b, some_depth t)) (λ e. never e),
          term_fine 1 t c l (suc d) vs (others_then ends 1 (terms_tree signature.functions ts) ps) (omega arith) parts.0 (omega (arith, b)) (few_front vs us ws v)
              (others_fine ends 1 ts c l d (after vs us) ps (omega (arith, a)) parts.1 (omega (arith, b)) (few_back vs us ws v) (fine_back c l d vs us ws ps h)),
        )

    others_fine : (ends : Bool) (n : ℕ) (ts : Arguments) (c l d : ℕ) (vs : List (List ℕ)) (ps : List Printed) → n + count ts ≤ 64 → are_known signature ts ≡ true → depths ts + d ≤ 250 → length (after vs (variables_of ts)) ≤ 1024
        → AllFine (spot c l (after vs (variables_of ts)) d) ps → AllFine (spot c l vs (suc d)) (others_then ends n (terms_tree signature.functions ts) ps)
    others_fine ends n Nil c l d vs ps a k b v h =
        (fine (spot c l vs (suc d)) (record { terminal = CloseRound; part = CloseArguments n; ends_atom = ends }) (λ e. never e) (λ e. never e) refl v (λ e. never e) (λ e. omega arith), h)
    others_fine ends n (Cons t ts) c l d vs ps a k b v h =
        let parts = both_parts (is_known signature t) (are_known signature ts) k in
        let us : List ℕ = term_variables t in
        let ws : List ℕ = variables_of ts in
        comma_fine c l (suc d) vs (term_then (suc n) (term_tree signature.functions t) (others_then ends (suc n) (terms_tree signature.functions ts) ps)) (few_known vs (us ++ ws) v)
        (term_fine (suc n) t c l (suc d) vs (others_then ends (suc n) (terms_tree signature.functions ts) ps) (omega (arith, a)) parts.0 (omega (arith, b)) (few_front vs us ws v)
        (others_fine ends (suc n) ts c l d (after vs us) ps (omega (arith, a)) parts.1 (omega (arith, b)) (few_back vs us ws v) (fine_back c l d vs us ws ps h)))

  -- ---- literals

  positive_fine : (o : Option SymbolValue) (ts : Arguments) (c l d : ℕ) (vs : List (List ℕ)) (ps : List Printed) → WordEntry o (count ts) → l < 4096 → length vs ≤ 1024
      → AllFine (spot c (suc l) vs d) (arguments_then true (terms_tree signature.functions ts) ps) → AllFine (spot c l vs d) (atom_then PositivePart (predicate o (terms_tree signature.functions ts)) ps)
  positive_fine o ts c l d vs ps e k v h =
      subst (λ (x : Option SymbolValue). AllFine (spot c l vs d) (atom_then PositivePart (predicate x (terms_tree signature.functions ts)) ps)) (sym e.at)
      (positive_name (name_of e.text) (has_none (terms_tree signature.functions ts)) c l d vs (arguments_then true (terms_tree signature.functions ts) ps) k v h)

  negated_fine : (o : Option SymbolValue) (ts : Arguments) (c l d : ℕ) (vs : List (List ℕ)) (ps : List Printed) → WordEntry o (count ts) → length vs ≤ 1024
      → AllFine (spot c l vs d) (arguments_then true (terms_tree signature.functions ts) ps) → AllFine (spot c l vs d) (atom_then AtomPart (predicate o (terms_tree signature.functions ts)) ps)
  negated_fine o ts c l d vs ps e v h =
      subst (λ (x : Option SymbolValue). AllFine (spot c l vs d) (atom_then AtomPart (predicate x (terms_tree signature.functions ts)) ps)) (sym e.at)
      (atom_name (name_of e.text) (has_none (terms_tree signature.functions ts)) c l d vs (arguments_then true (terms_tree signature.functions ts) ps) v h)

  signed_fine : (positive : Bool) (a : AtomValue) (c l d : ℕ) (vs : List (List ℕ)) (ps : List Printed) → is_known_atom signature a ≡ true → l < 4096 → depths a.args + d ≤ 250 → length (after vs (variables_of a.args)) ≤ 1024
      → AllFine (spot c (suc l) (after vs (variables_of a.args)) d) ps → AllFine (spot c l vs d) (literal_then (literal_tree signature (record { positive = positive; atom = a })) ps)
  signed_fine true a c l d vs ps k m b v h =
      let parts = both_parts (takes (slice_get signature.predicates a.pred) (count a.args)) (are_known signature a.args) k in
      positive_fine (slice_get signature.predicates a.pred) a.args c l d vs ps (word_entry signature.predicates a.pred (count a.args) lawful.predicates parts.0) m (few_known vs (variables_of a.args) v)
      (arguments_fine true a.args c (suc l) d vs ps (few_arguments signature.predicates a.pred (count a.args) few.predicates parts.0) parts.1 b v h)
  signed_fine false a c l d vs ps k m b v h =
      let parts = both_parts (takes (slice_get signature.predicates a.pred) (count a.args)) (are_known signature a.args) k in (
        fine (spot c l vs d) (as_part NegativePart Tilde) (λ e. never e) (λ e. m) refl (few_known vs (variables_of a.args) v) (λ e. never e) (λ e. never e),
        negated_fine (slice_get signature.predicates a.pred) a.args c (suc l) d vs ps (word_entry signature.predicates a.pred (count a.args) lawful.predicates parts.0) (few_known vs (variables_of a.args) v)
            (arguments_fine true a.args c (suc l) d vs ps (few_arguments signature.predicates a.pred (count a.args) few.predicates parts.0) parts.1 b v h),
      )

  abbrev all_known : List Literal → Bool
  all_known ls = list_all (λ l. is_known_atom signature l.atom) ls

  abbrev Shallow : List Literal → Type 0
  Shallow ls = AllByRecursion (λ l. literal_depth l ≤ 249) ls

  -- what comes behind a clause is fine, however many literals and variables the clause has
  abbrev FineBehind : ℕ → ℕ → List Printed → Type 0
  FineBehind c d ps = (l : ℕ) (vs : List (List ℕ)) → length vs ≤ 1024 → AllFine (spot c l vs d) ps

  barred_fine : (ls : List Literal) (c l : ℕ) (vs : List (List ℕ)) (ps : List Printed) → all_known ls ≡ true → l + length ls ≤ 4096 → Shallow ls → length (after vs (clause_variables ls)) ≤ 1024
      → FineBehind c 1 ps → AllFine (spot c l vs 1) (barred_then (literal_trees signature ls) ps)
  barred_fine [] c l vs ps k m b v h = h l vs v
  barred_fine (x ∷ ls) c l vs ps k m b v h =
      let parts = both_parts (is_known_atom signature x.atom) (all_known ls) k in
      let us : List ℕ = variables_of x.atom.args in
      let ws : List ℕ = clause_variables ls in (
        fine (spot c l vs 1) (plain_token Bar) (λ e. never e) (λ e. never e) refl (few_known vs (us ++ ws) v) (λ e. never e) (λ e. never e),
        signed_fine x.positive x.atom c l 1 vs (barred_then (literal_trees signature ls) ps) parts.0 (omega (arith, m)) (omega (arith, b.0)) (few_front vs us ws v)
            (barred_fine ls c (suc l) (after vs us) ps parts.1 (omega (arith, m)) b.1 (few_back vs us ws v) h),
      )

  end_fine : (c : ℕ) (ps : List Printed) → FineBehind c 0 ps → FineBehind c 1 (plain_token CloseRound ∷ as_part EndPart Dot ∷ ps)
  end_fine c ps h l vs v = (
    fine (spot c l vs 1) (plain_token CloseRound) (λ e. never e) (λ e. never e) refl v (λ e. never e) (λ e. omega arith),
    (fine (spot c l vs 0) (as_part EndPart Dot) (λ e. never e) (λ e. never e) refl v (λ e. never e) (λ e. never e), h l vs v),
  )

  frame_fine : (label : LabelValue) (c l : ℕ) (vs : List (List ℕ)) (body : List Printed) → c < 1048576 → length vs ≤ 1024 → AllFine (spot (suc c) 0 [] 1) body
      → AllFine (spot c l vs 0) (as_part FormulaPart (LowerWord (codes "cnf")) ∷ plain_token OpenRound ∷ as_part LabelPart (label_terminal (label_as label.form label.text)) ∷ plain_token Comma ∷ as_part RolePart (LowerWord (codes "axiom")) ∷ plain_token Comma ∷ body)
  frame_fine label c l vs body k v h =
      let none : 0 ≤ 1024 = omega arith in (
        fine (spot c l vs 0) (as_part FormulaPart (LowerWord (codes "cnf"))) (λ e. k) (λ e. never e) refl v (λ e. never e) (λ e. never e),
        (
          fine (spot (suc c) 0 [] 0) (plain_token OpenRound) (λ e. never e) (λ e. never e) refl none (λ e. omega arith) (λ e. never e),
          label_fine label.form label.text (suc c) 0 1 [] (plain_token Comma ∷ as_part RolePart (LowerWord (codes "axiom")) ∷ plain_token Comma ∷ body) none
              (comma_fine (suc c) 0 1 [] (as_part RolePart (LowerWord (codes "axiom")) ∷ plain_token Comma ∷ body) none (
                fine (spot (suc c) 0 [] 1) (as_part RolePart (LowerWord (codes "axiom"))) (λ e. never e) (λ e. never e) refl none (λ e. never e) (λ e. never e),
                comma_fine (suc c) 0 1 [] body none h,
              )),
        ),
      )

  formula_fine : (label : LabelValue) (ls : List Literal) (c l : ℕ) (vs : List (List ℕ)) (ps : List Printed) → c < 1048576 → length vs ≤ 1024 → all_known ls ≡ true → length ls ≤ 4096 → Shallow ls
      → length (after [] (clause_variables ls)) ≤ 1024 → FineBehind (suc c) 0 ps → AllFine (spot c l vs 0) (formula_then (formula_tree signature label ls) ps)
  formula_fine label [] c l vs ps m v k n b w h =
      frame_fine label c l vs ((record { terminal = truth_terminal false; part = PositivePart; ends_atom = true }) ∷ plain_token CloseRound ∷ as_part EndPart Dot ∷ ps) m v (
        fine (spot (suc c) 0 [] 1) (record { terminal = truth_terminal false; part = PositivePart; ends_atom = true }) (λ e. never e) (λ e. omega arith) refl w (λ e. never e) (λ e. never e),
        end_fine (suc c) ps h 1 [] w,
      )
  formula_fine label (x ∷ ls) c l vs ps m v k n b w h =
      let parts = both_parts (is_known_atom signature x.atom) (all_known ls) k in
      let us : List ℕ = variables_of x.atom.args in
      let ws : List ℕ = clause_variables ls in
      let close : List Printed = plain_token CloseRound ∷ as_part EndPart Dot ∷ ps in
      let tail : List Printed = barred_then (literal_trees signature ls) close in
      frame_fine label c l vs (literal_then (literal_tree signature x) tail) m v
      (signed_fine x.positive x.atom (suc c) 0 1 [] tail parts.0 (omega arith) (omega (arith, b.0)) (few_front [] us ws w)
      (barred_fine ls (suc c) 1 (after [] us) close parts.1 (omega (arith, n)) b.1 (few_back [] us ws w) (end_fine (suc c) ps h)))

  pub record WithinLimits (c : ClauseValue) : Type 0 where
    pub known : list_all (λ l. is_known_atom signature l.atom) c.literals ≡ true
    pub literals : length c.literals ≤ 4096
    pub nesting : AllByRecursion (λ l. literal_depth l ≤ 249) c.literals
    pub variables : length (with_variables [] (names (clause_variables c.literals))) ≤ 1024

  pub clauses_fine : (cs : List ClauseValue) (n : ℕ) → n + length cs ≤ 1048576 → AllByRecursion WithinLimits cs → FineBehind n 0 (printed (clauses_tree signature cs))
  clauses_fine [] n m h l vs v = tt
  clauses_fine (c ∷ cs) n m h l vs v =
      formula_fine c.label c.literals n l vs (printed (clauses_tree signature cs)) (omega (arith, m)) v h.0.known h.0.literals h.0.nesting h.0.variables
      (clauses_fine cs (suc n) (omega (arith, m)) h.1)
