-- What the limits of a file count, as one goes from token to token.
use Rattle.std.proofs.Common.{◌≡◌, ◌<◌, ◌≤◌, ◌+◌, ℕ, zero, suc, pred, Bool, true, false, cond, List, [], ◌∷◌, ◌++◌, length, refl, sym, ap, ◌∙◌, append_assoc, arith}
use Rattle.std.proofs.lemmas.Bool.Decides.{nat_tests}
use Rattle.std.proofs.lemmas.List.{append-nil}
use Rattle.std.proofs.lemmas.List.Sums.{sum_by_push}
use Rattle.std.specs.Prelude.{◌&&◌, nat_le, if◌then◌else◌}
use Rattle.std.specs.List.{count_by}
use Rattle.tptp_grammar.specs.Terminals.{Terminal, OpenRound, OpenSquare}
use Rattle.tptp_grammar.specs.Printed.{Printed}
use Rattle.tptp_grammar.specs.Files.{PassesNoLimit}
use Rattle.tptp_grammar.specs.Limits.{begins_formula, begins_literal, begins_argument_behind, opens, closes, variable_as, with_variables, formulas_in, open_in, of_formula, literals_in, variables_met, variables_in, passes}
use Rattle.tptp_grammar.specs.declared.refusal.Which.{Which}
use Rattle.tptp_grammar.specs.declared.refusal.Which.TheVariants.{Clauses, Literals, Arguments, Variables, Nesting}

-- how many formulas have begun, the literals and the variables of the last one, and how many brackets are open
pub record Spot : Type 0 where
  pub formulas : ℕ
  pub literals : ℕ
  pub known : List (List ℕ)
  pub opened : ℕ

abbrev pub spot : ℕ → ℕ → List (List ℕ) → ℕ → Spot
spot c l vs d = record { formulas = c; literals = l; known = vs; opened = d }

abbrev pub behind : Spot → Printed → Spot
behind s p = record {
  formulas = if begins_formula p.part then suc s.formulas else s.formulas;
  literals = if begins_formula p.part then 0 else if begins_literal p.part then suc s.literals else s.literals;
  known = if begins_formula p.part then [] else with_variables s.known (variable_as p.part p.terminal);
  opened = if opens p.terminal then suc s.opened else if closes p.terminal then pred s.opened else s.opened;
}

abbrev passes_at : Which → Spot → Printed → Bool
passes_at Clauses s p = begins_formula p.part && nat_le 1048576 s.formulas
passes_at Literals s p = begins_literal p.part && nat_le 4096 s.literals
passes_at Arguments s p = begins_argument_behind 64 p.part
passes_at Variables s p = nat_le 1025 (length (with_variables s.known (variable_as p.part p.terminal)))
passes_at Nesting s p = opens p.terminal && nat_le 250 s.opened

-- the token passes no limit, and a bracket that closes was open
pub record Fine (s : Spot) (p : Printed) : Type 0 where
  pub limits : (which : Which) → passes_at which s p ≡ false
  pub was_open : closes p.terminal ≡ true → 1 ≤ s.opened

abbrev pub AllFine : Spot → List Printed → Type 0
AllFine s [] = Unit {0}
AllFine s (p ∷ ps) = Fine s p × AllFine (behind s p) ps

and_false : (a b : Bool) → (a ≡ true → b ≡ false) → (a && b) ≡ false
and_false true b h = h refl
and_false false b h = refl

more : (n m : ℕ) → m < n → nat_le n m ≡ false
more n m h = grind (arith, nat_tests)

pub fine : (s : Spot) (p : Printed) → (begins_formula p.part ≡ true → s.formulas < 1048576) → (begins_literal p.part ≡ true → s.literals < 4096) → begins_argument_behind 64 p.part ≡ false
    → length (with_variables s.known (variable_as p.part p.terminal)) ≤ 1024 → (opens p.terminal ≡ true → s.opened ≤ 249) → (closes p.terminal ≡ true → 1 ≤ s.opened) → Fine s p
fine s p f l a v o c = record { limits = each; was_open = c }
  where
    each : (which : Which) → passes_at which s p ≡ false
    each Clauses = and_false (begins_formula p.part) (nat_le 1048576 s.formulas) (λ e. more 1048576 s.formulas (f e))
    each Literals = and_false (begins_literal p.part) (nat_le 4096 s.literals) (λ e. more 4096 s.literals (l e))
    each Arguments = a
    each Variables = more 1025 (length (with_variables s.known (variable_as p.part p.terminal))) (omega (arith, v))
    each Nesting = and_false (opens p.terminal) (nat_le 250 s.opened) (λ e. more 250 s.opened (omega (arith, o e)))

-- ---- a spot is what the limits see

record Seen (before : List Printed) (s : Spot) : Type 0 where
  formulas : formulas_in before ≡ s.formulas
  literals : literals_in before ≡ s.literals
  known : variables_in before ≡ s.known
  balance : count_by (λ p. opens p.terminal) before ≡ count_by (λ p. closes p.terminal) before + s.opened

count_on : (q : Printed → Bool) (xs : List Printed) (p : Printed) → count_by q (xs ++ p ∷ []) ≡ count_by q xs + cond (q p) 1 0
count_on q xs p = sum_by_push (λ (x : Printed). cond (q x) 1 0) xs p

by_first : (b c : Bool) (xs ys zs ws : List Printed) (p : Printed) → xs ≡ cond c [] (zs ++ p ∷ []) → ys ≡ cond c [] (ws ++ p ∷ []) → cond b xs ys ≡ cond c [] (cond b zs ws ++ p ∷ [])
by_first true c xs ys zs ws p e f = e
by_first false c xs ys zs ws p e f = f

of_formula_on : (acc xs : List Printed) (p : Printed) → of_formula acc (xs ++ p ∷ []) ≡ cond (begins_formula p.part) [] (of_formula acc xs ++ p ∷ [])
of_formula_on acc [] p = refl
of_formula_on acc (x ∷ xs) p =
    by_first (begins_formula x.part) (begins_formula p.part) (of_formula [] (xs ++ p ∷ [])) (of_formula (acc ++ x ∷ []) (xs ++ p ∷ [])) (of_formula [] xs) (of_formula (acc ++ x ∷ []) xs) p
    (of_formula_on [] xs p) (of_formula_on (acc ++ x ∷ []) xs p)

variables_on : (known : List (List ℕ)) (xs : List Printed) (p : Printed) → variables_met known (xs ++ p ∷ []) ≡ with_variables (variables_met known xs) (variable_as p.part p.terminal)
variables_on known [] p = refl
variables_on known (x ∷ xs) p = variables_on (with_variables known (variable_as x.part x.terminal)) xs p

one_if : (b : Bool) (n m : ℕ) → n ≡ m → n + cond b 1 0 ≡ cond b (suc m) m
one_if true n m e = omega arith
one_if false n m e = omega arith

abbrev literals_of : List Printed → ℕ
literals_of xs = count_by (λ p. begins_literal p.part) xs

literals_if : (b : Bool) (xs : List Printed) (p : Printed) (n : ℕ) → literals_of xs ≡ n → literals_of (cond b [] (xs ++ p ∷ [])) ≡ cond b 0 (cond (begins_literal p.part) (suc n) n)
literals_if true xs p n e = refl
literals_if false xs p n e = count_on (λ q. begins_literal q.part) xs p ∙ one_if (begins_literal p.part) (literals_of xs) n e

known_if : (b : Bool) (xs : List Printed) (p : Printed) (vs : List (List ℕ)) → variables_met [] xs ≡ vs → variables_met [] (cond b [] (xs ++ p ∷ [])) ≡ cond b [] (with_variables vs (variable_as p.part p.terminal))
known_if true xs p vs e = refl
known_if false xs p vs e = variables_on [] xs p ∙ ap (λ (x : List (List ℕ)). with_variables x (variable_as p.part p.terminal)) e

balance_if : (o c : Bool) (x y n : ℕ) → x ≡ y + n → (c ≡ true → 1 ≤ n) → (o ≡ true → c ≡ false) → x + cond o 1 0 ≡ (y + cond c 1 0) + cond o (suc n) (cond c (pred n) n)
balance_if true true x y n e h k = let z : true ≡ false = k refl in absurd cc
balance_if true false x y n e h k = omega arith
balance_if false true x y zero e h k = let z = h refl in absurd (omega arith)
balance_if false true x y (suc n) e h k = omega arith
balance_if false false x y n e h k = omega arith

opens_alone : (t : Terminal) → opens t ≡ true → closes t ≡ false
opens_alone OpenRound e = refl
opens_alone OpenSquare e = refl
opens_alone t e = absurd cc

seen_on : (before : List Printed) (s : Spot) (p : Printed) → Seen before s → (closes p.terminal ≡ true → 1 ≤ s.opened) → Seen (before ++ p ∷ []) (behind s p)
seen_on before s p h c = record {
  formulas = count_on (λ q. begins_formula q.part) before p ∙ one_if (begins_formula p.part) (formulas_in before) s.formulas h.formulas;
  literals = ap literals_of (of_formula_on [] before p) ∙ literals_if (begins_formula p.part) (of_formula [] before) p s.literals h.literals;
  known = ap (λ (x : List Printed). variables_met [] x) (of_formula_on [] before p) ∙ known_if (begins_formula p.part) (of_formula [] before) p s.known h.known;
  balance =
      count_on (λ q. opens q.terminal) before p
      ∙ balance_if (opens p.terminal) (closes p.terminal) (count_by (λ q. opens q.terminal) before) (count_by (λ q. closes q.terminal) before) s.opened h.balance c (opens_alone p.terminal)
      ∙ ap (λ (n : ℕ). n + (behind s p).opened) (sym (count_on (λ q. closes q.terminal) before p));
}

passes_same : (which : Which) (before : List Printed) (s : Spot) (p : Printed) → Seen before s → passes which before p ≡ passes_at which s p
passes_same Clauses before s p h = ap (λ (n : ℕ). begins_formula p.part && nat_le 1048576 n) h.formulas
passes_same Literals before s p h = ap (λ (n : ℕ). begins_literal p.part && nat_le 4096 n) h.literals
passes_same Arguments before s p h = refl
passes_same Variables before s p h = ap (λ (x : List (List ℕ)). nat_le 1025 (length (with_variables x (variable_as p.part p.terminal)))) h.known
passes_same Nesting before s p h =
    let e : open_in before ≡ s.opened = omega (arith, h.balance) in
    ap (λ (n : ℕ). opens p.terminal && nat_le 250 n) e

head_is : (p q : Printed) (ps qs : List Printed) → p ∷ ps ≡ q ∷ qs → p ≡ q
head_is p q ps qs e = cc

tail_is : (p q : Printed) (ps qs : List Printed) → p ∷ ps ≡ q ∷ qs → ps ≡ qs
tail_is p q ps qs e = cc

pick : (ps front after : List Printed) (p : Printed) (which : Which) (before : List Printed) (s : Spot) → Seen before s → AllFine s ps → ps ≡ front ++ p ∷ after → passes which (before ++ front) p ≡ false
pick [] [] after p which before s seen h e = absurd cc
pick [] (q ∷ front) after p which before s seen h e = absurd cc
pick (q ∷ ps) [] after p which before s seen h e =
    ap (λ (x : List Printed). passes which x p) (append-nil before) ∙ passes_same which before s p seen ∙ ap (λ (x : Printed). passes_at which s x) (sym (head_is q p ps after e)) ∙ h.0.limits which
pick (q ∷ ps) (r ∷ front) after p which before s seen h e =
    let same : q ≡ r = head_is q r ps (front ++ p ∷ after) e in
    ap (λ (x : List Printed). passes which x p) (ap (λ (x : Printed). before ++ x ∷ front) (sym same) ∙ sym (append_assoc before (q ∷ []) front))
    ∙ pick ps front after p which (before ++ q ∷ []) (behind s q) (seen_on before s q seen h.0.was_open) h.1 (tail_is q r ps (front ++ p ∷ after) e)

pub all_within : (ps : List Printed) → AllFine (spot 0 0 [] 0) ps → PassesNoLimit ps
all_within ps h before after p which e = pick ps before after p which [] (spot 0 0 [] 0) (record { formulas = refl; literals = refl; known = refl; balance = refl }) h e
