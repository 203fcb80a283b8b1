-- Which lists of literals are ground instances, and which lists of clauses are refuted.
use Rattle.std.proofs.Common.{◌≡◌, ℕ, zero, suc, ◌<◌, Bool, true, false, eqb, inl, inr, List, [], ◌∷◌, length, get_or, map, refl, sym, subst, ap, ◌∙◌, arith}
use Rattle.std.proofs.lemmas.Option.{same_Some}
use Rattle.std.specs.List.{All}
use Rattle.me_terms.specs.Terms.{TermValue, Arguments, Nil, Cons}
use Rattle.me_terms.specs.Substitutions.{apply_literal}
use Rattle.me_terms.specs.Values.{ClauseValue, InstanceValue}
use Rattle.me_terms.specs.GroundInstances.{is_ground_term, IsGroundInstance}
use Rattle.me_terms.specs.Refuted.{Valuation, IsFalseUnder, IsRefuted}
use Rattle.me_terms.specs.declared.atom.Literal.{Literal}
use Rattle.me_laws.proofs.Lists.{SomeOf, EachOf, all_of, any_of, all_at}
use Rattle.me_laws_examples.specs.Letters.{a, b, x0, p_of, q_of, literal}
use Rattle.me_laws_examples.specs.SmallAnswers.{clause_of, p_of_all}
use Rattle.me_laws_examples.specs.GroundLists.{p_or_q, not_p, not_q, GroundLists}

first_of : Arguments → TermValue
first_of Nil = a
first_of (Cons t ts) = t

argument : List Literal → TermValue
argument [] = a
argument (l ∷ ls) = first_of l.atom.args

-- the argument of an instance of p(X0) is ground
argument_ground : (t : TermValue) → IsGroundInstance p_of_all 0 (literal true (p_of t) ∷ []) → is_ground_term p_of_all t ≡ true
unfolding argument first_of
argument_ground t h =
    let clause = same_Some (clause_of (literal true (p_of x0) ∷ [])) h.0 h.2 in
    let moved : literal true (p_of t) ∷ [] ≡ map (apply_literal h.1) (literal true (p_of x0) ∷ []) = h.4 ∙ ap (λ (z : ClauseValue). map (apply_literal h.1) z.literals) (sym clause) in
    let same : t ≡ h.1 0 = ap argument moved in
    let P : TermValue → Type 0 = λ s. is_ground_term p_of_all s ≡ true in
    subst P (sym same) (h.3 0)

-- ---- refuted
false_by : (value : Valuation) (one two : Bool) → value (p_of a) ≡ one → value (q_of a) ≡ two → SomeOf (λ (i : InstanceValue). EachOf (IsFalseUnder value) i.literals) (p_or_q ∷ not_p ∷ not_q ∷ [])
false_by value false false e f = inl (e, (f, tt))
false_by value true two e f = inr (inl (e, tt))
false_by value false true e f = inr (inr (inl (f, tt)))

all_false : (value : Valuation) (list : List InstanceValue) → SomeOf (λ (i : InstanceValue). EachOf (IsFalseUnder value) i.literals) list → SomeOf (λ (i : InstanceValue). All (IsFalseUnder value) i.literals) list
all_false value [] h = h
all_false value (i ∷ list) (inl h) = inl (all_of (IsFalseUnder value) i.literals h)
all_false value (i ∷ list) (inr h) = inr (all_false value list h)

pub some_at : {A : Type 0} (P : A → Type 0) (xs : List A) (k : ℕ) (y : A) → k < length xs → get_or xs k y ≡ y → P y → SomeOf P xs
some_at P [] k y lt at h = absurd (omega (arith, lt))
some_at P (x ∷ xs) zero y lt at h = inl (subst P (sym at) h)
some_at P (x ∷ xs) (suc k) y lt at h = inr (some_at P xs k y (omega (arith, lt)) at h)

-- q is true, and p is false
q_alone : Valuation
q_alone atom = eqb atom.pred 1

not_both : SomeOf (λ (i : InstanceValue). All (IsFalseUnder q_alone) i.literals) (p_or_q ∷ not_p ∷ []) → ⊥
unfolding q_alone
not_both (inl h) = let bad : true ≡ false = all_at (IsFalseUnder q_alone) p_or_q.literals 1 (literal true (q_of a)) h refl in cc bad
not_both (inr (inl h)) = let bad : false ≡ true = all_at (IsFalseUnder q_alone) not_p.literals 0 (literal false (p_of a)) h refl in cc bad
not_both (inr (inr h)) = h

not_refuted : ¬ IsRefuted (p_or_q ∷ not_p ∷ [])
not_refuted h =
    let found = h q_alone in
    not_both (some_at (λ (i : InstanceValue). All (IsFalseUnder q_alone) i.literals) (p_or_q ∷ not_p ∷ []) found.0 found.1 found.2 found.3 found.4)

pub ground_lists : GroundLists
ground_lists = record {
  instance = (clause_of (literal true (p_of x0) ∷ []), λ x. a, refl, λ x. refl, refl);
  not_ground = λ h. let bad : false ≡ true = argument_ground x0 h in cc bad;
  not_of_signature = λ h. let bad : false ≡ true = argument_ground b h in cc bad;
  refuted = λ value. any_of (λ i. All (IsFalseUnder value) i.literals) (p_or_q ∷ not_p ∷ not_q ∷ []) (all_false value (p_or_q ∷ not_p ∷ not_q ∷ []) (false_by value (value (p_of a)) (value (q_of a)) refl refl));
  not_refuted = λ h. not_refuted h;
}
