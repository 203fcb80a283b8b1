-- Ground terms over the functions that a problem has of its own, among those that an answer adds.
use Rattle.std.proofs.Common.{◌≡◌, ◌↔◌, ℕ, ◌<◌, ◌+◌, Bool, true, false, ◌&&◌, ◌||◌, cond, eqb, ltb, List, [], ◌∷◌, length, map, take, slice_get, Option, None, Some, refl, sym, ap, subst, ◌∙◌, arith, IsTrue}
use Rattle.std.proofs.lemmas.Bool.{ltb-true, lt-ltb, eqb-true}
use Rattle.std.proofs.lemmas.Option.{slice_get_within}
use Rattle.std.specs.List.{list_all}
use Rattle.me_terms.specs.Terms.{TermValue, Var, App, Arguments, Nil, Cons, AtomValue}
use Rattle.me_terms.specs.Substitutions.{Substitution, apply_term, apply_arguments, apply_atom, apply_literal}
use Rattle.me_terms.specs.Signatures.{takes, is_known, are_known, is_known_atom}
use Rattle.me_terms.specs.TermEqualityLaws.{both_parts}
use Rattle.me_terms.specs.Values.{SymbolValue, ProblemValue}
use Rattle.me_terms.specs.Variables.{count}
use Rattle.me_terms.specs.GroundInstances.{is_ground_term, are_ground_terms}
use Rattle.me_terms.specs.ListedInstances.{constant}
use Rattle.me_terms.specs.Validity.{IsValid}
use Rattle.me_terms.specs.declared.atom.Literal.{Literal}
use Rattle.me_laws_refutation.proofs.GroundTerms.{constant_ground}
use Rattle.me_laws_refutation.proofs.Known.{both_true, left_true}
use Rattle.me_unify.proofs.Cut.{take_at}
use Rattle.answer_check.specs.Instances.{AreKnown, IsGrown}
use Rattle.answer_check.specs.Own.{is_own_term, are_own_terms}

-- ---- tests

either_true : (a b : Bool) (P : Type 0) → (a || b) ≡ true → (a ≡ true → P) → (b ≡ true → P) → P
either_true true b P h f g = f refl
either_true false b P h f g = g h

taken_within : (symbols : List SymbolValue) (f n : ℕ) → takes (slice_get symbols f) n ≡ true → f < length symbols
taken_within symbols f n h = by_symbol (slice_get symbols f) refl h
  where
    by_symbol : (o : Option SymbolValue) → slice_get symbols f ≡ o → takes o n ≡ true → f < length symbols
    by_symbol None e h = cc h
    by_symbol (Some s) e h = slice_get_within symbols f s e

module _ (own grown : ProblemValue) (functions : ℕ) (grows : IsGrown own grown functions) where
  taken_own : (f n : ℕ) → ltb f functions ≡ true → takes (slice_get grown.signature.functions f) n ≡ true → takes (slice_get own.signature.functions f) n ≡ true
  taken_own f n few h =
      let below : f < length own.signature.functions = subst (λ z. f < z) grows.own_functions (ltb-true f functions few) in
      let there = take_at (length own.signature.functions) grown.signature.functions f below in
      let same : slice_get own.signature.functions f ≡ slice_get grown.signature.functions f = ap (λ (z : List SymbolValue). slice_get z f) (sym grows.first) ∙ there in
      ap (λ (o : Option SymbolValue). takes o n) same ∙ h

  -- ---- what is known and has functions of the problem's own is ground

  mutual
    own_term_ground : (t : TermValue) → is_known grown.signature t ≡ true → is_own_term functions t ≡ true → is_ground_term own t ≡ true
    own_term_ground (Var x) known h = cc h
    own_term_ground (App f ts) known h =
        let k = both_parts (takes (slice_get grown.signature.functions f) (count ts)) (are_known grown.signature ts) known in
        let o = both_parts (ltb f functions) (are_own_terms functions ts) h in
        both_true (takes (slice_get own.signature.functions f) (count ts) || (eqb f own.c0 && eqb (count ts) 0)) (are_ground_terms own ts)
        (left_true (takes (slice_get own.signature.functions f) (count ts)) (eqb f own.c0 && eqb (count ts) 0) (taken_own f (count ts) o.0 k.0))
        (own_terms_ground ts k.1 o.1)

    pub own_terms_ground : (ts : Arguments) → are_known grown.signature ts ≡ true → are_own_terms functions ts ≡ true → are_ground_terms own ts ≡ true
    own_terms_ground Nil known h = refl
    own_terms_ground (Cons t ts) known h =
        let k = both_parts (is_known grown.signature t) (are_known grown.signature ts) known in
        let o = both_parts (is_own_term functions t) (are_own_terms functions ts) h in
        both_true (is_ground_term own t) (are_ground_terms own ts) (own_term_ground t k.0 o.0) (own_terms_ground ts k.1 o.1)

  -- ---- what is ground over the problem's own signature has functions of its own

  below : (f : ℕ) → f < length own.signature.functions → ltb f functions ≡ true
  below f lt = lt-ltb f functions (subst (λ z. f < z) (sym grows.own_functions) lt)

  c0_below : (f : ℕ) → eqb f own.c0 ≡ true → ltb f functions ≡ true
  c0_below f e =
      let c0_there = taken_within own.signature.functions own.c0 0 grows.valid.c0_constant in
      below f (omega (arith, eqb-true f own.c0 e))

  mutual
    ground_term_own : (t : TermValue) → is_ground_term own t ≡ true → is_own_term functions t ≡ true
    ground_term_own (Var x) h = cc h
    ground_term_own (App f ts) h =
        let parts = both_parts (takes (slice_get own.signature.functions f) (count ts) || (eqb f own.c0 && eqb (count ts) 0)) (are_ground_terms own ts) h in
        both_true (ltb f functions) (are_own_terms functions ts)
        (either_true (takes (slice_get own.signature.functions f) (count ts)) (eqb f own.c0 && eqb (count ts) 0) (ltb f functions ≡ true) parts.0
        (λ taken. below f (taken_within own.signature.functions f (count ts) taken))
        (λ is_c0. c0_below f (both_parts (eqb f own.c0) (eqb (count ts) 0) is_c0).0))
        (ground_terms_own ts parts.1)

    pub ground_terms_own : (ts : Arguments) → are_ground_terms own ts ≡ true → are_own_terms functions ts ≡ true
    ground_terms_own Nil h = refl
    ground_terms_own (Cons t ts) h =
        let parts = both_parts (is_ground_term own t) (are_ground_terms own ts) h in
        both_true (is_own_term functions t) (are_own_terms functions ts) (ground_term_own t parts.0) (ground_terms_own ts parts.1)

-- ---- a substitution that leaves nothing but ground terms

-- The substitution, with c0 for what is not a ground term under it.
abbrev pub filled : ProblemValue → Substitution → Substitution
filled own s x = cond (is_ground_term own (s x)) (s x) (constant own.c0)

module _ (own : ProblemValue) (valid : IsValid own) (s : Substitution) where
  by_test : (t : TermValue) (b : Bool) → is_ground_term own t ≡ b → is_ground_term own (cond b t (constant own.c0)) ≡ true
  by_test t true e = e
  by_test t false e = constant_ground own valid

  pub filled_ground : (x : ℕ) → is_ground_term own (filled own s x) ≡ true
  filled_ground x = by_test (s x) (is_ground_term own (s x)) refl

  kept : (t : TermValue) (b : Bool) → b ≡ true → cond b t (constant own.c0) ≡ t
  kept t true e = refl
  kept t false e = cc e

  mutual
    filled_term : (t : TermValue) → is_ground_term own (apply_term s t) ≡ true → apply_term (filled own s) t ≡ apply_term s t
    filled_term (Var x) h = kept (s x) (is_ground_term own (s x)) h
    filled_term (App f ts) h = ap (App f) (filled_terms ts (both_parts _ (are_ground_terms own (apply_arguments s ts)) h).1)

    filled_terms : (ts : Arguments) → are_ground_terms own (apply_arguments s ts) ≡ true → apply_arguments (filled own s) ts ≡ apply_arguments s ts
    filled_terms Nil h = refl
    filled_terms (Cons t ts) h =
        let parts = both_parts (is_ground_term own (apply_term s t)) (are_ground_terms own (apply_arguments s ts)) h in
        λ i. Cons (filled_term t parts.0 i) (filled_terms ts parts.1 i)

  pub filled_literal : (l : Literal) → are_ground_terms own (apply_arguments s l.atom.args) ≡ true → apply_literal (filled own s) l ≡ apply_literal s l
  filled_literal l h = λ i. record { positive = l.positive; atom = record { pred = l.atom.pred; args = filled_terms l.atom.args h i } }

-- ---- ground terms have no variables

module _ (own : ProblemValue) (s : Substitution) where
  mutual
    ground_term_stays : (t : TermValue) → is_ground_term own t ≡ true → apply_term s t ≡ t
    ground_term_stays (Var x) h = cc h
    ground_term_stays (App f ts) h = ap (App f) (ground_terms_stay ts (both_parts _ (are_ground_terms own ts) h).1)

    ground_terms_stay : (ts : Arguments) → are_ground_terms own ts ≡ true → apply_arguments s ts ≡ ts
    ground_terms_stay Nil h = refl
    ground_terms_stay (Cons t ts) h =
        let parts = both_parts (is_ground_term own t) (are_ground_terms own ts) h in
        λ i. Cons (ground_term_stays t parts.0 i) (ground_terms_stay ts parts.1 i)

  pub ground_literal_stays : (l : Literal) → are_ground_terms own l.atom.args ≡ true → apply_literal s l ≡ l
  ground_literal_stays l h = λ i. record { positive = l.positive; atom = record { pred = l.atom.pred; args = ground_terms_stay l.atom.args h i } }
