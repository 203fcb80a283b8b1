-- A line that matches a clause and has functions of the problem's own is a ground instance of the clause, and the other way round.
use Rattle.std.proofs.Common.{◌≡◌, ◌↔◌, ℕ, zero, suc, ◌<◌, Bool, true, false, ◌&&◌, List, [], ◌∷◌, length, map, slice_get, Some, refl, sym, ap, subst, ◌∙◌, arith, IsTrue}
use Rattle.std.proofs.lemmas.Option.{same_Some, slice_get_within, slice_get-get_or, get_or_from_slice_get}
use Rattle.std.specs.List.{Any, list_all}
use Rattle.me_terms.specs.Terms.{Var}
use Rattle.me_terms.specs.Substitutions.{Substitution, Family, apply_arguments, apply_literal}
use Rattle.me_terms.specs.Signatures.{takes, are_known, is_known_atom}
use Rattle.me_terms.specs.TermEqualityLaws.{both_parts}
use Rattle.me_terms.specs.Values.{ClauseValue, ProblemValue}
use Rattle.me_terms.specs.Variables.{count}
use Rattle.me_terms.specs.GroundInstances.{is_ground_term, are_ground_terms, IsGroundInstance}
use Rattle.me_terms.specs.Positions.{ClauseAt}
use Rattle.me_terms.specs.Validity.{IsValidClause}
use Rattle.me_terms.specs.declared.atom.Literal.{Literal}
use Rattle.me_laws.proofs.Generality.{atom_unchanged}
use Rattle.me_laws.proofs.Lists.{all_at}
use Rattle.me_laws_refutation.proofs.GroundTerms.{all_ground_under}
use Rattle.me_laws_refutation.proofs.Known.{both_true}
use Rattle.szs_read.specs.Values.{InstanceLineValue}
use Rattle.answer_check.specs.Instances.{AreKnown, HasMatch, IsGrown, IsMatched, IsMatchedLine, IsOwnInstance}
use Rattle.answer_check.specs.Own.{are_own_terms}
use Rattle.answer_check.proofs.Owning.{own_terms_ground, ground_terms_own, filled, filled_ground, filled_literal, ground_literal_stays}

-- The functions of the literals have numbers below this one, and no variable stands in them.
abbrev pub AreOwn : ℕ → List Literal → Type 0
AreOwn functions literals = IsTrue (list_all (λ (l : Literal). are_own_terms functions l.atom.args) literals)

-- ---- from a match

module _ (own grown : ProblemValue) (functions : ℕ) (grows : IsGrown own grown functions) where
  instance_one : (u : Family) (l m : Literal) → is_known_atom grown.signature m.atom ≡ true → are_own_terms functions m.atom.args ≡ true
      → apply_literal (u 0) l ≡ apply_literal (u 1) m → m ≡ apply_literal (filled own (u 0)) l
  instance_one u l m known owned e =
      let k = both_parts (takes (slice_get grown.signature.predicates m.atom.pred) (count m.atom.args)) (are_known grown.signature m.atom.args) known in
      let ground = own_terms_ground own grown functions grows m.atom.args k.1 owned in
      let same : apply_literal (u 0) l ≡ m = e ∙ ground_literal_stays own (u 1) m ground in
      let P : Literal → Type 0 = λ z. are_ground_terms own z.atom.args ≡ true in
      sym (filled_literal own grows.valid (u 0) l (subst P (sym same) ground) ∙ same)

  instance_all : (u : Family) (ls ms : List Literal) → AreKnown grown.signature ms → AreOwn functions ms
      → map (apply_literal (u 0)) ls ≡ map (apply_literal (u 1)) ms → ms ≡ map (apply_literal (filled own (u 0))) ls
  instance_all u [] [] known owned e = refl
  instance_all u [] (m ∷ ms) known owned e = cc
  instance_all u (l ∷ ls) [] known owned e = cc
  instance_all u (l ∷ ls) (m ∷ ms) known owned e =
      let k = both_parts (is_known_atom grown.signature m.atom) (list_all (λ (z : Literal). is_known_atom grown.signature z.atom) ms) known in
      let o = both_parts (are_own_terms functions m.atom.args) (list_all (λ (z : Literal). are_own_terms functions z.atom.args) ms) owned in
      let first : apply_literal (u 0) l ≡ apply_literal (u 1) m = cc in
      let rest : map (apply_literal (u 0)) ls ≡ map (apply_literal (u 1)) ms = cc in
      λ i. instance_one u l m k.0 o.0 first i ∷ instance_all u ls ms k.1 o.1 rest i

  pub instance_of_match : (line : InstanceLineValue) → AreKnown grown.signature line.literals → AreOwn functions line.literals → HasMatch grown.clauses line → IsOwnInstance own line
  instance_of_match line known owned h =
      let clause = h.1 in
      let there : slice_get grown.clauses h.0 ≡ Some clause = slice_get-get_or grown.clauses h.0 clause h.2 ∙ ap Some h.3 in
      let at : ClauseAt own h.0 clause = subst (λ (z : List ClauseValue). slice_get z h.0 ≡ Some clause) grows.clauses there in
      let u = h.4.literals.0 in
      record {
        place = h.0;
        clause = clause;
        clause_at = at;
        number = sym h.4.number;
        label = sym h.4.label;
        instance = (clause, filled own (u 0), at, filled_ground own grows.valid (u 0), instance_all u clause.literals line.literals known owned h.4.literals.1);
      }

  -- ---- and back

  own_all : (s : Substitution) → ((x : ℕ) → is_ground_term own (s x) ≡ true) → (ls : List Literal) → AreKnown own.signature ls → AreOwn functions (map (apply_literal s) ls)
  own_all s ground [] known = refl
  own_all s ground (l ∷ ls) known =
      let k = both_parts (is_known_atom own.signature l.atom) (list_all (λ (z : Literal). is_known_atom own.signature z.atom) ls) known in
      let args = both_parts (takes (slice_get own.signature.predicates l.atom.pred) (count l.atom.args)) (are_known own.signature l.atom.args) k.0 in
      both_true (are_own_terms functions (apply_arguments s l.atom.args)) (list_all (λ (z : Literal). are_own_terms functions z.atom.args) (map (apply_literal s) ls))
      (ground_terms_own own grown functions grows (apply_arguments s l.atom.args) (all_ground_under own s ground l.atom.args args.1))
      (own_all s ground ls k.1)

  pub own_of_instance : (line : InstanceLineValue) → IsOwnInstance own line → AreOwn functions line.literals
  own_of_instance line h =
      let clause = h.instance.0 in
      let valid = all_at (IsValidClause own.signature) own.clauses h.place clause grows.valid.clauses h.instance.2 in
      let P : List Literal → Type 0 = λ z. AreOwn functions z in
      subst P (sym h.instance.4) (own_all h.instance.1 h.instance.3 clause.literals valid.known)

all_unchanged : (ls : List Literal) → map (apply_literal Var) ls ≡ ls
all_unchanged [] = refl
all_unchanged (l ∷ ls) = λ i. (record { positive = l.positive; atom = atom_unchanged l.atom i }) ∷ all_unchanged ls i

-- The clause's variables under one substitution, and the line's as they are.
aside : Substitution → Family
aside s zero x = s x
aside s (suc n) x = Var x

module _ (own grown : ProblemValue) (functions : ℕ) (grows : IsGrown own grown functions) where
  pub match_of_instance : (line : InstanceLineValue) → IsOwnInstance own line → HasMatch grown.clauses line
  unfolding aside
  match_of_instance line h =
      let s = h.instance.1 in
      let same : h.instance.0 ≡ h.clause = same_Some h.instance.0 h.clause (sym h.instance.2 ∙ h.clause_at) in
      let at : slice_get grown.clauses h.place ≡ Some h.clause = subst (λ (z : List ClauseValue). slice_get z h.place ≡ Some h.clause) (sym grows.clauses) h.clause_at in
      let is : line.literals ≡ map (apply_literal s) h.clause.literals = subst (λ (z : ClauseValue). line.literals ≡ map (apply_literal s) z.literals) same h.instance.4 in (
        h.place,
        h.clause,
        slice_get_within grown.clauses h.place h.clause at,
        get_or_from_slice_get grown.clauses h.place h.clause h.clause at,
        record { number = sym h.number; label = sym h.label; literals = (aside s, sym is ∙ sym (all_unchanged line.literals)) },
      )
