-- A line beside the clauses of which it may be an instance.
use Rattle.std.proofs.Common.{◌≡◌, ◌↔◌, ◌⊎◌, inl, inr, ℕ, ◌+◌, ◌<◌, ◌≤◌, Bool, true, false, IsTrue, List, length, get_or, slice_get, Some, Result, refl, sym, ap, subst, ◌∙◌, arith}
use Rattle.std.proofs.lemmas.Bool.{cases_lt}
use Rattle.std.proofs.lemmas.List.{get_or_default}
use Rattle.std.proofs.lemmas.Option.{slice_get_within, get_or_from_slice_get}
use Rattle.std.specs.List.{list_all}
use Rattle.std.specs.Prelude.{IfOk}
use Rattle.me_terms.specs.Values.{ClauseValue, ProblemValue}
use Rattle.me_terms.specs.declared.atom.Literal.{Literal}
use Rattle.szs_read.specs.Values.{InstanceLineValue}
use Rattle.answer_check.specs.Instances.{AreKnown, HasMatch, IsGrown, IsMatched, IsMatchedLine, IsOwnInstance}
use Rattle.answer_check.specs.Own.{are_own_terms}
use Rattle.answer_check.proofs.Sources.{if_ok}
use Rattle.answer_check.proofs.OwnInstances.{AreOwn, instance_of_match, match_of_instance, own_of_instance}

-- ---- one clause

module _ (clause : ClauseValue) (line : InstanceLineValue) where
  pub line_of_match : (b : Bool) → clause.number ≡ line.number → clause.label ≡ line.label → (IsTrue b ↔ IsMatched clause.literals line.literals) → IsTrue b ↔ IsMatchedLine clause line
  line_of_match b number label h = (λ yes. record { number = number; label = label; literals = h.0 yes }, λ match. h.1 match.literals)

  pub another_number : ¬ (clause.number ≡ line.number) → IsTrue false ↔ IsMatchedLine clause line
  another_number other = (λ no. absurd (cc no), λ match. absurd (other match.number))

  pub another_label : ¬ (clause.label ≡ line.label) → IsTrue false ↔ IsMatchedLine clause line
  another_label other = (λ no. absurd (cc no), λ match. absurd (other match.label))

-- ---- some clause

module _ (clauses : List ClauseValue) (line : InstanceLineValue) where
  pub match_at : (k : ℕ) (clause : ClauseValue) → slice_get clauses k ≡ Some clause → IsMatchedLine clause line → HasMatch clauses line
  match_at k clause at h = (k, clause, slice_get_within clauses k clause at, get_or_from_slice_get clauses k clause clause at, h)

  pub match_there : (k : ℕ) (clause : ClauseValue) → k < length clauses → clause ≡ get_or clauses k clause → IsMatchedLine clause line → HasMatch clauses line
  match_there k clause lt at h = (k, clause, lt, sym at, h)

  -- No clause before this place is one.
  abbrev pub NoMatchBelow : ℕ → Type 0
  NoMatchBelow n = (k : ℕ) (d : ClauseValue) → k < n → ¬ IsMatchedLine (get_or clauses k d) line

  pub no_match_more : (n : ℕ) (clause : ClauseValue) → n < length clauses → clause ≡ get_or clauses n clause → NoMatchBelow n → ¬ IsMatchedLine clause line → NoMatchBelow (n + 1)
  no_match_more n clause within at before none k d lt h =
      elim (cases_lt k n) as (λ _. ⊥) [
        | inl below ↦ before k d below h
        | inr above ↦
            let here : k ≡ n = omega arith in
            let same : get_or clauses k d ≡ clause = ap (λ z. get_or clauses z d) here ∙ (get_or_default clauses n d clause within ∙ sym at) in
            none (subst (λ (z : ClauseValue). IsMatchedLine z line) same h)
      ]

  pub no_match : (n : ℕ) → length clauses ≤ n → NoMatchBelow n → ¬ HasMatch clauses line
  no_match n past none h = none h.0 h.1 (omega (arith, h.2)) (subst (λ (z : ClauseValue). IsMatchedLine z line) (sym h.3) h.4)

-- ---- literals that were read of a line

module _ (functions : ℕ) (line written : InstanceLineValue) (ls : List Literal) (b : Bool) (same : ls ≡ written.literals) (is : written ≡ line) (tells : b ≡ list_all (λ (l : Literal). are_own_terms functions l.atom.args) ls) where
  tells_line : b ≡ list_all (λ (l : Literal). are_own_terms functions l.atom.args) line.literals
  tells_line =
      let P : List Literal → Type 0 = λ z. b ≡ list_all (λ (l : Literal). are_own_terms functions l.atom.args) z in
      subst P (same ∙ ap (λ (z : InstanceLineValue). z.literals) is) tells

  pub not_owned : b ≡ false → ¬ AreOwn functions line.literals
  not_owned is_false owned = let is_true : b ≡ true = tells_line ∙ owned in cc (is_true, is_false)

  pub all_owned : b ≡ true → AreOwn functions line.literals
  all_owned is_true = sym tells_line ∙ is_true

-- ---- the problem's own instances

module _ (grown : ProblemValue) (functions : ℕ) (line : InstanceLineValue) (known : AreKnown grown.signature line.literals) where
  pub own_by_match : AreOwn functions line.literals → (b : Bool) → (IsTrue b ↔ HasMatch grown.clauses line) → (own : ProblemValue) → IsGrown own grown functions → IsTrue b ↔ IsOwnInstance own line
  own_by_match owned b h own grows =
      (λ yes. instance_of_match own grown functions grows line known owned (h.0 yes), λ instance. h.1 (match_of_instance own grown functions grows line instance))

  pub not_own : ¬ AreOwn functions line.literals → (own : ProblemValue) → IsGrown own grown functions → IsTrue false ↔ IsOwnInstance own line
  not_own other own grows = (λ no. absurd (cc no), λ instance. absurd (other (own_of_instance own grown functions grows line instance)))

  pub own_tells : {E : Type 0} (written : ProblemValue) (clauses : List ClauseValue) → clauses ≡ written.clauses → written ≡ grown → AreOwn functions line.literals → (result : Result Bool E)
      → IfOk result (λ b. IsTrue b ↔ HasMatch clauses line) → IfOk result (λ b. (own : ProblemValue) → IsGrown own grown functions → IsTrue b ↔ IsOwnInstance own line)
  own_tells written clauses same is owned result h =
      let P : Bool → Type 0 = λ b. IsTrue b ↔ HasMatch clauses line in
      let Q : Bool → Type 0 = λ b. (own : ProblemValue) → IsGrown own grown functions → IsTrue b ↔ IsOwnInstance own line in
      let all = same ∙ ap (λ (z : ProblemValue). z.clauses) is in
      if_ok result P Q (λ b tells. own_by_match owned b (subst (λ (z : List ClauseValue). IsTrue b ↔ HasMatch z line) all tells)) h
