-- What a claim that was read owes to its signature, and what is said of it, over the problem's own signature.
use Rattle.std.proofs.Common.{◌≡◌, ℕ, ◌-◌, ◌^◌, ◌<◌, Bool, true, false, ◌&&◌, List, [], ◌∷◌, length, slice_get, Some, refl, sym, ap, subst, ◌∙◌, arith}
use Rattle.std.specs.List.{All, AllByRecursion, list_all}
use Rattle.std.proofs.lemmas.List.Elements.{All-from_recursion, All-weaker}
use Rattle.me_terms.specs.Context.{Context}
use Rattle.me_terms.specs.Productive.{IsProductiveUnifier, HasProductive}
use Rattle.me_terms.specs.Signatures.{is_known_atom}
use Rattle.me_terms.specs.Substitutions.{Family}
use Rattle.me_terms.specs.Validity.{IsValidClause}
use Rattle.me_terms.specs.Values.{ClauseValue, ProblemValue, SignatureValue}
use Rattle.me_terms.specs.declared.atom.Literal.{Literal}
use Rattle.me_terms.specs.declared.bounds.Start.{Start}
use Rattle.me_laws_refutation.proofs.Known.{both_true}
use Rattle.next_rule.specs.FewPlaces.{HasFewPlaces}
use Rattle.szs_read.specs.Claims.{IsEntryLine, IsInstanceLine, IsLineLiteral}
use Rattle.szs_read.specs.Values.{InstanceLineValue}
use Rattle.szs_read.specs.declared.claim.EntryLine.{EntryLine}
use Rattle.answer_check.specs.Entries.{AreBelow}
use Rattle.answer_check.specs.Instances.{AreKnown, IsGrown}
use Rattle.answer_check.specs.Judgements.{AreKnownLines, IsFirstProductive, IsModelJudged, IsProductiveAt, IsShownModel, context_of}
use Rattle.answer_check.specs.declared.verdict.Verdict.{Verdict}
use Rattle.answer_check.specs.declared.verdict.Verdict.TheVariants.{Refutation, Model, WrongLine, Satisfied, Unifier, Unread, Open}

-- ---- the lines

known_literals : (signature : SignatureValue) (ls : List Literal) → AllByRecursion (IsLineLiteral signature) ls → AreKnown signature ls
known_literals signature [] h = refl
known_literals signature (l ∷ ls) h =
    both_true (is_known_atom signature l.atom) (list_all (λ (z : Literal). is_known_atom signature z.atom) ls) h.0.known (known_literals signature ls h.1)

known_one_by_one : (signature : SignatureValue) (lines : List InstanceLineValue) → AllByRecursion (IsInstanceLine signature) lines → AllByRecursion (λ (z : InstanceLineValue). AreKnown signature z.literals) lines
known_one_by_one signature [] h = tt
known_one_by_one signature (line ∷ lines) h = (known_literals signature line.literals h.0.literals, known_one_by_one signature lines h.1)

pub known_lines : (signature : SignatureValue) (lines : List InstanceLineValue) → AllByRecursion (IsInstanceLine signature) lines → AreKnownLines signature lines
known_lines signature lines h = All-from_recursion (λ (z : InstanceLineValue). AreKnown signature z.literals) lines (known_one_by_one signature lines h)

pub lines_below : (signature : SignatureValue) (lines : List EntryLine) → AllByRecursion (IsEntryLine signature) lines → AreBelow lines
lines_below signature [] h = tt
lines_below signature (line ∷ lines) h = (h.0.at.1, lines_below signature lines h.1)

pub few_places : (own grown : ProblemValue) (functions : ℕ) → IsGrown own grown functions → HasFewPlaces grown
few_places own grown functions grows =
    let P : List ClauseValue → Type 0 = λ z. All (λ (clause : ClauseValue). length clause.literals < 2 ^ 32 - 1) z in
    record {
      clauses = omega (arith, ap length grows.clauses, grows.valid.few_clauses);
      literals = subst P (sym grows.clauses)
          (All-weaker (IsValidClause own.signature) (λ (clause : ClauseValue). length clause.literals < 2 ^ 32 - 1) (λ clause ok. ok.few_literals) own.clauses grows.valid.clauses);
    }

-- ---- models of problems with the same clauses

module _ (p q : ProblemValue) (same : p.clauses ≡ q.clauses) (context : Context) where
  unifier_of : (c : ℕ) (tuple : List ℕ) (clause : ClauseValue) (family : Family) → IsProductiveUnifier p context c tuple clause family → IsProductiveUnifier q context c tuple clause family
  unifier_of c tuple clause family h = record {
    clause_at = subst (λ (z : List ClauseValue). slice_get z c ≡ Some clause) same h.clause_at;
    unifier = h.unifier;
    productive = h.productive;
  }

  productive_at : (c : ℕ) → IsProductiveAt p context c → IsProductiveAt q context c
  productive_at c h = (h.0, h.1, h.2, unifier_of c h.0 h.1 h.2 h.3)

  has_productive : HasProductive p context → HasProductive q context
  has_productive h = (h.0, h.1, h.2, h.3, unifier_of h.0 h.1 h.2 h.3 h.4)

module _ (p q : ProblemValue) (same : p.clauses ≡ q.clauses) where
  first_productive_of : (context : Context) (number : ℕ) → IsFirstProductive p context number → IsFirstProductive q context number
  first_productive_of context number h = record {
    place = h.place;
    clause = h.clause;
    clause_at = subst (λ (z : List ClauseValue). slice_get z h.place ≡ Some h.clause) same h.clause_at;
    number_is = h.number_is;
    productive = productive_at p q same context h.place h.productive;
    first = λ c lt has. h.first c lt (productive_at q p (sym same) context c has);
  }

  pub model_judged_of : (start : Start) (lines : List EntryLine) (verdict : Verdict) → IsModelJudged p start lines verdict → IsModelJudged q start lines verdict
  model_judged_of start lines Model h = record {
    entries = h.entries;
    none_productive = λ has. h.none_productive (has_productive q p (sym same) (context_of start lines) has);
  }
  model_judged_of start lines (WrongLine number) h = h
  model_judged_of start lines (Unifier number) h = (h.0, first_productive_of (context_of start lines) number h.1)
  model_judged_of start lines Refutation h = h
  model_judged_of start lines (Satisfied trues) h = h
  model_judged_of start lines (Unread line) h = h
  model_judged_of start lines Open h = h
