-- The lines of a refutation, looked at one after another, and what is said of them.
use Rattle.std.proofs.Common.{◌≡◌, ◌↔◌, ℕ, ◌+◌, ◌<◌, ◌≤◌, Bool, true, false, IsTrue, List, [], ◌∷◌, ◌++◌, length, map, get_or, take, slice_get, Option, Some, None, refl, sym, ap, subst, ◌∙◌, append_assoc, arith}
use Rattle.std.proofs.Math.Seq.{take-length}
use Rattle.std.proofs.lemmas.List.{append-nil, map-append}
use Rattle.std.proofs.lemmas.List.Elements.{All-more, All-nil}
use Rattle.std.proofs.lemmas.Option.{slice_get_read}
use Rattle.std.specs.List.{All}
use Rattle.me_terms.specs.Sequences.{SequenceValue}
use Rattle.me_terms.specs.Terms.{AtomValue}
use Rattle.me_terms.specs.Values.{ProblemValue}
use Rattle.me_terms.specs.declared.atom.Literal.{Literal}
use Rattle.ground_solver.specs.Assignments.{IsModel, IsUnsatisfiable, clauses_of}
use Rattle.szs_read.specs.Values.{InstanceLineValue}
use Rattle.answer_check.specs.Instances.{IsGrown, IsOwnInstance}
use Rattle.answer_check.specs.Judgements.{IsFirstWrong, IsShownRefutation, IsWrongInstance, literals_of}

-- Each of the first k lines is an instance, whichever problem was made longer.
abbrev pub RightBelow : ProblemValue → ℕ → List InstanceLineValue → ℕ → Type 0
RightBelow grown functions lines k = (own : ProblemValue) → IsGrown own grown functions → All (IsOwnInstance own) (take k lines)

module _ (grown : ProblemValue) (functions : ℕ) (lines : List InstanceLineValue) where
  pub none_seen : RightBelow grown functions lines 0
  none_seen own grows = All-nil (IsOwnInstance own)

  module _ (k : ℕ) (line : InstanceLineValue) (within : k < length lines) (at : line ≡ get_or lines k line) where
    pub one_right : RightBelow grown functions lines k → (b : Bool) → b ≡ true → ((own : ProblemValue) → IsGrown own grown functions → IsTrue b ↔ IsOwnInstance own line) → RightBelow grown functions lines (k + 1)
    one_right before b is_true tells own grows =
        All-more (IsOwnInstance own) lines k line within (before own grows) (subst (IsOwnInstance own) at ((tells own grows).0 is_true))

    pub one_wrong : RightBelow grown functions lines k → (b : Bool) → b ≡ false → ((own : ProblemValue) → IsGrown own grown functions → IsTrue b ↔ IsOwnInstance own line) → (own : ProblemValue) → IsGrown own grown functions → IsWrongInstance own lines (k + 1)
    one_wrong before b is_false tells own grows = record {
      before = k;
      line = line;
      number_is = λ _. k + 1;
      stands = slice_get_read lines (length lines) k line refl within at;
      right_before = before own grows;
      wrong = λ instance. let is_true : b ≡ true = (tells own grows).1 instance in absurd (cc (is_true, is_false));
    }

  pub all_right : (k : ℕ) → k ≡ length lines → RightBelow grown functions lines k → (own : ProblemValue) → IsGrown own grown functions → All (IsOwnInstance own) lines
  all_right k end h own grows = subst (λ (z : List InstanceLineValue). All (IsOwnInstance own) z) (ap (λ n. take n lines) end ∙ take-length lines) (h own grows)

-- ---- the list of the lines

pub listed_more : (done : List (SequenceValue Literal)) (clause : SequenceValue Literal) (line : InstanceLineValue) (rest all : List InstanceLineValue) → clause.items ≡ line.literals
    → clauses_of done ++ literals_of (line ∷ rest) ≡ literals_of all → clauses_of (done ++ clause ∷ []) ++ literals_of rest ≡ literals_of all
listed_more done clause line rest all same h =
    ap (λ (z : List (List Literal)). z ++ literals_of rest) (map-append (λ (c : SequenceValue Literal). c.items) done (clause ∷ []))
    ∙ (append_assoc (clauses_of done) (clause.items ∷ []) (literals_of rest)
    ∙ (ap (λ (z : List Literal). clauses_of done ++ (z ∷ literals_of rest)) same ∙ h))

pub listed_all : (done : List (SequenceValue Literal)) (rest all : List InstanceLineValue) → rest ≡ [] → clauses_of done ++ literals_of rest ≡ literals_of all → clauses_of done ≡ literals_of all
listed_all done rest all none h =
    sym (append-nil (clauses_of done)) ∙ (ap (λ (z : List InstanceLineValue). clauses_of done ++ literals_of z) (sym none) ∙ h)

-- ---- what is said

pub right_lines : (own : ProblemValue) (lines read : List InstanceLineValue) (o : Option ℕ) → read ≡ lines → o ≡ None → IsFirstWrong own read o → All (IsOwnInstance own) lines
right_lines own lines read o same none h =
    let P : Option ℕ → Type 0 = λ z. IsFirstWrong own read z in
    subst (λ (z : List InstanceLineValue). All (IsOwnInstance own) z) same (subst P none h)

pub shown_by : (own : ProblemValue) (lines : List InstanceLineValue) (clauses : List (List Literal)) → clauses ≡ literals_of lines → All (IsOwnInstance own) lines → IsUnsatisfiable clauses → IsShownRefutation own lines
shown_by own lines clauses same right refuted = record { instances = right; refuted = subst IsUnsatisfiable same refuted }

pub satisfied_by : (own : ProblemValue) (lines : List InstanceLineValue) (clauses : List (List Literal)) (trues : List AtomValue) → clauses ≡ literals_of lines → All (IsOwnInstance own) lines → IsModel clauses trues → All (IsOwnInstance own) lines × IsModel (literals_of lines) trues
satisfied_by own lines clauses trues same right model = (right, subst (λ (z : List (List Literal)). IsModel z trues) same model)
