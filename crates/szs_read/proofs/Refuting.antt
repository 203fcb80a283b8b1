-- Which lines can come in the body of a refutation.
use Rattle.std.proofs.Common.{◌≡◌, ◌<◌, ◌^◌, ◌+◌, ℕ, List, [], ◌∷◌, ◌++◌, length, get_or, refl, sym, ap, subst, ◌∙◌, append_assoc, arith}
use Rattle.std.proofs.lemmas.List.{append-nil}
use Rattle.std.specs.Prelude.{codes}
use Rattle.std.specs.List.{AllByRecursion}
use Rattle.me_terms.specs.Values.{SymbolValue, SignatureValue}
use Rattle.me_terms.specs.Sequences.{SequenceValue}
use Rattle.szs_print.specs.Printable.{IsName}
use Rattle.szs_read.specs.Claims.{IsInstanceLine, instance_literals, functions_in, predicates_in, IsGrownBy}
use Rattle.szs_read.specs.ClaimText.{instance_line, instance_lines}
use Rattle.szs_read.specs.Coming.{AreSymbolsToCome}
use Rattle.szs_read.specs.Finds.{IsInstanceToCome, FindsInstance}
use Rattle.szs_read.specs.Passes.{IsLine, joined, ArePassed, AreStuck, AreWhole, IsBody}
use Rattle.szs_read.specs.Reads.{IsReadBody, BeginInstances}
use Rattle.szs_read.specs.Values.{InstanceLineValue}
use Rattle.szs_read.specs.declared.claim.Claim.{Claim}
use Rattle.szs_read.specs.declared.claim.Claim.TheVariants.{Refuted, Model, Open}
use Rattle.szs_read.specs.declared.lines.Lines.{Lines}
use Rattle.szs_read.proofs.Cutting.{one_line, some_line, joined_push, named_line}
use Rattle.szs_read.proofs.Grown.{grown_none}
use Rattle.szs_read.proofs.Grows.{first_grown, others_grown}
use Rattle.szs_read.proofs.Listed.{refuted_body}
use Rattle.szs_read.proofs.Literals.{all_readable}
use Rattle.szs_read.proofs.OneLines.{coded, instance_one}
use Rattle.szs_read.proofs.Passing.{same_front, stuck_at, stuck_none, passed_on, none_passed}

abbrev pub word : List ℕ
word = codes "Unsatisfiable"

abbrev pub first_line : List ℕ → List ℕ
first_line name = codes "% SZS output start Refutation for " ++ name ++ codes "\n"

abbrev pub last_line : List ℕ → List ℕ
last_line name = codes "% SZS output end Refutation for " ++ name ++ codes "\n"

pub first_one : (name : List ℕ) → IsName name → IsLine (first_line name)
first_one name h = named_line (codes "% SZS output start Refutation for ") name (coded (codes "% SZS output start Refutation for ") refl) h

pub last_one : (name : List ℕ) → IsName name → IsLine (last_line name)
last_one name h = named_line (codes "% SZS output end Refutation for ") name (coded (codes "% SZS output end Refutation for ") refl) h

-- the bytes are the lines of a refutation from the k-th on
pub record RestOfRefutation (now : SignatureValue) (name : List ℕ) (k : ℕ) (bytes : List ℕ) : Type 0 where
  pub end : SignatureValue
  pub lines : List InstanceLineValue
  pub lawful : AllByRecursion (IsInstanceLine end) lines
  pub grown : IsGrownBy now (instance_literals lines) end
  pub text : bytes ≡ instance_lines end k lines ++ last_line name

-- ---- the first line

body_as : (old new : SignatureValue) (name bytes : List ℕ) (claim : Claim) → IsReadBody old new word name bytes claim → (X : List ℕ) × (bytes ≡ first_line name ++ X) × RestOfRefutation old name 1 X
body_as old new name bytes (Refuted lines) h = (
  instance_lines new 1 lines.items ++ last_line name,
  h.text ∙ append_assoc (first_line name) (instance_lines new 1 lines.items) (last_line name),
  record { end = new; lines = lines.items; lawful = h.lawful; grown = h.grown; text = refl },
)
body_as old new name bytes (Model start lines) h = let e : ◌≡◌ {A = ℕ} 11 13 = ap length h.status in absurd (omega (arith, e))
body_as old new name bytes (Open bound) h = let e : ◌≡◌ {A = ℕ} 6 13 = ap length h.status in absurd (omega (arith, e))

pub body_first : (old : SignatureValue) (name line behind : List ℕ) → IsName name → IsLine line → IsBody old word name (line ++ behind) → line ≡ first_line name
body_first old name line behind n l h =
    let b = body_as old h.0 name (line ++ behind) h.1 h.2 in
    (one_line line (first_line name) behind b.0 l (first_one name n) b.1).0

pub body_rest : (old : SignatureValue) (name X : List ℕ) → IsName name → IsBody old word name (joined (first_line name ∷ []) ++ X) → RestOfRefutation old name 1 X
body_rest old name X n h =
    let b = body_as old h.0 name (joined (first_line name ∷ []) ++ X) h.1 h.2 in
    let e : first_line name ++ X ≡ first_line name ++ b.0 = ap (λ (v : List ℕ). v ++ X) (sym (append-nil (first_line name))) ∙ b.1 in
    subst (RestOfRefutation old name 1) (sym (one_line (first_line name) (first_line name) X b.0 (first_one name n) (first_one name n) e).1) b.2

pub body_some : (old : SignatureValue) (name : List ℕ) → IsName name → IsBody old word name [] → ⊥
body_some old name n h =
    let b = body_as old h.0 name [] h.1 h.2 in
    some_line (first_line name) b.0 (first_one name n) (sym b.1)

pub empty_body : (old : SignatureValue) (name : List ℕ) → IsBody old word name (first_line name ++ last_line name)
empty_body old name = (old, Refuted (record { items = []; spare = 0 }), record { status = refl; lawful = tt; grown = grown_none old; text = ap (λ (v : List ℕ). v ++ last_line name) (sym (append-nil (first_line name))) })

-- ---- one line more

-- the line is the one of an instance that is to come
pub record InstanceNext (now : SignatureValue) (name : List ℕ) (k : ℕ) (line behind : List ℕ) : Type 0 where
  pub end : SignatureValue
  pub instance : InstanceLineValue
  pub functions : List SymbolValue
  pub predicates : List SymbolValue
  pub coming : IsInstanceToCome now end k line instance functions predicates
  pub after : (new : SignatureValue) → AreSymbolsToCome new end functions predicates → RestOfRefutation new name (k + 1) behind

module _ (name : List ℕ) (n : IsName name) where
  one_instance : (now end : SignatureValue) (k : ℕ) (line behind : List ℕ) (l : InstanceLineValue) (ls : List InstanceLineValue) → k < 2 ^ 64 → IsLine line → AllByRecursion (IsInstanceLine end) (l ∷ ls) → IsGrownBy now (instance_literals (l ∷ ls)) end
      → line ++ behind ≡ instance_lines end k (l ∷ ls) ++ last_line name → (line ≡ instance_line end k l) × InstanceNext now name k line behind
  one_instance now end k line behind l ls small h lawful grown e =
      let coming = first_grown now end 999 l.literals (instance_literals ls) lawful.0.literals grown in
      let readable = all_readable now end 999 l.literals (functions_in end (instance_literals ls)) (predicates_in end (instance_literals ls)) coming in
      let is = instance_one end k l small (omega (arith, lawful.0.number.1)) lawful.0.label.0 readable in
      let cut = one_line line (instance_line end k l) behind (instance_lines end (k + 1) ls ++ last_line name) h is (e ∙ append_assoc (instance_line end k l) (instance_lines end (k + 1) ls) (last_line name)) in (
        cut.0,
        record {
          end = end;
          instance = l;
          functions = functions_in end (instance_literals ls);
          predicates = predicates_in end (instance_literals ls);
          coming = record { lawful = lawful.0; coming = coming; text = cut.0 };
          after = λ new s. record { end = end; lines = ls; lawful = lawful.1; grown = others_grown now new end l.literals (instance_literals ls) grown s; text = cut.1 };
        },
      )

  pub rest_next : (now : SignatureValue) (k : ℕ) (line behind : List ℕ) → k < 2 ^ 64 → IsLine line → (line ≡ last_line name → ⊥) → RestOfRefutation now name k (line ++ behind) → InstanceNext now name k line behind
  rest_next now k line behind small h other r = by r.lines r.lawful r.grown r.text
    where
      by : (ls : List InstanceLineValue) → AllByRecursion (IsInstanceLine r.end) ls → IsGrownBy now (instance_literals ls) r.end → line ++ behind ≡ instance_lines r.end k ls ++ last_line name → InstanceNext now name k line behind
      by [] lawful grown e = absurd (other (one_line line (last_line name) behind [] h (last_one name n) (e ∙ sym (append-nil (last_line name)))).0)
      by (l ∷ ls) lawful grown e = (one_instance now r.end k line behind l ls small h lawful grown e).1

  not_last : (s : SignatureValue) (k : ℕ) (l : InstanceLineValue) → last_line name ≡ instance_line s k l → ⊥
  not_last s k l e = let x : ◌≡◌ {A = ℕ} 37 99 = ap (λ (v : List ℕ). get_or v 0 0) e in absurd (omega (arith, x))

  pub rest_last : (now : SignatureValue) (k : ℕ) (line behind : List ℕ) → k < 2 ^ 64 → IsLine line → line ≡ last_line name → RestOfRefutation now name k (line ++ behind) → behind ≡ []
  rest_last now k line behind small h last r = by r.lines r.lawful r.grown r.text
    where
      by : (ls : List InstanceLineValue) → AllByRecursion (IsInstanceLine r.end) ls → IsGrownBy now (instance_literals ls) r.end → line ++ behind ≡ instance_lines r.end k ls ++ last_line name → behind ≡ []
      by [] lawful grown e = (one_line line (last_line name) behind [] h (last_one name n) (e ∙ sym (append-nil (last_line name)))).1
      by (l ∷ ls) lawful grown e = absurd (not_last r.end k l (sym last ∙ (one_instance now r.end k line behind l ls small h lawful grown e).0))

  pub rest_some : (now : SignatureValue) (k : ℕ) → RestOfRefutation now name k [] → ⊥
  rest_some now k r = some_line (last_line name) [] (last_one name n) (append-nil (last_line name) ∙ last_none (instance_lines r.end k r.lines) (last_line name) r.text)
    where
      last_none : (xs ys : List ℕ) → [] ≡ xs ++ ys → ys ≡ []
      last_none [] ys e = sym e
      last_none (x ∷ xs) ys e = absurd cc

-- ---- the lines as far as they are read

-- these lines were passed behind the first one
pub record RefutationSoFar (old now : SignatureValue) (name : List ℕ) (k : ℕ) (a b : Lines) : Type 0 where
  pub passed : List (List ℕ)
  pub are : ArePassed a b passed
  pub goes_on : (behind : List ℕ) → IsBody old word name (joined (first_line name ∷ passed) ++ behind) → RestOfRefutation now name k behind

pub none_so_far : (old : SignatureValue) (name : List ℕ) (k : ℕ) (a b : Lines) → IsName name → k ≡ 1 → b ≡ a → RefutationSoFar old old name k a b
none_so_far old name k a b n e same = record { passed = []; are = none_passed a b same; goes_on = λ behind p. subst (λ (m : ℕ). RestOfRefutation old name m behind) (sym e) (body_rest old name behind n p) }

pub one_so_far : (old now new : SignatureValue) (name : List ℕ) (k next : ℕ) (a b c : Lines) (line : List ℕ) (found : Type 0) → IsName name → k < 2 ^ 64 → IsLine line → (line ≡ last_line name → ⊥) → next ≡ k + 1 → RefutationSoFar old now name k a b → ArePassed b c (line ∷ []) → FindsInstance now new k line found → RefutationSoFar old new name next a c
one_so_far old now new name k next a b c line found n small l other e h p f = record {
  passed = h.passed ++ line ∷ [];
  are = passed_on a b c h.passed (line ∷ []) h.are p;
  goes_on = λ behind q.
      let one = rest_next name n now k line behind small l other (h.goes_on (line ++ behind) (subst (IsBody old word name) (joined_push (first_line name ∷ h.passed) line behind) q)) in
      subst (λ (m : ℕ). RestOfRefutation new name m behind) (sym e) (one.after new (f one.end one.instance one.functions one.predicates one.coming).1);
}

-- what was read so far can be the whole
so_far_begins : (old now : SignatureValue) (name : List ℕ) (n : IsName name) (k : ℕ) (a b : Lines) (lines : SequenceValue InstanceLineValue) (h : RefutationSoFar old now name k a b) → BeginInstances old now a.rest.now b.rest.now lines.items → IsBody old word name (joined (first_line name ∷ h.passed) ++ last_line name)
so_far_begins old now name n k a b lines h r =
    let whole = refuted_body old now (first_line name ++ (r.taken ++ (last_line name ++ []))) (r.taken ++ (last_line name ++ [])) (last_line name ++ []) (last_line name) [] name lines refl
    (record { taken = r.taken; parts = refl; read = r.read }) (record { named = n; text = refl }) refl in
    let same : joined h.passed ≡ r.taken = same_front (joined h.passed) r.taken b.rest.now (sym h.are.parts ∙ r.parts) in
    let is : whole.taken ≡ first_line name ++ (r.taken ++ last_line name) = sym (append-nil whole.taken) ∙ sym whole.parts ∙ ap (λ (v : List ℕ). first_line name ++ (r.taken ++ v)) (append-nil (last_line name)) in
    let text : first_line name ++ (r.taken ++ last_line name) ≡ joined (first_line name ∷ h.passed) ++ last_line name =
    sym (append_assoc (first_line name) r.taken (last_line name)) ∙ ap (λ (v : List ℕ). (first_line name ++ v) ++ last_line name) (sym same) in
    (now, Refuted lines, subst (λ (v : List ℕ). IsReadBody old now word name v (Refuted lines)) (is ∙ text) whole.body)

pub stuck_no_line : (old now : SignatureValue) (name : List ℕ) (n : IsName name) (k : ℕ) (z a b : Lines) (lines : SequenceValue InstanceLineValue) → ArePassed z a (first_line name ∷ []) → RefutationSoFar old now name k a b → BeginInstances old now a.rest.now b.rest.now lines.items
    → ((line rest : List ℕ) → IsLine line → b.rest.now ≡ line ++ rest → ⊥) → AreStuck (IsBody old word name) z b
stuck_no_line old now name n k z a b lines p h r none = record {
  passed = first_line name ∷ h.passed;
  are = passed_on z a b (first_line name ∷ []) h.passed p h.are;
  stuck = stuck_none (IsBody old word name) (first_line name ∷ h.passed) b.rest.now (last_line name) (so_far_begins old now name n k a b lines h r) none
      (λ q. rest_some name n now k (h.goes_on [] (subst (IsBody old word name) (sym (append-nil (joined (first_line name ∷ h.passed)))) q)));
}

pub stuck_no_instance : (old now new : SignatureValue) (name : List ℕ) (n : IsName name) (k : ℕ) (z a b : Lines) (line after : List ℕ) (lines : SequenceValue InstanceLineValue) (found : Type 0) → ArePassed z a (first_line name ∷ []) → RefutationSoFar old now name k a b → BeginInstances old now a.rest.now b.rest.now lines.items
    → k < 2 ^ 64 → IsLine line → (line ≡ last_line name → ⊥) → b.rest.now ≡ line ++ after → FindsInstance now new k line found → (found → ⊥) → AreStuck (IsBody old word name) z b
stuck_no_instance old now new name n k z a b line after lines found p h r small l other parts f none = record {
  passed = first_line name ∷ h.passed;
  are = passed_on z a b (first_line name ∷ []) h.passed p h.are;
  stuck = stuck_at (IsBody old word name) (first_line name ∷ h.passed) b.rest.now line after (last_line name) (so_far_begins old now name n k a b lines h r) l parts
      (λ more q.
      let one = rest_next name n now k line more small l other (h.goes_on (line ++ more) q) in
      none (f one.end one.instance one.functions one.predicates one.coming).0);
}

pub whole_refutation : (old now : SignatureValue) (name : List ℕ) (n : IsName name) (k : ℕ) (z a b c : Lines) (line : List ℕ) → ArePassed z a (first_line name ∷ []) → RefutationSoFar old now name k a b → k < 2 ^ 64 → IsLine line → line ≡ last_line name → ArePassed b c (line ∷ []) → AreWhole (IsBody old word name) z c
whole_refutation old now name n k z a b c line first h small l last p = record {
  passed = (first_line name ∷ h.passed) ++ line ∷ [];
  are = passed_on z b c (first_line name ∷ h.passed) (line ∷ []) (passed_on z a b (first_line name ∷ []) h.passed first h.are) p;
  only = λ behind q. rest_last name n now k line behind small l last (h.goes_on (line ++ behind) (subst (IsBody old word name) (joined_push (first_line name ∷ h.passed) line behind) q));
}

-- not even the first line is there
pub stuck_first : (old : SignatureValue) (name : List ℕ) (n : IsName name) (a b : Lines) → b ≡ a → ((rest : List ℕ) → a.rest.now ≡ first_line name ++ rest → ⊥) → AreStuck (IsBody old word name) a b
stuck_first old name n a b same none = record {
  passed = [];
  are = none_passed a b same;
  stuck = record {
    more = first_line name ++ last_line name;
    begins = empty_body old name;
    ends = λ line rest behind l e p.
        none rest (sym (ap (λ (v : Lines). v.rest.now) same) ∙ e ∙ ap (λ (v : List ℕ). v ++ rest) (body_first old name line behind n l p));
    short = λ e p. body_some old name n p;
  };
}
