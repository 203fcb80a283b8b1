-- The line of a refusal.
use Rattle.std.proofs.Common.{◌≡◌, ◌≢◌, ◌⊎◌, inl, inr, ◌<◌, ◌+◌, ℕ, suc, Bool, true, false, List, [], ◌∷◌, ◌++◌, length, take, drop, reverse, refl, sym, ap, subst, ◌∙◌, append_assoc, arith}
use Rattle.std.proofs.lemmas.Bool.Decides.{nat_tests}
use Rattle.std.proofs.lemmas.List.{append-nil, length-append, take-append-drop, reverse-append}
use Rattle.std.specs.Prelude.{codes, ◌==◌, if◌then◌else◌}
use Rattle.std.specs.List.{AllByRecursion}
use Rattle.me_terms.specs.Values.{SignatureValue}
use Rattle.tptp_tokens.specs.Gaps.{IsOneLine}
use Rattle.tptp_tokens.proofs.Runs.{heads}
use Rattle.szs_print.specs.AnswerText.{bound_text}
use Rattle.szs_print.specs.StatusText.{status_line, output_line}
use Rattle.szs_read.specs.Answers.{IsAnswer, BeginsAnswer, IsRefusedAt, IsErrorCause}
use Rattle.szs_read.specs.ClaimText.{instance_lines, entry_lines, start_line, claim_body, claim_text}
use Rattle.szs_read.specs.Lines.{lines, before_lines}
use Rattle.szs_read.specs.Passes.{IsLine, joined, IsStuck, AreStuck, AreWhole, IsSomeAnswer}
use Rattle.szs_read.specs.Reads.{BeginsAnswer as BeginsRead}
use Rattle.szs_read.specs.declared.claim.Claim.{Claim}
use Rattle.szs_read.specs.declared.claim.Claim.TheVariants.{Refuted, Model, Open}
use Rattle.szs_read.specs.declared.error.AnswerError.{AnswerError}
use Rattle.szs_read.specs.declared.error.AnswerError.TheVariants.{Line}
use Rattle.szs_read.specs.declared.lines.Lines.{Lines}
use Rattle.szs_read.proofs.Cutting.{some_line, joined_both, lines_joined, joined_lines, no_lines, taken_front, taken_one}
use Rattle.szs_read.proofs.Passing.{same_front}

-- ---- lines end with a line feed, but for the last one

abbrev EndWell : List (List ℕ) → Type 0
EndWell [] = Unit {0}
EndWell (l ∷ ls) = (IsLine l × EndWell ls) ⊎ ((ls ≡ []) × (l ≢ []) × IsOneLine l)

before_well : (b : ℕ) (ls : List (List ℕ)) → b ≢ 10 → EndWell ls → EndWell (before_lines b ls)
before_well b [] n h = inr (refl, (λ e. absurd cc), (n, tt))
before_well b (l ∷ ls) n (inl h) = inl ((b ∷ h.0.0, ap (λ (v : List ℕ). b ∷ v) h.0.1, (n, h.0.2)), h.1)
before_well b (l ∷ ls) n (inr h) = inr (h.0, (λ e. absurd cc), (n, h.2))

not_ten : (b : ℕ) → (b == 10) ≡ false → b ≢ 10
not_ten b e = grind (arith, nat_tests)

byte_well : (b : ℕ) (bytes : List ℕ) (v : Bool) → (b == 10) ≡ v → EndWell (lines bytes) → EndWell (if v then (10 ∷ []) ∷ lines bytes else before_lines b (lines bytes))
byte_well b bytes true e h = inl (([], refl, tt), h)
byte_well b bytes false e h = before_well b (lines bytes) (not_ten b e) h

end_well : (bytes : List ℕ) → EndWell (lines bytes)
end_well [] = tt
end_well (b ∷ bytes) = byte_well b bytes (b == 10) refl (end_well bytes)

one_of : (xs : List (List ℕ)) (l : List ℕ) (rest : List (List ℕ)) → EndWell (xs ++ l ∷ rest) → IsLine l ⊎ ((rest ≡ []) × (l ≢ []) × IsOneLine l)
one_of [] l rest (inl h) = inl h.0
one_of [] l rest (inr h) = inr h
one_of (x ∷ xs) l rest (inl h) = one_of xs l rest h.1
one_of (x ∷ xs) l rest (inr h) = absurd (omega (arith, ap length h.0, length-append xs (l ∷ rest)))

-- ---- answers end with a line feed

abbrev Ends : List ℕ → Type 0
Ends bytes = (front : List ℕ) × (bytes ≡ front ++ 10 ∷ [])

ends_both : (x y : List ℕ) → Ends y → Ends (x ++ y)
ends_both x y h = (x ++ h.0, ap (λ (v : List ℕ). x ++ v) h.1 ∙ sym (append_assoc x h.0 (10 ∷ [])))

text_ends : (new : SignatureValue) (name : List ℕ) (claim : Claim) → Ends (claim_text new name claim)
text_ends new name (Refuted ls) =
    ends_both (status_line (codes "Unsatisfiable") name) (claim_body new name (Refuted ls))
    (ends_both (output_line (codes "start Refutation") name ++ instance_lines new 1 ls.items) (output_line (codes "end Refutation") name) (codes "% SZS output end Refutation for " ++ name, refl))
text_ends new name (Model start ls) =
    ends_both (status_line (codes "Satisfiable") name) (claim_body new name (Model start ls))
    (ends_both ((output_line (codes "start Model") name ++ start_line start) ++ entry_lines new ls.items) (output_line (codes "end Model") name) (codes "% SZS output end Model for " ++ name, refl))
text_ends new name (Open bound) =
    ends_both (status_line (codes "GaveUp") name) (claim_body new name (Open bound)) (codes "% reason " ++ bound_text bound, refl)

same_end : (u v : List ℕ) (b c : ℕ) → u ++ b ∷ [] ≡ v ++ c ∷ [] → b ≡ c
same_end u v b c e = (heads b c (reverse u) (reverse v) (sym (reverse-append u (b ∷ [])) ∙ ap reverse e ∙ reverse-append v (c ∷ []))).0

last_not : (x l y : List ℕ) → l ≢ [] → IsOneLine l → x ++ l ≡ y ++ 10 ∷ [] → ⊥
last_not x [] y n h e = n refl
last_not x (b ∷ []) y n h e = h.0 (same_end x y b 10 e)
last_not x (b ∷ c ∷ l) y n h e = last_not (x ++ b ∷ []) (c ∷ l) y (λ f. absurd cc) h.1 (append_assoc x (b ∷ []) (c ∷ l) ∙ e)

-- ---- where no answer goes on

module _ (old : SignatureValue) (bytes : List ℕ) (passed : List (List ℕ)) (left : List ℕ) (each : AllByRecursion IsLine passed) (parts : bytes ≡ joined passed ++ left) (stuck : IsStuck (IsSomeAnswer old) passed left) where
  split : lines bytes ≡ passed ++ lines left
  split = ap lines parts ∙ lines_joined passed left each

  begins : BeginsAnswer old passed
  begins = record {
    bytes = joined passed ++ stuck.more;
    new = stuck.begins.0;
    claim = stuck.begins.1;
    answer = stuck.begins.2;
    begins = ap (take (length passed)) (lines_joined passed stuck.more each) ∙ taken_front passed (lines stuck.more);
  }

  goes_on : (l : List ℕ) (ls : List (List ℕ)) → lines left ≡ l ∷ ls → BeginsAnswer old (passed ++ l ∷ []) → ⊥
  goes_on l ls e b =
      let behind : List (List ℕ) = drop (length (passed ++ l ∷ [])) (lines b.bytes) in
      let cut : lines b.bytes ≡ passed ++ l ∷ behind =
      sym (take-append-drop (length (passed ++ l ∷ [])) (lines b.bytes)) ∙ ap (λ (v : List (List ℕ)). v ++ behind) b.begins ∙ append_assoc passed (l ∷ []) behind in
      let whole : b.bytes ≡ joined passed ++ (l ++ joined behind) = sym (joined_lines b.bytes) ∙ ap joined cut ∙ joined_both passed (l ∷ behind) in
      by behind whole (one_of passed l behind (subst EndWell cut (end_well b.bytes)))
    where
      by : (behind : List (List ℕ)) → b.bytes ≡ joined passed ++ (l ++ joined behind) → IsLine l ⊎ ((behind ≡ []) × (l ≢ []) × IsOneLine l) → ⊥
      by behind whole (inl h) =
          stuck.ends l (joined ls) (joined behind) h (sym (joined_lines left) ∙ ap joined e) (subst (IsSomeAnswer old) whole (b.new, b.claim, b.answer))
      by behind whole (inr h) =
          let ends = text_ends b.new b.answer.name b.claim in
          let text : joined passed ++ l ≡ ends.0 ++ 10 ∷ [] =
          ap (λ (v : List ℕ). joined passed ++ v) (sym (append-nil l)) ∙ ap (λ (v : List (List ℕ)). joined passed ++ (l ++ joined v)) (sym h.0) ∙ sym whole ∙ b.answer.text ∙ ends.1 in
          last_not (joined passed) l ends.0 h.1 h.2 text

  pub refused : IsRefusedAt old bytes (suc (length passed))
  refused = record {
    before = length passed;
    place = refl;
    begins = subst (BeginsAnswer old) (sym (ap (take (length passed)) split ∙ taken_front passed (lines left))) begins;
    ends = by (lines left) refl;
  }
    where
      by : (ls : List (List ℕ)) → lines left ≡ ls → ((length passed < length (lines bytes)) × (BeginsAnswer old (take (suc (length passed)) (lines bytes)) → ⊥)) ⊎ ((length passed ≡ length (lines bytes)) × ((new : SignatureValue) (claim : Claim) → IsAnswer old bytes new claim → ⊥))
      by [] e =
          let none : left ≡ [] = no_lines left e in
          inr (
            omega (arith, ap length split, length-append passed (lines left), ap length e),
            λ new claim a. stuck.short none (subst (IsSomeAnswer old) (parts ∙ ap (λ (v : List ℕ). joined passed ++ v) none ∙ append-nil (joined passed)) (new, claim, a)),
          )
      by (l ∷ ls) e =
          let first : take (suc (length passed)) (lines bytes) ≡ passed ++ l ∷ [] = ap (take (suc (length passed))) (split ∙ ap (λ (v : List (List ℕ)). passed ++ v) e) ∙ taken_one passed ls l in
          inl (omega (arith, ap length split, length-append passed (lines left), ap length e), λ b. goes_on l ls e (subst (BeginsAnswer old) first b))

pub refused_at : (old : SignatureValue) (bytes : List ℕ) (a b : Lines) (line : ℕ) → a.rest.now ≡ bytes → a.passed ≡ 0 → line ≡ b.passed + 1 → AreStuck (IsSomeAnswer old) a b → IsRefusedAt old bytes line
refused_at old bytes a b line e z n s =
    let number : suc (length s.passed) ≡ line = omega (arith, n, z, s.are.count) in
    subst (IsRefusedAt old bytes) number (refused old bytes s.passed b.rest.now s.are.each (sym e ∙ s.are.parts) s.stuck)

-- an answer ends before the bytes do
pub stuck_after : (old new : SignatureValue) (claim : Claim) (a b : Lines) → AreWhole (IsSomeAnswer old) a b → BeginsRead old new a.rest.now b.rest.now claim → (b.rest.now ≡ [] → ⊥) → AreStuck (IsSomeAnswer old) a b
stuck_after old new claim a b w r some =
    let same : joined w.passed ≡ r.taken = same_front (joined w.passed) r.taken b.rest.now (sym w.are.parts ∙ r.parts) in
    record {
      passed = w.passed;
      are = w.are;
      stuck = record {
        more = [];
        begins = subst (IsSomeAnswer old) (sym same ∙ sym (append-nil (joined w.passed))) (new, claim, r.answer);
        ends = λ line rest behind l e h. some_line line behind l (w.only (line ++ behind) h);
        short = λ e h. some e;
      };
    }

pub cause_of : (old : SignatureValue) (bytes : List ℕ) (e : AnswerError) (line : ℕ) → e ≡ Line line → IsRefusedAt old bytes line → IsErrorCause old bytes e
cause_of old bytes e line h r = subst (IsErrorCause old bytes) (sym h) r
