-- What a walk has written so far.
use Rattle.std.proofs.Common.{◌≡◌, Bool, true, false, ℕ, List, [], ◌++◌, Option, codes, refl, sym, subst, ap, inl, inr, ◌∙◌}
use Rattle.std.proofs.KnownBytes.{Appends-nil, Appends-trans}
use Rattle.std.specs.Io.KnownBytes.{Appends}
use Rattle.me_terms.specs.Values.{ProblemValue}
use Rattle.me_terms.specs.Context.{Context}
use Rattle.me_terms.specs.Grown.{IsGrown, start, started}
use Rattle.me_terms.specs.declared.bounds.Bounds.{Bounds}
use Rattle.darwin_steps.specs.Told.{IsTold}
use Rattle.darwin_steps.specs.Traces.{IsTrace, IsWalkText, begun, went_on}

-- the context is grown, and the steps that led to it were written
pub record HasTraced (problem : ProblemValue) (bounds : Bounds) (context : Context) (first now : Option (List ℕ)) : Type 0 where
  pub grown : IsGrown problem bounds context
  pub text : List ℕ
  pub trace : IsTrace problem bounds true context text
  pub written : Appends first now text

pub traced_none : (problem : ProblemValue) (bounds : Bounds) (context : Context) (first : Option (List ℕ)) → context ≡ start bounds.start → HasTraced problem bounds context first first
traced_none problem bounds context first is =
    let G : Context → Type 0 = λ x. IsGrown problem bounds x in
    let T : Context → Type 0 = λ x. IsTrace problem bounds true x [] in
    record { grown = subst G (sym is) started; text = []; trace = subst T (sym is) begun; written = Appends-nil first }

pub traced_more : (problem : ProblemValue) (bounds : Bounds) (old new : Context) (first mid now : Option (List ℕ)) (goes_on : Bool) → HasTraced problem bounds old first mid → goes_on ≡ true → IsGrown problem bounds new → (text : List ℕ) × IsTold problem bounds old goes_on new text × Appends mid now text → HasTraced problem bounds new first now
traced_more problem bounds old new first mid now goes_on h sure grown told =
    let T : Bool → Type 0 = λ b. IsTrace problem bounds b new (h.text ++ told.0) in
    record {
      grown = grown;
      text = h.text ++ told.0;
      trace = subst T sure (went_on h.trace told.1);
      written = Appends-trans first mid now h.text told.0 h.written told.2;
    }

pub traced_all : (problem : ProblemValue) (bounds : Bounds) (old new : Context) (first mid now : Option (List ℕ)) (goes_on : Bool) → HasTraced problem bounds old first mid → goes_on ≡ false → (text : List ℕ) × IsTold problem bounds old goes_on new text × Appends mid now text → (text : List ℕ) × IsWalkText problem bounds text × Appends first now text
traced_all problem bounds old new first mid now goes_on h sure told =
    let T : Bool → Type 0 = λ b. IsTrace problem bounds b new (h.text ++ told.0) in
    (h.text ++ told.0, inl (new, subst T sure (went_on h.trace told.1)), Appends-trans first mid now h.text told.0 h.written told.2)

pub traced_cut : (problem : ProblemValue) (bounds : Bounds) (context : Context) (first mid now : Option (List ℕ)) → HasTraced problem bounds context first mid → Appends mid now (codes "more steps follow\n") → (text : List ℕ) × IsWalkText problem bounds text × Appends first now text
traced_cut problem bounds context first mid now h last =
    let line = codes "more steps follow\n" in
    (h.text ++ line, inr (context, h.text, h.trace, refl), Appends-trans first mid now h.text line h.written last)

-- what was written of an empty text and the lines that were put at its end
pub lines_written : (first now : Option (List ℕ)) (out slice lines text : List ℕ) → lines ≡ out ++ text → out ≡ [] → slice ≡ lines → Appends first now slice → Appends first now text
lines_written first now out slice lines text is none same h =
    let all : slice ≡ text = same ∙ (is ∙ ap (λ (x : List ℕ). x ++ text) none) in
    subst (Appends first now) all h
