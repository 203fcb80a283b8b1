-- In a grown context the reason of every entry holds of the entries before it.
use Rattle.std.proofs.Common.{◌≡◌, Bool, ◌⊎◌, inl, inr, List, [], ◌∷◌, ◌++◌, refl, sym, subst, ap}
use Rattle.me_terms.specs.Measures.{complement}
use Rattle.me_terms.specs.Values.{ProblemValue, EntryValue, ReasonValue, SplitLeft, SplitRight}
use Rattle.me_terms.specs.Context.{Context, pseudo, add}
use Rattle.me_terms.specs.Next.{IsNext, Assert}
use Rattle.me_terms.specs.Grown.{sign_of, start, split_entry, IsGrown, started, asserted, went_left, went_right}
use Rattle.me_terms.specs.declared.bounds.Bounds.{Bounds}
use Rattle.me_terms.specs.declared.bounds.Start.{Start}
use Rattle.me_laws.specs.GrownLaws.{ReasonHolds}

-- two lists that begin with the same element
heads : {A : Type 0} (x y : A) (xs ys : List A) → x ∷ xs ≡ y ∷ ys → (x ≡ y) × (xs ≡ ys)
heads x y xs ys h = (cc h, cc h)

-- an entry of a context with one more is the new one, or an old one
last_or_old : (context before later : Context) (e f : EntryValue) → add context e ≡ before ++ f ∷ later → ((context ≡ before) × (e ≡ f)) ⊎ ((rest : Context) × (context ≡ before ++ f ∷ rest))
last_or_old [] [] later e f h = inl (refl, (heads e f [] later h).0)
last_or_old [] (y ∷ []) later e f h = cc (heads e y [] (f ∷ later) h).1
last_or_old [] (y ∷ z ∷ before) later e f h = cc (heads e y [] (z ∷ before ++ f ∷ later) h).1
last_or_old (x ∷ context) [] later e f h = inr (context, ap (λ z. z ∷ context) (heads x f (add context e) later h).0)
last_or_old (x ∷ context) (y ∷ before) later e f h =
    let parts = heads x y (add context e) (before ++ f ∷ later) h in
    elim (last_or_old context before later e f parts.1) as (λ _. ((x ∷ context ≡ y ∷ before) × (e ≡ f)) ⊎ ((rest : Context) × (x ∷ context ≡ (y ∷ before) ++ f ∷ rest))) [
      | inl new ↦ inl (λ i. parts.0 i ∷ new.0 i, new.1)
      | inr old ↦ inr (old.0, λ i. parts.0 i ∷ old.1 i)
    ]

-- the pseudo-literal is the only entry of a start
only_start : (begins : Start) (before later : Context) (f : EntryValue) → start begins ≡ before ++ f ∷ later → (before ≡ []) × (pseudo (sign_of begins) ≡ f)
only_start begins [] later f h = (refl, (heads (pseudo (sign_of begins)) f [] later h).0)
only_start begins (y ∷ []) later f h = cc (heads (pseudo (sign_of begins)) y [] (f ∷ later) h).1
only_start begins (y ∷ z ∷ before) later f h = cc (heads (pseudo (sign_of begins)) y [] (z ∷ before ++ f ∷ later) h).1

module _ (problem : ProblemValue) (bounds : Bounds) where
  -- the reason of what an Assert adds
  asserted_reason : (context : Context) (e : EntryValue) → IsGrown problem bounds context → IsNext problem bounds context (Assert e) → ReasonHolds problem bounds context e e.reason
  asserted_reason context e h next =
      let least = next.2 in
      let P : ReasonValue → Type 0 = λ why. ReasonHolds problem bounds context e why in
      subst P (sym (ap (λ (x : EntryValue). x.reason) least.3.entry)) (h, next, least.3)

  -- what holds of the last entry, and of every entry before, holds of all
  by_last : (context before later : Context) (e f : EntryValue) → add context e ≡ before ++ f ∷ later → ReasonHolds problem bounds context e e.reason → ((rest : Context) → context ≡ before ++ f ∷ rest → ReasonHolds problem bounds before f f.reason) → ReasonHolds problem bounds before f f.reason
  by_last context before later e f same last old =
      elim (last_or_old context before later e f same) as (λ _. ReasonHolds problem bounds before f f.reason) [
        | inl new ↦ let P : Context × EntryValue → Type 0 = λ z. ReasonHolds problem bounds z.0 z.1 z.1.reason in subst P (λ i. (new.0 i, new.1 i)) last
        | inr h ↦ old h.0 h.1
      ]

pub reasons_hold : {problem : ProblemValue} {bounds : Bounds} {context : Context} → IsGrown problem bounds context → (before later : Context) (f : EntryValue) → context ≡ before ++ f ∷ later → ReasonHolds problem bounds before f f.reason
reasons_hold {problem} {bounds} started before later f same =
    let h = only_start bounds.start before later f same in
    let P : EntryValue → Type 0 = λ e. ReasonHolds problem bounds before e e.reason in
    subst P h.1 (h.0, refl)
reasons_hold {problem} {bounds} (asserted {context = context} {e = e} h next) before later f same =
    by_last problem bounds context before later e f same (asserted_reason problem bounds context e h next) (λ rest old. reasons_hold h before rest f old)
reasons_hold {problem} {bounds} (went_left {context = context} {l = l} {kind = kind} h next) before later f same =
    by_last problem bounds context before later (split_entry l kind SplitLeft) f same (h, (l, kind, next, refl)) (λ rest old. reasons_hold h before rest f old)
reasons_hold {problem} {bounds} (went_right {context = context} {l = l} {kind = kind} h next) before later f same =
    by_last problem bounds context before later (split_entry (complement l) kind SplitRight) f same (h, (l, kind, next, refl)) (λ rest old. reasons_hold h before rest f old)
