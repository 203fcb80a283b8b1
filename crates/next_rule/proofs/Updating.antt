-- Looks at one part of the candidates after another.
use Rattle.std.proofs.Common.{◌≡◌, ℕ, ◌⊎◌, inl, inr, List, Option, Some, None, refl, subst}
use Rattle.me_terms.specs.Order.{Precedes}
use Rattle.me_laws_existence.proofs.Best.{precedes_transitive}
use Rattle.next_rule.specs.Best.{StrictlyPrecedes, Improves, IsLeast, Updates}
use Rattle.next_rule.proofs.Keys.{before_transitive, not_before}

module _ {C E : Type 0} (given : C → E) (rank : E → List ℕ) (key : C → List ℕ) where
  -- A lower rank is a lower key.
  abbrev pub RankDecides : Type 0
  RankDecides = (x y : C) → StrictlyPrecedes (rank (given x)) (rank (given y)) → Precedes (key x) (key y)

  -- Where ranks do not decide, those of P come before those of Q.
  abbrev pub StandsBefore : (C → Type 0) → (C → Type 0) → Type 0
  StandsBefore P Q = (x y : C) → P x → Q y → ¬ StrictlyPrecedes (rank (given y)) (rank (given x)) → Precedes (key x) (key y)

  -- the candidates of R are those of P and those of Q
  pub record AreBoth (P Q R : C → Type 0) : Type 0 where
    pub split : (x : C) → R x → P x ⊎ Q x
    pub left : (x : C) → P x → R x
    pub right : (x : C) → Q x → R x

  -- ---- the same candidates
  pub updates_same : (P R : C → Type 0) (a b : Option E) → ((x : C) → R x → P x) → ((x : C) → P x → R x) → Updates given rank key P a b → Updates given rank key R a b
  updates_same P R a b back there (inl h) = inl (h.0, λ x r. h.1 x (back x r))
  updates_same P R a b back there (inr h) =
      inr (h.0, h.1, record { at = h.2.at; among = there h.2.at h.2.among; gives = h.2.gives; least = λ x r. h.2.least x (back x r) }, h.3)

  -- ---- no candidates
  pub updates_none : (P : C → Type 0) (a : Option E) → ((x : C) → ¬ P x) → Updates given rank key P a a
  updates_none P a never = inl (refl, λ x p improves. never x p)

  -- what improves on the best one so far comes before what does not
  improves_before : (a : Option E) (e f : E) → Improves rank a e → ¬ Improves rank a f → StrictlyPrecedes (rank e) (rank f)
  improves_before None e f h never = absurd (never tt)
  improves_before (Some b) e f h never = before_transitive (rank e) (rank b) (rank f) h (not_before (rank b) (rank f) never)

  improves_more : (a : Option E) (e f : E) → Improves rank a e → StrictlyPrecedes (rank f) (rank e) → Improves rank a f
  improves_more None e f h before = tt
  improves_more (Some b) e f h before = before_transitive (rank f) (rank e) (rank b) before h.0

  -- ---- one part after another
  module _ (P Q R : C → Type 0) (decides : RankDecides) (before : StandsBefore P Q) (both : AreBoth P Q R) where
    stays_stays : (a : Option E) → ((x : C) → P x → ¬ Improves rank a (given x)) → ((x : C) → Q x → ¬ Improves rank a (given x)) → (x : C) → R x → ¬ Improves rank a (given x)
    stays_stays a f g x r = elim (both.split x r) as (λ _. ¬ Improves rank a (given x)) [ inl p ↦ f x p | inr q ↦ g x q ]

    stays_takes : (a : Option E) (e : E) → ((x : C) → P x → ¬ Improves rank a (given x)) → IsLeast given key Q e → Improves rank a e → IsLeast given key R e
    stays_takes a e f m improves =
        let S : E → Type 0 = λ z. Improves rank a z in
        let here : Improves rank a (given m.at) = subst S m.gives improves in
        record {
          at = m.at;
          among = both.right m.at m.among;
          gives = m.gives;
          least = λ x r. elim (both.split x r) as (λ _. Precedes (key m.at) (key x)) [ inl p ↦ decides m.at x (improves_before a (given m.at) (given x) here (f x p)) | inr q ↦ m.least x q ];
        }

    takes_stays : (e : E) → IsLeast given key P e → ((x : C) → Q x → ¬ Improves rank (Some e) (given x)) → IsLeast given key R e
    takes_stays e m g =
        let S : E → C → Type 0 = λ z x. ¬ StrictlyPrecedes (rank (given x)) (rank z) in
        record {
          at = m.at;
          among = both.left m.at m.among;
          gives = m.gives;
          least = λ x r. elim (both.split x r) as (λ _. Precedes (key m.at) (key x)) [ inl p ↦ m.least x p | inr q ↦ before m.at x m.among q (subst (λ (z : E). S z x) m.gives (g x q)) ];
        }

    takes_takes : (e f : E) → IsLeast given key P e → IsLeast given key Q f → StrictlyPrecedes (rank f) (rank e) → IsLeast given key R f
    takes_takes e f m n comes =
        let S : E → Type 0 = λ z. StrictlyPrecedes (rank f) (rank z) in
        let T : E → Type 0 = λ z. StrictlyPrecedes (rank z) (rank (given m.at)) in
        let less : Precedes (key n.at) (key m.at) = decides n.at m.at (subst T n.gives (subst S m.gives comes)) in
        record {
          at = n.at;
          among = both.right n.at n.among;
          gives = n.gives;
          least = λ x r. elim (both.split x r) as (λ _. Precedes (key n.at) (key x)) [ inl p ↦ precedes_transitive (key n.at) (key m.at) (key x) less (m.least x p) | inr q ↦ n.least x q ];
        }

    after_stay : (a b c : Option E) → b ≡ a → ((x : C) → P x → ¬ Improves rank a (given x)) → Updates given rank key Q a c → Updates given rank key R a c
    after_stay a b c e f (inl h) = inl (h.0, stays_stays a f h.1)
    after_stay a b c e f (inr h) = inr (h.0, h.1, stays_takes a h.0 f h.2 h.3, h.3)

    after_take : (a c : Option E) (e : E) → IsLeast given key P e → Improves rank a e → Updates given rank key Q (Some e) c → Updates given rank key R a c
    after_take a c e m improves (inl h) = inr (e, h.0, takes_stays e m h.1, improves)
    after_take a c e m improves (inr h) = inr (h.0, h.1, takes_takes e h.0 m h.2 h.3, improves_more a e h.0 improves h.3)

    pub updates_then : (a b c : Option E) → Updates given rank key P a b → Updates given rank key Q b c → Updates given rank key R a c
    updates_then a b c (inl h) g = let S : Option E → Type 0 = λ z. Updates given rank key Q z c in after_stay a b c h.0 h.1 (subst S h.0 g)
    updates_then a b c (inr h) g = let S : Option E → Type 0 = λ z. Updates given rank key Q z c in after_take a c h.0 h.2 h.3 (subst S h.1 g)
