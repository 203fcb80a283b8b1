-- The example's records are whole.
use Rattle.std.proofs.Common.{◌≡◌, ℕ, zero, suc, true, false, ◌⊎◌, inl, inr, [], ◌∷◌, Some, slice_get, refl, sym, subst, ap, ◌∙◌}
use Rattle.me_terms.specs.Context.{Context}
use Rattle.me_terms.specs.Outcome.{TreeOutcome}
use Rattle.me_terms.specs.Outcome as outcome
use Rattle.branch_core.specs.Paths.{Turns, ProperlyBegins}
use Rattle.branch_core.specs.SearchTree.{Leaf, Node}
use Rattle.branch_core.specs.Pieces.{Sat, Gift, NoMemory}
use Rattle.branch_core.specs.Replaced.{own_leaf, own_node, given, no_memory}
use Rattle.branch_core.specs.Joined.{as_they_are}
use Rattle.branch_core.specs.StandsFor.{Account, StandsFor}
use Rattle.branch_core.specs.Whole.{IsIn, AreWhole, IsLicensed}
use Rattle.branch_core.specs.WholeExample.{left_and_gift, LeftAndGiftAreWhole}

two_at : {A : Type 0} (a b x : A) (k : ℕ) → slice_get (a ∷ b ∷ []) k ≡ Some x → ((k ≡ 0) × (x ≡ a)) ⊎ ((k ≡ 1) × (x ≡ b))
two_at a b x zero h = inl (refl, cc h)
two_at a b x (suc zero) h = inr (refl, cc h)
two_at a b x (suc (suc zero)) h = cc
two_at a b x (suc (suc (suc k))) h = cc

one_at : {A : Type 0} (a x : A) (k : ℕ) → slice_get (a ∷ []) k ≡ Some x → x ≡ a
one_at a x zero h = cc h
one_at a x (suc zero) h = cc
one_at a x (suc (suc k)) h = cc

module _ (context : Context) (other : TreeOutcome) where
  first : Account
  first = record { path = []; pieces = Sat (false ∷ []) context ∷ Gift (true ∷ []) ∷ [] }

  second : Account
  second = record { path = true ∷ []; pieces = NoMemory ∷ [] }

  only_gift : (a : Account) (gift : Turns) → IsIn a (left_and_gift context) → IsIn (Gift gift) a.pieces → (a.path ≡ []) × (gift ≡ true ∷ [])
  only_gift a gift h g =
      elim (two_at _ _ a h.0 h.1) as (λ _. (a.path ≡ []) × (gift ≡ true ∷ [])) [
        | inl x ↦
            let at : slice_get (Sat (false ∷ []) context ∷ Gift (true ∷ []) ∷ []) g.0 ≡ Some (Gift gift) = ap (λ (z : Account). slice_get z.pieces g.0) (sym x.1) ∙ g.1 in
            elim (two_at (Sat (false ∷ []) context) (Gift (true ∷ [])) (Gift gift) g.0 at) as (λ _. (a.path ≡ []) × (gift ≡ true ∷ [])) [
              | inl y ↦ cc (y.1)
              | inr y ↦ (ap (λ (z : Account). z.path) x.1, cc (y.1))
            ]
        | inr x ↦
            let at : slice_get (NoMemory ∷ []) g.0 ≡ Some (Gift gift) = ap (λ (z : Account). slice_get z.pieces g.0) (sym x.1) ∙ g.1 in
            let e : Gift gift ≡ NoMemory = one_at NoMemory (Gift gift) g.0 at in cc e
      ]

  pub example_whole : AreWhole (Node (Leaf (outcome.Sat context)) (Leaf other)) (left_and_gift context)
  unfolding first second
  example_whole = record {
    root = (first, (0, refl), refl);
    gifts = λ a gift h g. let x = only_gift a gift h g in (second, (1, refl), sym x.1);
    no_other = λ a h. elim (two_at first second a h.0 h.1) as (λ _. (a.path ≡ []) ⊎ ((giver : Account) × IsIn giver (left_and_gift context) × IsIn (Gift a.path) giver.pieces)) [
      | inl x ↦ inl (ap (λ (z : Account). z.path) x.1)
      | inr x ↦ inr (first, (0, refl), (1, ap (λ (z : Account). Some (Gift z.path)) (sym x.1)))
    ];
    once = λ a b j k g h e. elim (two_at first second a j g) as (λ _. j ≡ k) [
      | inl x ↦ elim (two_at first second b k h) as (λ _. j ≡ k) [
        | inl y ↦ x.0 ∙ sym y.0
        | inr y ↦ let bad : [] ≡ true ∷ [] = ap (λ (z : Account). z.path) (sym x.1) ∙ (e ∙ ap (λ (z : Account). z.path) y.1) in cc bad
      ]
      | inr x ↦ elim (two_at first second b k h) as (λ _. j ≡ k) [
        | inl y ↦ let bad : true ∷ [] ≡ [] = ap (λ (z : Account). z.path) (sym x.1) ∙ (e ∙ ap (λ (z : Account). z.path) y.1) in cc bad
        | inr y ↦ x.0 ∙ sym y.0
      ]
    ];
    extends = λ a gift h g.
        let x = only_gift a gift h g in
        let P : Turns × Turns → Type 0 = λ p. ProperlyBegins p.1 p.0 in subst P (λ i. (sym x.1 i, sym x.0 i)) (true, [], refl);
    stands = λ a h. elim (two_at first second a h.0 h.1) as (λ _. StandsFor (IsLicensed (left_and_gift context)) (Node (Leaf (outcome.Sat context)) (Leaf other)) a) [
      | inl x ↦ subst (StandsFor (IsLicensed (left_and_gift context)) (Node (Leaf (outcome.Sat context)) (Leaf other))) (sym x.1) (record { own = Node (Leaf (outcome.Sat context)) (Leaf other); leaves = first.pieces; at_path = refl; replaced = own_node own_leaf given; joined = as_they_are })
      | inr x ↦ subst (StandsFor (IsLicensed (left_and_gift context)) (Node (Leaf (outcome.Sat context)) (Leaf other))) (sym x.1) (record { own = Leaf other; leaves = second.pieces; at_path = refl; replaced = no_memory; joined = as_they_are })
    ];
  }

pub left_and_gift_whole : LeftAndGiftAreWhole
left_and_gift_whole context other = example_whole context other
