-- The names of what is hidden, position by position.
use Rattle.std.proofs.Common.{◌≡◌, ℕ, ◌+◌, ◌<◌, List, [], ◌∷◌, ◌++◌, codes, length, refl, sym, subst, add-one, arith}
use Rattle.me_terms.specs.Values.{EntryValue}
use Rattle.me_terms.specs.Context.{Context}
use Rattle.darwin_steps.specs.HiddenText.{AreHiddenBelow, IsHiddenAt, hides_line}

pub below_more : (context : Context) (new : EntryValue) (k : ℕ) (before name after : List ℕ) → AreHiddenBelow context new k before → IsHiddenAt context new k name → after ≡ before ++ name → AreHiddenBelow context new (k + 1) after
below_more context new k before name after h at is =
    subst (λ (n : ℕ). AreHiddenBelow context new n after) (sym (add-one k)) (before, name, h, at, is)

pub some_names : (names : List ℕ) → 0 < length names → hides_line names ≡ codes "hides" ++ names ++ codes "\n"
some_names [] some = absurd (omega (arith, some))
some_names (c ∷ cs) some = refl
