-- One more word of the generator, and what a word chooses.
use Rattle.std.proofs.Common.{◌≡◌, ℕ, zero, suc, List, [], ◌∷◌, ◌++◌, None, refl, sym, ap, ◌∙◌, append_assoc}
use Rattle.std.proofs.lemmas.List.{append-nil}
use Rattle.rand_core.specs.Steps.{first_words}
use Rattle.rand_pcg.specs.Lcg.{Lcg}
use Rattle.rand_pcg.specs.Pcg.{pcg32}
use Rattle.make_problem.specs.Made.{constant_by}

pub one_word : (items all : List ℕ) (n fewer : ℕ) (g new : Lcg) (w : ℕ) → n ≡ suc fewer → (w, new) ≡ pcg32 g → items ++ first_words pcg32 n g ≡ all → (items ++ w ∷ []) ++ first_words pcg32 fewer new ≡ all
unfolding first_words
one_word items all n fewer g new w count step before =
    append_assoc items (w ∷ []) (first_words pcg32 fewer new)
    ∙ ap (λ (p : ℕ × Lcg). items ++ p.0 ∷ first_words pcg32 fewer p.1) step
    ∙ ap (λ (m : ℕ). items ++ first_words pcg32 m g) (sym count)
    ∙ before

pub no_more_words : (items all : List ℕ) (n : ℕ) (g : Lcg) → n ≡ 0 → items ++ first_words pcg32 n g ≡ all → items ≡ all
unfolding first_words
no_more_words items all n g none before =
    sym (append-nil items) ∙ ap (λ (m : ℕ). items ++ first_words pcg32 m g) (sym none) ∙ before

pub chosen_other : (n : ℕ) → (n ≡ 0 → ⊥) → (n ≡ 1 → ⊥) → constant_by n ≡ None
chosen_other zero h k = absurd (h refl)
chosen_other (suc zero) h k = absurd (k refl)
chosen_other (suc (suc n)) h k = refl
