-- The split entries that a valuation makes true.
use Rattle.std.proofs.Common.{◌≡◌, Bool, true, ◌⊎◌, inl, inr, sym, subst, ap, ◌∙◌}
use Rattle.me_terms.specs.Terms.{TermValue, AtomValue}
use Rattle.me_terms.specs.Substitutions.{apply_atom, IsInstance}
use Rattle.me_terms.specs.Variables.{are_ground}
use Rattle.me_terms.specs.Context.{IsAtomWith}
use Rattle.me_terms.specs.Refuted.{Valuation}
use Rattle.me_terms.specs.declared.entry.Kind.{Kind}
use Rattle.me_terms.specs.declared.entry.Kind.TheVariants.{Parametric}
use Rattle.me_terms.specs.declared.atom.Pattern.{Pattern}
use Rattle.me_terms.specs.declared.atom.Pattern.TheVariants.{Any, Of}
use Rattle.me_laws.proofs.NoContradiction.{ground_atom}

pub split_true : (c : TermValue) (value : Valuation) (p : Pattern) (kind : Kind) (positive : Bool) (g : AtomValue) → IsAtomWith (λ b. (kind ≡ Parametric) ⊎ (are_ground b.args ≡ true)) p → IsAtomWith (λ b. value (apply_atom (λ x. c) b) ≡ positive) p → IsAtomWith (λ b. IsInstance b g × (kind ≡ Parametric → apply_atom (λ x. c) b ≡ g)) p → value g ≡ positive
split_true c value Any kind positive g h true_there holds = absurd h
split_true c value (Of b) kind positive g (inl parametric) true_there holds = ap value (sym (holds.1 parametric)) ∙ true_there
split_true c value (Of b) kind positive g (inr ground) true_there holds =
    let same : g ≡ apply_atom (λ x. c) b = sym holds.0.1 ∙ (ground_atom holds.0.0 b ground ∙ sym (ground_atom (λ x. c) b ground)) in
    ap value same ∙ true_there

pub no_pseudo : (Q : AtomValue → Type 0) (p : Pattern) → p ≡ Any → IsAtomWith Q p → ⊥
no_pseudo Q p h holds = let P : Pattern → Type 0 = λ x. IsAtomWith Q x in subst P h holds
