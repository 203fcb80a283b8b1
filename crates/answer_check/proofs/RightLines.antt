-- Whether a line of a model may stand behind a context.
use Rattle.std.proofs.Common.{◌≡◌, ◌↔◌, Bool, true, false, not, IsTrue, refl, sym, ap, subst, ◌∙◌}
use Rattle.me_terms.specs.TermEquality.{same_atom}
use Rattle.me_terms.specs.TermEqualityLaws.{same_atom_sound, same_atom_itself}
use Rattle.me_terms.specs.Terms.{AtomValue, Var}
use Rattle.me_terms.specs.Variables.{are_ground, is_canonical, canonical}
use Rattle.me_terms.specs.Context.{Context}
use Rattle.me_terms.specs.Contradictory.{IsContradictory}
use Rattle.me_terms.specs.declared.entry.Kind.{Kind}
use Rattle.me_terms.specs.declared.entry.Kind.TheVariants.{Universal, Parametric}
use Rattle.me_laws.proofs.CanonicalForm.{canonical_form}
use Rattle.me_laws.proofs.Generality.{atom_unchanged}
use Rattle.szs_read.specs.declared.claim.EntryLine.{EntryLine}
use Rattle.answer_check.specs.Judgements.{IsRightEntry}

pub same_tells : (form a : AtomValue) (b : Bool) → b ≡ same_atom form a → IsTrue b ↔ (form ≡ a)
same_tells form a b e = (λ told. same_atom_sound form a (sym e ∙ told), λ same. e ∙ subst (λ (z : AtomValue). same_atom form z ≡ true) same (same_atom_itself form))

-- An atom is canonical exactly where it is its own canonical form.
pub canonical_itself : (a form : AtomValue) (b : Bool) → form ≡ canonical a → (IsTrue b ↔ (form ≡ a)) → IsTrue b ↔ IsTrue (is_canonical a)
canonical_itself a form b is tells = (
  λ yes. subst (λ (z : AtomValue). IsTrue (is_canonical z)) (sym is ∙ tells.0 yes) (canonical_form.form_is_canonical a),
  λ h. tells.1 (is ∙ sym (canonical_form.form_is_only a a h ((Var, atom_unchanged a), (Var, atom_unchanged a)))),
)

by_kind : (kind : Kind) → ¬ (kind ≡ Parametric) → kind ≡ Universal
by_kind Universal h = refl
by_kind Parametric h = absurd (h refl)

not_both_kinds : ¬ (Universal ≡ Parametric)
not_both_kinds h = cc h

module _ (context : Context) (line : EntryLine) where
  pub ground_parametric : line.kind ≡ Parametric → IsTrue (are_ground line.literal.atom.args) → ¬ IsRightEntry context line
  ground_parametric kind ground right = not_both_kinds (sym (right.ground ground) ∙ kind)

  pub not_canonical : ¬ IsTrue (is_canonical line.literal.atom) → ¬ IsRightEntry context line
  not_canonical other right = other right.canonical

  -- the last test decides
  pub right_if_apart : (b : Bool) → (IsTrue b ↔ IsContradictory context line.literal line.kind) → IsTrue (is_canonical line.literal.atom) → (line.kind ≡ Parametric → ¬ IsTrue (are_ground line.literal.atom.args)) → IsTrue (not b) ↔ IsRightEntry context line
  right_if_apart true tells canonical ground = (λ no. absurd (cc no), λ right. absurd (right.apart (tells.0 refl)))
  right_if_apart false tells canonical ground = (
    λ _. record {
      canonical = canonical;
      ground = λ is_ground. by_kind line.kind (λ parametric. ground parametric is_ground);
      apart = λ clash. absurd (cc (tells.1 clash));
    },
    λ _. refl,
  )
