-- Production at a position against production by the entry that stands there, and totality over positions.
use Rattle.std.proofs.Common.{◌≡◌, ℕ, Bool, true, false, subst}
use Rattle.me_terms.specs.Terms.{AtomValue}
use Rattle.me_terms.specs.Values.{EntryValue}
use Rattle.me_terms.specs.Context.{Context, StandsAt, IsVisible, IsContext}
use Rattle.me_terms.specs.Produces.{IsProduced}
use Rattle.me_laws.proofs.Totality.{total}
use Rattle.induced_model.specs.Producers.{ProducesAt, Yields}

pub produces_of : (context : Context) (k : ℕ) (e : EntryValue) (positive : Bool) (a : AtomValue) → StandsAt context k e → ((x : EntryValue) × IsVisible context k x) → Yields context e positive a → ProducesAt context k positive a
produces_of context k e positive a stands visible yields =
    let same : visible.0 ≡ e = cc (stands, visible.1.0) in
    let P : EntryValue → Type 0 = λ x. IsVisible context k x in (
      e,
      record {
        visible = subst P same visible.1;
        same_sign = yields.same_sign;
        generalizes = yields.generalizes;
        undisputed = yields.undisputed;
      },
    )

pub yields_of : (context : Context) (k : ℕ) (e : EntryValue) (positive : Bool) (a : AtomValue) → StandsAt context k e → ProducesAt context k positive a → Yields context e positive a
yields_of context k e positive a stands produces =
    let p = produces.1 in
    let same : produces.0 ≡ e = cc (stands, p.visible.0) in
    let P : EntryValue → Type 0 = λ x. Yields context x positive a in
    subst P same (record { same_sign = p.same_sign; generalizes = p.generalizes; undisputed = p.undisputed })

not_both : (context : Context) (a : AtomValue) → ((k : ℕ) → ProducesAt context k true a → ⊥) → ((k : ℕ) → ProducesAt context k false a → ⊥) → (positive : Bool) → IsProduced context (record { positive = positive; atom = a }) → ⊥
not_both context a f g true p = f p.0 (p.1, p.2)
not_both context a f g false p = g p.0 (p.1, p.2)

-- some entry produces the atom or its complement
pub some_produces : (context : Context) (a : AtomValue) → IsContext context → ((k : ℕ) → ProducesAt context k true a → ⊥) → ((k : ℕ) → ProducesAt context k false a → ⊥) → ⊥
some_produces context a h f g = let t = total context h a in not_both context a f g t.0 t.1
