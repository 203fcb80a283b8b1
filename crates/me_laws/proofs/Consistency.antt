-- A consistent context stays consistent where an entry is added that does not contradict it.
use Rattle.std.proofs.Common.{◌≡◌, ℕ, Bool, true, false, not, ◌⊎◌, inl, inr, refl, sym, subst}
use Rattle.me_terms.specs.Values.{EntryValue}
use Rattle.me_terms.specs.Context.{Context, Hides, IsVisible, add}
use Rattle.me_terms.specs.Contradictory.{Clash, Contradicts, IsConsistent}
use Rattle.me_laws.proofs.Generality.{clash_symmetric}
use Rattle.me_laws.proofs.Added.{add_old, add_either}

hides_on : (context : Context) (e : EntryValue) (k : ℕ) (f : EntryValue) (j : ℕ) (later : EntryValue) → Hides context k f j later → Hides (add context e) k f j later
hides_on context e k f j later h = record {
  is_later = h.is_later;
  stands = add_old context e j later h.stands;
  covers = h.covers;
}

-- what is visible in the new context was visible, or is the new entry
pub visible_either : (context : Context) (e : EntryValue) (k : ℕ) (f : EntryValue) → IsVisible (add context e) k f → IsVisible context k f ⊎ (e ≡ f)
visible_either context e k f h =
    elim (add_either context e k f h.0) as (λ _. IsVisible context k f ⊎ (e ≡ f)) [
      | inl old ↦ inl (old, λ hidden. h.1 (hidden.0, hidden.1, hides_on context e k f hidden.0 hidden.1 hidden.2))
      | inr new ↦ inr new
    ]

not_back : (a b : Bool) → a ≡ not b → b ≡ not a
not_back true true h = cc
not_back true false h = refl
not_back false true h = refl
not_back false false h = cc

not_own : (a : Bool) → ¬ (a ≡ not a)
not_own true h = cc
not_own false h = cc

module _ (context : Context) (e : EntryValue) (consistent : IsConsistent context) (apart : ¬ Contradicts context e.positive e.kind e.atom) where
  -- two visible entries of the new context
  pair_apart : (k : ℕ) (f : EntryValue) (j : ℕ) (g : EntryValue) → IsVisible context k f ⊎ (e ≡ f) → IsVisible context j g ⊎ (e ≡ g) → g.positive ≡ not f.positive → Clash g.kind g.atom f.kind f.atom → ⊥
  pair_apart k f j g (inl old) (inl older) sign clash = consistent k f old (j, g, older, sign, clash)
  pair_apart k f j g (inl old) (inr new) sign clash =
      let P : EntryValue → Type 0 = λ x. (x.positive ≡ not f.positive) × Clash x.kind x.atom f.kind f.atom in
      let at = subst P (sym new) (sign, clash) in
      apart (k, f, old, not_back e.positive f.positive at.0, clash_symmetric e.kind e.atom f.kind f.atom at.1)
  pair_apart k f j g (inr new) (inl old) sign clash =
      let P : EntryValue → Type 0 = λ x. (g.positive ≡ not x.positive) × Clash g.kind g.atom x.kind x.atom in
      let at = subst P (sym new) (sign, clash) in
      apart (j, g, old, at.0, at.1)
  pair_apart k f j g (inr new) (inr newer) sign clash =
      let P : EntryValue → Type 0 = λ x. g.positive ≡ not x.positive in
      let Q : EntryValue → Type 0 = λ x. x.positive ≡ not e.positive in
      not_own e.positive (subst Q (sym newer) (subst P (sym new) sign))

  pub add_consistent : IsConsistent (add context e)
  add_consistent = λ k f visible h.
      pair_apart k f h.0 h.1 (visible_either context e k f visible) (visible_either context e h.0 h.1 h.2) h.3 h.4
