-- The positions for which a model's text has a line, and how many they are.
use Rattle.std.proofs.Common.{◌≡◌, inl, inr, ℕ, ◌+◌, ◌<◌, Bool, true, false, length, get_or, refl, sym, ap, subst, ◌∙◌, add-one}
use Rattle.std.proofs.lemmas.Option.{slice_get_read}
use Rattle.std.proofs.lemmas.Bool.{false≢true}
use Rattle.std.specs.Prelude.{IsTrue, ◌↔◌, not}
use Rattle.me_terms.specs.Terms.{AtomValue}
use Rattle.me_terms.specs.Values.{EntryValue}
use Rattle.me_terms.specs.Context.{Context, StandsAt, IsHidden}
use Rattle.me_terms.specs.declared.atom.Pattern.TheVariants.{Any, Of}
use Rattle.szs_print.specs.SummaryText.{IsShown, IsShownCount}
use Rattle.szs_print.proofs.Hiding.{HasCover, after, hidden_there, cover_there}

-- what stands at a position is one entry
same_entry : (context : Context) (k : ℕ) (e f : EntryValue) → StandsAt context k e → StandsAt context k f → e ≡ f
same_entry context k e f h g = cc

same_atom : (a b : AtomValue) → Of a ≡ Of b → a ≡ b
same_atom a b h = cc

pub any_is_not_shown : (context : Context) (k : ℕ) (e : EntryValue) → k < length context → e ≡ get_or context k e → e.atom ≡ Any → IsShown context k → ⊥
any_is_not_shown context k e lt read is (f, a, visible, of_a) =
    let same = same_entry context k f e visible.0 (slice_get_read context (length context) k e refl lt read) in
    let clash : Of a ≡ Any = sym of_a ∙ ap (λ (x : EntryValue). x.atom) same ∙ is in
    absurd cc

module _ (context : Context) (k : ℕ) (e : EntryValue) (a : AtomValue) (lt : k < length context) (read : e ≡ get_or context k e) (is : e.atom ≡ Of a) where
  stands : StandsAt context k e
  stands = slice_get_read context (length context) k e refl lt read

  covered_is_not_shown : HasCover e (after k context) → IsShown context k → ⊥
  covered_is_not_shown cover (f, b, visible, of_b) =
      let same = same_entry context k f e visible.0 stands in
      visible.1 (subst (IsHidden context k) (sym same) (hidden_there context k e cover))

  uncovered_is_shown : (HasCover e (after k context) → ⊥) → IsShown context k
  uncovered_is_shown uncovered = (e, a, (stands, λ h. uncovered (cover_there context k e h)), is)

  pub shown_by : (b : Bool) → (IsTrue b ↔ HasCover e (after k context)) → IsTrue (not b) ↔ IsShown context k
  shown_by true h = ((λ n. absurd (false≢true n)), λ s. absurd (covered_is_not_shown (h.0 refl) s))
  shown_by false h = ((λ n. uncovered_is_shown (λ c. false≢true (h.1 c))), λ s. refl)

-- one more position
pub one_shown : (context : Context) (n count : ℕ) → IsShownCount context n count → IsShown context n → IsShownCount context (n + 1) (count + 1)
one_shown context n count h s = subst (λ (m : ℕ). IsShownCount context m (count + 1)) (sym (add-one n)) (count, h, inl (s, add-one count))

pub none_shown : (context : Context) (n count : ℕ) → IsShownCount context n count → (IsShown context n → ⊥) → IsShownCount context (n + 1) count
none_shown context n count h s = subst (λ (m : ℕ). IsShownCount context m count) (sym (add-one n)) (count, h, inr (s, refl))
