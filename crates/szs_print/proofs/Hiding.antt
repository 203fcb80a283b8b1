-- An entry is hidden exactly where one of those after it covers it.
use Rattle.std.proofs.Common.{◌≡◌, ℕ, ◌+◌, ◌-◌, ◌<◌, [], length, take, drop, get_or, slice_get, Some, refl, sym, ap, subst, ◌∙◌, arith, length-drop}
use Rattle.std.proofs.lemmas.List.{take_all, get_or-drop}
use Rattle.std.proofs.lemmas.Option.{slice_get_within, get_or_from_slice_get, slice_get_read}
use Rattle.me_terms.specs.Terms.{AtomValue}
use Rattle.me_terms.specs.Values.{EntryValue, SignatureValue}
use Rattle.me_terms.specs.Context.{Context, StandsAt, Covers, IsHidden}
use Rattle.me_terms.specs.declared.atom.Pattern.TheVariants.{Of}
use Rattle.szs_print.specs.ModelText.{IsTextAt, shown, hidden, literal_line}

-- The entries after position k.
abbrev pub after : ℕ → Context → Context
after k context = take (length context - (k + 1)) (drop (k + 1) context)

after_is : (k : ℕ) (context : Context) → after k context ≡ drop (k + 1) context
after_is k context = take_all _ _ (omega (arith, length-drop (k + 1) context))

read_after : (k j : ℕ) (context : Context) (e : EntryValue) → slice_get (drop (k + 1) context) j ≡ Some e → StandsAt context (k + 1 + j) e
read_after k j context e is =
    let within : j < length (drop (k + 1) context) = slice_get_within _ j e is in
    let inside : k + 1 + j < length context = omega (arith, within, length-drop (k + 1) context) in
    let read : e ≡ get_or context (k + 1 + j) e = sym (get_or_from_slice_get _ j e e is) ∙ get_or-drop (k + 1) context j e in
    slice_get_read context (length context) (k + 1 + j) e refl inside read

write_after : (k j : ℕ) (context : Context) (e : EntryValue) → k < j → StandsAt context j e → slice_get (drop (k + 1) context) (j - (k + 1)) ≡ Some e
write_after k j context e lt is =
    let within : j < length context = slice_get_within context j e is in
    let inside : j - (k + 1) < length (drop (k + 1) context) = omega (arith, length-drop (k + 1) context) in
    let there : k + 1 + (j - (k + 1)) ≡ j = omega arith in
    let read : e ≡ get_or (drop (k + 1) context) (j - (k + 1)) e = sym (get_or-drop (k + 1) context (j - (k + 1)) e ∙ ap (λ n. get_or context n e) there ∙ get_or_from_slice_get context j e e is) in
    slice_get_read _ (length (drop (k + 1) context)) (j - (k + 1)) e refl inside read

-- One of the entries covers e.
abbrev pub HasCover : EntryValue → Context → Type 0
HasCover e later = (j : ℕ) × (universal : EntryValue) × (slice_get later j ≡ Some universal) × Covers universal e

pub hidden_there : (context : Context) (k : ℕ) (e : EntryValue) → HasCover e (after k context) → IsHidden context k e
hidden_there context k e (j, universal, at, covers) =
    let stands = subst (λ (later : Context). slice_get later j ≡ Some universal) (after_is k context) at in (
      k + 1 + j,
      universal,
      record { is_later = omega arith; stands = read_after k j context universal stands; covers = covers },
    )

pub cover_there : (context : Context) (k : ℕ) (e : EntryValue) → IsHidden context k e → HasCover e (after k context)
cover_there context k e (j, universal, hides) = (
  j - (k + 1),
  universal,
  subst (λ (later : Context). slice_get later (j - (k + 1)) ≡ Some universal) (sym (after_is k context)) (write_after k j context universal hides.is_later hides.stands),
  hides.covers,
)

-- The text at a position whose entry is covered, and at one whose literal is not.
pub covered_text : (signature : SignatureValue) (context : Context) (k : ℕ) (e : EntryValue) → k < length context → e ≡ get_or context k e → HasCover e (after k context) → IsTextAt signature context k []
covered_text signature context k e lt read cover =
    hidden e (slice_get_read context (length context) k e refl lt read) (hidden_there context k e cover)

pub visible_text : (signature : SignatureValue) (context : Context) (k : ℕ) (e : EntryValue) (a : AtomValue) → k < length context → e ≡ get_or context k e → e.atom ≡ Of a → (HasCover e (after k context) → ⊥) → IsTextAt signature context k (literal_line signature k e.positive a e.kind)
visible_text signature context k e a lt read is uncovered =
    shown e a (slice_get_read context (length context) k e refl lt read, λ h. uncovered (cover_there context k e h)) is
