-- A list of terms that is copied in part.
use Rattle.std.specs.Prelude.{◌≡◌, ℕ, ◌+◌, List, [], ◌∷◌, ◌++◌, map}
use Rattle.std.proofs.Common.{refl, ap, sym, subst, ◌∙◌, ◌<◌, length, append_assoc, arith}
use Rattle.std.proofs.lemmas.List.{append-nil}
use Rattle.me_terms.specs.declared.term.Term.{Term}
use Rattle.me_terms.specs.declared.term.Term.TheVariants as term
use Rattle.me_terms.specs.Sequences.{SequenceValue}
use Rattle.me_terms.specs.TermViews.{term_value}
use Rattle.me_terms.specs.Terms.{TermValue, App, arguments_of}
use Rattle.me_terms.specs.Dropping.{later_works}
use Rattle.me_terms.specs.declared.term.Frame.{Frame}

-- the whole list, where the last frame stands innermost
abbrev pub whole : List Frame → List TermValue → List TermValue
whole [] ts = ts
whole (fr ∷ frs) ts = fr.made.items ++ App fr.f (arguments_of (whole frs ts)) ∷ map term_value fr.rest.now

abbrev pub left_above : List Frame → ℕ
left_above [] = 0
left_above (fr ∷ frs) = 1 + (later_works (arguments_of (map term_value fr.rest.now)) + left_above frs)

pub whole_end : (frs : List Frame) (fr : Frame) (ts : List TermValue) → whole (frs ++ fr ∷ []) ts ≡ whole frs (fr.made.items ++ App fr.f (arguments_of ts) ∷ map term_value fr.rest.now)
whole_end [] fr ts = refl
whole_end (g ∷ frs) fr ts = ap (λ us. g.made.items ++ App g.f (arguments_of us) ∷ map term_value g.rest.now) (whole_end frs fr ts)

pub left_end : (frs : List Frame) (fr : Frame) → left_above (frs ++ fr ∷ []) ≡ left_above frs + (1 + later_works (arguments_of (map term_value fr.rest.now)))
left_end [] fr = omega arith
left_end (g ∷ frs) fr = omega (arith, left_end frs fr)

pub is_empty_of : {A : Type 0} (ts : List A) → length ts ≡ 0 → ts ≡ []
is_empty_of [] h = refl
is_empty_of (t ∷ ts) h = absurd (omega (arith, h))

-- the innermost frame is done
pub frame_closed : (above frs : List Frame) (fr : Frame) (made next : List TermValue) (rest : List Term) (all : List TermValue)
    → length rest ≡ 0 → above ≡ frs ++ fr ∷ [] → next ≡ fr.made.items ++ App fr.f (arguments_of made) ∷ [] → whole above (made ++ map term_value rest) ≡ all
    → whole frs (next ++ map term_value fr.rest.now) ≡ all
frame_closed above frs fr made next rest all h a n i =
    ap (λ ts. whole frs (ts ++ map term_value fr.rest.now)) n
    ∙ ap (whole frs) (append_assoc fr.made.items (App fr.f (arguments_of made) ∷ []) (map term_value fr.rest.now))
    ∙ sym (whole_end frs fr made)
    ∙ ap (λ frs. whole frs made) (sym a)
    ∙ ap (whole above) (sym (append-nil made) ∙ ap (λ ts. made ++ map term_value ts) (sym (is_empty_of rest h)))
    ∙ i

-- a term's arguments are gone into
pub frame_opened : (above new : List Frame) (fr : Frame) (made : List TermValue) (rest inner : List Term) (t : Term) (f : ℕ) (args : SequenceValue TermValue) (all : List TermValue)
    → rest ≡ t ∷ fr.rest.now → t ≡ term.App f args → map term_value inner ≡ args.items → new ≡ above ++ fr ∷ [] → fr.f ≡ f → fr.made.items ≡ made → whole above (made ++ map term_value rest) ≡ all
    → whole new (map term_value inner) ≡ all
frame_opened above new fr made rest inner t f args all r e a n ef em i =
    ap (λ frs. whole frs (map term_value inner)) n
    ∙ whole_end above fr (map term_value inner)
    ∙ ap (λ g. whole above (fr.made.items ++ App g (arguments_of (map term_value inner)) ∷ map term_value fr.rest.now)) ef
    ∙ ap (λ ms. whole above (ms ++ App f (arguments_of (map term_value inner)) ∷ map term_value fr.rest.now)) em
    ∙ ap (λ ts. whole above (made ++ App f (arguments_of ts) ∷ map term_value fr.rest.now)) a
    ∙ ap (λ u. whole above (made ++ term_value u ∷ map term_value fr.rest.now)) (sym e)
    ∙ ap (λ ts. whole above (made ++ map term_value ts)) (sym r)
    ∙ i

less_by : (above : List Frame) (fr : Frame) (inner : List Term) (f : ℕ)
    → later_works (arguments_of (map term_value inner)) + left_above (above ++ fr ∷ []) < later_works (arguments_of (App f (arguments_of (map term_value inner)) ∷ map term_value fr.rest.now)) + left_above above
less_by above fr inner f = omega (arith, left_end above fr)

pub opened_less : (above new : List Frame) (fr : Frame) (rest inner : List Term) (t : Term) (f : ℕ) (args : SequenceValue TermValue)
    → rest ≡ t ∷ fr.rest.now → t ≡ term.App f args → map term_value inner ≡ args.items → new ≡ above ++ fr ∷ []
    → later_works (arguments_of (map term_value inner)) + left_above new < later_works (arguments_of (map term_value rest)) + left_above above
opened_less above new fr rest inner t f args r e a n =
    subst (λ frs. later_works (arguments_of (map term_value inner)) + left_above frs < later_works (arguments_of (map term_value rest)) + left_above above) (sym n)
    (subst (λ ts. later_works (arguments_of (map term_value inner)) + left_above (above ++ fr ∷ []) < later_works (arguments_of ts) + left_above above)
    (sym (ap (map term_value) r ∙ ap (λ u. term_value u ∷ map term_value fr.rest.now) e ∙ ap (λ ts. App f (arguments_of ts) ∷ map term_value fr.rest.now) (sym a)))
    (less_by above fr inner f))

pub closed_less : (above frs : List Frame) (fr : Frame) (work : ℕ) → above ≡ frs ++ fr ∷ []
    → later_works (arguments_of (map term_value fr.rest.now)) + left_above frs < work + left_above above
closed_less above frs fr work a = subst (λ gs. later_works (arguments_of (map term_value fr.rest.now)) + left_above frs < work + left_above gs) (sym a) (omega (arith, left_end frs fr))
