-- Lists of terms that are compared in part.
use Rattle.std.specs.Prelude.{◌≡◌, ℕ, ◌+◌, ◌<◌, Bool, true, false, ◌&&◌, ◌==◌, List, [], ◌∷◌, ◌++◌, map, length, eqb}
use Rattle.std.proofs.Common.{refl, ap, sym, subst, ◌∙◌, arith}
use Rattle.std.proofs.lemmas.Bool.Decides.{Decides-eqb}
use Rattle.me_terms.proofs.Copying.{is_empty_of}
use Rattle.me_terms.specs.Sequences.{SequenceValue}
use Rattle.me_terms.specs.declared.term.Term.{Term}
use Rattle.me_terms.specs.declared.term.Term.TheVariants as term
use Rattle.me_terms.specs.TermViews.{term_value}
use Rattle.me_terms.specs.Terms.{TermValue, App, arguments_of}
use Rattle.me_terms.specs.TermEquality.{same_arguments}
use Rattle.me_terms.specs.Dropping.{later_works}
use Rattle.me_terms.specs.declared.term.Pair.{Pair}

abbrev pub all_alike : List Pair → Bool
all_alike [] = true
all_alike (p ∷ ps) = same_arguments (arguments_of (map term_value p.rest.now)) (arguments_of (map term_value p.others.now)) && all_alike ps

abbrev pub left_to_compare : List Pair → ℕ
left_to_compare [] = 0
left_to_compare (p ∷ ps) = 1 + (later_works (arguments_of (map term_value p.rest.now)) + left_to_compare ps)

and_assoc : (a b c : Bool) → ((a && b) && c) ≡ (a && (b && c))
and_assoc true b c = refl
and_assoc false b c = refl

and_true : (a : Bool) → (a && true) ≡ a
and_true true = refl
and_true false = refl

pub all_alike_end : (ps : List Pair) (p : Pair) → all_alike (ps ++ p ∷ []) ≡ (all_alike ps && same_arguments (arguments_of (map term_value p.rest.now)) (arguments_of (map term_value p.others.now)))
all_alike_end [] p = and_true _
all_alike_end (q ∷ ps) p = ap (λ b. same_arguments (arguments_of (map term_value q.rest.now)) (arguments_of (map term_value q.others.now)) && b) (all_alike_end ps p) ∙ sym (and_assoc _ (all_alike ps) _)

pub left_to_compare_end : (ps : List Pair) (p : Pair) → left_to_compare (ps ++ p ∷ []) ≡ left_to_compare ps + (1 + later_works (arguments_of (map term_value p.rest.now)))
left_to_compare_end [] p = omega arith
left_to_compare_end (q ∷ ps) p = omega (arith, left_to_compare_end ps p)

abbrev pub alike_lists : List Term → List Term → Bool
alike_lists ms ts = same_arguments (arguments_of (map term_value ms)) (arguments_of (map term_value ts))

swap : (e a m l : Bool) → e ≡ true → (((e && a) && m) && l) ≡ (a && (l && m))
swap true true true true h = refl
swap true true true false h = refl
swap true true false true h = refl
swap true true false false h = refl
swap true false m l h = refl
swap false a m l h = cc

and_comm : (a b : Bool) → (a && b) ≡ (b && a)
and_comm true b = sym (and_true b)
and_comm false true = refl
and_comm false false = refl

pub list_is : (list rest inner : List Term) (t : Term) (f : ℕ) (args : SequenceValue TermValue) → list ≡ t ∷ rest → t ≡ term.App f args → map term_value inner ≡ args.items
    → App f (arguments_of (map term_value inner)) ∷ map term_value rest ≡ map term_value list
list_is list rest inner t f args r e a = sym (ap (map term_value) r ∙ ap (λ u. term_value u ∷ map term_value rest) e ∙ ap (λ ts. App f (arguments_of ts) ∷ map term_value rest) (sym a))

pub opened_alike : (later new : List Pair) (p : Pair) (mine theirs inner outer : List Term) (all : Bool) (f g : ℕ)
    → App f (arguments_of (map term_value inner)) ∷ map term_value p.rest.now ≡ map term_value mine
    → App g (arguments_of (map term_value outer)) ∷ map term_value p.others.now ≡ map term_value theirs
    → eqb f g ≡ true → new ≡ later ++ p ∷ [] → (alike_lists mine theirs && all_alike later) ≡ all
    → (alike_lists inner outer && all_alike new) ≡ all
opened_alike later new p mine theirs inner outer all f g m t e n i =
    ap (λ ps. alike_lists inner outer && all_alike ps) n
    ∙ ap (λ b. alike_lists inner outer && b) (all_alike_end later p)
    ∙ sym (swap (eqb f g) (alike_lists inner outer) (alike_lists p.rest.now p.others.now) (all_alike later) e)
    ∙ ap (λ ms. same_arguments (arguments_of ms) (arguments_of (App g (arguments_of (map term_value outer)) ∷ map term_value p.others.now)) && all_alike later) m
    ∙ ap (λ ts. same_arguments (arguments_of (map term_value mine)) (arguments_of ts) && all_alike later) t
    ∙ i

pub closed_alike : (later ps : List Pair) (p : Pair) (mine theirs : List Term) (all : Bool) → length mine ≡ 0 → length theirs ≡ 0 → later ≡ ps ++ p ∷ [] → (alike_lists mine theirs && all_alike later) ≡ all
    → (alike_lists p.rest.now p.others.now && all_alike ps) ≡ all
closed_alike later ps p mine theirs all m t l i =
    and_comm _ (all_alike ps)
    ∙ sym (all_alike_end ps p)
    ∙ ap all_alike (sym l)
    ∙ ap (λ ms. same_arguments (arguments_of (map term_value ms)) (arguments_of []) && all_alike later) (sym (is_empty_of mine m))
    ∙ ap (λ ts. alike_lists mine ts && all_alike later) (sym (is_empty_of theirs t))
    ∙ i

pub uneven : (later : List Pair) (mine theirs : List Term) (all : Bool) → length mine ≡ 0 → 0 < length theirs → (alike_lists mine theirs && all_alike later) ≡ all → false ≡ all
uneven later [] [] all m t i = absurd (omega (arith, t))
uneven later [] (u ∷ us) all m t i = i
uneven later (s ∷ ss) theirs all m t i = absurd (omega (arith, m))

-- one list is at its end: they are alike where the other is, too
pub ended : (mine theirs : List Term) (all alike : Bool) → length mine ≡ 0 → alike_lists mine theirs ≡ all → alike ≡ (length theirs == 0) → alike ≡ all
ended [] [] all alike m i e = e ∙ i
ended [] (u ∷ us) all true m i e = absurd (omega (arith, (Decides-eqb (length (u ∷ us)) 0).0 (sym e)))
ended [] (u ∷ us) all false m i e = i
ended (s ∷ ss) theirs all alike m i e = absurd (omega (arith, m))

left_by : (later : List Pair) (p : Pair) (inner : List Term) (f : ℕ)
    → later_works (arguments_of (map term_value inner)) + left_to_compare (later ++ p ∷ []) < later_works (arguments_of (App f (arguments_of (map term_value inner)) ∷ map term_value p.rest.now)) + left_to_compare later
left_by later p inner f = omega (arith, left_to_compare_end later p)

pub opened_left : (later new : List Pair) (p : Pair) (mine inner : List Term) (f : ℕ) → App f (arguments_of (map term_value inner)) ∷ map term_value p.rest.now ≡ map term_value mine → new ≡ later ++ p ∷ []
    → later_works (arguments_of (map term_value inner)) + left_to_compare new < later_works (arguments_of (map term_value mine)) + left_to_compare later
opened_left later new p mine inner f m n =
    subst (λ ps. later_works (arguments_of (map term_value inner)) + left_to_compare ps < later_works (arguments_of (map term_value mine)) + left_to_compare later) (sym n)
    (subst (λ ms. later_works (arguments_of (map term_value inner)) + left_to_compare (later ++ p ∷ []) < later_works (arguments_of ms) + left_to_compare later) m (left_by later p inner f))

pub closed_left : (later ps : List Pair) (p : Pair) (work : ℕ) → later ≡ ps ++ p ∷ []
    → later_works (arguments_of (map term_value p.rest.now)) + left_to_compare ps < work + left_to_compare later
closed_left later ps p work l = subst (λ qs. later_works (arguments_of (map term_value p.rest.now)) + left_to_compare ps < work + left_to_compare qs) (sym l) (omega (arith, left_to_compare_end ps p))
