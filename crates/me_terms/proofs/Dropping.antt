-- Each turn of a loop that drops a list of terms leaves less to drop.
use Rattle.std.specs.Prelude.{◌≡◌, ℕ, ◌+◌, ◌<◌, List, [], ◌∷◌, ◌++◌, length, map, slice_index_or, slice_set}
use Rattle.std.specs.declared.vec.Vec.{Vec}
use Rattle.std.specs.declared.alloc.Global.{Global}
use Rattle.std.proofs.Common.{arith, ap, sym, subst, ◌∙◌}
use Rattle.std.proofs.lemmas.List.{map-append}
use Rattle.me_terms.specs.TermViews.{term_value, terms_value}
use Rattle.me_terms.specs.declared.term.Term.{Term}
use Rattle.me_terms.specs.declared.term.Term.TheVariants as term
use Rattle.me_terms.specs.Terms.{TermValue, Var, App, arguments_of}
use Rattle.me_terms.specs.Dropping.{later_work, later_works, first_work, drop_work}

pub later_works_end : (ts : List TermValue) (t : TermValue) → later_works (arguments_of (ts ++ t ∷ [])) ≡ later_works (arguments_of ts) + later_work t
later_works_end [] t = omega arith
later_works_end (s ∷ ts) t = omega (arith, later_works_end ts t)

pub drop_work_end : (s : TermValue) (ts : List TermValue) (t : TermValue) → drop_work (arguments_of ((s ∷ ts) ++ t ∷ [])) ≡ drop_work (arguments_of (s ∷ ts)) + later_work t
drop_work_end s ts t = omega (arith, later_works_end ts t)

later_positive : (t : TermValue) → 0 < later_work t
later_positive (Var x) = omega arith
later_positive (App f ts) = omega arith

first_positive : (t : TermValue) → 0 < first_work t
first_positive (Var x) = omega arith
first_positive (App f ts) = omega arith

pub drop_work_less : (ts : List TermValue) (t : TermValue) → drop_work (arguments_of ts) < drop_work (arguments_of (ts ++ t ∷ []))
drop_work_less [] t = omega (arith, first_positive t)
drop_work_less (s ∷ ts) t = omega (arith, drop_work_end s ts t, later_positive t)

-- the first argument goes to the end of what was before the term, and that list into its place
moved_less : (f : ℕ) (r : TermValue) (rest : List TermValue) (a : TermValue) (others : List TermValue)
    → drop_work (arguments_of (App f (arguments_of ((r ∷ rest) ++ a ∷ [])) ∷ others)) < drop_work (arguments_of ((r ∷ rest) ++ App f (arguments_of (a ∷ others)) ∷ []))
moved_less f r rest a others = omega (arith, drop_work_end r rest a, drop_work_end r rest (App f (arguments_of (a ∷ others))))

pub popped_less : (new old : List Term) (t : Term) → old ≡ new ++ t ∷ [] → drop_work (arguments_of (map term_value new)) < drop_work (arguments_of (map term_value old))
popped_less new old t e =
    subst (λ l. drop_work (arguments_of (map term_value new)) < drop_work (arguments_of l)) (sym (ap (map term_value) e ∙ map-append term_value new (t ∷ []))) (drop_work_less (map term_value new) (term_value t))

put_is : (f : ℕ) (rest : List Term) (v : Vec Term Global) (first b y : Term) → first ≡ b → v.items ≡ rest ++ first ∷ [] → y ≡ term.App f (terms_value v)
    → term_value y ≡ App f (arguments_of (map term_value rest ++ term_value b ∷ []))
put_is f rest v first b y e m p =
    ap term_value p ∙ ap (λ l. App f (arguments_of l)) (ap (map term_value) m ∙ map-append term_value rest (first ∷ []) ∙ ap (λ t. map term_value rest ++ term_value t ∷ []) e)

pub replaced_less : (f : ℕ) (rest inner : List Term) (v : Vec Term Global) (first x y : Term) → 0 < length rest → 0 < length inner → first ≡ slice_index_or inner 0 first → v.items ≡ rest ++ first ∷ [] → y ≡ term.App f (terms_value v)
    → drop_work (arguments_of (map term_value (slice_set (slice_set inner 0 x) 0 y))) < drop_work (arguments_of (map term_value rest ++ App f (arguments_of (map term_value inner)) ∷ []))
replaced_less f [] inner v first x y r i e m p = omega (arith, r)
replaced_less f (s ∷ rest) [] v first x y r i e m p = omega (arith, i)
replaced_less f (s ∷ rest) (b ∷ others) v first x y r i e m p =
    subst (λ t. drop_work (arguments_of (t ∷ map term_value others)) < drop_work (arguments_of (map term_value (s ∷ rest) ++ App f (arguments_of (map term_value (b ∷ others))) ∷ [])))
    (sym (put_is f (s ∷ rest) v first b y e m p))
    (moved_less f (term_value s) (map term_value rest) (term_value b) (map term_value others))
