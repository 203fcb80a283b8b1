-- Which terms are constants.
use Rattle.std.proofs.Common.{◌≡◌, ℕ, suc, Bool, true, false, ◌&&◌, List, [], ◌∷◌, length, map, refl, ap, sym, ◌∙◌, arith}
use Rattle.std.specs.Bool.{◌==◌}
use Rattle.std.specs.List.{list_all}
use Rattle.std.proofs.lemmas.Bool.{eqb-true}
use Rattle.me_terms.specs.TermViews.{term_value}
use Rattle.me_terms.specs.Terms.{TermValue, App, arguments_of}
use Rattle.me_terms.specs.declared.term.Term.{Term}
use Rattle.literal_index.specs.Index.{is_constant, are_constants}

pub constant_of : (f : ℕ) (items : List TermValue) (r : Bool) → r ≡ (length items == 0) → r ≡ is_constant (App f (arguments_of items))
constant_of f [] r e = e
constant_of f (t ∷ ts) false e = refl
constant_of f (t ∷ ts) true e = absurd (let z : suc (length ts) ≡ 0 = eqb-true (suc (length ts)) 0 (sym e) in omega (arith, z))

whole : (items : List Term) → list_all (λ t. is_constant (term_value t)) items ≡ are_constants (arguments_of (map term_value items))
whole [] = refl
whole (t ∷ ts) = ap (λ (b : Bool). is_constant (term_value t) && b) (whole ts)

pub all_constants : (items : List Term) (values : List TermValue) → map term_value items ≡ values → list_all (λ t. is_constant (term_value t)) items ≡ are_constants (arguments_of values)
all_constants items values is = whole items ∙ ap (λ (z : List TermValue). are_constants (arguments_of z)) is
