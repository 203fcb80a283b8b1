-- Parts of what is fed to a hash, by their place and their length.
use Rattle.std.proofs.Common.{◌≡◌, ℕ, suc, ◌+◌, ◌≤◌, List, ◌∷◌, ◌++◌, length, take, drop, length-append, refl, ap, sym, ◌∙◌, arith}
use Rattle.std.specs.List.{fold}
use Rattle.std.specs.Hash.{HashWrites, u32}
use Rattle.std.proofs.lemmas.List.{drop-drop, length-drop, take_all, take-append-le, drop-append-le}
use Rattle.std.proofs.lemmas.List.Sums.{fold-append}
use Rattle.std.proofs.Math.Seq.{take-add, drop-append-add}
use Rattle.me_terms.specs.declared.term.Term.{Term}
use Rattle.me_terms.specs.TermViews.{term_value}
use Rattle.me_terms.specs.Terms.{TermValue, Var, App, Arguments, Nil, Cons}
use Rattle.me_terms.specs.Variables.{weight, weights}
use Rattle.me_terms.specs.Hashed.{term_fed, arguments_fed}
use Rattle.me_terms.specs.Heads.{symbol_of, arguments_in}
use Rattle.me_terms.proofs.Waiting.{values}

-- ---- a symbol is one write
mutual
  pub term_fed_length : (t : TermValue) → length (term_fed t) ≡ weight t
  term_fed_length (Var x) = refl
  term_fed_length (App f ts) = omega (arith, length-append (u32 f) (arguments_fed ts), arguments_fed_length ts)

  pub arguments_fed_length : (ts : Arguments) → length (arguments_fed ts) ≡ weights ts
  arguments_fed_length Nil = refl
  arguments_fed_length (Cons t ts) = omega (arith, length-append (term_fed t) (arguments_fed ts), term_fed_length t, arguments_fed_length ts)

term_fed_is : (t : TermValue) → term_fed t ≡ u32 (symbol_of t) ++ arguments_fed (arguments_in t)
term_fed_is (Var x) = refl
term_fed_is (App f ts) = refl

term_weighs : (t : TermValue) → weight t ≡ 1 + weights (arguments_in t)
term_weighs (Var x) = refl
term_weighs (App f ts) = refl

-- a list of terms by the symbol of the first, its arguments and the terms behind it
pub fed_is : (terms others inside : List Term) (t : Term) → terms ≡ t ∷ others → values inside ≡ arguments_in (term_value t)
    → arguments_fed (values terms) ≡ u32 (symbol_of (term_value t)) ++ (arguments_fed (values inside) ++ arguments_fed (values others))
fed_is terms others inside t e i =
    ap (λ ts. arguments_fed (values ts)) e
    ∙ ap (λ w. w ++ arguments_fed (values others)) (term_fed_is (term_value t))
    ∙ ap (λ ts. u32 (symbol_of (term_value t)) ++ (arguments_fed ts ++ arguments_fed (values others))) (sym i)

pub weighs : (terms others inside : List Term) (t : Term) → terms ≡ t ∷ others → values inside ≡ arguments_in (term_value t)
    → weights (values terms) ≡ 1 + (weights (values inside) + weights (values others))
weighs terms others inside t e i =
    let whole : weights (values terms) ≡ weight (term_value t) + weights (values others) = ap (λ ts. weights (values ts)) e in
    let inner : weights (values inside) ≡ weights (arguments_in (term_value t)) = ap weights i in
    omega (arith, whole, inner, term_weighs (term_value t))

-- ---- parts of lists of writes
pub all_fed : (n : ℕ) (ts : Arguments) → n ≡ weights ts → take n (drop 0 (arguments_fed ts)) ≡ arguments_fed ts
all_fed n ts e = take_all n (arguments_fed ts) (omega (arith, e, arguments_fed_length ts))

-- the part stands behind the first term
pub behind : (k at new n : ℕ) (all inner others : HashWrites) → all ≡ u32 k ++ (inner ++ others) → length inner ≡ n → at ≡ new + (1 + n)
    → drop new others ≡ drop at all
behind k at new n all inner others e i a =
    sym (drop-append-add inner others new)
    ∙ ap (λ m. drop m (u32 k ++ (inner ++ others))) (let on : suc (length inner + new) ≡ at = omega (arith, i, a) in on)
    ∙ ap (drop at) (sym e)

-- the part stands in the arguments of the first term
pub inside_first : (k at new n count : ℕ) (all inner others : HashWrites) → all ≡ u32 k ++ (inner ++ others) → length inner ≡ n → at ≡ new + 1 → at + count ≤ 1 + n
    → take count (drop new inner) ≡ take count (drop at all)
inside_first k at new n count all inner others e i a le =
    sym (take-append-le count (drop new inner) others (omega (arith, length-drop new inner, i, a, le)))
    ∙ ap (take count) (sym (drop-append-le new inner others (omega (arith, i, a, le))))
    ∙ ap (λ m. take count (drop m (u32 k ++ (inner ++ others)))) (let on : suc new ≡ at = omega (arith, a) in on)
    ∙ ap (λ ws. take count (drop at ws)) (sym e)

-- half of the part is fed
pub half_fed : {S : Type 0} (write : S → List ℕ → S) (a b : S) (at half left less next : ℕ) (all : HashWrites)
    → b ≡ fold write a (take half (drop at all)) → left ≡ half + less → next ≡ at + half
    → fold write b (take less (drop next all)) ≡ fold write a (take left (drop at all))
half_fed write a b at half left less next all f l n =
    ap (λ s. fold write s (take less (drop next all))) f
    ∙ ap (λ m. fold write (fold write a (take half (drop at all))) (take less (drop m all))) n
    ∙ ap (λ ws. fold write (fold write a (take half (drop at all))) (take less ws)) (sym (drop-drop half at all))
    ∙ sym (fold-append write a (take half (drop at all)) (take less (drop half (drop at all))))
    ∙ ap (fold write a) (sym (take-add half less (drop at all)))
    ∙ ap (λ m. fold write a (take m (drop at all))) (sym l)
