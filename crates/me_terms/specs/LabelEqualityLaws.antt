-- The tests of equality of labels and symbols decide equality.
use Rattle.std.specs.Prelude.{ℕ, true, ◌≡◌, eqb, List, [], ◌∷◌, refl}
use Rattle.std.specs.Cmp.{IsEquivalence}
use Rattle.std.specs.Cmp.Lexicographic.{pointwise}
use Rattle.std.proofs.Common.{arith}
use Rattle.std.proofs.lemmas.Bool.{eqb-true}
use Rattle.std.proofs.lemmas.Grind.{common_steps}
use Rattle.me_terms.specs.TermEqualityLaws.{both_parts, deciding}
use Rattle.me_terms.specs.Values.{LabelValue, SymbolValue}
use Rattle.me_terms.specs.LabelEquality.{form_rank, same_label, same_symbol}
use Rattle.me_terms.specs.declared.symbol.Form.{Form}
use Rattle.me_terms.specs.declared.symbol.Form.TheVariants.{Word, Distinct, Number}

pub form_rank-inj : (a b : Form) → form_rank a ≡ form_rank b → a ≡ b
form_rank-inj Word Word h = refl
form_rank-inj Distinct Distinct h = refl
form_rank-inj Number Number h = refl
form_rank-inj Word Distinct h = cc
form_rank-inj Word Number h = cc
form_rank-inj Distinct Word h = cc
form_rank-inj Distinct Number h = cc
form_rank-inj Number Word h = cc
form_rank-inj Number Distinct h = cc

pub texts_sound : (xs ys : List ℕ) → pointwise eqb xs ys ≡ true → xs ≡ ys
texts_sound [] [] h = refl
texts_sound [] (y ∷ ys) h = cc
texts_sound (x ∷ xs) [] h = cc
texts_sound (x ∷ xs) (y ∷ ys) h =
    let parts = both_parts (eqb x y) (pointwise eqb xs ys) h in
    cc (eqb-true x y parts.0, texts_sound xs ys parts.1)

pub texts_same : (xs : List ℕ) → pointwise eqb xs xs ≡ true
texts_same [] = refl
texts_same (x ∷ xs) = grind (arith, common_steps, texts_same xs)

pub same_label_sound : (a b : LabelValue) → same_label a b ≡ true → a ≡ b
same_label_sound a b h =
    let parts = both_parts (eqb (form_rank a.form) (form_rank b.form)) (pointwise eqb a.text b.text) h in
    λ i. record { form = form_rank-inj a.form b.form (eqb-true _ _ parts.0) i; text = texts_sound a.text b.text parts.1 i }

pub same_label_itself : (a : LabelValue) → same_label a a ≡ true
same_label_itself a = grind (arith, common_steps, texts_same a.text)

pub label_laws : IsEquivalence same_label
label_laws = deciding same_label same_label_sound same_label_itself

pub same_symbol_sound : (a b : SymbolValue) → same_symbol a b ≡ true → a ≡ b
same_symbol_sound a b h =
    let parts = both_parts (eqb a.arity b.arity) (same_label a.label b.label) h in
    λ i. record { label = same_label_sound a.label b.label parts.1 i; arity = eqb-true a.arity b.arity parts.0 i }

pub same_symbol_itself : (a : SymbolValue) → same_symbol a a ≡ true
same_symbol_itself a = grind (arith, common_steps, same_label_itself a.label)

pub symbol_laws : IsEquivalence same_symbol
symbol_laws = deciding same_symbol same_symbol_sound same_symbol_itself
