-- Whether a number is that of the first constant.
use Rattle.std.proofs.Common.{◌≡◌, ℕ, Bool, true, false, ◌&&◌, eqb, List, refl, sym, ap, ◌∙◌, arith}
use Rattle.std.specs.List.{list_any, position_or_len}
use Rattle.std.proofs.lemmas.Bool.{eqb-true}
use Rattle.std.proofs.lemmas.Bool.Decides.{nat_tests}
use Rattle.me_terms.specs.Values.{SymbolValue}
use Rattle.tptp_cnf.specs.Meaning.{is_constant}
use Rattle.problem_checks.specs.PlainTests.{is_first_constant}

turned : (a b : ℕ) → eqb a b ≡ eqb b a
turned a b = by (eqb a b) (eqb b a) refl refl
  where
    by : (x y : Bool) → eqb a b ≡ x → eqb b a ≡ y → eqb a b ≡ eqb b a
    by true true e f = e ∙ sym f
    by false false e f = e ∙ sym f
    by true false e f = let same : a ≡ b = eqb-true a b e in let yes : eqb b a ≡ true = grind (arith, nat_tests) in e ∙ sym yes
    by false true e f = let same : b ≡ a = eqb-true b a f in let yes : eqb a b ≡ true = grind (arith, nat_tests) in yes ∙ sym f

pub first_is : (functions : List SymbolValue) (n c0 : ℕ) → n ≡ position_or_len is_constant functions → list_any is_constant functions ≡ true → eqb n c0 ≡ is_first_constant functions c0
first_is functions n c0 place any =
    turned n c0 ∙ ap (eqb c0) place ∙ sym (ap (λ (b : Bool). b && eqb c0 (position_or_len is_constant functions)) any)
