-- The texts of what is known stay the same as the signature grows.
use Rattle.std.proofs.Common.{◌≡◌, ℕ, true, List, [], ◌∷◌, ◌++◌, Option, refl, ap, ◌∙◌}
use Rattle.std.specs.Prelude.{slice_get, codes, if◌then◌else◌}
use Rattle.std.specs.List.{AllByRecursion}
use Rattle.me_terms.specs.Signatures.{takes, is_known, are_known}
use Rattle.me_terms.specs.TermEqualityLaws.{both_parts}
use Rattle.me_terms.specs.Terms.{TermValue, Var, App, Arguments, Nil, Cons}
use Rattle.me_terms.specs.Values.{SymbolValue, SignatureValue}
use Rattle.me_terms.specs.Variables.{count}
use Rattle.me_terms.specs.declared.atom.Literal.{Literal}
use Rattle.cnf_text.specs.ClauseText.{symbol_text, term_text, arguments_text, others_text, literal_text, barred_text, clause_text}
use Rattle.szs_read.specs.Claims.{IsLiteralOver}
use Rattle.szs_read.proofs.Symbols.{same_longer}
use Rattle.szs_read.proofs.Grown.{Wider}

module _ (old new : SignatureValue) (w : Wider old new) where
  mutual
    term_same : (t : TermValue) → is_known old t ≡ true → term_text new t ≡ term_text old t
    term_same (Var x) h = refl
    term_same (App f ts) h =
        let parts = both_parts (takes (slice_get old.functions f) (count ts)) (are_known old ts) h in
        ap (λ (o : Option SymbolValue). symbol_text o ++ arguments_text new ts) (same_longer old.functions new.functions f (count ts) w.functions parts.0)
        ∙ ap (λ (v : List ℕ). symbol_text (slice_get old.functions f) ++ v) (arguments_same ts parts.1)

    arguments_same : (ts : Arguments) → are_known old ts ≡ true → arguments_text new ts ≡ arguments_text old ts
    arguments_same Nil h = refl
    arguments_same (Cons t ts) h =
        let parts = both_parts (is_known old t) (are_known old ts) h in
        ap (λ (v : List ℕ). codes "(" ++ v ++ others_text new ts ++ codes ")") (term_same t parts.0)
        ∙ ap (λ (v : List ℕ). codes "(" ++ term_text old t ++ v ++ codes ")") (others_same ts parts.1)

    others_same : (ts : Arguments) → are_known old ts ≡ true → others_text new ts ≡ others_text old ts
    others_same Nil h = refl
    others_same (Cons t ts) h =
        let parts = both_parts (is_known old t) (are_known old ts) h in
        ap (λ (v : List ℕ). codes "," ++ v ++ others_text new ts) (term_same t parts.0)
        ∙ ap (λ (v : List ℕ). codes "," ++ term_text old t ++ v) (others_same ts parts.1)

  pub literal_same : (b : ℕ) (l : Literal) → IsLiteralOver old b l → literal_text new l ≡ literal_text old l
  literal_same b l h =
      let parts = both_parts (takes (slice_get old.predicates l.atom.pred) (count l.atom.args)) (are_known old l.atom.args) h.known in
      let tilde : List ℕ = if l.positive then [] else codes "~" in
      ap (λ (o : Option SymbolValue). tilde ++ (symbol_text o ++ arguments_text new l.atom.args)) (same_longer old.predicates new.predicates l.atom.pred (count l.atom.args) w.predicates parts.0)
      ∙ ap (λ (v : List ℕ). tilde ++ (symbol_text (slice_get old.predicates l.atom.pred) ++ v)) (arguments_same l.atom.args parts.1)

  barred_same : (b : ℕ) (ls : List Literal) → AllByRecursion (IsLiteralOver old b) ls → barred_text new ls ≡ barred_text old ls
  barred_same b [] h = refl
  barred_same b (l ∷ ls) h =
      ap (λ (v : List ℕ). (codes " | " ++ v) ++ barred_text new ls) (literal_same b l h.0)
      ∙ ap (λ (v : List ℕ). (codes " | " ++ literal_text old l) ++ v) (barred_same b ls h.1)

  pub clause_same : (b : ℕ) (ls : List Literal) → AllByRecursion (IsLiteralOver old b) ls → clause_text new ls ≡ clause_text old ls
  clause_same b [] h = refl
  clause_same b (l ∷ ls) h =
      ap (λ (v : List ℕ). v ++ barred_text new ls) (literal_same b l h.0)
      ∙ ap (λ (v : List ℕ). literal_text old l ++ v) (barred_same b ls h.1)
