-- Names of a chain, and labels that are picked.
use Rattle.std.proofs.Common.{◌≡◌, ℕ, Bool, true, false, List, [], ◌∷◌, map, Some, refl, ap, ◌∙◌}
use Rattle.std.specs.Prelude.{if◌then◌else◌, ◌||◌}
use Rattle.std.specs.List.{list_any}
use Rattle.std.specs.Str.{bytes_eq}
use Rattle.me_terms.specs.LabelEquality.{same_label}
use Rattle.me_terms.specs.Sequences.{SequenceValue}
use Rattle.me_terms.specs.Values.{LabelValue}
use Rattle.tptp_include.specs.Flat.{FlatValue}
use Rattle.tptp_include.specs.Outcomes.{unnamed}

-- a name is among the names where its text is among the texts
pub any_name : (name : List ℕ) (names : List (SequenceValue ℕ)) → list_any (λ other. bytes_eq name other.items) names ≡ list_any (bytes_eq name) (map (λ other. other.items) names)
any_name name [] = refl
any_name name (x ∷ xs) = ap (λ (b : Bool). bytes_eq name x.items || b) (any_name name xs)

-- the first label is one that no formula has
pub first_lacks : (label : LabelValue) (labels all : List LabelValue) (formulas : List FlatValue) → list_any (λ f. same_label f.label label) formulas ≡ false → unnamed all formulas ≡ unnamed (label ∷ labels) formulas → unnamed all formulas ≡ Some label
first_lacks label labels all formulas e k = k ∙ ap (λ (b : Bool). if b then unnamed labels formulas else Some label) e

-- a formula has the first label
pub first_had : (label : LabelValue) (labels all : List LabelValue) (formulas : List FlatValue) → list_any (λ f. same_label f.label label) formulas ≡ true → unnamed all formulas ≡ unnamed (label ∷ labels) formulas → unnamed all formulas ≡ unnamed labels formulas
first_had label labels all formulas e k = k ∙ ap (λ (b : Bool). if b then unnamed labels formulas else Some label) e
