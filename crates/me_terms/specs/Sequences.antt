-- What a contract sees of a list type: the items in order, and how many more fit with no allocation.
use Rattle.std.specs.Prelude.{ℕ, List, refl}
use Rattle.std.specs.Coded.{Coded, code_by, coded×, coded_ℕ, coded_list}

pub record SequenceValue (A : Type 0) : Type 0 where
  pub items : List A
  pub spare : ℕ

abbrev pub sequence_code : {A : Type 0} → Coded A → Coded (SequenceValue A)
sequence_code {A} code =
    code_by (List A × ℕ) (coded× (coded_list code) coded_ℕ) (λ h. (h.items, h.spare)) (λ p. record { items = p.0; spare = p.1 }) (λ _. refl)
