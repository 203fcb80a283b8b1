-- The test of equality of instances decides equality.
use Rattle.std.specs.Prelude.{Bool, true, false, ◌≡◌, eqb, List, [], ◌∷◌, refl}
use Rattle.std.specs.Cmp.{IsEquivalence}
use Rattle.std.specs.Cmp.Lexicographic.{pointwise}
use Rattle.std.proofs.Common.{arith}
use Rattle.std.proofs.lemmas.Bool.{eqb-true}
use Rattle.std.proofs.lemmas.Grind.{common_steps}
use Rattle.me_terms.specs.TermEquality.{same_atom}
use Rattle.me_terms.specs.TermEqualityLaws.{both_parts, same_atom_sound, same_atom_itself, deciding}
use Rattle.me_terms.specs.FirstOccurrences.{same_sign_as, same_literal, same_instance}
use Rattle.me_terms.specs.Values.{InstanceValue}
use Rattle.me_terms.specs.declared.atom.Literal.{Literal}

sign_sound : (a b : Bool) → same_sign_as a b ≡ true → a ≡ b
sign_sound true true h = refl
sign_sound true false h = cc
sign_sound false true h = cc
sign_sound false false h = refl

sign_itself : (a : Bool) → same_sign_as a a ≡ true
sign_itself true = refl
sign_itself false = refl

pub literal_sound : (l m : Literal) → same_literal l m ≡ true → l ≡ m
literal_sound l m h =
    let parts = both_parts (same_sign_as l.positive m.positive) (same_atom l.atom m.atom) h in
    λ i. record { positive = sign_sound l.positive m.positive parts.0 i; atom = same_atom_sound l.atom m.atom parts.1 i }

pub literal_itself : (l : Literal) → same_literal l l ≡ true
literal_itself l = rw (sign_itself l.positive, same_atom_itself l.atom)

pub literals_sound : (ls ms : List Literal) → pointwise same_literal ls ms ≡ true → ls ≡ ms
literals_sound [] [] h = refl
literals_sound [] (m ∷ ms) h = cc
literals_sound (l ∷ ls) [] h = cc
literals_sound (l ∷ ls) (m ∷ ms) h =
    let parts = both_parts (same_literal l m) (pointwise same_literal ls ms) h in
    λ i. literal_sound l m parts.0 i ∷ literals_sound ls ms parts.1 i

pub literals_itself : (ls : List Literal) → pointwise same_literal ls ls ≡ true
literals_itself [] = refl
literals_itself (l ∷ ls) = rw (literal_itself l, literals_itself ls)

pub instance_sound : (i j : InstanceValue) → same_instance i j ≡ true → i ≡ j
instance_sound i j h =
    let parts = both_parts (eqb i.clause j.clause) (pointwise same_literal i.literals j.literals) h in
    λ n. record { clause = eqb-true i.clause j.clause parts.0 n; literals = literals_sound i.literals j.literals parts.1 n }

pub instance_itself : (i : InstanceValue) → same_instance i i ≡ true
instance_itself i = grind (arith, common_steps, literals_itself i.literals)

pub instance_laws : IsEquivalence same_instance
instance_laws = deciding same_instance instance_sound instance_itself
