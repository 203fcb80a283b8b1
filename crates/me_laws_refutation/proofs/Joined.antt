-- Joined lists have the instances of both.
use Rattle.std.proofs.Common.{◌≡◌, Bool, true, false, not, cond, eqb, ◌⊎◌, inl, inr, List, [], ◌∷◌, ◌++◌, refl, sym, subst}
use Rattle.std.specs.List.{filter}
use Rattle.std.specs.Cmp.Lexicographic.{pointwise}
use Rattle.std.proofs.lemmas.Bool.{eqb-true}
use Rattle.me_terms.specs.TermEqualityLaws.{both_parts, same_atom_sound}
use Rattle.me_terms.specs.TermEquality.{same_atom}
use Rattle.me_terms.specs.Values.{InstanceValue}
use Rattle.me_terms.specs.FirstOccurrences.{same_sign_as, same_literal, same_instance, first_occurrences, joined}
use Rattle.me_terms.specs.declared.atom.Literal.{Literal}
use Rattle.me_laws.proofs.Lists.{EachOf, SomeOf, each_append, some_left, some_right, filter_each}

sign_sound : (a b : Bool) → same_sign_as a b ≡ true → a ≡ b
sign_sound true true h = refl
sign_sound true false h = cc
sign_sound false true h = cc
sign_sound false false h = refl

literal_sound : (l m : Literal) → same_literal l m ≡ true → l ≡ m
literal_sound l m h =
    let parts = both_parts (same_sign_as l.positive m.positive) (same_atom l.atom m.atom) h in
    λ i. record { positive = sign_sound l.positive m.positive parts.0 i; atom = same_atom_sound l.atom m.atom parts.1 i }

literals_sound : (ls ms : List Literal) → pointwise same_literal ls ms ≡ true → ls ≡ ms
literals_sound [] [] h = refl
literals_sound [] (m ∷ ms) h = cc
literals_sound (l ∷ ls) [] h = cc
literals_sound (l ∷ ls) (m ∷ ms) h =
    let parts = both_parts (same_literal l m) (pointwise same_literal ls ms) h in
    λ i. literal_sound l m parts.0 i ∷ literals_sound ls ms parts.1 i

instance_sound : (i j : InstanceValue) → same_instance i j ≡ true → i ≡ j
instance_sound i j h =
    let parts = both_parts (eqb i.clause j.clause) (pointwise same_literal i.literals j.literals) h in
    λ n. record { clause = eqb-true i.clause j.clause parts.0 n; literals = literals_sound i.literals j.literals parts.1 n }

here : (P : InstanceValue → Type 0) (i j : InstanceValue) (xs : List InstanceValue) (test : Bool) → same_instance i j ≡ test → P j → P i ⊎ SomeOf P (cond (not test) (j ∷ xs) xs)
here P i j xs true e h = inl (subst P (sym (instance_sound i j e)) h)
here P i j xs false e h = inr (inl h)

later : (P : InstanceValue → Type 0) (j : InstanceValue) (xs : List InstanceValue) (test : Bool) → SomeOf P xs → SomeOf P (cond test (j ∷ xs) xs)
later P j xs true h = inr h
later P j xs false h = h

filtered : (P : InstanceValue → Type 0) (i : InstanceValue) (xs : List InstanceValue) → SomeOf P xs → P i ⊎ SomeOf P (filter (λ j. not (same_instance i j)) xs)
filtered P i [] h = absurd h
filtered P i (j ∷ xs) (inl h) = here P i j (filter (λ k. not (same_instance i k)) xs) (same_instance i j) refl h
filtered P i (j ∷ xs) (inr h) =
    elim (filtered P i xs h) as (λ _. P i ⊎ SomeOf P (filter (λ k. not (same_instance i k)) (j ∷ xs))) [
      | inl g ↦ inl g
      | inr g ↦ inr (later P j (filter (λ k. not (same_instance i k)) xs) (not (same_instance i j)) g)
    ]

pub some_first : (P : InstanceValue → Type 0) (list : List InstanceValue) → SomeOf P list → SomeOf P (first_occurrences list)
some_first P [] h = h
some_first P (i ∷ list) (inl h) = inl h
some_first P (i ∷ list) (inr h) = filtered P i (first_occurrences list) (some_first P list h)

pub each_first : (P : InstanceValue → Type 0) (list : List InstanceValue) → EachOf P list → EachOf P (first_occurrences list)
each_first P [] h = tt
each_first P (i ∷ list) h = (h.0, filter_each P (λ j. not (same_instance i j)) (first_occurrences list) (each_first P list h.1))

pub some_joined_left : (P : InstanceValue → Type 0) (list more : List InstanceValue) → SomeOf P list → SomeOf P (joined list more)
some_joined_left P list more h = some_first P (list ++ more) (some_left P list more h)

pub some_joined_right : (P : InstanceValue → Type 0) (list more : List InstanceValue) → SomeOf P more → SomeOf P (joined list more)
some_joined_right P list more h = some_first P (list ++ more) (some_right P list more h)

pub each_joined : (P : InstanceValue → Type 0) (list more : List InstanceValue) → EachOf P list → EachOf P more → EachOf P (joined list more)
each_joined P list more f g = each_first P (list ++ more) (each_append P list more f g)
