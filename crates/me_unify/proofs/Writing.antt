-- Nodes' terms that are written in part.
use Rattle.std.proofs.Common.{◌≡◌, ℕ, suc, ◌<◌, List, ◌∷◌, map, ap, sym, ◌∙◌, arith}
use Rattle.me_terms.specs.Terms.{App, arguments_of}
use Rattle.me_unify.specs.declared.reading.Writing.{Writing}
use Rattle.me_unify.specs.Linked.{Colouring}
use Rattle.me_unify.proofs.Frames.{Opened, AreWithin}

abbrev pub opened : Colouring → Writing → Opened
opened h fr = record { symbol = fr.f; before = fr.made.items; behind = map h fr.rest.now }

abbrev pub IsWithin : ℕ → Writing → Type 0
IsWithin n fr = AreWithin n fr.rest.now

-- a list whose first node is a function with the arguments
pub list_is : (h : Colouring) (rest others inner args : List ℕ) (x f : ℕ) → rest ≡ x ∷ others → h x ≡ App f (arguments_of (map h args)) → inner ≡ args
    → map h rest ≡ App f (arguments_of (map h inner)) ∷ map h others
list_is h rest others inner args x f r e a = ap (map h) r ∙ ap (λ t. t ∷ map h others) e ∙ ap (λ xs. App f (arguments_of (map h xs)) ∷ map h others) (sym a)

pub first_within : (n : ℕ) (rest others : List ℕ) (x : ℕ) → rest ≡ x ∷ others → AreWithin n rest → x < n
first_within n rest others x r w = (rw r at w) 0 (omega arith)

pub others_within : (n : ℕ) (rest others : List ℕ) (x : ℕ) → rest ≡ x ∷ others → AreWithin n rest → AreWithin n others
others_within n rest others x r w i lt = (rw r at w) (suc i) (omega arith)
