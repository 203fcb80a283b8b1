-- Terms that are filled in part.
use Rattle.std.proofs.Common.{◌≡◌, ℕ, List, ◌∷◌, map, ap, sym, ◌∙◌}
use Rattle.me_terms.specs.Sequences.{SequenceValue}
use Rattle.me_terms.specs.declared.term.Term.{Term}
use Rattle.me_terms.specs.declared.term.Term.TheVariants as term
use Rattle.me_terms.specs.TermViews.{term_value}
use Rattle.me_terms.specs.Terms.{TermValue, App, arguments_of}
use Rattle.me_unify.specs.declared.constants.Filling.{Filling}
use Rattle.me_unify.proofs.Frames.{Opened}

abbrev pub opened : Filling → Opened
opened fr = record { symbol = fr.f; before = fr.made.items; behind = map term_value fr.rest.now }

-- a list whose first term has the arguments
pub list_is : (rest others inner : List Term) (t : Term) (f : ℕ) (args : SequenceValue TermValue) → rest ≡ t ∷ others → t ≡ term.App f args → map term_value inner ≡ args.items
    → map term_value rest ≡ App f (arguments_of (map term_value inner)) ∷ map term_value others
list_is rest others inner t f args r e a =
    ap (map term_value) r ∙ ap (λ u. term_value u ∷ map term_value others) e ∙ ap (λ ts. App f (arguments_of ts) ∷ map term_value others) (sym a)
