-- The tuple to which a cursor goes has a unifier.
use Rattle.std.proofs.Common.{◌≡◌, ℕ, List, Option, Some, None, sym, ap, subst, ◌∙◌}
use Rattle.std.specs.Prelude.{Result, IfOk, IsSome, IsNone, ◌↔◌}
use Rattle.std.proofs.lemmas.Option.{same_Some}
use Rattle.me_terms.specs.Substitutions.{Family}
use Rattle.me_terms.specs.Context.{Context}
use Rattle.me_terms.specs.Unifier.{IsContextUnifier}
use Rattle.me_terms.specs.declared.atom.Literal.{Literal}
use Rattle.me_unify.proofs.Forest.{if_ok_map}
use Rattle.tuple_search.specs.Enumeration.{no_limits, HasUnifier, IsLastTuple}
use Rattle.tuple_search.specs.Cursors.{CursorValue, IsAdvanced, IsAtEnd}

-- a cursor over all tuples of the literals that have a unifier
abbrev over_all : Context → Option (List ℕ) → List Literal → CursorValue
over_all context at literals = record { context = context; literals = literals; skip = None; limits = no_limits; at = at }

module _ (old new : CursorValue) (context : Context) (written literals : List Literal) (after : Option (List ℕ)) (is : old ≡ over_all context after written) (same : written ≡ literals) where
  pub none_followed : IsAtEnd old → IsLastTuple context literals None no_limits after
  none_followed h = subst (λ (z : CursorValue). IsAtEnd z) (is ∙ ap (over_all context after) same) h

  pub unifier_followed : (items : List ℕ) → IsAdvanced old new → new.at ≡ Some items → (f : Family) × IsContextUnifier context literals None items f
  unifier_followed items advanced shown =
      let tuple = advanced.tuple in
      let P : CursorValue → Type 0 = λ z. HasUnifier z.context z.literals z.skip z.limits tuple in
      let Q : List ℕ → Type 0 = λ z. (f : Family) × IsContextUnifier context literals None z f in
      let has : HasUnifier context literals None no_limits tuple = subst P (is ∙ ap (over_all context after) same) advanced.next.unifier in
      let there : tuple ≡ items = same_Some tuple items (sym (ap (λ (z : CursorValue). z.at) advanced.moved) ∙ shown) in
      subst Q there (has.0, has.1)

none_some : {T : Type 0} (o : Option T) → IsNone o → IsSome o → ⊥
none_some None none some = cc some
none_some (Some x) none some = cc none

-- what follows where nothing was found, where something has to be
pub never_none : {T E : Type 0} (r : Result (Option T) E) (F Q : Type 0) → F → IfOk r (λ o. IsSome o ↔ F) → IfOk r (λ o. IsNone o → Q)
never_none r F Q f exact = if_ok_map r (λ o. IsSome o ↔ F) (λ o. IsNone o → Q) (λ o e none. absurd (none_some o none (e.1 f))) exact
