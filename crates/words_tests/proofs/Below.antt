-- A right child below a path may be given away.
use Rattle.std.proofs.Common.{◌≡◌, ℕ, ◌+◌, ◌<◌, ◌≤◌, true, Bool, [], ◌∷◌, ◌++◌, length, sym, subst, ap, ◌∙◌, arith, length-append}
use Rattle.std.proofs.lemmas.List.{append_assoc}
use Rattle.branch_core.specs.Paths.{Turns, ProperlyBegins}
use Rattle.branch_core.specs.Runs.{Begins}
use Rattle.share_words.specs.Seats.{MayGive}

-- What is made longer by a turn begins properly.
longer : (parent path : Turns) (turn : Bool) → Begins parent path → ProperlyBegins parent (path ++ turn ∷ [])
longer parent path turn ([], is) = (turn, [], ap (λ (p : Turns). p ++ turn ∷ []) is ∙ append_assoc parent [] (turn ∷ []))
longer parent path turn (next ∷ rest, is) = (next, rest ++ turn ∷ [], ap (λ (p : Turns). p ++ turn ∷ []) is ∙ append_assoc parent (next ∷ rest) (turn ∷ []))

pub may_give : (share room : ℕ) (parent path right : Turns) → Begins parent path → length path + room ≤ share → 0 < room → right ≡ path ++ true ∷ [] → MayGive share parent right
may_give share room parent path right below few some_room is = record {
  extends = let P : Turns → Type 0 = λ p. ProperlyBegins parent p in subst P (sym is) (longer parent path true below);
  to_right = (path, is);
  short = omega (arith, ap (λ (p : Turns). length p) is, length-append path (true ∷ []));
}
