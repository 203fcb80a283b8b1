-- The pairs where the pseudo-literal stands alone: none.
use Rattle.std.proofs.Common.{◌≡◌, ℕ, zero, suc, List, [], ◌∷◌, length, get_or, map, refl, sym, ap, subst, ◌∙◌, arith}
use Rattle.std.proofs.lemmas.Option.{slice_get_within, get_or_from_slice_get}
use Rattle.std.proofs.lemmas.List.{length-map, get_or-map}
use Rattle.me_terms.specs.Values.{ProblemValue, ClauseValue, EntryValue}
use Rattle.me_terms.specs.Positions.{ClauseAt}
use Rattle.me_terms.specs.declared.atom.Literal.{Literal}
use Rattle.entry_hiding.proofs.Marks.{at_below}
use Rattle.clause_pairs.specs.declared.clause_place.ClausePlace.{ClausePlace}
use Rattle.clause_pairs.specs.Index.{IsIndex}
use Rattle.clause_pairs.specs.Lists.{HasPlace, list_at}
use Rattle.clause_pairs.specs.Meetings.{LiteralAt}
use Rattle.clause_pairs.specs.Values.{PairsValue}
use Rattle.clause_pairs.specs.Pairs.{IsPairList, ArePairs}

-- an empty list for each literal
abbrev pub empty_of : List Literal → List (List ℕ)
empty_of literals = map (λ _. []) literals

abbrev pub all_empty : List ClauseValue → List (List (List ℕ))
all_empty clauses = map (λ clause. empty_of clause.literals) clauses

no_number : (literals : List Literal) (i : ℕ) → get_or (empty_of literals) i [] ≡ []
no_number [] i = refl
no_number (l ∷ literals) zero = refl
no_number (l ∷ literals) (suc i) = no_number literals i

module _ (problem : ProblemValue) (q : ClausePlace) where
  row_is : (clause : ClauseValue) → ClauseAt problem q.clause clause → get_or (all_empty problem.clauses) q.clause [] ≡ empty_of clause.literals
  row_is clause at =
      get_or-map (λ (z : ClauseValue). empty_of z.literals) problem.clauses q.clause clause [] (slice_get_within problem.clauses q.clause clause at)
      ∙ ap (λ (z : ClauseValue). empty_of z.literals) (get_or_from_slice_get problem.clauses q.clause clause clause at)

  place_to : HasPlace (all_empty problem.clauses) q → (l : Literal) × LiteralAt problem q l
  place_to h =
      let lt = h.0 in
      let len = length-map problem.clauses (λ (z : ClauseValue). empty_of z.literals) in
      let clause = at_below problem.clauses q.clause (omega (arith, lt, len)) in
      let row = ap length (row_is clause.0 clause.1) ∙ length-map clause.0.literals (λ _. []) in
      let within = h.1 in
      let l = at_below clause.0.literals q.place (omega (arith, row, within)) in
      (l.0, (clause.0, clause.1, l.1))

  place_from : (l : Literal) → LiteralAt problem q l → HasPlace (all_empty problem.clauses) q
  place_from l at =
      let lt = slice_get_within problem.clauses q.clause at.0 at.1 in
      let len = length-map problem.clauses (λ (z : ClauseValue). empty_of z.literals) in
      let row = ap length (row_is at.0 at.1) ∙ length-map at.0.literals (λ _. []) in
      let within = slice_get_within at.0.literals q.place l at.2 in
      (omega (arith, lt, len), omega (arith, row, within))

  none_at : (l : Literal) → LiteralAt problem q l → list_at (all_empty problem.clauses) q ≡ []
  none_at l at = ap (λ (z : List (List ℕ)). get_or z q.place []) (row_is at.0 at.1) ∙ no_number at.0.literals q.place

none_alone : (e : EntryValue) (l : Literal) → IsPairList (e ∷ []) l []
none_alone e l = record {
  rising = λ i j d lt within. absurd (omega arith);
  exact = λ k. (
    λ c. (let lt = c.1 in absurd (omega (arith, lt))),
    λ p. (let lt = slice_get_within (e ∷ []) k p.1.0 p.1.1 in let positive = p.0 in absurd (omega (arith, lt, positive))),
  );
}

pub start_pairs : (problem : ProblemValue) (e : EntryValue) (v : PairsValue) → v.lists ≡ all_empty problem.clauses → v.entered ≡ [] ∷ [] → IsIndex problem v.index → ArePairs problem (e ∷ []) v
start_pairs problem e v lists entered index =
    let P : PairsValue → Type 0 = λ z. ArePairs problem (e ∷ []) z in
    let is : v ≡ record { lists = all_empty problem.clauses; entered = [] ∷ []; index = v.index } = λ i. record { lists = lists i; entered = entered i; index = v.index } in
    subst P (sym is) (record {
      each_clause = length-map problem.clauses (λ (z : ClauseValue). empty_of z.literals);
      each_place = λ q. (place_to problem q, λ at. place_from problem q at.0 at.1);
      list = λ q l at. (let Q : List ℕ → Type 0 = λ z. IsPairList (e ∷ []) l z in subst Q (sym (none_at problem q l at)) (none_alone e l));
      each_entry = refl;
      places = λ k f positive stands. (let lt = slice_get_within (e ∷ []) k f stands in absurd (omega (arith, lt, positive)));
      index = index;
    })
