-- Values under which each clause over numbers has a true literal are a choice that satisfies the clauses.
use Rattle.std.proofs.Common.{◌≡◌, inl, inr, ℕ, zero, suc, ◌<◌, ◌≤◌, Bool, true, false, cond, ◌+◌, take, List, [], ◌∷◌, ◌++◌, length, Option, Some, None, get_or, refl, sym, ap, subst, ◌∙◌, arith}
use Rattle.std.specs.Prelude.{slice_get}
use Rattle.std.specs.List.{AllByRecursion, IsDistinct, Any, AllZip, position_or_len, filter}
use Rattle.std.specs.declared.vec.Vec.{Vec}
use Rattle.std.specs.declared.alloc.Global.{Global}
use Rattle.std.proofs.lemmas.Grind.{common_steps}
use Rattle.std.proofs.lemmas.Map.Keys.{IsDistinct-head, IsDistinct-tail}
use Rattle.std.proofs.lemmas.List.{get_or_default}
use Rattle.std.proofs.lemmas.List.Elements.{filter_more}
use Rattle.std.proofs.lemmas.Option.{slice_get_read, slice_get_cases, slice_get-get_or, get_or_from_slice_get}
use Rattle.me_terms.specs.Terms.{AtomValue}
use Rattle.me_terms.specs.TermEquality.{same_atom}
use Rattle.me_terms.specs.TermEqualityLaws.{same_atom_sound, same_atom_itself}
use Rattle.me_terms.specs.declared.atom.Literal.{Literal}
use Rattle.ground_solver.specs.Assignments.{IsModel, IsTrueUnder, Satisfies, atoms_of}
use Rattle.ground_solver.specs.Named.{Names, NameAll, is_true, valuation}
use Rattle.ground_solver.specs.Numbered.{Clauses}
use Rattle.ground_solver.specs.Standings.{AreTrueFrom, IsTrueIn, value_at}
use Rattle.ground_solver.specs.declared.signed.Signed.{Signed}
use Rattle.ground_solver.proofs.Namings.{zip_get, zip_length}
use Rattle.ground_solver.proofs.Refuting.{got_at}

same_some : {X : Type 0} (x y : X) → Some x ≡ Some y → x ≡ y
same_some x y h = cc h

each_at : {X : Type 0} (P : X → Type 0) (xs : List X) (n : ℕ) (x : X) → AllByRecursion P xs → slice_get xs n ≡ Some x → P x
each_at P [] n x h is = cc is
each_at P (y ∷ ys) zero x h is = subst P (same_some y x is) h.0
each_at P (y ∷ ys) (suc n) x h is = each_at P ys n x h.1 is

other : (x a : AtomValue) → same_atom x a ≡ false → (b : Bool) → same_atom a x ≡ b → b ≡ false
other x a h false is = refl
other x a h true is =
    let P : AtomValue → Type 0 = λ z. same_atom x z ≡ false in
    let itself : same_atom x x ≡ false = subst P (same_atom_sound a x is) h in
    cc (itself, same_atom_itself x)

-- an item within the list
pub get_or_read_of : {X : Type 0} (xs : List X) (k : ℕ) → k < length xs → (x : X) × (slice_get xs k ≡ Some x) × (get_or xs k x ≡ x)
get_or_read_of xs k below =
    elim ((slice_get_cases xs k).1) [
      | inl y ↦ (y.0, y.2, y.3)
      | inr past ↦ absurd (omega (arith, past.0))
    ]

-- of atoms that differ, the one that stands at n has its first place there
pub own_place : (atoms : List AtomValue) → IsDistinct same_atom atoms → (n : ℕ) (a : AtomValue) → slice_get atoms n ≡ Some a → position_or_len (same_atom a) atoms ≡ n
own_place [] h n a is = cc is
own_place (x ∷ xs) h zero a is =
    let P : AtomValue → Type 0 = λ z. same_atom a z ≡ true in
    let here : same_atom a x ≡ true = subst P (sym (same_some x a is)) (same_atom_itself a) in
    grind (arith, common_steps, here)
own_place (x ∷ xs) h (suc n) a is =
    let apart : same_atom a x ≡ false = other x a (each_at (λ y. same_atom x y ≡ false) xs n a (IsDistinct-head same_atom x xs h) is) (same_atom a x) refl in
    grind (arith, common_steps, apart, own_place xs (IsDistinct-tail same_atom x xs h) n a is)

pub valued : (atoms : List AtomValue) (values : List (Option Bool)) → IsDistinct same_atom atoms → (n : ℕ) (a : AtomValue) → slice_get atoms n ≡ Some a → valuation atoms values a ≡ is_true (value_at values n)
valued atoms values h n a is = ap (λ (k : ℕ). is_true (value_at values k)) (own_place atoms h n a is)

literal_true : (atoms : List AtomValue) (values : List (Option Bool)) → IsDistinct same_atom atoms → (l : Signed) (m : Literal) → Names atoms l m → IsTrueIn values l → valuation atoms values m.atom ≡ m.positive
literal_true atoms values h l m names is = valued atoms values h l.atom m.atom (names.0) ∙ (ap is_true is ∙ names.1)

clause_true : (atoms : List AtomValue) (values : List (Option Bool)) → IsDistinct same_atom atoms → (clause : List Signed) (literals : List Literal) → AllZip (Names atoms) clause literals → Any (IsTrueIn values) clause → Any (IsTrueUnder (valuation atoms values)) literals
clause_true atoms values h clause literals names found =
    let k = found.0 in
    let l = found.1 in
    let item : Some (get_or clause k l) ≡ Some l = ap (λ (s : Signed). Some s) (found.3) in
    let there = zip_get (Names atoms) clause literals k l names (slice_get-get_or clause k l (found.2) ∙ item) in
    let at = got_at literals k (there.0) (there.1) in
    (k, there.0, at.0, at.1, literal_true atoms values h l (there.0) (there.2) (found.4))

pub all_true : (atoms : List AtomValue) (values : List (Option Bool)) (clauses : Clauses) (list : List (List Literal)) → IsDistinct same_atom atoms → NameAll atoms clauses list → AreTrueFrom clauses values 0 → Satisfies (valuation atoms values) list
all_true atoms values clauses list h names found k d below =
    let Both : Vec Signed Global → List Literal → Type 0 = λ clause literals. AllZip (Names atoms) clause.items literals in
    let within : k < length clauses = omega (arith, zip_length Both clauses list names) in
    let from : 0 ≤ k = omega arith in
    let some = get_or_read_of clauses k within in
    let there = zip_get Both clauses list k (some.0) names (some.1) in
    let at = got_at list k (there.0) (there.1) in
    let is : Any (IsTrueIn values) (some.0).items = subst (λ (c : Vec Signed Global). Any (IsTrueIn values) c.items) (some.2) (found k (some.0) from within) in
    let here : Any (IsTrueUnder (valuation atoms values)) (there.0) = clause_true atoms values h (some.0).items (there.0) (there.2) is in
    subst (λ (c : List Literal). Any (IsTrueUnder (valuation atoms values)) c) (sym (get_or_from_slice_get list k (there.0) d (there.1))) here

pub is_model : (atoms : List AtomValue) (values : List (Option Bool)) (clauses : Clauses) (list : List (List Literal)) (trues : List AtomValue) → IsDistinct same_atom atoms → atoms ≡ atoms_of list → NameAll atoms clauses list → AreTrueFrom clauses values 0 → trues ≡ filter (valuation atoms values) atoms → IsModel list trues
is_model atoms values clauses list trues h all names found is =
    (valuation atoms values, is ∙ ap (filter (valuation atoms values)) all, all_true atoms values clauses list h names found)

-- one atom more is looked at
pub trues_more : (atoms : List AtomValue) (values : List (Option Bool)) (k : ℕ) (a : AtomValue) (d : Option Bool) (trues more : List AtomValue) → IsDistinct same_atom atoms → length values ≡ length atoms → k < length atoms → a ≡ get_or atoms k a → more ≡ trues ++ cond (is_true (get_or values k d)) (a ∷ []) [] → trues ≡ filter (valuation atoms values) (take k atoms) → more ≡ filter (valuation atoms values) (take (k + 1) atoms)
trues_more atoms values k a d trues more h size below is put so_far =
    let p = valuation atoms values in
    let value : p a ≡ is_true (value_at values k) = valued atoms values h k a (slice_get_read atoms (length atoms) k a refl below is) in
    let inside : k < length values = omega arith in
    let same : is_true (get_or values k d) ≡ p a = ap is_true (get_or_default values k d None inside) ∙ sym value in
    let Keep : Bool → AtomValue → List AtomValue = λ b x. filter p (take k atoms) ++ cond b (x ∷ []) [] in
    put ∙ (ap (λ (xs : List AtomValue). xs ++ cond (is_true (get_or values k d)) (a ∷ []) []) so_far ∙ (ap (λ (b : Bool). Keep b a) same ∙ (ap (λ (x : AtomValue). Keep (p x) x) is ∙ sym (filter_more p atoms k a below))))
