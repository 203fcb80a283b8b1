-- What holds of clauses over numbers holds of the clauses that they stand for.
use Rattle.std.proofs.Common.{◌≡◌, inl, inr, ℕ, zero, suc, ◌<◌, Bool, true, false, not, List, [], ◌∷◌, ◌++◌, length, map, Some, get_or, refl, sym, ap, subst, ◌∙◌, arith}
use Rattle.std.specs.Prelude.{slice_get}
use Rattle.std.specs.List.{AllZip}
use Rattle.std.specs.declared.vec.Vec.{Vec}
use Rattle.std.specs.declared.alloc.Global.{Global}
use Rattle.std.proofs.lemmas.List.{map-append}
use Rattle.std.proofs.lemmas.Option.{get_or_from_slice_get}
use Rattle.me_terms.specs.Terms.{AtomValue}
use Rattle.me_terms.specs.declared.atom.Literal.{Literal}
use Rattle.ground_solver.specs.ClosingProofs.{Cases, LeafAt, BranchOn, Fixes, Closes, IsFalseOn, IsClosingProof, preorder}
use Rattle.ground_solver.specs.Named.{Names, NameAll, named, named_node}
use Rattle.ground_solver.specs.Numbered.{Clauses, IsFalseAt, ClosesAt, AreClosing, nodes}
use Rattle.ground_solver.specs.declared.decision.Split.{Split}
use Rattle.ground_solver.specs.declared.signed.Signed.{Signed}
use Rattle.ground_solver.specs.declared.signed.Step.{Step}
use Rattle.ground_solver.specs.declared.signed.Step.TheVariants.{Branch}

-- two lists that agree place by place: the item of the other
pub zip_get : {A B : Type 0} (R : A → B → Type 0) (xs : List A) (ys : List B) (n : ℕ) (x : A) → AllZip R xs ys → slice_get xs n ≡ Some x → (y : B) × (slice_get ys n ≡ Some y) × R x y
zip_get R [] ys n x zip e = absurd cc
zip_get R (a ∷ xs) [] n x zip e = absurd zip
zip_get R (a ∷ xs) (b ∷ ys) zero x zip e = let same : a ≡ x = cc in (b, refl, subst (λ z. R z b) same (zip.0))
zip_get R (a ∷ xs) (b ∷ ys) (suc n) x zip e = zip_get R xs ys n x (zip.1) e

pub zip_at : {A B : Type 0} (R : A → B → Type 0) (xs : List A) (ys : List B) (n : ℕ) (d : A) (e : B) → AllZip R xs ys → n < length ys → R (get_or xs n d) (get_or ys n e)
zip_at R [] [] n d e zip below = absurd (omega arith)
zip_at R [] (b ∷ ys) n d e zip below = absurd zip
zip_at R (a ∷ xs) [] n d e zip below = absurd zip
zip_at R (a ∷ xs) (b ∷ ys) zero d e zip below = zip.0
zip_at R (a ∷ xs) (b ∷ ys) (suc n) d e zip below = let under : n < length ys = omega arith in zip_at R xs ys n d e (zip.1) under

pub zip_length : {A B : Type 0} (R : A → B → Type 0) (xs : List A) (ys : List B) → AllZip R xs ys → length xs ≡ length ys
zip_length R [] [] zip = refl
zip_length R [] (b ∷ ys) zip = absurd zip
zip_length R (a ∷ xs) [] zip = absurd zip
zip_length R (a ∷ xs) (b ∷ ys) zip = ap (λ (n : ℕ). suc n) (zip_length R xs ys (zip.1))

pub zip_push : {A B : Type 0} (R : A → B → Type 0) (xs : List A) (ys : List B) (x : A) (y : B) → AllZip R xs ys → R x y → AllZip R (xs ++ x ∷ []) (ys ++ y ∷ [])
zip_push R [] [] x y zip here = (here, tt)
zip_push R [] (b ∷ ys) x y zip here = absurd zip
zip_push R (a ∷ xs) [] x y zip here = absurd zip
zip_push R (a ∷ xs) (b ∷ ys) x y zip here = (zip.0, zip_push R xs ys x y (zip.1) here)

pub zip_map : {A B : Type 0} (R S : A → B → Type 0) (xs : List A) (ys : List B) → ((x : A) (y : B) → R x y → S x y) → AllZip R xs ys → AllZip S xs ys
zip_map R S [] [] f zip = tt
zip_map R S [] (b ∷ ys) f zip = absurd zip
zip_map R S (a ∷ xs) [] f zip = absurd zip
zip_map R S (a ∷ xs) (b ∷ ys) f zip = (f a b (zip.0), zip_map R S xs ys f (zip.1))

-- the path and the tree with the atoms that the numbers stand for
abbrev named_path : List AtomValue → List (ℕ × Bool) → List (AtomValue × Bool)
named_path atoms [] = []
named_path atoms (p ∷ path) = (named atoms (p.0), p.1) ∷ named_path atoms path

abbrev named_tree : List AtomValue → Cases ℕ → Cases AtomValue
named_tree atoms (LeafAt n) = LeafAt n
named_tree atoms (BranchOn a t f) = BranchOn (named atoms a) (named_tree atoms t) (named_tree atoms f)

fixes_named : (atoms : List AtomValue) (path : List (ℕ × Bool)) (a : ℕ) (b : Bool) → Fixes path a b → Fixes (named_path atoms path) (named atoms a) b
fixes_named atoms [] a b fixed = absurd fixed
fixes_named atoms (p ∷ path) a b (inl is) = inl (ap (named atoms) (is.0), is.1)
fixes_named atoms (p ∷ path) a b (inr later) = inr (fixes_named atoms path a b later)

literal_named : (atoms : List AtomValue) (path : List (ℕ × Bool)) (l : Signed) (m : Literal) → Names atoms l m → Fixes path l.atom (not l.positive) → Fixes (named_path atoms path) m.atom (not m.positive)
literal_named atoms path l m names fixed =
    let atom : named atoms l.atom ≡ m.atom = get_or_from_slice_get atoms l.atom m.atom _ (names.0) in
    let sign : not l.positive ≡ not m.positive = ap not (names.1) in
    subst (λ (a : AtomValue). Fixes (named_path atoms path) a (not m.positive)) atom (subst (λ (b : Bool). Fixes (named_path atoms path) (named atoms l.atom) b) sign (fixes_named atoms path l.atom (not l.positive) fixed))

leaf_named : (atoms : List AtomValue) (clauses : Clauses) (list : List (List Literal)) (path : List (ℕ × Bool)) (n : ℕ) → NameAll atoms clauses list → IsFalseAt clauses path n → IsFalseOn list (named_path atoms path) n
leaf_named atoms clauses list path n names false_here =
    let there = zip_get (λ (clause : Vec Signed Global) (literals : List Literal). AllZip (Names atoms) clause.items literals) clauses list n (false_here.0) names (false_here.1) in
    let clause = false_here.0 in
    let literals = there.0 in (
      literals,
      there.1,
      λ k d below.
          let l = get_or clause.items k (record { positive = true; atom = 0 }) in
          let inside : k < length clause.items = omega (arith, zip_length (Names atoms) clause.items literals (there.2)) in
          literal_named atoms path l (get_or literals k d) (zip_at (Names atoms) clause.items literals k _ d (there.2) below) (false_here.2 k _ inside),
    )

tree_named : (atoms : List AtomValue) (clauses : Clauses) (list : List (List Literal)) (path : List (ℕ × Bool)) (tree : Cases ℕ) → NameAll atoms clauses list → ClosesAt clauses path tree → Closes list (named_path atoms path) (named_tree atoms tree)
tree_named atoms clauses list path (LeafAt n) names closes = leaf_named atoms clauses list path n names closes
tree_named atoms clauses list path (BranchOn a t f) names closes =
    (tree_named atoms clauses list ((a, true) ∷ path) t names (closes.0), tree_named atoms clauses list ((a, false) ∷ path) f names (closes.1))

nodes_named : (atoms : List AtomValue) (tree : Cases ℕ) → preorder (named_tree atoms tree) ≡ map (named_node atoms) (nodes tree)
nodes_named atoms (LeafAt n) = refl
nodes_named atoms (BranchOn a t f) =
    let both : preorder (named_tree atoms t) ++ preorder (named_tree atoms f) ≡ map (named_node atoms) (nodes t ++ nodes f) =
    ap (λ (xs : List Split). xs ++ preorder (named_tree atoms f)) (nodes_named atoms t) ∙ (ap (λ (xs : List Split). map (named_node atoms) (nodes t) ++ xs) (nodes_named atoms f) ∙ sym (map-append (named_node atoms) (nodes t) (nodes f))) in
    ap (λ (xs : List Split). named_node atoms (Branch a) ∷ xs) both

pub closing_named : (atoms : List AtomValue) (clauses : Clauses) (list : List (List Literal)) (steps : List Step) → NameAll atoms clauses list → AreClosing clauses steps → IsClosingProof list (map (named_node atoms) steps)
closing_named atoms clauses list steps names closing =
    (named_tree atoms (closing.0), nodes_named atoms (closing.0) ∙ ap (map (named_node atoms)) (closing.1), tree_named atoms clauses list [] (closing.0) names (closing.2))
