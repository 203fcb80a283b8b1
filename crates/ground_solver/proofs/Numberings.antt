-- Atoms keep their numbers as further atoms are numbered.
use Rattle.std.proofs.Common.{◌≡◌, ℕ, zero, suc, ◌+◌, ◌<◌, ◌≤◌, ◌^◌, ◌==◌, Bool, true, false, cond, List, [], ◌∷◌, ◌++◌, length, take, Some, get_or, refl, sym, ap, subst, ◌∙◌, arith, length-append}
use Rattle.std.specs.Prelude.{slice_get}
use Rattle.std.proofs.lemmas.Bool.Decides.{Decides-eqb}
use Rattle.std.specs.List.{AllZip, list_any}
use Rattle.std.specs.declared.vec.Vec.{Vec}
use Rattle.std.specs.declared.alloc.Global.{Global}
use Rattle.std.proofs.lemmas.List.{take_more}
use Rattle.std.proofs.lemmas.List.Sums.{fold_more, sum_by_more, sum_by-take-le}
use Rattle.std.specs.List.{position}
use Rattle.std.proofs.lemmas.List.{get_or-map, length-map, get_or_at}
use Rattle.std.proofs.lemmas.List.Quantifiers.{position-Some}
use Rattle.std.proofs.lemmas.Option.{slice_get-get_or}
use Rattle.me_terms.specs.Sequences.{SequenceValue}
use Rattle.me_terms.specs.TermEqualityLaws.{same_atom_sound}
use Rattle.me_terms.specs.Terms.{AtomValue}
use Rattle.me_terms.specs.TermEquality.{same_atom}
use Rattle.me_terms.specs.declared.atom.Literal.{Literal}
use Rattle.ground_solver.specs.Assignments.{clauses_of, with_atom, with_atoms, atoms_of}
use Rattle.ground_solver.specs.Named.{Names, NameAll, literal_count}
use Rattle.ground_solver.specs.Numbered.{Clauses}
use Rattle.ground_solver.specs.declared.signed.Signed.{Signed}
use Rattle.ground_solver.proofs.Namings.{zip_map, zip_push}

get_append : {X : Type 0} (xs ys : List X) (n : ℕ) (x : X) → slice_get xs n ≡ Some x → slice_get (xs ++ ys) n ≡ Some x
get_append [] ys n x e = absurd cc
get_append (y ∷ xs) ys zero x e = e
get_append (y ∷ xs) ys (suc n) x e = get_append xs ys n x e

kept_by : (b : Bool) (atoms : List AtomValue) (a : AtomValue) (n : ℕ) (x : AtomValue) → slice_get atoms n ≡ Some x → slice_get (cond b atoms (atoms ++ a ∷ [])) n ≡ Some x
kept_by true atoms a n x e = e
kept_by false atoms a n x e = get_append atoms (a ∷ []) n x e

names_kept : (atoms : List AtomValue) (a : AtomValue) (l : Signed) (m : Literal) → Names atoms l m → Names (with_atom atoms a) l m
names_kept atoms a l m names = (kept_by (list_any (same_atom a) atoms) atoms a l.atom m.atom (names.0), names.1)

names_kept_all : (literals : List Literal) (atoms : List AtomValue) (l : Signed) (m : Literal) → Names atoms l m → Names (with_atoms atoms literals) l m
names_kept_all [] atoms l m names = names
names_kept_all (first ∷ literals) atoms l m names = names_kept_all literals (with_atom atoms first.atom) l m (names_kept atoms first.atom l m names)

longer_by : (b : Bool) (atoms : List AtomValue) (a : AtomValue) → length (cond b atoms (atoms ++ a ∷ [])) ≤ length atoms + 1
longer_by true atoms a = omega arith
longer_by false atoms a = omega (arith, length-append atoms (a ∷ []))

pub length_with_atom : (atoms : List AtomValue) (a : AtomValue) → length (with_atom atoms a) ≤ length atoms + 1
length_with_atom atoms a = longer_by (list_any (same_atom a) atoms) atoms a

pub length_with_atoms : (literals : List Literal) (atoms : List AtomValue) → length (with_atoms atoms literals) ≤ length atoms + length literals
length_with_atoms [] atoms = omega arith
length_with_atoms (first ∷ literals) atoms = omega (arith, length_with_atom atoms first.atom, length_with_atoms literals (with_atom atoms first.atom))

-- one literal more
pub clause_more : (start atoms : List AtomValue) (clause : List Signed) (literals : List Literal) (k : ℕ) (m : Literal) (l : Signed) → k < length literals → get_or literals k m ≡ m → atoms ≡ with_atoms start (take k literals) → AllZip (Names atoms) clause (take k literals) → Names (with_atom atoms m.atom) l m → (with_atom atoms m.atom ≡ with_atoms start (take (k + 1) literals)) × AllZip (Names (with_atom atoms m.atom)) (clause ++ l ∷ []) (take (k + 1) literals)
clause_more start atoms clause literals k m l below is so_far named here =
    let step : with_atoms start (take (k + 1) literals) ≡ with_atom (with_atoms start (take k literals)) (get_or literals k m).atom = fold_more (λ (known : List AtomValue) (x : Literal). with_atom known x.atom) start literals k m below in
    let taken : take (k + 1) literals ≡ take k literals ++ m ∷ [] = take_more literals k m below ∙ ap (λ (x : Literal). take k literals ++ x ∷ []) is in
    let grown = zip_map (Names atoms) (Names (with_atom atoms m.atom)) clause (take k literals) (names_kept atoms m.atom) named in
    let pushed = zip_push (Names (with_atom atoms m.atom)) clause (take k literals) l m grown here in
    (ap (λ (xs : List AtomValue). with_atom xs m.atom) so_far ∙ (ap (λ (x : Literal). with_atom (with_atoms start (take k literals)) x.atom) (sym is) ∙ sym step), subst (λ (xs : List Literal). AllZip (Names (with_atom atoms m.atom)) (clause ++ l ∷ []) xs) (sym taken) pushed)

-- one clause more
pub list_more : (atoms : List AtomValue) (clauses : Clauses) (list : List (List Literal)) (k : ℕ) (literals : List Literal) (clause : Vec Signed Global) → k < length list → get_or list k literals ≡ literals → atoms ≡ atoms_of (take k list) → NameAll atoms clauses (take k list) → AllZip (Names (with_atoms atoms literals)) clause.items literals → (with_atoms atoms literals ≡ atoms_of (take (k + 1) list)) × NameAll (with_atoms atoms literals) (clauses ++ clause ∷ []) (take (k + 1) list)
list_more atoms clauses list k literals clause below is so_far named here =
    let Both : List AtomValue → Vec Signed Global → List Literal → Type 0 = λ known c ls. AllZip (Names known) c.items ls in
    let more = with_atoms atoms literals in
    let step : atoms_of (take (k + 1) list) ≡ with_atoms (atoms_of (take k list)) (get_or list k literals) = fold_more with_atoms [] list k literals below in
    let taken : take (k + 1) list ≡ take k list ++ literals ∷ [] = take_more list k literals below ∙ ap (λ (x : List Literal). take k list ++ x ∷ []) is in
    let grown = zip_map (Both atoms) (Both more) clauses (take k list) (λ c ls names. zip_map (Names atoms) (Names more) c.items ls (names_kept_all literals atoms) names) named in
    let pushed = zip_push (Both more) clauses (take k list) clause literals grown here in
    (ap (λ (xs : List AtomValue). with_atoms xs literals) so_far ∙ (ap (λ (x : List Literal). with_atoms (atoms_of (take k list)) x) (sym is) ∙ sym step), subst (λ (xs : List (List Literal)). NameAll more (clauses ++ clause ∷ []) xs) (sym taken) pushed)

pub count_more : (list : List (List Literal)) (k : ℕ) (d : List Literal) → k < length list → literal_count (take (k + 1) list) ≡ literal_count (take k list) + length (get_or list k d)
count_more list k d below = sum_by_more length list k d below

pub count_part : (list : List (List Literal)) (k : ℕ) → literal_count (take k list) ≤ literal_count list
count_part list k = sum_by-take-le length list k

-- the number of an atom that is found, and of one that is new
pub found_number : (atoms : List AtomValue) (a : AtomValue) (n : ℕ) → position (same_atom a) atoms ≡ Some n → slice_get atoms n ≡ Some a
found_number atoms a n e =
    let at = position-Some (same_atom a) atoms n a e in
    let same : a ≡ get_or atoms n a = same_atom_sound a (get_or atoms n a) (at.1) in
    slice_get-get_or atoms n a (at.0) ∙ ap (λ (x : AtomValue). Some x) (sym same)

pub new_number : (atoms more : List AtomValue) (a : AtomValue) (n : ℕ) → more ≡ with_atom atoms a → list_any (same_atom a) atoms ≡ false → n ≡ length atoms → slice_get more n ≡ Some a
new_number atoms more a n e is_new last =
    let whole : more ≡ atoms ++ a ∷ [] = e ∙ ap (λ (b : Bool). cond b atoms (atoms ++ a ∷ [])) is_new in
    let below : n < length (atoms ++ a ∷ []) = omega (arith, length-append atoms (a ∷ []), last) in
    let item : get_or (atoms ++ a ∷ []) n a ≡ a = get_or_at atoms a [] a n (sym last) in
    ap (λ (xs : List AtomValue). slice_get xs n) whole ∙ (slice_get-get_or (atoms ++ a ∷ []) n a below ∙ ap (λ (x : AtomValue). Some x) item)

-- a clause of a list, as its literals
pub at_clause : (items list : List (SequenceValue Literal)) (k : ℕ) (x : SequenceValue Literal) → items ≡ list → k < length items → x ≡ get_or items k x → (k < length (clauses_of list)) × (get_or (clauses_of list) k x.items ≡ x.items)
at_clause items list k x same below is =
    let within : k < length list = omega (arith, below, ap length same) in
    let item : x ≡ get_or list k x = is ∙ ap (λ (xs : List (SequenceValue Literal)). get_or xs k x) same in
    let whole : get_or (clauses_of list) k x.items ≡ (get_or list k x).items = get_or-map (λ (c : SequenceValue Literal). c.items) list k x x.items within in
    (omega (arith, within, length-map list (λ (c : SequenceValue Literal). c.items)), whole ∙ ap (λ (c : SequenceValue Literal). c.items) (sym item))

pub room : (list : List (List Literal)) (k n : ℕ) (x : List Literal) → k < length list → get_or list k x ≡ x → n ≤ literal_count (take k list) → literal_count list < 2 ^ 32 → n + length x < 2 ^ 32
room list k n x below is few all =
    let size : length (get_or list k x) ≡ length x = ap length is in
    omega (arith, count_more list k x below, count_part list (k + 1), size, few, all)

pub few_more : (list : List (List Literal)) (k n : ℕ) (atoms : List AtomValue) (x : List Literal) → k < length list → get_or list k x ≡ x → length atoms ≤ literal_count (take k list) → length (with_atoms atoms x) ≤ literal_count (take (k + 1) list)
few_more list k n atoms x below is few =
    let size : length (get_or list k x) ≡ length x = ap length is in
    omega (arith, count_more list k x below, size, few, length_with_atoms x atoms)

no_items : (xs : List Literal) → (length xs == 0) ≡ true → xs ≡ []
no_items [] e = refl
no_items (x ∷ xs) e = absurd (omega (arith, (Decides-eqb (length (x ∷ xs)) 0).0 e))

some_items : (xs : List Literal) → (length xs == 0) ≡ false → 0 < length xs
some_items [] e = cc
some_items (x ∷ xs) e = omega arith

-- a clause without literals, and one with some
pub empty_at : (list : List (SequenceValue Literal)) (k : ℕ) (x : SequenceValue Literal) → k < length list → x ≡ get_or list k x → (length x.items == 0) ≡ true → slice_get (clauses_of list) k ≡ Some []
empty_at list k x below is none =
    let at = at_clause list list k x refl below is in
    slice_get-get_or (clauses_of list) k x.items (at.0) ∙ ap (λ (xs : List Literal). Some xs) (at.1 ∙ no_items x.items none)

pub filled_at : (list : List (SequenceValue Literal)) (k : ℕ) (x : SequenceValue Literal) → k < length list → x ≡ get_or list k x → (length x.items == 0) ≡ false → k ≤ literal_count (take k (clauses_of list)) → k + 1 ≤ literal_count (take (k + 1) (clauses_of list))
filled_at list k x below is some before =
    let at = at_clause list list k x refl below is in
    let size : length (get_or (clauses_of list) k x.items) ≡ length x.items = ap length (at.1) in
    omega (arith, count_more (clauses_of list) k x.items (at.0), size, some_items x.items some, before)
