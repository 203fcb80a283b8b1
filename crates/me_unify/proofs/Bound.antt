-- The equations as they are added and taken back.
use Rattle.std.proofs.Common.{◌≡◌, ℕ, zero, suc, ◌<◌, ◌≤◌, ◌↔◌, List, [], ◌∷◌, ◌++◌, length, map, take, slice_get, Some, refl, ap, sym, subst, ◌∙◌, arith, inl, inr}
use Rattle.std.specs.Prelude.{◌⊎◌}
use Rattle.std.proofs.lemmas.List.{get_or_append_left, get_or_push, length_push, length-map, length-take-le, map-append, take-append-le}
use Rattle.std.proofs.lemmas.List.Elements.{All-push}
use Rattle.std.proofs.lemmas.Option.{slice_get_within}
use Rattle.me_terms.specs.Terms.{AtomValue, Var, App}
use Rattle.me_terms.specs.Substitutions.{Substitution, Family, apply_term, apply_arguments, apply_atom}
use Rattle.me_laws.specs.Pairing.{first_of_pair, second_of_pair, apart}
use Rattle.me_laws.proofs.Apart.{pair_back}
use Rattle.me_laws.proofs.Generality.{arguments_unchanged}
use Rattle.me_unify.specs.declared.links.Links.{Links}
use Rattle.me_unify.specs.declared.node.Node.{Node}
use Rattle.me_unify.specs.declared.step.Step.{Step}
use Rattle.me_unify.specs.declared.step.Sides.{Sides}
use Rattle.me_unify.specs.Linked.{Colouring, IsColoured, Respects, IsLonger}
use Rattle.me_unify.specs.Ordered.{colour, solved, HasOrder, IsSettled}
use Rattle.me_unify.specs.Nodes.{IsArena, KeepsNodes}
use Rattle.me_unify.specs.Equations.{Equation, SolvesOne, SolvesAll, IsSolvable, IsMostGeneral}
use Rattle.me_unify.specs.Marks.{IsCutBack, IsStage, IsPosed, AreApart, IsBack, as_written, atom_of, equation_of, step_equations, IsStepWithin, AreBound}
use Rattle.me_unify.proofs.Forest.{respects_less}
use Rattle.me_unify.proofs.Made.{atoms_same}
use Rattle.me_unify.proofs.Written.{colour_fits, colour_grown}
use Rattle.me_unify.proofs.Solved.{settled_respects}
use Rattle.me_unify.proofs.MostGeneral.{family_of, settled_fits, settled_general}
use Rattle.me_unify.proofs.Ranked.{ordered_by}
use Rattle.me_unify.proofs.Cut.{take_at, take_grown, grown_length, cut_itself, longer_of_cut, cut_back, cut_twice, mark_now, mark_kept, mark_cut}

-- ---- lists
pub at_push : {A : Type 0} (xs : List A) (n : A) (x : ℕ) (p : A) → slice_get (xs ++ n ∷ []) x ≡ Some p → (slice_get xs x ≡ Some p) ⊎ ((x ≡ length xs) × (p ≡ n))
at_push [] n zero p e = let q : p ≡ n = cc in inr (refl, q)
at_push [] n (suc x) p e = let z : x < 0 = slice_get_within [] x p e in absurd (omega (arith, z))
at_push (m ∷ xs) n zero p e = inl e
at_push (m ∷ xs) n (suc x) p e = elim (at_push xs n x p e) [ inl q ↦ inl q | inr q ↦ inr (let z : x ≡ length xs = q.0 in omega arith, q.1) ]

at_before : {A : Type 0} (xs : List A) (n : A) (x : ℕ) (p : A) → x < length xs → slice_get (xs ++ n ∷ []) x ≡ Some p → slice_get xs x ≡ Some p
at_before [] n x p lt e = absurd (omega arith)
at_before (m ∷ xs) n zero p lt e = e
at_before (m ∷ xs) n (suc x) p lt e = at_before xs n x p (omega arith) e

map_same : {A B : Type 0} (f g : A → B) (xs : List A) → ((i : ℕ) (x : A) → slice_get xs i ≡ Some x → f x ≡ g x) → map f xs ≡ map g xs
map_same f g [] e = refl
map_same f g (x ∷ xs) e =
    let first : f x ≡ g x = e 0 x refl in
    let rest = map_same f g xs (λ i y at. e (suc i) y at) in
    λ i. first i ∷ rest i

map_take : {A B : Type 0} (f : A → B) (k : ℕ) (xs : List A) → map f (take k xs) ≡ take k (map f xs)
map_take f zero xs = refl
map_take f (suc k) [] = refl
map_take f (suc k) (x ∷ xs) = ap (λ z. f x ∷ z) (map_take f k xs)

take_less : {A : Type 0} (i k : ℕ) (xs : List A) → i ≤ k → take i (take k xs) ≡ take i xs
take_less zero k xs le = refl
take_less (suc i) zero xs le = absurd (omega arith)
take_less (suc i) (suc k) [] le = refl
take_less (suc i) (suc k) (x ∷ xs) le = ap (λ z. x ∷ z) (take_less i k xs (omega arith))

take_whole : {A : Type 0} (xs : List A) → take (length xs) xs ≡ xs
take_whole [] = refl
take_whole (x ∷ xs) = ap (λ z. x ∷ z) (take_whole xs)

-- what stands among the first k
within_take : {A : Type 0} (k : ℕ) (xs : List A) (i : ℕ) (x : A) → slice_get (take k xs) i ≡ Some x → (i < k) × (slice_get xs i ≡ Some x)
within_take zero xs i x e = let z : i < 0 = slice_get_within [] i x e in absurd (omega (arith, z))
within_take (suc k) [] i x e = let z : i < 0 = slice_get_within [] i x e in absurd (omega (arith, z))
within_take (suc k) (y ∷ xs) zero x e = (omega arith, e)
within_take (suc k) (y ∷ xs) (suc i) x e = let q = within_take k xs i x e in (omega (arith, q.0), q.1)

-- ---- solutions of one equation more
solves_front : (u : Family) (es : List Equation) (e : Equation) → SolvesAll u (es ++ e ∷ []) → SolvesAll u es
solves_front u es e h k d lt = subst (SolvesOne u) (get_or_append_left es (e ∷ []) d k lt) (h k d (omega (arith, length_push es e)))

solves_last : (u : Family) (es : List Equation) (e : Equation) → SolvesAll u (es ++ e ∷ []) → SolvesOne u e
solves_last u es e h = subst (SolvesOne u) (get_or_push es e e (length es) refl) (h (length es) e (omega (arith, length_push es e)))

-- ---- stages
stage_kept : (old new : List Node) (l m : Links) (n k : ℕ) (es : List Equation) → IsStage old l n k es → KeepsNodes old new → IsLonger l m → IsStage new m n k es
stage_kept old new l m n k es q g more = record {
  mark = mark_kept old new l m n k q.mark g more;
  same = λ c cut t h fits. q.same c (cut_back l m k c more q.mark.links_within cut) t h (λ x v lt e. fits x v lt (g x v e));
}

stage_cut : (nodes : List Node) (l c : Links) (n m j k : ℕ) (es : List Equation) → IsStage nodes l j k es → IsCutBack l m c → n ≤ length nodes → j ≤ n → k ≤ m → IsStage (take n nodes) c j k es
stage_cut nodes l c n m j k es q cut le jn km = record {
  mark = mark_cut nodes l c n m j k cut le jn km q.mark;
  same = λ d e t h fits. q.same d (cut_twice l c d m k cut e) t h (λ x v lt at. fits x v lt (take_at n nodes x (omega arith) ∙ at));
}

-- what the links say now
pub says : (nodes : List Node) (l : Links) (steps : List Step) → AreBound nodes l steps → (t : Family) (h : Colouring) → IsColoured nodes t h → Respects l h ↔ SolvesAll t (step_equations nodes steps)
says nodes l steps b t h fits = b.last.same l (cut_itself l) t h (λ x v lt e. fits x v e)

-- ---- the links have a most general unifier, and no solution where the last equation has none
pub general_by : (nodes : List Node) (l : Links) (steps : List Step) → AreBound nodes l steps → (rank : ℕ → ℕ) (limit : ℕ) → IsSettled nodes l rank limit → IsMostGeneral (step_equations nodes steps) (family_of nodes l apart limit)
general_by nodes l steps b rank limit settled = record {
  solves = (says nodes l steps b (family_of nodes l apart limit) (solved nodes l apart limit) (settled_fits nodes l rank limit apart settled b.arena.single)).0 (settled_respects nodes l rank limit apart settled);
  most_general = λ v s.
      let r : Substitution = λ z. v (first_of_pair z) (second_of_pair z) in
      let names : (space y : ℕ) → apply_term r (apart space y) ≡ v space y = λ space y. let p = pair_back space y in λ i. v (p.0 i) (p.1 i) in
      let made = colour_fits nodes v b.arena.fit in
      (r, settled_general nodes l rank limit apart settled v (colour nodes v) r made ((says nodes l steps b v (colour nodes v) made).1 s) names);
}

pub general_of : (nodes : List Node) (l : Links) (steps : List Step) → AreBound nodes l steps → (u : Family) × IsMostGeneral (step_equations nodes steps) u
general_of nodes l steps b =
    let o = ordered_by nodes l b.arena b.solution.0 b.solution.1.0 b.solution.1.1.0 b.solution.1.1.1 in
    (family_of nodes l apart o.1.0, general_by nodes l steps b o.0 o.1.0 o.1.1)

pub not_solvable : (nodes : List Node) (l : Links) (steps : List Step) (e : Equation) → AreBound nodes l steps → AreApart nodes l e → IsSolvable (step_equations nodes steps ++ e ∷ []) → ⊥
not_solvable nodes l steps e b apart_ones s =
    let made = colour_fits nodes s.0 b.arena.fit in
    apart_ones s.0 (colour nodes s.0) made ((says nodes l steps b s.0 (colour nodes s.0) made).1 (solves_front s.0 (step_equations nodes steps) e s.1)) (solves_last s.0 (step_equations nodes steps) e s.1)

-- ---- all as before
within_along : (s : Step) (n m j k : ℕ) → IsStepWithin s n m → n ≤ j → m ≤ k → IsStepWithin s j k
within_along s n m j k q a b = record { left = omega (arith, q.left); right = omega (arith, q.right); nodes = omega (arith, q.nodes); links = omega (arith, q.links) }

pub bound_same : (nodes : List Node) (l m : Links) (steps : List Step) → AreBound nodes l steps → IsArena nodes m → IsLonger l m → IsLonger m l → AreBound nodes m steps
bound_same nodes l m steps b a more less =
    let size : length m.froms.items ≡ length l.froms.items = omega (arith, more.longer, less.longer) in
    let itself : KeepsNodes nodes nodes = λ x v e. e in
    record {
      arena = a;
      solution = (b.solution.0, (b.solution.1.0, (b.solution.1.1.0, respects_less m l b.solution.1.0 less b.solution.1.1.1)));
      last = rw size (stage_kept nodes nodes l m (length nodes) (length l.froms.items) (step_equations nodes steps) b.last itself more);
      before = λ k s at. stage_kept nodes nodes l m s.nodes s.links (take k (step_equations nodes steps)) (b.before k s at) itself more;
      within = λ k s at. within_along s (length nodes) (length l.froms.items) (length nodes) (length m.froms.items) (b.within k s at) (omega arith) (omega arith);
      rising = b.rising;
    }

pub bound_back : (nodes new : List Node) (l m : Links) (steps : List Step) → AreBound nodes l steps → IsArena new m → IsBack nodes l new m → AreBound new m steps
bound_back nodes new l m steps b a back =
    let P : List Node → Type 0 = λ z. IsArena z m → AreBound z m steps in
    subst P (sym back.nodes_are) (λ q. bound_same nodes l m steps b q back.more back.less) a

-- ---- one equation more
-- an equation reads the same among more nodes
equation_kept : (old new : List Node) (l m : Links) (s : Step) → IsArena old l → IsArena new m → KeepsNodes old new → s.left < length old → s.right < length old → equation_of new s ≡ equation_of old s
equation_kept old new l m s a b g lw rw' =
    let left : colour new as_written s.left ≡ colour old as_written s.left = colour_grown old new as_written a.fit b.fit g s.left lw in
    let right : colour new as_written s.right ≡ colour old as_written s.right = colour_grown old new as_written a.fit b.fit g s.right rw' in
    λ i. record { left_space = s.left_space; left = atom_of (left i); right_space = s.right_space; right = atom_of (right i) }

-- The step is the equation's, with what stood before.
pub record IsStepOf (nodes : List Node) (l : Links) (e : Equation) (sides : Sides) (s : Step) : Type 0 where
  pub left_space : s.left_space ≡ e.left_space
  pub left : s.left ≡ sides.left
  pub right_space : s.right_space ≡ e.right_space
  pub right : s.right ≡ sides.right
  pub nodes_are : s.nodes ≡ length nodes
  pub links_are : s.links ≡ length l.froms.items

atom_read : (new : List Node) (m : Links) (x space : ℕ) (a : AtomValue) → IsArena new m → ((t : Family) (h : Colouring) → IsColoured new t h → h x ≡ App a.pred (apply_arguments (t space) a.args)) → atom_of (colour new as_written x) ≡ a
atom_read new m x space a arena is =
    let e : colour new as_written x ≡ App a.pred (apply_arguments Var a.args) = is as_written (colour new as_written) (colour_fits new as_written arena.fit) in
    ap atom_of e ∙ (λ i. record { pred = a.pred; args = arguments_unchanged a.args i })

equation_read : (nodes : List Node) (l : Links) (new : List Node) (m : Links) (e : Equation) (sides : Sides) (s : Step) → IsArena new m → IsPosed nodes l new m e sides → IsStepOf nodes l e sides s → equation_of new s ≡ e
equation_read nodes l new m e sides s a p q =
    let left : atom_of (colour new as_written s.left) ≡ e.left = ap (λ x. atom_of (colour new as_written x)) q.left ∙ atom_read new m sides.left e.left_space e.left a p.left in
    let right : atom_of (colour new as_written s.right) ≡ e.right = ap (λ x. atom_of (colour new as_written x)) q.right ∙ atom_read new m sides.right e.right_space e.right a p.right in
    λ i. record { left_space = q.left_space i; left = left i; right_space = q.right_space i; right = right i }

pub view_more : (nodes : List Node) (l : Links) (new : List Node) (m : Links) (steps : List Step) (e : Equation) (sides : Sides) (s : Step) → AreBound nodes l steps → IsArena new m → IsPosed nodes l new m e sides → IsStepOf nodes l e sides s
    → step_equations new (steps ++ s ∷ []) ≡ step_equations nodes steps ++ e ∷ []
view_more nodes l new m steps e sides s b a p q =
    let first : map (equation_of new) steps ≡ map (equation_of nodes) steps = map_same (equation_of new) (equation_of nodes) steps
    (λ i r at. let w = b.within i r at in equation_kept nodes new l m r b.arena a p.grown w.left w.right) in
    let last = equation_read nodes l new m e sides s a p q in
    map-append (equation_of new) steps (s ∷ []) ∙ (λ i. first i ++ last i ∷ [])

-- the links say the old equations and the new one
says_more : (nodes : List Node) (l : Links) (new : List Node) (m : Links) (steps : List Step) (e : Equation) (sides : Sides) → AreBound nodes l steps → IsPosed nodes l new m e sides
    → (c : Links) → IsCutBack m (length m.froms.items) c → (t : Family) (h : Colouring) → IsColoured new t h → Respects c h ↔ SolvesAll t (step_equations nodes steps ++ e ∷ [])
says_more nodes l new m steps e sides b p c cut t h fits =
    let es = step_equations nodes steps in
    let old = says nodes l steps b t h (λ x v at. fits x v (p.grown x v at)) in
    let both = p.same t h fits in
    let atoms = atoms_same (apply_atom (t e.left_space) e.left) (apply_atom (t e.right_space) e.right) (h sides.left) (h sides.right) (p.left t h fits) (p.right t h fits) in (
      λ r. let w = both.1 (respects_less m c h (longer_of_cut m c cut) r) in All-push (SolvesOne t) (step_equations nodes steps) e (old.0 w.0) (atoms.1 w.1),
      λ s. respects_less c m h cut.less (both.0 (old.1 (solves_front t (step_equations nodes steps) e s), atoms.0 (solves_last t (step_equations nodes steps) e s))),
    )

solution_more : (new : List Node) (m : Links) → IsArena new m → HasOrder new m → (u : Family) × ((h : Colouring) × (IsColoured new u h × Respects m h))
solution_more new m a o =
    (family_of new m apart o.1.0, (solved new m apart o.1.0, (settled_fits new m o.0 o.1.0 apart o.1.1 a.single, settled_respects new m o.0 o.1.0 apart o.1.1)))

take_front : (es : List Equation) (e : Equation) (k : ℕ) → k ≤ length es → take k (es ++ e ∷ []) ≡ take k es
take_front es e k le = take-append-le k es (e ∷ []) le

step_within : (nodes : List Node) (l : Links) (new : List Node) (m : Links) (e : Equation) (sides : Sides) (s : Step) → IsPosed nodes l new m e sides → IsStepOf nodes l e sides s → IsStepWithin s (length new) (length m.froms.items)
step_within nodes l new m e sides s p q = record {
  left = omega (arith, q.left, p.left_within);
  right = omega (arith, q.right, p.right_within);
  nodes = omega (arith, q.nodes_are, grown_length nodes new p.grown);
  links = omega (arith, q.links_are, p.more.longer);
}

before_more : (nodes : List Node) (l : Links) (new : List Node) (m : Links) (steps : List Step) (e : Equation) (sides : Sides) (s : Step) → AreBound nodes l steps → IsPosed nodes l new m e sides → IsStepOf nodes l e sides s
    → (k : ℕ) (r : Step) → ((slice_get steps k ≡ Some r) ⊎ ((k ≡ length steps) × (r ≡ s))) → IsStage new m r.nodes r.links (take k (step_equations nodes steps ++ e ∷ []))
before_more nodes l new m steps e sides s b p q k r (inl at) =
    let lt = slice_get_within steps k r at in
    let size : length (step_equations nodes steps) ≡ length steps = length-map steps (equation_of nodes) in
    rw (take_front (step_equations nodes steps) e k (omega arith)) (stage_kept nodes new l m r.nodes r.links (take k (step_equations nodes steps)) (b.before k r at) p.grown p.more)
before_more nodes l new m steps e sides s b p q k r (inr (at, is)) =
    let size : length (step_equations nodes steps) ≡ length steps = length-map steps (equation_of nodes) in
    let list : take k (step_equations nodes steps ++ e ∷ []) ≡ step_equations nodes steps =
    take_front (step_equations nodes steps) e k (omega arith) ∙ (ap (λ z. take z (step_equations nodes steps)) (at ∙ sym size) ∙ take_whole (step_equations nodes steps)) in
    let n : r.nodes ≡ length nodes = ap (λ (z : Step). z.nodes) is ∙ q.nodes_are in
    let j : r.links ≡ length l.froms.items = ap (λ (z : Step). z.links) is ∙ q.links_are in
    rw (list, n, j) (stage_kept nodes new l m (length nodes) (length l.froms.items) (step_equations nodes steps) b.last p.grown p.more)

within_more : (nodes : List Node) (l : Links) (new : List Node) (m : Links) (steps : List Step) (e : Equation) (sides : Sides) (s : Step) → AreBound nodes l steps → IsPosed nodes l new m e sides → IsStepOf nodes l e sides s
    → (k : ℕ) (r : Step) → ((slice_get steps k ≡ Some r) ⊎ ((k ≡ length steps) × (r ≡ s))) → IsStepWithin r (length new) (length m.froms.items)
within_more nodes l new m steps e sides s b p q k r (inl at) = within_along r (length nodes) (length l.froms.items) (length new) (length m.froms.items) (b.within k r at) (grown_length nodes new p.grown) p.more.longer
within_more nodes l new m steps e sides s b p q k r (inr (at, is)) = let P : Step → Type 0 = λ z. IsStepWithin z (length new) (length m.froms.items) in subst P (sym is) (step_within nodes l new m e sides s p q)

rising_more : (nodes : List Node) (l : Links) (steps : List Step) (e : Equation) (sides : Sides) (s : Step) → AreBound nodes l steps → IsStepOf nodes l e sides s
    → (i k : ℕ) (r v : Step) → i < k → slice_get (steps ++ s ∷ []) i ≡ Some r → ((slice_get steps k ≡ Some v) ⊎ ((k ≡ length steps) × (v ≡ s))) → IsStepWithin r v.nodes v.links
rising_more nodes l steps e sides s b q i k r v lt ati (inl at) =
    let w = slice_get_within steps k v at in
    b.rising i k r v lt (at_before steps s i r (omega arith) ati) at
rising_more nodes l steps e sides s b q i k r v lt ati (inr (at, is)) =
    let n : v.nodes ≡ length nodes = ap (λ (z : Step). z.nodes) is ∙ q.nodes_are in
    let j : v.links ≡ length l.froms.items = ap (λ (z : Step). z.links) is ∙ q.links_are in
    rw (n, j) (b.within i r (at_before steps s i r (omega arith) ati))

pub bound_more : (nodes : List Node) (l : Links) (new : List Node) (m : Links) (steps : List Step) (e : Equation) (sides : Sides) (s : Step) → AreBound nodes l steps → IsArena new m → IsPosed nodes l new m e sides → IsStepOf nodes l e sides s
    → AreBound new m (steps ++ s ∷ [])
bound_more nodes l new m steps e sides s b a p q =
    let view = view_more nodes l new m steps e sides s b a p q in
    record {
      arena = a;
      solution = solution_more new m a p.order;
      last = rw view (record { mark = mark_now new m a; same = λ c cut t h fits. says_more nodes l new m steps e sides b p c cut t h (λ x v at. fits x v (slice_get_within new x v at) at) });
      before = λ k r at. rw view (before_more nodes l new m steps e sides s b p q k r (at_push steps s k r at));
      within = λ k r at. within_more nodes l new m steps e sides s b p q k r (at_push steps s k r at);
      rising = λ i k r v lt ati atk. rising_more nodes l steps e sides s b q i k r v lt ati (at_push steps s k v atk);
    }

-- ---- back to a step
pub view_less : (nodes : List Node) (l c : Links) (steps : List Step) (k : ℕ) (s : Step) → AreBound nodes l steps → slice_get steps k ≡ Some s → IsArena (take s.nodes nodes) c
    → step_equations (take s.nodes nodes) (take k steps) ≡ take k (step_equations nodes steps)
view_less nodes l c steps k s b at a =
    let n = s.nodes in
    let size : length (take s.nodes nodes) ≡ s.nodes = length-take-le s.nodes nodes (b.within k s at).nodes in
    map_same (equation_of (take s.nodes nodes)) (equation_of nodes) (take k steps)
    (λ i r ati.
    let w = within_take k steps i r ati in
    let q = b.rising i k r s w.0 w.1 at in
    sym (equation_kept (take s.nodes nodes) nodes c l r a b.arena (take_grown s.nodes nodes) (omega (arith, q.left)) (omega (arith, q.right))))
    ∙ map_take (equation_of nodes) k steps

pub bound_less : (nodes : List Node) (l c : Links) (steps : List Step) (k : ℕ) (s : Step) → AreBound nodes l steps → slice_get steps k ≡ Some s → IsArena (take s.nodes nodes) c → IsCutBack l s.links c
    → AreBound (take s.nodes nodes) c (take k steps)
bound_less nodes l c steps k s b at a cut =
    let here = b.within k s at in
    let size : length (take s.nodes nodes) ≡ s.nodes = length-take-le s.nodes nodes here.nodes in
    let view = view_less nodes l c steps k s b at a in
    record {
      arena = a;
      solution = (b.solution.0, (b.solution.1.0, (λ x v e. b.solution.1.1.0 x v (take_grown s.nodes nodes x v e), respects_less c l b.solution.1.0 cut.less b.solution.1.1.1)));
      last = rw (view, size, cut.size) (stage_cut nodes l c s.nodes s.links s.nodes s.links (take k (step_equations nodes steps)) (b.before k s at) cut here.nodes (omega arith) (omega arith));
      before = λ i r ati.
          let w = within_take k steps i r ati in
          let q = b.rising i k r s w.0 w.1 at in
          rw (view, take_less i k (step_equations nodes steps) (omega (arith, w.0))) (stage_cut nodes l c s.nodes s.links r.nodes r.links (take i (step_equations nodes steps)) (b.before i r w.1) cut here.nodes q.nodes q.links);
      within = λ i r ati. let w = within_take k steps i r ati in rw (size, cut.size) (b.rising i k r s w.0 w.1 at);
      rising = λ i j r v lt ati atj. b.rising i j r v lt (within_take k steps i r ati).1 (within_take k steps j v atj).1;
    }

-- ---- no equations
nothing : {A : Type 0} {B : Type 0} (k : ℕ) (x : A) → slice_get [] k ≡ Some x → B
nothing k x at = let z : k < 0 = slice_get_within [] k x at in absurd (omega (arith, z))

none_bound : (l : Links) → IsArena [] l → length l.froms.items ≡ 0 → AreBound [] l []
none_bound l a none = record {
  arena = a;
  solution = (as_written, ((λ x. Var 0), (λ x v at. nothing x v at, λ k lt. absurd (omega (arith, none)))));
  last = record { mark = mark_now [] l a; same = λ c cut t h fits. (λ r k d lt. absurd (omega arith), λ s k lt. absurd (omega (arith, cut.size, none))) };
  before = λ k s at. nothing k s at;
  within = λ k s at. nothing k s at;
  rising = λ i k r s lt ati at. nothing k s at;
}

pub bound_none : (nodes : List Node) (l : Links) (steps : List Step) → IsArena nodes l → nodes ≡ [] → l.froms.items ≡ [] → steps ≡ [] → AreBound nodes l steps
bound_none nodes l steps a e f s = rw (e, s) (none_bound l (rw e at a) (ap length f))

-- ---- an equation that was added
pub record IsAdded (new : List Node) (m : Links) (items : List Step) (old : List Equation) (e : Equation) : Type 0 where
  pub bound : AreBound new m items
  pub view : step_equations new items ≡ old ++ e ∷ []
  pub unifier : (u : Family) × IsMostGeneral (step_equations new items) u
  pub solvable : IsSolvable (old ++ e ∷ [])

added_by : (nodes : List Node) (l : Links) (new : List Node) (m : Links) (steps : List Step) (e : Equation) (sides : Sides) (s : Step) (old : List Equation) → AreBound nodes l steps → step_equations nodes steps ≡ old → IsArena new m → IsPosed nodes l new m e sides → IsStepOf nodes l e sides s
    → IsAdded new m (steps ++ s ∷ []) old e
added_by nodes l new m steps e sides s old b is a p q =
    let bound = bound_more nodes l new m steps e sides s b a p q in
    let view : step_equations new (steps ++ s ∷ []) ≡ old ++ e ∷ [] = view_more nodes l new m steps e sides s b a p q ∙ ap (λ z. z ++ e ∷ []) is in
    let general = general_of new m (steps ++ s ∷ []) bound in
    let P : List Equation → Type 0 = λ z. IsSolvable z in
    record { bound = bound; view = view; unifier = general; solvable = subst P view (general.0, general.1.solves) }

pub added : (nodes : List Node) (l : Links) (new : List Node) (m : Links) (steps kept items : List Step) (e : Equation) (sides : Sides) (s : Step) (old : List Equation) → AreBound nodes l steps → step_equations nodes steps ≡ old → IsArena new m → IsPosed nodes l new m e sides
    → IsStepOf nodes l e sides s → kept ≡ steps → items ≡ kept ++ s ∷ [] → IsAdded new m items old e
added nodes l new m steps kept items e sides s old b is a p q k i =
    let P : List Step → Type 0 = λ z. IsAdded new m z old e in
    subst P (sym (i ∙ ap (λ z. z ++ s ∷ []) k)) (added_by nodes l new m steps e sides s old b is a p q)
