-- What is read off the links is what each most general unifier has.
use Rattle.std.proofs.Common.{arith, ◌≡◌, ℕ, ◌<◌, List, length, slice_get, get_or, Some, refl, ap, sym, ◌∙◌}
use Rattle.std.proofs.Common.{Vec, Global}
use Rattle.me_terms.specs.Terms.{TermValue, AtomValue, Arguments}
use Rattle.me_terms.specs.Terms as tree
use Rattle.me_terms.specs.Substitutions.{Substitution, Family, apply_term, apply_arguments, apply_atom, apply_literal}
use Rattle.me_terms.specs.Remainder.{is_variable}
use Rattle.me_terms.specs.Measures.{canonical_literal}
use Rattle.me_terms.specs.Variables.{first_ones, variables_of, place_of}
use Rattle.me_terms.specs.ListedInstances.{constant}
use Rattle.me_terms.specs.declared.atom.Literal.{Literal}
use Rattle.me_laws.specs.Pairing.{apart}
use Rattle.me_laws.proofs.Generality.{atom_followed}
use Rattle.me_laws.proofs.Renaming.{Variants, canonical_same}
use Rattle.std.proofs.lemmas.Option.{slice_get_within}
use Rattle.me_unify.specs.declared.links.Links.{Links}
use Rattle.me_unify.specs.declared.node.Node.{Node}
use Rattle.me_unify.specs.declared.node.Node.TheVariants.{Var, App}
use Rattle.me_unify.specs.declared.step.Step.{Step}
use Rattle.me_unify.specs.Linked.{NONE, Alike, coloured}
use Rattle.me_unify.specs.Nodes.{IsArena}
use Rattle.me_unify.specs.Ordered.{of_node, IsSettled}
use Rattle.me_unify.specs.Equations.{Equation, IsMostGeneral}
use Rattle.me_unify.specs.Marks.{step_equations, AreBound, IsSolved}
use Rattle.me_unify.specs.declared.measure.Measure.{Measure}
use Rattle.me_unify.specs.Measured.{AreMeasured}
use Rattle.me_unify.specs.Left.{term_at, IsRead}
use Rattle.me_unify.proofs.Solved.{settled_free, settled_respects}
use Rattle.me_unify.proofs.MostGeneral.{family_of, family_others, settled_fits}
use Rattle.me_unify.proofs.Ranked.{settled_by}
use Rattle.me_unify.proofs.Bound.{general_by}
use Rattle.me_unify.proofs.Read.{turned, measured_same}

settled_of : (nodes : List Node) (l : Links) → IsArena nodes l → IsSolved nodes l → (rank : ℕ → ℕ) × IsSettled nodes l rank (length nodes)
settled_of nodes l a s = settled_by nodes l a s.0 s.1.0 s.1.1.0 s.1.1.1

-- ---- the terms of nodes
at_alike : (nodes : List Node) (l : Links) (x y : ℕ) → IsArena nodes l → IsSolved nodes l → Alike l x y → term_at nodes l x ≡ term_at nodes l y
at_alike nodes l x y a s alike = let o = settled_of nodes l a s in alike (term_at nodes l) (settled_respects nodes l o.0 (length nodes) apart o.1)

at_free : (nodes : List Node) (l : Links) (x : ℕ) (n : Node) → IsArena nodes l → IsSolved nodes l → get_or l.place.items x 0 ≡ NONE → slice_get nodes x ≡ Some n → term_at nodes l x ≡ of_node apart (term_at nodes l) (Some n)
at_free nodes l x n a s free at =
    let o = settled_of nodes l a s in
    settled_free nodes l o.0 (length nodes) apart o.1 x (slice_get_within nodes x n at) free ∙ ap (of_node apart (term_at nodes l)) at

-- a node, and the last one that it is linked to
last_is : (nodes : List Node) (l : Links) (x last : ℕ) (v n : Node) → IsArena nodes l → IsSolved nodes l → last < length l.place.items → get_or l.place.items last 0 ≡ NONE → Alike l x last
    → slice_get nodes last ≡ Some v → v ≡ n → term_at nodes l x ≡ of_node apart (term_at nodes l) (Some n)
last_is nodes l x last v n a s within free alike at is = at_alike nodes l x last a s alike ∙ at_free nodes l last n a s free (at ∙ ap Some is)

pub last_var : (nodes : List Node) (l : Links) (x last : ℕ) (v : Node) (space var : ℕ) → IsArena nodes l → IsSolved nodes l → last < length l.place.items → get_or l.place.items last 0 ≡ NONE → Alike l x last
    → slice_get nodes last ≡ Some v → v ≡ Var space var → term_at nodes l x ≡ apart space var
last_var nodes l x last v space var a s within free alike at is = last_is nodes l x last v (Var space var) a s within free alike at is

pub last_app : (nodes : List Node) (l : Links) (x last : ℕ) (v : Node) (f : ℕ) (args : Vec ℕ Global) → IsArena nodes l → IsSolved nodes l → last < length l.place.items → get_or l.place.items last 0 ≡ NONE → Alike l x last
    → slice_get nodes last ≡ Some v → v ≡ App f args → term_at nodes l x ≡ tree.App f (coloured (term_at nodes l) args.items)
last_app nodes l x last v f args a s within free alike at is = last_is nodes l x last v (App f args) a s within free alike at is

pub args_within : (nodes : List Node) (l : Links) (x : ℕ) (v : Node) (f : ℕ) (args : Vec ℕ Global) → IsArena nodes l → slice_get nodes x ≡ Some v → v ≡ App f args → (i : ℕ) → i < length args.items → get_or args.items i 0 < length nodes
args_within nodes l x v f args a at is i lt =
    let there : slice_get nodes x ≡ Some (App f args) = at ∙ ap Some is in
    let low : get_or args.items i 0 < x = a.fit x (App f args) there i lt in
    let within = slice_get_within nodes x (App f args) there in
    omega (arith, low, within)

-- ---- a most general unifier that is read off
pub record IsReadUnifier (nodes : List Node) (l : Links) (steps : List Step) (v : Family) : Type 0 where
  pub general : IsMostGeneral (step_equations nodes steps) v
  pub read : IsRead nodes l v

pub reads : (nodes : List Node) (l : Links) (steps : List Step) → AreBound nodes l steps → (v : Family) × IsReadUnifier nodes l steps v
reads nodes l steps b =
    let o = settled_of nodes l b.arena b.solution in
    let fits = settled_fits nodes l o.0 (length nodes) apart o.1 b.arena.single in (
      family_of nodes l apart (length nodes),
      record {
        general = general_by nodes l steps b o.0 (length nodes) o.1;
        read = record {
          nodes_too = λ x space var at. sym (fits x (Var space var) at);
          others = λ space var fresh. family_others nodes l apart (length nodes) space var fresh;
        };
      },
    )

-- ---- what two most general unifiers share
variable_by : (s t : TermValue) (r q : Substitution) → apply_term r s ≡ t → apply_term q t ≡ s → is_variable s ≡ is_variable t
variable_by (tree.Var x) (tree.Var y) r q e d = refl
variable_by (tree.Var x) (tree.App f ts) r q e d = cc
variable_by (tree.App f ss) (tree.Var y) r q e d = cc
variable_by (tree.App f ss) (tree.App g ts) r q e d = refl

pub variable_same : (equations : List Equation) (u v : Family) (space var : ℕ) → IsMostGeneral equations u → IsMostGeneral equations v → is_variable (u space var) ≡ is_variable (v space var)
variable_same equations u v space var p q =
    let there = p.most_general v q.solves in
    let back = q.most_general u p.solves in
    variable_by (u space var) (v space var) there.0 back.0 (there.1 space var) (back.1 space var)

pub canonical_literal_same : (equations : List Equation) (u v : Family) (space : ℕ) (l : Literal) → IsMostGeneral equations u → IsMostGeneral equations v → canonical_literal (apply_literal (u space) l) ≡ canonical_literal (apply_literal (v space) l)
canonical_literal_same equations u v space l p q =
    let there = p.most_general v q.solves in
    let back = q.most_general u p.solves in
    let variants : Variants (apply_atom (u space) l.atom) (apply_atom (v space) l.atom) =
    record { there = there.0; back = back.0; to = turned u v there.0 space l.atom there.1; from = turned v u back.0 space l.atom back.1 } in
    let same = canonical_same (apply_atom (u space) l.atom) (apply_atom (v space) l.atom) variants in
    λ i. record { positive = l.positive; atom = same i }

pub measured_general : (equations : List Equation) (u v : Family) (space : ℕ) (args : Arguments) (m : Measure) → IsMostGeneral equations u → IsMostGeneral equations v
    → AreMeasured (apply_arguments (u space) args) m → AreMeasured (apply_arguments (v space) args) m
measured_general equations u v space args m p q measured =
    let there = p.most_general v q.solves in
    let back = q.most_general u p.solves in
    let variants : Variants (apply_atom (u space) (record { pred = 0; args = args })) (apply_atom (v space) (record { pred = 0; args = args })) =
    record { there = there.0; back = back.0; to = turned u v there.0 space (record { pred = 0; args = args }) there.1; from = turned v u back.0 space (record { pred = 0; args = args }) back.1 } in
    measured_same (apply_atom (u space) (record { pred = 0; args = args })) (apply_atom (v space) (record { pred = 0; args = args })) m variants measured

-- ---- constants
pub constants_after : (c0 : ℕ) (l : Literal) → apply_literal (λ x. constant c0) (canonical_literal l) ≡ apply_literal (λ x. constant c0) l
constants_after c0 l =
    let names = first_ones (Rattle.std.specs.Prelude.[]) (variables_of l.atom.args) in
    let same = atom_followed (λ x. tree.Var (place_of x names)) (λ x. constant c0) l.atom in
    λ i. record { positive = l.positive; atom = sym same i }
