-- What is counted under one most general unifier is counted under each.
use Rattle.std.proofs.Common.{◌≡◌, ℕ, Bool, true, false, List, refl, ap, sym, ◌∙◌}
use Rattle.std.proofs.lemmas.Option.{slice_get_within}
use Rattle.me_terms.specs.Terms.{AtomValue, Arguments}
use Rattle.me_terms.specs.Substitutions.{Substitution, Family, apply_term, apply_arguments, apply_atom}
use Rattle.me_terms.specs.Variables.{weights, depths, are_ground}
use Rattle.me_laws.specs.Pairing.{pair, first_of_pair, second_of_pair, apart}
use Rattle.me_laws.proofs.Apart.{pair_back}
use Rattle.me_laws.proofs.Generality.{atom_followed}
use Rattle.me_laws.proofs.NoContradiction.{ground_atom}
use Rattle.me_laws.proofs.Renaming.{Variants, weight_same, depth_same}
use Rattle.me_unify.specs.declared.links.Links.{Links}
use Rattle.me_unify.specs.declared.node.Node.{Node}
use Rattle.me_unify.specs.declared.node.Node.TheVariants.{Var, App}
use Rattle.me_unify.specs.declared.step.Step.{Step}
use Rattle.me_unify.specs.declared.measure.Measure.{Measure}
use Rattle.me_unify.specs.Linked.{Colouring, IsColoured, Respects}
use Rattle.me_unify.specs.Ordered.{of_node, colour, solved, IsSettled}
use Rattle.me_unify.specs.Nodes.{IsArena, KeepsNodes}
use Rattle.me_unify.specs.Equations.{SolvesAll, IsMostGeneral}
use Rattle.me_unify.specs.Marks.{step_equations, AreBound}
use Rattle.me_unify.specs.Measured.{AreMeasured, IsReading}
use Rattle.me_unify.proofs.MoreNodes.{same_links}
use Rattle.me_unify.proofs.Forest.{respects_less}
use Rattle.me_unify.proofs.Made.{fits_less}
use Rattle.me_unify.proofs.Written.{colour_fits, extended}
use Rattle.me_unify.proofs.Solved.{settled_linked, settled_free, settled_respects}
use Rattle.me_unify.proofs.MostGeneral.{family_of, settled_fits, settled_general}
use Rattle.me_unify.proofs.Ranked.{ordered_by}
use Rattle.me_unify.proofs.Bound.{says}

-- the terms of settled links are read off them
reading : (nodes : List Node) (l : Links) (rank : ℕ → ℕ) (limit : ℕ) → IsSettled nodes l rank limit → IsReading nodes l (solved nodes l apart limit)
reading nodes l rank limit o = record {
  linked = λ x w ne. settled_linked nodes l rank limit apart o x w ne;
  vars = λ x s v e at. (pair s v, settled_free nodes l rank limit apart o x (slice_get_within nodes x (Var s v) at) e ∙ ap (of_node apart (solved nodes l apart limit)) at);
  apps = λ x f args e at. settled_free nodes l rank limit apart o x (slice_get_within nodes x (App f args) at) e ∙ ap (of_node apart (solved nodes l apart limit)) at;
}

-- an instance of an instance of atoms under families
pub turned : (u v : Family) (r : Substitution) (space : ℕ) (a : AtomValue) → ((s x : ℕ) → apply_term r (u s x) ≡ v s x) → apply_atom r (apply_atom (u space) a) ≡ apply_atom (v space) a
turned u v r space a e = sym (atom_followed (u space) r a) ∙ (λ i. apply_atom (λ x. e space x i) a)

ground_by : (a b : AtomValue) (r q : Substitution) (s t : Bool) → apply_atom r a ≡ b → apply_atom q b ≡ a → are_ground a.args ≡ s → are_ground b.args ≡ t → s ≡ t
ground_by a b r q true true to from x y = refl
ground_by a b r q false false to from x y = refl
ground_by a b r q true false to from x y =
    let same : a ≡ b = sym (ground_atom r a x) ∙ to in
    let z : are_ground a.args ≡ are_ground b.args = ap (λ (c : AtomValue). are_ground c.args) same in
    cc
ground_by a b r q false true to from x y =
    let same : b ≡ a = sym (ground_atom q b y) ∙ from in
    let z : are_ground b.args ≡ are_ground a.args = ap (λ (c : AtomValue). are_ground c.args) same in
    cc

pub measured_same : (a b : AtomValue) (m : Measure) → Variants a b → AreMeasured a.args m → AreMeasured b.args m
measured_same a b m v q = record {
  weight = let w : weights a.args ≡ weights b.args = weight_same a b v in rw (sym w) q.weight;
  depth = let w : depths a.args ≡ depths b.args = depth_same a b v in rw (sym w) q.depth;
  ground = q.ground ∙ ground_by a b v.there v.back (are_ground a.args) (are_ground b.args) v.to v.from refl refl;
}

pub measured_by : (nodes : List Node) (l : Links) (new : List Node) (m : Links) (steps : List Step) → AreBound nodes l steps → IsArena new m → KeepsNodes nodes new → m.froms.items ≡ l.froms.items → m.tos.items ≡ l.tos.items
    → (space : ℕ) (args : Arguments) (measure : Measure) → ((t : Family) (h : Colouring) → IsColoured new t h → IsReading new m h → AreMeasured (apply_arguments (t space) args) measure)
    → (u : Family) → IsMostGeneral (step_equations nodes steps) u → AreMeasured (apply_arguments (u space) args) measure
measured_by nodes l new m steps b a g fs ts space args measure each u general =
    let more = same_links l m fs ts in
    let less = same_links m l (sym fs) (sym ts) in
    let kept : Respects l (colour new b.solution.0) = extended nodes new l b.solution.0 b.solution.1.0 b.arena a.fit g b.solution.1.1.0 b.solution.1.1.1 in
    let o = ordered_by new m a b.solution.0 (colour new b.solution.0) (colour_fits new b.solution.0 a.fit) (respects_less m l (colour new b.solution.0) less kept) in
    let rank = o.0 in
    let limit = o.1.0 in
    let settled = o.1.1 in
    let v : Family = family_of new m apart o.1.0 in
    let fits : IsColoured new (family_of new m apart o.1.0) (solved new m apart o.1.0) = settled_fits new m o.0 o.1.0 apart o.1.1 a.single in
    let base : AreMeasured (apply_arguments (family_of new m apart o.1.0 space) args) measure = each (family_of new m apart o.1.0) (solved new m apart o.1.0) fits (reading new m o.0 o.1.0 o.1.1) in
    let solves : SolvesAll (family_of new m apart o.1.0) (step_equations nodes steps) =
    (says nodes l steps b (family_of new m apart o.1.0) (solved new m apart o.1.0) (fits_less nodes new (family_of new m apart o.1.0) (solved new m apart o.1.0) g fits)).0
    (respects_less l m (solved new m apart o.1.0) more (settled_respects new m o.0 o.1.0 apart o.1.1)) in
    let back = general.most_general (family_of new m apart o.1.0) solves in
    let made = colour_fits new u a.fit in
    let holds : Respects l (colour new u) = (says nodes l steps b u (colour new u) (fits_less nodes new u (colour new u) g made)).1 general.solves in
    let r : Substitution = λ z. u (first_of_pair z) (second_of_pair z) in
    let names : (s y : ℕ) → apply_term r (apart s y) ≡ u s y = λ s y. let p = pair_back s y in λ i. u (p.0 i) (p.1 i) in
    let forth : (s y : ℕ) → apply_term r (family_of new m apart o.1.0 s y) ≡ u s y = settled_general new m o.0 o.1.0 apart o.1.1 u (colour new u) r made (respects_less m l (colour new u) less holds) names in
    let atom : AtomValue = record { pred = 0; args = args } in
    measured_same (apply_atom (family_of new m apart o.1.0 space) (record { pred = 0; args = args })) (apply_atom (u space) (record { pred = 0; args = args })) measure
    (record { there = r; back = back.0; to = turned (family_of new m apart o.1.0) u r space (record { pred = 0; args = args }) forth; from = turned u (family_of new m apart o.1.0) back.0 space (record { pred = 0; args = args }) back.1 }) base
