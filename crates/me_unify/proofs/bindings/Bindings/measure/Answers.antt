use Rattle.std.proofs.Common.{List, sym, subst}
use Rattle.me_terms.specs.Terms.{AtomValue, arguments_of}
use Rattle.me_terms.specs.Substitutions.{apply_atom}
use Rattle.me_unify.specs.Equations.{Equation, IsMostGeneral}
use Rattle.me_unify.specs.Measured.{IsAtomMeasure}
use Rattle.me_unify.proofs.ReadOff.{reads, measured_general}
use Rattle.me_unify.proofs.bindings.Bindings.measure.Goals as goal

pub returns-in-Some-clause-measure : goal.returns-in-Some-clause-measure
returns-in-Some-clause-measure c u general =
    let P : List Equation → Type 0 = λ z. IsMostGeneral z u in
    let r = reads c.self.inside.arena.nodes c.self.inside.arena.links c.self.inside.steps.items c.self.invariant in
    let a : AtomValue = record { pred = c.atom.inside.pred; args = arguments_of c.atom.inside.args.items } in
    let all = measured_general _ r.0 u c.args.space (arguments_of c.atom.inside.args.items) c.in-Some.all r.1.general (subst P (sym c.self.view_is) general) (c.in-Some.ensures r.0 r.1.read) in
    let Q : AtomValue → Type 0 = λ z. IsAtomMeasure (apply_atom (u c.args.space) z) c.of_atom.result in
    subst Q c.atom.view_is (c.of_atom.ensures (apply_atom (u c.args.space) a) all)
