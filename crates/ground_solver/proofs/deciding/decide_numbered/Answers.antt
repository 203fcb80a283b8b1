use Rattle.std.proofs.Common.{◌≡◌, List, map, length, Bool, Option, sym, ap, subst, ◌∙◌, arith}
use Rattle.std.specs.List.{IsDistinct, filter}
use Rattle.me_terms.specs.Terms.{AtomValue}
use Rattle.me_terms.specs.TermEquality.{same_atom}
use Rattle.ground_solver.specs.Assignments.{clauses_of, atoms_of}
use Rattle.ground_solver.specs.ClosingProofs.{IsClosingProof}
use Rattle.ground_solver.specs.Named.{named_node, valuation, NameAll}
use Rattle.ground_solver.specs.Numbered.{Clauses, AreWithin, AreClosing}
use Rattle.ground_solver.specs.Standings.{AreTrueFrom}
use Rattle.ground_solver.specs.Verdicts.{IsVerdict}
use Rattle.ground_solver.specs.declared.solving.Verdict.{Verdict}
use Rattle.ground_solver.specs.declared.solving.Verdict.TheVariants.{Satisfied, Closed}
use Rattle.ground_solver.proofs.Concluding.{atoms_few, clauses_few, names_within}
use Rattle.ground_solver.proofs.Modelling.{is_model}
use Rattle.ground_solver.proofs.Namings.{closing_named}
use Rattle.ground_solver.proofs.deciding.decide_numbered.Goals as goal

pub overflow_cast-atoms : goal.overflow_cast-atoms
overflow_cast-atoms c =
    let list = clauses_of c.args.list.now.items in
    let keys : length c.as_slice-atoms.result.now ≡ length (atoms_of list) = ap length (c.as_slice-atoms.ensures.keys ∙ c.in_ok-numbering.ensures.atoms) in
    omega (arith, keys, atoms_few list, c.requires.few)

pub solve-requires-clause-short : goal.solve-requires-clause-short
solve-requires-clause-short c =
    let n = c.in_ok-numbering.numbering in
    omega (arith, ap length c.deref.ensures.value, clauses_few n.atoms.keys n.clauses.items c.args.list.now.items c.in_ok-numbering.ensures.names, c.requires.short)

pub solve-requires-clause-within : goal.solve-requires-clause-within
solve-requires-clause-within c =
    let n = c.in_ok-numbering.numbering in
    let within = names_within n.atoms.keys n.clauses.items (clauses_of c.args.list.now.items) c.in_ok-numbering.ensures.names in
    subst (λ (cs : Clauses). AreWithin cs (length c.as_slice-atoms.result.now)) (sym c.deref.ensures.value) (subst (λ (keys : List AtomValue). AreWithin n.clauses.items (length keys)) (sym c.as_slice-atoms.ensures.keys) within)

pub returns-in-Satisfied : goal.returns-in-Satisfied
returns-in-Satisfied c =
    let n = c.in_ok-numbering.numbering in
    let list = clauses_of c.args.list.now.items in
    let atoms = c.as_slice-atoms.result.now in
    let values = c.in-Satisfied.values.items in
    let trues = c.in_ok-true_atoms-in-Satisfied.field-0.items in
    let verdict : IsVerdict c.deref.result.now (length atoms) (Satisfied c.in-Satisfied.values) = subst (λ (v : Verdict). IsVerdict c.deref.result.now (length atoms) v) c.in-Satisfied.is c.in_ok-values.ensures in
    let found : AreTrueFrom n.clauses.items values 0 = subst (λ (cs : Clauses). AreTrueFrom cs values 0) c.deref.ensures.value (verdict.1) in
    let own : IsDistinct same_atom n.atoms.keys = c.as_slice-atoms.ensures.unique in
    let distinct : IsDistinct same_atom atoms = subst (IsDistinct same_atom) (sym c.as_slice-atoms.ensures.keys) own in
    let names : NameAll atoms n.clauses.items list = subst (λ (keys : List AtomValue). NameAll keys n.clauses.items list) (sym c.as_slice-atoms.ensures.keys) c.in_ok-numbering.ensures.names in
    let kept : trues ≡ filter (valuation atoms values) atoms = subst (λ (vs : List (Option Bool)). trues ≡ filter (valuation atoms vs) atoms) c.deref-in-Satisfied.ensures.value c.in_ok-true_atoms-in-Satisfied.ensures in
    is_model atoms values n.clauses.items list trues distinct (c.as_slice-atoms.ensures.keys ∙ c.in_ok-numbering.ensures.atoms) names found kept

pub returns : goal.returns
returns c =
    let n = c.in_ok-numbering.numbering in
    let list = clauses_of c.args.list.now.items in
    let atoms = c.as_slice-atoms.result.now in
    let steps = c.in-Closed.steps.items in
    let splits = c.in_ok-splits_of-in-Closed.field-0.items in
    let verdict : IsVerdict c.deref.result.now (length atoms) (Closed c.in-Closed.steps) = subst (λ (v : Verdict). IsVerdict c.deref.result.now (length atoms) v) c.in-Closed.is c.in_ok-values.ensures in
    let closing : AreClosing n.clauses.items steps = subst (λ (cs : Clauses). AreClosing cs steps) c.deref.ensures.value (verdict.0) in
    let names : NameAll atoms n.clauses.items list = subst (λ (keys : List AtomValue). NameAll keys n.clauses.items list) (sym c.as_slice-atoms.ensures.keys) c.in_ok-numbering.ensures.names in
    let named : splits ≡ map (named_node atoms) steps = c.in_ok-splits_of-in-Closed.ensures ∙ ap (map (named_node atoms)) c.deref-in-Closed.ensures.value in
    subst (IsClosingProof list) (sym named) (closing_named atoms n.clauses.items list steps names closing)
