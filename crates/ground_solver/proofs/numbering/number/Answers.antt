use Rattle.std.proofs.Common.{◌≡◌, ◌+◌, ◌<◌, ◌≤◌, ◌^◌, List, take, length, sym, ap, subst, ◌∙◌, arith}
use Rattle.std.specs.List.{AllZip}
use Rattle.me_terms.specs.Terms.{AtomValue}
use Rattle.ground_solver.specs.Assignments.{clauses_of, with_atoms}
use Rattle.ground_solver.specs.Named.{Names, NameAll, literal_count}
use Rattle.ground_solver.specs.Numbered.{Clauses}
use Rattle.ground_solver.proofs.Numberings.{at_clause, few_more, list_more, room}
use Rattle.ground_solver.proofs.numbering.number.Goals as goal

pub number_clause-requires : goal.number_clause-requires
number_clause-requires c =
    let x = c.literals-item.result in
    let k = c.loop-literals.literals-index in
    let list = clauses_of c.args.list.now.items in
    let at = at_clause c.as_slice-literals-items.result.now c.args.list.now.items k x c.as_slice-literals-items.ensures c.loop-literals-test.true c.literals-item.is in
    let all : literal_count list < 2 ^ 32 = c.requires in
    let bound = room list k (length c.loop-literals.atoms.keys) x.items (at.0) (at.1) c.loop-literals.invariant.few all in
    omega (arith, bound, ap length c.as_slice.ensures)

pub loop-literals-preserved : goal.loop-literals-preserved
loop-literals-preserved c =
    let x = c.literals-item.result in
    let k = c.loop-literals.literals-index in
    let list = clauses_of c.args.list.now.items in
    let atoms = c.loop-literals.atoms.keys in
    let at = at_clause c.as_slice-literals-items.result.now c.args.list.now.items k x c.as_slice-literals-items.ensures c.loop-literals-test.true c.literals-item.is in
    let clause = c.in_ok-number_clause.field-0 in
    let added : c.number_clause.new.atoms.keys ≡ with_atoms atoms x.items = c.in_ok-number_clause.ensures.atoms ∙ ap (with_atoms atoms) c.as_slice.ensures in
    let named : AllZip (Names (with_atoms atoms x.items)) clause.items x.items = subst (λ (keys : List AtomValue). AllZip (Names keys) clause.items x.items) added (subst (AllZip (Names c.number_clause.new.atoms.keys) clause.items) c.as_slice.ensures c.in_ok-number_clause.ensures.names) in
    let more = list_more atoms c.loop-literals.clauses.items list k x.items clause (at.0) (at.1) c.loop-literals.invariant.atoms c.loop-literals.invariant.names named in
    let pushed : NameAll (with_atoms atoms x.items) c.push.new.self.items (take (k + 1) list) = subst (λ (cs : Clauses). NameAll (with_atoms atoms x.items) cs (take (k + 1) list)) (sym c.in_ok-push.ensures.items) (more.1) in
    record {
      atoms = added ∙ more.0;
      names = subst (λ (keys : List AtomValue). NameAll keys c.push.new.self.items (take (k + 1) list)) (sym added) pushed;
      few = subst (λ (keys : List AtomValue). length keys ≤ literal_count (take (k + 1) list)) (sym added) (few_more list k k atoms x.items (at.0) (at.1) c.loop-literals.invariant.few);
    }
