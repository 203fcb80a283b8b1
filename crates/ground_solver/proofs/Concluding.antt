-- From what is said of clauses over numbers to the decision.
use Rattle.std.proofs.Common.{◌≡◌, ◌↔◌, ℕ, ◌+◌, ◌<◌, ◌≤◌, true, List, [], ◌∷◌, length, Result, Ok, Err, IfOk, Some, get_or, sym, ◌∙◌, arith}
use Rattle.std.specs.Prelude.{slice_get}
use Rattle.std.specs.List.{AllZip, fold}
use Rattle.std.specs.declared.vec.Vec.{Vec}
use Rattle.std.specs.declared.alloc.Global.{Global}
use Rattle.std.proofs.lemmas.List.{length-map}
use Rattle.std.proofs.lemmas.List.Sums.{sum_by-cons}
use Rattle.me_terms.specs.Sequences.{SequenceValue}
use Rattle.me_terms.specs.Terms.{AtomValue, Nil}
use Rattle.me_terms.specs.declared.atom.Literal.{Literal}
use Rattle.ground_solver.specs.Assignments.{IsUnsatisfiable, clauses_of, with_atoms, atoms_of}
use Rattle.ground_solver.specs.ClosingProofs.{LeafAt}
use Rattle.ground_solver.specs.Decisions.{IsClosed, IsClosedBy, IsDecided}
use Rattle.ground_solver.specs.Named.{Names, NameAll, literal_count}
use Rattle.ground_solver.specs.Numbered.{Clauses, AreWithin}
use Rattle.ground_solver.specs.declared.decision.Decision.{Decision}
use Rattle.ground_solver.specs.declared.decision.Decision.TheVariants.{Model, Closed}
use Rattle.ground_solver.specs.declared.signed.Signed.{Signed}
use Rattle.ground_solver.proofs.Namings.{zip_at, zip_length}
use Rattle.ground_solver.proofs.Numberings.{length_with_atoms}
use Rattle.ground_solver.proofs.Refuting.{closing_refutes, got_at, model_not_refuted}

pub if_ok_map : {A E : Type 0} (P Q : A → Type 0) (r : Result A E) → ((a : A) → P a → Q a) → IfOk r P → IfOk r Q
if_ok_map P Q (Ok a) f p = f a p
if_ok_map P Q (Err e) f p = tt

atoms_fewer : (list : List (List Literal)) (atoms : List AtomValue) → length (fold with_atoms atoms list) ≤ length atoms + literal_count list
atoms_fewer [] atoms = omega arith
atoms_fewer (clause ∷ list) atoms = omega (arith, atoms_fewer list (with_atoms atoms clause), length_with_atoms clause atoms, sum_by-cons length clause list)

pub atoms_few : (list : List (List Literal)) → length (atoms_of list) ≤ literal_count list
atoms_few list = omega (arith, atoms_fewer list [])

pub clauses_few : (atoms : List AtomValue) (clauses : Clauses) (list : List (SequenceValue Literal)) → NameAll atoms clauses (clauses_of list) → length clauses ≡ length list
clauses_few atoms clauses list names =
    zip_length (λ (clause : Vec Signed Global) (literals : List Literal). AllZip (Names atoms) clause.items literals) clauses (clauses_of list) names ∙ length-map list (λ (c : SequenceValue Literal). c.items)

pub names_within : (atoms : List AtomValue) (clauses : Clauses) (list : List (List Literal)) → NameAll atoms clauses list → AreWithin clauses (length atoms)
names_within atoms clauses list names k d below j e inside =
    let Both : Vec Signed Global → List Literal → Type 0 = λ clause literals. AllZip (Names atoms) clause.items literals in
    let within : k < length list = omega (arith, below, zip_length Both clauses list names) in
    let clause = get_or clauses k d in
    let literals : List Literal = get_or list k [] in
    let some : Literal = record { positive = true; atom = record { pred = 0; args = Nil } } in
    let zip : AllZip (Names atoms) clause.items literals = zip_at Both clauses list k d [] names within in
    let there : j < length literals = omega (arith, inside, zip_length (Names atoms) clause.items literals zip) in
    let name = zip_at (Names atoms) clause.items literals j e some zip there in
    (got_at atoms (get_or clause.items j e).atom (get_or literals j some).atom (name.0)).0

pub closed_by : (clauses : List (List Literal)) (n : ℕ) (d : Decision) → slice_get clauses n ≡ Some [] → IsClosedBy n d → IsDecided clauses d
closed_by clauses n (Model trues) at by = absurd by
closed_by clauses n (Closed proof) at by = (LeafAt n, sym by, ([], at, λ k d below. absurd (omega arith)))

pub exactly : (clauses : List (List Literal)) (d : Decision) → IsDecided clauses d → IsClosed d ↔ IsUnsatisfiable clauses
exactly clauses (Model trues) model = (λ none. absurd none, λ refuted. model_not_refuted clauses trues.items model refuted)
exactly clauses (Closed proof) closing = (λ _. closing_refutes clauses proof.items closing, λ _. tt)
