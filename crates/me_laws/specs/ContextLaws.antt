-- Laws of contexts, whichever sign their pseudo-literal has.
use Rattle.std.specs.Prelude.{Bool}
use Rattle.me_terms.specs.Terms.{AtomValue}
use Rattle.me_terms.specs.Values.{EntryValue}
use Rattle.me_terms.specs.Context.{Context, IsContext, add}
use Rattle.me_terms.specs.Produces.{IsProduced}
use Rattle.me_terms.specs.Contradictory.{Clash, Contradicts, IsConsistent}
use Rattle.me_terms.specs.declared.entry.Kind.{Kind}
use Rattle.me_terms.specs.declared.atom.Pattern.{Pattern}

-- What contradicts is contradicted.
abbrev pub ClashIsSymmetric : Type 0
ClashIsSymmetric = (j : Kind) (p : Pattern) (k : Kind) (q : Pattern) → Clash j p k q → Clash k q j p

-- What does not contradict a consistent context leaves it consistent when it is added.
abbrev pub AddKeepsConsistency : Type 0
AddKeepsConsistency = (context : Context) (e : EntryValue) → IsConsistent context → ¬ Contradicts context e.positive e.kind e.atom → IsConsistent (add context e)

-- A context produces each literal or its complement.
abbrev pub ContextIsTotal : Type 0
ContextIsTotal = (context : Context) → IsContext context → (a : AtomValue) → (positive : Bool) × IsProduced context (record { positive = positive; atom = a })
