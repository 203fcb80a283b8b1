use Rattle.std.proofs.Common.{◌∙◌, ◌++◌, ◌<◌, ◌^◌, Option, List, ℕ, length, ap, subst, arith}
use Rattle.me_terms.specs.declared.atom.Literal.{Literal}
use Rattle.tptp_tokens.specs.Remainders.{Remainder}
use Rattle.std.specs.Cmp.Lexicographic.{other_text}
use Rattle.cnf_text.specs.ClauseText.{atom_text}
use Rattle.szs_read.specs.Finds.{FindsLiteral}
use Rattle.szs_read.proofs.Clauses.{RowLiteral}
use Rattle.szs_read.proofs.FindingAtoms.{no_atom, atom_is}
use Rattle.szs_read.proofs.Symbols.{if_some}
use Rattle.szs_read.proofs.read.read_atom.Goals as goal

pub returns-in_default-clause-none : goal.returns-in_default-clause-none
returns-in_default-clause-none c =
    let small : length c.args.bytes.now < 2 ^ 32 = omega (arith, c.requires) in
    no_atom c.args.signature.now c.literal_of.new.signature c.args.bytes.now c.read_row.new.tokens.bytes c.in_ok-row.row c.in_ok-row.field-0-1 small
    (subst (λ (r : Remainder). RowLiteral r.bytes c.read_row.new.tokens.bytes c.in_ok-row.row c.in_ok-row.field-0-1) c.new-tokens.ensures c.in_ok-row.ensures.literal)
    (subst (λ (o : Option Literal). FindsLiteral c.args.signature.now c.literal_of.new.signature 1000 c.in_ok-row.row o) c.in_default.is c.in_ok-literal.ensures.same)

pub returns-clause-none : goal.returns-clause-none
returns-clause-none c = λ new a h.
    let small : length c.args.bytes.now < 2 ^ 32 = omega (arith, c.requires) in
    let is = atom_is c.args.signature.now c.literal_of.new.signature c.args.bytes.now c.read_row.new.tokens.bytes c.in_ok-row.row c.in_ok-row.field-0-1 c.in-Some.literal small
    (subst (λ (r : Remainder). RowLiteral r.bytes c.read_row.new.tokens.bytes c.in_ok-row.row c.in_ok-row.field-0-1) c.new-tokens.ensures c.in_ok-row.ensures.literal)
    (subst (λ (o : Option Literal). FindsLiteral c.args.signature.now c.literal_of.new.signature 1000 c.in_ok-row.row o) c.in-Some.is c.in_ok-literal.ensures.same)
    (if_some _ _ _ c.in-Some.is c.in_ok-literal.ensures.sign) new a h in
    other_text _ _ c.if-eq.ensures (c.as_slice.ensures.value ∙ c.in_ok-push_atom.ensures.ok ∙ ap (λ (v : List ℕ). v ++ atom_text c.literal_of.new.signature c.in-Some.literal.atom) c.new-text.ensures.items ∙ is)
