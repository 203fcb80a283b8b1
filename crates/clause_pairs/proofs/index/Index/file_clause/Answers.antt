use Rattle.std.proofs.Common.{◌≡◌, ◌↔◌, true, List, length, slice_get, Some, refl, sym, subst, ap, ◌∙◌, arith}
use Rattle.std.specs.List.{Contains}
use Rattle.std.proofs.lemmas.Option.{slice_get_read}
use Rattle.me_terms.specs.Terms.{AtomValue}
use Rattle.me_terms.specs.Values.{ClauseValue}
use Rattle.me_terms.specs.Variables.{are_ground}
use Rattle.me_terms.specs.declared.atom.Literal.{Literal}
use Rattle.clause_pairs.proofs.Indexing.{clause_step, clause_end}
use Rattle.clause_pairs.proofs.index.Index.file_clause.Goals as goal

pub file_literal-requires : goal.file_literal-requires
file_literal-requires c =
    let ls = c.as_slice-literal-items.result.now in
    let l = c.literal-item.result in
    let same : ls ≡ c.args.clause.now.literals = c.as_slice-literal-items.ensures ∙ ap (λ (z : ClauseValue). z.literals) c.clause.view_is in
    let at : slice_get ls c.loop-i.i ≡ Some l = slice_get_read ls (length ls) c.loop-i.i l refl c.loop-i-test.true c.literal-item.is in
    let P : List Literal → Type 0 = λ z. slice_get z c.loop-i.i ≡ Some l in
    let Q : List AtomValue → Type 0 = λ z. Contains z l.atom ↔ (are_ground l.atom.args ≡ true) in
    subst Q (sym c.loop-i.invariant.atoms) (c.requires.atoms c.loop-i.i l (subst P same at))

pub loop-i-preserved : goal.loop-i-preserved
loop-i-preserved c =
    let ls = c.as_slice-literal-items.result.now in
    let l = c.literal-item.result in
    let same : ls ≡ c.args.clause.now.literals = c.as_slice-literal-items.ensures ∙ ap (λ (z : ClauseValue). z.literals) c.clause.view_is in
    let at : slice_get ls c.loop-i.i ≡ Some l = slice_get_read ls (length ls) c.loop-i.i l refl c.loop-i-test.true c.literal-item.is in
    let P : List Literal → Type 0 = λ z. slice_get z c.loop-i.i ≡ Some l in
    clause_step c.args.clause.now.literals c.args.c c.args.self.now c.loop-i.self c.file_literal.new.self c.loop-i.i l (subst P same at) c.in_ok-file_literal.ensures c.loop-i.invariant

pub returns : goal.returns
returns c =
    let ls = c.as_slice-literal-items.result.now in
    let same : ls ≡ c.args.clause.now.literals = c.as_slice-literal-items.ensures ∙ ap (λ (z : ClauseValue). z.literals) c.clause.view_is in
    let many = ap length same in
    let end : c.loop-i.i ≡ length c.args.clause.now.literals = omega (arith, many, c.loop-i.auto.i-end, c.loop-i-test.false) in
    clause_end c.args.clause.now.literals c.args.c c.args.self.now c.loop-i.self c.loop-i.i end c.loop-i.invariant
