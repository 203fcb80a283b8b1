use Rattle.std.proofs.Common.{◌≡◌, Some, None, refl, sym, subst}
use Rattle.std.specs.List.{position}
use Rattle.me_terms.specs.TermEquality.{same_atom}
use Rattle.me_terms.specs.declared.atom.Literal.{Literal}
use Rattle.clause_pairs.specs.Index.{IndexValue}
use Rattle.clause_pairs.proofs.Indexing.{with_number, without_number}
use Rattle.clause_pairs.proofs.Rows.{on_ok}
use Rattle.clause_pairs.proofs.index.Index.file_literal.Goals as goal

pub returns-in-Some : goal.returns-in-Some
returns-in-Some c =
    let x = c.self.inside in
    let before : IndexValue = record { atoms = x.atoms.keys; by_predicate = x.by_predicate.items; nonground = x.nonground.items; by_atom = x.by_atom.items } in
    let after : IndexValue = record { atoms = x.atoms.keys; by_predicate = c.file.new.lists.items; nonground = x.nonground.items; by_atom = c.file-in-Some.new.lists.items } in
    let knows = rw (← c.self.view_is, ← c.literal.view_is) at c.requires in
    let P : Literal → Type 0 = λ z. position (same_atom z.atom) x.atoms.keys ≡ Some c.in-Some.number in
    let found = subst P (sym c.literal.view_is) (sym c.in-Some.ensures.number) in
    rw (← c.self.view_is, ← c.literal.view_is) (
    on_ok c.file-in-Some.result _ _ (λ files. with_number _ c.args.at before after knows refl c.in_ok-file.ensures c.in-Some.number found refl files) c.file-in-Some.ensures
    )

pub returns-in-None : goal.returns-in-None
returns-in-None c =
    let x = c.self.inside in
    let before : IndexValue = record { atoms = x.atoms.keys; by_predicate = x.by_predicate.items; nonground = x.nonground.items; by_atom = x.by_atom.items } in
    let after : IndexValue = record { atoms = x.atoms.keys; by_predicate = c.file.new.lists.items; nonground = c.file-in-None.new.lists.items; by_atom = x.by_atom.items } in
    let knows = rw (← c.self.view_is, ← c.literal.view_is) at c.requires in
    let P : Literal → Type 0 = λ z. position (same_atom z.atom) x.atoms.keys ≡ None in
    let none = subst P (sym c.literal.view_is) (sym c.in-None.ensures.number) in
    rw (← c.self.view_is, ← c.literal.view_is) (
    on_ok c.file-in-None.result _ _ (λ files. without_number _ c.args.at before after knows refl c.in_ok-file.ensures none files refl) c.file-in-None.ensures
    )
