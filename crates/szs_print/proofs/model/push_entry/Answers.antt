use Rattle.std.proofs.Common.{◌≡◌, ℕ, List, [], ◌++◌, length, refl, sym, ap, ◌∙◌, Result, Ok, Err}
use Rattle.std.proofs.lemmas.List.{append-nil}
use Rattle.std.proofs.lemmas.Option.{slice_get_read}
use Rattle.std.proofs.lemmas.Bool.{false≢true}
use Rattle.std.specs.Result.{OnOk}
use Rattle.szs_print.specs.ModelText.{IsTextAt, pseudo_literal, literal_line}
use Rattle.szs_print.proofs.Hiding.{covered_text, visible_text, HasCover, after}
use Rattle.szs_print.proofs.model.push_entry.Goals as goal

told : {E : Type 0} (r : Result (Unit {0}) E) (P Q : Type 0) → (P → Q) → OnOk r P → OnOk r Q
told (Ok u) P Q f h = f h
told (Err e) P Q f h = h

pub returns-in_default : goal.returns-in_default
returns-in_default c =
    let e = c.index-entries-k.result in
    let stands = slice_get_read c.args.entries.now (length c.args.entries.now) c.args.k e refl c.requires c.index-entries-k.is in
    let atom_is = sym (ap (λ v. v.atom) c.entry.view_is) ∙ c.in_default.is in
    ([], pseudo_literal e stands atom_is, sym (append-nil _))

pub returns-then-is_covered : goal.returns-then-is_covered
returns-then-is_covered c =
    let e = c.index-entries-k.result in
    ([], covered_text c.args.signature.now c.args.entries.now c.args.k e c.requires c.index-entries-k.is (c.is_covered.ensures.0 c.if-is_covered.true), sym (append-nil _))

pub returns : goal.returns
returns c =
    let e = c.index-entries-k.result in
    let a = c.in-Of.atom in
    let atom_is = sym (ap (λ v. v.atom) c.entry.view_is) ∙ c.in-Of.is in
    let uncovered : HasCover e (after c.args.k c.args.entries.now) → ⊥ = λ h. false≢true (sym c.if-is_covered.false ∙ c.is_covered.ensures.1 h) in
    let line = literal_line c.args.signature.now c.args.k e.positive a e.kind in
    let P : Type 0 = c.push_literal.new.out.items ≡ c.args.out.now.items ++ line in
    let Q : Type 0 = (x : List ℕ) × IsTextAt c.args.signature.now c.args.entries.now c.args.k x × (c.push_literal.new.out.items ≡ c.args.out.now.items ++ x) in
    let text = visible_text c.args.signature.now c.args.entries.now c.args.k e a c.requires c.index-entries-k.is atom_is uncovered in
    told _ P Q (λ printed. (line, text, printed)) c.push_literal.ensures
