use Rattle.std.proofs.Common.{◌≤◌, ◌∙◌, ℕ, List, Some, length, sym, ap, subst}
use Rattle.me_io.specs.declared.source.TheConstants.{MAX_BYTES}
use Rattle.tptp_include.specs.Files.{FileValue, bytes_named, AreSmall}
use Rattle.tptp_include.specs.Views.{bytes_of}
use Rattle.tptp_include.proofs.Mapping.{found_bytes, named_small}
use Rattle.tptp_include.proofs.bundle.BundleLibrary.find.Goals as goal

pub returns-in_default-clause-found : goal.returns-in_default-clause-found
returns-in_default-clause-found c = ap bytes_of c.in_default.ensures.value ∙ found_bytes c.self.inside.files.entries c.args.name.now ∙ ap (λ (fs : List FileValue). bytes_named fs c.args.name.now.items) c.self.view_is

pub returns-clause-found : goal.returns-clause-found
returns-clause-found c =
    ap (λ (x : List ℕ). Some x) c.in_ok-copy.ensures
    ∙ ap bytes_of c.in-Some.ensures.value ∙ found_bytes c.self.inside.files.entries c.args.name.now ∙ ap (λ (fs : List FileValue). bytes_named fs c.args.name.now.items) c.self.view_is

pub returns-clause-size : goal.returns-clause-size
returns-clause-size c =
    subst (λ (x : List ℕ). length x ≤ MAX_BYTES) (sym c.in_ok-copy.ensures)
    (named_small c.args.self.now c.args.name.now.items c.in-Some.bytes.now.items (subst AreSmall c.self.view_is c.self.invariant.1)
    (sym (ap bytes_of c.in-Some.ensures.value ∙ found_bytes c.self.inside.files.entries c.args.name.now ∙ ap (λ (fs : List FileValue). bytes_named fs c.args.name.now.items) c.self.view_is)))
