use Rattle.std.proofs.Common.{◌∙◌, ap, ℕ, List}
use Rattle.std.specs.List.{list_any}
use Rattle.std.specs.Str.{bytes_eq}
use Rattle.me_terms.specs.Sequences.{SequenceValue}
use Rattle.tptp_include.proofs.Naming.{any_name}
use Rattle.tptp_include.proofs.names.contains.Goals as goal

pub returns : goal.returns
returns c =
    c.has.ensures
    ∙ ap (λ (x : List ℕ). list_any (λ other. bytes_eq x other.items) c.as_slice.result.now) c.as_slice-2.ensures
    ∙ ap (λ (x : List (SequenceValue ℕ)). list_any (λ other. bytes_eq c.args.name.now.items other.items) x) c.as_slice.ensures
    ∙ any_name c.args.name.now.items c.args.names.now.items
