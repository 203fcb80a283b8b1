use Rattle.std.specs.List.{All}
use Rattle.me_terms.specs.Values.{InstanceValue}
use Rattle.me_terms.specs.Refuted.{IsFalseUnder}
use Rattle.me_laws.proofs.Lists.{all_of, any_of, some_map}
use Rattle.me_laws_refutation.proofs.Sound.{grown_sound}
use Rattle.me_laws_refutation.proofs.Leaf.{IsFalse, leaf_refuted}
use Rattle.ground_refutation.proofs.laws.leaf_is_refuted.Goals as goal

pub returns : goal.returns
returns c = λ problem bounds context c' tuple list value valid grown close leaf there.
    let P : InstanceValue → Type 0 = λ i. All (IsFalseUnder value) i.literals in
    any_of P list (some_map (IsFalse value) P (λ i h. all_of (IsFalseUnder value) i.literals h) list (leaf_refuted problem valid bounds context (grown_sound valid grown) c' tuple list close leaf value there))
