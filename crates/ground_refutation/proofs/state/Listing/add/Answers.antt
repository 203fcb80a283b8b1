use Rattle.std.proofs.Common.{◌≡◌, ◌+◌, false, List, rules, sym, subst, ◌∙◌, arith}
use Rattle.std.specs.List.{list_any}
use Rattle.indexmap.specs.IndexSet.{insert_key}
use Rattle.me_terms.specs.Values.{InstanceValue}
use Rattle.me_terms.specs.FirstOccurrences.{same_instance}
use Rattle.ground_refutation.specs.Queue.{IsListing}
use Rattle.ground_refutation.proofs.Listing.{listed_more, inserted_new}
use Rattle.ground_refutation.proofs.state.Listing.add.Goals as goal

pub returns-clause-listing : goal.returns-clause-listing
returns-clause-listing c =
    let before = c.args.self.now in
    let lack : list_any (same_instance c.args.instance) before.instances.keys ≡ false = sym c.if-contains.ensures in
    let keys : c.insert.new.self.keys ≡ insert_key same_instance before.instances.keys c.args.instance = search rules in
    let fits = c.if-weight-bound.false in
    let light = c.requires.listing.light in
    let P : List InstanceValue → Type 0 = λ is. IsListing c.args.bound is (before.weight + c.args.weight) in
    subst P (sym (keys ∙ inserted_new before.instances.keys c.args.instance lack)) (listed_more c.args.bound before.weight c.args.weight before.instances.keys c.args.instance c.requires.listing lack c.requires.weight (omega (arith, fits, light)))
