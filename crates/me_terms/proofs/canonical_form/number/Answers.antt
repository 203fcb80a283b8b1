use Rattle.std.proofs.Common.{◌^◌, ◌<◌, sym, ◌∙◌, arith}
use Rattle.std.specs.List.{All}
use Rattle.me_terms.proofs.Numbered.{place_is, placed, few, still_below}
use Rattle.me_terms.proofs.canonical_form.number.Goals as goal

pub returns-in-Ok-clause-number : goal.returns-in-Ok-clause-number
returns-in-Ok-clause-number c later =
    rw c.in-Ok.ensures.keys (c.in-Ok.ensures.index ∙ (place_is c.args.x c.args.names.now.keys ∙ sym (placed c.args.x c.args.names.now.keys later)))

pub returns-in-Ok-clause-small : goal.returns-in-Ok-clause-small
returns-in-Ok-clause-small c = rw c.in-Ok.ensures.keys (still_below c.args.names.now.keys c.args.x (2 ^ 32) c.requires (omega arith))

pub overflow_cast-result : goal.overflow_cast-result
overflow_cast-result c =
    let small : All (λ y. y < 2 ^ 32) c.insert_full.new.self.keys = rw c.in-Ok.ensures.keys (still_below c.args.names.now.keys c.args.x (2 ^ 32) c.requires (omega arith)) in
    let few_names = few c.insert_full.new.self.keys (2 ^ 32) c.insert_full.ensures.unique small in
    omega (arith, few_names, c.in-Ok.ensures.within)
