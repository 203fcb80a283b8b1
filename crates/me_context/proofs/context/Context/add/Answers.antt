use Rattle.std.proofs.Common.{◌≡◌, ◌++◌, ◌∷◌, [], ◌<◌, length, length-append, arith}
use Rattle.me_terms.specs.declared.bounds.TheConstants.{MAX_ENTRIES}
use Rattle.entry_hiding.proofs.Contexts.{add_is_context}
use Rattle.me_context.proofs.context.Context.add.Goals as goal

pub invariant_of-self-2 : goal.invariant_of-self-2
invariant_of-self-2 c =
    let before = c.self.inside.entries.items in
    let items : c.push_reserved.new.self.items ≡ before ++ c.args.e ∷ [] = cc (c.push_reserved.ensures.items, c.reserve.ensures.items) in
    let short : length before < MAX_ENTRIES = rw c.self.view_is c.requires.room in
    let fits = rw c.reserve.ensures.items at c.in-Ok.ensures.ok in
    rw items (
      add_is_context before c.args.e c.self.invariant.0 c.requires.literal,
      omega (arith, length-append before (c.args.e ∷ []), short),
      fits,
    )
