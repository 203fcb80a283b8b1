use Rattle.std.proofs.Common.{◌≡◌, ◌++◌, ◌∷◌, [], ◌<◌, map, length, length-append, Bor, arith}
use Rattle.me_terms.specs.Values.{EntryValue}
use Rattle.me_terms.specs.Context.{add}
use Rattle.me_terms.specs.declared.bounds.TheConstants.{MAX_ENTRIES}
use Rattle.entry_hiding.proofs.Contexts.{add_is_context}
use Rattle.std.proofs.lemmas.List.{length-map}
use Rattle.context_nodes.proofs.Lent.{values_push}
use Rattle.context_nodes.proofs.branch.Branch.extend.Goals as goal

pub invariant_of-self-in-Ok-keep : goal.invariant_of-self-in-Ok-keep
invariant_of-self-in-Ok-keep g c =
    let before = c.self.inside.lent.items in
    let items : c.push_reserved.new.self.items ≡ before ++ c.in-Ok-keep.kept ∷ [] = cc (c.push_reserved.ensures.items, c.reserve.ensures.items) in
    let kept : c.in-Ok-keep.kept.now ≡ c.args.e = c.in-Ok-keep.ensures.ok in
    let values : map (λ r. r.now) c.push_reserved.new.self.items ≡ add (map (λ r. r.now) before) c.args.e = rw (← kept) (values_push before c.push_reserved.new.self.items c.in-Ok-keep.kept items) in
    let short : length (map (λ (r : Bor EntryValue). r.now) before) < MAX_ENTRIES = rw c.self.view_is c.requires.room in
    let fits = rw c.reserve.ensures.items at c.in-Ok.ensures.ok in
    rw values (
      add_is_context (map (λ r. r.now) before) c.args.e c.self.invariant.0 c.requires.literal,
      rw items (omega (arith, length-append before (c.in-Ok-keep.kept ∷ []), length-map before (λ (r : Bor EntryValue). r.now), short)),
      fits,
    )
