use Rattle.std.proofs.Common.{◌≡◌, ◌++◌, List, ℕ}
use Rattle.me_terms.specs.Context.{add as with_entry}
use Rattle.darwin_steps.specs.Told.{IsAdded}
use Rattle.darwin_steps.proofs.Results.{told}
use Rattle.darwin_steps.proofs.walk.add.Goals as goal

pub returns : goal.returns
returns c =
    let old = c.args.context.now in
    let new = c.grow.new.branch in
    let e = c.args.entry in
    let h = c.in_ok-push_hidden.ensures in
    let P : Type 0 = new ≡ with_entry old e in
    let Q : Type 0 = (x : List ℕ) × IsAdded old e new x × (c.push_hidden.new.out.items ≡ c.args.out.now.items ++ x) in
    told c.grow.result P Q (λ grew. (h.0, record { now_is = grew; hidden = h.1 }, h.2)) c.grow.ensures
