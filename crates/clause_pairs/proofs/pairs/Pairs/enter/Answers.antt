use Rattle.std.proofs.Common.{◌≡◌, ℕ, List, [], ◌∷◌, ◌++◌, length, take, sym, subst, ap, ◌∙◌, arith}
use Rattle.std.specs.declared.vec.Vec.{Vec}
use Rattle.std.specs.declared.alloc.Global.{Global}
use Rattle.clause_pairs.specs.declared.clause_place.ClausePlace.{ClausePlace}
use Rattle.clause_pairs.specs.Lists.{put_to, without, put_all}
use Rattle.clause_pairs.specs.Values.{lists_of}
use Rattle.clause_pairs.specs.Pairs.{ArePairs}
use Rattle.clause_pairs.proofs.Entering.{kept, as_many_entered, enter_places, after_enter, back_places, after_refusal}
use Rattle.clause_pairs.proofs.pairs.Pairs.enter.Goals as goal

pub put_all_at-requires : goal.put_all_at-requires
put_all_at-requires c =
    let fits = rw (← c.self.view_is) at c.requires.fits in
    rw c.deref.ensures.value (enter_places c.args.problem.now fits.0 c.self.inside.lists.items c.self.inside.entered.items c.self.inside.index fits.1 c.args.entry.now c.in_ok-places.places c.in_ok-places.ensures)

pub take_all_at-requires : goal.take_all_at-requires
take_all_at-requires c =
    let fits = rw (← c.self.view_is) at c.requires.fits in
    let problem = c.args.problem.now in
    let lists = c.self.inside.lists.items in
    let entered = c.self.inside.entered.items in
    let x = c.self.inside.index in
    let qs = c.in_ok-places.places in
    let k = c.len-position.result in
    let half = c.put_all_at.new.lists.items in
    let is_k : k ≡ length entered = omega (arith, ap length c.reserve.ensures.items) in
    let many = as_many_entered problem fits.0 lists entered x fits.1 in
    let positive = fits.2 in
    let P : List ClausePlace → Type 0 = λ z. (n : ℕ) × (lists_of half ≡ put_all (put_to k) (lists_of lists) (take n z)) in
    let some_have = subst P c.deref.ensures.value c.in-Err.ensures.err in
    rw c.deref-in-Err.ensures.value (back_places problem fits.0 lists entered x fits.1 c.args.entry.now qs c.in_ok-places.ensures k is_k (omega (arith, many, positive)) some_have.0 half some_have.1)

pub returns-in-Ok-clause-ok : goal.returns-in-Ok-clause-ok
returns-in-Ok-clause-ok c context given =
    let fits = rw (← c.self.view_is) at c.requires.fits in
    let h = rw (← c.self.view_is) at given in
    let problem = c.args.problem.now in
    let lists = c.self.inside.lists.items in
    let entered = c.self.inside.entered.items in
    let x = c.self.inside.index in
    let qs = c.in_ok-places.places in
    let k = c.len-position.result in
    let is_k : k ≡ length entered = omega (arith, ap length c.reserve.ensures.items) in
    let many = as_many_entered problem fits.0 lists entered x fits.1 in
    let positive = fits.2 in
    let P : List ClausePlace → Type 0 = λ z. lists_of c.put_all_at.new.lists.items ≡ put_all (put_to k) (lists_of lists) z in
    after_enter problem context lists entered x h c.args.entry.now qs c.in_ok-places.ensures k is_k (omega (arith, many, positive)) c.put_all_at.new.lists.items c.push_reserved.new.self.items
    (subst P c.deref.ensures.value c.in-Ok.ensures.ok)
    (c.push_reserved.ensures.items ∙ ap (λ (z : List (Vec ClausePlace Global)). z ++ qs ∷ []) c.reserve.ensures.items)

pub returns-in-Err-clause-err : goal.returns-in-Err-clause-err
returns-in-Err-clause-err c context given =
    let fits = rw (← c.self.view_is) at c.requires.fits in
    let h = rw (← c.self.view_is) at given in
    let problem = c.args.problem.now in
    let lists = c.self.inside.lists.items in
    let entered = c.self.inside.entered.items in
    let x = c.self.inside.index in
    let qs = c.in_ok-places.places in
    let k = c.len-position.result in
    let half = c.put_all_at.new.lists.items in
    let is_k : k ≡ length entered = omega (arith, ap length c.reserve.ensures.items) in
    let many = as_many_entered problem fits.0 lists entered x fits.1 in
    let positive = fits.2 in
    let P : List ClausePlace → Type 0 = λ z. (n : ℕ) × (lists_of half ≡ put_all (put_to k) (lists_of lists) (take n z)) in
    let some_have = subst P c.deref.ensures.value c.in-Err.ensures.err in
    let Q : List ClausePlace → Type 0 = λ z. lists_of c.take_all_at.new.lists.items ≡ put_all (without k) (lists_of half) z in
    let R : List (Vec ClausePlace Global) → Type 0 = λ z. ArePairs problem context (kept c.take_all_at.new.lists.items z x) in
    subst R (sym c.reserve.ensures.items)
    (after_refusal problem context lists entered x h c.args.entry.now qs c.in_ok-places.ensures k is_k (omega (arith, many, positive)) some_have.0 half some_have.1 c.take_all_at.new.lists.items (subst Q c.deref-in-Err.ensures.value c.take_all_at.ensures))
