use Rattle.std.proofs.Common.{◌≡◌, ◌+◌, List, [], ◌∷◌, ◌++◌, take, not, append_assoc, subst, refl, sym, ap, ◌∙◌}
use Rattle.me_terms.specs.Values.{InstanceValue}
use Rattle.instance_lists.proofs.Known.{Knows, knows_more, taken_more, news_more}
use Rattle.instance_lists.proofs.new_instances.find_new.Goals as goal

pub loop-instance-preserved : goal.loop-instance-preserved
loop-instance-preserved c =
    let list = c.args.list.now in
    let k = c.loop-instance.instance-index in
    let i = c.instance-item.result in
    let more = knows_more (λ q. q.now) (λ x. (record { ref_ptr = (0, 0); now = x }, refl)) c.loop-instance.known c.insert.new.self (take k list) i c.in_ok-insert.ensures.updates c.loop-instance.invariant in
    subst (λ (seen : List InstanceValue). Knows (λ q. q.now) c.insert.new.self seen) (sym (taken_more list k i c.loop-instance-test.true c.instance-item.is)) more

pub loop-instance-2-preserved : goal.loop-instance-2-preserved
loop-instance-2-preserved c =
    let list = c.args.list.now in
    let more = c.args.more.now in
    let k = c.loop-instance-2.instance-index in
    let i = c.instance-item-in-loop-instance-2.result in
    let known = c.loop-instance-2.invariant.known in
    let next = knows_more (λ q. q.now) (λ x. (record { ref_ptr = (0, 0); now = x }, refl)) c.loop-instance-2.known c.insert-in-loop-instance-2.new.self (list ++ take k more) i c.in_ok-is_new.ensures.updates known in
    let seen : list ++ take (k + 1) more ≡ (list ++ take k more) ++ i ∷ [] =
    ap (λ (xs : List InstanceValue). list ++ xs) (taken_more more k i c.loop-instance-2-test.true c.instance-item-in-loop-instance-2.is) ∙ sym (append_assoc list (take k more) (i ∷ [])) in
    record {
      known = subst (λ (xs : List InstanceValue). Knows (λ q. q.now) c.insert-in-loop-instance-2.new.self xs) (sym seen) next;
      found = news_more c.loop-instance-2.marks.items c.push.new.self.items list more k i c.in_ok-is_new.is_new c.loop-instance-2-test.true c.instance-item-in-loop-instance-2.is seen (c.in_ok-is_new.ensures.added ∙ ap not (known i)) c.in_ok-push.ensures.items c.loop-instance-2.invariant.found;
    }
