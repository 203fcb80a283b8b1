use Rattle.std.proofs.Common.{◌≡◌, ◌∙◌, ◌-◌, ℕ, take, drop, length, map, reverse, sym, ap, arith}
use Rattle.me_terms.specs.TermViews.{term_value}
use Rattle.szs_read.proofs.Building.{built, not_so_many, not_enough, split_at}
use Rattle.szs_read.proofs.Nodes.{seen_length, all_taken, count_taken}
use Rattle.szs_read.proofs.build.build.Goals as goal

pub returns-then-not-branch-clause-same : goal.returns-then-not-branch-clause-same
returns-then-not-branch-clause-same c =
    not_enough (map term_value (reverse c.nodes.stack.items)) c.args.nodes.now (take (c.nodes.left - 1) c.args.nodes.now) (drop c.nodes.left c.args.nodes.now) _ c.args.count (length c.nodes.stack.items)
    (sym (seen_length c.nodes.stack.items)) (c.in_ok-put.ensures.few c.if-not-branch.true) (split_at c.args.nodes.now c.nodes.left _ (omega arith) c.nodes.invariant.within) c.nodes.invariant.built

pub returns-then-len-count-clause-same : goal.returns-then-len-count-clause-same
returns-then-len-count-clause-same c =
    let none : c.nodes.left ≡ 0 = omega arith in
    not_so_many (map term_value (reverse c.nodes.stack.items)) c.args.nodes.now c.args.count c.len.result
    (omega (arith, seen_length c.nodes.stack.items)) (λ e. absurd (omega (arith, e))) (c.nodes.invariant.built ∙ ap (λ (k : ℕ). drop k c.args.nodes.now) none)

pub returns-clause-same : goal.returns-clause-same
returns-clause-same c =
    let none : c.nodes.left ≡ 0 = omega arith in
    let all : length (map term_value (reverse c.nodes.stack.items)) ≡ c.args.count = omega (arith, seen_length c.nodes.stack.items) in
    built c.args.nodes.now c.args.count c.in_ok-taken.field-0
    (all_taken c.args.count (map term_value (reverse c.nodes.stack.items)) c.in_ok-taken.field-0.items c.args.nodes.now all c.in_ok-taken.ensures.arguments (c.nodes.invariant.built ∙ ap (λ (k : ℕ). drop k c.args.nodes.now) none))
    (count_taken c.args.count (map term_value (reverse c.nodes.stack.items)) c.in_ok-taken.field-0.items all c.in_ok-taken.ensures.arguments)
