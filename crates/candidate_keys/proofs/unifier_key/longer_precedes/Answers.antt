use Rattle.std.proofs.Common.{[], ◌∷◌, ◌++◌, inl, inr, IsTrue, nat_lt, sym, ◌∙◌, arith}
use Rattle.std.proofs.lemmas.Bool.{cases_lt, ltb-true, lt-ltb}
use Rattle.std.proofs.lemmas.List.{length_push}
use Rattle.candidate_keys.proofs.Orders.{left_short, left_less, left_greater, left_same, read_at, none_past}
use Rattle.candidate_keys.proofs.unifier_key.longer_precedes.Goals as goal

pub returns-in_default-item : goal.returns-in_default-item
returns-in_default-item c =
    let xs = c.args.list.now ++ c.args.last ∷ [] in
    let ys = c.args.other.now ++ c.args.other_last ∷ [] in
    let k = c.loop-k.k in
    let x = read_at xs k c.in-Some.x (sym c.item.ensures ∙ c.in-Some.is) in
    let none = none_past ys k (sym c.item-in-loop-k.ensures ∙ c.in_default-item.is) in
    (λ t. cc, λ h. absurd (left_short xs ys k x.0 none (c.loop-k.invariant.rest.1 h)))

pub returns-then-x-y : goal.returns-then-x-y
returns-then-x-y c =
    let xs = c.args.list.now ++ c.args.last ∷ [] in
    let ys = c.args.other.now ++ c.args.other_last ∷ [] in
    let k = c.loop-k.k in
    let x = read_at xs k c.in-Some.x (sym c.item.ensures ∙ c.in-Some.is) in
    let y = read_at ys k c.in-Some-item.y (sym c.item-in-loop-k.ensures ∙ c.in-Some-item.is) in
    let p = x.1 in
    let q = y.1 in
    let apart = c.if-x-y.true in (
      λ t. (let less = ltb-true c.in-Some.x c.in-Some-item.y t in c.loop-k.invariant.rest.0 (left_less xs ys k x.0 y.0 (omega (arith, less, p, q)))),
      λ h. elim (cases_lt c.in-Some.x c.in-Some-item.y) as (λ _. IsTrue (nat_lt c.in-Some.x c.in-Some-item.y)) [
        | inl less ↦ lt-ltb c.in-Some.x c.in-Some-item.y less
        | inr ge ↦ absurd (left_greater xs ys k x.0 y.0 (omega (arith, ge, p, q, apart)) (c.loop-k.invariant.rest.1 h))
      ],
    )

pub loop-k-preserved : goal.loop-k-preserved
loop-k-preserved c =
    let xs = c.args.list.now ++ c.args.last ∷ [] in
    let ys = c.args.other.now ++ c.args.other_last ∷ [] in
    let k = c.loop-k.k in
    let x = read_at xs k c.in-Some.x (sym c.item.ensures ∙ c.in-Some.is) in
    let y = read_at ys k c.in-Some-item.y (sym c.item-in-loop-k.ensures ∙ c.in-Some-item.is) in
    let p = x.1 in
    let q = y.1 in
    let lt = y.0 in
    let len = length_push c.args.other.now c.args.other_last in
    let same = left_same xs ys k x.0 y.0 (p ∙ (c.if-x-y.false ∙ sym q)) in
    record {
      within = omega (arith, lt, len);
      rest = (λ h. c.loop-k.invariant.rest.0 (same.1 h), λ h. same.0 (c.loop-k.invariant.rest.1 h));
    }
