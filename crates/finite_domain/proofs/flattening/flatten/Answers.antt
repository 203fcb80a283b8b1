use Rattle.std.proofs.Common.{◌≡◌, ℕ, ◌+◌, ◌<◌, ◌^◌, ◌++◌, List, eqb, length, map, ap, sym, subst, ◌∙◌, arith}
use Rattle.std.specs.List.{All, IsDistinct}
use Rattle.me_terms.specs.Validity.{IsValid}
use Rattle.me_terms.specs.Values.{SymbolValue, ClauseValue, ProblemValue}
use Rattle.finite_domain.specs.Flat.{relations_from, copy_of, order_of, numbered_from, totalities_from, flat_of, IsSmall}
use Rattle.finite_domain.proofs.Counting.{numbered_length, totalities_length}
use Rattle.finite_domain.proofs.Lists.{all_of_them, weaker}
use Rattle.finite_domain.proofs.Making.{lists_of, flat_made}
use Rattle.finite_domain.proofs.Valid.{order_known, few_ordered, flat_valid}
use Rattle.finite_domain.proofs.flattening.flatten.Goals as goal

-- the numbers of predicates in the order of the clauses, for an equal list of clauses
ordered : (p : ProblemValue) (clauses : List ClauseValue) (keys : List ℕ) → clauses ≡ p.clauses → keys ≡ order_of clauses → keys ≡ order_of p.clauses
ordered p clauses keys same is = is ∙ ap order_of same

few_keys : (p q : ProblemValue) (clauses : List ClauseValue) (keys : List ℕ) → p ≡ q → IsValid q → IsSmall q → clauses ≡ p.clauses → keys ≡ order_of clauses → IsDistinct eqb keys → length keys < 2 ^ 31
few_keys p q clauses keys view valid small same is distinct =
    let all = ordered p clauses keys same is in
    let few = few_ordered p (subst IsValid (sym view) valid) (subst (IsDistinct eqb) all distinct) in
    let most = (subst IsSmall (sym view) small).predicates in
    let size = ap length all in
    omega (arith, few, most, size)

known_keys : (p q : ProblemValue) (clauses : List ClauseValue) (keys : List ℕ) → p ≡ q → IsValid q → IsSmall q → clauses ≡ p.clauses → keys ≡ order_of clauses → All (λ (k : ℕ). k < 2 ^ 31) keys
known_keys p q clauses keys view valid small same is =
    let most = (subst IsSmall (sym view) small).predicates in
    subst (All (λ (k : ℕ). k < 2 ^ 31)) (sym (ordered p clauses keys same is))
    (all_of_them (λ (k : ℕ). k < 2 ^ 31) (order_of p.clauses) (weaker (λ (k : ℕ). k < length p.signature.predicates) (λ (k : ℕ). k < 2 ^ 31) (order_of p.clauses) (λ k less. omega (arith, less, most)) (order_known p (subst IsValid (sym view) valid))))

pub flat_signature-requires-clause-few : goal.flat_signature-requires-clause-few
flat_signature-requires-clause-few c =
    few_keys _ c.args.problem.now c.as_slice-parts.result.now c.in_ok-order.order.keys c.problem.view_is c.requires.valid c.requires.small c.as_slice-parts.ensures c.in_ok-order.ensures.order c.in_ok-order.ensures.once

pub flat_signature-requires-clause-known : goal.flat_signature-requires-clause-known
flat_signature-requires-clause-known c =
    known_keys _ c.args.problem.now c.as_slice-parts.result.now c.in_ok-order.order.keys c.problem.view_is c.requires.valid c.requires.small c.as_slice-parts.ensures c.in_ok-order.ensures.order

pub add_clauses-requires-clause-order : goal.add_clauses-requires-clause-order
add_clauses-requires-clause-order c =
    few_keys _ c.args.problem.now c.as_slice-parts.result.now c.in_ok-order.order.keys c.problem.view_is c.requires.valid c.requires.small c.as_slice-parts.ensures c.in_ok-order.ensures.order c.in_ok-order.ensures.once

pub add_clauses-requires-clause-made : goal.add_clauses-requires-clause-made
add_clauses-requires-clause-made c =
    ap length c.in_ok-clauses.ensures ∙ numbered_length 1 (totalities_from c.args.n 0 c.problem.inside.signature.functions) ∙ totalities_length c.args.n 0 c.problem.inside.signature.functions ∙ sym c.fun_count-relations.ensures

-- the clauses that are added, by the parts of an equal problem
same_added : (relations count : ℕ) (order keys : List ℕ) (parts clauses start new : List ClauseValue) → relations ≡ count → order ≡ keys → parts ≡ clauses
    → new ≡ start ++ numbered_from (relations + 1) (lists_of relations order parts) → new ≡ start ++ numbered_from (count + 1) (lists_of count keys clauses)
same_added relations count order keys parts clauses start new counted ordered_so same is =
    is
    ∙ ap (λ (r : ℕ). start ++ numbered_from (r + 1) (lists_of r order parts)) counted
    ∙ ap (λ (k : List ℕ). start ++ numbered_from (count + 1) (lists_of count k parts)) ordered_so
    ∙ ap (λ (p : List ClauseValue). start ++ numbered_from (count + 1) (lists_of count keys p)) same

pub returns-clause-flat : goal.returns-clause-flat
returns-clause-flat c =
    let p : ProblemValue = record { clauses = c.problem.inside.clauses.items; signature = c.problem.inside.signature; c0 = c.problem.inside.c0 } in
    let n = c.args.n in
    let keys = ordered p c.as_slice-parts.result.now c.in_ok-order.order.keys c.as_slice-parts.ensures c.in_ok-order.ensures.order in
    let added = same_added c.fun_count-relations.result (length p.signature.functions) c.in_ok-order.order.keys (order_of p.clauses) c.as_slice-parts.result.now p.clauses c.in_ok-clauses.clauses.items c.add_clauses.new.made.items c.fun_count-relations.ensures keys c.as_slice-parts.ensures c.in_ok-add_clauses.ensures in
    let predicates = c.in_ok-signature.ensures.predicates ∙ ap (λ (k : List ℕ). relations_from 0 p.signature.functions ++ map (copy_of p.signature.predicates) k) keys in
    let P : ProblemValue → Type 0 = λ q. (record { clauses = c.add_clauses.new.made.items; signature = c.in_ok-signature.signature; c0 = 0 }) ≡ flat_of q n in
    subst P c.problem.view_is (flat_made p n c.in_ok-clauses.clauses.items c.add_clauses.new.made.items c.in_ok-signature.signature c.in_ok-clauses.ensures added c.in_ok-signature.ensures.functions predicates)

pub returns-clause-valid : goal.returns-clause-valid
returns-clause-valid c =
    subst IsValid (sym (returns-clause-flat c)) (flat_valid c.args.problem.now c.args.n c.requires.valid c.requires.small c.requires.size.0 (omega (arith, c.requires.size.1)))
