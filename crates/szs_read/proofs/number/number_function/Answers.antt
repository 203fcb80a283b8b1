use Rattle.std.proofs.Common.{refl, ap}
use Rattle.me_terms.specs.Values.{SignatureValue}
use Rattle.szs_read.proofs.Nodes.{function_numbered}
use Rattle.szs_read.proofs.Symbols.{if_some}
use Rattle.szs_read.proofs.number.number_function.Goals as goal

pub returns-in_ok-add_fun-in-Some-clause-number : goal.returns-in_ok-add_fun-in-Some-clause-number
returns-in_ok-add_fun-in-Some-clause-number c =
    function_numbered _ _ (record { label = c.in-Some.label; arity = c.args.item.now.arity }) _ _
    (if_some _ _ _ c.in-Some.is c.in_ok-label.ensures.readable, c.is_function_label.ensures.form c.if-is_function_label.true)
    refl (ap (λ (v : SignatureValue). v.functions) c.in_ok-add_fun-in-Some.ensures.added) c.in_ok-add_fun-in-Some.ensures.number
