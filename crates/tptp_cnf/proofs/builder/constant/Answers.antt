use Rattle.std.proofs.Common.{ℕ, List, Result, Ok, Err, refl, ap, ◌∙◌}
use Rattle.std.specs.Prelude.{IfOk, OnOk}
use Rattle.std.proofs.lemmas.Result.{on_ok_weaker}
use Rattle.me_terms.specs.Values.{SymbolValue, SignatureValue}
use Rattle.tptp_cnf.proofs.Constants.{c0_added, c0_place}
use Rattle.tptp_cnf.proofs.builder.constant.Goals as goal

abbrev with_functions : SignatureValue → List SymbolValue → SignatureValue
with_functions signature functions = record { functions = functions; predicates = signature.predicates }

if_ok : {E : Type 0} (r : Result ℕ E) (X : Type 0) (P Q : ℕ → Type 0) → (X → (n : ℕ) → P n → Q n) → OnOk r X → IfOk r P → IfOk r Q
if_ok {E} (Ok n) X P Q f h k = f h n k
if_ok {E} (Err e) X P Q f h k = tt

pub returns-in_ok-c0_symbol-in-None-clause-number : goal.returns-in_ok-c0_symbol-in-None-clause-number
returns-in_ok-c0_symbol-in-None-clause-number c =
    if_ok c.add_fun.result _ _ _
    (λ added n number. c0_place c.args.signature.now.functions c.add_fun.new.self.functions c.in_ok-c0_symbol-in-None.field-0 n c.in-None.ensures.none c.in_ok-c0_symbol-in-None.ensures (ap (λ (x : SignatureValue). x.functions) added) number)
    c.add_fun.ensures.added c.add_fun.ensures.number

pub returns-in_ok-c0_symbol-in-None-clause-added : goal.returns-in_ok-c0_symbol-in-None-clause-added
returns-in_ok-c0_symbol-in-None-clause-added c =
    on_ok_weaker c.add_fun.result
    (λ added. added ∙ ap (with_functions c.args.signature.now) (c0_added c.args.signature.now.functions _ c.in_ok-c0_symbol-in-None.field-0 c.in-None.ensures.none c.in_ok-c0_symbol-in-None.ensures refl))
    c.add_fun.ensures.added
