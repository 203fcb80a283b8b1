use Rattle.std.proofs.Common.{refl, sym, ◌∙◌, arith}
use Rattle.std.specs.List.{list_all}
use Rattle.problem_checks.proofs.ValidityTests.{all_true, all_false, all_done}
use Rattle.problem_checks.specs.PlainTests.{has_few_arguments}
use Rattle.problem_checks.specs.SymbolKinds.{symbols_of}
use Rattle.problem_checks.proofs.OwnNumbers.{own_none, own_more, own_all}
use Rattle.problem_checks.proofs.limits.have_few.Goals as goal

pub symbols-init : goal.symbols-init
symbols-init c = record { few = refl; own = own_none (symbols_of c.args.kind c.args.signature.now) }

pub symbols-preserved : goal.symbols-preserved
symbols-preserved c =
    let all = symbols_of c.args.kind c.args.signature.now in
    record {
      few = all_true has_few_arguments all c.symbols.number (list_all has_few_arguments all) (omega arith) c.symbols.invariant.few (sym c.symbol_has_few.ensures.few ∙ c.if-not-symbol_has_few.false);
      own = own_more all c.symbols.number c.symbols.invariant.own c.symbol_has_few.ensures.own;
    }

pub returns-then-not-symbol_has_few : goal.returns-then-not-symbol_has_few
returns-then-not-symbol_has_few c =
    let all = symbols_of c.args.kind c.args.signature.now in
    record {
      few = sym (all_false has_few_arguments all c.symbols.number (list_all has_few_arguments all) (omega arith) c.symbols.invariant.few (sym c.symbol_has_few.ensures.few ∙ c.if-not-symbol_has_few.true));
      own = λ e. absurd cc;
    }

pub returns : goal.returns
returns c =
    let all = symbols_of c.args.kind c.args.signature.now in
    record {
      few = sym (all_done has_few_arguments all c.symbols.number (list_all has_few_arguments all) (omega arith) c.symbols.invariant.few);
      own = λ e. own_all all c.symbols.number c.symbols.invariant.own (omega arith);
    }
