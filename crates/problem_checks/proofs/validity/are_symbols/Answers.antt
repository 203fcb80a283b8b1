use Rattle.std.proofs.Common.{sym, ◌∙◌, arith}
use Rattle.std.specs.List.{list_all}
use Rattle.problem_checks.specs.SymbolKinds.{symbols_of}
use Rattle.problem_checks.specs.ValidityTests.{is_symbol}
use Rattle.problem_checks.proofs.ValidityTests.{all_true, all_false, all_done}
use Rattle.problem_checks.proofs.validity.are_symbols.Goals as goal

pub symbols-preserved : goal.symbols-preserved
symbols-preserved c =
    let all = symbols_of c.args.kind c.args.signature.now in
    all_true (is_symbol c.args.kind) all c.symbols.number (list_all (is_symbol c.args.kind) all) (omega arith) c.symbols.invariant (sym c.is_symbol_at.ensures ∙ c.if-not-is_symbol_at.false)

pub returns-then-not-is_symbol_at : goal.returns-then-not-is_symbol_at
returns-then-not-is_symbol_at c =
    let all = symbols_of c.args.kind c.args.signature.now in
    sym (all_false (is_symbol c.args.kind) all c.symbols.number (list_all (is_symbol c.args.kind) all) (omega arith) c.symbols.invariant (sym c.is_symbol_at.ensures ∙ c.if-not-is_symbol_at.true))

pub returns : goal.returns
returns c =
    let all = symbols_of c.args.kind c.args.signature.now in
    sym (all_done (is_symbol c.args.kind) all c.symbols.number (list_all (is_symbol c.args.kind) all) (omega arith) c.symbols.invariant)
