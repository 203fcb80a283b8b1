use Rattle.std.proofs.Common.{◌≡◌, ◌++◌, ◌-◌, length, sym, subst, ap, arith, List, ℕ}
use Rattle.me_terms.specs.Values.{EntryValue, ProblemValue, SignatureValue}
use Rattle.me_terms.specs.Context.{Context, add}
use Rattle.darwin_steps.specs.StepText.{right_text}
use Rattle.darwin_steps.proofs.Results.{told}
use Rattle.darwin_steps.proofs.Walking.{turned_line}
use Rattle.darwin_steps.proofs.walk.push_turn.Goals as goal

pub returns : goal.returns
returns c =
    let inner = c.problem.inside.signature in
    let signature = c.args.problem.now.signature in
    let same : inner ≡ signature = ap (λ (x : ProblemValue). x.signature) c.problem.view_is in
    let k = c.len-k.result - 1 in
    let context = c.args.context.now in
    let last = c.in-Some.last.now in
    let old = c.args.out.now.items in
    let new = c.push_right.new.out.items in
    let number = c.len-k.ensures.number in
    let some = c.requires in
    let T : SignatureValue → Type 0 = λ s. new ≡ old ++ right_text s k last in
    let Q : Type 0 = (before : Context) (e : EntryValue) → context ≡ add before e → new ≡ old ++ right_text signature (length before) e in
    told c.push_right.result (T inner) Q (λ printed. turned_line signature context k last old new (sym c.in-Some.ensures.item) (omega (arith, number, some)) (subst T same printed)) c.push_right.ensures
