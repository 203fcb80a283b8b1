use Rattle.std.proofs.Common.{◌≡◌, ◌++◌, List, [], ℕ, append-nil, sym, ◌∙◌}
use Rattle.std.proofs.lemmas.Bool.{false≢true}
use Rattle.darwin_steps.specs.HiddenText.{IsHiddenAt, hidden, kept, place_text}
use Rattle.darwin_steps.proofs.Results.{told}
use Rattle.darwin_steps.proofs.hidden.push_name.Goals as goal

pub returns-then-is_newly_covered : goal.returns-then-is_newly_covered
returns-then-is_newly_covered c =
    let name = place_text c.args.k in
    let P : Type 0 = c.push_place.new.out.items ≡ c.args.out.now.items ++ name in
    let Q : Type 0 = (x : List ℕ) × IsHiddenAt c.args.context.now c.args.new.now c.args.k x × (c.push_place.new.out.items ≡ c.args.out.now.items ++ x) in
    told c.push_place.result P Q (λ printed. (name, hidden (c.is_newly_covered.ensures.0 c.if-is_newly_covered.true), printed)) c.push_place.ensures

pub returns-else-is_newly_covered : goal.returns-else-is_newly_covered
returns-else-is_newly_covered c =
    ([], kept (λ h. false≢true (sym c.if-is_newly_covered.false ∙ c.is_newly_covered.ensures.1 h)), sym (append-nil _))
