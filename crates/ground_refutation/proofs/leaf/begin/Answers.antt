use Rattle.std.proofs.Common.{◌≡◌, ◌+◌, ◌<◌, ◌++◌, [], List, IfErr, rules, sym, subst, ap, ◌∙◌, arith}
use Rattle.std.specs.List.{All}
use Rattle.indexmap.specs.IndexSet.{insert_key}
use Rattle.me_terms.specs.Values.{InstanceValue}
use Rattle.me_terms.specs.FirstOccurrences.{same_instance}
use Rattle.me_terms.specs.LeafList.{Demand, demands, IsLeafList}
use Rattle.me_terms.specs.Measures.{literals_weight, list_weight}
use Rattle.me_terms.specs.declared.atom.Literal.{Literal}
use Rattle.me_laws.proofs.OutcomeDetermined.{closing_unique}
use Rattle.me_laws_refutation.specs.RightDemands.{IsRight}
use Rattle.ground_refutation.specs.Queue.{Completes}
use Rattle.instance_lists.specs.declared.error.ListError.{ListError}
use Rattle.instance_lists.specs.declared.error.ListError.TheVariants.{TooHeavy}
use Rattle.ground_refutation.proofs.Answering.{begins, closing_rights, closing_too_heavy}
use Rattle.ground_refutation.proofs.Results.{if_err_map}
use Rattle.ground_refutation.proofs.leaf.begin.Goals as goal

pub returns-in_err-closing-clause-heavy : goal.returns-in_err-closing-clause-heavy
returns-in_err-closing-clause-heavy g c =
    let p = c.args.problem.now in
    let context = g.V.View.context c.args.view.now in
    let tuple = c.args.tuple.now.items in
    let ks = c.deref.result.now in
    let are = c.deref.ensures.value ∙ c.in_ok-positions.ensures in
    let P : ListError → Type 0 = λ e. e ≡ c.in_err-closing.field-0.0 in
    let Q : ListError → Type 0 = λ e. e ≡ TooHeavy → (list : List InstanceValue) → IsLeafList p context c.args.clause tuple list → c.args.bound < list_weight list in
    let same : IfErr c.from_residual-in_err-closing.result P = search rules in
    if_err_map c.from_residual-in_err-closing.result P Q (λ e is heavy list leaf.
    closing_too_heavy p context c.args.clause tuple ks are list leaf c.args.bound (λ literals closing. c.in_err-closing.ensures.heavy (sym is ∙ heavy) tuple literals are closing)) same

pub returns-in_err-add-clause-heavy : goal.returns-in_err-add-clause-heavy
returns-in_err-add-clause-heavy g c =
    let p = c.args.problem.now in
    let context = g.V.View.context c.args.view.now in
    let tuple = c.args.tuple.now.items in
    let ks = c.deref.result.now in
    let are = c.deref.ensures.value ∙ c.in_ok-positions.ensures in
    let ls = c.in_ok-closing.closing.literals.items in
    let own = c.in_ok-closing.ensures.closing tuple are in
    let none = c.new-listing.ensures.weight in
    let each = c.in_ok-closing.ensures.weight in
    let weight : c.new-listing.result.weight + c.in_ok-closing.closing.weight ≡ literals_weight ls = omega (arith, none, each) in
    let P : ListError → Type 0 = λ e. e ≡ c.in_err-add.field-0.0 in
    let Q : ListError → Type 0 = λ e. e ≡ TooHeavy → (list : List InstanceValue) → IsLeafList p context c.args.clause tuple list → c.args.bound < list_weight list in
    let same : IfErr c.from_residual-in_err-add.result P = search rules in
    if_err_map c.from_residual-in_err-add.result P Q (λ e is heavy list leaf.
    let over = subst (λ n. c.args.bound < n) weight (c.in_err-add.ensures.heavy (sym is ∙ heavy)) in
    closing_too_heavy p context c.args.clause tuple ks are list leaf c.args.bound (λ literals closing.
    let R : List Literal → Type 0 = λ ms. c.args.bound < literals_weight ms in
    subst R (closing_unique p context c.args.clause tuple ls literals own closing) over)) same

pub returns-clause-underway : goal.returns-clause-underway
returns-clause-underway g c =
    let p = c.args.problem.now in
    let context = g.V.View.context c.args.view.now in
    let tuple = c.args.tuple.now.items in
    let ks = c.deref.result.now in
    let are = c.deref.ensures.value ∙ c.in_ok-positions.ensures in
    let ls = c.in_ok-closing.closing.literals.items in
    let queue : c.ask_all.new.waiting.items ≡ demands ls ks = c.in_ok-ask_all.ensures ∙ (λ i. c.new-waiting.ensures.items i ++ demands (c.as_slice.ensures i) ((c.deref-2.ensures.value ∙ sym c.deref.ensures.value) i)) in
    let right = closing_rights p c.requires.valid context c.requires.grown c.args.clause tuple c.requires.close ks are ls (c.in_ok-closing.ensures.closing tuple are) in
    let P : List Demand → Type 0 = λ ds. All (IsRight p context) ds in
    record { listing = c.in_ok-add.ensures.listing; right = subst P (sym queue) right }

pub returns-clause-completes : goal.returns-clause-completes
returns-clause-completes g c list leaf =
    let p = c.args.problem.now in
    let context = g.V.View.context c.args.view.now in
    let tuple = c.args.tuple.now.items in
    let ks = c.deref.result.now in
    let are = c.deref.ensures.value ∙ c.in_ok-positions.ensures in
    let ls = c.in_ok-closing.closing.literals.items in
    let i : InstanceValue = record { clause = c.args.clause; literals = ls } in
    let queue : c.ask_all.new.waiting.items ≡ demands ls ks = c.in_ok-ask_all.ensures ∙ (λ n. c.new-waiting.ensures.items n ++ demands (c.as_slice.ensures n) ((c.deref-2.ensures.value ∙ sym c.deref.ensures.value) n)) in
    let listed : c.add.new.self.instances.keys ≡ insert_key same_instance [] i = c.in_ok-add.ensures.added ∙ ap (λ (is : List InstanceValue). insert_key same_instance is i) c.new-listing.ensures.instances in
    let asked : c.new.result.keys ≡ [] = c.new.ensures.empty in
    let R : List Demand × (List Demand × List InstanceValue) → Type 0 = λ z. Completes p context z.0 z.1.0 z.1.1 list in
    subst R (λ n. (sym asked n, (sym queue n, sym listed n))) (begins p context c.args.clause tuple ks are list leaf ls (c.in_ok-closing.ensures.closing tuple are))
