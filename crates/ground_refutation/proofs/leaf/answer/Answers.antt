use Rattle.std.proofs.Common.{◌≡◌, ◌+◌, ◌<◌, ◌++◌, ◌∷◌, List, IfErr, false, rules, refl, sym, subst, ◌∙◌}
use Rattle.std.specs.List.{list_any}
use Rattle.indexmap.specs.IndexSet.{insert_key}
use Rattle.me_terms.specs.Values.{InstanceValue}
use Rattle.me_terms.specs.FirstOccurrences.{same_instance}
use Rattle.me_terms.specs.LeafList.{Demand, demands}
use Rattle.me_terms.specs.Measures.{list_weight}
use Rattle.ground_refutation.specs.Queue.{same_demand, Completes, IsListing, IsUnderway}
use Rattle.ground_refutation.specs.Work.{longest, work, work_all}
use Rattle.instance_lists.specs.declared.error.ListError.{ListError}
use Rattle.instance_lists.specs.declared.error.ListError.TheVariants.{TooHeavy}
use Rattle.ground_refutation.proofs.Answering.{asked_new, asked_for, is_skip, too_heavy_alone, too_heavy_beside, completes, rights, less}
use Rattle.ground_refutation.proofs.Results.{if_err_map, if_err_both, on_ok_map, on_ok_any}
use Rattle.ground_refutation.proofs.leaf.answer.Goals as goal

pub positions-requires : goal.positions-requires
positions-requires g c =
    let p = c.args.problem.now in
    let s = c.args.state.now in
    let o = c.args.origin in
    is_skip p c.requires.valid (g.V.View.context c.args.view.now) c.requires.grown s.asked.keys s.waiting.items s.listing.instances.keys c.args.demand o.clause o.place o.tuple.now.items _ refl c.requires.asserted c.requires.is_new c.requires.right
    c.requires.completes.0 c.requires.completes.1

pub asked_instance-requires-clause-asked : goal.asked_instance-requires-clause-asked
asked_instance-requires-clause-asked g c =
    let p = c.args.problem.now in
    let s = c.args.state.now in
    let o = c.args.origin in
    asked_for p c.requires.valid (g.V.View.context c.args.view.now) c.requires.grown s.asked.keys s.waiting.items s.listing.instances.keys c.args.demand o.clause o.place o.tuple.now.items c.deref.result.now (c.deref.ensures.value ∙ c.in_ok-positions.ensures) c.requires.asserted c.requires.is_new c.requires.right
    c.requires.completes.0 c.requires.completes.1

pub returns-in_err-answer-clause-heavy : goal.returns-in_err-answer-clause-heavy
returns-in_err-answer-clause-heavy g c =
    let p = c.args.problem.now in
    let context = g.V.View.context c.args.view.now in
    let s = c.args.state.now in
    let o = c.args.origin in
    let listed = s.listing.instances.keys in
    let P : ListError → Type 0 = λ e. e ≡ c.in_err-answer.field-0.0 in
    let Q : ListError → Type 0 = λ e. e ≡ TooHeavy → (list : List InstanceValue) → Completes p context s.asked.keys (c.args.demand ∷ s.waiting.items) listed list → c.args.bound < list_weight list in
    let same : IfErr c.from_residual-in_err-answer.result P = search rules in
    if_err_map c.from_residual-in_err-answer.result P Q (λ e is heavy list h.
    too_heavy_alone p c.requires.valid context c.requires.grown s.asked.keys s.waiting.items listed c.args.demand o.clause o.place o.tuple.now.items c.deref.result.now (c.deref.ensures.value ∙ c.in_ok-positions.ensures) c.requires.asserted c.requires.is_new c.requires.right
    c.args.bound s.listing.weight c.requires.underway.listing (c.in_err-answer.ensures.heavy (sym is ∙ heavy)) list h) same

pub returns-clause-underway : goal.returns-clause-underway
returns-clause-underway g c =
    let p = c.args.problem.now in
    let context = g.V.View.context c.args.view.now in
    let s = c.args.state.now in
    let o = c.args.origin in
    let ls = c.in_ok-answer.answer.literals.items in
    let ks = c.deref.result.now in
    let queue : c.ask_all.new.waiting.items ≡ s.waiting.items ++ demands ls ks = c.in_ok-ask_all.ensures ∙ (λ i. s.waiting.items ++ demands (c.as_slice.ensures i) ((c.deref-2.ensures.value ∙ sym c.deref.ensures.value) i)) in
    let right = rights p c.requires.valid context c.requires.grown s.asked.keys s.waiting.items s.listing.instances.keys c.args.demand o.clause o.place o.tuple.now.items ks (c.deref.ensures.value ∙ c.in_ok-positions.ensures) c.requires.asserted c.requires.is_new c.requires.right
    ls c.in_ok-answer.ensures.exact c.requires.completes.0 c.requires.completes.1 c.requires.underway.right in
    let P : List Demand → Type 0 = λ ds. IsUnderway p context c.args.bound ds c.add.new.self.instances.keys c.add.new.self.weight in
    on_ok_map c.add.result (IsListing c.args.bound c.add.new.self.instances.keys c.add.new.self.weight) (P c.ask_all.new.waiting.items) (λ listing. subst P (sym queue) (record { listing = listing; right = right })) c.add.ensures.listing

pub returns-clause-completes : goal.returns-clause-completes
returns-clause-completes g c =
    let p = c.args.problem.now in
    let context = g.V.View.context c.args.view.now in
    let s = c.args.state.now in
    let o = c.args.origin in
    let listed = s.listing.instances.keys in
    let ls = c.in_ok-answer.answer.literals.items in
    let ks = c.deref.result.now in
    let queue : c.ask_all.new.waiting.items ≡ s.waiting.items ++ demands ls ks = c.in_ok-ask_all.ensures ∙ (λ i. s.waiting.items ++ demands (c.as_slice.ensures i) ((c.deref-2.ensures.value ∙ sym c.deref.ensures.value) i)) in
    let keys : c.insert.new.self.keys ≡ insert_key same_demand s.asked.keys c.args.demand = search rules in
    let asked = keys ∙ asked_new s.asked.keys c.args.demand c.requires.is_new in
    let next = completes p c.requires.valid context c.requires.grown s.asked.keys s.waiting.items listed c.args.demand o.clause o.place o.tuple.now.items ks (c.deref.ensures.value ∙ c.in_ok-positions.ensures) c.requires.asserted c.requires.is_new c.requires.right
    ls c.in_ok-answer.ensures.exact in
    let P : Type 0 = c.add.new.self.instances.keys ≡ insert_key same_instance listed (record { clause = o.clause; literals = ls }) in
    let Q : Type 0 = (list : List InstanceValue) → Completes p context s.asked.keys (c.args.demand ∷ s.waiting.items) listed list → Completes p context c.insert.new.self.keys c.ask_all.new.waiting.items c.add.new.self.instances.keys list in
    on_ok_map c.add.result P Q (λ added list h.
    let R : List Demand × (List Demand × List InstanceValue) → Type 0 = λ z. Completes p context z.0 z.1.0 z.1.1 list in
    subst R (λ i. (sym asked i, (sym queue i, sym added i))) (next list h)) c.add.ensures.added

pub returns-clause-less : goal.returns-clause-less
returns-clause-less g c =
    let p = c.args.problem.now in
    let context = g.V.View.context c.args.view.now in
    let s = c.args.state.now in
    let o = c.args.origin in
    let ls = c.in_ok-answer.answer.literals.items in
    let ks = c.deref.result.now in
    let b = longest p.clauses in
    let queue : c.ask_all.new.waiting.items ≡ s.waiting.items ++ demands ls ks = c.in_ok-ask_all.ensures ∙ (λ i. s.waiting.items ++ demands (c.as_slice.ensures i) ((c.deref-2.ensures.value ∙ sym c.deref.ensures.value) i)) in
    let falls = less p c.requires.valid context c.requires.grown s.asked.keys s.waiting.items s.listing.instances.keys c.args.demand o.clause o.place o.tuple.now.items ks (c.deref.ensures.value ∙ c.in_ok-positions.ensures) c.requires.asserted c.requires.is_new c.requires.right
    ls c.in_ok-answer.ensures.exact c.requires.completes.0 c.requires.completes.1 in
    let P : List Demand → Type 0 = λ ds. work_all b ds < work b c.args.demand.0 + work_all b s.waiting.items in
    on_ok_any c.add.result (P c.ask_all.new.waiting.items) (subst P (sym queue) falls)

pub returns-clause-heavy : goal.returns-clause-heavy
returns-clause-heavy g c =
    let p = c.args.problem.now in
    let context = g.V.View.context c.args.view.now in
    let s = c.args.state.now in
    let o = c.args.origin in
    let listed = s.listing.instances.keys in
    let ls = c.in_ok-answer.answer.literals.items in
    let ks = c.deref.result.now in
    let i : InstanceValue = record { clause = o.clause; literals = ls } in
    let P : ListError → Type 0 = λ e. e ≡ TooHeavy → list_any (same_instance i) listed ≡ false in
    let Q : ListError → Type 0 = λ e. e ≡ TooHeavy → c.args.bound < s.listing.weight + c.in_ok-answer.answer.weight in
    let R : ListError → Type 0 = λ e. e ≡ TooHeavy → (list : List InstanceValue) → Completes p context s.asked.keys (c.args.demand ∷ s.waiting.items) listed list → c.args.bound < list_weight list in
    if_err_both c.add.result P Q R (λ e lack over is list h.
    too_heavy_beside p c.requires.valid context c.requires.grown s.asked.keys s.waiting.items listed c.args.demand o.clause o.place o.tuple.now.items ks (c.deref.ensures.value ∙ c.in_ok-positions.ensures) c.requires.asserted c.requires.is_new c.requires.right
    ls c.in_ok-answer.ensures.exact c.args.bound s.listing.weight c.requires.underway.listing (lack is) (subst (λ n. c.args.bound < s.listing.weight + n) c.in_ok-answer.ensures.weight (over is)) list h)
    c.add.ensures.is_new c.add.ensures.heavy
