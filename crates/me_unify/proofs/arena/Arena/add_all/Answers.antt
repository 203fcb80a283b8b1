use Rattle.std.proofs.Common.{rules, arith, ℕ, List, [], length, map, refl, ap, sym, subst, ◌∙◌}
use Rattle.std.specs.List.{All}
use Rattle.std.proofs.lemmas.List.Elements.{All-push}
use Rattle.std.proofs.lemmas.Option.{slice_get_within}
use Rattle.me_terms.specs.TermViews.{term_value}
use Rattle.me_terms.specs.Terms.{arguments_of}
use Rattle.me_terms.specs.Terms as tree
use Rattle.me_terms.specs.Substitutions.{apply_term}
use Rattle.me_unify.specs.declared.arena.Adding.{Adding}
use Rattle.me_unify.specs.declared.node.Node.TheVariants.{Var, App}
use Rattle.me_unify.proofs.Made.{fits_less, grown_twice, within_push}
use Rattle.me_unify.proofs.Frames.{AreWithin, written_next, written_opened, written_closed, written_all, opened_less, closed_less, map_end, nothing_left, parts_of}
use Rattle.me_unify.proofs.Filling.{list_is}
use Rattle.me_unify.proofs.Adding.{opened, size_of, IsWithin, above_grown, made_end}
use Rattle.me_unify.proofs.arena.Arena.add_all.Goals as goal

pub terms-smaller-in-App : goal.terms-smaller-in-App
terms-smaller-in-App c =
    let frame : Adding = record { f = c.in-App.f; made = c.terms.made; rest = c.in-Some.others } in
    let list = list_is c.terms.rest.now c.in-Some.others.now c.as_slice-rest-in-App.result.now c.in-Some.first.now c.in-App.f c.in-App.args c.in-Some.ensures.cases.0 c.in-App.is c.as_slice-rest-in-App.ensures in
    opened_less (map size_of c.terms.above.items) (map size_of c.push-in-App.new.self.items) (size_of frame) (map term_value c.terms.rest.now) (map term_value c.as_slice-rest-in-App.result.now) c.in-App.f
    list (map_end size_of c.terms.above.items c.push-in-App.new.self.items frame c.in_ok-push-in-App.ensures.items)

pub terms-smaller : goal.terms-smaller
terms-smaller c =
    closed_less (map size_of c.terms.above.items) (map size_of c.pop.new.self.items) (size_of c.in-Some-pop.frame) _ (map_end size_of c.pop.new.self.items c.terms.above.items c.in-Some-pop.frame c.in-Some-pop.ensures.items)

pub terms-preserved-in-Var : goal.terms-preserved-in-Var
terms-preserved-in-Var c =
    let old = c.terms.self.nodes in
    let new = c.var.new.self.nodes in
    let x = c.in_ok-node-in-Var.node in
    let at = c.in_ok-node-in-Var.ensures.at in
    record {
      arena = c.var.ensures.arena;
      grown = grown_twice c.args.self.now.nodes old new c.terms.invariant.grown c.var.ensures.grown;
      within = within_push old new c.terms.made.items c.push.new.self.items x c.var.ensures.grown c.in_ok-push-in-Var.ensures.items c.terms.invariant.within (slice_get_within new x (Var c.args.space c.in-Var.x) at);
      within_above = above_grown old new c.terms.above.items c.var.ensures.grown c.terms.invariant.within_above;
      made = λ t h fits. written_next (t c.args.space) (map (opened h) c.terms.above.items) (map h c.terms.made.items) (map h c.push.new.self.items) (map term_value c.terms.rest.now) (map term_value c.in-Some.others.now) _ (term_value c.in-Some.first.now) (h x)
          (ap (map term_value) c.in-Some.ensures.cases.0) (map_end h c.terms.made.items c.push.new.self.items x c.in_ok-push-in-Var.ensures.items)
          (fits x (Var c.args.space c.in-Var.x) at ∙ ap (λ u. apply_term (t c.args.space) (term_value u)) (sym c.in-Var.is))
          (c.terms.invariant.made t h (fits_less old new t h c.var.ensures.grown fits));
      froms = c.var.ensures.froms ∙ c.terms.invariant.froms;
      tos = c.var.ensures.tos ∙ c.terms.invariant.tos;
    }

pub terms-preserved-in-App : goal.terms-preserved-in-App
terms-preserved-in-App c =
    let frame : Adding = record { f = c.in-App.f; made = c.terms.made; rest = c.in-Some.others } in
    let list = list_is c.terms.rest.now c.in-Some.others.now c.as_slice-rest-in-App.result.now c.in-Some.first.now c.in-App.f c.in-App.args c.in-Some.ensures.cases.0 c.in-App.is c.as_slice-rest-in-App.ensures in
    let P : List ℕ → Type 0 = λ xs. AreWithin (length c.terms.self.nodes) xs in
    let Q : List Adding → Type 0 = λ frs. All (IsWithin (length c.terms.self.nodes)) frs in
    let none : AreWithin (length c.terms.self.nodes) [] = λ i lt. absurd (omega (arith, lt)) in
    record {
      arena = c.terms.invariant.arena;
      grown = c.terms.invariant.grown;
      within = subst P (sym c.in_ok-made-in-App.ensures.items) none;
      within_above = subst Q (sym c.in_ok-push-in-App.ensures.items) (All-push (IsWithin (length c.terms.self.nodes)) c.terms.above.items frame c.terms.invariant.within_above c.terms.invariant.within);
      made = λ t h fits. written_opened (t c.args.space) (map (opened h) c.terms.above.items) (map (opened h) c.push-in-App.new.self.items) (opened h frame) (map h c.in_ok-made-in-App.made.items) (map h c.terms.made.items) (map term_value c.terms.rest.now) (map term_value c.as_slice-rest-in-App.result.now) _ c.in-App.f
          list (map_end (opened h) c.terms.above.items c.push-in-App.new.self.items frame c.in_ok-push-in-App.ensures.items) refl refl (ap (map h) c.in_ok-made-in-App.ensures.items) (c.terms.invariant.made t h fits);
      froms = c.terms.invariant.froms;
      tos = c.terms.invariant.tos;
    }

pub terms-preserved : goal.terms-preserved
terms-preserved c =
    let old = c.terms.self.nodes in
    let new = c.push-in_default.new.self.nodes in
    let frame = c.in-Some-pop.frame in
    let x = c.in_ok-node.node in
    let at = c.in_ok-node.ensures.at in
    let grown = c.push-in_default.ensures.grown in
    let parts = parts_of (IsWithin (length old)) c.terms.above.items c.pop.new.self.items frame c.in-Some-pop.ensures.items c.terms.invariant.within_above in
    record {
      arena = c.push-in_default.ensures.arena;
      grown = grown_twice c.args.self.now.nodes old new c.terms.invariant.grown grown;
      within = within_push old new frame.made.items c.push-in_default-2.new.self.items x grown c.in_ok-push.ensures.items parts.1 (slice_get_within new x (App frame.f c.terms.made) at);
      within_above = above_grown old new c.pop.new.self.items grown parts.0;
      made = λ t h fits. written_closed (t c.args.space) (map (opened h) c.terms.above.items) (map (opened h) c.pop.new.self.items) (opened h frame) (map h c.terms.made.items) (map h c.push-in_default-2.new.self.items) (map term_value c.terms.rest.now) _
          (nothing_left term_value c.terms.rest.now (search rules)) (map_end (opened h) c.pop.new.self.items c.terms.above.items frame c.in-Some-pop.ensures.items)
          (made_end h frame.made.items c.push-in_default-2.new.self.items x (tree.App frame.f (arguments_of (map h c.terms.made.items))) c.in_ok-push.ensures.items (fits x (App frame.f c.terms.made) at))
          (c.terms.invariant.made t h (fits_less old new t h grown fits));
      froms = c.push-in_default.ensures.froms ∙ c.terms.invariant.froms;
      tos = c.push-in_default.ensures.tos ∙ c.terms.invariant.tos;
    }

pub returns-in_default-pop-clause-made : goal.returns-in_default-pop-clause-made
returns-in_default-pop-clause-made c t h fits =
    written_all (t c.args.space) (map (opened h) c.terms.above.items) (map h c.terms.made.items) (map term_value c.terms.rest.now) c.args.terms.now.items
    (nothing_left (opened h) c.terms.above.items (search rules)) (nothing_left term_value c.terms.rest.now (search rules)) (c.terms.invariant.made t h fits)
