use Rattle.std.proofs.Common.{◌≡◌, ◌↔◌, not, List, [], sym, ap, subst, ◌∙◌}
use Rattle.std.specs.List.{Contains}
use Rattle.std.specs.declared.vec.Vec.{Vec}
use Rattle.std.specs.declared.alloc.Global.{Global}
use Rattle.me_terms.specs.Terms.{AtomValue}
use Rattle.me_terms.specs.Values.{EntryValue}
use Rattle.me_terms.specs.declared.atom.Pattern.TheVariants.{Of}
use Rattle.me_unify.proofs.Forest.{if_ok_map}
use Rattle.clause_pairs.specs.declared.clause_place.ClausePlace.{ClausePlace}
use Rattle.clause_pairs.specs.Filed.{filed}
use Rattle.clause_pairs.specs.Meetings.{HasLiteralAt, IsAgainst, AddsPlaces}
use Rattle.clause_pairs.proofs.Looked.{listed_by_predicate, by_predicate_exact}
use Rattle.clause_pairs.proofs.meeting.indexed_against.Goals as goal

pub add_among-requires : goal.add_among-requires
add_among-requires c =
    let e = c.args.entry.now in
    let v = c.args.index.now in
    let a : AtomValue = c.in-Of.atom in
    let is_atom : e.atom ≡ Of a = sym (ap (λ (z : EntryValue). z.atom) c.entry.view_is) ∙ c.in-Of.is in
    let sign = ap (λ (z : EntryValue). z.positive) c.entry.view_is in
    let predicate = ap (λ (z : AtomValue). z.pred) c.atom.view_is in
    let listed : c.of_predicate-listed.result.now ≡ filed v.by_predicate a.pred (not e.positive) =
    c.of_predicate-listed.ensures ∙ (ap (λ z. filed v.by_predicate z (not c.entry.inside.positive)) predicate ∙ ap (λ z. filed v.by_predicate a.pred (not z)) sign) in
    let P : List ClausePlace → Type 0 = λ z. (q : ClausePlace) → Contains z q → HasLiteralAt c.args.problem.now q in
    subst P (sym listed) (listed_by_predicate c.args.problem.now v c.requires.index e a is_atom)

pub returns-in-None : goal.returns-in-None
returns-in-None c =
    let problem = c.args.problem.now in
    let e = c.args.entry.now in
    let v = c.args.index.now in
    let a : AtomValue = c.in-Of.atom in
    let is_atom : e.atom ≡ Of a = sym (ap (λ (z : EntryValue). z.atom) c.entry.view_is) ∙ c.in-Of.is in
    let sign = ap (λ (z : EntryValue). z.positive) c.entry.view_is in
    let predicate = ap (λ (z : AtomValue). z.pred) c.atom.view_is in
    let listed : c.of_predicate-listed.result.now ≡ filed v.by_predicate a.pred (not e.positive) =
    c.of_predicate-listed.ensures ∙ (ap (λ z. filed v.by_predicate z (not c.entry.inside.positive)) predicate ∙ ap (λ z. filed v.by_predicate a.pred (not z)) sign) in
    let P : Vec ClausePlace Global → Type 0 = λ more. AddsPlaces c.new.result.items more.items (λ q. Contains c.of_predicate-listed.result.now q × IsAgainst problem e q) in
    let Q : Vec ClausePlace Global → Type 0 = λ more. (q : ClausePlace) → Contains more.items q ↔ IsAgainst problem e q in
    if_ok_map c.add_among.result P Q (
    λ more adds. (let R : List ClausePlace → Type 0 = λ z. AddsPlaces z more.items (λ q. Contains c.of_predicate-listed.result.now q × IsAgainst problem e q) in
    let S : List ClausePlace → Type 0 = λ z. AddsPlaces [] more.items (λ q. Contains z q × IsAgainst problem e q) in
    by_predicate_exact problem v c.requires.index e a is_atom more.items (subst S listed (subst R c.new.ensures.items adds)))
    ) c.add_among.ensures
