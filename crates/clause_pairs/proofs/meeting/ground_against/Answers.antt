use Rattle.std.proofs.Common.{◌≡◌, ◌↔◌, not, List, sym, ap, subst, ◌∙◌}
use Rattle.std.specs.List.{Contains}
use Rattle.std.specs.declared.vec.Vec.{Vec}
use Rattle.std.specs.declared.alloc.Global.{Global}
use Rattle.me_terms.specs.Values.{EntryValue}
use Rattle.me_unify.proofs.Forest.{if_ok_map}
use Rattle.clause_pairs.specs.declared.clause_place.ClausePlace.{ClausePlace}
use Rattle.clause_pairs.specs.Filed.{filed}
use Rattle.clause_pairs.specs.Meetings.{HasLiteralAt, IsAgainst, AddsPlaces}
use Rattle.clause_pairs.proofs.Looked.{listed_nonground, by_atom_exact}
use Rattle.clause_pairs.proofs.meeting.ground_against.Goals as goal

pub add_among-requires : goal.add_among-requires
add_among-requires c =
    let e = c.args.entry.now in
    let v = c.args.index.now in
    let a = c.requires.atom in
    let sign = ap (λ (z : EntryValue). z.positive) c.entry.view_is in
    let listed : c.nonground_of.result.now ≡ filed v.nonground a.0.pred (not e.positive) =
    c.nonground_of.ensures ∙ (ap (λ z. filed v.nonground z (not c.entry.inside.positive)) (sym a.2) ∙ ap (λ z. filed v.nonground a.0.pred (not z)) sign) in
    let P : List ClausePlace → Type 0 = λ z. (q : ClausePlace) → Contains z q → HasLiteralAt c.args.problem.now q in
    subst P (sym listed) (listed_nonground c.args.problem.now v c.requires.index e a.0 a.1)

pub returns : goal.returns
returns c =
    let problem = c.args.problem.now in
    let e = c.args.entry.now in
    let v = c.args.index.now in
    let a = c.requires.atom in
    let sign = ap (λ (z : EntryValue). z.positive) c.entry.view_is in
    let listed : c.nonground_of.result.now ≡ filed v.nonground a.0.pred (not e.positive) =
    c.nonground_of.ensures ∙ (ap (λ z. filed v.nonground z (not c.entry.inside.positive)) (sym a.2) ∙ ap (λ z. filed v.nonground a.0.pred (not z)) sign) in
    let before = c.in_ok-places.places.items in
    let same_atom : before ≡ filed v.by_atom c.args.number (not e.positive) =
    c.in_ok-places.ensures.items ∙ (c.of_atom.ensures ∙ ap (λ z. filed v.by_atom c.args.number (not z)) sign) in
    let P : Vec ClausePlace Global → Type 0 = λ more. AddsPlaces before more.items (λ q. Contains c.nonground_of.result.now q × IsAgainst problem e q) in
    let Q : Vec ClausePlace Global → Type 0 = λ more. (q : ClausePlace) → Contains more.items q ↔ IsAgainst problem e q in
    if_ok_map c.add_among.result P Q (
    λ more adds. (let R : List ClausePlace → Type 0 = λ z. AddsPlaces before more.items (λ q. Contains z q × IsAgainst problem e q) in
    by_atom_exact problem v c.requires.index e a.0 a.1 c.args.number a.3 before more.items same_atom (subst R listed adds))
    ) c.add_among.ensures
