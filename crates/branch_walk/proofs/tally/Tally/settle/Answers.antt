use Rattle.std.proofs.Common.{◌≡◌, ◌++◌, ◌∷◌, [], Some, sym, ◌∙◌, arith}
use Rattle.branch_walk.proofs.Tallied.{settled, settled_cut, none_settled, none_settled_cut, when_ok}
use Rattle.branch_walk.proofs.tally.Tally.settle.Goals as goal

pub returns-in-Some-clause-pieces : goal.returns-in-Some-clause-pieces
returns-in-Some-clause-pieces c n leaves h =
    let old = c.args.self.now in
    let was : old.last ≡ Some c.in-Some.part = sym c.take.ensures.value ∙ c.in-Some.is in
    let pushed : c.push.new.self.items ≡ old.parts.items ++ c.in-Some.part ∷ [] = when_ok c.push.result _ c.push.ensures.ok (c.push.ensures.room (omega (arith, c.requires.room))).0 in
    settled n old c.push.new.self.items c.in-Some.part was pushed leaves h

pub returns-in-Some-clause-cut : goal.returns-in-Some-clause-cut
returns-in-Some-clause-cut c key apart may other_than =
    let old = c.args.self.now in
    let was : old.last ≡ Some c.in-Some.part = sym c.take.ensures.value ∙ c.in-Some.is in
    let pushed : c.push.new.self.items ≡ old.parts.items ++ c.in-Some.part ∷ [] = when_ok c.push.result _ c.push.ensures.ok (c.push.ensures.room (omega (arith, c.requires.room))).0 in
    settled_cut old c.push.new.self.items c.in-Some.part key was pushed apart may other_than

pub returns-in_default-clause-pieces : goal.returns-in_default-clause-pieces
returns-in_default-clause-pieces c n leaves h = none_settled n c.args.self.now (sym c.take.ensures.value ∙ c.in_default.is) leaves h

pub returns-in_default-clause-cut : goal.returns-in_default-clause-cut
returns-in_default-clause-cut c key apart may other_than = none_settled_cut c.args.self.now key (sym c.take.ensures.value ∙ c.in_default.is) apart
