use Rattle.std.proofs.Common.{◌≡◌, ◌≤◌, true, false, [], ◌∷◌, ◌++◌, length, length-append, append_assoc, sym, subst, ap, ◌∙◌, arith}
use Rattle.me_terms.specs.Context.{Context}
use Rattle.me_terms.specs.Grown.{IsGrown, went_left}
use Rattle.branch_core.specs.Hooks.{History}
use Rattle.branch_core.specs.Paths.{Turns}
use Rattle.branch_walk.specs.Jobs.{IsJob, turns_taken}
use Rattle.branch_walk.specs.Tallies.{IsTally, TakesOwnLeaf}
use Rattle.branch_walk.specs.Walks.{HasWalkedLeft, IsBeside}
use Rattle.branch_walk.specs.declared.tally.Tally.{Tally}
use Rattle.branch_walk.proofs.Descents.{lifted}
use Rattle.branch_walk.proofs.Spines.{given_deeper, right_given}
use Rattle.branch_walk.proofs.TurnsTaken.{turns_left}
use Rattle.branch_walk.proofs.turning.Search.+spine.Goals as goal

pub give_right-away-requires-clause-hook : goal.give_right-away-requires-clause-hook
give_right-away-requires-clause-hook g t c = λ work job is.
    let problem = c.args.self.now.problem.now in
    let bounds = c.args.self.now.bounds.now in
    let context = c.args.branch.now.context in
    let e = c.in_default.ensures in
    let told = e.ended.0 in
    let node = e.ended.1 in
    let leads = e.ended.3 in
    let split = e.ended.4 in
    let same = e.ended.5 in
    let below = e.ended.6 in
    let path_is = leads.turns ∙ c.requires.job.turns in
    let right = c.right_path-right.result in
    let right_is : right ≡ c.args.path ++ true ∷ [] = c.right_path-right.ensures in
    let number = c.turn_count.ensures in
    let many = ap (λ (t : Turns). length t) right_is in
    let more = length-append c.args.path (true ∷ []) in
    let few : length right ≤ c.args.share = omega (arith, number, many, more, c.from.ensures, c.if-from-share.false) in
    (c.to_split.ensures.condition right work).0 (c.requires.hook.takes right work (right_given c.args.share c.args.path right right_is few) job is)

pub give_right-away-requires-clause-beside : goal.give_right-away-requires-clause-beside
give_right-away-requires-clause-beside g t c =
    let problem = c.args.self.now.problem.now in
    let bounds = c.args.self.now.bounds.now in
    let context = c.args.branch.now.context in
    let e = c.in_default.ensures in
    let told = e.ended.0 in
    let node = e.ended.1 in
    let leads = e.ended.3 in
    let split = e.ended.4 in
    let same = e.ended.5 in
    let below = e.ended.6 in
    let path_is = leads.turns ∙ c.requires.job.turns in
    let right = c.right_path-right.result in
    let right_is : right ≡ c.args.path ++ true ∷ [] = c.right_path-right.ensures in
    let number = c.turn_count.ensures in
    let many = ap (λ (t : Turns). length t) right_is in
    let more = length-append c.args.path (true ∷ []) in
    let few : length right ≤ c.args.share = omega (arith, number, many, more, c.from.ensures, c.if-from-share.false) in
    let B : Context → Type 0 = λ z. IsBeside problem bounds right z in
    subst B (sym c.trunk.ensures) (record { node = node; grown = leads.grown; split = split; right_is = right_is ∙ ap (λ (t : Turns). t ++ true ∷ []) (sym path_is) })

pub spine-state-requires : goal.spine-state-requires
spine-state-requires g t c κs within =
    let problem = c.args.self.now.problem.now in
    let bounds = c.args.self.now.bounds.now in
    let context = c.args.branch.now.context in
    let e = c.in_default.ensures in
    let told = e.ended.0 in
    let node = e.ended.1 in
    let leads = e.ended.3 in
    let split = e.ended.4 in
    let same = e.ended.5 in
    let below = e.ended.6 in
    let path_is = leads.turns ∙ c.requires.job.turns in
    let right = c.right_path-right.result in
    let right_is : right ≡ c.args.path ++ true ∷ [] = c.right_path-right.ensures in
    let number = c.turn_count.ensures in
    let many = ap (λ (t : Turns). length t) right_is in
    let more = length-append c.args.path (true ∷ []) in
    let few : length right ≤ c.args.share = omega (arith, number, many, more, c.from.ensures, c.if-from-share.false) in
    let left = c.left_path-left.result in
    let left_is : left ≡ c.args.path ++ false ∷ [] = c.left_path-left.ensures in
    let long = ap (λ (t : Turns). length t) left_is in
    let one_more = length-append c.args.path (false ∷ []) in
    let G : Context → Type 0 = λ x. IsGrown problem bounds x in
    let O : Tally → Type 0 = λ t. TakesOwnLeaf t in
    let T : Tally → Type 0 = λ t. IsTally bounds.list t c.requires.kept.0 in
    let room = c.requires.room in
    let spare = ap (λ (t : Tally). t.parts.spare) same in
    let job : IsJob problem bounds left (c.to_split.new.branch.context) = record {
      grown = subst G (sym split.is) (went_left leads.grown split.next);
      turns = ap turns_taken split.is ∙ (turns_left node split.l split.kind ∙ (ap (λ (t : Turns). t ++ false ∷ []) path_is ∙ sym left_is));
    } in (
      omega (arith, c.decreases, number, long, one_more, c.from.ensures, c.if-from-share.false),
      (
        within.0,
        (
          within.1,
          (
            c.requires.valid,
            (
              c.requires.bounds,
              (
                c.requires.share,
                (
                  c.to_split.ensures.of,
                  (
                    job,
                    (
                      subst O (sym same) c.requires.open,
                      (
                        (c.requires.kept.0, subst T (sym same) c.requires.kept.1),
                        (
                          omega (arith, number, long, one_more, c.from.ensures, c.if-from-share.false, room, spare),
                          record { takes = λ gift work may is_job is. (c.give_right-away.ensures.condition gift work).0 ((c.to_split.ensures.condition gift work).0 (c.requires.hook.takes gift work (given_deeper c.args.share c.args.path left gift left_is may) is_job is)) },
                        ),
                      ),
                    ),
                  ),
                ),
              ),
            ),
          ),
        ),
      ),
    )

pub after_left-requires-clause-kept : goal.after_left-requires-clause-kept
after_left-requires-clause-kept g t c =
    let problem = c.args.self.now.problem.now in
    let bounds = c.args.self.now.bounds.now in
    let context = c.args.branch.now.context in
    let e = c.in_default.ensures in
    let told = e.ended.0 in
    let node = e.ended.1 in
    let leads = e.ended.3 in
    let split = e.ended.4 in
    let same = e.ended.5 in
    let below = e.ended.6 in
    let path_is = leads.turns ∙ c.requires.job.turns in
    let right = c.right_path-right.result in
    let right_is : right ≡ c.args.path ++ true ∷ [] = c.right_path-right.ensures in
    let number = c.turn_count.ensures in
    let many = ap (λ (t : Turns). length t) right_is in
    let more = length-append c.args.path (true ∷ []) in
    let few : length right ≤ c.args.share = omega (arith, number, many, more, c.from.ensures, c.if-from-share.false) in
    let T : Tally → Type 0 = λ t. IsTally bounds.list t c.requires.kept.0 in
    (_, c.spine-state.ensures.walked.tally c.requires.kept.0 (subst T (sym same) c.requires.kept.1))

pub after_left-requires-clause-room : goal.after_left-requires-clause-room
after_left-requires-clause-room g t c =
    let problem = c.args.self.now.problem.now in
    let bounds = c.args.self.now.bounds.now in
    let context = c.args.branch.now.context in
    let e = c.in_default.ensures in
    let told = e.ended.0 in
    let node = e.ended.1 in
    let leads = e.ended.3 in
    let split = e.ended.4 in
    let same = e.ended.5 in
    let below = e.ended.6 in
    let path_is = leads.turns ∙ c.requires.job.turns in
    let right = c.right_path-right.result in
    let right_is : right ≡ c.args.path ++ true ∷ [] = c.right_path-right.ensures in
    let number = c.turn_count.ensures in
    let many = ap (λ (t : Turns). length t) right_is in
    let more = length-append c.args.path (true ∷ []) in
    let few : length right ≤ c.args.share = omega (arith, number, many, more, c.from.ensures, c.if-from-share.false) in
    let left_is : c.left_path-left.result ≡ c.args.path ++ false ∷ [] = c.left_path-left.ensures in
    let long = ap (λ (t : Turns). length t) left_is in
    let one_more = length-append c.args.path (false ∷ []) in
    let room = c.requires.room in
    let spare = ap (λ (t : Tally). t.parts.spare) same in
    let pushed = c.spine-state.ensures.pushes.room in
    omega (arith, number, long, one_more, c.from.ensures, c.if-from-share.false, room, spare, pushed)

pub after_left-requires-clause-left : goal.after_left-requires-clause-left
after_left-requires-clause-left g t c =
    let problem = c.args.self.now.problem.now in
    let bounds = c.args.self.now.bounds.now in
    let context = c.args.branch.now.context in
    let e = c.in_default.ensures in
    let told = e.ended.0 in
    let node = e.ended.1 in
    let leads = e.ended.3 in
    let split = e.ended.4 in
    let same = e.ended.5 in
    let below = e.ended.6 in
    let path_is = leads.turns ∙ c.requires.job.turns in
    let right = c.right_path-right.result in
    let right_is : right ≡ c.args.path ++ true ∷ [] = c.right_path-right.ensures in
    let number = c.turn_count.ensures in
    let many = ap (λ (t : Turns). length t) right_is in
    let more = length-append c.args.path (true ∷ []) in
    let few : length right ≤ c.args.share = omega (arith, number, many, more, c.from.ensures, c.if-from-share.false) in
    let first : History = g.H.Hook.history c.args.hook.now in
    let start : History = g.H.Hook.history c.to_split.new.hook in
    let given : History = g.H.Hook.history c.give_right-away.new.hook in
    let left_now : History = g.H.Hook.history c.spine-state.new.hook in
    let gift = c.give_right-away.ensures in
    let hl : HasWalkedLeft problem bounds c.args.share c.give_right-away.result right c.len-base.result c.spine-state.result (c.spine-state.new.branch.context) node start left_now c.to_split.new.tally c.spine-state.new.tally = record {
      left = c.to_split.new.branch.context;
      history = given;
      grown = leads.grown;
      split = split;
      right_is = right_is ∙ ap (λ (t : Turns). t ++ true ∷ []) (sym path_is);
      few = few;
      at_base = sym c.len-base.ensures.number;
      went = gift.went;
      stands = c.spine-state.ensures.stands;
      walked = c.spine-state.ensures.walked;
    } in
    (c.args.share, node, start, c.to_split.new.tally, hl)

pub returns-clause-walked : goal.returns-clause-walked
returns-clause-walked g t c =
    let problem = c.args.self.now.problem.now in
    let bounds = c.args.self.now.bounds.now in
    let context = c.args.branch.now.context in
    let e = c.in_default.ensures in
    let told = e.ended.0 in
    let node = e.ended.1 in
    let leads = e.ended.3 in
    let split = e.ended.4 in
    let same = e.ended.5 in
    let below = e.ended.6 in
    let path_is = leads.turns ∙ c.requires.job.turns in
    let right = c.right_path-right.result in
    let right_is : right ≡ c.args.path ++ true ∷ [] = c.right_path-right.ensures in
    let number = c.turn_count.ensures in
    let many = ap (λ (t : Turns). length t) right_is in
    let more = length-append c.args.path (true ∷ []) in
    let few : length right ≤ c.args.share = omega (arith, number, many, more, c.from.ensures, c.if-from-share.false) in
    let first : History = g.H.Hook.history c.args.hook.now in
    let start : History = g.H.Hook.history c.to_split.new.hook in
    let given : History = g.H.Hook.history c.give_right-away.new.hook in
    let left_now : History = g.H.Hook.history c.spine-state.new.hook in
    let gift = c.give_right-away.ensures in
    let hl : HasWalkedLeft problem bounds c.args.share c.give_right-away.result right c.len-base.result c.spine-state.result (c.spine-state.new.branch.context) node start left_now c.to_split.new.tally c.spine-state.new.tally = record {
      left = c.to_split.new.branch.context;
      history = given;
      grown = leads.grown;
      split = split;
      right_is = right_is ∙ ap (λ (t : Turns). t ++ true ∷ []) (sym path_is);
      few = few;
      at_base = sym c.len-base.ensures.number;
      went = gift.went;
      stands = c.spine-state.ensures.stands;
      walked = c.spine-state.ensures.walked;
    } in
    let now : History = g.H.Hook.history c.after_left.new.hook in
    let done = c.after_left.ensures.walked c.args.share node start c.to_split.new.tally hl in
    lifted problem bounds context node first start now c.args.tally.now c.to_split.new.tally c.after_left.new.tally c.after_left.result c.args.share told leads e.ended.2 same done.0

pub returns-clause-stands : goal.returns-clause-stands
returns-clause-stands g t c = λ going.
    let problem = c.args.self.now.problem.now in
    let bounds = c.args.self.now.bounds.now in
    let context = c.args.branch.now.context in
    let e = c.in_default.ensures in
    let told = e.ended.0 in
    let node = e.ended.1 in
    let leads = e.ended.3 in
    let split = e.ended.4 in
    let same = e.ended.5 in
    let below = e.ended.6 in
    let path_is = leads.turns ∙ c.requires.job.turns in
    let right = c.right_path-right.result in
    let right_is : right ≡ c.args.path ++ true ∷ [] = c.right_path-right.ensures in
    let number = c.turn_count.ensures in
    let many = ap (λ (t : Turns). length t) right_is in
    let more = length-append c.args.path (true ∷ []) in
    let few : length right ≤ c.args.share = omega (arith, number, many, more, c.from.ensures, c.if-from-share.false) in
    let first : History = g.H.Hook.history c.args.hook.now in
    let start : History = g.H.Hook.history c.to_split.new.hook in
    let given : History = g.H.Hook.history c.give_right-away.new.hook in
    let left_now : History = g.H.Hook.history c.spine-state.new.hook in
    let gift = c.give_right-away.ensures in
    let hl : HasWalkedLeft problem bounds c.args.share c.give_right-away.result right c.len-base.result c.spine-state.result (c.spine-state.new.branch.context) node start left_now c.to_split.new.tally c.spine-state.new.tally = record {
      left = c.to_split.new.branch.context;
      history = given;
      grown = leads.grown;
      split = split;
      right_is = right_is ∙ ap (λ (t : Turns). t ++ true ∷ []) (sym path_is);
      few = few;
      at_base = sym c.len-base.ensures.number;
      went = gift.went;
      stands = c.spine-state.ensures.stands;
      walked = c.spine-state.ensures.walked;
    } in
    let done = c.after_left.ensures.walked c.args.share node start c.to_split.new.tally hl in
    let there = done.1 going in
    (below.0 ++ there.0, there.1 ∙ (ap (λ (x : Context). x ++ there.0) below.1 ∙ append_assoc context below.0 there.0))

pub returns-clause-pushes : goal.returns-clause-pushes
returns-clause-pushes g t c =
    let problem = c.args.self.now.problem.now in
    let bounds = c.args.self.now.bounds.now in
    let context = c.args.branch.now.context in
    let e = c.in_default.ensures in
    let told = e.ended.0 in
    let node = e.ended.1 in
    let leads = e.ended.3 in
    let split = e.ended.4 in
    let same = e.ended.5 in
    let below = e.ended.6 in
    let path_is = leads.turns ∙ c.requires.job.turns in
    let right = c.right_path-right.result in
    let right_is : right ≡ c.args.path ++ true ∷ [] = c.right_path-right.ensures in
    let number = c.turn_count.ensures in
    let many = ap (λ (t : Turns). length t) right_is in
    let more = length-append c.args.path (true ∷ []) in
    let few : length right ≤ c.args.share = omega (arith, number, many, more, c.from.ensures, c.if-from-share.false) in
    let left_is : c.left_path-left.result ≡ c.args.path ++ false ∷ [] = c.left_path-left.ensures in
    let long = ap (λ (t : Turns). length t) left_is in
    let one_more = length-append c.args.path (false ∷ []) in
    let spare = ap (λ (t : Tally). t.parts.spare) same in
    let count = ap (λ (t : Tally). length t.parts.items) same in
    let f = c.spine-state.ensures.pushes.few in
    let r = c.spine-state.ensures.pushes.room in
    let f' = c.after_left.ensures.pushes.few in
    let r' = c.after_left.ensures.pushes.room in
    record {
      few = omega (arith, number, long, one_more, c.from.ensures, c.if-from-share.false, count, f, f');
      room = omega (arith, number, long, one_more, c.from.ensures, c.if-from-share.false, spare, r, r');
    }

pub returns-clause-quiet : goal.returns-clause-quiet
returns-clause-quiet g t c = λ le unheard.
    let number = c.turn_count.ensures in
    absurd (omega (arith, le, number, c.from.ensures, c.if-from-share.false))
