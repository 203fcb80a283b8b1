use Rattle.std.proofs.Common.{rules, ◌≡◌, suc, ◌+◌, ◌++◌, [], ◌∷◌, List, length, drop, ap, ◌∙◌, arith}
use Rattle.std.proofs.lemmas.List.{drop_more}
use Rattle.me_terms.specs.declared.atom.Literal.{Literal}
use Rattle.make_problem.specs.Drawn.{with_words}
use Rattle.make_problem.specs.Made.{made_literals}
use Rattle.make_problem.proofs.Drawing.{words_on, one_literal}
use Rattle.make_problem.proofs.Room.{room_left, room_for}
use Rattle.make_problem.proofs.clauses.literals.Goals as goal

pub literal-requires-clause-room : goal.literal-requires-clause-room
literal-requires-clause-room c =
    let here = ap length (drop_more c.args.words.now c.words.word-index 0 c.words-test.true) in
    room_for c.words.signature _ 1 c.words.invariant.room (omega (arith, here))

pub words-preserved : goal.words-preserved
words-preserved c =
    let words = c.args.words.now in
    let last = with_words c.args.preds c.args.signature.now words in
    let rest = drop c.words.word-index words in
    let left = drop (c.words.word-index + 1) words in
    let here = drop_more words c.words.word-index 0 c.words-test.true in
    let counted : length rest ≡ suc (length left) = ap length here in
    let count : length rest ≡ 1 + length left = omega (arith, counted) in
    let pushed : c.push.new.self.items ≡ c.words.literals.items ++ c.in_ok-literal.literal ∷ [] = search rules in
    record {
      made = ap (λ (ls : List Literal). ls ++ made_literals c.args.preds last left) pushed
          ∙ one_literal c.args.preds c.words.signature c.literal.new.signature last rest c.words.invariant.added c.words.literals.items (made_literals c.args.preds last words) c.in_ok-literal.literal _ left here c.in_ok-literal.ensures.added c.in_ok-literal.ensures.made c.words.invariant.made;
      added = words_on c.args.preds c.words.signature c.literal.new.signature last rest c.words.invariant.added (_ ∷ []) left here c.in_ok-literal.ensures.added;
      room = room_left c.args.preds c.words.signature c.literal.new.signature (_ ∷ []) (length left) (room_for c.words.signature (length rest) (1 + length left) c.words.invariant.room (omega (arith, count))) c.in_ok-literal.ensures.added;
    }
