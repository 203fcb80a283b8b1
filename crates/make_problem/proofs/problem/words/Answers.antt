use Rattle.std.proofs.Common.{rules, ◌≡◌, ℕ, suc, ◌+◌, ◌-◌, List, ◌++◌, ap, ◌∙◌, arith}
use Rattle.rand_core.specs.Steps.{first_words}
use Rattle.rand_pcg.specs.Pcg.{pcg32}
use Rattle.make_problem.specs.Made.{words_of}
use Rattle.make_problem.proofs.Words.{one_word, no_more_words}
use Rattle.make_problem.proofs.problem.words.Goals as goal

pub words-init : goal.words-init
unfolding words_of
words-init c = search rules

pub words-preserved : goal.words-preserved
words-preserved c =
    let lt = c.words-test.true in
    let count : c.args.count - c.words._word ≡ suc (c.args.count - (c.words._word + 1)) = omega (arith, lt) in
    ap (λ (xs : List ℕ). xs ++ first_words pcg32 (c.args.count - (c.words._word + 1)) c.next_word.new.self) c.in_ok-push.ensures.items
    ∙ one_word c.words.words.items (words_of c.args.seed c.args.count) (c.args.count - c.words._word) (c.args.count - (c.words._word + 1)) c.words.generator c.next_word.new.self c.next_word.result count c.next_word.ensures c.words.invariant

pub returns : goal.returns
returns c =
    let ge = c.words-test.false in
    no_more_words c.words.words.items (words_of c.args.seed c.args.count) (c.args.count - c.words._word) c.words.generator (omega (arith, ge)) c.words.invariant
