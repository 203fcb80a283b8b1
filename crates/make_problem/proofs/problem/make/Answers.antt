use Rattle.std.proofs.Common.{◌≡◌, ◌*◌, [], length, refl, sym, ap, subst, ◌∙◌, arith}
use Rattle.me_terms.specs.Values.{SignatureValue}
use Rattle.make_problem.specs.Drawn.{with_words, HasRoom}
use Rattle.make_problem.specs.Made.{words_of, made_clauses}
use Rattle.make_problem.proofs.Plainness.{words_length, drawn_constants, made_by_words, made_is_plain}
use Rattle.make_problem.proofs.problem.make.Goals as goal

pub drawn_clauses-requires-clause-words : goal.drawn_clauses-requires-clause-words
drawn_clauses-requires-clause-words c =
    ap length (c.deref.ensures.value ∙ c.in_ok-words.ensures) ∙ words_length c.args.seed (3 * c.args.clauses)

pub drawn_clauses-requires-clause-room : goal.drawn_clauses-requires-clause-room
drawn_clauses-requires-clause-room c =
    let count : length c.deref.result.now ≡ 3 * c.args.clauses = drawn_clauses-requires-clause-words c in
    let few = c.requires.clauses in
    subst (λ (s : SignatureValue). HasRoom s (length c.deref.result.now)) (sym c.new-signature.ensures) (record { functions = omega (arith, count, few); predicates = omega (arith, count, few) })

pub add_constant-requires : goal.add_constant-requires
add_constant-requires c =
    let drawn = c.in_ok-clauses.ensures.added ∙ ap (λ (s : SignatureValue). with_words c.args.preds s c.deref.result.now) c.new-signature.ensures ∙ ap (with_words c.args.preds (record { functions = []; predicates = [] })) (c.deref.ensures.value ∙ c.in_ok-words.ensures) in
    drawn_constants c.args.preds c.drawn_clauses.new.signature (words_of c.args.seed (3 * c.args.clauses)) drawn

pub returns-clause-made : goal.returns-clause-made
returns-clause-made c =
    let empty : SignatureValue = record { functions = []; predicates = [] } in
    let words_are = c.deref.ensures.value ∙ c.in_ok-words.ensures in
    let drawn = c.in_ok-clauses.ensures.added ∙ ap (λ (s : SignatureValue). with_words c.args.preds s c.deref.result.now) c.new-signature.ensures ∙ ap (with_words c.args.preds empty) words_are in
    let clauses = c.in_ok-clauses.ensures.made ∙ ap (made_clauses c.args.preds c.drawn_clauses.new.signature 1 c.args.clauses) words_are in
    made_by_words c.args.seed c.args.preds c.args.clauses c.drawn_clauses.new.signature _ drawn clauses c.in_ok-add_constant.ensures refl

pub returns-clause-plain : goal.returns-clause-plain
returns-clause-plain c =
    made_is_plain c.args.seed c.args.preds c.args.clauses _ c.requires.preds.0 c.requires.preds.1 c.requires.clauses (returns-clause-made c)

pub returns-clause-valid : goal.returns-clause-valid
returns-clause-valid c = (returns-clause-plain c).valid
