use Rattle.std.proofs.Common.{rules, ◌≡◌, ℕ, suc, ◌+◌, ◌-◌, ◌*◌, ◌++◌, [], ◌∷◌, List, length, take, drop, sym, ap, subst, ◌∙◌, arith}
use Rattle.std.proofs.lemmas.List.{length-append, take-append-drop}
use Rattle.me_terms.specs.Values.{LabelValue, ClauseValue}
use Rattle.me_terms.specs.declared.atom.Literal.{Literal}
use Rattle.make_problem.specs.Drawn.{with_words, HasRoom}
use Rattle.make_problem.specs.Made.{made_label, made_literals, made_clauses}
use Rattle.make_problem.proofs.Drawing.{three_words, one_clause, drop_three}
use Rattle.make_problem.proofs.Room.{room_left, room_for}
use Rattle.make_problem.proofs.clauses.drawn_clauses.Goals as goal

pub literals-requires-clause-room : goal.literals-requires-clause-room
literals-requires-clause-room c =
    let rest = drop (3 * c.clauses.k) c.args.words.now in
    let n = 3 * c.clauses.k + 3 - 3 * c.clauses.k in
    let parts : length rest ≡ length (take n rest) + length (drop n rest) = ap length (sym (take-append-drop n rest)) ∙ length-append (take n rest) (drop n rest) in
    room_for c.clauses.signature (length rest) (length (take n rest)) c.clauses.invariant.room (omega (arith, parts))

pub clauses-preserved : goal.clauses-preserved
clauses-preserved c =
    let preds = c.args.preds in
    let k = c.clauses.k in
    let lt = c.clauses-test.true in
    let words = c.args.words.now in
    let last = with_words preds c.args.signature.now words in
    let rest = drop (3 * k) words in
    let new = c.literals.new.signature in
    let clause : ClauseValue = record { number = k + 1; label = c.in_ok-numbered.field-0; literals = c.in_ok-literals.field-0.items } in
    let three : 3 * k + 3 - 3 * k ≡ 3 = omega arith in
    let fewer : c.args.count - k ≡ suc (c.args.count - (k + 1)) = omega (arith, lt) in
    let pushed : c.push.new.self.items ≡ c.clauses.clauses.items ++ clause ∷ [] = search rules in
    let drawn : new ≡ with_words preds c.clauses.signature (take 3 rest) = c.in_ok-literals.ensures.added ∙ ap (λ (n : ℕ). with_words preds c.clauses.signature (take n rest)) three in
    let is_clause : clause ≡ (record { number = k + 1; label = made_label (k + 1); literals = made_literals preds new (take 3 rest) }) =
    ap (λ (l : LabelValue). (record { number = k + 1; label = l; literals = c.in_ok-literals.field-0.items })) c.in_ok-numbered.ensures
    ∙ ap (λ (ls : List Literal). (record { number = k + 1; label = made_label (k + 1); literals = ls })) (c.in_ok-literals.ensures.made ∙ ap (λ (n : ℕ). made_literals preds new (take n rest)) three) in
    record {
      made = ap (λ (cs : List ClauseValue). cs ++ made_clauses preds last (k + 1 + 1) (c.args.count - (k + 1)) (drop (3 * (k + 1)) words)) pushed
          ∙ ap (λ (ws : List ℕ). (c.clauses.clauses.items ++ clause ∷ []) ++ made_clauses preds last (k + 1 + 1) (c.args.count - (k + 1)) ws) (drop_three k words)
          ∙ one_clause preds c.clauses.signature new last rest c.clauses.invariant.added c.clauses.clauses.items (made_clauses preds last 1 c.args.count words) clause (k + 1) (c.args.count - k) (c.args.count - (k + 1)) fewer drawn is_clause c.clauses.invariant.made;
      added = ap (with_words preds new) (drop_three k words) ∙ three_words preds c.clauses.signature new last rest c.clauses.invariant.added drawn;
      room =
          let parts : length rest ≡ length (take 3 rest) + length (drop 3 rest) = ap length (sym (take-append-drop 3 rest)) ∙ length-append (take 3 rest) (drop 3 rest) in
          subst (λ (ws : List ℕ). HasRoom new (length ws)) (sym (drop_three k words)) (room_left preds c.clauses.signature new (take 3 rest) (length (drop 3 rest)) (subst (HasRoom c.clauses.signature) parts c.clauses.invariant.room) drawn);
    }
