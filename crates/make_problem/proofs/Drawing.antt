-- One more word, and three more.
use Rattle.std.proofs.Common.{◌≡◌, ℕ, suc, ◌+◌, ◌*◌, arith, List, [], ◌∷◌, ◌++◌, take, drop, sym, ap, ◌∙◌, append_assoc}
use Rattle.std.proofs.lemmas.List.{drop-drop, take-append-drop}
use Rattle.me_terms.specs.Values.{SignatureValue, ClauseValue}
use Rattle.me_terms.specs.declared.atom.Literal.{Literal}
use Rattle.make_problem.specs.Made.{literal_of, made_literals, made_label, made_clauses}
use Rattle.make_problem.specs.Drawn.{with_words}
use Rattle.make_problem.proofs.Standing.{words-append, literals_settled}

module _ (preds : ℕ) (s new last : SignatureValue) (rest : List ℕ) (known : with_words preds s rest ≡ last) where
  -- some of the words that are left, and those behind them
  pub words_on : (xs ys : List ℕ) → rest ≡ xs ++ ys → new ≡ with_words preds s xs → with_words preds new ys ≡ last
  words_on xs ys parts is = ap (λ (z : SignatureValue). with_words preds z ys) is ∙ sym (words-append preds s xs ys) ∙ ap (with_words preds s) (sym parts) ∙ known

  settled : (xs ys : List ℕ) → rest ≡ xs ++ ys → new ≡ with_words preds s xs → made_literals preds new xs ≡ made_literals preds last xs
  settled xs ys parts is = ap (λ (z : SignatureValue). made_literals preds z xs) is ∙ literals_settled preds s last xs ys (ap (with_words preds s) (sym parts) ∙ known)

  pub one_literal : (items all : List Literal) (l : Literal) (w : ℕ) (ys : List ℕ) → rest ≡ w ∷ ys → new ≡ with_words preds s (w ∷ []) → l ≡ literal_of preds new w → items ++ made_literals preds last rest ≡ all → (items ++ l ∷ []) ++ made_literals preds last ys ≡ all
  one_literal items all l w ys parts is made before =
      append_assoc items (l ∷ []) (made_literals preds last ys)
      ∙ ap (λ (x : Literal). items ++ x ∷ made_literals preds last ys) made
      ∙ ap (λ (x : List Literal). items ++ (x ++ made_literals preds last ys)) (settled (w ∷ []) ys parts is)
      ∙ ap (λ (x : List ℕ). items ++ made_literals preds last x) (sym parts)
      ∙ before

  pub one_clause : (items all : List ClauseValue) (c : ClauseValue) (n more fewer : ℕ) → more ≡ suc fewer → new ≡ with_words preds s (take 3 rest) → c ≡ (record { number = n; label = made_label n; literals = made_literals preds new (take 3 rest) }) → items ++ made_clauses preds last n more rest ≡ all → (items ++ c ∷ []) ++ made_clauses preds last (n + 1) fewer (drop 3 rest) ≡ all
  one_clause items all c n more fewer count is made before =
      append_assoc items (c ∷ []) (made_clauses preds last (n + 1) fewer (drop 3 rest))
      ∙ ap (λ (x : ClauseValue). items ++ x ∷ made_clauses preds last (n + 1) fewer (drop 3 rest)) made
      ∙ ap (λ (x : List Literal). items ++ (record { number = n; label = made_label n; literals = x }) ∷ made_clauses preds last (n + 1) fewer (drop 3 rest)) (settled (take 3 rest) (drop 3 rest) (sym (take-append-drop 3 rest)) is)
      ∙ ap (λ (x : ℕ). items ++ made_clauses preds last n x rest) (sym count)
      ∙ before

  pub three_words : new ≡ with_words preds s (take 3 rest) → with_words preds new (drop 3 rest) ≡ last
  three_words is = words_on (take 3 rest) (drop 3 rest) (sym (take-append-drop 3 rest)) is

-- the words of further clauses
pub drop_three : (k : ℕ) (words : List ℕ) → drop (3 * (k + 1)) words ≡ drop 3 (drop (3 * k) words)
drop_three k words = let sum : 3 * (k + 1) ≡ 3 * k + 3 = omega arith in ap (λ (n : ℕ). drop n words) sum ∙ sym (drop-drop 3 (3 * k) words)
