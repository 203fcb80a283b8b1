-- Nodes are those of only one list of terms, and are read from their end up to it.
use Rattle.std.proofs.Common.{◌≡◌, ◌<◌, ◌≤◌, ◌+◌, ◌-◌, ℕ, zero, suc, List, [], ◌∷◌, ◌++◌, length, take, drop, refl, sym, ap, subst, ◌∙◌, append_assoc, arith}
use Rattle.std.proofs.lemmas.List.{append-nil}
use Rattle.std.specs.Prelude.{Some, None, slice_index_or}
use Rattle.me_terms.specs.Sequences.{SequenceValue}
use Rattle.me_terms.specs.Terms.{TermValue, Var, App, Arguments, Nil, Cons, arguments_of}
use Rattle.me_terms.specs.Variables.{count}
use Rattle.szs_read.specs.Finds.{FindsTerms}
use Rattle.szs_read.specs.Rows.{term_nodes, nodes_of, TakesMore}
use Rattle.szs_read.specs.declared.number.Node.{Node}
use Rattle.szs_read.specs.declared.number.Node.TheVariants.{Variable, Function}
use Rattle.szs_read.proofs.Nodes.{count_is}

-- how many terms are left where nodes are read from their end
abbrev left_terms : List Node → ℕ
left_terms [] = 0
left_terms (Variable x ∷ nodes) = suc (left_terms nodes)
left_terms (Function f n ∷ nodes) = suc (left_terms nodes - n)

-- no function takes more terms than are left behind it
abbrev AllFit : List Node → Type 0
AllFit [] = Unit {0}
AllFit (Variable x ∷ nodes) = AllFit nodes
AllFit (Function f n ∷ nodes) = (n ≤ left_terms nodes) × AllFit nodes

record Fit (nodes : List Node) (n : ℕ) : Type 0 where
  all : AllFit nodes
  left : left_terms nodes ≡ n

fit_as : (nodes : List Node) (m n : ℕ) → m ≡ n → Fit nodes m → Fit nodes n
fit_as nodes m n e h = subst (Fit nodes) e h

mutual
  term_fits : (t : TermValue) (more : List Node) (n : ℕ) → Fit more n → Fit (term_nodes t ++ more) (suc n)
  term_fits (Var x) more n h = record { all = h.all; left = ap suc h.left }
  term_fits (App f ts) more n h =
      let k = terms_fit ts more n h in
      record { all = (omega (arith, k.left), k.all); left = omega (arith, k.left) }

  terms_fit : (ts : Arguments) (more : List Node) (n : ℕ) → Fit more n → Fit (nodes_of ts ++ more) (count ts + n)
  terms_fit Nil more n h = fit_as more n (0 + n) (omega arith) h
  terms_fit (Cons t ts) more n h =
      subst (λ (v : List Node). Fit v (1 + count ts + n)) (sym (append_assoc (term_nodes t) (nodes_of ts) more))
      (fit_as (term_nodes t ++ (nodes_of ts ++ more)) (suc (count ts + n)) (1 + count ts + n) (omega arith) (term_fits t (nodes_of ts ++ more) (count ts + n) (terms_fit ts more n h)))

all_fit : (ts : Arguments) → Fit (nodes_of ts) (count ts)
all_fit ts =
    subst (λ (v : List Node). Fit v (count ts)) (append-nil (nodes_of ts))
    (fit_as (nodes_of ts ++ []) (count ts + 0) (count ts) (omega arith) (terms_fit ts [] 0 (record { all = tt; left = refl })))

fit_behind : (xs ys : List Node) → AllFit (xs ++ ys) → AllFit ys
fit_behind [] ys h = h
fit_behind (Variable x ∷ xs) ys h = fit_behind xs ys h
fit_behind (Function f n ∷ xs) ys h = fit_behind xs ys h.1

-- ---- only one list of terms

mutual
  one_term : (t u : TermValue) (xs ys : List Node) → term_nodes t ++ xs ≡ term_nodes u ++ ys → (t ≡ u) × (xs ≡ ys)
  one_term (Var x) (Var y) xs ys e =
      let a : Variable x ≡ Variable y = cc in
      let b : x ≡ y = cc in
      let c : xs ≡ ys = cc in
      (ap (λ (n : ℕ). Var n) b, c)
  one_term (Var x) (App g us) xs ys e = let a : Variable x ≡ Function g (count us) = cc in absurd cc
  one_term (App f ts) (Var y) xs ys e = let a : Function f (count ts) ≡ Variable y = cc in absurd cc
  one_term (App f ts) (App g us) xs ys e =
      let a : Function f (count ts) ≡ Function g (count us) = cc in
      let b : f ≡ g = cc in
      let c : count ts ≡ count us = cc in
      let d : nodes_of ts ++ xs ≡ nodes_of us ++ ys = cc in
      let k = one_terms ts us xs ys c d in
      (ap (λ (n : ℕ). App n ts) b ∙ ap (λ (v : Arguments). App g v) k.0, k.1)

  one_terms : (ts us : Arguments) (xs ys : List Node) → count ts ≡ count us → nodes_of ts ++ xs ≡ nodes_of us ++ ys → (ts ≡ us) × (xs ≡ ys)
  one_terms Nil Nil xs ys n e = (refl, e)
  one_terms Nil (Cons u us) xs ys n e = absurd (omega (arith, n))
  one_terms (Cons t ts) Nil xs ys n e = absurd (omega (arith, n))
  one_terms (Cons t ts) (Cons u us) xs ys n e =
      let f : term_nodes t ++ (nodes_of ts ++ xs) ≡ term_nodes u ++ (nodes_of us ++ ys) = sym (append_assoc (term_nodes t) (nodes_of ts) xs) ∙ e ∙ append_assoc (term_nodes u) (nodes_of us) ys in
      let k = one_term t u (nodes_of ts ++ xs) (nodes_of us ++ ys) f in
      let m = one_terms ts us xs ys (omega (arith, n)) k.1 in
      (ap (λ (v : TermValue). Cons v ts) k.0 ∙ ap (λ (v : Arguments). Cons u v) m.0, m.1)

-- ---- what is built

pub built : (nodes : List Node) (n : ℕ) (terms : SequenceValue TermValue) → nodes_of (arguments_of terms.items) ≡ nodes → length terms.items ≡ n → FindsTerms nodes n (Some terms)
built nodes n terms e k ts f c =
    (one_terms (arguments_of terms.items) ts [] [] (count_is terms.items ∙ k ∙ sym c) (ap (λ (v : List Node). v ++ []) (e ∙ sym f))).0

count_built : (vs : List TermValue) (nodes : List Node) (ts : Arguments) → nodes_of ts ≡ nodes → nodes_of (arguments_of vs) ≡ nodes → length vs ≡ count ts
count_built vs nodes ts f e =
    let a = all_fit (arguments_of vs) in
    let b = all_fit ts in
    let c : left_terms (nodes_of (arguments_of vs)) ≡ left_terms (nodes_of ts) = ap left_terms (e ∙ sym f) in
    omega (arith, a.left, b.left, c, count_is vs)

pub not_so_many : (vs : List TermValue) (nodes : List Node) (n m : ℕ) → m ≡ length vs → (m ≡ n → ⊥) → nodes_of (arguments_of vs) ≡ nodes → FindsTerms nodes n None
not_so_many vs nodes n m s h e ts f c = h (s ∙ count_built vs nodes ts f e ∙ c)

takes_more : (node : Node) (m : ℕ) (nodes : List Node) → TakesMore node m → AllFit (node ∷ nodes) → left_terms nodes ≡ m → ⊥
takes_more (Variable x) m nodes h a e = h
takes_more (Function f n) m nodes h a e = absurd (omega (arith, h, a.0, e))

pub not_enough : (vs : List TermValue) (nodes front behind : List Node) (node : Node) (n m : ℕ) → m ≡ length vs → TakesMore node m → nodes ≡ front ++ node ∷ behind → nodes_of (arguments_of vs) ≡ behind → FindsTerms nodes n None
not_enough vs nodes front behind node n m s h p e ts f c =
    let a : AllFit (node ∷ behind) = fit_behind front (node ∷ behind) (subst AllFit (f ∙ p) (all_fit ts).all) in
    let b = all_fit (arguments_of vs) in
    takes_more node m behind h a (ap left_terms (sym e) ∙ b.left ∙ count_is vs ∙ sym s)

-- ---- the node before those that are read

at_split : (xs : List Node) (k : ℕ) (d : Node) → k < length xs → xs ≡ take k xs ++ slice_index_or xs k d ∷ drop (suc k) xs
at_split [] k d h = absurd (omega (arith, h))
at_split (x ∷ xs) zero d h = refl
at_split (x ∷ xs) (suc k) d h = ap (λ (v : List Node). x ∷ v) (at_split xs k d (omega (arith, h)))

pub split_at : (xs : List Node) (n : ℕ) (d : Node) → 0 < n → n ≤ length xs → xs ≡ take (n - 1) xs ++ slice_index_or xs (n - 1) d ∷ drop n xs
split_at xs n d h k =
    let e : suc (n - 1) ≡ n = omega arith in
    at_split xs (n - 1) d (omega (arith, h, k)) ∙ ap (λ (m : ℕ). take (n - 1) xs ++ slice_index_or xs (n - 1) d ∷ drop m xs) e
