-- What equations tell, under which variables are frozen.
use Rattle.std.proofs.Common.{◌≡◌, ℕ, ◌+◌, ◌<◌, inl, inr, Bool, true, false, eqb, cond, List, [], ◌∷◌, ◌++◌, refl, sym, ap, subst, ◌∙◌, arith}
use Rattle.std.proofs.lemmas.Bool.{cases_lt, ne_eqb}
use Rattle.std.specs.Prelude.{get_or}
use Rattle.std.proofs.lemmas.List.Elements.{All-append}
use Rattle.me_terms.specs.Terms.{TermValue, Var, App, Nil, AtomValue}
use Rattle.me_terms.specs.Substitutions.{Substitution, Family, apply_term, apply_arguments, apply_atom, followed_by, IsInstance}
use Rattle.me_terms.specs.Variables.{variables_of, is_ground, are_ground}
use Rattle.me_laws.proofs.Existence.{eqb_itself}
use Rattle.me_laws.proofs.Generality.{arguments_unchanged, atom_followed}
use Rattle.me_laws.proofs.Lifting.{atom_along}
use Rattle.me_laws.proofs.NoContradiction.{ground_atom}
use Rattle.me_laws.proofs.Renaming.{Each, each_map, head_of, variables_agree_all}
use Rattle.me_unify.specs.Equations.{Equation, equation, SolvesOne, SolvesAll, IsSolvable, IsMostGeneral}
use Rattle.joint_unifiers.proofs.Bridge.{solves_first, solves_later, solves_one}
use Rattle.context_unifier.specs.Frozen.{ASKED, unary, frozen_as, at_slot, IsFrozen, LeavesGround, asking, TellInstances}
use Rattle.context_unifier.proofs.Unfreezing.{unfrozen, unfrozen_all, unfrozen_arguments, unfrozen_constants, each_with, ground_each_all, IsOneOf, one_or_none, kept, kept_at, kept_ground, constant_kept}

-- ---- solutions
-- a solution, followed by a substitution
solves_after : (u : Family) (r : Substitution) (es : List Equation) → SolvesAll u es → SolvesAll (λ space x. apply_term r (u space x)) es
solves_after u r es h k d lt =
    let e : Equation = get_or es k d in
    atom_followed (u e.left_space) r e.left ∙ (ap (apply_atom r) (h k d lt) ∙ sym (atom_followed (u e.right_space) r e.right))

solves_last : (u : Family) (es : List Equation) (e : Equation) → SolvesAll u (es ++ e ∷ []) → SolvesOne u e
solves_last u es e h = solves_later u es (e ∷ []) h 0 e (omega arith)

solves_both : (u : Family) (es : List Equation) (e : Equation) → SolvesAll u es → SolvesOne u e → SolvesAll u (es ++ e ∷ [])
solves_both u es e h one = All-append (SolvesOne u) es (e ∷ []) h (solves_one u e one)

-- ---- no variable is left
-- the variable is a frozen one under u, and r has its constant
pub record IsHeld (count first : ℕ) (slot : ℕ → ℕ × ℕ) (u : Family) (r : Substitution) (y : ℕ) : Type 0 where
  pub place : ℕ
  pub within : place < count
  pub is : at_slot u (slot place) ≡ Var y
  pub constant : r y ≡ App (first + place) Nil

module _ (es : List Equation) (first : ℕ) (fs : List Equation) (next : ℕ) (z : IsFrozen es first fs next) (u w : Family) (r : Substitution) (along : (s x : ℕ) → apply_term r (u s x) ≡ w s x) where
  terms : ℕ → TermValue
  terms i = at_slot u (z.slot i)

  becomes : SolvesAll w fs → (i : ℕ) → i < z.count → apply_term r (terms i) ≡ App (first + i) Nil
  unfolding terms
  becomes h i lt = along (z.slot i).0 (z.slot i).1 ∙ ((z.solutions w).0 h).1 i lt

  only_held : Substitution
  only_held y = kept (one_or_none terms z.count y) (r y)

  others_solve : SolvesAll u es → SolvesAll w fs → SolvesAll (λ s x. apply_term only_held (u s x)) fs
  unfolding terms only_held
  others_solve general h =
      (z.solutions (λ s x. apply_term only_held (u s x))).1 (
        solves_after u only_held es general,
        λ i lt. constant_kept r only_held (terms i) (first + i) (λ y e. kept_at terms z.count y i (r y) lt e) (becomes h i lt),
      )

  held_ground : (a : AtomValue) → SolvesAll u es → SolvesAll w fs → LeavesGround fs a → are_ground (apply_arguments only_held (apply_arguments (u 0) a.args)) ≡ true
  held_ground a general h closed =
      let v = closed.0 in
      let more = closed.1.0.most_general (λ s x. apply_term only_held (u s x)) (others_solve general h) in
      let same : apply_atom more.0 (apply_atom (v 0) a) ≡ apply_atom (followed_by (u 0) only_held) a = atom_along (v 0) (followed_by (u 0) only_held) more.0 (more.1 0) a in
      let fixed : apply_atom more.0 (apply_atom (v 0) a) ≡ apply_atom (v 0) a = ground_atom more.0 (apply_atom (v 0) a) closed.1.1 in
      ap (λ (b : AtomValue). are_ground b.args) (sym (atom_followed (u 0) only_held a) ∙ (sym same ∙ fixed)) ∙ closed.1.1

  held : SolvesAll w fs → (y : ℕ) → IsOneOf terms z.count y → IsHeld z.count first z.slot u r y
  unfolding terms
  held h y one = record {
    place = one.0;
    within = one.1.0;
    is = one.1.1;
    constant = sym (ap (apply_term r) one.1.1) ∙ becomes h one.0 one.1.0;
  }

  pub each_held : (a : AtomValue) → SolvesAll u es → SolvesAll w fs → LeavesGround fs a → Each (IsHeld z.count first z.slot u r) (variables_of (apply_arguments (u 0) a.args))
  unfolding only_held
  each_held a general h closed =
      each_map (λ y. is_ground (only_held y) ≡ true) (IsHeld z.count first z.slot u r) (λ y g. held h y (kept_ground terms z.count y (r y) g)) (variables_of (apply_arguments (u 0) a.args))
      (ground_each_all only_held (apply_arguments (u 0) a.args) (held_ground a general h closed))

-- ---- what both freezings tell
both_held : (one other next : ℕ) (slot slot' : ℕ → ℕ × ℕ) (u : Family) (r s : Substitution) → next ≡ 0 + one → (y : ℕ) → IsHeld one 0 slot u r y → IsHeld other next slot' u s y → unfrozen (λ i. at_slot u (slot i)) (r y) (s y) ≡ Var y
both_held one other next slot slot' u r s numbers y f g =
    let within = f.within in
    let less : 0 + f.place < next + g.place = omega (arith, within, numbers) in
    let same : 0 + f.place ≡ f.place = omega arith in
    unfrozen_constants (λ i. at_slot u (slot i)) (0 + f.place) (next + g.place) (r y) (s y) less f.constant g.constant
    ∙ (ap (λ (i : ℕ). at_slot u (slot i)) same ∙ f.is)

pub told : (es one other : List Equation) (n m : ℕ) (u : Family) (a b : AtomValue) → IsMostGeneral es u → IsFrozen es 0 one n → IsFrozen es n other m → LeavesGround one a → LeavesGround other a → IsSolvable (asking one b a) → IsSolvable (asking other b a) → IsInstance b (apply_atom (u 0) a)
told es one other n m u a b general z z' closed closed' h h' =
    let question = equation ASKED b 0 a in
    let v = h.0 in
    let w = h'.0 in
    let v_solves : SolvesAll v one = solves_first v one (question ∷ []) h.1 in
    let w_solves : SolvesAll w other = solves_first w other (question ∷ []) h'.1 in
    let r = general.most_general v ((z.solutions v).0 v_solves).0 in
    let s = general.most_general w ((z'.solutions w).0 w_solves).0 in
    let all = each_held es 0 one n z u v r.0 r.1 a general.solves v_solves closed in
    let all' = each_held es n other m z' u w s.0 s.1 a general.solves w_solves closed' in
    let met : apply_atom (v ASKED) b ≡ apply_atom (v 0) a = solves_last v one question h.1 in
    let met' : apply_atom (w ASKED) b ≡ apply_atom (w 0) a = solves_last w other question h'.1 in
    let first : apply_atom (v ASKED) b ≡ apply_atom r.0 (apply_atom (u 0) a) = met ∙ sym (atom_along (u 0) (v 0) r.0 (r.1 0) a) in
    let second : apply_atom (w ASKED) b ≡ apply_atom s.0 (apply_atom (u 0) a) = met' ∙ sym (atom_along (u 0) (w 0) s.0 (s.1 0) a) in
    let g : ℕ → TermValue = λ i. at_slot u (z.slot i) in
    let whole = apply_arguments (u 0) a.args in
    let there : Each (λ y. unfrozen g (r.0 y) (s.0 y) ≡ Var y) (variables_of whole) =
    each_with (IsHeld z.count 0 z.slot u r.0) (IsHeld z'.count n z'.slot u s.0) (λ y. unfrozen g (r.0 y) (s.0 y) ≡ Var y) (both_held z.count z'.count n z.slot z'.slot u r.0 s.0 z.numbers) (variables_of whole) all all' in
    let back : apply_arguments (λ y. unfrozen g (r.0 y) (s.0 y)) whole ≡ whole = variables_agree_all (λ y. unfrozen g (r.0 y) (s.0 y)) Var whole there ∙ arguments_unchanged whole in
    let args : apply_arguments (λ x. unfrozen g (v ASKED x) (w ASKED x)) b.args ≡ whole =
    sym (unfrozen_arguments g (v ASKED) (w ASKED) b.args)
    ∙ ((λ i. unfrozen_all g (first i).args (second i).args)
    ∙ (unfrozen_arguments g r.0 s.0 whole ∙ back)) in
    ((λ x. unfrozen g (v ASKED x) (w ASKED x)), λ i. record { pred = (met i).pred; args = args i })

-- ---- an instance goes with both
aside : ℕ → Substitution → Family → Family
aside n q w space = cond (eqb space n) q (w space)

aside_there : (n : ℕ) (q : Substitution) (w : Family) → aside n q w n ≡ q
unfolding aside
aside_there n q w = ap (λ (b : Bool). cond b q (w n)) (eqb_itself n)

aside_below : (n : ℕ) (q : Substitution) (w : Family) (space : ℕ) → space < n → aside n q w space ≡ w space
unfolding aside
aside_below n q w space h =
    let other : eqb space n ≡ false = ne_eqb space n (λ e. absurd (omega (arith, e, h))) in
    ap (λ (b : Bool). cond b q (w space)) other

-- Only spaces below n matter for the equations.
abbrev pub AreBelow : ℕ → List Equation → Type 0
AreBelow n es = (v w : Family) → ((space : ℕ) → space < n → v space ≡ w space) → SolvesAll v es → SolvesAll w es

asked_at : (n : ℕ) (es : List Equation) (first : ℕ) (fs : List Equation) (next : ℕ) (u : Family) (a b : AtomValue) → 0 < n → IsMostGeneral es u → AreBelow n es → (z : IsFrozen es first fs next) → ((i : ℕ) → i < z.count → (z.slot i).0 < n) → (w : Family) → SolvesAll w fs → IsInstance b (apply_atom (u 0) a) → IsSolvable (fs ++ equation n b 0 a ∷ [])
asked_at n es first fs next u a b some general low z below w h q =
    let r = general.most_general w ((z.solutions w).0 h).0 in
    let own : Substitution = followed_by q.0 r.0 in
    let v : Family = aside n own w in
    let es_hold : SolvesAll v es = low w v (λ space lt. sym (aside_below n own w space lt)) ((z.solutions w).0 h).0 in
    let slots_hold : (i : ℕ) → i < z.count → at_slot v (z.slot i) ≡ App (first + i) Nil =
    λ i lt. ap (λ (s : Substitution). s (z.slot i).1) (aside_below n own w (z.slot i).0 (below i lt)) ∙ ((z.solutions w).0 h).1 i lt in
    let fs_hold : SolvesAll v fs = (z.solutions v).1 (es_hold, slots_hold) in
    let met : apply_atom (v n) b ≡ apply_atom (v 0) a =
    ap (λ (s : Substitution). apply_atom s b) (aside_there n own w)
    ∙ (atom_followed q.0 r.0 b
    ∙ (ap (apply_atom r.0) q.1
    ∙ (atom_along (u 0) (w 0) r.0 (r.1 0) a
    ∙ ap (λ (s : Substitution). apply_atom s a) (sym (aside_below n own w 0 some))))) in
    (v, solves_both v fs (equation n b 0 a) fs_hold met)

pub asked : (es : List Equation) (first : ℕ) (fs : List Equation) (next : ℕ) (u : Family) (a b : AtomValue) → IsMostGeneral es u → AreBelow ASKED es → IsFrozen es first fs next → LeavesGround fs a → IsInstance b (apply_atom (u 0) a) → IsSolvable (asking fs b a)
asked es first fs next u a b general low z closed q =
    asked_at ASKED es first fs next u a b (omega arith) general low z z.below closed.0 closed.1.0.solves q

pub tells : (es one other : List Equation) (n m : ℕ) (u : Family) (a : AtomValue) → IsMostGeneral es u → AreBelow ASKED es → IsFrozen es 0 one n → IsFrozen es n other m → LeavesGround one a → LeavesGround other a → TellInstances one other a (apply_atom (u 0) a)
tells es one other n m u a general low z z' closed closed' b = (
  λ h. told es one other n m u a b general z z' closed closed' h.0 h.1,
  λ q. (asked es 0 one n u a b general low z closed q, asked es n other m u a b general low z' closed' q),
)

-- ---- one variable more
over : {A : Type 0} → ℕ → A → (ℕ → A) → ℕ → A
over n a f i = cond (eqb i n) a (f i)

over_last : {A : Type 0} (n : ℕ) (a : A) (f : ℕ → A) (i : ℕ) → n ≡ i → over n a f i ≡ a
unfolding over
over_last n a f i e = ap (λ (b : Bool). cond b a (f i)) (subst (λ (k : ℕ). eqb k n ≡ true) e (eqb_itself n))

over_before : {A : Type 0} (n : ℕ) (a : A) (f : ℕ → A) (i : ℕ) → i < n → over n a f i ≡ f i
unfolding over
over_before n a f i h =
    let other : eqb i n ≡ false = ne_eqb i n (λ e. absurd (omega (arith, e, h))) in
    ap (λ (b : Bool). cond b a (f i)) other

frozen_there : (v : Family) (space x n : ℕ) → SolvesOne v (frozen_as space x n) → v space x ≡ App n Nil
unfolding head_of
frozen_there v space x n h = ap (λ (a : AtomValue). head_of a.args) h

frozen_back : (v : Family) (space x n : ℕ) → v space x ≡ App n Nil → SolvesOne v (frozen_as space x n)
frozen_back v space x n h = λ i. unary (h i)

-- P holds of all below n, and of n
below_more : (P : ℕ → Type 0) (n : ℕ) → ((i : ℕ) → i < n → P i) → ((i : ℕ) → n ≡ i → P i) → (i : ℕ) → i < n + 1 → P i
below_more P n h last i lt = elim (cases_lt i n) as (λ _. P i) [ inl less ↦ h i less | inr ge ↦ last i (omega (arith, ge, lt)) ]

module _ (es : List Equation) (first : ℕ) (fs : List Equation) (n : ℕ) (z : IsFrozen es first fs n) (space x : ℕ) where
  slots : ℕ → ℕ × ℕ
  slots = over z.count (space, x) z.slot

  more_below : space < ASKED → (i : ℕ) → i < z.count + 1 → (slots i).0 < ASKED
  unfolding slots
  more_below h =
      below_more (λ i. (slots i).0 < ASKED) z.count (λ i lt. subst (λ (s : ℕ × ℕ). s.0 < ASKED) (sym (over_before z.count (space, x) z.slot i lt)) (z.below i lt))
      (λ i e. subst (λ (s : ℕ × ℕ). s.0 < ASKED) (sym (over_last z.count (space, x) z.slot i e)) h)

  more_there : (v : Family) → SolvesAll v (fs ++ frozen_as space x n ∷ []) → (i : ℕ) → i < z.count + 1 → at_slot v (slots i) ≡ App (first + i) Nil
  unfolding slots
  more_there v h =
      let old = ((z.solutions v).0 (solves_first v fs (frozen_as space x n ∷ []) h)).1 in
      let new = frozen_there v space x n (solves_last v fs (frozen_as space x n) h) in
      below_more (λ i. at_slot v (slots i) ≡ App (first + i) Nil) z.count (λ i lt. ap (at_slot v) (over_before z.count (space, x) z.slot i lt) ∙ old i lt)
      (λ i e. ap (at_slot v) (over_last z.count (space, x) z.slot i e) ∙ (new ∙ ap (λ (k : ℕ). App k Nil) (z.numbers ∙ ap (λ (k : ℕ). first + k) e)))

  more_back : (v : Family) → SolvesAll v es → ((i : ℕ) → i < z.count + 1 → at_slot v (slots i) ≡ App (first + i) Nil) → SolvesAll v (fs ++ frozen_as space x n ∷ [])
  unfolding slots
  more_back v h each =
      let old : SolvesAll v fs = (z.solutions v).1 (h, λ i lt. sym (ap (at_slot v) (over_before z.count (space, x) z.slot i lt)) ∙ each i (omega (arith, lt))) in
      let new : v space x ≡ App n Nil = sym (ap (at_slot v) (over_last z.count (space, x) z.slot z.count refl)) ∙ (each z.count (omega arith) ∙ ap (λ (k : ℕ). App k Nil) (sym z.numbers)) in
      solves_both v fs (frozen_as space x n) old (frozen_back v space x n new)

  pub one_more : space < ASKED → IsFrozen es first (fs ++ frozen_as space x n ∷ []) (n + 1)
  one_more h =
      let numbers = z.numbers in
      record {
        count = z.count + 1;
        slot = slots;
        numbers = omega (arith, numbers);
        below = more_below h;
        solutions = λ v. (
          λ s. (((z.solutions v).0 (solves_first v fs (frozen_as space x n ∷ []) s)).0, more_there v s),
          λ s. more_back v s.0 s.1,
        );
      }

-- nothing is frozen yet
pub none_frozen : (es : List Equation) (first : ℕ) → IsFrozen es first es first
none_frozen es first = record {
  count = 0;
  slot = λ i. (0, 0);
  numbers = omega arith;
  below = λ i h. absurd (omega (arith, h));
  solutions = λ v. (λ s. (s, λ i h. absurd (omega (arith, h))), λ s. s.0);
}
