-- What the test finds is a substitution, and where there is one the test finds it.
use Rattle.std.proofs.Common.{◌≡◌, ℕ, ◌≢◌, ◌↔◌, Bool, true, false, ◌&&◌, ◌||◌, eqb, List, [], ◌∷◌, length, Option, Some, None, refl, ap, sym, subst, ◌∙◌, arith}
use Rattle.std.proofs.Common.{◌≤◌, min, map, drop, inl, inr}
use Rattle.std.proofs.lemmas.List.{drop_all}
use Rattle.std.proofs.lemmas.Bool.{eqb-true, cases_lt}
use Rattle.me_terms.specs.declared.term.Term.{Term}
use Rattle.me_terms.specs.TermViews.{term_value}
use Rattle.std.proofs.Math.Bool.{and-false}
use Rattle.std.proofs.lemmas.Grind.{common_steps}
use Rattle.std.specs.Prelude.{if◌then◌else◌}
use Rattle.me_terms.specs.Terms.{TermValue, Var, App, Arguments, Nil, Cons, arguments_of, AtomValue}
use Rattle.me_terms.specs.Matchers.{found, found_all, agrees, agree, or_later, is_value}
use Rattle.me_terms.specs.Substitutions.{Substitution, apply_term, apply_arguments, apply_atom, IsInstance}
use Rattle.me_terms.specs.TermEqualityLaws.{same_term_sound, same_term_itself, both_parts}

pub found_all_none : (x : ℕ) (ss : Arguments) → found_all x ss Nil ≡ None
found_all_none x Nil = refl
found_all_none x (Cons s ss) = refl

-- no pair is left where one of the lists has ended
pub found_all_past : (x i : ℕ) (xs ys : List Term) → min (length xs) (length ys) ≤ i → found_all x (arguments_of (map term_value (drop i xs))) (arguments_of (map term_value (drop i ys))) ≡ None
found_all_past x i xs ys h =
    elim (cases_lt i (length xs)) [
      | inl lt ↦ let short : length ys ≤ i = omega arith in rw (drop_all i ys short) (found_all_none x (arguments_of (map term_value (drop i xs))))
      | inr le ↦ rw (drop_all i xs le) refl
    ]

pub agree_lengths : (b : ℕ → Option TermValue) (xs ys : List TermValue) → length xs ≢ length ys → agree b (arguments_of xs) (arguments_of ys) ≡ false
agree_lengths b [] [] h = absurd (h refl)
agree_lengths b [] (y ∷ ys) h = refl
agree_lengths b (x ∷ xs) [] h = refl
agree_lengths b (x ∷ xs) (y ∷ ys) h =
    let shorter : length xs ≢ length ys = omega arith in rw (agree_lengths b xs ys shorter, and-false)

-- ---- soundness
-- What is found for x, or x itself.
abbrev pub or_var : ℕ → Option TermValue → TermValue
or_var x None = Var x
or_var x (Some t) = t

value_sound : (x : ℕ) (o : Option TermValue) (t : TermValue) → is_value o t ≡ true → or_var x o ≡ t
value_sound x None t h = cc
value_sound x (Some u) t h = same_term_sound u t h

abbrev given : (ℕ → Option TermValue) → Substitution
given b x = or_var x (b x)

mutual
  pub agrees_sound : (b : ℕ → Option TermValue) (s t : TermValue) → agrees b s t ≡ true → apply_term (given b) s ≡ t
  agrees_sound b (Var x) t h = value_sound x (b x) t h
  agrees_sound b (App f ss) (Var y) h = cc
  agrees_sound b (App f ss) (App g ts) h =
      let parts = both_parts (eqb f g) (agree b ss ts) h in
      cc (eqb-true f g parts.0, agree_sound b ss ts parts.1)

  pub agree_sound : (b : ℕ → Option TermValue) (ss ts : Arguments) → agree b ss ts ≡ true → apply_arguments (given b) ss ≡ ts
  agree_sound b Nil Nil h = refl
  agree_sound b Nil (Cons t ts) h = cc
  agree_sound b (Cons s ss) Nil h = cc
  agree_sound b (Cons s ss) (Cons t ts) h =
      let parts = both_parts (agrees b s t) (agree b ss ts) h in
      cc (agrees_sound b s t parts.0, agree_sound b ss ts parts.1)

-- ---- completeness
abbrev mutual
  pub occurs : ℕ → TermValue → Bool
  occurs x (Var y) = eqb y x
  occurs x (App f ss) = occurs_in x ss

  pub occurs_in : ℕ → Arguments → Bool
  occurs_in x Nil = false
  occurs_in x (Cons s ss) = occurs x s || occurs_in x ss

pick : (x y : ℕ) (s : Substitution) (c : Bool) → (c ≡ true → y ≡ x) → (if c then Some (s y) else None) ≡ (if c then Some (s x) else None)
pick x y s true h = ap (λ z. Some (s z)) (h refl)
pick x y s false h = refl

join : (c d : Bool) (t : TermValue) → or_later (if c then Some t else None) (if d then Some t else None) ≡ (if (c || d) then Some t else None)
join true d t = refl
join false d t = refl

mutual
  pub found_value : (x : ℕ) (s : Substitution) (t : TermValue) → found x t (apply_term s t) ≡ (if occurs x t then Some (s x) else None)
  found_value x s (Var y) = pick x y s (eqb y x) (eqb-true y x)
  found_value x s (App f ts) = found_values x s ts

  pub found_values : (x : ℕ) (s : Substitution) (ts : Arguments) → found_all x ts (apply_arguments s ts) ≡ (if occurs_in x ts then Some (s x) else None)
  found_values x s Nil = refl
  found_values x s (Cons t ts) =
      rw (found_value x s t, found_values x s ts) (join (occurs x t) (occurs_in x ts) (s x))

-- b gives what s gives to each variable that passes the test
abbrev Gives : (ℕ → Option TermValue) → Substitution → (ℕ → Bool) → Type 0
Gives b s p = (x : ℕ) → p x ≡ true → b x ≡ Some (s x)

left_true : (c d : Bool) → c ≡ true → (c || d) ≡ true
left_true true d h = refl
left_true false d h = cc

right_true : (c d : Bool) → d ≡ true → (c || d) ≡ true
right_true true d h = refl
right_true false d h = h

eqb_same : (n : ℕ) → eqb n n ≡ true
eqb_same n = grind (arith, common_steps)

mutual
  pub agrees_complete : (b : ℕ → Option TermValue) (s : Substitution) (t : TermValue) → Gives b s (λ x. occurs x t) → agrees b t (apply_term s t) ≡ true
  agrees_complete b s (Var x) h = rw (h x (eqb_same x)) (same_term_itself (s x))
  agrees_complete b s (App f ts) h = rw (eqb_same f) (agree_complete b s ts h)

  pub agree_complete : (b : ℕ → Option TermValue) (s : Substitution) (ts : Arguments) → Gives b s (λ x. occurs_in x ts) → agree b ts (apply_arguments s ts) ≡ true
  agree_complete b s Nil h = refl
  agree_complete b s (Cons t ts) h =
      rw (
        agrees_complete b s t (λ x o. h x (left_true (occurs x t) (occurs_in x ts) o)),
        agree_complete b s ts (λ x o. h x (right_true (occurs x t) (occurs_in x ts) o)),
      )

found_gives : (s : Substitution) (ts : Arguments) → Gives (λ x. found_all x ts (apply_arguments s ts)) s (λ x. occurs_in x ts)
found_gives s ts x h = rw (found_values x s ts, h)

-- ---- both together, for atoms
abbrev pub at_matches : AtomValue → AtomValue → Bool
at_matches a b = eqb a.pred b.pred && agree (λ x. found_all x a.args b.args) a.args b.args

pub at_matches_sound : (a b : AtomValue) → at_matches a b ≡ true → IsInstance a b
at_matches_sound a b h =
    let parts = both_parts (eqb a.pred b.pred) (agree (λ x. found_all x a.args b.args) a.args b.args) h in
    let args = agree_sound (λ x. found_all x a.args b.args) a.args b.args parts.1 in
    (given (λ x. found_all x a.args b.args), λ i. record { pred = eqb-true a.pred b.pred parts.0 i; args = args i })

at_matches_self : (s : Substitution) (a : AtomValue) → at_matches a (apply_atom s a) ≡ true
at_matches_self s a =
    rw (eqb_same a.pred) (agree_complete (λ x. found_all x a.args (apply_arguments s a.args)) s a.args (found_gives s a.args))

pub at_matches_complete : (a b : AtomValue) → IsInstance a b → at_matches a b ≡ true
at_matches_complete a b h =
    let P : AtomValue → Type 0 = λ c. at_matches a c ≡ true in subst P h.1 (at_matches_self h.0 a)

pub matches_iff : (a b : AtomValue) (c : Bool) → a.pred ≡ b.pred → c ≡ agree (λ x. found_all x a.args b.args) a.args b.args → (c ≡ true) ↔ IsInstance a b
matches_iff a b c p e =
    let whole : at_matches a b ≡ c = rw (p, eqb_same b.pred) (sym e) in
    (λ h. at_matches_sound a b (whole ∙ h), λ h. sym whole ∙ at_matches_complete a b h)

pub preds_differ : (a b : AtomValue) → a.pred ≢ b.pred → ¬ IsInstance a b
preds_differ a b n h = n (ap (λ (c : AtomValue). c.pred) h.1)
