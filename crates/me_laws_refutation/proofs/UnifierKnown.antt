-- A most general unifier brings in no symbol of its own: what it gives is over the signature.
use Rattle.std.proofs.Common.{◌≡◌, ℕ, ◌+◌, Bool, true, false, cond, List, slice_get, Option, refl, sym, subst, ap, ◌∙◌}
use Rattle.me_terms.specs.Terms.{TermValue, Var, App, Arguments, Nil, Cons, AtomValue}
use Rattle.me_terms.specs.Substitutions.{Substitution, Family, apply_term, apply_arguments}
use Rattle.me_terms.specs.Variables.{count}
use Rattle.me_terms.specs.Values.{SignatureValue}
use Rattle.me_terms.specs.Context.{Context}
use Rattle.me_terms.specs.Unifier.{IsSolvedBy, Solves, IsUnifier}
use Rattle.me_terms.specs.Signatures.{is_known, are_known, takes}
use Rattle.me_terms.specs.TermEqualityLaws.{both_parts}
use Rattle.me_terms.specs.declared.atom.Literal.{Literal}
use Rattle.me_terms.specs.declared.atom.Pattern.{Pattern}
use Rattle.me_terms.specs.declared.atom.Pattern.TheVariants.{Any, Of}
use Rattle.me_laws_refutation.proofs.Known.{both_true, count_applied, known_above, IsKnownPattern, AreKnown, AreKnownLiterals}

-- ---- a term with a variable for each part that is not over the signature
abbrev mutual
  clean : SignatureValue → TermValue → TermValue
  clean names (Var x) = Var x
  clean names (App f ts) = cond (takes (slice_get names.functions f) (count ts)) (App f (clean_all names ts)) (Var 0)

  clean_all : SignatureValue → Arguments → Arguments
  clean_all names Nil = Nil
  clean_all names (Cons t ts) = Cons (clean names t) (clean_all names ts)

count_clean : (names : SignatureValue) (ts : Arguments) → count (clean_all names ts) ≡ count ts
count_clean names Nil = refl
count_clean names (Cons t ts) = ap (λ n. 1 + n) (count_clean names ts)

known_by : (names : SignatureValue) (f : ℕ) (ts : Arguments) (test : Bool) → takes (slice_get names.functions f) (count ts) ≡ test → are_known names (clean_all names ts) ≡ true → is_known names (cond test (App f (clean_all names ts)) (Var 0)) ≡ true
known_by names f ts true e h =
    both_true (takes (slice_get names.functions f) (count (clean_all names ts))) (are_known names (clean_all names ts)) (ap (takes (slice_get names.functions f)) (count_clean names ts) ∙ e) h
known_by names f ts false e h = refl

mutual
  clean_known : (names : SignatureValue) (t : TermValue) → is_known names (clean names t) ≡ true
  clean_known names (Var x) = refl
  clean_known names (App f ts) = known_by names f ts (takes (slice_get names.functions f) (count ts)) refl (all_clean_known names ts)

  all_clean_known : (names : SignatureValue) (ts : Arguments) → are_known names (clean_all names ts) ≡ true
  all_clean_known names Nil = refl
  all_clean_known names (Cons t ts) = both_true (is_known names (clean names t)) (are_known names (clean_all names ts)) (clean_known names t) (all_clean_known names ts)

mutual
  clean_under : (names : SignatureValue) (s : Substitution) (t : TermValue) → is_known names t ≡ true → clean names (apply_term s t) ≡ apply_term (λ x. clean names (s x)) t
  clean_under names s (Var x) h = refl
  clean_under names s (App f ts) h =
      let parts = both_parts (takes (slice_get names.functions f) (count ts)) (are_known names ts) h in
      let test : takes (slice_get names.functions f) (count (apply_arguments s ts)) ≡ true = ap (takes (slice_get names.functions f)) (count_applied s ts) ∙ parts.0 in
      ap (λ b. cond b (App f (clean_all names (apply_arguments s ts))) (Var 0)) test ∙ ap (App f) (all_clean_under names s ts parts.1)

  all_clean_under : (names : SignatureValue) (s : Substitution) (ts : Arguments) → are_known names ts ≡ true → clean_all names (apply_arguments s ts) ≡ apply_arguments (λ x. clean names (s x)) ts
  all_clean_under names s Nil h = refl
  all_clean_under names s (Cons t ts) h =
      let parts = both_parts (is_known names t) (are_known names ts) h in
      let first = clean_under names s t parts.0 in
      let later = all_clean_under names s ts parts.1 in
      λ i. Cons (first i) (later i)

-- ---- the unifier
clean_meets : (names : SignatureValue) (t : Substitution) (p : Pattern) (s : Substitution) (a : AtomValue) → IsKnownPattern names p → are_known names a.args ≡ true → IsSolvedBy t p s a → IsSolvedBy (λ x. clean names (t x)) p (λ x. clean names (s x)) a
clean_meets names t Any s a f g m = tt
clean_meets names t (Of b) s a f g m =
    let pred : b.pred ≡ a.pred = ap (λ (c : AtomValue). c.pred) m in
    let args : clean_all names (apply_arguments t b.args) ≡ clean_all names (apply_arguments s a.args) = ap (λ (c : AtomValue). clean_all names c.args) m in
    let whole = sym (all_clean_under names t b.args f) ∙ (args ∙ all_clean_under names s a.args g) in
    λ i. record { pred = pred i; args = whole i }

pub unifier_known : (names : SignatureValue) (context : Context) (literals : List Literal) (positions : List (Option ℕ)) (u : Family) → AreKnown names context → AreKnownLiterals names literals → IsUnifier context literals positions u → (space x : ℕ) → is_known names (u space x) ≡ true
unifier_known names context literals positions u entries known h = λ space x.
    let v : Family = λ s y. clean names (u s y) in
    let solved : Solves context literals positions v = λ i k l e o. clean_meets names (u (i + 1)) e.atom (u 0) l.atom (entries k e o.stands) (known i l o.literal) (h.solves i k l e o) in
    let below = h.most_general v solved in
    let P : TermValue → Type 0 = λ t. is_known names t ≡ true in
    known_above names below.0 (u space x) (subst P (sym (below.1 space x)) (clean_known names (u space x)))
