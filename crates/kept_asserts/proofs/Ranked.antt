-- Which entry is that of a key's Assert.
use Rattle.std.proofs.Common.{◌≡◌, ◌↔◌, Bool, true, false, IsTrue, ℕ, List, ◌∷◌, Option, None, Some, subst}
use Rattle.std.specs.Prelude.{Result, Ok, Err, IfOk, IfNone, IfSome}
use Rattle.me_terms.specs.Values.{ProblemValue, EntryValue}
use Rattle.me_terms.specs.Context.{Context}
use Rattle.me_terms.specs.Assert.{IsAssert}
use Rattle.me_terms.specs.Order.{kind_rank, pattern_weight, assert_key}
use Rattle.me_terms.specs.declared.bounds.Bounds.{Bounds}
use Rattle.me_laws.proofs.Determined.{assert_determined}
use Rattle.candidate_keys.specs.Keys.{AssertKeyValue, assert_code}
use Rattle.kept_asserts.specs.Held.{IsAssertOf, HasRank}

-- ---- what the answer of a test says
pub is_so : (b : Bool) (P : Type 0) → IsTrue b ↔ P → b ≡ true → P
is_so b P means is = means.0 is

pub not_so : (b : Bool) (P : Type 0) → IsTrue b ↔ P → b ≡ false → ¬ P
not_so b P means is h = let other = means.1 h in cc (other, is)

-- ---- answers that may be none
none_map : {A : Type 0} (o : Option A) (P Q : Type 0) → (P → Q) → IfNone o P → IfNone o Q
none_map None P Q f h = f h
none_map (Some x) P Q f h = h

if_ok_map : {T E : Type 0} (r : Result T E) (P Q : T → Type 0) → ((x : T) → P x → Q x) → IfOk r P → IfOk r Q
if_ok_map (Ok x) P Q f h = f x h
if_ok_map (Err e) P Q f h = h

pub if_none_map : {A E : Type 0} (r : Result (Option A) E) (P Q : Type 0) → (P → Q) → IfOk r (λ o. IfNone o P) → IfOk r (λ o. IfNone o Q)
if_none_map {A} r P Q f h = if_ok_map r (λ (o : Option A). IfNone o P) (λ (o : Option A). IfNone o Q) (λ o g. none_map o P Q f g) h

pub where_none : {A : Type 0} (o : Option A) (P : Type 0) → o ≡ None → IfNone o P → P
where_none {A} o P is h = let Q : Option A → Type 0 = λ z. IfNone z P in subst Q is h

pub where_some : {A : Type 0} (o : Option A) (x : A) (P : A → Type 0) → o ≡ Some x → IfSome o P → P x
where_some {A} o x P is h = let Q : Option A → Type 0 = λ z. IfSome z P in subst Q is h

-- ---- ranks
module _ (problem : ProblemValue) (bounds : Bounds) (context : Context) (key : AssertKeyValue) (e : EntryValue) (h : IsAssert problem bounds context key.clause key.place key.tuple e) where
  same_code : (a b : ℕ) (rest : List ℕ) → kind_rank e.kind ≡ a → pattern_weight e.atom ≡ b → kind_rank e.kind ∷ pattern_weight e.atom ∷ rest ≡ a ∷ b ∷ rest
  same_code a b rest x y = λ i. x i ∷ y i ∷ rest

  pub ranked : HasRank key e → IsAssertOf problem bounds context key e
  ranked r = record { assert = h; same = same_code (kind_rank key.kind) key.weight (key.clause ∷ key.place ∷ key.tuple) r.0 r.1 }

  first_same : (a b c d : ℕ) (xs ys : List ℕ) → a ∷ b ∷ xs ≡ c ∷ d ∷ ys → (a ≡ c) × (b ≡ d)
  first_same a b c d xs ys is = (cc is, cc is)

  pub unranked : ¬ HasRank key e → (other : EntryValue) → ¬ IsAssertOf problem bounds context key other
  unranked none other g =
      let same = assert_determined problem bounds context key.clause key.place key.tuple other e g.assert h in
      let P : EntryValue → Type 0 = λ z. assert_key key.clause key.place key.tuple z ≡ assert_code key in
      let code = subst P same g.same in
      none (first_same (kind_rank e.kind) (pattern_weight e.atom) (kind_rank key.kind) key.weight (key.clause ∷ key.place ∷ key.tuple) (key.clause ∷ key.place ∷ key.tuple) code)
