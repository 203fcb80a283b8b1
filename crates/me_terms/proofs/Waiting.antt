-- Lists of terms that wait while a term before them is gone into; the last one is gone on with first.
use Rattle.std.specs.Prelude.{◌≡◌, ℕ, ◌+◌, ◌<◌, List, [], ◌∷◌, ◌++◌, map, length}
use Rattle.std.specs.List.{fold}
use Rattle.std.specs.Hash.{HashWrites, u32}
use Rattle.std.proofs.Common.{ap, sym, subst, ◌∙◌, append_assoc, arith}
use Rattle.std.proofs.lemmas.List.{append-nil}
use Rattle.std.proofs.lemmas.List.Sums.{fold-append}
use Rattle.me_terms.specs.declared.term.Term.{Term}
use Rattle.me_terms.specs.declared.term.Rest.{Rest}
use Rattle.me_terms.specs.TermViews.{term_value}
use Rattle.me_terms.specs.Terms.{App, Arguments, arguments_of}
use Rattle.me_terms.specs.Variables.{weights}
use Rattle.me_terms.specs.Hashed.{arguments_fed}
use Rattle.me_terms.specs.Measures.{capped}
use Rattle.me_terms.specs.Dropping.{later_works}
use Rattle.me_terms.proofs.Copying.{is_empty_of}

abbrev pub values : List Term → Arguments
values terms = arguments_of (map term_value terms)

-- ---- what is still to be fed
abbrev pub waiting_fed : List Rest → HashWrites
waiting_fed [] = []
waiting_fed (r ∷ rs) = waiting_fed rs ++ arguments_fed (values r.terms.now)

pub waiting_fed_end : (rs : List Rest) (r : Rest) → waiting_fed (rs ++ r ∷ []) ≡ arguments_fed (values r.terms.now) ++ waiting_fed rs
waiting_fed_end [] r = sym (append-nil (arguments_fed (values r.terms.now)))
waiting_fed_end (q ∷ rs) r = ap (λ z. z ++ arguments_fed (values q.terms.now)) (waiting_fed_end rs r) ∙ append_assoc (arguments_fed (values r.terms.now)) (waiting_fed rs) (arguments_fed (values q.terms.now))

-- ---- what is still to be counted
abbrev pub waiting_weight : List Rest → ℕ
waiting_weight [] = 0
waiting_weight (r ∷ rs) = weights (values r.terms.now) + waiting_weight rs

pub waiting_weight_end : (rs : List Rest) (r : Rest) → waiting_weight (rs ++ r ∷ []) ≡ waiting_weight rs + weights (values r.terms.now)
waiting_weight_end [] r = omega arith
waiting_weight_end (q ∷ rs) r = omega (arith, waiting_weight_end rs r)

-- ---- how much is left to do
abbrev pub waiting_work : List Rest → ℕ
waiting_work [] = 0
waiting_work (r ∷ rs) = 1 + (later_works (values r.terms.now) + waiting_work rs)

pub waiting_work_end : (rs : List Rest) (r : Rest) → waiting_work (rs ++ r ∷ []) ≡ waiting_work rs + (1 + later_works (values r.terms.now))
waiting_work_end [] r = omega arith
waiting_work_end (q ∷ rs) r = omega (arith, waiting_work_end rs r)

-- ---- a term's arguments are gone into
in_by : (later : List Rest) (r : Rest) (inner : List Term) (f : ℕ)
    → later_works (values inner) + waiting_work (later ++ r ∷ []) < later_works (arguments_of (App f (values inner) ∷ map term_value r.terms.now)) + waiting_work later
in_by later r inner f = omega (arith, waiting_work_end later r)

pub in_work : (later new : List Rest) (r : Rest) (terms inner : List Term) (f : ℕ) → App f (values inner) ∷ map term_value r.terms.now ≡ map term_value terms → new ≡ later ++ r ∷ []
    → later_works (values inner) + waiting_work new < later_works (values terms) + waiting_work later
in_work later new r terms inner f m n =
    subst (λ rs. later_works (values inner) + waiting_work rs < later_works (values terms) + waiting_work later) (sym n)
    (subst (λ ts. later_works (values inner) + waiting_work (later ++ r ∷ []) < later_works (arguments_of ts) + waiting_work later) m (in_by later r inner f))

regroup : (A : Type 0) (a b c d : List A) → ((a ++ b) ++ c) ++ d ≡ a ++ (b ++ (c ++ d))
regroup A a b c d = append_assoc (a ++ b) c d ∙ append_assoc a b (c ++ d)

pub in_fed : {S : Type 0} (write : S → List ℕ → S) (before after all : S) (later new : List Rest) (r : Rest) (terms inner : List Term) (f : ℕ)
    → App f (values inner) ∷ map term_value r.terms.now ≡ map term_value terms → new ≡ later ++ r ∷ [] → after ≡ fold write before (u32 f)
    → fold write before (arguments_fed (values terms) ++ waiting_fed later) ≡ all
    → fold write after (arguments_fed (values inner) ++ waiting_fed new) ≡ all
in_fed write before after all later new r terms inner f m n a i =
    ap (λ s. fold write s (arguments_fed (values inner) ++ waiting_fed new)) a
    ∙ ap (λ rs. fold write (fold write before (u32 f)) (arguments_fed (values inner) ++ waiting_fed rs)) n
    ∙ ap (λ w. fold write (fold write before (u32 f)) (arguments_fed (values inner) ++ w)) (waiting_fed_end later r)
    ∙ sym (fold-append write before (u32 f) (arguments_fed (values inner) ++ (arguments_fed (values r.terms.now) ++ waiting_fed later)))
    ∙ ap (fold write before) (sym (regroup (List ℕ) (u32 f) (arguments_fed (values inner)) (arguments_fed (values r.terms.now)) (waiting_fed later)))
    ∙ ap (λ ts. fold write before (arguments_fed (arguments_of ts) ++ waiting_fed later)) m
    ∙ i

pub in_weight : (whole total more : ℕ) (later new : List Rest) (r : Rest) (terms inner : List Term) (f : ℕ)
    → App f (values inner) ∷ map term_value r.terms.now ≡ map term_value terms → new ≡ later ++ r ∷ [] → more ≡ capped (total + 1)
    → capped whole ≡ capped (total + (weights (values terms) + waiting_weight later))
    → capped whole ≡ capped (more + (weights (values inner) + waiting_weight new))
in_weight whole total more later new r terms inner f m n a i =
    let split : weights (values terms) ≡ (1 + weights (values inner)) + weights (values r.terms.now) = sym (ap (λ ts. weights (arguments_of ts)) m) in
    let wait : waiting_weight new ≡ waiting_weight later + weights (values r.terms.now) = ap waiting_weight n ∙ waiting_weight_end later r in
    omega (arith, split, wait, a, i)

-- ---- a list is done, and the last one that waits is gone on with
pub out_work : (later rs : List Rest) (r : Rest) (work : ℕ) → later ≡ rs ++ r ∷ [] → later_works (values r.terms.now) + waiting_work rs < work + waiting_work later
out_work later rs r work l = subst (λ qs. later_works (values r.terms.now) + waiting_work rs < work + waiting_work qs) (sym l) (omega (arith, waiting_work_end rs r))

pub out_fed : {S : Type 0} (write : S → List ℕ → S) (state all : S) (later rs : List Rest) (r : Rest) (terms : List Term) → length terms ≡ 0 → later ≡ rs ++ r ∷ []
    → fold write state (arguments_fed (values terms) ++ waiting_fed later) ≡ all
    → fold write state (arguments_fed (values r.terms.now) ++ waiting_fed rs) ≡ all
out_fed write state all later rs r terms none l i =
    ap (fold write state) (sym (waiting_fed_end rs r))
    ∙ ap (λ qs. fold write state (waiting_fed qs)) (sym l)
    ∙ ap (λ ts. fold write state (arguments_fed (values ts) ++ waiting_fed later)) (sym (is_empty_of terms none))
    ∙ i

pub out_weight : (whole total : ℕ) (later rs : List Rest) (r : Rest) (terms : List Term) → length terms ≡ 0 → later ≡ rs ++ r ∷ []
    → capped whole ≡ capped (total + (weights (values terms) + waiting_weight later))
    → capped whole ≡ capped (total + (weights (values r.terms.now) + waiting_weight rs))
out_weight whole total later rs r terms none l i =
    let empty : weights (values terms) ≡ 0 = ap (λ ts. weights (values ts)) (is_empty_of terms none) in
    let wait : waiting_weight later ≡ waiting_weight rs + weights (values r.terms.now) = ap waiting_weight l ∙ waiting_weight_end rs r in
    omega (arith, empty, wait, i)
