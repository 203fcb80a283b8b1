-- What is no candidate yet where an entry comes.
use Rattle.std.proofs.Common.{◌≡◌, ◌<◌, ◌⊎◌, inl, inr, [], length, refl, ap, arith}
use Rattle.me_terms.specs.Values.{ProblemValue, EntryValue, ReasonValue, Pseudo, Asserted, SplitLeft, SplitRight}
use Rattle.me_terms.specs.Context.{Context, add}
use Rattle.me_terms.specs.Close.{HasClose}
use Rattle.me_terms.specs.Assert.{HasAssert}
use Rattle.me_terms.specs.Next.{Close, Assert, Split, Exhausted, Bounded}
use Rattle.me_terms.specs.Grown.{IsGrown}
use Rattle.me_terms.specs.declared.bounds.Bounds.{Bounds}
use Rattle.me_laws.specs.GrownLaws.{ReasonHolds}
use Rattle.me_laws.proofs.Reasons.{reasons_hold}
use Rattle.me_laws_increments.specs.Phases.{NoCloseUnlessNext, NoCloseBefore, NoAssertBeforeSplit, LaterClosesAreNew, LaterAssertsAreNew, LeastNewCloseIsLeast, NoNewClose}
use Rattle.me_laws_increments.proofs.Pivots.{closes_by_pivot, asserts_by_pivot}

pub no_close_unless_next : NoCloseUnlessNext
no_close_unless_next problem bounds context (Close c tuple) h other = absurd (other c tuple refl)
no_close_unless_next problem bounds context (Assert e) h other = h.0
no_close_unless_next problem bounds context (Split l kind) h other = h.0
no_close_unless_next problem bounds context (Bounded b) h other = h.0
no_close_unless_next problem bounds context Exhausted h other = h.0

no_close_by : (problem : ProblemValue) (bounds : Bounds) (context : Context) (new : EntryValue) (why : ReasonValue) → ReasonHolds problem bounds context new why → 0 < length context → ¬ HasClose problem context
no_close_by problem bounds context new Pseudo h some =
    let none = ap (λ (es : Context). length es) h.0 in absurd (omega (arith, none))
no_close_by problem bounds context new (Asserted c place tuple) h some = h.1.0
no_close_by problem bounds context new SplitLeft h some = h.1.2.0
no_close_by problem bounds context new SplitRight h some = h.1.2.0

pub reason_of : (problem : ProblemValue) (bounds : Bounds) (context : Context) (new : EntryValue) → IsGrown problem bounds (add context new) → ReasonHolds problem bounds context new new.reason
reason_of problem bounds context new h = reasons_hold h context [] new refl

pub no_close_before : NoCloseBefore
no_close_before problem bounds context new some h =
    no_close_by problem bounds context new new.reason (reason_of problem bounds context new h) some

no_assert_by : (problem : ProblemValue) (bounds : Bounds) (context : Context) (new : EntryValue) (why : ReasonValue) → ReasonHolds problem bounds context new why → (why ≡ SplitLeft) ⊎ (why ≡ SplitRight) → ¬ HasAssert problem bounds context
no_assert_by problem bounds context new Pseudo h (inl e) = cc e
no_assert_by problem bounds context new Pseudo h (inr e) = cc e
no_assert_by problem bounds context new (Asserted c place tuple) h (inl e) = cc e
no_assert_by problem bounds context new (Asserted c place tuple) h (inr e) = cc e
no_assert_by problem bounds context new SplitLeft h e = h.1.2.1
no_assert_by problem bounds context new SplitRight h e = h.1.2.1

pub no_assert_before_split : NoAssertBeforeSplit
no_assert_before_split problem bounds context new h why =
    no_assert_by problem bounds context new new.reason (reason_of problem bounds context new h) why

-- ---- what comes later
later_by : (A B : Type 0) → ¬ A → A ⊎ B → B
later_by A B none (inl a) = absurd (none a)
later_by A B none (inr b) = b

pub later_closes_are_new : LaterClosesAreNew
later_closes_are_new problem context more c tuple none h =
    later_by _ _ (λ old. none (c, tuple, old)) (closes_by_pivot problem context more c tuple h)

pub later_asserts_are_new : LaterAssertsAreNew
later_asserts_are_new problem bounds context more c place tuple e none h =
    later_by _ _ (λ old. none (c, place, tuple, e, old)) (asserts_by_pivot problem bounds context more c place tuple e h)

pub least_new_close_is_least : LeastNewCloseIsLeast
least_new_close_is_least problem context more c tuple none h least =
    (h, λ c' tuple' g. least c' tuple' (later_closes_are_new problem context more c' tuple' none g) g)

pub no_new_close : NoNewClose
no_new_close problem context more none new_none h =
    new_none h.0 h.1 (later_closes_are_new problem context more h.0 h.1 none h.2) h.2
