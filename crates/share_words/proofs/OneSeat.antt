-- What is known with one seat stays so where its lists grow.
use Rattle.std.proofs.Common.{◌≡◌, ℕ, ◌<◌, ◌≤◌, true, false, List, [], ◌∷◌, ◌++◌, refl, sym, subst, ◌∙◌, ⊎_elim, arith}
use Rattle.branch_core.specs.Paths.{Turns}
use Rattle.branch_core.specs.Core.{turns_eq}
use Rattle.share_words.specs.declared.plays.SeatView.{SeatView}
use Rattle.share_words.specs.Counts.{path_count}
use Rattle.share_words.specs.Views.{blank, new_view, with_fork, with_offered, with_raised, with_taken, with_ended, with_posted, with_looked, together}
use Rattle.share_words.specs.Rule.{IsSeat}
use Rattle.share_words.proofs.Counts.{many_append, one_or_other, path_count_here, path_count_else}

-- A list that a longer one begins with has a path no more often.
pub no_less : (path : Turns) (xs ys : List Turns) (n : ℕ) → n ≤ path_count path xs → n ≤ path_count path (xs ++ ys)
no_less path xs ys n h = omega (arith, h, many_append (turns_eq path) xs ys)

-- One path more, which stands in the longer list and not in the shorter one.
pub one_more : (path : Turns) (few all : List Turns) → 0 < path_count path all → path_count path few ≡ 0 → ((other : Turns) → path_count other few ≤ path_count other all) → (other : Turns) → path_count other (few ++ path ∷ []) ≤ path_count other all
one_more path few all there new most other =
    ⊎_elim
    (λ (e : other ≡ path). let P : Turns → Type 0 = λ t. path_count t (few ++ path ∷ []) ≤ path_count t all in subst P (sym e) (omega (arith, there, new, path_count_here path few)))
    (λ (n : turns_eq other path ≡ false). omega (arith, most other, path_count_else path other few n))
    (one_or_other other path)

module _ (v : SeatView) (unspent : v.spent ≡ false) (seat : IsSeat v) where
  not_spent : (w : SeatView) → v.spent ≡ true → w ≡ blank
  not_spent w h = absurd (let e : true ≡ false = sym h ∙ unspent in cc)

  pub seat_offered : (path : Turns) → IsSeat (with_offered v path)
  seat_offered path = record { raised = λ other. no_less other v.offered (path ∷ []) (path_count other v.raised) (seat.raised other); ended = seat.ended; others = seat.others; spent = not_spent (with_offered v path) }

  pub seat_taken : (path : Turns) → IsSeat (with_taken v path)
  seat_taken path = record { raised = seat.raised; ended = λ other. no_less other v.taken (path ∷ []) (path_count other v.ended) (seat.ended other); others = seat.others; spent = not_spent (with_taken v path) }

  pub seat_raised : (path : Turns) → 0 < path_count path v.offered → path_count path v.raised ≡ 0 → IsSeat (with_raised v path)
  seat_raised path there new = record { raised = one_more path v.raised v.offered there new seat.raised; ended = seat.ended; others = seat.others; spent = not_spent (with_raised v path) }

  pub seat_ended : (path : Turns) → 0 < path_count path v.taken → path_count path v.ended ≡ 0 → IsSeat (with_ended v path)
  seat_ended path there new = record { raised = seat.raised; ended = one_more path v.ended v.taken there new seat.ended; others = seat.others; spent = not_spent (with_ended v path) }

  pub seat_posted : (key : ℕ) → IsSeat (with_posted v key)
  seat_posted key = record { raised = seat.raised; ended = seat.ended; others = seat.others; spent = not_spent (with_posted v key) }

  pub seat_looked : (key : ℕ) → IsSeat (with_looked v key)
  seat_looked key = record { raised = seat.raised; ended = seat.ended; others = seat.others; spent = not_spent (with_looked v key) }

  pub seat_forked : v.number ≡ 0 → IsSeat (with_fork v)
  seat_forked first = record { raised = seat.raised; ended = seat.ended; others = λ n. absurd (n first); spent = not_spent (with_fork v) }

  pub seat_together : (w : SeatView) → v.number ≡ 0 → IsSeat w → IsSeat (together v w)
  seat_together w first other = record {
    raised = λ path. omega (arith, seat.raised path, other.raised path, many_append (turns_eq path) v.offered w.offered, many_append (turns_eq path) v.raised w.raised);
    ended = λ path. omega (arith, seat.ended path, other.ended path, many_append (turns_eq path) v.taken w.taken, many_append (turns_eq path) v.ended w.ended);
    others = λ n. absurd (n first);
    spent = λ h. absurd (let e : true ≡ false = sym h in cc);
  }

pub seat_new : (n : ℕ) → IsSeat (new_view n)
seat_new n = record { raised = λ path. omega arith; ended = λ path. omega arith; others = λ h. (refl, refl); spent = λ h. absurd (let e : true ≡ false = sym h in cc) }

pub seat_blank : IsSeat blank
seat_blank = record { raised = λ path. omega arith; ended = λ path. omega arith; others = λ h. (refl, refl); spent = λ h. refl }
