-- The closed run of the example is orderly, and its records are whole.
use Rattle.std.proofs.Common.{◌≡◌, ℕ, ◌<◌, ◌≤◌, inl, inr, true, false, List, [], ◌∷◌, Some, refl, sym, ap, subst, ◌∙◌, arith}
use Rattle.me_terms.specs.Context.{Context}
use Rattle.me_terms.specs.Outcome.{TreeOutcome}
use Rattle.me_terms.specs.Outcome as outcome
use Rattle.branch_core.specs.Core.{Actor, Held, Offered, CoreValue, Offer, Take, Post, End, first_core, after}
use Rattle.branch_core.specs.Joined.{as_they_are}
use Rattle.branch_core.specs.Paths.{Turns, key}
use Rattle.branch_core.specs.Pieces.{Sat, Gift, Cut}
use Rattle.branch_core.specs.Replaced.{own_leaf, own_node, given, cut}
use Rattle.branch_core.specs.Runs.{Offering, Posting, Log, no_log, Begins, IsPosted, EndsOrderly, IsOrderly, begins, offers, takes, posts, cuts, ends, HasNoneLeft}
use Rattle.branch_core.specs.SearchTree.{SearchTree, Leaf}
use Rattle.branch_core.specs.StandsFor.{Account, StandsFor}
use Rattle.branch_core.specs.Whole.{IsIn}
use Rattle.branch_core.proofs.Orderly.{closed_runs}
use Rattle.run_laws.specs.ClosedRun.{left_child, right_child, gift_parts, one_split, last_core, accounts, whole_log, ClosedRunExists}
use Rattle.run_laws.proofs.Members.{has, only, either}

module _ (list_bound : ℕ) (context : Context) (other : TreeOutcome) where
  abbrev search : SearchTree
  search = one_split context other

  abbrev offering : Offering
  offering = record { parent = []; path = right_child }

  abbrev posting : Posting
  posting = record { path = []; leaf = left_child; context = context }

  abbrev dropped : Account
  dropped = record { path = right_child; pieces = Cut right_child (key left_child) ∷ [] }

  abbrev kept : Account
  kept = record { path = []; pieces = Sat left_child context ∷ Gift right_child ∷ [] }

  not_below : (gift : Turns) → IsIn (record { parent = []; path = gift }) (offering ∷ []) → ¬ Begins gift left_child
  not_below gift h b =
      let same : gift ≡ right_child = ap (λ (o : Offering). o.path) (only _ offering h) in
      apart (subst (λ (t : Turns). Begins t left_child) same b)
    where
      apart : ¬ Begins right_child left_child
      apart b = cc (b.1)

  dropped_stands : StandsFor (IsPosted (posting ∷ [])) search dropped
  dropped_stands = record { own = Leaf other; leaves = Cut right_child (key left_child) ∷ []; at_path = refl; replaced = cut (posting, (0, refl), refl, tt); joined = as_they_are }

  no_gift : (gift turns : Turns) (k : ℕ) → Gift gift ≡ Cut turns k → ⊥
  no_gift gift turns k e = cc

  no_offer : (gift : Turns) → record { parent = right_child; path = gift } ≡ offering → ⊥
  no_offer gift e = apart (ap (λ (o : Offering). o.parent) e)
    where
      apart : right_child ≡ [] → ⊥
      apart h = cc

  dropped_orderly : EndsOrderly search (offering ∷ []) (posting ∷ []) dropped
  dropped_orderly = record {
    stands = dropped_stands;
    gifts_offered = λ gift h. absurd (no_gift gift right_child (key left_child) (only _ _ h));
    offered_given = λ gift h. absurd (no_offer gift (only _ offering h));
    posted_found = λ p h at. absurd (elsewhere (ap (λ (x : Posting). x.path) (sym (only p posting h)) ∙ at));
  }
    where
      elsewhere : [] ≡ right_child → ⊥
      elsewhere e = cc

  kept_stands : StandsFor (IsPosted (posting ∷ [])) search kept
  kept_stands = record { own = one_split context other; leaves = Sat left_child context ∷ Gift right_child ∷ []; at_path = refl; replaced = own_node own_leaf given; joined = as_they_are }

  the_gift : (gift : Turns) → IsIn (Gift gift) kept.pieces → gift ≡ right_child
  the_gift gift h = elim (either _ _ _ h) as (λ _. gift ≡ right_child) [ inl e ↦ absurd (no_sat e) | inr e ↦ same e ]
    where
      no_sat : Gift gift ≡ Sat left_child context → ⊥
      no_sat e = cc

      same : Gift gift ≡ Gift right_child → gift ≡ right_child
      same e = cc

  kept_orderly : EndsOrderly search (offering ∷ []) (posting ∷ []) kept
  kept_orderly = record {
    stands = kept_stands;
    gifts_offered = λ gift h. (0, ap (λ (t : Turns). Some (record { parent = []; path = t })) (sym (the_gift gift h)));
    offered_given = λ gift h. (1, ap (λ (t : Turns). Some (Gift t)) (sym (ap (λ (o : Offering). o.path) (only _ offering h))));
    posted_found = λ p h at. (0, ap (λ (x : Posting). Some (Sat x.leaf x.context)) (sym (only p posting h)));
  }

  abbrev log : List Turns → List Offering → List Posting → List Account → Log
  log taken offerings postings accounts = record { taken = taken; offerings = offerings; postings = postings; accounts = accounts }

  -- the core behind each event
  abbrev taken_core : CoreValue
  taken_core = after (first_core 1) (Take 1 [])

  abbrev offered_core : CoreValue
  offered_core = after taken_core (Offer 1 [] right_child)

  abbrev shared_core : CoreValue
  shared_core = after offered_core (Take 2 right_child)

  abbrev posted_core : CoreValue
  posted_core = after shared_core (Post 1 (key left_child))

  abbrev half_core : CoreValue
  half_core = after posted_core (End 2 right_child gift_parts)

  taken : IsOrderly list_bound 1 search taken_core (log ([] ∷ []) [] [] [])
  taken = takes {core = first_core 1} {log = no_log} 1 [] begins refl

  offered : IsOrderly list_bound 1 search offered_core (log ([] ∷ []) (offering ∷ []) [] [])
  offered = offers {core = taken_core} {log = log ([] ∷ []) [] [] []} 1 [] right_child taken (record { held = refl; extends = (true, [], refl); to_right = ([], refl); short = one; unknown = refl }) (
    [],
    Leaf (outcome.Sat context),
    Leaf other,
    record { below = ([], refl); not_given = λ gift h. absurd (has _ [] h) },
    refl,
    refl,
  )
    where
      one : 1 ≤ 1
      one = omega arith

  shared : IsOrderly list_bound 1 search shared_core (log ([] ∷ right_child ∷ []) (offering ∷ []) [] [])
  shared = takes {core = offered_core} {log = log ([] ∷ []) (offering ∷ []) [] []} 2 right_child offered refl

  told : IsOrderly list_bound 1 search posted_core (log ([] ∷ right_child ∷ []) (offering ∷ []) (posting ∷ []) [])
  told = posts {core = shared_core} {log = log ([] ∷ right_child ∷ []) (offering ∷ []) [] []} 1 posting shared refl (record { below = (left_child, refl); not_given = not_below }, refl)

  left_out : IsOrderly list_bound 1 search posted_core (log ([] ∷ right_child ∷ []) (offering ∷ []) (posting ∷ []) [])
  left_out = cuts {core = posted_core} {log = log ([] ∷ right_child ∷ []) (offering ∷ []) (posting ∷ []) []} 2 right_child (key left_child) told (refl, less)
    where
      less : 0 < 32768
      less = omega arith

  half : IsOrderly list_bound 1 search half_core (log ([] ∷ right_child ∷ []) (offering ∷ []) (posting ∷ []) (dropped ∷ []))
  half = ends {core = posted_core} {log = log ([] ∷ right_child ∷ []) (offering ∷ []) (posting ∷ []) []} 2 dropped left_out refl dropped_orderly

  orderly : IsOrderly list_bound 1 search (last_core context) (whole_log context)
  orderly = ends {core = half_core} {log = log ([] ∷ right_child ∷ []) (offering ∷ []) (posting ∷ []) (dropped ∷ [])} 1 kept half refl kept_orderly

  none_left : HasNoneLeft (last_core context)
  none_left = record { none_offered = none; none_held = held }
    where
      none : (path : Turns) → ¬ ((last_core context).states path ≡ Offered)
      none [] e = cc
      none (true ∷ []) e = cc
      none (true ∷ t ∷ path) e = cc
      none (false ∷ path) e = cc

      held : (path : Turns) (by : Actor) → ¬ ((last_core context).states path ≡ Held by)
      held [] by e = cc
      held (true ∷ []) by e = cc
      held (true ∷ t ∷ path) by e = cc
      held (false ∷ path) by e = cc

pub closed_run : ClosedRunExists
closed_run list_bound context other = record {
  orderly = orderly list_bound context other;
  none_left = none_left list_bound context other;
  whole = closed_runs list_bound (one_split context other) (last_core context).kept (1, last_core context, whole_log context, orderly list_bound context other, none_left list_bound context other, refl);
}
