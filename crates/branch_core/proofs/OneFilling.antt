-- There is at most one way to fill in the gifts.
use Rattle.std.proofs.Common.{◌≡◌, ℕ, List, ◌∷◌, ◌++◌, Some, slice_get, refl, sym, subst, ap, ◌∙◌}
use Rattle.branch_core.specs.Paths.{Turns}
use Rattle.branch_core.specs.Parts.{PartValue, Gift, RecordValue}
use Rattle.branch_core.specs.Whole.{IsIn}
use Rattle.branch_core.specs.Filled.{IsNoGift, Filled, none_left, own, put}
use Rattle.branch_core.specs.Assemble.{CanAssemble, ArePartsOf}
use Rattle.branch_core.proofs.Assembly.{heads}

module _ (records : List RecordValue) (whole : CanAssemble records) where
  -- there is one record of a path
  pub one_record : (r s : RecordValue) → IsIn r records → IsIn s records → r.path ≡ s.path → r ≡ s
  one_record r s g h e =
      let P : ℕ → Type 0 = λ k. slice_get records k ≡ Some r in
      let here : slice_get records h.0 ≡ Some r = subst P (whole.once r s g.0 h.0 g.1 h.1 e) g.1 in
      cc (here, h.1)

  no_gift : (first : PartValue) (turns : Turns) → IsNoGift first → first ≡ Gift turns → ⊥
  no_gift first turns plain e = subst IsNoGift e plain

  same_turns : (s t : Turns) → Gift s ≡ Gift t → s ≡ t
  same_turns s t e = cc

  pub one_filling : {ps qs xs ys : List PartValue} → Filled records ps xs → Filled records qs ys → ps ≡ qs → xs ≡ ys
  one_filling none_left none_left e = refl
  one_filling none_left (own {first = first} {parts = parts} plain later) e = cc
  one_filling none_left (put {gift = gift} {parts = parts} is_in inside later) e = cc
  one_filling (own {first = first} {parts = parts} plain later) none_left e = cc
  one_filling (own {first = first} {parts = parts} plain later) (own {first = other} {parts = others} plain' later') e =
      let same = heads first other parts others e in λ i. same.0 i ∷ one_filling later later' same.1 i
  one_filling (own {first = first} {parts = parts} plain later) (put {gift = gift} {parts = others} is_in inside later') e =
      absurd (no_gift first gift.path plain (heads first (Gift gift.path) parts others e).0)
  one_filling (put {gift = gift} {parts = parts} is_in inside later) none_left e = cc
  one_filling (put {gift = gift} {parts = parts} is_in inside later) (own {first = first} {parts = others} plain later') e =
      absurd (no_gift first gift.path plain (sym (heads (Gift gift.path) first parts others e).0))
  one_filling (put {gift = gift} {parts = parts} is_in inside later) (put {gift = other} {parts = others} is_in' inside' later') e =
      let same = heads (Gift gift.path) (Gift other.path) parts others e in
      let record' : gift ≡ other = one_record gift other is_in is_in' (same_turns gift.path other.path same.0) in
      λ i. one_filling inside inside' (ap (λ (r : RecordValue). r.parts) record') i ++ one_filling later later' same.1 i

  pub same_parts : (path : Turns) (xs ys : List PartValue) → ArePartsOf records path xs → ArePartsOf records path ys → xs ≡ ys
  same_parts path xs ys g h =
      one_filling g.3 h.3 (ap (λ (r : RecordValue). r.parts) (one_record g.0 h.0 g.1 h.1 (g.2 ∙ sym h.2)))
