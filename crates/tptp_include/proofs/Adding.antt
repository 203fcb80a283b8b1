-- Formulas that are added one by one.
use Rattle.std.proofs.Common.{◌≡◌, Bool, true, false, List, [], ◌∷◌, ◌++◌, length, Option, Some, None, refl, ap, ◌∙◌}
use Rattle.std.specs.Prelude.{if◌then◌else◌, nat_le, nat_lt}
use Rattle.std.specs.List.{list_any}
use Rattle.me_io.specs.declared.source.TheConstants.{MAX_BYTES}
use Rattle.me_terms.specs.LabelEquality.{same_label}
use Rattle.me_terms.specs.Values.{LabelValue}
use Rattle.tptp_grammar.specs.declared.limits.TheConstants.{MAX_FORMULAS}
use Rattle.tptp_include.specs.Flat.{FlatValue, text_of, picked}
use Rattle.tptp_include.specs.Outcomes.{Stop, Limit, Outcome, Flat, Stops, added}
use Rattle.tptp_include.specs.declared.error.FlatLimit.TheVariants as limit

abbrev pub chosen : Bool → Bool → Outcome → Outcome
chosen a b o = if a then Stops (Limit limit.Formulas) else (if b then Stops (Limit limit.Length) else o)

on_flat : (a b : Bool) (one : List FlatValue) (o : Outcome) (new : List FlatValue) → chosen a b (Flat one) ≡ Flat new → chosen a b o ≡ o × (one ≡ new)
on_flat true b one o new e = absurd cc
on_flat false true one o new e = absurd cc
on_flat false false one o new e = (refl, cc)

on_stop : (a b : Bool) (one : List FlatValue) (o : Outcome) (why : Stop) → chosen a b (Flat one) ≡ Stops why → chosen a b o ≡ Stops why
on_stop true b one o why e = e
on_stop false true one o why e = e
on_stop false false one o why e = absurd cc

-- the first formula is added, and then the others
pub added_on : (so_far : List FlatValue) (f : FlatValue) (more new : List FlatValue) → added so_far (f ∷ []) ≡ Flat new → added so_far (f ∷ more) ≡ added new more
added_on so_far f more new e =
    let h = on_flat (nat_le MAX_FORMULAS (length so_far)) (nat_lt MAX_BYTES (length (text_of (so_far ++ f ∷ [])))) (so_far ++ f ∷ []) (added (so_far ++ f ∷ []) more) new e in
    h.0 ∙ ap (λ (x : List FlatValue). added x more) h.1

-- the first formula passes a limit
pub stops_on : (so_far : List FlatValue) (f : FlatValue) (more : List FlatValue) (why : Stop) → added so_far (f ∷ []) ≡ Stops why → added so_far (f ∷ more) ≡ Stops why
stops_on so_far f more why e = on_stop (nat_le MAX_FORMULAS (length so_far)) (nat_lt MAX_BYTES (length (text_of (so_far ++ f ∷ [])))) (so_far ++ f ∷ []) (added (so_far ++ f ∷ []) more) why e

-- what is picked of one formula and others
pub picked_more : (picks : Option (List LabelValue)) (f : FlatValue) (more : List FlatValue) → picked picks (f ∷ more) ≡ picked picks (f ∷ []) ++ picked picks more
picked_more None f more = refl
picked_more (Some labels) f more = by (list_any (same_label f.label) labels)
  where
    by : (b : Bool) → (if b then f ∷ picked (Some labels) more else picked (Some labels) more) ≡ (if b then f ∷ [] else []) ++ picked (Some labels) more
    by true = refl
    by false = refl
