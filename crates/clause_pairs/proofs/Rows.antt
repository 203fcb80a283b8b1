-- The lists as the program keeps them, as one of them is changed.
use Rattle.std.proofs.Common.{◌≡◌, ℕ, ◌<◌, List, [], length, get_or, sym, ap, ◌∙◌, arith}
use Rattle.std.specs.Prelude.{slice_set, Result, Ok, Err, OnOk, OnErr}
use Rattle.std.specs.Vec.{with_item}
use Rattle.std.specs.declared.vec.Vec.{Vec}
use Rattle.std.specs.declared.alloc.Global.{Global}
use Rattle.std.proofs.lemmas.List.{map-set, get_or-map, length-map, set-get_or}
use Rattle.clause_pairs.specs.declared.clause_place.ClausePlace.{ClausePlace}
use Rattle.clause_pairs.specs.Values.{numbers_of, lists_of}
use Rattle.clause_pairs.specs.Lists.{HasPlace, list_at, put}

abbrev row_of : Vec (Vec ℕ Global) Global → List (List ℕ)
row_of v = numbers_of v.items

abbrev list_of : Vec ℕ Global → List ℕ
list_of v = v.items

module _ (lists : List (Vec (Vec ℕ Global) Global)) (q : ClausePlace) (row : Vec (Vec ℕ Global) Global) (has : HasPlace (lists_of lists) q) (is_row : row ≡ get_or lists q.clause row) where
  within : q.clause < length lists
  within = let lt = has.0 in let len = length-map lists row_of in omega (arith, lt, len)

  row_is : get_or (lists_of lists) q.clause [] ≡ row_of row
  row_is = get_or-map row_of lists q.clause row [] within ∙ ap row_of (sym is_row)

  place_within : q.place < length row.items
  place_within =
      let lt = has.1 in
      let len = length-map row.items list_of in
      let same = ap length row_is in
      omega (arith, lt, len, same)

  pub changed : (f : List ℕ → List ℕ) (old new : Vec ℕ Global) → old ≡ get_or row.items q.place old → new.items ≡ f old.items → lists_of (slice_set lists q.clause (with_item row q.place new)) ≡ put f (lists_of lists) q
  changed f old new is_old is_new =
      let list_is : list_at (lists_of lists) q ≡ old.items = ap (λ z. get_or z q.place []) row_is ∙ (get_or-map list_of row.items q.place old [] place_within ∙ ap list_of (sym is_old)) in
      let inner : row_of (with_item row q.place new) ≡ slice_set (row_of row) q.place new.items = map-set list_of row.items q.place new in
      let same : slice_set (row_of row) q.place new.items ≡ slice_set (get_or (lists_of lists) q.clause []) q.place (f (list_at (lists_of lists) q)) =
      ap (λ z. slice_set z q.place new.items) (sym row_is) ∙ ap (λ z. slice_set (get_or (lists_of lists) q.clause []) q.place z) (is_new ∙ ap f (sym list_is)) in
      map-set row_of lists q.clause (with_item row q.place new) ∙ ap (λ z. slice_set (lists_of lists) q.clause z) (inner ∙ same)

  pub unchanged : (old new : Vec ℕ Global) → old ≡ get_or row.items q.place old → new.items ≡ old.items → lists_of (slice_set lists q.clause (with_item row q.place new)) ≡ lists_of lists
  unchanged old new is_old is_new =
      changed (λ z. z) old new is_old is_new
      ∙ (ap (λ z. slice_set (lists_of lists) q.clause z) (set-get_or (get_or (lists_of lists) q.clause []) q.place []) ∙ set-get_or (lists_of lists) q.clause [])

-- ---- results
pub on_ok : {T E : Type 0} (r : Result T E) (P Q : Type 0) → (P → Q) → OnOk r P → OnOk r Q
on_ok (Ok a) P Q f h = f h
on_ok (Err e) P Q f h = h

pub on_err : {T E : Type 0} (r : Result T E) (P Q : Type 0) → (P → Q) → OnErr r P → OnErr r Q
on_err (Ok a) P Q f h = h
on_err (Err e) P Q f h = f h
