-- The steps of a cursor over the tuples of a clause.
use Rattle.std.proofs.Common.{◌≡◌, ℕ, ◌<◌, List, length, Option, Some, None, refl, sym, subst, ap, ◌∙◌}
use Rattle.std.proofs.lemmas.Option.{same_Some}
use Rattle.me_terms.specs.Context.{Context}
use Rattle.me_terms.specs.declared.atom.Literal.{Literal}
use Rattle.tuple_search.specs.declared.limits.Limits.{Limits}
use Rattle.tuple_search.specs.Enumeration.{IsNextTuple, IsLastTuple}
use Rattle.tuple_search.specs.Cursors.{CursorValue, IsAdvanced, IsAtEnd}
use Rattle.next_rule.proofs.Codes.{StandsAtOne, tuples_left, width, fewer_left}

-- A cursor over these, wherever it stands.
abbrev pub cursor_at : Context → List Literal → Option ℕ → Limits → Option (List ℕ) → CursorValue
cursor_at context literals skip limits at = record { context = context; literals = literals; skip = skip; limits = limits; at = at }

-- The cursor goes over the tuples of these.
pub record IsCursor (context : Context) (literals : List Literal) (skip : Option ℕ) (limits : Limits) (cursor : CursorValue) : Type 0 where
  pub same : cursor ≡ cursor_at context literals skip limits cursor.at
  pub stands_at_one : StandsAtOne context literals skip cursor.at

-- The cursor goes to the next tuple.
pub record Advances (context : Context) (literals : List Literal) (skip : Option ℕ) (limits : Limits) (old new : CursorValue) : Type 0 where
  pub tuple : List ℕ
  pub stands : new.at ≡ Some tuple
  pub is_next : IsNextTuple context literals skip limits old.at tuple
  pub over : IsCursor context literals skip limits new

-- how many tuples are left to it at most
abbrev pub cursor_left : CursorValue → ℕ
cursor_left cursor = tuples_left (length cursor.context) (width cursor.skip cursor.literals) cursor.at

module _ (context : Context) (literals : List Literal) (skip : Option ℕ) (limits : Limits) where
  pub cursor_new : (cursor : CursorValue) → cursor ≡ cursor_at context literals skip limits None → IsCursor context literals skip limits cursor
  cursor_new cursor e = let P : CursorValue → Type 0 = λ z. IsCursor context literals skip limits z in subst P (sym e) (record { same = refl; stands_at_one = tt })

  -- the literals may be written otherwise
  pub cursor_begun : (cursor : CursorValue) (written : List Literal) → cursor ≡ cursor_at context written skip limits None → written ≡ literals → IsCursor context literals skip limits cursor
  cursor_begun cursor written e same = cursor_new cursor (e ∙ ap (λ (z : List Literal). cursor_at context z skip limits None) same)

  pub cursor_unbegun : (cursor : CursorValue) → cursor ≡ cursor_at context literals skip limits None → cursor.at ≡ None
  cursor_unbegun cursor e = ap (λ (z : CursorValue). z.at) e

  next_of : (old : CursorValue) (t : List ℕ) → IsCursor context literals skip limits old → IsNextTuple old.context old.literals old.skip old.limits old.at t → IsNextTuple context literals skip limits old.at t
  next_of old t over h = let P : CursorValue → Type 0 = λ z. IsNextTuple z.context z.literals z.skip z.limits z.at t in subst P over.same h

  pub advances : (old new : CursorValue) → IsCursor context literals skip limits old → IsAdvanced old new → Advances context literals skip limits old new
  advances old new over found =
      let next = next_of old found.tuple over found.next in
      let stands : new.at ≡ Some found.tuple = ap (λ (z : CursorValue). z.at) found.moved in
      let P : Option (List ℕ) → Type 0 = λ z. StandsAtOne context literals skip z in
      record {
        tuple = found.tuple;
        stands = stands;
        is_next = next;
        over = record {
          same = found.moved ∙ (ap (λ (z : CursorValue). record z { at = Some found.tuple }) over.same ∙ ap (λ (z : Option (List ℕ)). cursor_at context literals skip limits z) (sym stands));
          stands_at_one = subst P (sym stands) next.unifier.1.opposite;
        };
      }

  -- a cursor with other limits stands where it stood
  pub limited : (old new : CursorValue) (least : Limits) → IsCursor context literals skip limits old → new ≡ record old { limits = least } → IsCursor context literals skip least new
  limited old new least over e =
      let stands : new.at ≡ old.at = ap (λ (z : CursorValue). z.at) e in
      let P : Option (List ℕ) → Type 0 = λ z. StandsAtOne context literals skip z in
      record {
        same = e ∙ (ap (λ (z : CursorValue). record z { limits = least }) over.same ∙ ap (λ (z : Option (List ℕ)). cursor_at context literals skip least z) (sym stands));
        stands_at_one = subst P (sym stands) over.stands_at_one;
      }

  -- the limits may be written otherwise
  pub limited_to : (old new : CursorValue) (written least : Limits) → new ≡ record old { limits = written } → written ≡ least → new ≡ record old { limits = least }
  limited_to old new written least e same = let P : Limits → Type 0 = λ z. new ≡ record old { limits = z } in subst P same e

  pub no_more : (cursor : CursorValue) → IsCursor context literals skip limits cursor → IsAtEnd cursor → IsLastTuple context literals skip limits cursor.at
  no_more cursor over h = let P : CursorValue → Type 0 = λ z. IsAtEnd z in subst P over.same h

  pub none_at_all : (cursor : CursorValue) (written : List Literal) → cursor ≡ cursor_at context written skip limits None → written ≡ literals → IsAtEnd cursor → IsLastTuple context literals skip limits None
  none_at_all cursor written e same h =
      let P : CursorValue → Type 0 = λ z. IsAtEnd z in
      subst P (e ∙ ap (λ (z : List Literal). cursor_at context z skip limits None) same) h

  -- the tuple that a new cursor goes to, shown and copied
  pub next_copied : (cursor new : CursorValue) (written : List Literal) (shown copied : List ℕ) → cursor ≡ cursor_at context written skip limits None → written ≡ literals → IsAdvanced cursor new → new.at ≡ Some shown → copied ≡ shown → IsNextTuple context literals skip limits None copied
  next_copied cursor new written shown copied e same found shows copy =
      let moves = advances cursor new (cursor_begun cursor written e same) found in
      let P : Option (List ℕ) × List ℕ → Type 0 = λ z. IsNextTuple context literals skip limits z.0 z.1 in
      let at : cursor.at ≡ None = ap (λ (z : CursorValue). z.at) e in
      let tuple : moves.tuple ≡ copied = same_Some moves.tuple shown (sym moves.stands ∙ shows) ∙ sym copy in
      subst P (λ i. (at i, tuple i)) moves.is_next

  left_same : (cursor : CursorValue) → IsCursor context literals skip limits cursor → cursor_left cursor ≡ tuples_left (length context) (width skip literals) cursor.at
  left_same cursor over = ap cursor_left over.same

  pub fewer : (old new : CursorValue) → IsCursor context literals skip limits old → Advances context literals skip limits old new → cursor_left new < cursor_left old
  fewer old new over moves =
      let less = fewer_left context literals skip limits old.at moves.tuple over.stands_at_one moves.is_next in
      let P : Option (List ℕ) → Type 0 = λ z. tuples_left (length context) (width skip literals) z < tuples_left (length context) (width skip literals) old.at in
      let Q : ℕ → Type 0 = λ z. z < cursor_left old in
      let R : ℕ → Type 0 = λ z. tuples_left (length context) (width skip literals) new.at < z in
      subst Q (sym (left_same new moves.over)) (subst R (sym (left_same old over)) (subst P (sym moves.stands) less))

  pub fewer_limited : (old moved new : CursorValue) (least : Limits) → IsCursor context literals skip limits old → Advances context literals skip limits old moved → new ≡ record moved { limits = least } → cursor_left new < cursor_left old
  fewer_limited old moved new least over moves e = let P : ℕ → Type 0 = λ z. z < cursor_left old in subst P (sym (ap cursor_left e)) (fewer old moved over moves)
