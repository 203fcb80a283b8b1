-- Bytes are one list of lines at most, or are refused at one place for one cause.
use Rattle.std.proofs.Common.{◌≡◌, ◌⊎◌, inl, inr, ℕ, List, [], ◌∷◌, ◌++◌, length, map, refl, sym, ap, subst, ◌∙◌, append_assoc, arith}
use Rattle.std.proofs.lemmas.List.{append-nil, map-append}
use Rattle.tptp_tokens.specs.Gaps.{IsGap}
use Rattle.tptp_tokens.specs.Remainders.{Remainder}
use Rattle.tptp_tokens.specs.Tokens.{PlacedToken, IsNextToken, IsCutFrom, IsCut}
use Rattle.tptp_tokens.proofs.OneCut.{one_gap, first_takes, one_next, one_cut_from}
use Rattle.tptp_grammar.specs.Terminals.{Terminal, terminal, terminals}
use Rattle.tptp_grammar.specs.Machine.{Between}
use Rattle.tptp_grammar.specs.Readings.{Reading}
use Rattle.tptp_grammar.specs.declared.refusal.Refusal.{Refusal}
use Rattle.tptp_grammar.specs.declared.refusal.Refusal.TheVariants as refusal
use Rattle.tptp_cnf.specs.Causes.{AreFirstTokens}
use Rattle.tptp_cnf.proofs.Reached.{all_of, front_more}
use Rattle.tptp_lines.specs.WrittenLines.{lines_terminals}
use Rattle.tptp_lines.specs.Lines.{LineValue, Piece, tokens_of, lines_of, piece_value, AreLines}
use Rattle.tptp_lines.specs.LineCauses.{IsRefusedToken, EndsEarly, LinesRefusedAt}
use Rattle.tptp_lines.specs.declared.stage.Stage.{Stage}
use Rattle.tptp_lines.specs.declared.stage.Stage.TheVariants as stage
use Rattle.tptp_lines.proofs.Parsing.{one_parse}
use Rattle.tptp_lines.proofs.Reached.{split}
use Rattle.tptp_lines.proofs.Taking.{Way, On, Off, take, takes, takes-append, start, whole_lines, Stops, stops, Short, short}

-- ---- one list of lines

pub one_lines : (bytes : List ℕ) (lines others : List LineValue) → AreLines bytes lines → AreLines bytes others → lines ≡ others
one_lines bytes lines others h k = h.values ∙ one_parse h.pieces k.pieces (one_cut_from (all_of bytes) (tokens_of h.pieces) (tokens_of k.pieces) h.cut k.cut) ∙ sym k.values

-- ---- fronts of one list of tokens

none_left : (now : Remainder) (p : PlacedToken) (l : Remainder) → IsGap now.bytes [] → IsNextToken now p l → ⊥
none_left now p l g h = let e = one_gap now.bytes [] h.middle g h.gap in let lt = first_takes p.token h.middle l.bytes h.first in absurd (omega (arith, ap length e))

-- the cut begins with a front
cut_front : (now : Remainder) (all tokens : List PlacedToken) (left : Remainder) → IsCutFrom now all → AreFirstTokens tokens now left → (more : List PlacedToken) × (all ≡ tokens ++ more)
cut_front now all [] left c b = (all, refl)
cut_front now [] (t ∷ tokens) left c b = absurd (none_left now t b.0 c b.1)
cut_front now (a ∷ all) (t ∷ tokens) left c b =
    let n = one_next now a t c.0 b.0 c.1 b.1 in
    let k = cut_front b.0 all tokens left (subst (λ (x : Remainder). IsCutFrom x all) n.left c.2) b.2 in
    (k.0, ap (λ (x : PlacedToken). x ∷ all) n.token ∙ ap (λ (x : List PlacedToken). t ∷ x) k.1)

-- of two fronts one goes on as the other
abbrev Meet : List PlacedToken → List PlacedToken → Type 0
Meet xs ys = ((more : List PlacedToken) × (ys ≡ xs ++ more)) ⊎ ((more : List PlacedToken) × (xs ≡ ys ++ more))

meet : (now : Remainder) (xs ys : List PlacedToken) (l m : Remainder) → AreFirstTokens xs now l → AreFirstTokens ys now m → Meet xs ys
meet now [] ys l m b c = inl (ys, refl)
meet now (x ∷ xs) [] l m b c = inr (x ∷ xs, refl)
meet now (x ∷ xs) (y ∷ ys) l m b c =
    let n = one_next now x y b.0 c.0 b.1 c.1 in
    on n.token (meet c.0 xs ys l m (subst (λ (z : Remainder). AreFirstTokens xs z l) n.left b.2) c.2)
  where
    on : x ≡ y → Meet xs ys → Meet (x ∷ xs) (y ∷ ys)
    on e (inl h) = inl (h.0, ap (λ (z : PlacedToken). z ∷ ys) (sym e) ∙ ap (λ (z : List PlacedToken). x ∷ z) h.1)
    on e (inr h) = inr (h.0, ap (λ (z : PlacedToken). z ∷ xs) e ∙ ap (λ (z : List PlacedToken). y ∷ z) h.1)

terminals-push : (xs : List PlacedToken) (p : PlacedToken) (more : List PlacedToken) → terminals ((xs ++ p ∷ []) ++ more) ≡ terminals xs ++ terminal p.token ∷ terminals more
terminals-push xs p more = ap terminals (append_assoc xs (p ∷ []) more) ∙ map-append (λ placed. terminal placed.token) xs (p ∷ more)

-- ---- what the reader does with a refused token

-- the tokens go on behind a refused one
stays_off : (why : Refusal) (before : List Terminal) (t : Terminal) (more : List Terminal) → Stops why before t → takes start (before ++ t ∷ more) ≡ Off why
stays_off why before t more h = takes-append start before (t ∷ more) ∙ ap (λ (x : Way). takes x (t ∷ more)) h.goes ∙ ap (λ (x : Way). takes x more) h.off ∙ off more
  where
    off : (more : List Terminal) → takes (Off why) more ≡ Off why
    off more = refl

on_off : (r : Reading) (s : Stage) (why : Refusal) → On r s ≡ Off why → ⊥
on_off r s why e = cc

stop_of : (why : Refusal) (at : ℕ) (bytes : List ℕ) (h : IsRefusedToken why at bytes) → Stops why (terminals h.before) (terminal h.token.token)
stop_of why at bytes h = stops why (terminals h.before) (terminal h.token.token) h.refused

-- ---- one cause

one_off : (x y : Refusal) → Off x ≡ Off y → x ≡ y
one_off x y e = cc

last_one : (xs ys : List PlacedToken) (p q : PlacedToken) → xs ++ p ∷ [] ≡ ys ++ q ∷ [] → (xs ≡ ys) × (p ≡ q)
last_one [] [] p q e = (refl, cc)
last_one [] (y ∷ []) p q e = absurd cc
last_one [] (y ∷ z ∷ ys) p q e = absurd cc
last_one (x ∷ []) [] p q e = absurd cc
last_one (x ∷ z ∷ xs) [] p q e = absurd cc
last_one (x ∷ xs) (y ∷ ys) p q e =
    let head : x ≡ y = cc in
    let tails : xs ++ p ∷ [] ≡ ys ++ q ∷ [] = cc in
    let h = last_one xs ys p q tails in
    (ap (λ (z : PlacedToken). z ∷ xs) head ∙ ap (λ (z : List PlacedToken). y ∷ z) h.0, h.1)

-- a list that ends is another one that ends with the same tokens behind it, or its own tokens before the end go on as that one
pushed : (ys : List PlacedToken) (q : PlacedToken) (xs more : List PlacedToken) → ys ++ q ∷ [] ≡ xs ++ more → (more ≡ []) ⊎ ((rest : List PlacedToken) × (ys ≡ xs ++ rest))
pushed [] q [] more e = inr ([], refl)
pushed (y ∷ ys) q [] more e = inr (y ∷ ys, refl)
pushed [] q (x ∷ []) more e = inl (sym (let tails : [] ≡ more = cc in tails))
pushed [] q (x ∷ z ∷ xs) more e = absurd cc
pushed (y ∷ ys) q (x ∷ xs) more e =
    let head : y ≡ x = cc in
    let tails : ys ++ q ∷ [] ≡ xs ++ more = cc in
    by head (pushed ys q xs more tails)
  where
    by : y ≡ x → (more ≡ []) ⊎ ((rest : List PlacedToken) × (ys ≡ xs ++ rest)) → (more ≡ []) ⊎ ((rest : List PlacedToken) × (y ∷ ys ≡ (x ∷ xs) ++ rest))
    by k (inl n) = inl n
    by k (inr h) = inr (h.0, ap (λ (z : PlacedToken). z ∷ ys) k ∙ ap (λ (z : List PlacedToken). x ∷ z) h.1)

-- two refused tokens, the second of which is not before the first
same_token : (why other : Refusal) (at place : ℕ) (bytes : List ℕ) (h : IsRefusedToken why at bytes) (k : IsRefusedToken other place bytes) (more : List PlacedToken) → k.before ++ k.token ∷ [] ≡ (h.before ++ h.token ∷ []) ++ more → (why ≡ other) × (at ≡ place)
same_token why other at place bytes h k more e = by (pushed k.before k.token (h.before ++ h.token ∷ []) more e)
  where
    first : Stops why (terminals h.before) (terminal h.token.token)
    first = stop_of why at bytes h

    second : Stops other (terminals k.before) (terminal k.token.token)
    second = stop_of other place bytes k

    by : (more ≡ []) ⊎ ((rest : List PlacedToken) × (k.before ≡ (h.before ++ h.token ∷ []) ++ rest)) → (why ≡ other) × (at ≡ place)
    by (inr r) = absurd (on_off second.reading second.at why (sym second.goes ∙ ap (λ (x : List PlacedToken). takes start (terminals x)) r.1 ∙ ap (takes start) (terminals-push h.before h.token r.0) ∙ stays_off why (terminals h.before) (terminal h.token.token) (terminals r.0) first))
    by (inl n) =
        let same : h.before ++ h.token ∷ [] ≡ k.before ++ k.token ∷ [] = sym (append-nil (h.before ++ h.token ∷ [])) ∙ ap (λ (x : List PlacedToken). (h.before ++ h.token ∷ []) ++ x) (sym n) ∙ sym e in
        let l = last_one h.before k.before h.token k.token same in (
          one_off why other (sym (stays_off why (terminals h.before) (terminal h.token.token) [] first) ∙ ap (λ (x : List PlacedToken). takes start (terminals x ++ terminal h.token.token ∷ [])) l.0
              ∙ ap (λ (x : PlacedToken). takes start (terminals k.before ++ terminal x.token ∷ [])) l.1 ∙ stays_off other (terminals k.before) (terminal k.token.token) [] second),
          h.place ∙ ap (λ (p : PlacedToken). p.at) l.1 ∙ sym k.place,
        )

two_tokens : (why other : Refusal) (at place : ℕ) (bytes : List ℕ) → IsRefusedToken why at bytes → IsRefusedToken other place bytes → (why ≡ other) × (at ≡ place)
two_tokens why other at place bytes h k =
    by (meet (all_of bytes) (h.before ++ h.token ∷ []) (k.before ++ k.token ∷ []) h.rest k.rest (front_more (all_of bytes) h.before h.left h.token h.rest h.front h.next) (front_more (all_of bytes) k.before k.left k.token k.rest k.front k.next))
  where
    by : Meet (h.before ++ h.token ∷ []) (k.before ++ k.token ∷ []) → (why ≡ other) × (at ≡ place)
    by (inl m) = same_token why other at place bytes h k m.0 m.1
    by (inr m) = let s = same_token other why place at bytes k h m.0 m.1 in (sym s.0, sym s.1)

-- the reader refuses all tokens of the bytes, where one of them is refused
all_off : (why : Refusal) (at : ℕ) (bytes : List ℕ) → IsRefusedToken why at bytes → (all : List PlacedToken) → IsCut bytes all → takes start (terminals all) ≡ Off why
all_off why at bytes h all c =
    let k = cut_front (all_of bytes) all (h.before ++ h.token ∷ []) h.rest c (front_more (all_of bytes) h.before h.left h.token h.rest h.front h.next) in
    ap (λ (x : List PlacedToken). takes start (terminals x)) k.1 ∙ ap (takes start) (terminals-push h.before h.token k.0) ∙ stays_off why (terminals h.before) (terminal h.token.token) (terminals k.0) (stop_of why at bytes h)

not_both : (why : Refusal) (at place : ℕ) (bytes : List ℕ) → IsRefusedToken why at bytes → EndsEarly place bytes → ⊥
not_both why at place bytes h k =
    let s = short (terminals k.tokens) k.short in
    on_off s.reading s.at why (sym s.goes ∙ all_off why at bytes h k.tokens k.cut)

-- why bytes are refused: a token, or that the file ends too early
abbrev Either : Refusal → ℕ → List ℕ → Type 0
Either why at bytes = IsRefusedToken why at bytes ⊎ ((why ≡ refusal.Syntax) × EndsEarly at bytes)

either : (why : Refusal) (at : ℕ) (bytes : List ℕ) → LinesRefusedAt why at bytes → Either why at bytes
either refusal.Syntax at bytes (inl h) = inl h
either refusal.Syntax at bytes (inr h) = inr (refl, h)
either (refusal.Inappropriate w) at bytes h = inl h
either (refusal.Limit w) at bytes h = inl h

one_of : (bytes : List ℕ) (why other : Refusal) (at place : ℕ) → Either why at bytes → Either other place bytes → (why ≡ other) × (at ≡ place)
one_of bytes why other at place (inl h) (inl k) = two_tokens why other at place bytes h k
one_of bytes why other at place (inl h) (inr k) = absurd (not_both why at place bytes h k.1)
one_of bytes why other at place (inr h) (inl k) = absurd (not_both other place at bytes k h.1)
one_of bytes why other at place (inr h) (inr k) = (h.0 ∙ sym k.0, h.1.place ∙ sym k.1.place)

pub one_cause : (bytes : List ℕ) (why other : Refusal) (at place : ℕ) → LinesRefusedAt why at bytes → LinesRefusedAt other place bytes → (why ≡ other) × (at ≡ place)
one_cause bytes why other at place h k = one_of bytes why other at place (either why at bytes h) (either other place bytes k)

-- ---- refused bytes are no lines

-- the reader goes on over the tokens of lines, and then is between two
record Whole (tokens : List Terminal) : Type 0 where
  pub reading : Reading
  pub goes : takes start tokens ≡ On reading stage.Formula
  pub between : reading.state ≡ Between

whole : (bytes : List ℕ) (lines : List LineValue) (h : AreLines bytes lines) → Whole (terminals (tokens_of h.pieces))
whole bytes lines h =
    let w = whole_lines (lines_of h.pieces) h.within in
    let all : terminals (tokens_of h.pieces) ≡ lines_terminals (lines_of h.pieces) = ap terminals (sym (append-nil (tokens_of h.pieces))) ∙ split h.pieces [] ∙ append-nil (lines_terminals (lines_of h.pieces)) in
    record { reading = w.reading; goes = ap (takes start) all ∙ w.goes; between = w.between }

same_on : (r u : Reading) (s v : Stage) → On r s ≡ On u v → (r ≡ u) × (s ≡ v)
same_on r u s v e = (cc, cc)

no_lines : (bytes : List ℕ) (why : Refusal) (at : ℕ) (lines : List LineValue) → Either why at bytes → AreLines bytes lines → ⊥
no_lines bytes why at lines (inl h) f = let w = whole bytes lines f in on_off w.reading stage.Formula why (sym w.goes ∙ all_off why at bytes h (tokens_of f.pieces) f.cut)
no_lines bytes why at lines (inr h) f =
    let w = whole bytes lines f in
    let s = short (terminals h.1.tokens) h.1.short in
    let same : tokens_of f.pieces ≡ h.1.tokens = one_cut_from (all_of bytes) (tokens_of f.pieces) h.1.tokens f.cut h.1.cut in
    let both = same_on s.reading w.reading s.at stage.Formula (sym s.goes ∙ ap (λ (x : List PlacedToken). takes start (terminals x)) (sym same) ∙ w.goes) in
    s.inside (both.1, ap (λ (r : Reading). r.state) both.0 ∙ w.between)

pub refused_is_no_lines : (bytes : List ℕ) (why : Refusal) (at : ℕ) (lines : List LineValue) → LinesRefusedAt why at bytes → AreLines bytes lines → ⊥
refused_is_no_lines bytes why at lines h f = no_lines bytes why at lines (either why at bytes h) f
