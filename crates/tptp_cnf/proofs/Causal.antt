-- Bytes mean at most one problem, or are refused at one place for one cause.
use Rattle.std.proofs.Common.{◌≡◌, ℕ, List, [], ◌∷◌, ◌++◌, length, refl, sym, ap, subst, ◌∙◌, ◌⊎◌, inl, inr, append_assoc, arith}
use Rattle.std.proofs.lemmas.List.{map-append}
use Rattle.me_terms.specs.Values.{ProblemValue}
use Rattle.tptp_tokens.specs.Gaps.{IsGap}
use Rattle.tptp_tokens.specs.Remainders.{Remainder}
use Rattle.tptp_tokens.specs.Tokens.{PlacedToken, IsNextToken, IsCutFrom, IsCut}
use Rattle.tptp_tokens.proofs.OneCut.{one_gap, first_takes, one_next, one_cut_from}
use Rattle.tptp_grammar.specs.Terminals.{Terminal, terminal, terminals}
use Rattle.tptp_grammar.specs.Files as grammar
use Rattle.tptp_grammar.specs.Refusals.{IsCutShort}
use Rattle.tptp_grammar.specs.declared.refusal.Refusal.{Refusal}
use Rattle.tptp_grammar.specs.declared.refusal.Refusal.TheVariants as refusal
use Rattle.tptp_grammar.proofs.Unique as unique
use Rattle.tptp_cnf.specs.Files.{IsFile}
use Rattle.tptp_cnf.specs.Causes.{AreFirstTokens, IsRefusedToken, EndsEarly, RefusedAt}
use Rattle.tptp_cnf.proofs.Reached.{all_of, front_more, read_is}

-- ---- one problem

pub one_problem : (bytes : List ℕ) (p q : ProblemValue) → IsFile bytes p → IsFile bytes q → p ≡ q
one_problem bytes p q h k =
    let same : h.tokens ≡ k.tokens = one_cut_from (all_of bytes) h.tokens k.tokens h.cut k.cut in
    let other : grammar.IsFileWithinLimits (terminals h.tokens) k.file = subst (λ (x : List PlacedToken). grammar.IsFileWithinLimits (terminals x) k.file) (sym same) k.written in
    h.means ∙ sym (read_is (terminals h.tokens) h.file h.written) ∙ read_is (terminals h.tokens) k.file other ∙ sym k.means

-- ---- fronts of one list of tokens

none_left : (now : Remainder) (p : PlacedToken) (l : Remainder) → IsGap now.bytes [] → IsNextToken now p l → ⊥
none_left now p l g h = let e = one_gap now.bytes [] h.middle g h.gap in let lt = first_takes p.token h.middle l.bytes h.first in absurd (omega (arith, ap length e))

-- the cut begins with a front
cut_front : (now : Remainder) (all tokens : List PlacedToken) (left : Remainder) → IsCutFrom now all → AreFirstTokens tokens now left → (more : List PlacedToken) × (all ≡ tokens ++ more)
cut_front now all [] left c b = (all, refl)
cut_front now [] (t ∷ tokens) left c b = absurd (none_left now t b.0 c b.1)
cut_front now (a ∷ all) (t ∷ tokens) left c b =
    let n = one_next now a t c.0 b.0 c.1 b.1 in
    let k = cut_front b.0 all tokens left (subst (λ (x : Remainder). IsCutFrom x all) n.left c.2) b.2 in
    (k.0, ap (λ (x : PlacedToken). x ∷ all) n.token ∙ ap (λ (x : List PlacedToken). t ∷ x) k.1)

-- one of two fronts goes on as the other
abbrev Meet : List PlacedToken → List PlacedToken → Type 0
Meet xs ys = ((more : List PlacedToken) × (ys ≡ xs ++ more)) ⊎ ((more : List PlacedToken) × (xs ≡ ys ++ more))

meet : (now : Remainder) (xs ys : List PlacedToken) (l m : Remainder) → AreFirstTokens xs now l → AreFirstTokens ys now m → Meet xs ys
meet now [] ys l m b c = inl (ys, refl)
meet now (x ∷ xs) [] l m b c = inr (x ∷ xs, refl)
meet now (x ∷ xs) (y ∷ ys) l m b c =
    let n = one_next now x y b.0 c.0 b.1 c.1 in
    on n.token (meet c.0 xs ys l m (subst (λ (z : Remainder). AreFirstTokens xs z l) n.left b.2) c.2)
  where
    on : x ≡ y → Meet xs ys → Meet (x ∷ xs) (y ∷ ys)
    on e (inl h) = inl (h.0, ap (λ (z : PlacedToken). z ∷ ys) (sym e) ∙ ap (λ (z : List PlacedToken). x ∷ z) h.1)
    on e (inr h) = inr (h.0, ap (λ (z : PlacedToken). z ∷ xs) e ∙ ap (λ (z : List PlacedToken). y ∷ z) h.1)

-- ---- one cause

terminals-push : (xs : List PlacedToken) (p : PlacedToken) (more : List PlacedToken) → terminals ((xs ++ p ∷ []) ++ more) ≡ terminals xs ++ terminal p.token ∷ terminals more
terminals-push xs p more = ap terminals (append_assoc xs (p ∷ []) more) ∙ map-append (λ placed. terminal placed.token) xs (p ∷ more)

last_one : (xs ys : List PlacedToken) (p q : PlacedToken) (more : List PlacedToken) → length xs ≡ length ys → ys ++ q ∷ [] ≡ (xs ++ p ∷ []) ++ more → p ≡ q
last_one [] [] p q more l e = cc
last_one [] (y ∷ ys) p q more l e = absurd (omega arith)
last_one (x ∷ xs) [] p q more l e = absurd (omega arith)
last_one (x ∷ xs) (y ∷ ys) p q more l e = let tails : ys ++ q ∷ [] ≡ (xs ++ p ∷ []) ++ more = cc in last_one xs ys p q more (omega arith) tails

-- two refused tokens, the second of which is not before the first
same_token : (why other : Refusal) (at place : ℕ) (bytes : List ℕ) (h : IsRefusedToken why at bytes) (k : IsRefusedToken other place bytes) (more : List PlacedToken) → k.before ++ k.token ∷ [] ≡ (h.before ++ h.token ∷ []) ++ more → (why ≡ other) × (at ≡ place)
same_token why other at place bytes h k more e =
    let all : terminals h.before ++ terminal h.token.token ∷ terminals more ≡ terminals k.before ++ terminal k.token.token ∷ [] =
    sym (terminals-push h.before h.token more) ∙ ap terminals (sym e) ∙ map-append (λ placed. terminal placed.token) k.before (k.token ∷ []) in
    let one = unique.one_refusal (terminals h.before) (terminals more) (terminals k.before) [] (terminal h.token.token) (terminal k.token.token) why other all h.refused k.refused in
    let long : length h.before ≡ length k.before = sym (terminals_len h.before) ∙ ap length one.0 ∙ terminals_len k.before in
    let token : h.token ≡ k.token = last_one h.before k.before h.token k.token more long e in
    (one.2, h.place ∙ ap (λ (p : PlacedToken). p.at) token ∙ sym k.place)
  where
    terminals_len : (xs : List PlacedToken) → length (terminals xs) ≡ length xs
    terminals_len [] = refl
    terminals_len (x ∷ xs) = omega (arith, terminals_len xs)

two_tokens : (why other : Refusal) (at place : ℕ) (bytes : List ℕ) → IsRefusedToken why at bytes → IsRefusedToken other place bytes → (why ≡ other) × (at ≡ place)
two_tokens why other at place bytes h k =
    by (meet (all_of bytes) (h.before ++ h.token ∷ []) (k.before ++ k.token ∷ []) h.rest k.rest (front_more (all_of bytes) h.before h.left h.token h.rest h.front h.next) (front_more (all_of bytes) k.before k.left k.token k.rest k.front k.next))
  where
    by : Meet (h.before ++ h.token ∷ []) (k.before ++ k.token ∷ []) → (why ≡ other) × (at ≡ place)
    by (inl m) = same_token why other at place bytes h k m.0 m.1
    by (inr m) = let s = same_token other why place at bytes k h m.0 m.1 in (sym s.0, sym s.1)

-- the tokens of all bytes, with a refused token among them
around : (why : Refusal) (at : ℕ) (bytes : List ℕ) (h : IsRefusedToken why at bytes) (all : List PlacedToken) → IsCut bytes all → (more : List PlacedToken) × (terminals all ≡ terminals h.before ++ terminal h.token.token ∷ terminals more)
around why at bytes h all c =
    let k = cut_front (all_of bytes) all (h.before ++ h.token ∷ []) h.rest c (front_more (all_of bytes) h.before h.left h.token h.rest h.front h.next) in
    (k.0, ap terminals k.1 ∙ terminals-push h.before h.token k.0)

not_both : (why : Refusal) (at place : ℕ) (bytes : List ℕ) → IsRefusedToken why at bytes → EndsEarly place bytes → ⊥
not_both why at place bytes h k =
    let a = around why at bytes h k.tokens k.cut in
    unique.none_refused (terminals h.before) (terminals a.0) (terminal h.token.token) why (subst IsCutShort a.1 k.short) h.refused

-- why bytes are refused: a token, or that the file ends too early
abbrev Either : Refusal → ℕ → List ℕ → Type 0
Either why at bytes = IsRefusedToken why at bytes ⊎ ((why ≡ refusal.Syntax) × EndsEarly at bytes)

either : (why : Refusal) (at : ℕ) (bytes : List ℕ) → RefusedAt why at bytes → Either why at bytes
either refusal.Syntax at bytes (inl h) = inl h
either refusal.Syntax at bytes (inr h) = inr (refl, h)
either (refusal.Inappropriate w) at bytes h = inl h
either (refusal.Limit w) at bytes h = inl h

one_of : (bytes : List ℕ) (why other : Refusal) (at place : ℕ) → Either why at bytes → Either other place bytes → (why ≡ other) × (at ≡ place)
one_of bytes why other at place (inl h) (inl k) = two_tokens why other at place bytes h k
one_of bytes why other at place (inl h) (inr k) = absurd (not_both why at place bytes h k.1)
one_of bytes why other at place (inr h) (inl k) = absurd (not_both other place at bytes k h.1)
one_of bytes why other at place (inr h) (inr k) = (h.0 ∙ sym k.0, h.1.place ∙ sym k.1.place)

pub one_cause : (bytes : List ℕ) (why other : Refusal) (at place : ℕ) → RefusedAt why at bytes → RefusedAt other place bytes → (why ≡ other) × (at ≡ place)
one_cause bytes why other at place h k = one_of bytes why other at place (either why at bytes h) (either other place bytes k)

-- ---- refused bytes are no file

no_file : (bytes : List ℕ) (why : Refusal) (at : ℕ) (problem : ProblemValue) → Either why at bytes → IsFile bytes problem → ⊥
no_file bytes why at problem (inl h) f =
    let a = around why at bytes h f.tokens f.cut in
    unique.refused_is_no_file (terminals h.before) (terminals a.0) (terminal h.token.token) why f.file h.refused (subst (λ (x : List Terminal). grammar.IsFileWithinLimits x f.file) a.1 f.written)
no_file bytes why at problem (inr h) f =
    let same : f.tokens ≡ h.1.tokens = one_cut_from (all_of bytes) f.tokens h.1.tokens f.cut h.1.cut in
    h.1.short.1 f.file (ap terminals (sym same) ∙ f.written.written)

pub refused_is_no_file : (bytes : List ℕ) (why : Refusal) (at : ℕ) (problem : ProblemValue) → RefusedAt why at bytes → IsFile bytes problem → ⊥
refused_is_no_file bytes why at problem h f = no_file bytes why at problem (either why at bytes h) f
