-- What a sink has of a text that is written in pieces.
use Rattle.std.proofs.Common.{◌≡◌, ℕ, ◌+◌, ◌<◌, ◌≤◌, List, [], ◌++◌, length, take, drop, get_or, Option, Some, None, sym, ap, subst, ◌∙◌, arith, append_assoc, length-append, codes, decimal, Bor}
use Rattle.std.proofs.Math.Seq.{take-append-add}
use Rattle.std.proofs.lemmas.List.{take-append-le, drop_more, take-append-drop}
use Rattle.std.proofs.lemmas.Grind.{flat_map-append}
use Rattle.std.proofs.KnownBytes.{Appends-trans}
use Rattle.std.specs.List.{flat_map}
use Rattle.std.specs.Io.KnownBytes.{Appends}
use Rattle.me_io.specs.Sink.{AppendedFront, written_before}
use Rattle.me_io.specs.declared.sink.WriteError.{WriteError}
use Rattle.szs_print.specs.Pieces.{AppendedFrontAfter}
use Rattle.szs_print.specs.RefusalText.{word_text, cause_text, refusal_place, place_text, refusal_text}
use Rattle.szs_print.specs.StatusText.{status_line, reason_line}
use Rattle.szs_print.specs.declared.refusal.Refusal.{Refusal}

-- No bytes.
abbrev pub nothing : Bor (List ℕ)
nothing = record { ref_ptr = (0, 0); now = [] }

abbrev pub joined : List (Bor (List ℕ)) → List ℕ
joined pieces = flat_map (λ p. p.now) pieces

-- The pieces before place i, the piece there, and those after it.
pub parted : (pieces : List (Bor (List ℕ))) (i : ℕ) → i < length pieces → joined pieces ≡ joined (take i pieces) ++ ((get_or pieces i nothing).now ++ joined (drop (i + 1) pieces))
parted pieces i lt =
    ap joined (sym (take-append-drop i pieces))
    ∙ flat_map-append (λ (p : Bor (List ℕ)). p.now) (take i pieces) (drop i pieces)
    ∙ ap (λ (rest : List (Bor (List ℕ))). joined (take i pieces) ++ joined rest) (drop_more pieces i nothing lt)

-- A text was appended, and then a front of what follows it.
pub front_of_all : (a b c : Option (List ℕ)) (done piece rest all : List ℕ) (before : ℕ) (e : WriteError) → before ≡ length done → all ≡ done ++ (piece ++ rest) → Appends a b done → AppendedFrontAfter b c before piece e → AppendedFront a c (written_before e) all
front_of_all a b c done piece rest all before e counted parts p h =
    let front = h.front in
    let within : front ≤ length piece = omega (arith, h.appended.cut) in
    let shape : take (length done + front) (done ++ (piece ++ rest)) ≡ done ++ take front piece =
    take-append-add done (piece ++ rest) front ∙ ap (λ (xs : List ℕ). done ++ xs) (take-append-le front piece rest within) in
    let there : written_before e ≡ length done + front = h.counted ∙ ap (λ (n : ℕ). n + front) counted in
    let cut : length done + front < length (done ++ (piece ++ rest)) = omega (arith, h.appended.cut, length-append done (piece ++ rest), length-append piece rest) in
    let held : AppendedFront a c (length done + front) (done ++ (piece ++ rest)) = record {
      cut = cut;
      appended = subst (Appends a c) (sym shape) (Appends-trans a b c done (take front piece) p h.appended.appended);
    } in
    subst (λ (n : ℕ). AppendedFront a c n all) (sym there) (subst (λ (xs : List ℕ). AppendedFront a c (length done + front) xs) (sym parts) held)

regroup : (head word for name line reason cause at digits : List ℕ) → head ++ (word ++ (for ++ (name ++ (line ++ (reason ++ (cause ++ (at ++ (digits ++ line)))))))) ≡ ((((head ++ word) ++ for) ++ name) ++ line) ++ ((reason ++ (cause ++ (at ++ digits))) ++ line)
regroup head word for name line reason cause at digits = simp append_assoc

-- The pieces of a refusal's text.
pub lines_are : (word name cause at digits : List ℕ) → codes "% SZS status " ++ (word ++ (codes " for " ++ (name ++ (codes "\n% reason " ++ (cause ++ (at ++ (digits ++ codes "\n"))))))) ≡ status_line word name ++ reason_line (cause ++ (at ++ digits))
lines_are word name cause at digits =
    regroup (codes "% SZS status ") word (codes " for ") name (codes "\n") (codes "% reason ") cause at digits

pub text_with_place : (name word cause digits : List ℕ) (r : Refusal) (at : ℕ) → word ≡ word_text r → cause ≡ cause_text r → digits ≡ decimal at → Some at ≡ refusal_place r → status_line word name ++ reason_line (cause ++ (codes " at " ++ digits)) ≡ refusal_text name r
text_with_place name word cause digits r at w c d p =
    ap (λ (x : List ℕ). status_line x name ++ reason_line (cause ++ (codes " at " ++ digits))) w
    ∙ ap (λ (y : List ℕ). status_line (word_text r) name ++ reason_line (y ++ (codes " at " ++ digits))) c
    ∙ ap (λ (z : List ℕ). status_line (word_text r) name ++ reason_line (cause_text r ++ z)) (ap (λ (x : List ℕ). codes " at " ++ x) d ∙ ap place_text p)

pub text_without_place : (name word cause : List ℕ) (r : Refusal) → word ≡ word_text r → cause ≡ cause_text r → None ≡ refusal_place r → status_line word name ++ reason_line (cause ++ []) ≡ refusal_text name r
text_without_place name word cause r w c p =
    ap (λ (x : List ℕ). status_line x name ++ reason_line (cause ++ [])) w
    ∙ ap (λ (y : List ℕ). status_line (word_text r) name ++ reason_line (y ++ [])) c
    ∙ ap (λ (z : List ℕ). status_line (word_text r) name ++ reason_line (cause_text r ++ z)) (ap place_text p)
