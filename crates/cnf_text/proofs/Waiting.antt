-- Arguments that wait while one before them is printed; the last ones are gone on with first.
use Rattle.std.specs.Prelude.{◌≡◌, ℕ, ◌+◌, ◌*◌, ◌<◌, false, ◌==◌, List, [], ◌∷◌, ◌++◌, codes, map, length}
use Rattle.std.proofs.Common.{ap, sym, ◌∙◌, append_assoc, append-nil, true≢false, arith}
use Rattle.me_terms.specs.declared.term.Term.{Term}
use Rattle.me_terms.specs.TermViews.{term_value}
use Rattle.me_terms.specs.Terms.{TermValue, Arguments, Nil, Cons, arguments_of}
use Rattle.me_terms.specs.Values.{SignatureValue}
use Rattle.me_terms.specs.Variables.{weight, weights}
use Rattle.cnf_text.specs.ClauseText.{term_text, arguments_text, others_text}
use Rattle.cnf_text.specs.declared.term.Others.{Others}

abbrev pub values : List Term → Arguments
values terms = arguments_of (map term_value terms)

-- What is left of a list in brackets, of which the first term stands behind the separator.
abbrev pub left_text : SignatureValue → ℕ → Arguments → List ℕ
left_text signature separator Nil = codes ")"
left_text signature separator (Cons t ts) = separator ∷ [] ++ term_text signature t ++ others_text signature ts ++ codes ")"

-- What waits stands behind commas.
abbrev pub waiting_text : SignatureValue → List Others → List ℕ
waiting_text signature [] = []
waiting_text signature (o ∷ os) = waiting_text signature os ++ left_text signature 44 (values o.terms.now)

pub waiting_text_end : (signature : SignatureValue) (os : List Others) (o : Others)
    → waiting_text signature (os ++ o ∷ []) ≡ left_text signature 44 (values o.terms.now) ++ waiting_text signature os
waiting_text_end signature [] o = sym (append-nil (left_text signature 44 (values o.terms.now)))
waiting_text_end signature (p ∷ os) o =
    ap (λ text. text ++ left_text signature 44 (values p.terms.now)) (waiting_text_end signature os o)
    ∙ append_assoc (left_text signature 44 (values o.terms.now)) (waiting_text signature os) (left_text signature 44 (values p.terms.now))

-- how much is left to print
abbrev pub waiting_work : List Others → ℕ
waiting_work [] = 0
waiting_work (o ∷ os) = 1 + (2 * weights (values o.terms.now) + waiting_work os)

pub waiting_work_end : (os : List Others) (o : Others) → waiting_work (os ++ o ∷ []) ≡ waiting_work os + (1 + 2 * weights (values o.terms.now))
waiting_work_end [] o = omega arith
waiting_work_end (p ∷ os) o = omega (arith, waiting_work_end os o)

left_cons : (signature : SignatureValue) (separator : ℕ) (t : TermValue) (ts : Arguments)
    → left_text signature separator (Cons t ts) ≡ ((separator ∷ []) ++ term_text signature t) ++ left_text signature 44 ts
left_cons signature separator t Nil = ap (λ text. text ++ codes ")") (append-nil ((separator ∷ []) ++ term_text signature t))
left_cons signature separator t (Cons u us) = append_assoc ((separator ∷ []) ++ term_text signature t) (others_text signature (Cons u us)) (codes ")")

regroup : (out separator term left more : List ℕ) → out ++ (((separator ++ term) ++ left) ++ more) ≡ ((out ++ separator) ++ term) ++ (left ++ more)
regroup out separator term left more = simp append_assoc

-- The first bracket is to be opened.
pub begun_text : (signature : SignatureValue) (terms : List Term) (args : List TermValue) (later : List Others) (out : List ℕ)
    → map term_value terms ≡ args → (length args == 0) ≡ false → later ≡ []
    → out ++ (left_text signature 40 (values terms) ++ waiting_text signature later) ≡ out ++ arguments_text signature (arguments_of args)
begun_text signature terms [] later out m some l = absurd (true≢false some)
begun_text signature terms (t ∷ ts) later out m some l =
    ap (λ os. out ++ (left_text signature 40 (values terms) ++ waiting_text signature os)) l
    ∙ ap (λ text. out ++ text) (append-nil (left_text signature 40 (values terms)))
    ∙ ap (λ us. out ++ left_text signature 40 (arguments_of us)) m

-- The separator and the term are printed.
printed_first : (signature : SignatureValue) (separator : ℕ) (t : TermValue) (ts : Arguments) (out more : List ℕ)
    → out ++ (left_text signature separator (Cons t ts) ++ more) ≡ ((out ++ separator ∷ []) ++ term_text signature t) ++ (left_text signature 44 ts ++ more)
printed_first signature separator t ts out more =
    ap (λ text. out ++ (text ++ more)) (left_cons signature separator t ts) ∙ regroup out (separator ∷ []) (term_text signature t) (left_text signature 44 ts) more

-- A term's arguments are gone into.
pub opened_text : (signature : SignatureValue) (separator : ℕ) (terms inner : List Term) (first : Term) (later later' : List Others) (o : Others) (out mid new all : List ℕ)
    → terms ≡ first ∷ o.terms.now → 0 < length inner → mid ≡ out ++ separator ∷ [] → later' ≡ later ++ o ∷ []
    → new ++ arguments_text signature (values inner) ≡ mid ++ term_text signature (term_value first)
    → out ++ (left_text signature separator (values terms) ++ waiting_text signature later) ≡ all
    → new ++ (left_text signature 40 (values inner) ++ waiting_text signature later') ≡ all
opened_text signature separator terms [] first later later' o out mid new all r some m l h i = absurd (omega (arith, some))
opened_text signature separator terms (u ∷ us) first later later' o out mid new all r some m l h i =
    let rest = left_text signature 44 (values o.terms.now) ++ waiting_text signature later in
    ap (λ os. new ++ (left_text signature 40 (values (u ∷ us)) ++ waiting_text signature os)) l
    ∙ ap (λ text. new ++ (left_text signature 40 (values (u ∷ us)) ++ text)) (waiting_text_end signature later o)
    ∙ sym (append_assoc new (left_text signature 40 (values (u ∷ us))) rest)
    ∙ ap (λ text. text ++ rest) (h ∙ ap (λ text. text ++ term_text signature (term_value first)) m)
    ∙ sym (printed_first signature separator (term_value first) (values o.terms.now) out (waiting_text signature later))
    ∙ ap (λ ts. out ++ (left_text signature separator (values ts) ++ waiting_text signature later)) (sym r)
    ∙ i

closed : (signature : SignatureValue) (separator : ℕ) (terms : List Term) (out new more all : List ℕ)
    → length terms ≡ 0 → new ≡ out ++ codes ")" → out ++ (left_text signature separator (values terms) ++ more) ≡ all → new ++ more ≡ all
closed signature separator [] out new more all none n i = ap (λ text. text ++ more) n ∙ append_assoc out (codes ")") more ∙ i
closed signature separator (t ∷ ts) out new more all none n i = absurd (omega (arith, none))

-- A bracket is closed, and what waited last is gone on with.
pub closed_text : (signature : SignatureValue) (separator : ℕ) (terms : List Term) (later os : List Others) (o : Others) (out new all : List ℕ)
    → length terms ≡ 0 → later ≡ os ++ o ∷ [] → new ≡ out ++ codes ")"
    → out ++ (left_text signature separator (values terms) ++ waiting_text signature later) ≡ all
    → new ++ (left_text signature 44 (values o.terms.now) ++ waiting_text signature os) ≡ all
closed_text signature separator terms later os o out new all none l n i =
    ap (λ text. new ++ text) (sym (ap (waiting_text signature) l ∙ waiting_text_end signature os o))
    ∙ closed signature separator terms out new (waiting_text signature later) all none n i

pub opened_less : (terms inner : List Term) (first : Term) (later later' : List Others) (o : Others) → terms ≡ first ∷ o.terms.now → later' ≡ later ++ o ∷ []
    → weights (values inner) < weight (term_value first)
    → 2 * weights (values inner) + waiting_work later' < 2 * weights (values terms) + waiting_work later
opened_less terms inner first later later' o r l h =
    let wait : waiting_work later' ≡ waiting_work later + (1 + 2 * weights (values o.terms.now)) = ap waiting_work l ∙ waiting_work_end later o in
    let split : weights (values terms) ≡ weight (term_value first) + weights (values o.terms.now) = ap (λ ts. weights (values ts)) r in
    omega (arith, wait, split, h)

pub closed_less : (later os : List Others) (o : Others) (work : ℕ) → later ≡ os ++ o ∷ [] → 2 * weights (values o.terms.now) + waiting_work os < work + waiting_work later
closed_less later os o work l =
    let wait : waiting_work later ≡ waiting_work os + (1 + 2 * weights (values o.terms.now)) = ap waiting_work l ∙ waiting_work_end os o in
    omega (arith, wait)
