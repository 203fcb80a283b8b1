-- Symbols that stand in a list keep their numbers as more are added.
use Rattle.std.proofs.Common.{◌≡◌, ℕ, zero, suc, ◌+◌, Bool, true, false, cond, ◌||◌, List, [], ◌∷◌, ◌++◌, take, drop, Option, Some, None, refl, sym, ap, subst, ◌∙◌, one-add}
use Rattle.std.proofs.lemmas.Grind.{flat_map-append}
use Rattle.std.proofs.lemmas.List.{map-append, take-append-drop}
use Rattle.std.specs.Prelude.{not, slice_get, option_to_list}
use Rattle.std.specs.List.{AllByRecursion, list_any}
use Rattle.me_terms.specs.LabelEquality.{same_symbol}
use Rattle.me_terms.specs.LabelEqualityLaws.{same_symbol_sound}
use Rattle.me_terms.specs.Signatures.{with_symbol, number_of}
use Rattle.me_terms.specs.Terms.{TermValue, App, Nil, Cons}
use Rattle.me_terms.specs.Values.{SymbolValue, SignatureValue, ClauseValue}
use Rattle.me_terms.specs.declared.atom.Literal.{Literal}
use Rattle.tptp_cnf.specs.Meaning.{with_symbols}
use Rattle.tptp_cnf.proofs.Numbering.{Longer, longer_same, longer_on, position_stays, symbol_has, symbol_longer, symbols-append}
use Rattle.make_problem.specs.Made.{predicate_of, is_made_positive, constant_of, argument_as, literal_of, predicates_of, constants_of, made_literals, made_label, made_clauses}
use Rattle.make_problem.specs.Drawn.{with_words}

-- the symbols stand in the list
abbrev pub Stand : List SymbolValue → List SymbolValue → Type 0
Stand ss known = AllByRecursion (λ s. list_any (same_symbol s) known ≡ true) ss

any_append : (p : SymbolValue → Bool) (xs ys : List SymbolValue) → list_any p xs ≡ true → list_any p (xs ++ ys) ≡ true
any_append p [] ys h = absurd cc
any_append p (x ∷ xs) ys h = either (p x) (list_any p xs) (list_any p (xs ++ ys)) h (any_append p xs ys)
  where
    either : (a b c : Bool) → (a || b) ≡ true → (b ≡ true → c ≡ true) → (a || c) ≡ true
    either true b c h k = refl
    either false b c h k = k h

any_longer : (p : SymbolValue → Bool) (xs ys : List SymbolValue) → Longer xs ys → list_any p xs ≡ true → list_any p ys ≡ true
any_longer p xs ys l h = ap (list_any p) l.1 ∙ any_append p xs l.0 h

pub symbols_longer : (ss known : List SymbolValue) → Longer known (with_symbols known ss)
symbols_longer [] known = longer_same known
symbols_longer (s ∷ ss) known = longer_on known (with_symbol known s) (with_symbols (with_symbol known s) ss) (symbol_longer known s) (symbols_longer ss (with_symbol known s))

pub stand : (ss known : List SymbolValue) → Stand ss (with_symbols known ss)
stand [] known = tt
stand (s ∷ ss) known =
    (any_longer (same_symbol s) (with_symbol known s) (with_symbols (with_symbol known s) ss) (symbols_longer ss (with_symbol known s)) (symbol_has known s), stand ss (with_symbol known s))

pub stand_longer : (ss xs ys : List SymbolValue) → Longer xs ys → Stand ss xs → Stand ss ys
stand_longer [] xs ys l h = tt
stand_longer (s ∷ ss) xs ys l h = (any_longer (same_symbol s) xs ys l h.0, stand_longer ss xs ys l h.1)

pub stand_front : (xs ys known : List SymbolValue) → Stand (xs ++ ys) known → Stand xs known
stand_front [] ys known h = tt
stand_front (x ∷ xs) ys known h = (h.0, stand_front xs ys known h.1)

pub stand_back : (xs ys known : List SymbolValue) → Stand (xs ++ ys) known → Stand ys known
stand_back [] ys known h = h
stand_back (x ∷ xs) ys known h = stand_back xs ys known h.1

-- a symbol that stands in a list is the one at its number
pub found : (s : SymbolValue) (ss : List SymbolValue) → list_any (same_symbol s) ss ≡ true → slice_get ss (number_of s ss) ≡ Some s
found s [] h = absurd cc
found s (t ∷ ss) h = here (same_symbol s t) (list_any (same_symbol s) ss) (number_of s ss) h (λ e. sym (same_symbol_sound s t e)) (found s ss)
  where
    here : (b c : Bool) (k : ℕ) → (b || c) ≡ true → (b ≡ true → t ≡ s) → (c ≡ true → slice_get ss k ≡ Some s) → slice_get (t ∷ ss) (cond (not b) (1 + k) 0) ≡ Some s
    here true c k j first rest = ap (λ (x : SymbolValue). Some x) (first refl)
    here false c k j first rest = rw one-add (rest j)

-- ---- words

constants-append : (xs ys : List ℕ) → constants_of (xs ++ ys) ≡ constants_of xs ++ constants_of ys
constants-append xs ys = flat_map-append (λ (w : ℕ). option_to_list (constant_of w)) xs ys

predicates-append : (preds : ℕ) (xs ys : List ℕ) → predicates_of preds (xs ++ ys) ≡ predicates_of preds xs ++ predicates_of preds ys
predicates-append preds xs ys = map-append (predicate_of preds) xs ys

-- the symbols of the words stand in the signature
pub record Known (preds : ℕ) (s : SignatureValue) (words : List ℕ) : Type 0 where
  pub functions : Stand (constants_of words) s.functions
  pub predicates : Stand (predicates_of preds words) s.predicates

known_append : (preds : ℕ) (s : SignatureValue) (xs ys : List ℕ) → Known preds s (xs ++ ys) → Known preds s xs × Known preds s ys
known_append preds s xs ys h =
    let f : Stand (constants_of xs ++ constants_of ys) s.functions = subst (λ (ss : List SymbolValue). Stand ss s.functions) (constants-append xs ys) h.functions in
    let p : Stand (predicates_of preds xs ++ predicates_of preds ys) s.predicates = subst (λ (ss : List SymbolValue). Stand ss s.predicates) (predicates-append preds xs ys) h.predicates in (
      record { functions = stand_front (constants_of xs) (constants_of ys) s.functions f; predicates = stand_front (predicates_of preds xs) (predicates_of preds ys) s.predicates p },
      record { functions = stand_back (constants_of xs) (constants_of ys) s.functions f; predicates = stand_back (predicates_of preds xs) (predicates_of preds ys) s.predicates p },
    )

pub known_parts : (preds : ℕ) (s : SignatureValue) (n : ℕ) (words : List ℕ) → Known preds s words → Known preds s (take n words) × Known preds s (drop n words)
known_parts preds s n words h = known_append preds s (take n words) (drop n words) (subst (Known preds s) (sym (take-append-drop n words)) h)

pub record LongerSignature (s t : SignatureValue) : Type 0 where
  pub functions : Longer s.functions t.functions
  pub predicates : Longer s.predicates t.predicates

argument_stays : (o : Option SymbolValue) (fs gs : List SymbolValue) → Stand (option_to_list o) fs → Longer fs gs → argument_as fs o ≡ argument_as gs o
argument_stays None fs gs h l = refl
argument_stays (Some s) fs gs h l = ap (λ (n : ℕ). App n Nil) (position_stays (same_symbol s) fs gs h.0 l)

abbrev literal_with : ℕ → ℕ → TermValue → Literal
literal_with w pred t = record { positive = is_made_positive w; atom = record { pred = pred; args = Cons t Nil } }

-- the literals of the words by a longer signature are the same
pub literals_stay : (preds : ℕ) (s t : SignatureValue) (words : List ℕ) → Known preds s words → LongerSignature s t → made_literals preds s words ≡ made_literals preds t words
literals_stay preds s t [] h l = refl
literals_stay preds s t (w ∷ ws) h l =
    let parts = known_append preds s (w ∷ []) ws h in
    let argument = argument_stays (constant_of w) s.functions t.functions (stand_front (option_to_list (constant_of w)) (constants_of ws) s.functions h.functions) l.functions in
    let pred = position_stays (same_symbol (predicate_of preds w)) s.predicates t.predicates h.predicates.0 l.predicates in
    ap (λ (n : ℕ). literal_with w n (argument_as s.functions (constant_of w)) ∷ made_literals preds s ws) pred
    ∙ ap (λ (a : TermValue). literal_with w (number_of (predicate_of preds w) t.predicates) a ∷ made_literals preds s ws) argument
    ∙ ap (λ (ls : List Literal). literal_of preds t w ∷ ls) (literals_stay preds s t ws parts.1 l)

-- and so are the clauses
pub clauses_stay : (preds : ℕ) (s t : SignatureValue) (n more : ℕ) (words : List ℕ) → Known preds s words → LongerSignature s t → made_clauses preds s n more words ≡ made_clauses preds t n more words
clauses_stay preds s t n zero words h l = refl
clauses_stay preds s t n (suc more) words h l =
    let parts = known_parts preds s 3 words h in
    ap (λ (ls : List Literal). (record { number = n; label = made_label n; literals = ls }) ∷ made_clauses preds s (n + 1) more (drop 3 words)) (literals_stay preds s t (take 3 words) parts.0 l)
    ∙ ap (λ (cs : List ClauseValue). (record { number = n; label = made_label n; literals = made_literals preds t (take 3 words) }) ∷ cs) (clauses_stay preds s t (n + 1) more (drop 3 words) parts.1 l)

-- ---- signatures as words are drawn

pub words-append : (preds : ℕ) (s : SignatureValue) (xs ys : List ℕ) → with_words preds s (xs ++ ys) ≡ with_words preds (with_words preds s xs) ys
words-append preds s xs ys =
    ap (λ (f : List SymbolValue). (record { functions = f; predicates = with_symbols s.predicates (predicates_of preds (xs ++ ys)) })) (ap (with_symbols s.functions) (constants-append xs ys) ∙ symbols-append (constants_of xs) (constants_of ys) s.functions)
    ∙ ap (λ (p : List SymbolValue). (record { functions = with_symbols (with_symbols s.functions (constants_of xs)) (constants_of ys); predicates = p })) (ap (with_symbols s.predicates) (predicates-append preds xs ys) ∙ symbols-append (predicates_of preds xs) (predicates_of preds ys) s.predicates)

pub words_known : (preds : ℕ) (s : SignatureValue) (words : List ℕ) → Known preds (with_words preds s words) words
words_known preds s words = record { functions = stand (constants_of words) s.functions; predicates = stand (predicates_of preds words) s.predicates }

pub words_longer : (preds : ℕ) (s : SignatureValue) (words : List ℕ) → LongerSignature s (with_words preds s words)
words_longer preds s words = record { functions = symbols_longer (constants_of words) s.functions; predicates = symbols_longer (predicates_of preds words) s.predicates }

-- the literals of drawn words are those by the signature after further words
pub literals_settled : (preds : ℕ) (s last : SignatureValue) (xs ys : List ℕ) → with_words preds s (xs ++ ys) ≡ last → made_literals preds (with_words preds s xs) xs ≡ made_literals preds last xs
literals_settled preds s last xs ys h =
    let now : SignatureValue = with_words preds s xs in
    let longer : LongerSignature now last = subst (LongerSignature now) (sym (words-append preds s xs ys) ∙ h) (words_longer preds now ys) in
    literals_stay preds now last xs (words_known preds s xs) longer
