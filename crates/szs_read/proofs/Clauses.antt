-- The literals of a line, one after another.
use Rattle.std.proofs.Common.{◌≡◌, ◌≢◌, ◌⊎◌, inl, inr, ◌<◌, ◌^◌, ℕ, Bool, true, false, List, [], ◌∷◌, ◌++◌, length, map, drop, Some, None, refl, sym, ap, ◌∙◌, append_assoc, arith}
use Rattle.std.proofs.lemmas.List.{append-nil, map-append}
use Rattle.std.proofs.lemmas.Bool.Decides.{nat_tests}
use Rattle.std.specs.Prelude.{codes, slice_get, ◌==◌}
use Rattle.me_terms.specs.Values.{SymbolValue, SignatureValue}
use Rattle.me_terms.specs.Variables.{count}
use Rattle.me_terms.specs.declared.atom.Literal.{Literal}
use Rattle.cnf_text.specs.ClauseText.{literal_text, barred_text, clause_text}
use Rattle.tptp_tokens.specs.Tokens.{TokenValue}
use Rattle.szs_read.specs.Claims.{functions_in, predicates_in}
use Rattle.szs_read.specs.Coming.{AreSymbolsToCome, AreLiteralsToCome}
use Rattle.szs_read.specs.Finds.{FindsLiteral}
use Rattle.szs_read.specs.LineTokens.{AreLeft, symbol_token, comma_token, false_token, literal_then, barred_then, clause_then}
use Rattle.szs_read.specs.RowItems.{item_value, node_name, literal_names, AreNames, StopsAt, IsRowOf}
use Rattle.szs_read.specs.Rows.{nodes_of}
use Rattle.szs_read.specs.declared.row.Row.{Row}
use Rattle.szs_read.specs.declared.row.Stop.{Stop}
use Rattle.szs_read.specs.declared.row.Stop.TheVariants.{Bar, Other}
use Rattle.szs_read.proofs.Literals.{names_fine, literal_comes, first_literal, other_literals}

-- ---- texts

barred_same : (s : SignatureValue) (xs ys : List Literal) → map (literal_text s) xs ≡ map (literal_text s) ys → barred_text s xs ≡ barred_text s ys
barred_same s [] [] e = refl
barred_same s [] (y ∷ ys) e = absurd cc
barred_same s (x ∷ xs) [] e = absurd cc
barred_same s (x ∷ xs) (y ∷ ys) e =
    let head : literal_text s x ≡ literal_text s y = cc in
    let tail : map (literal_text s) xs ≡ map (literal_text s) ys = cc in
    ap (λ (v : List ℕ). (codes " | " ++ v) ++ barred_text s xs) head ∙ ap (λ (v : List ℕ). (codes " | " ++ literal_text s y) ++ v) (barred_same s xs ys tail)

pub clause_same : (s : SignatureValue) (xs ys : List Literal) → map (literal_text s) xs ≡ map (literal_text s) ys → clause_text s xs ≡ clause_text s ys
clause_same s [] [] e = refl
clause_same s [] (y ∷ ys) e = absurd cc
clause_same s (x ∷ xs) [] e = absurd cc
clause_same s (x ∷ xs) (y ∷ ys) e =
    let head : literal_text s x ≡ literal_text s y = cc in
    let tail : map (literal_text s) xs ≡ map (literal_text s) ys = cc in
    ap (λ (v : List ℕ). v ++ barred_text s xs) head ∙ ap (λ (v : List ℕ). literal_text s y ++ v) (barred_same s xs ys tail)

-- ---- what is left

-- these literals are left, and those that were found have the texts of the ones before them
pub record LiteralsLeft (now end : SignatureValue) (b : ℕ) (functions predicates : List SymbolValue) (ls found : List Literal) (bytes : List ℕ) (rest : List TokenValue) : Type 0 where
  pub more : List Literal
  pub coming : AreLiteralsToCome now end b more functions predicates
  pub texts : map (literal_text end) (found ++ more) ≡ map (literal_text end) ls
  pub left : AreLeft bytes (clause_then end more (comma_token ∷ rest))

pub none_found : (now end : SignatureValue) (b : ℕ) (functions predicates : List SymbolValue) (ls found : List Literal) (bytes : List ℕ) (rest : List TokenValue) → found ≡ [] → AreLiteralsToCome now end b ls functions predicates → AreLeft bytes (clause_then end ls (comma_token ∷ rest)) → LiteralsLeft now end b functions predicates ls found bytes rest
none_found now end b functions predicates ls found bytes rest e c l = record { more = ls; coming = c; texts = ap (λ (v : List Literal). map (literal_text end) (v ++ ls)) e; left = l }

-- what a row is, where a literal or none is left
abbrev pub RowLiteral : List ℕ → List ℕ → Row → Stop → Type 0
RowLiteral before after row stop = (s : SignatureValue) (l : Literal) (rest : List TokenValue) (end : Stop) → length before < 2 ^ 32 → AreNames (literal_names s l) → StopsAt rest end → AreLeft before (literal_then s l rest) → IsRowOf s l row × (stop ≡ end) × AreLeft after (drop 1 rest)

abbrev pub RowFalsity : List ℕ → List ℕ → Row → Type 0
RowFalsity before after row = (rest : List TokenValue) → AreLeft before (false_token ∷ comma_token ∷ rest) → (row.items.items ≡ []) × AreLeft after rest

-- all the literals were found
pub record AllFound (new end : SignatureValue) (functions predicates : List SymbolValue) (ls found : List Literal) (after : List ℕ) (rest : List TokenValue) : Type 0 where
  pub text : clause_text end found ≡ clause_text end ls
  pub symbols : AreSymbolsToCome new end functions predicates
  pub left : AreLeft after rest

names_some : (s : SignatureValue) (l : Literal) (row : Row) → IsRowOf s l row → row.items.items ≡ [] → ⊥
names_some s l row h e =
    let n : [] ≡ (record { token = symbol_token (slice_get s.predicates l.atom.pred); arity = count l.atom.args }) ∷ map (node_name s.functions) (nodes_of l.atom.args) = ap (map item_value) (sym e) ∙ h.names in
    cc

-- the row of the first of the literals that are left
abbrev stop_of : List Literal → Stop
stop_of [] = Other
stop_of (l ∷ ls) = Bar

abbrev left_behind : SignatureValue → List Literal → List TokenValue → List TokenValue
left_behind end [] rest = rest
left_behind end (l ∷ ls) rest = literal_then end l (barred_then end ls (comma_token ∷ rest))

record RowIs (end : SignatureValue) (x : Literal) (more : List Literal) (after : List ℕ) (rest : List TokenValue) (its : Row) (at : Stop) : Type 0 where
  row : IsRowOf end x its
  stop : at ≡ stop_of more
  left : AreLeft after (left_behind end more rest)

row_is : (end : SignatureValue) (x : Literal) (more : List Literal) (before after : List ℕ) (rest : List TokenValue) (row : Row) (stop : Stop) → length before < 2 ^ 32 → RowLiteral before after row stop → AreNames (literal_names end x) → AreLeft before (clause_then end (x ∷ more) (comma_token ∷ rest)) → RowIs end x more after rest row stop
row_is end x [] before after rest row stop small f n l =
    let k = f end x (comma_token ∷ rest) Other small n refl l in
    record { row = k.0; stop = k.1; left = k.2 }
row_is end x (y ∷ more) before after rest row stop small f n l =
    let k = f end x (barred_then end (y ∷ more) (comma_token ∷ rest)) Bar small n refl l in
    record { row = k.0; stop = k.1; left = k.2 }

-- no name was read
pub none_left : (now end : SignatureValue) (b : ℕ) (functions predicates : List SymbolValue) (ls found : List Literal) (before after : List ℕ) (rest : List TokenValue) (row : Row) (stop : Stop)
    → length before < 2 ^ 32 → RowLiteral before after row stop → RowFalsity before after row → row.items.items ≡ [] → LiteralsLeft now end b functions predicates ls found before rest → AllFound now end functions predicates ls found after rest
none_left now end b functions predicates ls found before after rest row stop small f g e h = by h.more h.coming h.texts h.left
  where
    by : (more : List Literal) → AreLiteralsToCome now end b more functions predicates → map (literal_text end) (found ++ more) ≡ map (literal_text end) ls → AreLeft before (clause_then end more (comma_token ∷ rest)) → AllFound now end functions predicates ls found after rest
    by [] c t l = record {
      text = clause_same end found ls (ap (map (literal_text end)) (sym (append-nil found)) ∙ t);
      symbols = c.symbols;
      left = (g rest l).1;
    }
    by (x ∷ more) c t l =
        let k = literal_comes now end b x (functions_in end more ++ functions) (predicates_in end more ++ predicates) (first_literal now end b x more functions predicates c) in
        let r = row_is end x more before after rest row stop small f (names_fine end x k.can_be_read) l in
        absurd (names_some end x row r.row e)

-- the next literal was found
pub one_found : (now new end : SignatureValue) (b : ℕ) (functions predicates : List SymbolValue) (ls found next : List Literal) (before after : List ℕ) (rest : List TokenValue) (row : Row) (stop : Stop) (m : Literal)
    → length before < 2 ^ 32 → RowLiteral before after row stop → RowFalsity before after row → row.items.items ≢ [] → FindsLiteral now new b row (Some m) → next ≡ found ++ m ∷ [] → LiteralsLeft now end b functions predicates ls found before rest
    → ((stop ≡ Other) × AllFound new end functions predicates ls next after rest) ⊎ ((stop ≡ Bar) × LiteralsLeft new end b functions predicates ls next after rest)
one_found now new end b functions predicates ls found next before after rest row stop m small f g some finds e h = by h.more h.coming h.texts h.left
  where
    Result : Type 0
    Result = ((stop ≡ Other) × AllFound new end functions predicates ls next after rest) ⊎ ((stop ≡ Bar) × LiteralsLeft new end b functions predicates ls next after rest)

    texts : (x : Literal) (more : List Literal) → literal_text end m ≡ literal_text end x → map (literal_text end) (found ++ x ∷ more) ≡ map (literal_text end) ls → map (literal_text end) (next ++ more) ≡ map (literal_text end) ls
    texts x more same t =
        ap (λ (v : List Literal). map (literal_text end) (v ++ more)) e
        ∙ ap (map (literal_text end)) (append_assoc found (m ∷ []) more)
        ∙ map-append (literal_text end) found (m ∷ more)
        ∙ ap (λ (v : List ℕ). map (literal_text end) found ++ v ∷ map (literal_text end) more) same
        ∙ sym (map-append (literal_text end) found (x ∷ more))
        ∙ t

    by : (more : List Literal) → AreLiteralsToCome now end b more functions predicates → map (literal_text end) (found ++ more) ≡ map (literal_text end) ls → AreLeft before (clause_then end more (comma_token ∷ rest)) → Result
    by [] c t l = absurd (some (g rest l).0)
    by (x ∷ []) c t l =
        let k = literal_comes now end b x functions predicates c in
        let r = row_is end x [] before after rest row stop small f (names_fine end x k.can_be_read) l in
        let n = finds end x functions predicates c r.row in
        inl (r.stop, record { text = clause_same end next ls (ap (map (literal_text end)) (sym (append-nil next)) ∙ texts x [] n.0 t); symbols = n.1; left = r.left })
    by (x ∷ y ∷ more) c t l =
        let fs : List SymbolValue = functions_in end (y ∷ more) ++ functions in
        let ps : List SymbolValue = predicates_in end (y ∷ more) ++ predicates in
        let first = first_literal now end b x (y ∷ more) functions predicates c in
        let k = literal_comes now end b x fs ps first in
        let r = row_is end x (y ∷ more) before after rest row stop small f (names_fine end x k.can_be_read) l in
        let n = finds end x fs ps first r.row in
        inr (r.stop, record { more = y ∷ more; coming = other_literals now new end b x (y ∷ more) functions predicates c n.1; texts = texts x (y ∷ more) n.0 t; left = r.left })

-- a literal was left, but none was found
pub not_found : (now new end : SignatureValue) (b : ℕ) (functions predicates : List SymbolValue) (ls found : List Literal) (before after : List ℕ) (rest : List TokenValue) (row : Row) (stop : Stop)
    → length before < 2 ^ 32 → RowLiteral before after row stop → RowFalsity before after row → row.items.items ≢ [] → FindsLiteral now new b row None → LiteralsLeft now end b functions predicates ls found before rest → ⊥
not_found now new end b functions predicates ls found before after rest row stop small f g some finds h = by h.more h.coming h.left
  where
    by : (more : List Literal) → AreLiteralsToCome now end b more functions predicates → AreLeft before (clause_then end more (comma_token ∷ rest)) → ⊥
    by [] c l = some (g rest l).0
    by (x ∷ more) c l =
        let first = first_literal now end b x more functions predicates c in
        let k = literal_comes now end b x (functions_in end more ++ functions) (predicates_in end more ++ predicates) first in
        let r = row_is end x more before after rest row stop small f (names_fine end x k.can_be_read) l in
        (finds end x (functions_in end more ++ functions) (predicates_in end more ++ predicates) first r.row).0

pub last_found : {A B : Type 0} (stop : Stop) → stop ≡ Other → ((stop ≡ Other) × A) ⊎ ((stop ≡ Bar) × B) → A
last_found stop e (inl h) = h.1
last_found stop e (inr h) = let x : Other ≡ Bar = sym e ∙ h.0 in absurd cc

pub next_found : {A B : Type 0} (stop : Stop) → stop ≡ Bar → ((stop ≡ Other) × A) ⊎ ((stop ≡ Bar) × B) → B
next_found stop e (inl h) = let x : Bar ≡ Other = sym e ∙ h.0 in absurd cc
next_found stop e (inr h) = h.1

pub nothing : {X : Type 0} (xs : List X) → length xs ≡ 0 → xs ≡ []
nothing [] h = refl
nothing (x ∷ xs) h = absurd (omega (arith, h))

zero_is : (n : ℕ) → (n == 0) ≡ true → n ≡ 0
zero_is n h = grind (arith, nat_tests)

not_zero : (n : ℕ) → (n == 0) ≡ false → n ≡ 0 → ⊥
not_zero n h e = grind (arith, nat_tests)

pub none_in : {X : Type 0} (xs : List X) (n : ℕ) (b : Bool) → b ≡ (n == 0) → b ≡ true → n ≡ length xs → xs ≡ []
none_in xs n b e t k = nothing xs (sym k ∙ zero_is n (sym e ∙ t))

pub some_in : {X : Type 0} (xs : List X) (n : ℕ) (b : Bool) → b ≡ (n == 0) → b ≡ false → n ≡ length xs → xs ≢ []
some_in xs n b e t k h = not_zero n (sym e ∙ t) (k ∙ ap length h)
