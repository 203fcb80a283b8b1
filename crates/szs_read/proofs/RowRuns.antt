-- What the tokens of a literal make of a row.
use Rattle.std.proofs.Common.{◌≡◌, ◌<◌, ◌≤◌, ◌^◌, ◌+◌, ◌-◌, ℕ, Bool, true, false, List, [], ◌∷◌, ◌++◌, length, map, drop, Option, Some, None, refl, sym, ap, subst, ◌∙◌, append_assoc, arith}
use Rattle.std.proofs.lemmas.List.{append-nil, map-append, length-append}
use Rattle.std.specs.Prelude.{slice_get}
use Rattle.me_terms.specs.Terms.{TermValue, Var, App, Arguments, Nil, Cons, AtomValue}
use Rattle.me_terms.specs.Values.{SignatureValue}
use Rattle.me_terms.specs.Variables.{count, weight, weights}
use Rattle.me_terms.specs.declared.atom.Literal.{Literal}
use Rattle.tptp_tokens.specs.Tokens.{TokenValue, token_value}
use Rattle.tptp_tokens.specs.declared.token.Token.{Token}
use Rattle.tptp_tokens.specs.declared.token.TokenKind.{TokenKind}
use Rattle.tptp_tokens.specs.declared.token.TokenKind.TheVariants as kind
use Rattle.szs_read.specs.LineTokens.{AreLeft, symbol_token, comma_token, false_token, term_then, arguments_then, others_then, atom_then, signed_then, literal_then}
use Rattle.szs_read.specs.Nexts.{IsNextOf}
use Rattle.szs_read.specs.RowItems.{NameValue, RowValue, item_value, row_value, node_name, literal_names, is_name_kind, AreNames, counted_at, with_name, with_token, stop_at, IsTaken, StopsBefore, StopsAt, IsRowOf}
use Rattle.szs_read.specs.Rows.{term_nodes, nodes_of}
use Rattle.szs_read.specs.declared.number.Node.{Node}
use Rattle.szs_read.specs.declared.row.Item.{Item}
use Rattle.szs_read.specs.declared.row.Row.{Row}
use Rattle.szs_read.specs.declared.row.Stop.{Stop}
use Rattle.szs_read.specs.declared.row.Stop.TheVariants.{Other}
use Rattle.szs_read.proofs.Cuts.{left_length}

-- ---- the whole run

-- the row at its end, the token behind it, and what is left behind that
pub record Ran : Type 0 where
  pub row : RowValue
  pub stop : Stop
  pub rest : List TokenValue

abbrev ran : RowValue → Stop → List TokenValue → Ran
ran row stop rest = record { row = row; stop = stop; rest = rest }

abbrev run_if : Option RowValue → RowValue → TokenValue → List TokenValue → (RowValue → Ran) → Ran
run_if None row t ts more = ran row (stop_at t.kind) ts
run_if (Some next) row t ts more = more next

abbrev pub run : RowValue → List TokenValue → Ran
run row [] = ran row Other []
run row (t ∷ ts) = run_if (with_token row t.kind t) row t ts (λ next. run next ts)

abbrev at : Bool → List NameValue → List ℕ → RowValue
at b ns os = record { positive = b; names = ns; enclosing = os }

abbrev pub start : RowValue
start = at true [] []

pub run_on : (row next : RowValue) (t : TokenValue) (ts : List TokenValue) → with_token row t.kind t ≡ Some next → run row (t ∷ ts) ≡ run next ts
run_on row next t ts e = ap (λ (o : Option RowValue). run_if o row t ts (λ n. run n ts)) e

pub run_stops : (row : RowValue) (t : TokenValue) (ts : List TokenValue) → with_token row t.kind t ≡ None → run row (t ∷ ts) ≡ ran row (stop_at t.kind) ts
run_stops row t ts e = ap (λ (o : Option RowValue). run_if o row t ts (λ n. run n ts)) e

-- ---- names

name_taken : (k : TokenKind) (row : RowValue) (t : TokenValue) → is_name_kind k ≡ true → with_token row k t ≡ Some (with_name row t)
name_taken kind.LowerWord row t h = refl
name_taken kind.SingleQuoted row t h = refl
name_taken kind.Distinct row t h = refl
name_taken kind.Variable row t h = refl
name_taken kind.DollarWord row t h = absurd cc
name_taken kind.Digits row t h = absurd cc
name_taken kind.Number row t h = absurd cc
name_taken kind.OpenRound row t h = absurd cc
name_taken kind.CloseRound row t h = absurd cc
name_taken kind.OpenSquare row t h = absurd cc
name_taken kind.CloseSquare row t h = absurd cc
name_taken kind.Comma row t h = absurd cc
name_taken kind.Dot row t h = absurd cc
name_taken kind.Bar row t h = absurd cc
name_taken kind.Tilde row t h = absurd cc
name_taken kind.Equal row t h = absurd cc
name_taken kind.NotEqual row t h = absurd cc
name_taken kind.OtherSign row t h = absurd cc
name_taken kind.Bad row t h = absurd cc

name_run : (row : RowValue) (t : TokenValue) (ts : List TokenValue) → is_name_kind t.kind ≡ true → run row (t ∷ ts) ≡ run (with_name row t) ts
name_run row t ts h = run_on row (with_name row t) t ts (name_taken t.kind row t h)

abbrev name : TokenValue → ℕ → NameValue
name t n = record { token = t; arity = n }

one_counted : (before : List NameValue) (t : TokenValue) (k : ℕ) (more : List NameValue) → k + 1 < 2 ^ 32 → counted_at (length before) (before ++ name t k ∷ more) ≡ before ++ name t (k + 1) ∷ more
one_counted [] t k more h = ap (λ (n : ℕ). name t n ∷ more) (omega (arith, h))
one_counted (x ∷ before) t k more h = ap (λ (v : List NameValue). x ∷ v) (one_counted before t k more h)

some_weight : (t : TermValue) → 1 ≤ weight t
some_weight (Var x) = omega arith
some_weight (App f ts) = omega arith

pub few_arguments : (ts : Arguments) → count ts ≤ weights ts
few_arguments Nil = omega arith
few_arguments (Cons t ts) = omega (arith, few_arguments ts, some_weight t)

last_place : (before : List NameValue) (n : NameValue) → length (before ++ n ∷ []) - 1 ≡ length before
last_place before n = omega (arith, length-append before (n ∷ []))

-- ---- terms

module _ (s : SignatureValue) where
  abbrev names : List Node → List NameValue
  names nodes = map (node_name s.functions) nodes

  abbrev Fine : List Node → Type 0
  Fine nodes = AreNames (names nodes)

  fine_front : (xs ys : List Node) → Fine (xs ++ ys) → Fine xs
  fine_front [] ys h = tt
  fine_front (x ∷ xs) ys h = (h.0, fine_front xs ys h.1)

  fine_back : (xs ys : List Node) → Fine (xs ++ ys) → Fine ys
  fine_back [] ys h = h
  fine_back (x ∷ xs) ys h = fine_back xs ys h.1

  mutual
    -- a term as one more argument of the name t
    term_run : (u : TermValue) (b : Bool) (before : List NameValue) (t : TokenValue) (k : ℕ) (more : List NameValue) (os : List ℕ) (rest : List TokenValue) → Fine (term_nodes u) → weight u < 2 ^ 32 → k + 1 < 2 ^ 32
        → run (at b (before ++ name t k ∷ more) (length before ∷ os)) (term_then s u rest) ≡ run (at b (before ++ name t (k + 1) ∷ (more ++ names (term_nodes u))) (length before ∷ os)) rest
    term_run (Var x) b before t k more os rest f w h =
        ap (λ (v : List NameValue). run (at b v (length before ∷ os)) rest)
        (ap (λ (v : List NameValue). v ++ names (term_nodes (Var x))) (one_counted before t k more h) ∙ append_assoc before (name t (k + 1) ∷ more) (names (term_nodes (Var x))))
    term_run (App g us) b before t k more os rest f w h =
        let sym_token : TokenValue = symbol_token (slice_get s.functions g) in
        let all : List NameValue = before ++ name t (k + 1) ∷ more in
        name_run (at b (before ++ name t k ∷ more) (length before ∷ os)) sym_token (arguments_then s us rest) f.0
        ∙ ap (λ (v : List NameValue). run (at b (v ++ name sym_token 0 ∷ []) (length before ∷ os)) (arguments_then s us rest)) (one_counted before t k more h)
        ∙ arguments_run us b all sym_token (length before ∷ os) rest f.1 (omega (arith, w))
        ∙ ap (λ (v : List NameValue). run (at b v (length before ∷ os)) rest) (append_assoc before (name t (k + 1) ∷ more) (name sym_token (count us) ∷ names (nodes_of us)))

    -- the arguments of the last name
    arguments_run : (us : Arguments) (b : Bool) (before : List NameValue) (t : TokenValue) (os : List ℕ) (rest : List TokenValue) → Fine (nodes_of us) → weights us < 2 ^ 32
        → run (at b (before ++ name t 0 ∷ []) os) (arguments_then s us rest) ≡ run (at b (before ++ name t (count us) ∷ names (nodes_of us)) os) rest
    arguments_run Nil b before t os rest f w = refl
    arguments_run (Cons u us) b before t os rest f w =
        ap (λ (p : ℕ). run (at b (before ++ name t 0 ∷ []) (p ∷ os)) (term_then s u (others_then s us rest))) (last_place before (name t 0))
        ∙ term_run u b before t 0 [] os (others_then s us rest) (fine_front (term_nodes u) (nodes_of us) f) (omega (arith, w)) (omega arith)
        ∙ others_run us b before t 1 (names (term_nodes u)) os rest (fine_back (term_nodes u) (nodes_of us) f) (omega (arith, w, some_weight u))
        ∙ ap (λ (v : List NameValue). run (at b (before ++ name t (1 + count us) ∷ v) os) rest) (sym (map-append (node_name s.functions) (term_nodes u) (nodes_of us)))

    -- the others of its arguments
    others_run : (us : Arguments) (b : Bool) (before : List NameValue) (t : TokenValue) (k : ℕ) (more : List NameValue) (os : List ℕ) (rest : List TokenValue) → Fine (nodes_of us) → k + weights us < 2 ^ 32
        → run (at b (before ++ name t k ∷ more) (length before ∷ os)) (others_then s us rest) ≡ run (at b (before ++ name t (k + count us) ∷ (more ++ names (nodes_of us))) os) rest
    others_run Nil b before t k more os rest f w =
        let e : k ≡ k + 0 = omega arith in
        ap (λ (v : List NameValue). run (at b (before ++ name t k ∷ v) os) rest) (sym (append-nil more))
        ∙ ap (λ (n : ℕ). run (at b (before ++ name t n ∷ (more ++ [])) os) rest) e
    others_run (Cons u us) b before t k more os rest f w =
        let xs : List NameValue = names (term_nodes u) in
        let ys : List NameValue = names (nodes_of us) in
        let e : (k + 1) + count us ≡ k + (1 + count us) = omega arith in
        term_run u b before t k more os (others_then s us rest) (fine_front (term_nodes u) (nodes_of us) f) (omega (arith, w)) (omega (arith, w, some_weight u))
        ∙ others_run us b before t (k + 1) (more ++ xs) os rest (fine_back (term_nodes u) (nodes_of us) f) (omega (arith, w, some_weight u))
        ∙ ap (λ (n : ℕ). run (at b (before ++ name t n ∷ ((more ++ xs) ++ ys)) os) rest) e
        ∙ ap (λ (v : List NameValue). run (at b (before ++ name t (k + (1 + count us)) ∷ v) os) rest) (append_assoc more xs ys ∙ ap (λ (v : List NameValue). more ++ v) (sym (map-append (node_name s.functions) (term_nodes u) (nodes_of us))))

  -- ---- literals

  stops : (k : TokenKind) (t : TokenValue) (row : RowValue) (stop : Stop) → row.enclosing ≡ [] → StopsBefore k stop → (with_token row k t ≡ None) × (stop_at k ≡ stop)
  stops kind.Bar t row stop e h = (refl, sym h)
  stops kind.Comma t row stop e h = (rw e refl, sym h)
  stops kind.LowerWord t row stop e h = absurd h
  stops kind.SingleQuoted t row stop e h = absurd h
  stops kind.Distinct t row stop e h = absurd h
  stops kind.Variable t row stop e h = absurd h
  stops kind.DollarWord t row stop e h = absurd h
  stops kind.Digits t row stop e h = absurd h
  stops kind.Number t row stop e h = absurd h
  stops kind.OpenRound t row stop e h = absurd h
  stops kind.CloseRound t row stop e h = absurd h
  stops kind.OpenSquare t row stop e h = absurd h
  stops kind.CloseSquare t row stop e h = absurd h
  stops kind.Dot t row stop e h = absurd h
  stops kind.Tilde t row stop e h = absurd h
  stops kind.Equal t row stop e h = absurd h
  stops kind.NotEqual t row stop e h = absurd h
  stops kind.OtherSign t row stop e h = absurd h
  stops kind.Bad t row stop e h = absurd h

  stop_run : (row : RowValue) (rest : List TokenValue) (stop : Stop) → row.enclosing ≡ [] → StopsAt rest stop → run row rest ≡ ran row stop (drop 1 rest)
  stop_run row [] stop e h = ap (λ (x : Stop). ran row x []) (sym h)
  stop_run row (t ∷ ts) stop e h =
      let k = stops t.kind t row stop e h in
      run_stops row t ts k.0 ∙ ap (λ (x : Stop). ran row x ts) k.1

  signed_run : (b : Bool) (a : AtomValue) (rest : List TokenValue) (stop : Stop) → AreNames (literal_names s (record { positive = b; atom = a })) → weights a.args < 2 ^ 32 → StopsAt rest stop
      → run start (signed_then s b a rest) ≡ ran (at b (literal_names s (record { positive = b; atom = a })) []) stop (drop 1 rest)
  signed_run b a rest stop f w h = tilde b ∙ atom b
    where
      p : TokenValue
      p = symbol_token (slice_get s.predicates a.pred)

      tilde : (b : Bool) → run start (signed_then s b a rest) ≡ run (at b [] []) (atom_then s a rest)
      tilde true = refl
      tilde false = refl

      atom : (b : Bool) → run (at b [] []) (atom_then s a rest) ≡ ran (at b (literal_names s (record { positive = b; atom = a })) []) stop (drop 1 rest)
      atom b =
          name_run (at b [] []) (symbol_token (slice_get s.predicates a.pred)) (arguments_then s a.args rest) f.0
          ∙ arguments_run a.args b [] (symbol_token (slice_get s.predicates a.pred)) [] rest f.1 w
          ∙ stop_run (at b (literal_names s (record { positive = b; atom = a })) []) rest stop refl h

  pub literal_run : (l : Literal) (rest : List TokenValue) (stop : Stop) → AreNames (literal_names s l) → weights l.atom.args < 2 ^ 32 → StopsAt rest stop → run start (literal_then s l rest) ≡ ran (at l.positive (literal_names s l) []) stop (drop 1 rest)
  literal_run l rest stop f w h = signed_run l.positive l.atom rest stop f w h

  -- ---- how many tokens a literal has

  mutual
    term_length : (u : TermValue) (rest : List TokenValue) → weight u + length rest ≤ length (term_then s u rest)
    term_length (Var x) rest = omega arith
    term_length (App g us) rest = omega (arith, arguments_length us rest)

    arguments_length : (us : Arguments) (rest : List TokenValue) → weights us + length rest ≤ length (arguments_then s us rest)
    arguments_length Nil rest = omega arith
    arguments_length (Cons u us) rest = omega (arith, term_length u (others_then s us rest), others_length us rest)

    others_length : (us : Arguments) (rest : List TokenValue) → weights us + length rest ≤ length (others_then s us rest)
    others_length Nil rest = omega arith
    others_length (Cons u us) rest = omega (arith, term_length u (others_then s us rest), others_length us rest)

  pub literal_length : (l : Literal) (rest : List TokenValue) → weights l.atom.args ≤ length (literal_then s l rest)
  literal_length l rest = by l.positive
    where
      by : (b : Bool) → weights l.atom.args ≤ length (signed_then s b l.atom rest)
      by true = omega (arith, arguments_length l.atom.args rest)
      by false = omega (arith, arguments_length l.atom.args rest)

pub false_run : (rest : List TokenValue) → run start (false_token ∷ comma_token ∷ rest) ≡ ran start Other rest
false_run rest = refl

-- ---- the loop

-- what is left makes of the row what all the tokens make of an empty one
pub record StillLeft (bytes : List ℕ) (ts : List TokenValue) (row : RowValue) : Type 0 where
  pub now : List TokenValue
  pub left : AreLeft bytes now
  pub same : run start ts ≡ run row now

-- all the tokens make this row, and rest is left
pub record Ended (bytes : List ℕ) (ts : List TokenValue) (row : RowValue) (stop : Stop) : Type 0 where
  pub rest : List TokenValue
  pub left : AreLeft bytes rest
  pub same : run start ts ≡ ran row stop rest

-- what the next token is
abbrev pub Advances : List ℕ → List ℕ → Option Token → Type 0
Advances before after token = (ts : List TokenValue) → AreLeft before ts → IsNextOf ts token × AreLeft after (drop 1 ts)

pub none_yet : (bytes : List ℕ) (row : RowValue) → row ≡ start → (ts : List TokenValue) → AreLeft bytes ts → StillLeft bytes ts row
none_yet bytes row e ts h = record { now = ts; left = h; same = ap (λ (v : RowValue). run v ts) (sym e) }

pub one_token : (before after : List ℕ) (ts : List TokenValue) (row next : RowValue) (token : Token) → Advances before after (Some token) → IsTaken row (token_value token) next None → StillLeft before ts row → StillLeft after ts next
one_token before after ts row next token f k h = by h.now refl (f h.now h.left)
  where
    by : (now : List TokenValue) → h.now ≡ now → IsNextOf h.now (Some token) × AreLeft after (drop 1 h.now) → StillLeft after ts next
    by [] e n = let x : Some token ≡ None = subst (λ (v : List TokenValue). IsNextOf v (Some token)) e n.0 in absurd cc
    by (t ∷ more) e n =
        let x : IsNextOf (t ∷ more) (Some token) = subst (λ (v : List TokenValue). IsNextOf v (Some token)) e n.0 in
        let next_is : Some token ≡ Some x.0 = x.1 in
        let tok : token ≡ x.0 = cc in
        let is : token_value token ≡ t = ap token_value tok ∙ x.2 in
        record {
          now = more;
          left = subst (λ (v : List TokenValue). AreLeft after (drop 1 v)) e n.1;
          same = h.same ∙ ap (run row) e ∙ run_on row next t more (subst (λ (v : TokenValue). with_token row v.kind v ≡ Some next) is k);
        }

pub ends_at : (before after : List ℕ) (ts : List TokenValue) (row next : RowValue) (token : Token) (stop : Stop) → Advances before after (Some token) → IsTaken row (token_value token) next (Some stop) → StillLeft before ts row → Ended after ts next stop
ends_at before after ts row next token stop f k h = by h.now refl (f h.now h.left)
  where
    by : (now : List TokenValue) → h.now ≡ now → IsNextOf h.now (Some token) × AreLeft after (drop 1 h.now) → Ended after ts next stop
    by [] e n = let x : Some token ≡ None = subst (λ (v : List TokenValue). IsNextOf v (Some token)) e n.0 in absurd cc
    by (t ∷ more) e n =
        let x : IsNextOf (t ∷ more) (Some token) = subst (λ (v : List TokenValue). IsNextOf v (Some token)) e n.0 in
        let next_is : Some token ≡ Some x.0 = x.1 in
        let tok : token ≡ x.0 = cc in
        let is : token_value token ≡ t = ap token_value tok ∙ x.2 in
        record {
          rest = more;
          left = subst (λ (v : List TokenValue). AreLeft after (drop 1 v)) e n.1;
          same =
              h.same ∙ ap (run row) e ∙ run_stops row t more (subst (λ (v : TokenValue). with_token row v.kind v ≡ None) is k.0)
              ∙ ap (λ (v : TokenValue). ran row (stop_at v.kind) more) (sym is)
              ∙ ap (λ (v : Stop). ran row v more) (sym k.2)
              ∙ ap (λ (v : RowValue). ran v stop more) (sym k.1);
        }

pub ends_none : (before after : List ℕ) (ts : List TokenValue) (row : RowValue) → Advances before after None → StillLeft before ts row → Ended after ts row Other
ends_none before after ts row f h = by h.now refl (f h.now h.left)
  where
    by : (now : List TokenValue) → h.now ≡ now → IsNextOf h.now None × AreLeft after (drop 1 h.now) → Ended after ts row Other
    by [] e n = record { rest = []; left = subst (λ (v : List TokenValue). AreLeft after (drop 1 v)) e n.1; same = h.same ∙ ap (run row) e }
    by (t ∷ more) e n =
        let x : IsNextOf (t ∷ more) None = subst (λ (v : List TokenValue). IsNextOf v None) e n.0 in
        let y : None ≡ Some x.0 = x.1 in absurd cc

-- ---- whole literals

pub literal_ended : (before after : List ℕ) (row : Row) (stop : Stop) → ((ts : List TokenValue) → AreLeft before ts → Ended after ts (row_value row) stop)
    → (s : SignatureValue) (l : Literal) (rest : List TokenValue) (end : Stop) → length before < 2 ^ 32 → AreNames (literal_names s l) → StopsAt rest end → AreLeft before (literal_then s l rest) → IsRowOf s l row × (stop ≡ end) × AreLeft after (drop 1 rest)
literal_ended before after row stop f s l rest end few names stops left =
    let e = f (literal_then s l rest) left in
    let small : weights l.atom.args < 2 ^ 32 = omega (arith, few, left_length before (literal_then s l rest) left, literal_length s l rest) in
    let same : ran (row_value row) stop e.rest ≡ ran (at l.positive (literal_names s l) []) end (drop 1 rest) = sym e.same ∙ literal_run s l rest end names small stops in (
      record { positive = ap (λ (v : Ran). v.row.positive) same; names = ap (λ (v : Ran). v.row.names) same },
      ap (λ (v : Ran). v.stop) same,
      subst (AreLeft after) (ap (λ (v : Ran). v.rest) same) e.left,
    )

no_names : (items : List Item) → map item_value items ≡ [] → items ≡ []
no_names [] e = refl
no_names (x ∷ items) e = absurd cc

pub false_ended : (before after : List ℕ) (row : Row) (stop : Stop) → ((ts : List TokenValue) → AreLeft before ts → Ended after ts (row_value row) stop)
    → (rest : List TokenValue) → AreLeft before (false_token ∷ comma_token ∷ rest) → (row.items.items ≡ []) × AreLeft after rest
false_ended before after row stop f rest left =
    let e = f (false_token ∷ comma_token ∷ rest) left in
    let same : ran (row_value row) stop e.rest ≡ ran start Other rest = sym e.same ∙ false_run rest in
    (no_names row.items.items (ap (λ (v : Ran). v.row.names) same), subst (AreLeft after) (ap (λ (v : Ran). v.rest) same) e.left)
