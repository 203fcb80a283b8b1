-- The bytes of a formula are cut into its tokens wherever a line feed comes behind them.
use Rattle.std.proofs.Common.{◌≡◌, ◌≢◌, ◌⊎◌, inl, inr, ◌≤◌, ℕ, suc, ◌+◌, ◌-◌, List, [], ◌∷◌, ◌++◌, length, refl, sym, ap, subst, ◌∙◌, append_assoc, arith}
use Rattle.std.proofs.lemmas.List.{append-nil, length-append}
use Rattle.tptp_tokens.specs.Gaps.{GapPiece, Blank, Line, LastLine, Block, IsOneLine, IsFirstEnd, IsPiece, Skips, IsGap}
use Rattle.tptp_tokens.specs.Remainders.{Remainder}
use Rattle.tptp_tokens.specs.Tokens.{TokenValue, PlacedToken, IsToken, written, IsLongest, OpensComment, IsFirst, IsNextToken, IsCutFrom}
use Rattle.tptp_tokens.specs.declared.token.TokenKind.{TokenKind}
use Rattle.tptp_tokens.specs.declared.token.TokenKind.TheVariants as kinds
use Rattle.tptp_tokens.proofs.OneCut.{BadFirst, GoodFirst, first_view}
use Rattle.tptp_grammar.specs.Terminals.{Dot, terminal}
use Rattle.tptp_cnf.specs.Causes.{AreFirstTokens}
use Rattle.tptp_lines.proofs.Parsing.{Fronts, First, Second, fronts}
use Rattle.flat_laws.proofs.Feeds.{Head, head, one_line, no_piece}

-- ---- a token in front of other bytes

-- a good token at the front of bytes
pub record Good (t : TokenValue) (bytes rest : List ℕ) : Type 0 where
  pub longest : IsLongest t bytes rest
  pub no_comment : OpensComment bytes → ⊥

some_head : (t : TokenValue) → IsToken t → Head (written t)
some_head t h = head t.kind t.text h

-- nothing that is one line goes past a line feed
past_feed : (xs ys more : List ℕ) → IsOneLine xs → xs ≡ ys ++ 10 ∷ more → ⊥
past_feed [] [] more h e = cc
past_feed [] (y ∷ ys) more h e = cc
past_feed (x ∷ xs) [] more h e = let same : x ≡ 10 = cc in h.0 same
past_feed (x ∷ xs) (y ∷ ys) more h e = let tails : xs ≡ ys ++ 10 ∷ more = cc in past_feed xs ys more h.1 tails

opens_of : (w x y : List ℕ) → length w ≡ suc (suc (length w - 2)) → OpensComment (w ++ x) → OpensComment (w ++ y)
opens_of [] x y l o = absurd (omega (arith, l))
opens_of (a ∷ []) x y l o = absurd (omega (arith, l))
opens_of (a ∷ b ∷ w) x y l o = let one : a ≡ 47 = cc in let two : b ≡ 42 = cc in (w ++ y, ap (λ (z : ℕ). z ∷ b ∷ (w ++ y)) one ∙ ap (λ (z : ℕ). 47 ∷ z ∷ (w ++ y)) two)

two_bytes : (t : TokenValue) (w w1 : List ℕ) → IsToken t → w ≡ written t ++ w1 → w1 ≢ [] → length w ≡ suc (suc (length w - 2))
two_bytes t w [] h e n = absurd (n refl)
two_bytes t w (b ∷ bs) h e n = let k = some_head t h in omega (arith, ap length e, ap length k.is, length-append (written t) (b ∷ bs))

-- a token of these bytes is one in front of a line feed too, where something comes behind it
pub token_on : (t : TokenValue) (w w1 rest next : List ℕ) → w ≡ written t ++ w1 → w1 ≢ [] → Good t (w ++ rest) (w1 ++ rest) → Good t (w ++ 10 ∷ next) (w1 ++ 10 ∷ next)
token_on t w w1 rest next e some g = record {
  longest = record {
    lawful = g.longest.lawful;
    parts = ap (λ (x : List ℕ). x ++ 10 ∷ next) e ∙ append_assoc (written t) w1 (10 ∷ next);
    longest = λ other after h k. by other after h (fronts (written other) w after (10 ∷ next) (sym k));
  };
  no_comment = λ o. g.no_comment (opens_of w (10 ∷ next) rest (two_bytes t w w1 g.longest.lawful e some) o);
}
  where
    by : (other : TokenValue) (after : List ℕ) → IsToken other → Fronts (written other) w after (10 ∷ next) → length (written other) ≤ length (written t)
    by other after h (First more k l) = g.longest.longest other (more ++ rest) h (ap (λ (x : List ℕ). x ++ rest) k ∙ append_assoc (written other) more rest)
    by other after h (Second [] k l) = g.longest.longest other rest h (ap (λ (x : List ℕ). x ++ rest) (sym (append-nil w) ∙ sym k))
    by other after h (Second (b ∷ more) k l) = let feed : 10 ≡ b = cc in absurd (past_feed (written other) w more (one_line other.kind other.text h) (k ∙ ap (λ (x : ℕ). w ++ x ∷ more) (sym feed)))

-- ---- a gap before other bytes

-- a comment between /* and */ ends where it does
first_end_on : (text inside w rest other : List ℕ) → inside ≡ text ++ 42 ∷ 47 ∷ (w ++ rest) → IsFirstEnd text inside (w ++ rest) → IsFirstEnd text (text ++ 42 ∷ 47 ∷ (w ++ other)) (w ++ other)
first_end_on text inside w rest other e h = record {
  here = refl;
  first = λ front after k. by front after (fronts (front ++ 42 ∷ 47 ∷ []) (text ++ 42 ∷ 47 ∷ []) after (w ++ other) (append_assoc front (42 ∷ 47 ∷ []) after ∙ sym k ∙ sym (append_assoc text (42 ∷ 47 ∷ []) (w ++ other))));
}
  where
    by : (front after : List ℕ) → Fronts (front ++ 42 ∷ 47 ∷ []) (text ++ 42 ∷ 47 ∷ []) after (w ++ other) → length text ≤ length front
    by front after (First more k l) =
        h.first front (more ++ (w ++ rest)) (e ∙ sym (append_assoc text (42 ∷ 47 ∷ []) (w ++ rest)) ∙ ap (λ (x : List ℕ). x ++ (w ++ rest)) k
        ∙ append_assoc (front ++ 42 ∷ 47 ∷ []) more (w ++ rest) ∙ append_assoc front (42 ∷ 47 ∷ []) (more ++ (w ++ rest)))
    by front after (Second more k l) = omega (arith, ap length k, length-append front (42 ∷ 47 ∷ []), length-append (text ++ 42 ∷ 47 ∷ []) more, length-append text (42 ∷ 47 ∷ []))

-- what stands in front of the end of a gap
pub record GapFront (pieces : List GapPiece) (bytes : List ℕ) (w rest : List ℕ) : Type 0 where
  pub front : List ℕ
  pub same : bytes ≡ front ++ (w ++ rest)
  pub on : (next : List ℕ) → ((piece : GapPiece) (after : List ℕ) → IsPiece piece (w ++ 10 ∷ next) after → ⊥) → Skips pieces (front ++ (w ++ 10 ∷ next)) (w ++ 10 ∷ next)

pub gap_front : (pieces : List GapPiece) (bytes w rest : List ℕ) → w ≢ [] → Skips pieces bytes (w ++ rest) → GapFront pieces bytes w rest
gap_front [] bytes w rest some h = record { front = []; same = sym h.0; on = λ next n. (refl, n) }
gap_front (Blank b ∷ pieces) bytes w rest some h =
    let k = gap_front pieces h.0 w rest some h.2 in
    record {
      front = b ∷ k.front;
      same = h.1.0 ∙ ap (λ (x : List ℕ). b ∷ x) k.same;
      on = λ next n. (k.front ++ (w ++ 10 ∷ next), (refl, h.1.1), k.on next n);
    }
gap_front (Line text ∷ pieces) bytes w rest some h =
    let k = gap_front pieces h.0 w rest some h.2 in
    record {
      front = 37 ∷ (text ++ 10 ∷ k.front);
      same = h.1.0 ∙ ap (λ (x : List ℕ). 37 ∷ (text ++ 10 ∷ x)) k.same ∙ ap (λ (x : List ℕ). 37 ∷ x) (sym (append_assoc text (10 ∷ k.front) (w ++ rest)));
      on = λ next n. (k.front ++ (w ++ 10 ∷ next), (ap (λ (x : List ℕ). 37 ∷ x) (append_assoc text (10 ∷ k.front) (w ++ 10 ∷ next)), h.1.1), k.on next n);
    }
gap_front (LastLine text ∷ pieces) bytes w rest some h =
    let k = gap_front pieces h.0 w rest some h.2 in
    absurd (none w k.front some (sym k.same ∙ h.1.2))
  where
    none : (v front : List ℕ) → v ≢ [] → front ++ (v ++ rest) ≡ [] → ⊥
    none [] front n e = n refl
    none (b ∷ bs) [] n e = cc
    none (b ∷ bs) (a ∷ front) n e = cc
gap_front (Block text ∷ pieces) bytes w rest some h =
    let k = gap_front pieces h.0 w rest some h.2 in
    let inside = h.1.0 in
    let here : inside ≡ text ++ 42 ∷ 47 ∷ h.0 = h.1.2.here in
    let first : IsFirstEnd text inside h.0 = h.1.2 in
    record {
      front = 47 ∷ 42 ∷ (text ++ 42 ∷ 47 ∷ k.front);
      same = h.1.1 ∙ ap (λ (x : List ℕ). 47 ∷ 42 ∷ x) (here ∙ ap (λ (x : List ℕ). text ++ 42 ∷ 47 ∷ x) k.same ∙ sym (append_assoc text (42 ∷ 47 ∷ k.front) (w ++ rest)));
      on = λ next n. (
        k.front ++ (w ++ 10 ∷ next),
        (
          text ++ 42 ∷ 47 ∷ (k.front ++ (w ++ 10 ∷ next)),
          ap (λ (x : List ℕ). 47 ∷ 42 ∷ x) (append_assoc text (42 ∷ 47 ∷ k.front) (w ++ 10 ∷ next)),
          moved text inside k.front next here k.same first,
        ),
        k.on next n,
      );
    }
  where
    moved : (text inside front next : List ℕ) → inside ≡ text ++ 42 ∷ 47 ∷ h.0 → h.0 ≡ front ++ (w ++ rest) → IsFirstEnd text inside h.0 → IsFirstEnd text (text ++ 42 ∷ 47 ∷ (front ++ (w ++ 10 ∷ next))) (front ++ (w ++ 10 ∷ next))
    moved text inside front next here same first =
        let split : h.0 ≡ (front ++ w) ++ rest = same ∙ sym (append_assoc front w rest) in
        let one : IsFirstEnd text (text ++ 42 ∷ 47 ∷ ((front ++ w) ++ 10 ∷ next)) ((front ++ w) ++ 10 ∷ next) =
        first_end_on text inside (front ++ w) rest (10 ∷ next) (here ∙ ap (λ (x : List ℕ). text ++ 42 ∷ 47 ∷ x) split) (subst (IsFirstEnd text inside) split first) in
        subst (λ (x : List ℕ). IsFirstEnd text (text ++ 42 ∷ 47 ∷ x) x) (append_assoc front w (10 ∷ next)) one

-- ---- the tokens of a formula

-- The bytes of w are these tokens, the last of which is the full stop, with gaps between them, where rest comes behind.
abbrev pub Spans : List TokenValue → List ℕ → List ℕ → Type 0
Spans [] w rest = ⊥
Spans (t ∷ []) w rest = (terminal t ≡ Dot) × Good t (w ++ rest) rest × (w ≡ written t)
Spans (t ∷ u ∷ ts) w rest = (front w2 : List ℕ) × (w ≡ written t ++ (front ++ w2)) × (w2 ≢ []) × Good t (w ++ rest) ((front ++ w2) ++ rest) × ((pieces : List GapPiece) × Skips pieces ((front ++ w2) ++ rest) (w2 ++ rest)) × Spans (u ∷ ts) w2 rest

-- ---- the tokens of a formula in a file

good_of : (t : TokenValue) (bytes rest : List ℕ) → IsFirst t bytes rest → rest ≢ [] → Good t bytes rest
good_of t bytes rest h some = by (first_view t.kind t.text bytes rest h)
  where
    by : (BadFirst t.kind t.text bytes rest ⊎ GoodFirst t.kind t.text bytes rest) → Good t bytes rest
    by (inl b) = absurd (some b.none)
    by (inr g) = record { longest = g.longest; no_comment = g.no_comment }

dot_kind : (kind : TokenKind) (text : List ℕ) → terminal (record { kind = kind; text = text }) ≡ Dot → kind ≡ kinds.Dot
dot_kind kinds.Dot text e = refl
dot_kind kind text e = absurd cc

good_dot : (t : TokenValue) (bytes rest : List ℕ) → terminal t ≡ Dot → IsFirst t bytes rest → Good t bytes rest
good_dot t bytes rest e h = by (first_view t.kind t.text bytes rest h)
  where
    apart : kinds.Bad ≡ kinds.Dot → ⊥
    apart k = cc

    by : (BadFirst t.kind t.text bytes rest ⊎ GoodFirst t.kind t.text bytes rest) → Good t bytes rest
    by (inl b) = absurd (apart (sym b.is ∙ dot_kind t.kind t.text e))
    by (inr g) = record { longest = g.longest; no_comment = g.no_comment }

abbrev pub values : List PlacedToken → List TokenValue
values [] = []
values (p ∷ ps) = p.token ∷ values ps

-- the last of these tokens is a full stop
abbrev pub EndsInDot : PlacedToken → List PlacedToken → Type 0
EndsInDot p [] = terminal p.token ≡ Dot
EndsInDot p (q ∷ ps) = EndsInDot q ps

abbrev pub last_at : PlacedToken → List PlacedToken → ℕ
last_at p [] = p.at
last_at p (q ∷ ps) = last_at q ps

dot_written : (kind : TokenKind) (text : List ℕ) → kind ≡ kinds.Dot → IsToken (record { kind = kind; text = text }) → written (record { kind = kind; text = text }) ≡ 46 ∷ []
dot_written kinds.Dot text e h = h
dot_written kind text e h = absurd cc

-- the bytes of tokens that begin here, and what comes behind them
pub record SpanOf (p : PlacedToken) (ps : List PlacedToken) (middle : List ℕ) (last : Remainder) : Type 0 where
  pub w : List ℕ
  pub same : middle ≡ w ++ last.bytes
  pub spans : Spans (p.token ∷ values ps) w last.bytes
  pub some : w ≢ []
  pub ends : last_at p ps + 1 + length last.bytes ≡ p.at + length middle

some_written : (t : TokenValue) (more : List ℕ) → IsToken t → written t ++ more ≢ []
some_written t more h e = by (some_head t h)
  where
    by : Head (written t) → ⊥
    by k = let all = sym e ∙ ap (λ (x : List ℕ). x ++ more) k.is in cc

front_some : (front w rest : List ℕ) → w ≢ [] → (front ++ w) ++ rest ≢ []
front_some [] [] rest n e = n refl
front_some [] (b ∷ w) rest n e = cc
front_some (a ∷ front) w rest n e = cc

pub span_of : (ps : List PlacedToken) (p : PlacedToken) (middle : List ℕ) (left last : Remainder) → IsFirst p.token middle left.bytes → p.at + length middle ≡ left.at + length left.bytes → AreFirstTokens ps left last → EndsInDot p ps → SpanOf p ps middle last
span_of [] p middle left last f place t dot =
    let g = good_dot p.token middle left.bytes dot f in
    let one : written p.token ≡ 46 ∷ [] = dot_written p.token.kind p.token.text (dot_kind p.token.kind p.token.text dot) g.longest.lawful in
    let whole : middle ≡ written p.token ++ left.bytes = g.longest.parts in
    subst (SpanOf p [] middle) t (record {
      w = written p.token;
      same = whole;
      spans = (dot, subst (λ (x : List ℕ). Good p.token x left.bytes) whole g, refl);
      some = λ e. some_written p.token [] g.longest.lawful (append-nil (written p.token) ∙ e);
      ends = omega (arith, ap length whole, ap length one, length-append (written p.token) left.bytes);
    })
span_of (q ∷ ps) p middle left last f place t dot =
    let n : IsNextToken left q t.0 = t.1 in
    let rest = span_of ps q n.middle t.0 last n.first (n.place ∙ sym n.end) t.2 dot in
    let k = gap_front n.gap.0 left.bytes rest.w last.bytes rest.some (subst (Skips n.gap.0 left.bytes) rest.same n.gap.1) in
    let behind : left.bytes ≡ (k.front ++ rest.w) ++ last.bytes = k.same ∙ sym (append_assoc k.front rest.w last.bytes) in
    let g = good_of p.token middle left.bytes f (λ e. front_some k.front rest.w last.bytes rest.some (sym behind ∙ e)) in
    let w : List ℕ = written p.token ++ (k.front ++ rest.w) in
    let whole : middle ≡ w ++ last.bytes = g.longest.parts ∙ ap (λ (x : List ℕ). written p.token ++ x) behind ∙ sym (append_assoc (written p.token) (k.front ++ rest.w) last.bytes) in
    record {
      w = w;
      same = whole;
      spans = (
        k.front,
        rest.w,
        refl,
        rest.some,
        subst (λ (x : List ℕ). Good p.token x ((k.front ++ rest.w) ++ last.bytes)) whole (subst (Good p.token middle) behind g),
        (n.gap.0, subst (λ (x : List ℕ). Skips n.gap.0 x (rest.w ++ last.bytes)) behind (subst (Skips n.gap.0 left.bytes) rest.same n.gap.1)),
        rest.spans,
      );
      some = some_written p.token (k.front ++ rest.w) g.longest.lawful;
      ends = omega (arith, rest.ends, place, n.place);
    }

-- ---- these tokens elsewhere

-- what is left at the end of so many bytes
abbrev pub left_of : ℕ → List ℕ → Remainder
left_of n bytes = record { at = n - length bytes; bytes = bytes }

first_of : (kind : TokenKind) (text bytes rest : List ℕ) → Good (record { kind = kind; text = text }) bytes rest → IsFirst (record { kind = kind; text = text }) bytes rest
first_of kinds.Bad text bytes rest g = absurd g.longest.lawful
first_of kind text bytes rest g = (g.longest, g.no_comment)

heads_are : (b c : ℕ) (xs ys : List ℕ) → b ∷ xs ≡ c ∷ ys → b ≡ c
heads_are b c xs ys e = cc

dot_on : (t : TokenValue) (w rest next : List ℕ) → terminal t ≡ Dot → w ≡ written t → Good t (w ++ rest) rest → Good t (w ++ 10 ∷ next) (10 ∷ next)
dot_on t w rest next dot e g = record {
  longest = record {
    lawful = g.longest.lawful;
    parts = ap (λ (x : List ℕ). x ++ 10 ∷ next) e;
    longest = λ other after h k. by other after h (fronts (written other) w after (10 ∷ next) (sym k));
  };
  no_comment = λ o. apart o.0 (sym o.1 ∙ ap (λ (x : List ℕ). x ++ 10 ∷ next) (e ∙ one));
}
  where
    one : written t ≡ 46 ∷ []
    one = dot_written t.kind t.text (dot_kind t.kind t.text dot) g.longest.lawful

    apart : (inside : List ℕ) → 47 ∷ 42 ∷ inside ≡ 46 ∷ 10 ∷ next → ⊥
    apart inside k = omega (arith, heads_are 47 46 (42 ∷ inside) (10 ∷ next) k)

    by : (other : TokenValue) (after : List ℕ) → IsToken other → Fronts (written other) w after (10 ∷ next) → length (written other) ≤ length (written t)
    by other after h (First more k l) = g.longest.longest other (more ++ rest) h (ap (λ (x : List ℕ). x ++ rest) k ∙ append_assoc (written other) more rest)
    by other after h (Second [] k l) = g.longest.longest other rest h (ap (λ (x : List ℕ). x ++ rest) (sym (append-nil w) ∙ sym k))
    by other after h (Second (b ∷ more) k l) = let feed : 10 ≡ b = cc in absurd (past_feed (written other) w more (one_line other.kind other.text h) (k ∙ ap (λ (x : ℕ). w ++ x ∷ more) (sym feed)))

-- so many bytes end with bytes that are cut into these tokens, and then others
pub record CutAs (n : ℕ) (bytes : List ℕ) (ts : List TokenValue) (more : List PlacedToken) : Type 0 where
  pub placed : List PlacedToken
  pub cut : IsCutFrom (left_of n bytes) (placed ++ more)
  pub same : values placed ≡ ts

pub good_no_piece : (t : TokenValue) (bytes rest : List ℕ) → Good t bytes rest → (piece : GapPiece) (after : List ℕ) → IsPiece piece bytes after → ⊥
good_no_piece t bytes rest g piece after p = no_piece t bytes rest g.longest.lawful g.longest.parts g.no_comment piece after p

-- the token at the front of the bytes of a formula, where a line feed comes behind it
pub first_on : (t : TokenValue) (ts : List TokenValue) (w rest next : List ℕ) → Spans (t ∷ ts) w rest → (after : List ℕ) × Good t (w ++ 10 ∷ next) after
first_on t [] w rest next h = (10 ∷ next, dot_on t w rest next h.0 h.2 h.1)
first_on t (u ∷ ts) w rest next h = ((h.0 ++ h.1) ++ 10 ∷ next, token_on t w (h.0 ++ h.1) rest next h.2 (some h.0 h.1 h.3) h.4)
  where
    some : (front v : List ℕ) → v ≢ [] → front ++ v ≢ []
    some [] v n e = n e
    some (a ∷ front) v n e = cc

-- one token more in front of a cut
one_token : (n : ℕ) (now left middle : List ℕ) (t : TokenValue) (tokens : List PlacedToken) → length now ≤ n → length middle ≤ length now → length left ≤ length middle → IsGap now middle → Good t middle left → IsCutFrom (left_of n left) tokens
    → IsCutFrom (left_of n now) (record { at = n - length middle; token = t } ∷ tokens)
one_token n now left middle t tokens a b c gap g cut = (
  left_of n left,
  record { middle = middle; gap = gap; first = first_of t.kind t.text middle left g; place = omega (arith, a, b); end = omega (arith, a, b, c) },
  cut,
)

good_shorter : (t : TokenValue) (bytes rest : List ℕ) → Good t bytes rest → length rest ≤ length bytes
good_shorter t bytes rest g = omega (arith, ap length g.longest.parts, length-append (written t) rest)

pub cut_as : (ts : List TokenValue) (w rest next : List ℕ) → Spans ts w rest → (n : ℕ) (now : List ℕ) → length now ≤ n → IsGap now (w ++ 10 ∷ next) → length (w ++ 10 ∷ next) ≤ length now → (more : List PlacedToken) → IsCutFrom (left_of n (10 ∷ next)) more → CutAs n now ts more
cut_as [] w rest next h n now a gap b more cut = absurd h
cut_as (t ∷ []) w rest next h n now a gap b more cut =
    let g = dot_on t w rest next h.0 h.2 h.1 in
    record { placed = record { at = n - length (w ++ 10 ∷ next); token = t } ∷ []; cut = one_token n now (10 ∷ next) (w ++ 10 ∷ next) t more a b (good_shorter t (w ++ 10 ∷ next) (10 ∷ next) g) gap g cut; same = refl }
cut_as (t ∷ u ∷ ts) w rest next h n now a gap b more cut =
    let front = h.0 in
    let w2 = h.1 in
    let spans : Spans (u ∷ ts) w2 rest = h.6 in
    let g : Good t (w ++ 10 ∷ next) ((front ++ w2) ++ 10 ∷ next) = token_on t w (front ++ w2) rest next h.2 (λ e. front_some front w2 [] h.3 (append-nil (front ++ w2) ∙ e)) h.4 in
    let le = good_shorter t (w ++ 10 ∷ next) ((front ++ w2) ++ 10 ∷ next) g in
    let f = first_on u ts w2 rest next spans in
    let gap2 : IsGap ((front ++ w2) ++ 10 ∷ next) (w2 ++ 10 ∷ next) = (h.5.0, moved h.5.0 front w2 (h.5.1) h.3 (λ piece after p. good_no_piece u (w2 ++ 10 ∷ next) f.0 f.1 piece after p)) in
    let r = cut_as (u ∷ ts) w2 rest next spans n ((front ++ w2) ++ 10 ∷ next) (omega (arith, a, b, le)) gap2 (omega (arith, length-append (front ++ w2) (10 ∷ next), length-append front w2, length-append w2 (10 ∷ next))) more cut in
    record {
      placed = record { at = n - length (w ++ 10 ∷ next); token = t } ∷ r.placed;
      cut = one_token n now ((front ++ w2) ++ 10 ∷ next) (w ++ 10 ∷ next) t (r.placed ++ more) a b le gap g r.cut;
      same = ap (λ (x : List TokenValue). t ∷ x) r.same;
    }
  where
    cancel : (xs ys zs : List ℕ) → xs ++ zs ≡ ys ++ zs → xs ≡ ys
    cancel [] [] zs e = refl
    cancel [] (y ∷ ys) zs e = absurd (omega (arith, ap length e, length-append ys zs))
    cancel (x ∷ xs) [] zs e = absurd (omega (arith, ap length e, length-append xs zs))
    cancel (x ∷ xs) (y ∷ ys) zs e = let h : x ≡ y = cc in let k : xs ++ zs ≡ ys ++ zs = cc in ap (λ (z : ℕ). z ∷ xs) h ∙ ap (λ (z : List ℕ). y ∷ z) (cancel xs ys zs k)

    moved : (pieces : List GapPiece) (front w2 : List ℕ) → Skips pieces ((front ++ w2) ++ rest) (w2 ++ rest) → w2 ≢ [] → ((piece : GapPiece) (after : List ℕ) → IsPiece piece (w2 ++ 10 ∷ next) after → ⊥) → Skips pieces ((front ++ w2) ++ 10 ∷ next) (w2 ++ 10 ∷ next)
    moved pieces front w2 s some none =
        let k = gap_front pieces ((front ++ w2) ++ rest) w2 rest some s in
        let same : front ++ w2 ≡ k.front ++ w2 = cancel (front ++ w2) (k.front ++ w2) rest (k.same ∙ sym (append_assoc k.front w2 rest)) in
        subst (λ (x : List ℕ). Skips pieces x (w2 ++ 10 ∷ next)) (sym (append_assoc k.front w2 (10 ∷ next)) ∙ ap (λ (x : List ℕ). x ++ 10 ∷ next) (sym same)) (k.on next none)
