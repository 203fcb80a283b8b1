-- How texts are written in quotes, and read.
use Rattle.std.proofs.Common.{◌≡◌, ◌≢◌, ◌≤◌, ◌<◌, ◌-◌, ◌+◌, ℕ, Bool, true, false, List, [], ◌∷◌, ◌++◌, length, take, drop, get_or, refl, sym, ap, ◌∙◌, inl, inr, suc, add-one, append_assoc, arith}
use Rattle.std.proofs.lemmas.List.{append-nil, length-append}
use Rattle.std.proofs.lemmas.Bool.Decides.{nat_tests}
use Rattle.std.proofs.Math.Seq.{take-append_seam, drop-cons}
use Rattle.std.specs.Prelude.{◌⊎◌, ◌==◌}
use Rattle.std.specs.List.{list_all}
use Rattle.me_terms.specs.Labels.{is_printable}
use Rattle.tptp_tokens.specs.Quoted.{is_escaped, escaped_if, escaped_byte, escaped, unescaped_from, unescaped}
use Rattle.tptp_tokens.specs.Founds.{IsClosedQuote, IsPrintables, BeginsPrintable}
use Rattle.tptp_tokens.proofs.Runs.{all_first, all_append}

head : (a b : ℕ) (x y : List ℕ) → a ∷ x ≡ b ∷ y → a ≡ b
head a b x y h = cc

escaped-append : (q : ℕ) (w : List ℕ) (b : ℕ) → escaped q (w ++ b ∷ []) ≡ escaped q w ++ escaped_byte q b
escaped-append q [] b = append-nil (escaped_byte q b)
escaped-append q (c ∷ w) b = ap (λ (x : List ℕ). escaped_byte q c ++ x) (escaped-append q w b) ∙ sym (append_assoc (escaped_byte q c) (escaped q w) (escaped_byte q b))

plain : (q b : ℕ) → is_escaped q b ≡ false → (b ≢ q) × (b ≢ 92)
plain q b e = (λ h. absurd (grind (arith, nat_tests)), λ h. absurd (grind (arith, nat_tests)))

-- what is written of a byte is no quote by itself
no_quote : (v : Bool) (q b : ℕ) (x y : List ℕ) → q ≢ 92 → is_escaped q b ≡ v → escaped_if v b ++ x ≡ q ∷ y → ⊥
no_quote true q b x y n e h = n (sym (head 92 q (b ∷ x) y h))
no_quote false q b x y n e h = (plain q b e).0 (head b q x y h)

-- the same bytes are the same byte first
one_byte : (v u : Bool) (q b d : ℕ) (x y : List ℕ) → is_escaped q b ≡ v → is_escaped q d ≡ u → escaped_if v b ++ x ≡ escaped_if u d ++ y → (b ≡ d) × (x ≡ y)
one_byte true true q b d x y e f h = (cc, cc)
one_byte false false q b d x y e f h = (cc, cc)
one_byte true false q b d x y e f h = absurd ((plain q d f).1 (sym (head 92 d (b ∷ x) y h)))
one_byte false true q b d x y e f h = absurd ((plain q b e).1 (head b 92 x (d ∷ y) h))

byte_off : (q b : ℕ) (w x : List ℕ) → escaped q (b ∷ w) ++ x ≡ escaped_byte q b ++ (escaped q w ++ x)
byte_off q b w x = append_assoc (escaped_byte q b) (escaped q w) x

-- the same bytes are the same text up to the same quote
pub one_text : (q : ℕ) (w u r s : List ℕ) → q ≢ 92 → escaped q w ++ q ∷ r ≡ escaped q u ++ q ∷ s → (w ≡ u) × (r ≡ s)
one_text q [] [] r s n e = (refl, cc)
one_text q (b ∷ w) [] r s n e = absurd (no_quote (is_escaped q b) q b (escaped q w ++ q ∷ r) s n refl (sym (byte_off q b w (q ∷ r)) ∙ e))
one_text q [] (b ∷ u) r s n e = absurd (no_quote (is_escaped q b) q b (escaped q u ++ q ∷ s) r n refl (sym (byte_off q b u (q ∷ s)) ∙ sym e))
one_text q (b ∷ w) (d ∷ u) r s n e =
    let k = one_byte (is_escaped q b) (is_escaped q d) q b d (escaped q w ++ q ∷ r) (escaped q u ++ q ∷ s) refl refl (sym (byte_off q b w (q ∷ r)) ∙ e ∙ byte_off q d u (q ∷ s)) in
    let t = one_text q w u r s n k.1 in
    (ap (λ (x : ℕ). x ∷ w) k.0 ∙ ap (λ (x : List ℕ). d ∷ x) t.0, t.1)

-- ---- the printable bytes that are read

pub record SoFar (quote : ℕ) (bytes rest : List ℕ) : Type 0 where
  pub parts : IsPrintables quote bytes rest
  pub within : length rest ≤ length bytes

pub none_yet : (q : ℕ) (bytes : List ℕ) → SoFar q bytes bytes
none_yet q bytes = record { parts = record { text = []; each = refl; parts = refl }; within = omega arith }

pub one_more : (q : ℕ) (bytes rest after : List ℕ) → SoFar q bytes rest → BeginsPrintable q rest after → length after ≤ length rest → SoFar q bytes after
one_more q bytes rest after s b le = record {
  parts = record {
    text = s.parts.text ++ b.0 ∷ [];
    each = all_append is_printable s.parts.text b.0 s.parts.each b.1;
    parts = s.parts.parts ∙ ap (λ (x : List ℕ). escaped q s.parts.text ++ x) b.2 ∙ sym (append_assoc (escaped q s.parts.text) (escaped_byte q b.0) after) ∙ ap (λ (x : List ℕ). x ++ after) (sym (escaped-append q s.parts.text b.0));
  };
  within = omega (arith, s.within);
}

-- what is read of a text leaves the rest of it
rest_of : (q : ℕ) (w u rest r : List ℕ) → q ≢ 92 → list_all is_printable u ≡ true → escaped q w ++ rest ≡ escaped q u ++ q ∷ r → (p : List ℕ) × (list_all is_printable p ≡ true) × (rest ≡ escaped q p ++ q ∷ r)
rest_of q [] u rest r n h e = (u, h, e)
rest_of q (b ∷ w) [] rest r n h e = absurd (no_quote (is_escaped q b) q b (escaped q w ++ rest) r n refl (sym (byte_off q b w rest) ∙ e))
rest_of q (b ∷ w) (d ∷ u) rest r n h e =
    rest_of q w u rest r n (all_first is_printable d u h).1
    (one_byte (is_escaped q b) (is_escaped q d) q b d (escaped q w ++ rest) (escaped q u ++ q ∷ r) refl refl (sym (byte_off q b w rest) ∙ e ∙ byte_off q d u (q ∷ r))).1

-- where nothing more can be read, and no quote comes, no text is closed
pub never_closes : (q : ℕ) (bytes rest : List ℕ) → q ≢ 92 → IsPrintables q bytes rest → ((after : List ℕ) → BeginsPrintable q rest after → ⊥) → ((after : List ℕ) → rest ≡ q ∷ after → ⊥) → (inside r : List ℕ) → IsClosedQuote q inside bytes r → ⊥
never_closes q bytes rest n s none end inside r c =
    go (rest_of q s.text c.text rest r n c.each (sym s.parts ∙ c.parts ∙ ap (λ (x : List ℕ). x ++ q ∷ r) c.is))
  where
    go : ((p : List ℕ) × (list_all is_printable p ≡ true) × (rest ≡ escaped q p ++ q ∷ r)) → ⊥
    go ([], h, f) = end r f
    go (b ∷ p, h, f) = none (escaped q p ++ q ∷ r) (b, (all_first is_printable b p h).0, f ∙ byte_off q b p (q ∷ r))

-- the bytes before the rest
pub front_is : (bytes front rest : List ℕ) → bytes ≡ front ++ rest → take (length bytes - length rest) bytes ≡ front
front_is bytes front rest e =
    let n : length bytes - length rest ≡ length front = omega (arith, ap length e, length-append front rest) in
    ap (λ (k : ℕ). take k bytes) n ∙ ap (λ (x : List ℕ). take (length front) x) e ∙ take-append_seam front rest

pub is_closed : (q : ℕ) (bytes rest after inside : List ℕ) → IsPrintables q bytes rest → rest ≡ q ∷ after → inside ≡ take (length bytes - length rest) bytes → IsClosedQuote q inside bytes after
is_closed q bytes rest after inside s e f =
    let same : inside ≡ escaped q s.text = f ∙ front_is bytes (escaped q s.text) rest s.parts in
    record { text = s.text; each = s.each; is = same; parts = s.parts ∙ ap (λ (x : List ℕ). escaped q s.text ++ x) e ∙ ap (λ (x : List ℕ). x ++ q ∷ after) (sym same) }

-- ---- reading what is written

read_if : (v : Bool) (q b : ℕ) (x : List ℕ) → is_escaped q b ≡ v → unescaped_from false (escaped_if v b ++ x) ≡ b ∷ unescaped_from false x
read_if true q b x e = refl
read_if false q b x e = let n : (b == 92) ≡ false = grind (arith, nat_tests) in rw n refl

pub unescaped-escaped : (q : ℕ) (w : List ℕ) → unescaped (escaped q w) ≡ w
unescaped-escaped q [] = refl
unescaped-escaped q (b ∷ w) = read_if (is_escaped q b) q b (escaped q w) refl ∙ ap (λ (x : List ℕ). b ∷ x) (unescaped-escaped q w)

pub text_is : (q : ℕ) (bytes inside rest : List ℕ) (c : IsClosedQuote q inside bytes rest) → unescaped inside ≡ c.text
text_is q bytes inside rest c = ap (λ (x : List ℕ). unescaped x) c.is ∙ unescaped-escaped q c.text

-- ---- a loop that reads what is written

step_text : (pending : Bool) (b : ℕ) (rest : List ℕ) → (pending ≡ true) ⊎ (b ≢ 92) → unescaped_from pending (b ∷ rest) ≡ b ∷ unescaped_from false rest
step_text true b rest h = refl
step_text false b rest (inl e) = absurd cc
step_text false b rest (inr n) = let k : (b == 92) ≡ false = grind (arith, nat_tests) in rw k refl

-- a byte that stands for itself is read
pub reads_on : (pending : Bool) (so_far now written : List ℕ) (i : ℕ) → i < length written → so_far ++ unescaped_from pending (drop i written) ≡ unescaped written → (pending ≡ true) ⊎ (get_or written i 0 ≢ 92)
    → now ≡ so_far ++ get_or written i 0 ∷ [] → now ++ unescaped_from false (drop (i + 1) written) ≡ unescaped written
reads_on pending so_far now written i lt e h n =
    let b : ℕ = get_or written i 0 in
    let rest : List ℕ = drop (suc i) written in
    let cut : drop i written ≡ b ∷ rest = drop-cons written i 0 lt in
    let one : unescaped_from pending (drop i written) ≡ b ∷ unescaped_from false rest = ap (unescaped_from pending) cut ∙ step_text pending b rest h in
    rw (n, add-one) (append_assoc so_far (b ∷ []) (unescaped_from false rest) ∙ ap (λ (x : List ℕ). so_far ++ x) (sym one) ∙ e)
