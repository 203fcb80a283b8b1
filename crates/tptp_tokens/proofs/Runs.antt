-- Runs of bytes that pass a test, and what may come after them.
use Rattle.std.proofs.Common.{◌≡◌, ◌≤◌, ℕ, ◌+◌, Bool, true, false, cond, List, [], ◌∷◌, ◌++◌, length, take, drop, refl, ap, sym, ◌∙◌, one-add, arith}
use Rattle.std.specs.Prelude.{◌&&◌}
use Rattle.std.specs.List.{prefix_len, list_all}
use Rattle.tptp_tokens.specs.Bytes.{is_word_byte, is_word}
use Rattle.tptp_tokens.specs.Fronts.{Stops, IsRun, IsLongestFront}

pub heads : (a b : ℕ) (x y : List ℕ) → a ∷ x ≡ b ∷ y → (a ≡ b) × (x ≡ y)
heads a b x y h = (cc, cc)

pub differ : (p : ℕ → Bool) (b c : ℕ) → b ≡ c → p b ≡ true → p c ≡ false → ⊥
differ p b c e h k = let g : p b ≡ false = ap p e ∙ k in cc

both : (u v : Bool) → (u && v) ≡ true → (u ≡ true) × (v ≡ true)
both true v h = (refl, h)
both false v h = absurd cc

pub all_first : (p : ℕ → Bool) (b : ℕ) (bytes : List ℕ) → list_all p (b ∷ bytes) ≡ true → (p b ≡ true) × (list_all p bytes ≡ true)
all_first p b bytes h = both (p b) (list_all p bytes) h

pub all_more : (p : ℕ → Bool) (b : ℕ) (bytes : List ℕ) → p b ≡ true → list_all p bytes ≡ true → list_all p (b ∷ bytes) ≡ true
all_more p b bytes h k = rw h k

-- a word by its first byte
pub word_parts : (p : ℕ → Bool) (b : ℕ) (text : List ℕ) → is_word p (b ∷ text) ≡ true → (p b ≡ true) × (list_all is_word_byte text ≡ true)
word_parts p b text h = both (p b) (list_all is_word_byte text) h

pub word_of : (p : ℕ → Bool) (b : ℕ) (text : List ℕ) → p b ≡ true → list_all is_word_byte text ≡ true → is_word p (b ∷ text) ≡ true
word_of p b text h k = rw (h, k) refl

pub all_append : (p : ℕ → Bool) (x : List ℕ) (b : ℕ) → list_all p x ≡ true → p b ≡ true → list_all p (x ++ b ∷ []) ≡ true
all_append p [] b h k = all_more p b [] k refl
all_append p (c ∷ x) b h k = let f = all_first p c x h in all_more p c (x ++ b ∷ []) f.0 (all_append p x b f.1 k)

-- one more byte at the front
more : (p : ℕ → Bool) (b : ℕ) (bytes front rest : List ℕ) → p b ≡ true → IsRun p front bytes rest → IsRun p (b ∷ front) (b ∷ bytes) rest
more p b bytes front rest here h = record { parts = ap (λ (v : List ℕ). b ∷ v) h.parts; each = all_more p b front here h.each; stops = h.stops }

front_of : (p : ℕ → Bool) (b : ℕ) (bytes : List ℕ) (v : Bool) (n : ℕ) → p b ≡ v → IsRun p (take n bytes) bytes (drop n bytes) → IsRun p (take (cond v (1 + n) 0) (b ∷ bytes)) (b ∷ bytes) (drop (cond v (1 + n) 0) (b ∷ bytes))
front_of p b bytes true n here h = rw one-add (more p b bytes (take n bytes) (drop n bytes) here h)
front_of p b bytes false n here h = record { parts = refl; each = refl; stops = here }

longest : (p : ℕ → Bool) (bytes : List ℕ) → IsRun p (take (prefix_len p bytes) bytes) bytes (drop (prefix_len p bytes) bytes)
longest p [] = record { parts = refl; each = refl; stops = tt }
longest p (b ∷ bytes) = front_of p b bytes (p b) (prefix_len p bytes) refl (longest p bytes)

pub run_behind : (p : ℕ → Bool) (bytes rest : List ℕ) (n : ℕ) → n ≡ prefix_len p bytes → rest ≡ drop n bytes → (run : List ℕ) × IsRun p run bytes rest
run_behind p bytes rest n e f = (take n bytes, rw (f, e) (longest p bytes))

-- no longer front has the test
pub run_longest : (p : ℕ → Bool) (run rest f r : List ℕ) → list_all p f ≡ true → Stops p rest → run ++ rest ≡ f ++ r → length f ≤ length run
run_longest p run rest [] r hf st e = omega arith
run_longest p [] [] (c ∷ f) r hf st e = absurd cc
run_longest p [] (b ∷ rest) (c ∷ f) r hf st e = absurd (differ p c b (sym (heads b c rest (f ++ r) e).0) (all_first p c f hf).0 st)
run_longest p (b ∷ run) rest (c ∷ f) r hf st e = let k = run_longest p run rest f r (all_first p c f hf).1 st (heads b c (run ++ rest) (f ++ r) e).1 in omega arith

-- a run and the longest front of what comes after it: no run with such a front is longer together
pub run_then : (p : ℕ → Bool) (Q : List ℕ → Type 0) → ((t : List ℕ) → Q t → Stops p t) → (run rest e end f t r : List ℕ) → list_all p run ≡ true → Stops p rest → IsLongestFront Q e rest end
    → list_all p f ≡ true → Q t → run ++ rest ≡ f ++ (t ++ r) → length f + length t ≤ length run + length e
run_then p Q q [] rest e end [] t r hr st fr hf ht eq = let k = fr.longest t r ht eq in omega arith
run_then p Q q [] [] e end (c ∷ f) t r hr st fr hf ht eq = absurd cc
run_then p Q q [] (b ∷ rest) e end (c ∷ f) t r hr st fr hf ht eq = absurd (differ p c b (sym (heads b c rest (f ++ (t ++ r)) eq).0) (all_first p c f hf).0 st)
run_then p Q q (b ∷ run) rest e end [] [] r hr st fr hf ht eq = omega arith
run_then p Q q (b ∷ run) rest e end [] (c ∷ t) r hr st fr hf ht eq = absurd (differ p b c (heads b c (run ++ rest) (t ++ r) eq).0 (all_first p b run hr).0 (q (c ∷ t) ht))
run_then p Q q (b ∷ run) rest e end (c ∷ f) t r hr st fr hf ht eq =
    let k = run_then p Q q run rest e end f t r (all_first p b run hr).1 st fr (all_first p c f hf).1 ht (heads b c (run ++ rest) (f ++ (t ++ r)) eq).1 in
    omega arith
