-- The places of the texts that the code keeps, as the list of variables.
use Rattle.std.proofs.Common.{◌≡◌, ℕ, ◌+◌, Bool, true, false, cond, List, [], ◌∷◌, ◌++◌, map, Bor, refl, sym, ap, ◌∙◌}
use Rattle.std.specs.List.{list_any, position_or_len}
use Rattle.std.specs.Str.{bytes_eq}
use Rattle.std.specs.Prelude.{◌||◌, not}
use Rattle.tptp_grammar.proofs.Variables.{texts, added}
use Rattle.tptp_cnf.specs.Meaning.{text_place}
use Rattle.tptp_cnf.proofs.Numbering.{text_itself}

place_text : (text : List ℕ) (ks : List (Bor (List ℕ))) → position_or_len (λ x. bytes_eq text x.now) ks ≡ text_place text (texts ks)
place_text text [] = refl
place_text text (k ∷ ks) = ap (λ (n : ℕ). cond (not (bytes_eq text k.now)) (1 + n) 0) (place_text text ks)

-- a new text stands at the place that it does not yet have
pub pushed : (text : List ℕ) (known : List (List ℕ)) → list_any (bytes_eq text) known ≡ false → text_place text known ≡ text_place text (known ++ text ∷ [])
pushed text [] e = sym (ap (λ (b : Bool). cond (not b) (1 + 0) 0) (text_itself text))
pushed text (k ∷ known) e = by (bytes_eq text k) (list_any (bytes_eq text) known) e (pushed text known)
  where
    by : (a b : Bool) → (a || b) ≡ false → (b ≡ false → text_place text known ≡ text_place text (known ++ text ∷ [])) → cond (not a) (1 + text_place text known) 0 ≡ cond (not a) (1 + text_place text (known ++ text ∷ [])) 0
    by true b h f = refl
    by false b h f = ap (λ (n : ℕ). 1 + n) (f h)

place_if : (b : Bool) (text : List ℕ) (known : List (List ℕ)) → list_any (bytes_eq text) known ≡ b → text_place text known ≡ text_place text (cond b known (known ++ text ∷ []))
place_if true text known e = refl
place_if false text known e = pushed text known e

pub placed : (ks new : List (Bor (List ℕ))) (k : Bor (List ℕ)) (n : ℕ) → n ≡ position_or_len (λ x. bytes_eq k.now x.now) ks → new ≡ cond (list_any (λ x. bytes_eq k.now x.now) ks) ks (ks ++ k ∷ []) → n ≡ text_place k.now (map (λ x. x.now) new)
placed ks new k n p e =
    p ∙ place_text k.now ks ∙ place_if (list_any (bytes_eq k.now) (texts ks)) k.now (texts ks) refl ∙ ap (text_place k.now) (sym (added ks new k e))
