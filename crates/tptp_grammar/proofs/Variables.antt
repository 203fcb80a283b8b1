-- The set of texts that the code keeps, as the list of variables.
use Rattle.std.proofs.Common.{◌≡◌, ℕ, Bool, true, false, cond, List, [], ◌∷◌, ◌++◌, map, length, Bor, arith, refl, ap, ◌∙◌}
use Rattle.std.specs.List.{list_any}
use Rattle.std.specs.Str.{bytes_eq}
use Rattle.std.specs.Prelude.{◌||◌}
use Rattle.tptp_grammar.specs.Limits.{with_variables}

abbrev pub texts : List (Bor (List ℕ)) → List (List ℕ)
texts ks = map (λ k. k.now) ks

pub any_text : (text : List ℕ) (ks : List (Bor (List ℕ))) → list_any (λ x. bytes_eq text x.now) ks ≡ list_any (bytes_eq text) (texts ks)
any_text text [] = refl
any_text text (k ∷ ks) = ap (λ (b : Bool). bytes_eq text k.now || b) (any_text text ks)

texts-append : (ks : List (Bor (List ℕ))) (k : Bor (List ℕ)) → texts (ks ++ k ∷ []) ≡ texts ks ++ k.now ∷ []
texts-append [] k = refl
texts-append (l ∷ ks) k = ap (λ (x : List (List ℕ)). l.now ∷ x) (texts-append ks k)

texts_if : (b : Bool) (ks : List (Bor (List ℕ))) (k : Bor (List ℕ)) → texts (cond b ks (ks ++ k ∷ [])) ≡ cond b (texts ks) (texts ks ++ k.now ∷ [])
texts_if true ks k = refl
texts_if false ks k = texts-append ks k

pub added : (ks new : List (Bor (List ℕ))) (k : Bor (List ℕ)) → new ≡ cond (list_any (λ x. bytes_eq k.now x.now) ks) ks (ks ++ k ∷ []) → map (λ x. x.now) new ≡ with_variables (map (λ x. x.now) ks) (k.now ∷ [])
added ks new k e =
    ap texts e ∙ texts_if (list_any (λ x. bytes_eq k.now x.now) ks) ks k ∙ ap (λ (b : Bool). cond b (texts ks) (texts ks ++ k.now ∷ [])) (any_text k.now ks)

pub emptied : (ks : List (Bor (List ℕ))) → length ks ≡ 0 → map (λ x. x.now) ks ≡ []
emptied [] e = refl
emptied (k ∷ ks) e = absurd (omega (arith, e))
