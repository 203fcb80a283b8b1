-- The key of a context's turns, as the entries are gone through.
use Rattle.std.proofs.Common.{◌≡◌, ℕ, zero, suc, ◌+◌, ◌*◌, ◌^◌, ◌≤◌, [], ◌∷◌, ◌++◌, length, take, drop, slice_get, Some, refl, sym, ap, ◌∙◌, arith}
use Rattle.std.proofs.lemmas.List.{take_all, take_more, take-append-drop}
use Rattle.std.proofs.lemmas.Option.{slice_get_within, get_or_from_slice_get}
use Rattle.me_terms.specs.Values.{EntryValue}
use Rattle.me_terms.specs.Context.{Context, add}
use Rattle.branch_core.specs.Paths.{Turns, bit, key_bits, key}
use Rattle.branch_walk.specs.Jobs.{turn_of, turns_taken}
use Rattle.branch_walk.proofs.TurnsTaken.{turns_append, turns_add}

bits_first : (n : ℕ) (p rest : Turns) → n ≤ length p → key_bits n (p ++ rest) ≡ key_bits n p
bits_first zero p rest le = refl
bits_first (suc n) [] rest le = absurd (omega (arith, le))
bits_first (suc n) (t ∷ p) rest le = ap (λ (k : ℕ). bit t * 2 ^ n + k) (bits_first n p rest (omega (arith, le)))

-- the turns behind the sixteenth are left out
pub key_early : (context : Context) (k : ℕ) (path : Turns) → path ≡ turns_taken (take k context) → length path ≡ 16 → key path ≡ key (turns_taken context)
key_early context k path is long =
    let parts = turns_append (take k context) (drop k context) in
    let whole : turns_taken context ≡ path ++ turns_taken (drop k context) =
    ap turns_taken (sym (take-append-drop k context)) ∙ (parts ∙ ap (λ (t : Turns). t ++ turns_taken (drop k context)) (sym is)) in
    sym (bits_first 16 path (turns_taken (drop k context)) (omega (arith, long))) ∙ ap key (sym whole)

pub key_late : (context : Context) (k : ℕ) (path : Turns) → path ≡ turns_taken (take k context) → length context ≤ k → key path ≡ key (turns_taken context)
key_late context k path is le = ap key (is ∙ ap turns_taken (take_all k context le))

pub turn_more : (context : Context) (k : ℕ) (e : EntryValue) (path longer : Turns) → slice_get context k ≡ Some e → path ≡ turns_taken (take k context) → longer ≡ path ++ turn_of e.reason → longer ≡ turns_taken (take (k + 1) context)
turn_more context k e path longer at is more =
    let grew : take (k + 1) context ≡ add (take k context) e =
    take_more context k e (slice_get_within context k e at) ∙ ap (λ (x : EntryValue). take k context ++ x ∷ []) (get_or_from_slice_get context k e e at) in
    more ∙ (ap (λ (t : Turns). t ++ turn_of e.reason) is ∙ (sym (turns_add (take k context) e) ∙ ap turns_taken (sym grew)))
