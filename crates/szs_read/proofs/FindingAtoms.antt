-- What is found in bytes that are the text of an atom.
use Rattle.std.proofs.Common.{◌≡◌, ◌<◌, ◌^◌, ℕ, Bool, true, List, [], ◌∷◌, ◌++◌, length, Some, None, refl, sym, ap, subst, ◌∙◌}
use Rattle.std.specs.Prelude.{codes, if◌then◌else◌}
use Rattle.me_terms.specs.Terms.{AtomValue}
use Rattle.me_terms.specs.Values.{SignatureValue}
use Rattle.me_terms.specs.declared.atom.Literal.{Literal}
use Rattle.cnf_text.specs.ClauseText.{atom_text, literal_text}
use Rattle.szs_read.specs.Answers.{IsAtomOf}
use Rattle.szs_read.specs.Claims.{literal_of}
use Rattle.szs_read.specs.Coming.{AreLiteralsToCome}
use Rattle.szs_read.specs.Finds.{FindsLiteral}
use Rattle.szs_read.specs.LineTokens.{AreLeft, literal_then}
use Rattle.szs_read.specs.RowItems.{IsRowOf}
use Rattle.szs_read.specs.declared.row.Row.{Row}
use Rattle.szs_read.specs.declared.row.Stop.{Stop}
use Rattle.szs_read.specs.declared.row.Stop.TheVariants.{Other}
use Rattle.szs_read.proofs.Clauses.{RowLiteral}
use Rattle.szs_read.proofs.Grows.{all_grown}
use Rattle.szs_read.proofs.LineCuts.{atom_left}
use Rattle.szs_read.proofs.Literals.{all_readable, names_fine}

atom_comes : (old new : SignatureValue) (bytes : List ℕ) (a : AtomValue) → IsAtomOf old bytes new a → AreLiteralsToCome old new 1000 (literal_of a ∷ []) [] []
atom_comes old new bytes a h = all_grown old new 1000 (literal_of a ∷ []) (h.over, tt) h.grown

row_of_atom : (old new : SignatureValue) (bytes after : List ℕ) (a : AtomValue) (row : Row) (stop : Stop) → length bytes < 2 ^ 32 → RowLiteral bytes after row stop → IsAtomOf old bytes new a → IsRowOf new (literal_of a) row
row_of_atom old new bytes after a row stop small r h =
    let readable = (all_readable old new 1000 (literal_of a ∷ []) [] [] (atom_comes old new bytes a h)).0 in
    let left : AreLeft bytes (literal_then new (literal_of a) []) = subst (λ (v : List ℕ). AreLeft v (literal_then new (literal_of a) [])) (sym h.text) (atom_left new a readable) in
    (r new (literal_of a) [] Other small (names_fine new (literal_of a) readable) refl left).0

pub no_atom : (old mid : SignatureValue) (bytes after : List ℕ) (row : Row) (stop : Stop) → length bytes < 2 ^ 32 → RowLiteral bytes after row stop → FindsLiteral old mid 1000 row None → (new : SignatureValue) (a : AtomValue) → IsAtomOf old bytes new a → ⊥
no_atom old mid bytes after row stop small r f new a h =
    (f new (literal_of a) [] [] (atom_comes old new bytes a h) (row_of_atom old new bytes after a row stop small r h)).0

same_atom : (s : SignatureValue) (b : Bool) (x y : AtomValue) → b ≡ true → literal_text s (record { positive = b; atom = x }) ≡ atom_text s y → atom_text s x ≡ atom_text s y
same_atom s b x y h e = ap (λ (v : Bool). (if v then [] else codes "~") ++ atom_text s x) (sym h) ∙ e

-- an atom was found, so the bytes are its text
pub atom_is : (old mid : SignatureValue) (bytes after : List ℕ) (row : Row) (stop : Stop) (l : Literal) → length bytes < 2 ^ 32 → RowLiteral bytes after row stop → FindsLiteral old mid 1000 row (Some l) → l.positive ≡ row.positive → (new : SignatureValue) (a : AtomValue) → IsAtomOf old bytes new a → atom_text mid l.atom ≡ bytes
atom_is old mid bytes after row stop l small r f sign new a h =
    let is = row_of_atom old new bytes after a row stop small r h in
    let k = f new (literal_of a) [] [] (atom_comes old new bytes a h) is in
    let same : new ≡ mid = λ i. record { functions = k.1.functions_are i; predicates = k.1.predicates_are i } in
    ap (λ (s : SignatureValue). atom_text s l.atom) (sym same) ∙ same_atom new l.positive l.atom a (sign ∙ is.positive) k.0 ∙ sym h.text
