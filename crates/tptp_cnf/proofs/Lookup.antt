-- The look-up of symbols by the bytes of their tokens, as symbols come.
use Rattle.std.proofs.Common.{◌≡◌, ℕ, Bool, true, false, ◌||◌, List, [], ◌∷◌, ◌++◌, Some, refl, sym, ap, subst, ◌∙◌}
use Rattle.std.proofs.lemmas.Slice.Eq.{bytes_eq-Decides}
use Rattle.std.specs.Prelude.{if◌then◌else◌}
use Rattle.std.specs.List.{list_any}
use Rattle.std.specs.Str.{bytes_eq}
use Rattle.me_terms.specs.LabelEquality.{same_symbol}
use Rattle.me_terms.specs.Signatures.{with_symbol, number_of}
use Rattle.me_terms.specs.Values.{SymbolValue}
use Rattle.tptp_cnf.specs.Rows.{symbol_as}
use Rattle.tptp_cnf.specs.Views.{item_value}
use Rattle.tptp_cnf.specs.Lookup.{Entries, met_at, symbol_by, IsNumberOf, AreMet, IsNameNoted}
use Rattle.tptp_cnf.specs.declared.item.Item.{Item}
use Rattle.tptp_cnf.specs.declared.symbols.Met.{Met}
use Rattle.tptp_cnf.specs.declared.symbols.Name.{Name}
use Rattle.tptp_cnf.proofs.Numbering.{Longer, position_stays, symbol_has, symbol_longer}

-- ---- numbers

any_front : (p : SymbolValue → Bool) (xs more : List SymbolValue) → list_any p xs ≡ true → list_any p (xs ++ more) ≡ true
any_front p [] more h = absurd cc
any_front p (x ∷ xs) more h = by (p x) (list_any p xs) (list_any p (xs ++ more)) h (any_front p xs more)
  where
    by : (a b c : Bool) → (a || b) ≡ true → (b ≡ true → c ≡ true) → (a || c) ≡ true
    by true b c k f = refl
    by false b c k f = f k

stays : (known more : List SymbolValue) → Longer known more → (s : SymbolValue) (n : ℕ) → IsNumberOf known s n → IsNumberOf more s n
stays known more l s n h = (
  ap (list_any (same_symbol s)) l.1 ∙ any_front (same_symbol s) known l.0 h.0,
  h.1 ∙ position_stays (same_symbol s) known more h.0 l,
)

pub with_known : (known : List SymbolValue) (s : SymbolValue) → list_any (same_symbol s) known ≡ true → known ≡ with_symbol known s
with_known known s h = sym (ap (λ (b : Bool). if b then known else known ++ s ∷ []) h)

pub added_number : (known new : List SymbolValue) (s : SymbolValue) (n : ℕ) → new ≡ with_symbol known s → n ≡ number_of s new → IsNumberOf new s n
added_number known new s n e h = (ap (list_any (same_symbol s)) e ∙ symbol_has known s, h)

-- ---- the look-up

pub none_met : (symbols : List SymbolValue) (entries : Entries) → entries ≡ [] → AreMet symbols entries
none_met symbols entries e name m h = let z : met_at [] name ≡ Some m = ap (λ (x : Entries). met_at x name) (sym e) ∙ h in cc

-- more symbols change no number
pub still_met : (known new : List SymbolValue) (s : SymbolValue) (entries : Entries) → new ≡ with_symbol known s → AreMet known entries → AreMet new entries
still_met known new s entries e q name m h =
    subst (λ (x : List SymbolValue). IsNumberOf x (symbol_by m.kind name.bytes.now m.arity) m.number) (sym e) (stays known (with_symbol known s) (symbol_longer known s) _ _ (q name m h))

noted_as : (symbols : List SymbolValue) (old : Entries) (i : Item) (number : ℕ) (name : Name) (m : Met) (b : Bool) → AreMet symbols old → IsNumberOf symbols (symbol_as (item_value i)) number → bytes_eq i.name.text.now name.bytes.now ≡ b
    → (if b then Some (record { kind = i.name.kind; arity = i.arity; number = number }) else met_at old name) ≡ Some m → IsNumberOf symbols (symbol_by m.kind name.bytes.now m.arity) m.number
noted_as symbols old i number name m true q is e h =
    let last : Met = record { kind = i.name.kind; arity = i.arity; number = number } in
    let same : last ≡ m = cc in
    let bytes : i.name.text.now ≡ name.bytes.now = (bytes_eq-Decides i.name.text.now name.bytes.now).0 e in
    subst (λ (x : Met). IsNumberOf symbols (symbol_by x.kind name.bytes.now x.arity) x.number) same (subst (λ (x : List ℕ). IsNumberOf symbols (symbol_by i.name.kind x i.arity) number) bytes is)
noted_as symbols old i number name m false q is e h = q name m h

pub noted : (symbols : List SymbolValue) (old new : Entries) (i : Item) (number : ℕ) → AreMet symbols old → IsNameNoted i number old new → IsNumberOf symbols (symbol_as (item_value i)) number → AreMet symbols new
noted symbols old new i number q n is name m h = noted_as symbols old i number name m (bytes_eq i.name.text.now name.bytes.now) q is refl (sym (n name) ∙ h)
