-- What is counted while a file is read is no more than its bytes: there is always room for one more.
use Rattle.std.proofs.Common.{◌≡◌, ◌≤◌, ◌^◌, ◌-◌, ℕ, zero, suc, ◌+◌, Bool, true, false, List, [], ◌∷◌, ◌++◌, length, Option, Some, None, refl, sym, ap, subst, arith}
use Rattle.std.proofs.lemmas.List.{length-append}
use Rattle.std.specs.List.{list_any}
use Rattle.std.specs.Prelude.{codes, if◌then◌else◌}
use Rattle.std.specs.Str.{bytes_eq}
use Rattle.me_io.specs.declared.source.TheConstants.{MAX_BYTES}
use Rattle.me_terms.specs.LabelEquality.{same_symbol}
use Rattle.me_terms.specs.Signatures.{with_symbol}
use Rattle.me_terms.specs.Values.{SymbolValue}
use Rattle.tptp_tokens.specs.Remainders.{Remainder}
use Rattle.tptp_tokens.specs.Tokens.{PlacedToken}
use Rattle.tptp_tokens.proofs.OneCut.{first_takes}
use Rattle.tptp_grammar.specs.Limits.{with_variables}
use Rattle.tptp_grammar.specs.Machine.{State, Between, Begun, Opened, Labelled, LabelEnd, Roled, FormulaStart, LiteralStart, Negated, AtomStart, ArgumentStart, Named, Done, LiteralEnd, FormulaEnd, NotesStart, Notes, Closed, CountsUpTo, step, run_on, part_at, formula_part, literal_part, negated_part, named_part, done_part}
use Rattle.tptp_grammar.specs.Readings.{Reading}
use Rattle.tptp_grammar.specs.Terminals.{Terminal, DollarWord, OpenRound, CloseRound, Dot, Tilde, terminals}
use Rattle.tptp_grammar.specs.declared.part.Part.{Part}
use Rattle.tptp_grammar.specs.declared.part.Part.TheVariants as part
use Rattle.tptp_grammar.proofs.Growth.{counts_grow, counts_within}
use Rattle.tptp_cnf.specs.Causes.{AreFirstTokens}
use Rattle.tptp_cnf.specs.Meaning.{same_truth}
use Rattle.tptp_cnf.specs.Rows.{ItemValue, item, symbol_as, text_of_variable, Names, names_of, with_item_as, with_item, names_after, Draft, empty_draft, IsNumberable, with_truth, with_atom, with_name, sign_role, argument_role, with_arity, closed_at, with_clause, fed, fed_from}
use Rattle.tptp_cnf.specs.declared.item.Role.{Role}
use Rattle.tptp_cnf.specs.declared.item.Role.TheVariants as role
use Rattle.tptp_cnf.proofs.Reached.{all_of, Reached}
use Rattle.tptp_cnf.proofs.Sizes.{skips_take, terminals_len, one_symbol}

-- ---- one more name

symbol_more : (known : List SymbolValue) (s : SymbolValue) → length (with_symbol known s) ≤ length known + 1
symbol_more known s = one_symbol (list_any (same_symbol s) known) known s

one_text : (b : Bool) (known : List (List ℕ)) (text : List ℕ) → length (if b then known else known ++ text ∷ []) ≤ length known + 1
one_text true known text = omega arith
one_text false known text = omega (arith, length-append known (text ∷ []))

variable_more : (known : List (List ℕ)) (text : List ℕ) → length (with_variables known (text ∷ [])) ≤ length known + 1
variable_more known text = one_text (list_any (bytes_eq text) known) known text

abbrev pub symbols_in : Names → ℕ
symbols_in names = length names.functions + length names.predicates

symbols_more_as : (r : Role) (names : Names) (i : ItemValue) → symbols_in (with_item_as r names i) ≤ symbols_in names + 1
symbols_more_as role.Function names i = omega (arith, symbol_more names.functions (symbol_as i))
symbols_more_as role.Variable names i = omega arith
symbols_more_as r names i = omega (arith, symbol_more names.predicates (symbol_as i))

pub symbols_more : (names : Names) (i : ItemValue) → symbols_in (with_item names i) ≤ symbols_in names + 1
symbols_more names i = symbols_more_as i.role names i

variables_more_as : (r : Role) (names : Names) (i : ItemValue) → length (with_item_as r names i).variables ≤ length names.variables + 1
variables_more_as role.Function names i = omega arith
variables_more_as role.Variable names i = variable_more names.variables (text_of_variable i.terminal)
variables_more_as r names i = omega arith

pub variables_more : (names : Names) (i : ItemValue) → length (with_item names i).variables ≤ length names.variables + 1
variables_more names i = variables_more_as i.role names i

all_symbols_more : (is : List ItemValue) (names : Names) → symbols_in (names_after names is) ≤ symbols_in names + length is
all_symbols_more [] names = omega arith
all_symbols_more (i ∷ is) names = omega (arith, all_symbols_more is (with_item names i), symbols_more names i)

-- ---- one more token

-- the row has at most one name more, and nothing else is counted
record Grown (d e : Draft) : Type 0 where
  pub number : e.number ≡ d.number
  pub functions : length e.signature.functions ≡ length d.signature.functions
  pub predicates : length e.signature.predicates ≡ length d.signature.predicates
  pub items : length e.items ≤ suc (length d.items)

grown_same : (d : Draft) → Grown d d
grown_same d = record { number = refl; functions = refl; predicates = refl; items = omega arith }

grown_name : (r : Role) (t : Terminal) (d : Draft) → Grown d (with_name r t d)
grown_name r t d = record { number = refl; functions = refl; predicates = refl; items = omega (arith, length-append d.items (item r t 0 ∷ [])) }

grown_truth : (b : Bool) (d : Draft) → Grown d (with_truth b d)
grown_truth true d = record { number = refl; functions = refl; predicates = refl; items = omega arith }
grown_truth false d = grown_same d

grown_atom : (positive : Bool) (t : Terminal) (d : Draft) → Grown d (with_atom positive t d)
grown_atom positive (DollarWord text) d = grown_truth (same_truth positive (bytes_eq text (codes "$true"))) d
grown_atom positive t d = grown_name (sign_role positive) t d

arity_length : (place arity : ℕ) (is : List ItemValue) → length (with_arity place arity is) ≡ length is
arity_length place arity [] = refl
arity_length zero arity (i ∷ is) = refl
arity_length (suc place) arity (i ∷ is) = ap suc (arity_length place arity is)

grown_closed : (places : List ℕ) (arity : ℕ) (d : Draft) → Grown d (closed_at places arity d)
grown_closed [] arity d = grown_same d
grown_closed (place ∷ places) arity d = record { number = refl; functions = refl; predicates = refl; items = omega (arith, arity_length place arity d.items) }

-- the token begins no formula and ends none
abbrev is_inside : Part → Bool
is_inside part.Formula = false
is_inside part.End = false
is_inside p = true

fed_grown : (p : Part) (t : Terminal) (d : Draft) → is_inside p ≡ true → Grown d (fed d p t)
fed_grown part.Formula t d e = absurd cc
fed_grown part.End t d e = absurd cc
fed_grown part.Label t d e = record { number = refl; functions = refl; predicates = refl; items = omega arith }
fed_grown part.Positive t d e = grown_atom true t d
fed_grown part.Atom t d e = grown_atom false t d
fed_grown (part.Argument n) t d e = grown_name (argument_role t) t d
fed_grown part.OpenArguments t d e = record { number = refl; functions = refl; predicates = refl; items = omega arith }
fed_grown (part.CloseArguments n) t d e = grown_closed d.open_items n d
fed_grown p t d e = grown_same d

literal_inside : (t : Terminal) → is_inside (literal_part t) ≡ true
literal_inside Tilde = refl
literal_inside t = refl

formula_inside : (t : Terminal) → is_inside (formula_part t) ≡ true
formula_inside OpenRound = refl
formula_inside t = literal_inside t

negated_inside : (t : Terminal) → is_inside (negated_part t) ≡ true
negated_inside OpenRound = refl
negated_inside t = refl

done_inside : (ns : List ℕ) (t : Terminal) → is_inside (done_part ns t) ≡ true
done_inside (n ∷ ns) CloseRound = refl
done_inside (n ∷ ns) t = refl
done_inside [] t = refl

named_inside : (ns : List ℕ) (t : Terminal) → is_inside (named_part ns t) ≡ true
named_inside ns OpenRound = refl
named_inside ns t = done_inside ns t

-- the names of the row that may still become symbols: none between two formulas
abbrev waiting : State → ℕ → ℕ
waiting Between n = 0
waiting s n = n

waiting_few : (s : State) (n : ℕ) → waiting s n ≤ n
waiting_few Between n = omega arith
waiting_few s n = omega arith

-- this was counted of so many tokens
record Held (s : State) (d : Draft) (n : ℕ) : Type 0 where
  pub formulas : d.number ≤ n
  pub items : length d.items ≤ n
  pub symbols : length d.signature.functions + length d.signature.predicates + waiting s (length d.items) ≤ n

held_inside : (s u : State) (p : Part) (t : Terminal) (d : Draft) (n : ℕ) → waiting s (length d.items) ≡ length d.items → is_inside p ≡ true → Held s d n → Held u (fed d p t) (suc n)
held_inside s u p t d n w e h =
    let g = fed_grown p t d e in
    record {
      formulas = omega (arith, g.number, h.formulas);
      items = omega (arith, g.items, h.items);
      symbols = omega (arith, g.functions, g.predicates, g.items, waiting_few u (length (fed d p t).items), w, h.symbols);
    }

held_begun : (u : State) (t : Terminal) (d : Draft) (n : ℕ) → Held Between d n → Held u (fed d part.Formula t) (suc n)
held_begun u t d n h = record { formulas = omega (arith, h.formulas); items = omega arith; symbols = omega (arith, waiting_few u 0, h.symbols) }

held_clause : (d : Draft) (n : ℕ) → Held Closed d n → Held Between (with_clause d) (suc n)
held_clause d n h = record { formulas = omega (arith, h.formulas); items = omega (arith, h.items); symbols = omega (arith, all_symbols_more d.items (names_of d.signature), h.symbols) }

held_kept : (b : Bool) (d : Draft) (n : ℕ) → Held Closed d n → Held Between (if b then with_clause d else d) (suc n)
held_kept true d n h = held_clause d n h
held_kept false d n h = record { formulas = omega (arith, h.formulas); items = omega (arith, h.items); symbols = omega (arith, h.symbols) }

held_ended : (u : State) (t : Terminal) (d : Draft) (n : ℕ) → step Closed t ≡ Some u → Held Closed d n → Held u (fed d part.End t) (suc n)
held_ended u t d n e h = subst (λ (x : State). Held x (fed d part.End t) (suc n)) (closed_next t u e) (held_kept d.is_kept d n h)
  where
    closed_next : (x : Terminal) (v : State) → step Closed x ≡ Some v → Between ≡ v
    closed_next Dot v k = cc
    closed_next x v k = absurd cc

held_more : (s u : State) (t : Terminal) (d : Draft) (n : ℕ) → step s t ≡ Some u → Held s d n → Held u (fed d (part_at s t) t) (suc n)
held_more Between u t d n e h = held_begun u t d n h
held_more Closed u t d n e h = held_ended u t d n e h
held_more (FormulaStart k) u t d n e h = held_inside (FormulaStart k) u (formula_part t) t d n refl (formula_inside t) h
held_more (LiteralStart k) u t d n e h = held_inside (LiteralStart k) u (literal_part t) t d n refl (literal_inside t) h
held_more (Negated k) u t d n e h = held_inside (Negated k) u (negated_part t) t d n refl (negated_inside t) h
held_more (Named ns b k) u t d n e h = held_inside (Named ns b k) u (named_part ns t) t d n refl (named_inside ns t) h
held_more (Done ns b k) u t d n e h = held_inside (Done ns b k) u (done_part ns t) t d n refl (done_inside ns t) h
held_more Begun u t d n e h = held_inside Begun u part.Other t d n refl refl h
held_more Opened u t d n e h = held_inside Opened u part.Label t d n refl refl h
held_more Labelled u t d n e h = held_inside Labelled u part.Other t d n refl refl h
held_more LabelEnd u t d n e h = held_inside LabelEnd u part.Role t d n refl refl h
held_more Roled u t d n e h = held_inside Roled u part.Other t d n refl refl h
held_more (AtomStart k) u t d n e h = held_inside (AtomStart k) u part.Atom t d n refl refl h
held_more (ArgumentStart m ns b k) u t d n e h = held_inside (ArgumentStart m ns b k) u (part.Argument m) t d n refl refl h
held_more (LiteralEnd k) u t d n e h = held_inside (LiteralEnd k) u part.Other t d n refl refl h
held_more (FormulaEnd k) u t d n e h = held_inside (FormulaEnd k) u part.Other t d n refl refl h
held_more NotesStart u t d n e h = held_inside NotesStart u part.Other t d n refl refl h
held_more (Notes bs) u t d n e h = held_inside (Notes bs) u part.Other t d n refl refl h

-- ---- all tokens

-- the state and the draft behind tokens, of which so many stand before them
record Counted (u : State) (d : Draft) (n : ℕ) : Type 0 where
  pub counts : CountsUpTo n u
  pub held : Held u d n

counted_all : (s : State) (ts : List Terminal) (u : State) (d : Draft) (n m : ℕ) → m ≡ n + length ts → CountsUpTo n s → Held s d n → run_on (Some s) ts ≡ Some u → Counted u (fed_from (Some s) ts d) m
counted_all s [] u d n m e c h k =
    let same : s ≡ u = cc in
    let here : Counted s d n = record { counts = c; held = h } in
    subst (λ (x : ℕ). Counted u d x) (omega (arith, e)) (subst (λ (x : State). Counted x d n) same here)
counted_all s (t ∷ ts) u d n m e c h k = on (step s t) refl k (λ v f g. counted_all v ts u (fed d (part_at s t) t) (suc n) m (omega (arith, e)) (counts_grow n s t v c f) (held_more s v t d n f h) g)
  where
    on : (o : Option State) → step s t ≡ o → run_on o ts ≡ Some u → ((v : State) → step s t ≡ Some v → run_on (Some v) ts ≡ Some u → Counted u (fed_from (Some v) ts (fed d (part_at s t) t)) m) → Counted u (fed_from o ts (fed d (part_at s t) t)) m
    on None f g next = absurd cc
    on (Some v) f g next = next v f g

tokens_few : (tokens : List PlacedToken) (now left : Remainder) → AreFirstTokens tokens now left → length tokens ≤ length now.bytes
tokens_few [] now left h = omega arith
tokens_few (t ∷ tokens) now left h =
    let n = h.1 in
    omega (arith, tokens_few tokens h.0 left h.2, first_takes t.token n.middle h.0.bytes n.first, skips_take n.gap.0 now.bytes n.middle n.gap.1)

counted_of : (bytes : List ℕ) (left : Remainder) (r : Reading) (d : Draft) (h : Reached bytes left r d) → Counted r.state d (length h.tokens)
counted_of bytes left r d h =
    subst (λ (x : Draft). Counted r.state x (length h.tokens)) (sym h.draft)
    (counted_all Between (terminals h.tokens) r.state empty_draft 0 (length h.tokens) (omega (arith, terminals_len h.tokens)) tt (record { formulas = omega arith; items = omega arith; symbols = omega arith }) h.run)

pub counts_few : (bytes : List ℕ) (left : Remainder) (r : Reading) (d : Draft) → length bytes ≤ MAX_BYTES → Reached bytes left r d → CountsUpTo (2 ^ 32 - 2) r.state
counts_few bytes left r d le h = counts_within (length h.tokens) (2 ^ 32 - 2) r.state (omega (arith, le, tokens_few h.tokens (all_of bytes) left h.front)) (counted_of bytes left r d h).counts

pub numberable : (bytes : List ℕ) (left : Remainder) (r : Reading) (d : Draft) → length bytes ≤ MAX_BYTES → Reached bytes left r d → IsNumberable d
numberable bytes left r d le h =
    let few = tokens_few h.tokens (all_of bytes) left h.front in
    let c = (counted_of bytes left r d h).held in
    record { formulas = omega (arith, le, few, c.formulas); symbols = omega (arith, le, few, c.items, c.symbols) }
