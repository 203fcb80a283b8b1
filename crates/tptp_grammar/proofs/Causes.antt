-- The machine's kind of a refused token is that of its place in a file.
use Rattle.std.proofs.Common.{◌≡◌, ℕ, Bool, true, false, List, [], ◌∷◌, Some, refl, sym, ap, subst, ◌∙◌, ◌⊎◌, inl, inr, codes}
use Rattle.std.specs.Prelude.{if◌then◌else◌}
use Rattle.std.proofs.lemmas.Slice.Eq.{bytes_eq-Decides}
use Rattle.tptp_grammar.specs.Terminals.{Terminal, LowerWord, DollarWord, Digits, Number, OpenRound, CloseRound, Tilde}
use Rattle.tptp_grammar.specs.declared.part.Part.{Part}
use Rattle.tptp_grammar.specs.Limits.{begins_formula}
use Rattle.tptp_grammar.specs.Refusals.{begins_role, begins_atom, begins_argument, MayBegin, MayEndAtom, is_language, is_include, is_conjecture, is_lower_word_token, is_equality, is_variable_or_distinct, is_number, is_dollar_word, IsInappropriate}
use Rattle.tptp_grammar.specs.Machine.{State, Between, LabelEnd, FormulaStart, LiteralStart, Negated, AtomStart, ArgumentStart, Named, Done, run_on, part_at, literal_part, formula_part, negated_part, done_part, named_part}
use Rattle.tptp_grammar.specs.Readings.{formula_kind, role_kind, argument_kind, atom_kind, atom_end_kind, kind_at}
use Rattle.tptp_grammar.specs.declared.refusal.What.{What}
use Rattle.tptp_grammar.specs.declared.refusal.What.TheVariants as what
use Rattle.tptp_grammar.specs.declared.refusal.Refusal.{Refusal}
use Rattle.tptp_grammar.specs.declared.refusal.Refusal.TheVariants.{Syntax, Inappropriate}
use Rattle.tptp_grammar.proofs.Places.{Leads, ends_atom, state_begins, state_ends}

-- ---- forwards

what_is : (v w : What) → Inappropriate v ≡ Inappropriate w → v ≡ w
what_is v w e = cc

as_what : (ts : List Terminal) (t : Terminal) (v w : What) → Inappropriate v ≡ Inappropriate w → IsInappropriate v ts t → IsInappropriate w ts t
as_what ts t v w e h = subst (λ (x : What). IsInappropriate x ts t) (what_is v w e) h

formula_cause : (a b : Bool) (ts : List Terminal) (t : Terminal) (w : What) → is_language t ≡ a → is_include t ≡ b → MayBegin begins_formula ts
    → (if a then Inappropriate what.Language else (if b then Inappropriate what.Include else Syntax)) ≡ Inappropriate w → IsInappropriate w ts t
formula_cause true b ts t w h k m e = as_what ts t what.Language w e (h, m)
formula_cause false true ts t w h k m e = as_what ts t what.Include w e (k, m)
formula_cause false false ts t w h k m e = absurd cc

role_cause : (a b : Bool) (ts : List Terminal) (t : Terminal) (w : What) → is_conjecture t ≡ a → is_lower_word_token t ≡ b → MayBegin begins_role ts
    → (if a then Inappropriate what.Conjecture else (if b then Inappropriate what.Role else Syntax)) ≡ Inappropriate w → IsInappropriate w ts t
role_cause true b ts t w h k m e = as_what ts t what.Conjecture w e (h, m)
role_cause false true ts t w h k m e = as_what ts t what.Role w e (k, h, m)
role_cause false false ts t w h k m e = absurd cc

argument_cause : (a b : Bool) (ts : List Terminal) (t : Terminal) (w : What) → is_number t ≡ a → is_dollar_word t ≡ b → MayBegin begins_atom ts ⊎ MayBegin begins_argument ts
    → (if a then Inappropriate what.Number else (if b then Inappropriate what.Defined else Syntax)) ≡ Inappropriate w → IsInappropriate w ts t
argument_cause true b ts t w h k m e = as_what ts t what.Number w e (h, m)
argument_cause false true ts t w h k m e = as_what ts t what.Defined w e (k, m)
argument_cause false false ts t w h k m e = absurd cc

atom_cause : (a : Bool) (ts : List Terminal) (t : Terminal) (w : What) → is_variable_or_distinct t ≡ a → MayBegin begins_atom ts
    → (if a then Inappropriate what.Equality else argument_kind t) ≡ Inappropriate w → IsInappropriate w ts t
atom_cause true ts t w h m e = as_what ts t what.Equality w e (inr (h, m))
atom_cause false ts t w h m e = argument_cause (is_number t) (is_dollar_word t) ts t w refl refl (inl m) e

atom_end_cause : (a : Bool) (ts : List Terminal) (t : Terminal) (w : What) → is_equality t ≡ a → MayEndAtom ts → (if a then Inappropriate what.Equality else Syntax) ≡ Inappropriate w → IsInappropriate w ts t
atom_end_cause true ts t w h m e = as_what ts t what.Equality w e (inl (h, m))
atom_end_cause false ts t w h m e = absurd cc

no_kind : {A : Type 0} (w : What) → Syntax ≡ Inappropriate w → A
no_kind w e = absurd cc

-- what may come in the machine's state, as the tokens so far
pub record Knows (ts : List Terminal) (s : State) : Type 0 where
  pub begin : (p : Part → Bool) → Leads p s → MayBegin p ts
  pub end : ends_atom s ≡ true → MayEndAtom ts

pub cause : (s : State) (ts : List Terminal) (t : Terminal) (w : What) → Knows ts s → kind_at s t ≡ Inappropriate w → IsInappropriate w ts t
cause LabelEnd ts t w k e = role_cause (is_conjecture t) (is_lower_word_token t) ts t w refl refl (k.begin begins_role (record { token = _; others = _; next = refl; begins = refl })) e
cause (FormulaStart n) ts t w k e = atom_cause (is_variable_or_distinct t) ts t w refl (k.begin begins_atom (record { token = _; others = _; next = refl; begins = refl })) e
cause (LiteralStart n) ts t w k e = atom_cause (is_variable_or_distinct t) ts t w refl (k.begin begins_atom (record { token = _; others = _; next = refl; begins = refl })) e
cause (Negated n) ts t w k e = atom_cause (is_variable_or_distinct t) ts t w refl (k.begin begins_atom (record { token = _; others = _; next = refl; begins = refl })) e
cause (AtomStart n) ts t w k e = atom_cause (is_variable_or_distinct t) ts t w refl (k.begin begins_atom (record { token = _; others = _; next = refl; begins = refl })) e
cause (ArgumentStart n ns b j) ts t w k e = argument_cause (is_number t) (is_dollar_word t) ts t w refl refl (inr (k.begin begins_argument (record { token = _; others = _; next = refl; begins = refl }))) e
cause (Named [] b j) ts t w k e = atom_end_cause (is_equality t) ts t w refl (k.end refl) e
cause (Done [] b j) ts t w k e = atom_end_cause (is_equality t) ts t w refl (k.end refl) e
cause (Named (n ∷ ns) b j) ts t w k e = no_kind w e
cause (Done (n ∷ ns) b j) ts t w k e = no_kind w e
cause Between ts t w k e = formula_cause (is_language t) (is_include t) ts t w refl refl (k.begin begins_formula (record { token = _; others = _; next = refl; begins = refl })) e
cause s ts t w k e = no_kind w e

-- ---- backwards

abbrev IsPlain : Part → Type 0
IsPlain part = (begins_formula part ≡ false) × (begins_role part ≡ false) × (begins_argument part ≡ false)

literal_plain : (t : Terminal) → IsPlain (literal_part t)
literal_plain Tilde = (refl, refl, refl)
literal_plain t = (refl, refl, refl)

formula_plain : (t : Terminal) → IsPlain (formula_part t)
formula_plain OpenRound = (refl, refl, refl)
formula_plain t = literal_plain t

negated_plain : (t : Terminal) → IsPlain (negated_part t)
negated_plain OpenRound = (refl, refl, refl)
negated_plain t = (refl, refl, refl)

done_plain : (ns : List ℕ) (t : Terminal) → IsPlain (done_part ns t) × (begins_atom (done_part ns t) ≡ false)
done_plain (n ∷ ns) CloseRound = ((refl, refl, refl), refl)
done_plain (n ∷ ns) t = ((refl, refl, refl), refl)
done_plain [] t = ((refl, refl, refl), refl)

named_plain : (ns : List ℕ) (t : Terminal) → IsPlain (named_part ns t) × (begins_atom (named_part ns t) ≡ false)
named_plain ns OpenRound = ((refl, refl, refl), refl)
named_plain ns t = done_plain ns t

not_both : {A : Type 0} (b : Bool) → b ≡ false → b ≡ true → A
not_both b e h = absurd cc

formula_state : (s : State) (u t : Terminal) → begins_formula (part_at s u) ≡ true → kind_at s t ≡ formula_kind t
formula_state Between u t h = refl
formula_state (FormulaStart k) u t h = not_both _ (formula_plain u).0 h
formula_state (LiteralStart k) u t h = not_both _ (literal_plain u).0 h
formula_state (Negated k) u t h = not_both _ (negated_plain u).0 h
formula_state (Named ns b k) u t h = not_both _ (named_plain ns u).0.0 h
formula_state (Done ns b k) u t h = not_both _ (done_plain ns u).0.0 h
formula_state s u t h = absurd cc

role_state : (s : State) (u t : Terminal) → begins_role (part_at s u) ≡ true → kind_at s t ≡ role_kind t
role_state LabelEnd u t h = refl
role_state (FormulaStart k) u t h = not_both _ (formula_plain u).1 h
role_state (LiteralStart k) u t h = not_both _ (literal_plain u).1 h
role_state (Negated k) u t h = not_both _ (negated_plain u).1 h
role_state (Named ns b k) u t h = not_both _ (named_plain ns u).0.1 h
role_state (Done ns b k) u t h = not_both _ (done_plain ns u).0.1 h
role_state s u t h = absurd cc

argument_state : (s : State) (u t : Terminal) → begins_argument (part_at s u) ≡ true → kind_at s t ≡ argument_kind t
argument_state (ArgumentStart n ns b k) u t h = refl
argument_state (FormulaStart k) u t h = not_both _ (formula_plain u).2 h
argument_state (LiteralStart k) u t h = not_both _ (literal_plain u).2 h
argument_state (Negated k) u t h = not_both _ (negated_plain u).2 h
argument_state (Named ns b k) u t h = not_both _ (named_plain ns u).0.2 h
argument_state (Done ns b k) u t h = not_both _ (done_plain ns u).0.2 h
argument_state s u t h = absurd cc

atom_state : (s : State) (u t : Terminal) → begins_atom (part_at s u) ≡ true → kind_at s t ≡ atom_kind t
atom_state (FormulaStart k) u t h = refl
atom_state (LiteralStart k) u t h = refl
atom_state (Negated k) u t h = refl
atom_state (AtomStart k) u t h = refl
atom_state (Named ns b k) u t h = not_both _ (named_plain ns u).1 h
atom_state (Done ns b k) u t h = not_both _ (done_plain ns u).1 h
atom_state s u t h = absurd cc

atom_end_state : (s : State) (t : Terminal) → ends_atom s ≡ true → kind_at s t ≡ atom_end_kind t
atom_end_state (Named [] b k) t h = refl
atom_end_state (Done [] b k) t h = refl
atom_end_state (Named (n ∷ ns) b k) t h = absurd cc
atom_end_state (Done (n ∷ ns) b k) t h = absurd cc
atom_end_state s t h = absurd cc

include_kind : (t : Terminal) → is_include t ≡ true → formula_kind t ≡ Inappropriate what.Include
include_kind (LowerWord text) h = subst (λ (x : List ℕ). formula_kind (LowerWord x) ≡ Inappropriate what.Include) (sym ((bytes_eq-Decides text (codes "include")).0 h)) refl
include_kind t h = absurd cc

number_kind : (t : Terminal) → is_number t ≡ true → (argument_kind t ≡ Inappropriate what.Number) × (atom_kind t ≡ Inappropriate what.Number)
number_kind (Digits text) h = (refl, refl)
number_kind Number h = (refl, refl)
number_kind t h = absurd cc

defined_kind : (t : Terminal) → is_dollar_word t ≡ true → (argument_kind t ≡ Inappropriate what.Defined) × (atom_kind t ≡ Inappropriate what.Defined)
defined_kind (DollarWord text) h = (refl, refl)
defined_kind t h = absurd cc

variable_kind : (t : Terminal) → is_variable_or_distinct t ≡ true → atom_kind t ≡ Inappropriate what.Equality
variable_kind t h = ap (λ (b : Bool). if b then Inappropriate what.Equality else argument_kind t) h

-- the kind at an atom's or at an argument's place
either_kind : (s : State) (ts : List Terminal) (t : Terminal) (x : Refusal) → run_on (Some Between) ts ≡ Some s → MayBegin begins_atom ts ⊎ MayBegin begins_argument ts → (argument_kind t ≡ x) × (atom_kind t ≡ x) → kind_at s t ≡ x
either_kind s ts t x run (inl m) e = let b = state_begins begins_atom ts s run m in atom_state s b.0 t b.1 ∙ e.1
either_kind s ts t x run (inr m) e = let b = state_begins begins_argument ts s run m in argument_state s b.0 t b.1 ∙ e.0

pub kind_of : (w : What) (s : State) (ts : List Terminal) (t : Terminal) → run_on (Some Between) ts ≡ Some s → IsInappropriate w ts t → kind_at s t ≡ Inappropriate w
kind_of what.Language s ts t run h =
    let b = state_begins begins_formula ts s run h.1 in
    formula_state s b.0 t b.1 ∙ ap (λ (x : Bool). if x then Inappropriate what.Language else (if is_include t then Inappropriate what.Include else Syntax)) h.0
kind_of what.Include s ts t run h = let b = state_begins begins_formula ts s run h.1 in formula_state s b.0 t b.1 ∙ include_kind t h.0
kind_of what.Conjecture s ts t run h =
    let b = state_begins begins_role ts s run h.1 in
    role_state s b.0 t b.1 ∙ ap (λ (x : Bool). if x then Inappropriate what.Conjecture else (if is_lower_word_token t then Inappropriate what.Role else Syntax)) h.0
kind_of what.Role s ts t run h =
    let b = state_begins begins_role ts s run h.2 in
    role_state s b.0 t b.1 ∙ ap (λ (x : Bool). if x then Inappropriate what.Conjecture else (if is_lower_word_token t then Inappropriate what.Role else Syntax)) h.1
    ∙ ap (λ (x : Bool). if x then Inappropriate what.Role else Syntax) h.0
kind_of what.Equality s ts t run (inl h) =
    atom_end_state s t (state_ends ts s run h.1) ∙ ap (λ (x : Bool). if x then Inappropriate what.Equality else Syntax) h.0
kind_of what.Equality s ts t run (inr h) = let b = state_begins begins_atom ts s run h.1 in atom_state s b.0 t b.1 ∙ variable_kind t h.0
kind_of what.Number s ts t run h = either_kind s ts t (Inappropriate what.Number) run h.1 (number_kind t h.0)
kind_of what.Defined s ts t run h = either_kind s ts t (Inappropriate what.Defined) run h.1 (defined_kind t h.0)
