-- A step of the code is a step of the machine.
use Rattle.tptp_grammar.specs.declared.limits.TheConstants.{MAX_FORMULAS, MAX_LITERALS, MAX_ARGUMENTS, MAX_VARIABLES, MAX_BRACKETS}
use Rattle.std.proofs.Common.{◌≡◌, ℕ, Bool, true, false, List, length, Option, Some, None, refl, sym, ap, ◌∙◌}
use Rattle.std.specs.Prelude.{◌&&◌, nat_le, nat_lt}
use Rattle.tptp_tokens.specs.declared.token.TokenKind.{TokenKind}
use Rattle.tptp_tokens.specs.declared.token.TokenKind.TheVariants.{OpenRound, OpenSquare}
use Rattle.tptp_grammar.specs.Terminals.{Terminal, terminal_as}
use Rattle.tptp_grammar.specs.Limits.{begins_formula, begins_literal, opens, variable_as, with_variables, begins_argument_behind}
use Rattle.tptp_grammar.specs.Machine.{State, step, part_at, open_brackets}
use Rattle.tptp_grammar.specs.Readings.{Tally, Reading, counted, counted_if, first_of, first_passed, first_passed_at, GoesOn, limited, judged, verdict}
use Rattle.tptp_grammar.specs.Views.{is_opening}
use Rattle.tptp_grammar.specs.MachineViews.{counted_part, counted_part_if}
use Rattle.tptp_grammar.specs.declared.part.Part.{Part}
use Rattle.tptp_grammar.specs.declared.refusal.Which.{Which}

pub opening_is : (kind : TokenKind) (text : List ℕ) → is_opening kind ≡ opens (terminal_as kind text)
opening_is OpenRound text = refl
opening_is OpenSquare text = refl
opening_is kind text = refl

none_of : (a b c d e : Bool) → first_of a b c false false ≡ None → first_of false false false d e ≡ None → first_of a b c d e ≡ None
none_of true b c d e h k = absurd cc
none_of false true c d e h k = absurd cc
none_of false false true d e h k = absurd cc
none_of false false false d e h k = k

abbrev noted : Part → Terminal → Tally → Tally
noted part t tally = record { formulas = tally.formulas; literals = tally.literals; variables = with_variables tally.variables (variable_as part t) }

counted_is : (b : Bool) (part : Part) (t : Terminal) (tally : Tally) → counted_part_if b part (noted part t tally) ≡ counted_if b part t tally
counted_is true part t tally = refl
counted_is false part t tally = refl

pub stepped : (r final : Reading) (t : Terminal) (part : Part) (u : State) (before : Tally) (too_deep : Bool) → part ≡ part_at r.state t → step r.state t ≡ Some u
    → first_of (begins_formula part && nat_le MAX_FORMULAS r.tally.formulas) (begins_literal part && nat_le MAX_LITERALS r.tally.literals) (begins_argument_behind MAX_ARGUMENTS part) false false ≡ None
    → before ≡ noted part t r.tally → too_deep ≡ (opens t && nat_le MAX_BRACKETS (open_brackets r.state))
    → first_of false false false (nat_lt MAX_VARIABLES (length before.variables)) too_deep ≡ None
    → final.state ≡ u → final.tally ≡ counted_part part before
    → verdict r t ≡ GoesOn final
stepped r final t part u before too_deep p s f n d g w k =
    let g' : first_of false false false (nat_lt MAX_VARIABLES (length (with_variables r.tally.variables (variable_as part t)))) (opens t && nat_le MAX_BRACKETS (open_brackets r.state)) ≡ None =
    ap (λ (x : Tally). first_of false false false (nat_lt MAX_VARIABLES (length x.variables)) (opens t && nat_le MAX_BRACKETS (open_brackets r.state))) (sym n)
    ∙ ap (λ (x : Bool). first_of false false false (nat_lt MAX_VARIABLES (length before.variables)) x) (sym d) ∙ g in
    let all : first_passed part (open_brackets r.state) r.tally t ≡ None = none_of _ _ _ _ _ f g' in
    let here : first_passed_at r t ≡ None = ap (λ (x : Part). first_passed x (open_brackets r.state) r.tally t) (sym p) ∙ all in
    let tally : counted (part_at r.state t) t r.tally ≡ final.tally =
    ap (λ (x : Part). counted x t r.tally) (sym p) ∙ sym (counted_is (begins_formula part) part t r.tally) ∙ ap (counted_part part) (sym n) ∙ sym k in
    ap (λ (x : Option State). judged x r t) s
    ∙ ap (λ (x : Option Which). limited x (record { state = u; tally = counted (part_at r.state t) t r.tally })) here
    ∙ ap (λ (x : Tally). GoesOn (record { state = u; tally = x })) tally
    ∙ ap (λ (x : State). GoesOn (record { state = x; tally = final.tally })) (sym w)
