-- What a parse makes of one word of the command whose arguments are the options.
use Rattle.std.proofs.Common.{◌≡◌, ◌||◌, Bool, cond, true, false, refl, ap, List, [], ◌∷◌, ◌++◌, map, Option, Some, None, true≢false}
use Rattle.std.specs.List.{fold}
use Rattle.std.specs.Str.{bytes_eq}
use Rattle.clap.specs.Lexer.{long_of, short_of}
use Rattle.clap.specs.Kinds.{or_else}
use Rattle.clap.specs.Walk.{Held, Row, at_row, more_values, Rule, Text, Waiting, idle, option, Walk, arg_by_long, has_row, reading_by, settled_rows, used, walked, with_default}
use Rattle.clap.specs.Simple.{Shape, built, filled, with_index}
use Rattle.clap.specs.Faults.{defaults_fault, react_fault, settle_fault, turn_fault, use_fault}
use Rattle.clap.specs.declared.parser.matches.ValueSource.TheVariants.{CommandLine}
use Rattle.clap.specs.declared.error.kind.ErrorKind.TheVariants.{ArgumentConflict, InvalidValue, UnknownArgument}
use Rattle.darwin_options.specs.Settings.{OptionKind, Name, Depth, From, Weight, Literals, ListWeight, Workers, Share, StartSign, Make, Word, Setting, long_name, written_name}
use Rattle.darwin_options.specs.OptionsCommand.{all_options, begins_with_hyphen, options_app, rule_of_option}

abbrev pub top : Shape
top = (built options_app).top

abbrev pub rules : List Rule
rules = top.rules

abbrev pub rule : OptionKind → Rule
rule o = with_index 1 (filled (rule_of_option o))

pub rules-are : rules ≡ map rule all_options
rules-are = refl

-- what a setting leaves in the matches
abbrev pub row : Setting → Row
row s = record { id = long_name s.option; values = s.value ∷ []; count = None; source = Some CommandLine; reading = reading_by (rule s.option) }

-- an option whose value is still to be noted
abbrev pub Pending : Type 0
Pending = Option (Text × List Text)

abbrev pub held : List Row → Pending → Held
held rows p = record { rows = rows; pending = p; skip = 0 }

abbrev pub at : List Row → Pending → Waiting → Walk
at rows p w = record { held = held rows p; waiting = w; position = 1; is_trailing = false; stopped = None }

-- ---- the names

pub by_long : (o : OptionKind) → arg_by_long rules (long_name o) ≡ Some (rule o)
by_long Name = refl
by_long Depth = refl
by_long From = refl
by_long Weight = refl
by_long Literals = refl
by_long ListWeight = refl
by_long Workers = refl
by_long Share = refl
by_long StartSign = refl
by_long Make = refl

-- ---- an option's name as a word

pub name_fault : (o : OptionKind) (rows : List Row) (p : Pending) → turn_fault top [] (at rows p idle) (written_name o) ≡ or_else (settle_fault rules false (held rows p)) []
name_fault Name rows p = refl
name_fault Depth rows p = refl
name_fault From rows p = refl
name_fault Weight rows p = refl
name_fault Literals rows p = refl
name_fault ListWeight rows p = refl
name_fault Workers rows p = refl
name_fault Share rows p = refl
name_fault StartSign rows p = refl
name_fault Make rows p = refl

pub name_walked : (o : OptionKind) (rows : List Row) (p : Pending) → walked rules [] (at rows p idle) (written_name o) ≡ at (settled_rows rules p rows) (Some (long_name o, [])) (option (long_name o))
unfolding walked
name_walked Name rows p = refl
name_walked Depth rows p = refl
name_walked From rows p = refl
name_walked Weight rows p = refl
name_walked Literals rows p = refl
name_walked ListWeight rows p = refl
name_walked Workers rows p = refl
name_walked Share rows p = refl
name_walked StartSign rows p = refl
name_walked Make rows p = refl

-- ---- an option's name and its value in one word

pub both_fault : (o : OptionKind) (v : Word) (rows : List Row) (p : Pending)
    → turn_fault top [] (at rows p idle) (written_name o ++ 61 ∷ v) ≡ or_else (react_fault rules false (rule o) (v ∷ []) (held rows p)) []
both_fault Name v rows p = refl
both_fault Depth v rows p = refl
both_fault From v rows p = refl
both_fault Weight v rows p = refl
both_fault Literals v rows p = refl
both_fault ListWeight v rows p = refl
both_fault Workers v rows p = refl
both_fault Share v rows p = refl
both_fault StartSign v rows p = refl
both_fault Make v rows p = refl

pub both_walked : (o : OptionKind) (v : Word) (rows : List Row) (p : Pending)
    → walked rules [] (at rows p idle) (written_name o ++ 61 ∷ v) ≡ at (used (rule o) (v ∷ []) (settled_rows rules p rows)) None idle
unfolding walked
both_walked Name v rows p = refl
both_walked Depth v rows p = refl
both_walked From v rows p = refl
both_walked Weight v rows p = refl
both_walked Literals v rows p = refl
both_walked ListWeight v rows p = refl
both_walked Workers v rows p = refl
both_walked Share v rows p = refl
both_walked StartSign v rows p = refl
both_walked Make v rows p = refl

-- ---- a value as a word

-- the walk waits for the option's value
abbrev pub awaits : List Row → OptionKind → Walk
awaits rows o = at rows (Some (long_name o, [])) (option (long_name o))

not_dashes : (v : Word) → begins_with_hyphen v ≡ false → bytes_eq v (45 ∷ 45 ∷ []) ≡ false
not_dashes [] e = refl
not_dashes (x ∷ xs) e = rw e refl

no_long : (v : Word) → begins_with_hyphen v ≡ false → long_of v ≡ None
no_long [] e = refl
no_long (x ∷ xs) e = rw e refl

no_short : (v : Word) → begins_with_hyphen v ≡ false → short_of v ≡ None
no_short [] e = refl
no_short (x ∷ xs) e = rw e refl

pub value_fault : (o : OptionKind) (v : Word) (rows : List Row) → begins_with_hyphen v ≡ false → turn_fault top [] (awaits rows o) v ≡ []
value_fault Name v rows e = rw (not_dashes v e) (rw (no_long v e) (rw (no_short v e) refl))
value_fault Depth v rows e = rw (not_dashes v e) (rw (no_long v e) (rw (no_short v e) refl))
value_fault From v rows e = rw (not_dashes v e) (rw (no_long v e) (rw (no_short v e) refl))
value_fault Weight v rows e = rw (not_dashes v e) (rw (no_long v e) (rw (no_short v e) refl))
value_fault Literals v rows e = rw (not_dashes v e) (rw (no_long v e) (rw (no_short v e) refl))
value_fault ListWeight v rows e = rw (not_dashes v e) (rw (no_long v e) (rw (no_short v e) refl))
value_fault Workers v rows e = rw (not_dashes v e) (rw (no_long v e) (rw (no_short v e) refl))
value_fault Share v rows e = rw (not_dashes v e) (rw (no_long v e) (rw (no_short v e) refl))
value_fault StartSign v rows e = rw (not_dashes v e) (rw (no_long v e) (rw (no_short v e) refl))
value_fault Make v rows e = rw (not_dashes v e) (rw (no_long v e) (rw (no_short v e) refl))

pub value_walked : (o : OptionKind) (v : Word) (rows : List Row) → begins_with_hyphen v ≡ false
    → walked rules [] (awaits rows o) v ≡ at rows (Some (long_name o, v ∷ [])) idle
unfolding walked
value_walked Name v rows e = rw (not_dashes v e) (rw (no_long v e) (rw (no_short v e) refl))
value_walked Depth v rows e = rw (not_dashes v e) (rw (no_long v e) (rw (no_short v e) refl))
value_walked From v rows e = rw (not_dashes v e) (rw (no_long v e) (rw (no_short v e) refl))
value_walked Weight v rows e = rw (not_dashes v e) (rw (no_long v e) (rw (no_short v e) refl))
value_walked Literals v rows e = rw (not_dashes v e) (rw (no_long v e) (rw (no_short v e) refl))
value_walked ListWeight v rows e = rw (not_dashes v e) (rw (no_long v e) (rw (no_short v e) refl))
value_walked Workers v rows e = rw (not_dashes v e) (rw (no_long v e) (rw (no_short v e) refl))
value_walked Share v rows e = rw (not_dashes v e) (rw (no_long v e) (rw (no_short v e) refl))
value_walked StartSign v rows e = rw (not_dashes v e) (rw (no_long v e) (rw (no_short v e) refl))
value_walked Make v rows e = rw (not_dashes v e) (rw (no_long v e) (rw (no_short v e) refl))

-- ---- words that are refused

-- a word that is no option, where none waits for its value
pub stray : (v : Word) (rows : List Row) (p : Pending) → begins_with_hyphen v ≡ false → turn_fault top [] (at rows p idle) v ≡ UnknownArgument ∷ []
stray v rows p e = rw (not_dashes v e) (rw (no_long v e) (rw (no_short v e) refl))

-- a name that no option has
pub unknown : (v : Word) (name : Text) (value : Option Text) (rows : List Row) (p : Pending) → bytes_eq v (45 ∷ 45 ∷ []) ≡ false → long_of v ≡ Some (name, value)
    → arg_by_long rules name ≡ None → turn_fault top [] (at rows p idle) v ≡ UnknownArgument ∷ []
unknown v name value rows p e is none = rw e (rw is (rw none refl))

pub unknown_waiting : (v : Word) (name : Text) (value : Option Text) (rows : List Row) (p : Pending) (id : Text) → bytes_eq v (45 ∷ 45 ∷ []) ≡ false
    → long_of v ≡ Some (name, value) → arg_by_long rules name ≡ None → turn_fault top [] (at rows p (option id)) v ≡ UnknownArgument ∷ []
unknown_waiting v name value rows p id e is none = rw e (rw is (rw none refl))

-- an option where another waits for its value
pub name_waiting : (o : OptionKind) (rows : List Row) (p : Pending) (id : Text)
    → turn_fault top [] (at rows p (option id)) (written_name o) ≡ or_else (settle_fault rules false (held rows p)) []
name_waiting Name rows p id = refl
name_waiting Depth rows p id = refl
name_waiting From rows p id = refl
name_waiting Weight rows p id = refl
name_waiting Literals rows p id = refl
name_waiting ListWeight rows p id = refl
name_waiting Workers rows p id = refl
name_waiting Share rows p id = refl
name_waiting StartSign rows p id = refl
name_waiting Make rows p id = refl

pub both_waiting : (o : OptionKind) (v : Word) (rows : List Row) (p : Pending) (id : Text)
    → turn_fault top [] (at rows p (option id)) (written_name o ++ 61 ∷ v) ≡ or_else (react_fault rules false (rule o) (v ∷ []) (held rows p)) []
both_waiting Name v rows p id = refl
both_waiting Depth v rows p id = refl
both_waiting From v rows p id = refl
both_waiting Weight v rows p id = refl
both_waiting Literals v rows p id = refl
both_waiting ListWeight v rows p id = refl
both_waiting Workers v rows p id = refl
both_waiting Share v rows p id = refl
both_waiting StartSign v rows p id = refl
both_waiting Make v rows p id = refl

-- ---- a pending option is noted

pub pending_fault : (o : OptionKind) (v : Word) (rows : List Row) → settle_fault rules false (held rows (Some (long_name o, v ∷ []))) ≡ use_fault false (rule o) (v ∷ []) rows
pending_fault Name v rows = refl
pending_fault Depth v rows = refl
pending_fault From v rows = refl
pending_fault Weight v rows = refl
pending_fault Literals v rows = refl
pending_fault ListWeight v rows = refl
pending_fault Workers v rows = refl
pending_fault Share v rows = refl
pending_fault StartSign v rows = refl
pending_fault Make v rows = refl

pub pending_rows : (o : OptionKind) (v : Word) (rows : List Row) → settled_rows rules (Some (long_name o, v ∷ [])) rows ≡ used (rule o) (v ∷ []) rows
pending_rows Name v rows = refl
pending_rows Depth v rows = refl
pending_rows From v rows = refl
pending_rows Weight v rows = refl
pending_rows Literals v rows = refl
pending_rows ListWeight v rows = refl
pending_rows Workers v rows = refl
pending_rows Share v rows = refl
pending_rows StartSign v rows = refl
pending_rows Make v rows = refl

-- an option without its value is refused
pub empty_fault : (o : OptionKind) (rows : List Row) → settle_fault rules false (held rows (Some (long_name o, []))) ≡ InvalidValue ∷ []
empty_fault Name rows = refl
empty_fault Depth rows = refl
empty_fault From rows = refl
empty_fault Weight rows = refl
empty_fault Literals rows = refl
empty_fault ListWeight rows = refl
empty_fault Workers rows = refl
empty_fault Share rows = refl
empty_fault StartSign rows = refl
empty_fault Make rows = refl

-- ---- a use of an option

pub use_again : (o : OptionKind) (v : Word) (rows : List Row) → has_row (long_name o) rows ≡ true → use_fault false (rule o) (v ∷ []) rows ≡ ArgumentConflict ∷ []
use_again o v rows e = rw e refl

pub use_first : (o : OptionKind) (v : Word) (rows : List Row) → has_row (long_name o) rows ≡ false → use_fault false (rule o) (v ∷ []) rows ≡ []
use_first o v rows e = rw e refl

without_none : (id : Text) (rows : List Row) → has_row id rows ≡ false → at_row id (λ _. []) [] rows ≡ rows
without_none id [] e = refl
without_none id (r ∷ rs) e = go (without_none id rs) (bytes_eq r.id id) e
  where
    go : (has_row id rs ≡ false → at_row id (λ _. []) [] rs ≡ rs) → (b : Bool) → (b || has_row id rs) ≡ false → cond b ([] ++ rs) (r ∷ at_row id (λ _. []) [] rs) ≡ r ∷ rs
    go others true h = absurd (true≢false h)
    go others false h = ap (λ (xs : List Row). r ∷ xs) (others h)

at_end : (id : Text) (change : Row → List Row) (missing : List Row) (rows : List Row) → has_row id rows ≡ false → at_row id change missing rows ≡ rows ++ missing
at_end id change missing [] e = refl
at_end id change missing (r ∷ rs) e = go (at_end id change missing rs) (bytes_eq r.id id) e
  where
    go : (has_row id rs ≡ false → at_row id change missing rs ≡ rs ++ missing) → (b : Bool) → (b || has_row id rs) ≡ false
        → cond b (change r ++ rs) (r ∷ at_row id change missing rs) ≡ r ∷ (rs ++ missing)
    go others true h = absurd (true≢false h)
    go others false h = ap (λ (xs : List Row). r ∷ xs) (others h)

pub used_first : (o : OptionKind) (v : Word) (rows : List Row) → has_row (long_name o) rows ≡ false
    → used (rule o) (v ∷ []) rows ≡ rows ++ row (record { option = o; value = v }) ∷ []
used_first o v rows e = rw (without_none (long_name o) rows e) (at_end (long_name o) (more_values CommandLine (v ∷ [])) _ rows e)

-- ---- the end

pub no_defaults : (rows : List Row) (os : List OptionKind) → defaults_fault rows (map rule os) ≡ []
unfolding defaults_fault
no_defaults rows [] = refl
no_defaults rows (o ∷ os) = go (no_defaults rows os) (has_row (long_name o) rows)
  where
    go : defaults_fault rows (map rule os) ≡ [] → (b : Bool) → or_else (cond (b || true) [] []) (defaults_fault (cond b rows rows) (map rule os)) ≡ []
    go others true = others
    go others false = others

pub same_rows : (rows : List Row) (os : List OptionKind) → fold with_default rows (map rule os) ≡ rows
same_rows rows [] = refl
same_rows rows (o ∷ os) = go (same_rows rows os) (has_row (long_name o) rows)
  where
    go : fold with_default rows (map rule os) ≡ rows → (b : Bool) → fold with_default (cond b rows rows) (map rule os) ≡ rows
    go others true = others
    go others false = others
