-- What a parse of the whole list of words says of them.
use Rattle.std.proofs.Common.{◌≡◌, ◌≢◌, ◌∙◌, inl, inr, true≢false, not, arith, Bool, cond, true, false, refl, sym, ap, subst, List, [], ◌∷◌, ◌++◌, map, is_some, Option, Some, None, option_map}
use Rattle.std.specs.List.{find, fold, list_any}
use Rattle.std.specs.Str.{bytes_eq}
use Rattle.std.specs.Global.{Global}
use Rattle.std.specs.String.{string_bytes}
use Rattle.std.specs.declared.string.String.{String}
use Rattle.clap.specs.Kinds.{Kinds, HasKind, or_else}
use Rattle.clap.specs.Values.{kind_of}
use Rattle.clap.specs.declared.error.Error.{Error}
use Rattle.clap.specs.declared.error.kind.ErrorKind.TheVariants.{OutOfMemory}
use Rattle.clap.specs.Faults.{defaults_fault, entered_fault, fault_of, is_simple_and_free, level_fault, settle_fault, walk_fault}
use Rattle.clap.specs.Matches.{found_of}
use Rattle.clap.specs.Simple.{App, HasMatchesOf, built, entered, is_simple, matches_of}
use Rattle.clap.specs.Walk.{Row, Text, first_of, nothing_held, rows_of, walk}
use Rattle.clap.specs.declared.parser.matches.ArgMatches.{ArgMatches}
use Rattle.darwin_options.specs.declared.error.WordsError.{WordsError}
use Rattle.darwin_options.specs.declared.error.WordsError.TheVariants.{Memory, Usage}
use Rattle.clap.proofs.WalkLemmas.{first_value-rows, list_any-map}
use Rattle.darwin_options.specs.Settings.{OptionKind, Name, Depth, From, Weight, Literals, ListWeight, Workers, Share, StartSign, Make, Word, Setting, long_name, written_name, is_of, value_of, ReadsAs, nothing, two_words, one_word, AreDistinctSettings, Distinguishes}
use Rattle.darwin_options.specs.OptionsCommand.{all_options, options_app, is_bare, is_readable, HoldsValuesOf, IsFoundIn, AreNoSettings}
use Rattle.darwin_options.proofs.Turns.{top, rules, no_defaults, same_rows}
use Rattle.darwin_options.proofs.Reading.{rows_for}
use Rattle.darwin_options.proofs.Taken.{rest_fault, last_rows, idle_after, hyphen_test, taken}
use Rattle.darwin_options.proofs.Found.{read}

for_stop : (words : List Word) (stop : Option (Text × List Text))
    → level_fault top [] nothing_held words (is_some (entered (built options_app) stop)) (entered_fault (built options_app) stop)
    ≡ or_else (walk_fault top [] (idle_after [] None) words)
    (or_else (settle_fault rules false (walk rules [] nothing_held words).held) (or_else (defaults_fault (last_rows (idle_after [] None) words) rules) []))
for_stop words None = refl
for_stop words (Some p) = refl

or_right : (a : Kinds) → or_else a [] ≡ a
or_right [] = refl
or_right (k ∷ ks) = refl

fault-is : (program : Word) (words : List Word) → fault_of options_app (program ∷ words) ≡ rest_fault (idle_after [] None) words
fault-is program words =
    for_stop words (walk rules [] nothing_held words).stopped
    ∙ ap (λ (ks : Kinds). or_else (walk_fault top [] (idle_after [] None) words) (or_else (settle_fault rules false (walk rules [] nothing_held words).held) (or_else ks [])))
    (no_defaults (last_rows (idle_after [] None) words) all_options)
    ∙ ap (λ (ks : Kinds). or_else (walk_fault top [] (idle_after [] None) words) ks) (or_right (settle_fault rules false (walk rules [] nothing_held words).held))

rows-are : (program : Word) (words : List Word) → matches_of options_app (program ∷ words) ≡ last_rows (idle_after [] None) words
rows-are program words = same_rows (last_rows (idle_after [] None) words) all_options

first-value : (o : OptionKind) (settings : List Setting) → first_of (long_name o) (rows_for settings) ≡ value_of o settings
first-value o [] = refl
first-value o (s ∷ settings) = go (first-value o settings) (is_of o s)
  where
    go : first_of (long_name o) (rows_for settings) ≡ value_of o settings → (b : Bool)
        → Rattle.std.specs.Prelude.option_and_then (λ (r : Row). Rattle.std.specs.Prelude.slice_get r.values 0)
        (cond b (Some (Rattle.darwin_options.proofs.Turns.row s)) (find (λ r. bytes_eq r.id (long_name o)) (rows_for settings)))
        ≡ option_map (λ (t : Setting). t.value) (cond b (Some s) (find (is_of o) settings))
    go others true = refl
    go others false = others

-- the words that a parse takes are settings, and it finds their values
pub found_settings : (program : Word) (words : List Word) (matches : ArgMatches) → list_any is_bare words ≡ false → fault_of options_app (program ∷ words) ≡ []
    → rows_of (found_of matches) ≡ matches_of options_app (program ∷ words) → (settings : List Setting) × AreDistinctSettings words settings × HoldsValuesOf settings matches
found_settings program words matches free none found =
    let reading = read words free [] None (λ i j d lt inside. absurd (omega arith)) (sym (fault-is program words) ∙ none) in (
      reading.settings,
      record { read = reading.read; once = reading.once },
      λ o. first_value-rows (found_of matches) (long_name o)
          ∙ ap (first_of (long_name o)) (found ∙ rows-are program words ∙ reading.rows) ∙ first-value o reading.settings,
    )

-- settings are taken
pub takes_settings : (program : Word) (words : List Word) (settings : List Setting) → AreDistinctSettings words settings → fault_of options_app (program ∷ words) ≡ []
takes_settings program words settings given = fault-is program words ∙ (taken given.read [] None given.once).0

-- any settings that the words are have the values that a parse finds
pub same_values : (program : Word) (words : List Word) (matches : ArgMatches) → rows_of (found_of matches) ≡ matches_of options_app (program ∷ words)
    → (settings : List Setting) → AreDistinctSettings words settings → HoldsValuesOf settings matches
same_values program words matches found settings given o =
    first_value-rows (found_of matches) (long_name o)
    ∙ ap (first_of (long_name o)) (found ∙ rows-are program words ∙ (taken given.read [] None given.once).1) ∙ first-value o settings

-- ---- the words of a call

plain_name : (o : OptionKind) → is_bare (written_name o) ≡ false
plain_name Name = refl
plain_name Depth = refl
plain_name From = refl
plain_name Weight = refl
plain_name Literals = refl
plain_name ListWeight = refl
plain_name Workers = refl
plain_name Share = refl
plain_name StartSign = refl
plain_name Make = refl

plain_both : (o : OptionKind) (v : Word) → is_bare (written_name o ++ 61 ∷ v) ≡ false
plain_both Name v = refl
plain_both Depth v = refl
plain_both From v = refl
plain_both Weight v = refl
plain_both Literals v = refl
plain_both ListWeight v = refl
plain_both Workers v = refl
plain_both Share v = refl
plain_both StartSign v = refl
plain_both Make v = refl

-- settings have no bare word
none_bare : {words : List Word} {settings : List Setting} → ReadsAs words settings → list_any is_bare words ≡ false
none_bare nothing = refl
none_bare (two_words o v words settings plain later) = rw (plain_name o) (rw (hyphen_test v plain) (none_bare later))
none_bare (one_word o v words settings later) = rw (plain_both o v) (none_bare later)

bare-map : (words : List (String Global)) → list_any (λ word. is_bare (string_bytes word)) words ≡ list_any is_bare (map string_bytes words)
bare-map words = list_any-map is_bare string_bytes words

is_not : (b : Bool) → not b ≡ true → b ≡ false
is_not true e = sym e
is_not false e = refl

-- where a word is bare, or there is none, the words are no settings
pub unreadable : (words : List (String Global)) → is_readable words ≡ false → AreNoSettings words
unreadable [] e settings none = none
unreadable (program ∷ words) e settings given = true≢false (sym (ap not (bare-map words ∙ none_bare given.read)) ∙ e)

pub found_in : (app : App) → app ≡ options_app → (words : List (String Global)) → is_readable words ≡ true → (m : ArgMatches) → HasMatchesOf app (map string_bytes words) m
    → (is_simple_and_free app ≡ true → fault_of app (map string_bytes words) ≡ []) → IsFoundIn words m
found_in app is [] readable m matches none = absurd (true≢false (sym readable))
found_in app is (program ∷ words) readable m matches none =
    found_settings (string_bytes program) (map string_bytes words) m (sym (bare-map words) ∙ is_not _ readable)
    (ap (λ (a : App). fault_of a (map string_bytes (program ∷ words))) (sym is) ∙ none (ap is_simple_and_free is))
    ((matches (ap is_simple is)).0 ∙ ap (λ (a : App). matches_of a (map string_bytes (program ∷ words))) is)

pub same_in : (app : App) → app ≡ options_app → (words : List (String Global)) → (m : ArgMatches) → HasMatchesOf app (map string_bytes words) m
    → (settings : List Setting) → Distinguishes words settings → HoldsValuesOf settings m
same_in app is [] m matches settings none = absurd none
same_in app is (program ∷ words) m matches settings given =
    same_values (string_bytes program) (map string_bytes words) m
    ((matches (ap is_simple is)).0 ∙ ap (λ (a : App). matches_of a (map string_bytes (program ∷ words))) is) settings given

pub refused_in : (app : App) → app ≡ options_app → (words : List (String Global)) (e : Error) → (is_simple_and_free app ≡ true → HasKind (fault_of app (map string_bytes words)) e)
    → kind_of e ≢ OutOfMemory → AreNoSettings words
refused_in app is [] e fails other settings none = none
refused_in app is (program ∷ words) e fails other settings given =
    let none = ap (λ (a : App). fault_of a (map string_bytes (program ∷ words))) is ∙ takes_settings (string_bytes program) (map string_bytes words) settings given in
    elim (subst (λ (ks : Kinds). HasKind ks e) none (fails (ap is_simple_and_free is))) [
      | inl memory ↦ other memory
      | inr among ↦ among
    ]

is_memory : WordsError → Bool
is_memory Memory = true
is_memory Usage = false

pub memory_is_no_usage : Memory ≡ Usage → ⊥
unfolding is_memory
memory_is_no_usage e = true≢false (ap is_memory e)
