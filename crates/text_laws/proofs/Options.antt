-- Words ask for one list of options.
use Rattle.std.proofs.Common.{◌≡◌, ◌<◌, ℕ, Bool, true, false, cond, List, [], ◌∷◌, ◌++◌, map, Option, Some, None, refl, sym, ap, subst, ◌∙◌, true≢false, arith}
use Rattle.std.specs.Prelude.{◌==◌}
use Rattle.std.specs.List.{list_any}
use Rattle.std.specs.String.{string_bytes}
use Rattle.std.specs.Global.{Global}
use Rattle.std.specs.declared.string.String.{String}
use Rattle.std.proofs.lemmas.Slice.Eq.{bytes_eq-Decides}
use Rattle.me_terms.specs.declared.bounds.TheConstants.{MAX_DEPTH, MAX_WEIGHT, MAX_ENTRIES, MAX_LIST}
use Rattle.me_terms.specs.declared.bounds.Bounds.{Bounds}
use Rattle.me_terms.specs.declared.bounds.Start.{Start}
use Rattle.me_terms.specs.declared.bounds.Start.TheVariants.{Negative, Positive}
use Rattle.darwin_options.specs.Settings.{OptionKind, Name, Depth, From, Weight, Literals, ListWeight, Workers, Share, StartSign, Make, Word, Setting, long_name, written_name, ReadsAs, nothing, two_words, one_word, value_of, IsNumberOr, start_word}
use Rattle.darwin_options.specs.AcceptedWords.{Sets, IsNameOr, IsSeed, IsStartOr, AreBoundsOf, AreOptionsOf, Asks}
use Rattle.darwin_options.specs.declared.options.Options.{Options}
use Rattle.darwin_options.specs.declared.options.TheConstants.{DEFAULT_DEPTH, DEFAULT_WEIGHT, DEFAULT_ENTRIES, DEFAULT_LIST, MAX_WORKERS, DEFAULT_WORKERS, MAX_SHARE, DEFAULT_SHARE}
use Rattle.darwin_options.proofs.Reading.{same_option}
use Rattle.text_laws.specs.AskedOptions.{AreSame}

-- ---- the words of a setting

-- what stands before the first `=` of a word, and what behind it
abbrev before_equals : Word → Word
before_equals [] = []
before_equals (byte ∷ bytes) = cond (byte == 61) [] (byte ∷ before_equals bytes)

abbrev behind_equals : Word → Word
behind_equals [] = []
behind_equals (byte ∷ bytes) = cond (byte == 61) bytes (behind_equals bytes)

abbrev has_equals : Word → Bool
has_equals word = list_any (λ byte. byte == 61) word

abbrev behind_hyphens : Word → Word
behind_hyphens (first ∷ second ∷ bytes) = bytes
behind_hyphens word = word

name_before : (o : OptionKind) (v : Word) → before_equals (written_name o ++ 61 ∷ v) ≡ written_name o
name_before Name v = refl
name_before Depth v = refl
name_before From v = refl
name_before Weight v = refl
name_before Literals v = refl
name_before ListWeight v = refl
name_before Workers v = refl
name_before Share v = refl
name_before StartSign v = refl
name_before Make v = refl

value_behind : (o : OptionKind) (v : Word) → behind_equals (written_name o ++ 61 ∷ v) ≡ v
value_behind Name v = refl
value_behind Depth v = refl
value_behind From v = refl
value_behind Weight v = refl
value_behind Literals v = refl
value_behind ListWeight v = refl
value_behind Workers v = refl
value_behind Share v = refl
value_behind StartSign v = refl
value_behind Make v = refl

equals_in : (o : OptionKind) (v : Word) → has_equals (written_name o ++ 61 ∷ v) ≡ true
equals_in Name v = refl
equals_in Depth v = refl
equals_in From v = refl
equals_in Weight v = refl
equals_in Literals v = refl
equals_in ListWeight v = refl
equals_in Workers v = refl
equals_in Share v = refl
equals_in StartSign v = refl
equals_in Make v = refl

no_equals_in : (o : OptionKind) → has_equals (written_name o) ≡ false
no_equals_in Name = refl
no_equals_in Depth = refl
no_equals_in From = refl
no_equals_in Weight = refl
no_equals_in Literals = refl
no_equals_in ListWeight = refl
no_equals_in Workers = refl
no_equals_in Share = refl
no_equals_in StartSign = refl
no_equals_in Make = refl

same_name : (o p : OptionKind) → written_name o ≡ written_name p → o ≡ p
same_name o p e = same_option o p ((bytes_eq-Decides (long_name o) (long_name p)).1 (ap behind_hyphens e))

not_one_word : (o p : OptionKind) (v : Word) → written_name o ≡ written_name p ++ 61 ∷ v → ⊥
not_one_word o p v e = true≢false (sym (equals_in p v) ∙ ap has_equals (sym e) ∙ no_equals_in o)

one_more : (o p : OptionKind) (v w : Word) (settings others : List Setting) → o ≡ p → v ≡ w → settings ≡ others
    → record { option = o; value = v } ∷ settings ≡ record { option = p; value = w } ∷ others
one_more o p v w settings others option value rest = λ i. record { option = option i; value = value i } ∷ rest i

parts : {A : Type 0} (x y : A) (xs ys : List A) → x ∷ xs ≡ y ∷ ys → (x ≡ y) × (xs ≡ ys)
parts x y xs ys e = (cc, cc)

no_word : (word : Word) (words : List Word) → [] ≡ word ∷ words → ⊥
no_word word words e = cc

read_once : {words same : List Word} {settings others : List Setting} → ReadsAs words settings → ReadsAs same others → words ≡ same → settings ≡ others
read_once nothing nothing e = refl
read_once nothing (two_words p w words others plain read) e = absurd (no_word _ _ e)
read_once nothing (one_word p w words others read) e = absurd (no_word _ _ e)
read_once (two_words o v rest settings plain read) nothing e = absurd (no_word _ _ (sym e))
read_once (one_word o v rest settings read) nothing e = absurd (no_word _ _ (sym e))
read_once (two_words o v rest settings plain read) (two_words p w words others bare again) e =
    let first = parts (written_name o) (written_name p) (v ∷ rest) (w ∷ words) e in
    let second = parts v w rest words first.1 in
    one_more o p v w settings others (same_name o p first.0) second.0 (read_once read again second.1)
read_once (two_words o v rest settings plain read) (one_word p w words others again) e =
    absurd (not_one_word o p w (parts (written_name o) (written_name p ++ 61 ∷ w) (v ∷ rest) words e).0)
read_once (one_word o v rest settings read) (two_words p w words others plain again) e =
    absurd (not_one_word p o v (sym (parts (written_name o ++ 61 ∷ v) (written_name p) rest (w ∷ words) e).0))
read_once (one_word o v rest settings read) (one_word p w words others again) e =
    let first = parts (written_name o ++ 61 ∷ v) (written_name p ++ 61 ∷ w) rest words e in
    let names = sym (name_before o v) ∙ ap before_equals first.0 ∙ name_before p w in
    let values = sym (value_behind o v) ∙ ap behind_equals first.0 ∙ value_behind p w in
    one_more o p v w settings others (same_name o p names) values (read_once read again first.1)

pub settings_once : (words : List Word) (settings others : List Setting) → ReadsAs words settings → ReadsAs words others → settings ≡ others
settings_once words settings others read again = read_once read again refl

sets_once : (words : List (String Global)) (settings others : List Setting) → Sets words settings → Sets words others → settings ≡ others
sets_once [] settings others none other = absurd none
sets_once (program ∷ words) settings others set again = settings_once (map string_bytes words) settings others set.distinct.read again.distinct.read

-- ---- the value of an option

number_once : (low high default : ℕ) (value : Option Word) (n same : ℕ) → IsNumberOr low high default value n → IsNumberOr low high default value same → n ≡ same
number_once low high default None n same is again = is ∙ sym again
number_once low high default (Some word) n same is again = is.1 ∙ sym again.1

name_once : (value : Option Word) (name same : Word) → IsNameOr value name → IsNameOr value same → name ≡ same
name_once None name same is again = is ∙ sym again
name_once (Some word) name same is again = is.1 ∙ sym again.1

seed_once : (value : Option Word) (seed same : Option ℕ) → IsSeed value seed → IsSeed value same → seed ≡ same
seed_once None seed same is again = is ∙ sym again
seed_once (Some word) seed same is again = is.1 ∙ sym again.1

abbrev first_letter : Word → ℕ
first_letter [] = 0
first_letter (byte ∷ bytes) = byte

apart : (m n : ℕ) → m < n → m ≡ n → ⊥
apart m n less e = omega (arith, less, e)

-- n and p
letters : 110 < 112
letters = omega arith

start_named : (start same : Start) → start_word start ≡ start_word same → start ≡ same
start_named Negative Negative e = refl
start_named Positive Positive e = refl
start_named Negative Positive e = absurd (apart 110 112 letters (ap first_letter e))
start_named Positive Negative e = absurd (apart 110 112 letters (sym (ap first_letter e)))

start_once : (value : Option Word) (start same : Start) → IsStartOr value start → IsStartOr value same → start ≡ same
start_once None start same is again = is ∙ sym again
start_once (Some word) start same is again = start_named start same (sym is ∙ again)

bounds_once : (values : OptionKind → Option Word) (bounds same : Bounds) → AreBoundsOf values bounds → AreBoundsOf values same → bounds ≡ same
bounds_once values bounds same is again =
    let depth = number_once 1 MAX_DEPTH DEFAULT_DEPTH (values Depth) bounds.depth same.depth is.depth again.depth in
    let weight = number_once 1 MAX_WEIGHT DEFAULT_WEIGHT (values Weight) bounds.weight same.weight is.weight again.weight in
    let literals = number_once 1 MAX_ENTRIES DEFAULT_ENTRIES (values Literals) bounds.literals same.literals is.literals again.literals in
    let list = number_once 1 MAX_LIST DEFAULT_LIST (values ListWeight) bounds.list same.list is.list again.list in
    let start = start_once (values StartSign) bounds.start same.start is.start again.start in
    λ i. record { depth = depth i; weight = weight i; literals = literals i; list = list i; start = start i }

values_once : (values : OptionKind → Option Word) (options other : Options) → AreOptionsOf values options → AreOptionsOf values other → AreSame options other
values_once values options other is again =
    let bounds = bounds_once values options.bounds other.bounds is.bounds again.bounds in
    let depth = ap (λ (b : Bounds). b.depth) bounds in
    let from = subst (λ (n : ℕ). IsNumberOr 1 n n (values From) options.from) depth is.from in
    record {
      alike = record {
        name = name_once (values Name) options.name.items other.name.items is.name again.name;
        bounds = bounds;
        from = number_once 1 other.bounds.depth other.bounds.depth (values From) options.from other.from from again.from;
        make = seed_once (values Make) options.make other.make is.make again.make;
      };
      workers = number_once 1 MAX_WORKERS DEFAULT_WORKERS (values Workers) options.workers other.workers is.workers again.workers;
      share = number_once 0 MAX_SHARE DEFAULT_SHARE (values Share) options.share other.share is.share again.share;
    }

pub options_once : (words : List (String Global)) (options other : Options) → Asks words options → Asks words other → AreSame options other
options_once words options other asks again =
    let same = sets_once words asks.0 again.0 asks.1 again.1 in
    values_once (λ o. value_of o again.0) options other (subst (λ (settings : List Setting). AreOptionsOf (λ o. value_of o settings) options) same asks.2) again.2
