-- Values of settings, and values of options.
use Rattle.std.proofs.Common.{◌≡◌, ◌<◌, ℕ, Bool, cond, true, false, zero, suc, refl, sym, subst, arith, List, [], ◌∷◌, length, Option, Some, None, option_map}
use Rattle.std.specs.Prelude.{IfSome, Result, Ok, Err, IfErr, OnErr}
use Rattle.std.specs.List.{All, find, slice_index_or}
use Rattle.std.proofs.lemmas.Slice.Eq.{bytes_eq-Decides}
use Rattle.me_terms.specs.declared.bounds.Start.{Start}
use Rattle.me_terms.specs.declared.bounds.TheConstants.{MAX_DEPTH, MAX_WEIGHT, MAX_ENTRIES, MAX_LIST}
use Rattle.szs_print.specs.Printable.{IsName}
use Rattle.darwin_options.specs.Settings.{OptionKind, Name, Depth, From, Weight, Literals, ListWeight, Workers, Share, StartSign, Make, Word, Setting, long_name, is_of, value_of, depth_or_default, AreDifferent, IsInForm, AreInForm, IsNumberWithin, IsNumberOr, IsOutside, IsStartWord}
use Rattle.darwin_options.specs.AcceptedWords.{IsNoName, IsNameOr, IsSeed, IsStartOr, IsNoStart, AreOptionsOf}
use Rattle.darwin_options.specs.declared.options.Options.{Options}
use Rattle.darwin_options.specs.declared.options.TheConstants.{DEFAULT_DEPTH, DEFAULT_WEIGHT, DEFAULT_ENTRIES, DEFAULT_LIST, MAX_WORKERS, DEFAULT_WORKERS, MAX_SHARE, DEFAULT_SHARE, MAX_SEED}
use Rattle.darwin_options.proofs.Reading.{different_names, same_option}

pub outside_not : (low high : ℕ) (value : Option Word) → IsOutside low high value → IfSome value (IsNumberWithin low high) → ⊥
outside_not low high None none form = none
outside_not low high (Some word) refused form = refused form

pub no_name_not : (value : Option Word) → IsNoName value → IfSome value IsName → ⊥
no_name_not None none form = none
no_name_not (Some word) refused form = refused form

pub no_start_not : (value : Option Word) → IsNoStart value → IfSome value IsStartWord → ⊥
no_start_not None none form = none
no_start_not (Some word) refused form = refused form

-- the bound of depth is the one that is given, or its default
depth_is : (depth : ℕ) (value : Option Word) → IsNumberOr 1 MAX_DEPTH DEFAULT_DEPTH value depth → depth ≡ depth_or_default value
depth_is depth None is = is
depth_is depth (Some word) is = is.1

-- a depth that is out of the range up to this bound is out of its form
pub too_deep_not : (depth : ℕ) (given from : Option Word) → IsNumberOr 1 MAX_DEPTH DEFAULT_DEPTH given depth → IsOutside 1 depth from → IfSome from (IsNumberWithin 1 (depth_or_default given)) → ⊥
too_deep_not depth given from is refused form =
    outside_not 1 depth from refused (subst (λ (high : ℕ). IfSome from (IsNumberWithin 1 high)) (sym (depth_is depth given is)) form)

pub number_form : (low high default : ℕ) (value : Option Word) (n : ℕ) → IsNumberOr low high default value n → IfSome value (IsNumberWithin low high)
number_form low high default None n is = tt
number_form low high default (Some word) n is = is.0

-- settings in form give values in form
each_in_form : (depth : ℕ) (settings : List Setting) → All (λ s. IsInForm depth s.option s.value) settings → (o : OptionKind) → IfSome (value_of o settings) (IsInForm depth o)
each_in_form depth [] all o = tt
each_in_form depth (s ∷ settings) all o = go (each_in_form depth settings (λ k d lt. all (suc k) d (omega arith)) o) (is_of o s) (same_option s.option o)
  where
    go : IfSome (value_of o settings) (IsInForm depth o) → (b : Bool) → (b ≡ true → s.option ≡ o)
        → IfSome (option_map (λ (t : Setting). t.value) (cond b (Some s) (find (is_of o) settings))) (IsInForm depth o)
    go others true is = subst (λ (x : OptionKind). IsInForm depth x s.value) (is refl) (all 0 s (omega arith))
    go others false is = others

pub all_in_form : (settings : List Setting) → All (λ s. IsInForm (depth_or_default (value_of Depth settings)) s.option s.value) settings → AreInForm (λ o. value_of o settings)
all_in_form settings all = each_in_form (depth_or_default (value_of Depth settings)) settings all

-- among different settings, each is the value of its option
value_at : (settings : List Setting) (k : ℕ) (d : Setting) → AreDifferent settings → k < length settings
    → value_of (slice_index_or settings k d).option settings ≡ Some (slice_index_or settings k d).value
value_at [] k d different lt = absurd (omega arith)
value_at (s ∷ settings) zero d different lt = rw ((bytes_eq-Decides (long_name s.option) (long_name s.option)).1 refl) refl
value_at (s ∷ settings) (suc k) d different lt =
    rw (different_names s.option (slice_index_or settings k d).option (different 0 (suc k) d (omega arith) lt))
    (value_at settings k d (λ i j e below inside. different (suc i) (suc j) e (omega arith) (omega arith)) (omega arith))

pub in_form_all : (settings : List Setting) → AreDifferent settings → AreInForm (λ o. value_of o settings) → All (λ s. IsInForm (depth_or_default (value_of Depth settings)) s.option s.value) settings
in_form_all settings different form k d lt =
    subst (λ (value : Option Word). IfSome value (IsInForm (depth_or_default (value_of Depth settings)) (slice_index_or settings k d).option)) (value_at settings k d different lt) (form (slice_index_or settings k d).option)

name_form : (value : Option Word) (name : Word) → IsNameOr value name → IfSome value IsName
name_form None name is = tt
name_form (Some word) name is = is.0

seed_form : (value : Option Word) (seed : Option ℕ) → IsSeed value seed → IfSome value (IsNumberWithin 0 MAX_SEED)
seed_form None seed is = tt
seed_form (Some word) seed is = is.0

start_form : (value : Option Word) (start : Start) → IsStartOr value start → IfSome value IsStartWord
start_form None start is = tt
start_form (Some word) start is = (start, is)

-- what gives options is in form
pub options_form : (values : OptionKind → Option Word) (options : Options) → AreOptionsOf values options → AreInForm values
options_form values options is Name = name_form (values Name) _ is.name
options_form values options is Depth = number_form 1 MAX_DEPTH DEFAULT_DEPTH (values Depth) _ is.bounds.depth
options_form values options is From =
    subst (λ (high : ℕ). IfSome (values From) (IsNumberWithin 1 high)) (depth_is options.bounds.depth (values Depth) is.bounds.depth)
    (number_form 1 options.bounds.depth options.bounds.depth (values From) _ is.from)
options_form values options is Weight = number_form 1 MAX_WEIGHT DEFAULT_WEIGHT (values Weight) _ is.bounds.weight
options_form values options is Literals = number_form 1 MAX_ENTRIES DEFAULT_ENTRIES (values Literals) _ is.bounds.literals
options_form values options is ListWeight = number_form 1 MAX_LIST DEFAULT_LIST (values ListWeight) _ is.bounds.list
options_form values options is Workers = number_form 1 MAX_WORKERS DEFAULT_WORKERS (values Workers) _ is.workers
options_form values options is Share = number_form 0 MAX_SHARE DEFAULT_SHARE (values Share) _ is.share
options_form values options is StartSign = start_form (values StartSign) options.bounds.start is.bounds.start
options_form values options is Make = seed_form (values Make) _ is.make

-- what holds whatever the error
pub on_any_error : {T E : Type 0} (r : Result T E) (P : Type 0) → P → OnErr r P
on_any_error (Ok x) P p = tt
on_any_error (Err e) P p = p

pub if_any_error : {T E : Type 0} (r : Result T E) (Q : E → Type 0) (P : Type 0) → P → IfErr r (λ e. Q e → P)
if_any_error (Ok x) Q P p = tt
if_any_error (Err e) Q P p = λ q. p
