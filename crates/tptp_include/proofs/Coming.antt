-- What comes of includes, lines and files, put together.
use Rattle.std.proofs.Common.{◌≡◌, ◌<◌, ◌-◌, ℕ, suc, List, [], ◌∷◌, ◌++◌, length, Option, Some, None, Result, Ok, Err, refl, sym, ap, subst, ◌∙◌, inl, inr, arith}
use Rattle.std.specs.Prelude.{IfErr}
use Rattle.std.proofs.lemmas.List.{length-append}
use Rattle.me_terms.specs.Values.{LabelValue}
use Rattle.tptp_lines.specs.Lines.{LineValue, Include, AreLines}
use Rattle.tptp_include.specs.Files.{FileValue, bytes_named}
use Rattle.tptp_include.specs.Flat.{FlatValue, picked}
use Rattle.tptp_include.specs.Outcomes.{Stop, Missing, Outcome, Flat, Stops, Giving, added, unfollowed, unnamed_in, selected_as, selected, LineGives, LinesGive, FileGives, IsOutcome}
use Rattle.tptp_include.specs.Views.{TellsStop, IsFileStop, IsUnnamedStop}
use Rattle.tptp_include.specs.declared.limits.TheConstants.{MAX_CHAIN}
use Rattle.tptp_include.specs.declared.error.FlatError.{FlatError}
use Rattle.tptp_include.specs.declared.error.FlatError.TheVariants as error

pub tells_on : (P Q : Stop → Type 0) → ((why : Stop) → P why → Q why) → (e : FlatError) → TellsStop P e → TellsStop Q e
tells_on P Q f (error.File name why) h = f _ h
tells_on P Q f (error.Missing chain) h = f _ h
tells_on P Q f (error.Cycle chain) h = f _ h
tells_on P Q f (error.Unnamed file label) h = f _ h
tells_on P Q f (error.Limit which) h = f _ h
tells_on P Q f error.Fault h = tt
tells_on P Q f error.Memory h = tt

pub err_on : {A : Type 0} (r : Result A FlatError) (P Q : FlatError → Type 0) → ((e : FlatError) → P e → Q e) → IfErr r P → IfErr r Q
err_on (Ok x) P Q f h = tt
err_on (Err e) P Q f h = f e h

pub on_err : {A : Type 0} (r : Result A FlatError) (P : FlatError → Type 0) (y e : FlatError) → r ≡ Err y → y ≡ e → P e → IfErr r P
on_err {A} r P y e h k p = subst (λ (x : Result A FlatError). IfErr x P) (sym h) (subst P (sym k) p)

-- the room for the names behind one more
room_is : (chain : List (List ℕ)) (file : List ℕ) → length chain < MAX_CHAIN → suc (MAX_CHAIN - length (chain ++ file ∷ [])) ≡ MAX_CHAIN - length chain
room_is chain file lt = omega (arith, lt, length-append chain (file ∷ []))

module _ (files : List FileValue) (chain : List (List ℕ)) (file : List ℕ) (picks : Option (List LabelValue)) (flat : List FlatValue) (count : ℕ) where
  abbrev G : Giving
  G = FileGives (MAX_CHAIN - length chain) files

  -- what an include gives, as a line
  abbrev Gives : Outcome → ℕ → Type 0
  Gives o n = LineGives G chain [] (Include file picks) flat count o n

  pub not_followed : (why : Stop) → unfollowed chain count file ≡ Some why → (n : ℕ) × Gives (Stops why) n
  not_followed why u = (0, (Stops why, inl (why, u, refl), refl))

  -- the include is followed
  pub record Followed (longer : List (List ℕ)) (count' : ℕ) : Type 0 where
    pub none : unfollowed chain count file ≡ None
    pub names : longer ≡ chain ++ file ∷ []
    pub room : length chain < MAX_CHAIN
    pub counted : count' ≡ suc count

  deeper : (longer : List (List ℕ)) (count' : ℕ) (o : Outcome) (n : ℕ) → Followed longer count' → FileGives (suc (MAX_CHAIN - length longer)) files longer file count' o n → G (chain ++ file ∷ []) file (suc count) o n
  deeper longer count' o n f h =
      let one : FileGives (suc (MAX_CHAIN - length (chain ++ file ∷ []))) files (chain ++ file ∷ []) file (suc count) o n =
      subst (λ (x : List (List ℕ)). FileGives (suc (MAX_CHAIN - length x)) files x file (suc count) o n) f.names (subst (λ (x : ℕ). FileGives (suc (MAX_CHAIN - length longer)) files longer file x o n) f.counted h) in
      subst (λ (x : ℕ). FileGives x files (chain ++ file ∷ []) file (suc count) o n) (room_is chain file f.room) one

  pub file_stops : (longer : List (List ℕ)) (count' : ℕ) (why : Stop) → Followed longer count' → (n : ℕ) × FileGives (suc (MAX_CHAIN - length longer)) files longer file count' (Stops why) n → (n : ℕ) × Gives (Stops why) n
  file_stops longer count' why f h = (h.0, (Stops why, inr (Stops why, f.none, deeper longer count' (Stops why) h.0 f h.1, refl), refl))

  pub picks_stop : (longer : List (List ℕ)) (count' n : ℕ) (whole : List FlatValue) (why : Stop) → Followed longer count' → FileGives (suc (MAX_CHAIN - length longer)) files longer file count' (Flat whole) n → IsUnnamedStop file picks whole why → (m : ℕ) × Gives (Stops why) m
  picks_stop longer count' n whole why f h u =
      (n, (Stops why, inr (Flat whole, f.none, deeper longer count' (Flat whole) n f h, ap Stops u.2 ∙ sym (ap (λ (x : Option LabelValue). selected_as x file picks whole) u.1)), refl))

  picked_is : (whole : List FlatValue) → unnamed_in picks whole ≡ None → selected file picks (Flat whole) ≡ Flat (picked picks whole)
  picked_is whole e = ap (λ (x : Option LabelValue). selected_as x file picks whole) e

  pub file_gives : (longer : List (List ℕ)) (count' n : ℕ) (whole : List FlatValue) (o : Outcome) → Followed longer count' → FileGives (suc (MAX_CHAIN - length longer)) files longer file count' (Flat whole) n → unnamed_in picks whole ≡ None → added flat (picked picks whole) ≡ o → Gives o n
  file_gives longer count' n whole o f h e a = (Flat (picked picks whole), inr (Flat whole, f.none, deeper longer count' (Flat whole) n f h, sym (picked_is whole e)), sym a)

-- ---- lines

-- ---- files

pub missing_gives : (room : ℕ) (files : List FileValue) (chain : List (List ℕ)) (name : List ℕ) (count : ℕ) (why : Stop) → (bytes_named files name ≡ None) × (why ≡ Missing chain) → (n : ℕ) × FileGives (suc room) files chain name count (Stops why) n
missing_gives room files chain name count why h = (0, inl (h.0, ap Stops h.1))

pub refused_gives : (room : ℕ) (files : List FileValue) (chain : List (List ℕ)) (name bytes : List ℕ) (count : ℕ) (why : Stop) → bytes_named files name ≡ Some bytes → IsFileStop name bytes why → (n : ℕ) × FileGives (suc room) files chain name count (Stops why) n
refused_gives room files chain name bytes count why b h = (0, inr (bytes, b, inl (h.0, h.1, h.2, ap Stops h.3)))

pub lines_give : (room : ℕ) (files : List FileValue) (chain : List (List ℕ)) (name bytes : List ℕ) (lines : List LineValue) (count n : ℕ) (o : Outcome) → bytes_named files name ≡ Some bytes → AreLines bytes lines → LinesGive (FileGives room files) chain bytes lines [] count o n → FileGives (suc room) files chain name count o n
lines_give room files chain name bytes lines count n o b a h = inr (bytes, b, inr (lines, a, h))

-- the cause of this include
abbrev pub IsIncludeStop : List FileValue → List (List ℕ) → List ℕ → Option (List LabelValue) → List FlatValue → ℕ → Stop → Type 0
IsIncludeStop files chain file picks flat count why = (n : ℕ) × LineGives (FileGives (MAX_CHAIN - length chain) files) chain [] (Include file picks) flat count (Stops why) n

-- the cause of these lines, where these formulas stand before them
abbrev pub IsLinesStop : List FileValue → List (List ℕ) → List ℕ → List LineValue → List FlatValue → ℕ → Stop → Type 0
IsLinesStop files chain bytes lines flat count why = (n : ℕ) × LinesGive (FileGives (MAX_CHAIN - length chain) files) chain bytes lines flat count (Stops why) n

-- the cause of this file
abbrev pub IsFileGivenStop : ℕ → List FileValue → List (List ℕ) → List ℕ → ℕ → Stop → Type 0
IsFileGivenStop room files chain name count why = (n : ℕ) × FileGives (suc room) files chain name count (Stops why) n

-- the first line that is left stops it
pub first_stops : (G : Giving) (chain : List (List ℕ)) (bytes : List ℕ) (line : LineValue) (left lines : List LineValue) (flat : List FlatValue) (count : ℕ) (why : Stop) → left ≡ line ∷ lines → (n : ℕ) × LineGives G chain bytes line flat count (Stops why) n → (n : ℕ) × LinesGive G chain bytes left flat count (Stops why) n
first_stops G chain bytes line left lines flat count why e h = (h.0, subst (λ (x : List LineValue). LinesGive G chain bytes x flat count (Stops why) h.0) (sym e) (inl (why, h.1, refl)))

-- the first line that is left is gone through
pub first_goes : (G : Giving) (chain : List (List ℕ)) (bytes : List ℕ) (line : LineValue) (left lines : List LineValue) (flat more : List FlatValue) (count m : ℕ) (o : Outcome) (n : ℕ) → left ≡ line ∷ lines → LineGives G chain bytes line flat count (Flat more) m → LinesGive G chain bytes lines more m o n → LinesGive G chain bytes left flat count o n
first_goes G chain bytes line left lines flat more count m o n e h k = subst (λ (x : List LineValue). LinesGive G chain bytes x flat count o n) (sym e) (inr (more, m, h, k))

-- the cause of this line
abbrev pub IsLineStop : List FileValue → List (List ℕ) → List ℕ → LineValue → List FlatValue → ℕ → Stop → Type 0
IsLineStop files chain bytes line flat count why = (n : ℕ) × LineGives (FileGives (MAX_CHAIN - length chain) files) chain bytes line flat count (Stops why) n

-- what the main file gives, at the end of a chain of its name alone
pub main_gives : (files : List FileValue) (chain : List (List ℕ)) (main : List ℕ) (o : Outcome) (n : ℕ) → chain ≡ main ∷ [] → FileGives (suc (MAX_CHAIN - length chain)) files chain main 0 o n → IsOutcome files main o
main_gives files chain main o n e h = (n, subst (λ (x : List (List ℕ)). FileGives (suc (MAX_CHAIN - length x)) files x main 0 o n) e h)
