-- There is one outcome of a file, and its formulas are those of the file once it is flat.
use Rattle.std.proofs.Common.{◌≡◌, ◌≢◌, inl, inr, ℕ, zero, suc, Bool, true, false, List, [], ◌∷◌, ◌++◌, length, Option, Some, None, refl, sym, ap, subst, ◌∙◌, append_assoc}
use Rattle.std.proofs.lemmas.List.{append-nil}
use Rattle.std.specs.Prelude.{nat_le, nat_lt}
use Rattle.me_io.specs.declared.source.TheConstants.{MAX_BYTES}
use Rattle.me_terms.specs.Values.{LabelValue}
use Rattle.tptp_grammar.specs.declared.limits.TheConstants.{MAX_FORMULAS}
use Rattle.tptp_grammar.specs.declared.refusal.Refusal.{Refusal}
use Rattle.tptp_grammar.specs.declared.refusal.Refusal.TheVariants as refusal
use Rattle.tptp_cnf.specs.declared.error.CnfError.{CnfError}
use Rattle.tptp_cnf.specs.declared.error.CnfError.TheVariants as error
use Rattle.tptp_lines.specs.Lines.{LineValue, Formula, Include, AreLines}
use Rattle.tptp_lines.specs.LineCauses.{LinesRefusedAt, IsLinesCause}
use Rattle.tptp_lines.proofs.Exact.{one_lines, one_cause, refused_is_no_lines}
use Rattle.tptp_include.specs.Files.{FileValue}
use Rattle.tptp_include.specs.Flat.{FlatValue, text_of, between, picked, AreFlatLines, IsFlat}
use Rattle.tptp_include.specs.Outcomes.{Stop, File, Outcome, Flat, Stops, Giving, added, unnamed_in, selected_as, selected, joined, IncludeGives, LineGives, LinesGive, BytesGive, FileGives, IsOutcome}
use Rattle.tptp_include.specs.declared.limits.TheConstants.{MAX_CHAIN}
use Rattle.tptp_include.proofs.Adding.{chosen}

-- ---- what refuses bytes

-- the bytes are refused at a place, for a cause, and this error tells it
record Refuses (bytes : List ℕ) (e : CnfError) : Type 0 where
  why : Refusal
  at : ℕ
  refused : LinesRefusedAt why at bytes

refuses : (bytes : List ℕ) (e : CnfError) → e ≢ error.Memory → IsLinesCause bytes e → Refuses bytes e
refuses bytes (error.Syntax at) n h = record { why = refusal.Syntax; at = at; refused = h }
refuses bytes (error.Inappropriate w at) n h = record { why = refusal.Inappropriate w; at = at; refused = h }
refuses bytes (error.Limit w at) n h = record { why = refusal.Limit w; at = at; refused = h }
refuses bytes error.Memory n h = absurd (n refl)

not_lines : (bytes : List ℕ) (e : CnfError) (lines : List LineValue) → e ≢ error.Memory → IsLinesCause bytes e → AreLines bytes lines → ⊥
not_lines bytes e lines n h a = let r = refuses bytes e n h in refused_is_no_lines bytes r.why r.at lines r.refused a

inappropriate : (w v : _) → refusal.Inappropriate w ≡ refusal.Inappropriate v → w ≡ v
inappropriate w v e = cc

limit : (w v : _) → refusal.Limit w ≡ refusal.Limit v → w ≡ v
limit w v e = cc

-- one error refuses bytes
one_error : (bytes : List ℕ) (e f : CnfError) → e ≢ error.Memory → f ≢ error.Memory → IsLinesCause bytes e → IsLinesCause bytes f → e ≡ f
one_error bytes error.Memory f n m h k = absurd (n refl)
one_error bytes e error.Memory n m h k = absurd (m refl)
one_error bytes (error.Syntax at) (error.Syntax place) n m h k = let o = one_cause bytes refusal.Syntax refusal.Syntax at place h k in ap (λ (x : ℕ). error.Syntax x) o.1
one_error bytes (error.Syntax at) (error.Inappropriate w place) n m h k = let o = one_cause bytes refusal.Syntax (refusal.Inappropriate w) at place h k in let no = o.0 in absurd cc
one_error bytes (error.Syntax at) (error.Limit w place) n m h k = let o = one_cause bytes refusal.Syntax (refusal.Limit w) at place h k in let no = o.0 in absurd cc
one_error bytes (error.Inappropriate v at) (error.Syntax place) n m h k = let o = one_cause bytes (refusal.Inappropriate v) refusal.Syntax at place h k in let no = o.0 in absurd cc
one_error bytes (error.Inappropriate v at) (error.Inappropriate w place) n m h k =
    let o = one_cause bytes (refusal.Inappropriate v) (refusal.Inappropriate w) at place h k in
    ap (λ x. error.Inappropriate x at) (inappropriate v w o.0) ∙ ap (λ (x : ℕ). error.Inappropriate w x) o.1
one_error bytes (error.Inappropriate v at) (error.Limit w place) n m h k = let o = one_cause bytes (refusal.Inappropriate v) (refusal.Limit w) at place h k in let no = o.0 in absurd cc
one_error bytes (error.Limit v at) (error.Syntax place) n m h k = let o = one_cause bytes (refusal.Limit v) refusal.Syntax at place h k in let no = o.0 in absurd cc
one_error bytes (error.Limit v at) (error.Inappropriate w place) n m h k = let o = one_cause bytes (refusal.Limit v) (refusal.Inappropriate w) at place h k in let no = o.0 in absurd cc
one_error bytes (error.Limit v at) (error.Limit w place) n m h k =
    let o = one_cause bytes (refusal.Limit v) (refusal.Limit w) at place h k in
    ap (λ x. error.Limit x at) (limit v w o.0) ∙ ap (λ (x : ℕ). error.Limit w x) o.1

-- ---- one outcome

-- the outcomes are one, and so are the counts behind formulas
abbrev Settled : Outcome → ℕ → Outcome → ℕ → Type 0
Settled o n p m = (o ≡ p) × ((flat : List FlatValue) → o ≡ Flat flat → n ≡ m)

abbrev One : Giving → Type 0
One G = (chain : List (List ℕ)) (name : List ℕ) (count : ℕ) (o p : Outcome) (n m : ℕ) → G chain name count o n → G chain name count p m → Settled o n p m

stop_no_flat : (why : Stop) (flat : List FlatValue) → Stops why ≡ Flat flat → ⊥
stop_no_flat why flat e = cc

some_is : (v w : Stop) → Some v ≡ Some w → v ≡ w
some_is v w e = cc

none_some : (w : Stop) → None ≡ Some w → ⊥
none_some w e = cc

flat_is : (xs ys : List FlatValue) → Flat xs ≡ Flat ys → xs ≡ ys
flat_is xs ys e = cc

-- only formulas give formulas
selected_from : (file : List ℕ) (picks : Option (List LabelValue)) (found : Outcome) (flat : List FlatValue) → selected file picks found ≡ Flat flat → (whole : List FlatValue) × (found ≡ Flat whole)
selected_from file picks (Stops why) flat e = absurd (stop_no_flat why flat e)
selected_from file picks (Flat whole) flat e = (whole, refl)

joined_from : (so_far : List FlatValue) (found : Outcome) (flat : List FlatValue) → joined so_far found ≡ Flat flat → (new : List FlatValue) × (found ≡ Flat new)
joined_from so_far (Stops why) flat e = absurd (stop_no_flat why flat e)
joined_from so_far (Flat new) flat e = (new, refl)

include_one : (G : Giving) → One G → (chain : List (List ℕ)) (count : ℕ) (file : List ℕ) (picks : Option (List LabelValue)) (o p : Outcome) (n m : ℕ) → IncludeGives G chain count file picks o n → IncludeGives G chain count file picks p m → Settled o n p m
include_one G one chain count file picks o p n m (inl h) (inl k) =
    (h.2 ∙ ap (λ (x : Stop). Stops x) (some_is h.0 k.0 (sym h.1 ∙ k.1)) ∙ sym k.2, λ flat e. absurd (stop_no_flat h.0 flat (sym h.2 ∙ e)))
include_one G one chain count file picks o p n m (inl h) (inr k) = absurd (none_some h.0 (sym k.1 ∙ h.1))
include_one G one chain count file picks o p n m (inr h) (inl k) = absurd (none_some k.0 (sym h.1 ∙ k.1))
include_one G one chain count file picks o p n m (inr h) (inr k) =
    let s = one (chain ++ file ∷ []) file (suc count) h.0 k.0 n m h.2 k.2 in
    (h.3 ∙ ap (selected file picks) s.0 ∙ sym k.3, λ flat e. let f = selected_from file picks h.0 flat (sym h.3 ∙ e) in s.1 f.0 f.1)

line_one : (G : Giving) → One G → (chain : List (List ℕ)) (bytes : List ℕ) (line : LineValue) (so_far : List FlatValue) (count : ℕ) (o p : Outcome) (n m : ℕ) → LineGives G chain bytes line so_far count o n → LineGives G chain bytes line so_far count p m → Settled o n p m
line_one G one chain bytes (Formula label from to) so_far count o p n m h k = (h.0 ∙ sym k.0, λ flat e. h.1 ∙ sym k.1)
line_one G one chain bytes (Include file picks) so_far count o p n m h k =
    let s = include_one G one chain count file picks h.0 k.0 n m h.1 k.1 in
    (h.2 ∙ ap (joined so_far) s.0 ∙ sym k.2, λ flat e. let f = joined_from so_far h.0 flat (sym h.2 ∙ e) in s.1 f.0 f.1)

lines_one : (G : Giving) → One G → (chain : List (List ℕ)) (bytes : List ℕ) (lines : List LineValue) (so_far : List FlatValue) (count : ℕ) (o p : Outcome) (n m : ℕ) → LinesGive G chain bytes lines so_far count o n → LinesGive G chain bytes lines so_far count p m → Settled o n p m
lines_one G one chain bytes [] so_far count o p n m h k = (h.0 ∙ sym k.0, λ flat e. h.1 ∙ sym k.1)
lines_one G one chain bytes (line ∷ lines) so_far count o p n m (inl h) (inl k) =
    let s = line_one G one chain bytes line so_far count (Stops h.0) (Stops k.0) n m h.1 k.1 in
    (h.2 ∙ s.0 ∙ sym k.2, λ flat e. absurd (stop_no_flat h.0 flat (sym h.2 ∙ e)))
lines_one G one chain bytes (line ∷ lines) so_far count o p n m (inl h) (inr k) =
    let s = line_one G one chain bytes line so_far count (Stops h.0) (Flat k.0) n k.1 h.1 k.2 in
    absurd (stop_no_flat h.0 k.0 s.0)
lines_one G one chain bytes (line ∷ lines) so_far count o p n m (inr h) (inl k) =
    let s = line_one G one chain bytes line so_far count (Stops k.0) (Flat h.0) m h.1 k.1 h.2 in
    absurd (stop_no_flat k.0 h.0 s.0)
lines_one G one chain bytes (line ∷ lines) so_far count o p n m (inr h) (inr k) =
    let s = line_one G one chain bytes line so_far count (Flat h.0) (Flat k.0) h.1 k.1 h.2 k.2 in
    let more : h.0 ≡ k.0 = flat_is h.0 k.0 s.0 in
    let same : h.1 ≡ k.1 = s.1 h.0 refl in
    lines_one G one chain bytes lines h.0 h.1 o p n m h.3
    (subst (λ (x : List FlatValue). LinesGive G chain bytes lines x h.1 p m) (sym more) (subst (λ (x : ℕ). LinesGive G chain bytes lines k.0 x p m) (sym same) k.3))

bytes_one : (G : Giving) → One G → (chain : List (List ℕ)) (name bytes : List ℕ) (count : ℕ) (o p : Outcome) (n m : ℕ) → BytesGive G chain name bytes count o n → BytesGive G chain name bytes count p m → Settled o n p m
bytes_one G one chain name bytes count o p n m (inl h) (inl k) =
    (h.3 ∙ ap (λ (x : CnfError). Stops (File name x)) (one_error bytes h.0 k.0 h.1 k.1 h.2 k.2) ∙ sym k.3, λ flat e. absurd (stop_no_flat _ flat (sym h.3 ∙ e)))
bytes_one G one chain name bytes count o p n m (inl h) (inr k) = absurd (not_lines bytes h.0 k.0 h.1 h.2 k.1)
bytes_one G one chain name bytes count o p n m (inr h) (inl k) = absurd (not_lines bytes k.0 h.0 k.1 k.2 h.1)
bytes_one G one chain name bytes count o p n m (inr h) (inr k) =
    let same : h.0 ≡ k.0 = one_lines bytes h.0 k.0 h.1 k.1 in
    lines_one G one chain bytes h.0 [] count o p n m h.2 (subst (λ (x : List LineValue). LinesGive G chain bytes x [] count p m) (sym same) k.2)

bytes_is : (xs ys : List ℕ) → Some xs ≡ Some ys → xs ≡ ys
bytes_is xs ys e = cc

no_bytes : (xs : List ℕ) → None ≡ Some xs → ⊥
no_bytes xs e = cc

files_one : (room : ℕ) (files : List FileValue) → One (FileGives room files)
files_one zero files chain name count o p n m h k = absurd h
files_one (suc room) files chain name count o p n m (inl h) (inl k) = (h.1 ∙ sym k.1, λ flat e. absurd (stop_no_flat _ flat (sym h.1 ∙ e)))
files_one (suc room) files chain name count o p n m (inl h) (inr k) = absurd (no_bytes k.0 (sym h.0 ∙ k.1))
files_one (suc room) files chain name count o p n m (inr h) (inl k) = absurd (no_bytes h.0 (sym k.0 ∙ h.1))
files_one (suc room) files chain name count o p n m (inr h) (inr k) =
    let same : h.0 ≡ k.0 = bytes_is h.0 k.0 (sym h.1 ∙ k.1) in
    bytes_one (FileGives room files) (files_one room files) chain name h.0 count o p n m h.2 (subst (λ (x : List ℕ). BytesGive (FileGives room files) chain name x count p m) (sym same) k.2)

pub one_outcome : (files : List FileValue) (main : List ℕ) (o p : Outcome) → IsOutcome files main o → IsOutcome files main p → o ≡ p
one_outcome files main o p h k = (files_one MAX_CHAIN files (main ∷ []) main 0 o p h.0 k.0 h.1 k.1).0

-- ---- formulas

-- formulas that pass no limit stand behind those before
pub added_is : (so_far fs new : List FlatValue) → added so_far fs ≡ Flat new → new ≡ so_far ++ fs
added_is so_far [] new e = sym (flat_is so_far new e) ∙ sym (append-nil so_far)
added_is so_far (f ∷ fs) new e =
    by (nat_le MAX_FORMULAS (length so_far)) (nat_lt MAX_BYTES (length (text_of (so_far ++ f ∷ [])))) (λ k. added_is (so_far ++ f ∷ []) fs new k) e
  where
    by : (a b : Bool) → (added (so_far ++ f ∷ []) fs ≡ Flat new → new ≡ (so_far ++ f ∷ []) ++ fs) → chosen a b (added (so_far ++ f ∷ []) fs) ≡ Flat new → new ≡ so_far ++ f ∷ fs
    by true b on k = absurd (stop_no_flat _ new k)
    by false true on k = absurd (stop_no_flat _ new k)
    by false false on k = on k ∙ append_assoc so_far (f ∷ []) fs

-- what is flat by the outcomes is so by its meaning
abbrev Means : Giving → (List ℕ → List FlatValue → Type 0) → Type 0
Means G IsFlatFile = (chain : List (List ℕ)) (name : List ℕ) (count n : ℕ) (flat : List FlatValue) → G chain name count (Flat flat) n → IsFlatFile name flat

selected_is : (file : List ℕ) (picks : Option (List LabelValue)) (whole flat : List FlatValue) → selected file picks (Flat whole) ≡ Flat flat → flat ≡ picked picks whole
selected_is file picks whole flat e = by (unnamed_in picks whole) e
  where
    by : (u : Option LabelValue) → selected_as u file picks whole ≡ Flat flat → flat ≡ picked picks whole
    by None k = sym (flat_is (picked picks whole) flat k)
    by (Some label) k = absurd (stop_no_flat _ flat k)

-- the file that is included, and what is picked of it
record Included (IsFlatFile : List ℕ → List FlatValue → Type 0) (file : List ℕ) (picks : Option (List LabelValue)) (flat : List FlatValue) : Type 0 where
  whole : List FlatValue
  is_flat : IsFlatFile file whole
  same : flat ≡ picked picks whole

include_means : (G : Giving) (IsFlatFile : List ℕ → List FlatValue → Type 0) → Means G IsFlatFile → (chain : List (List ℕ)) (count n : ℕ) (file : List ℕ) (picks : Option (List LabelValue)) (found : Outcome) (flat : List FlatValue) → IncludeGives G chain count file picks found n → found ≡ Flat flat
    → Included IsFlatFile file picks flat
include_means G IsFlatFile means chain count n file picks found flat (inl h) e = absurd (stop_no_flat h.0 flat (sym h.2 ∙ e))
include_means G IsFlatFile means chain count n file picks found flat (inr h) e =
    let f = selected_from file picks h.0 flat (sym h.3 ∙ e) in
    record {
      whole = f.0;
      is_flat = means (chain ++ file ∷ []) file (suc count) n f.0 (subst (λ (x : Outcome). G (chain ++ file ∷ []) file (suc count) x n) f.1 h.2);
      same = selected_is file picks f.0 flat (ap (selected file picks) (sym f.1) ∙ sym h.3 ∙ e);
    }

-- formulas of lines, behind those before
record Lined (IsFlatFile : List ℕ → List FlatValue → Type 0) (bytes : List ℕ) (lines : List LineValue) (so_far flat : List FlatValue) : Type 0 where
  rest : List FlatValue
  are : AreFlatLines IsFlatFile bytes lines rest
  same : flat ≡ so_far ++ rest

lines_mean : (G : Giving) (IsFlatFile : List ℕ → List FlatValue → Type 0) → Means G IsFlatFile → (chain : List (List ℕ)) (bytes : List ℕ) (lines : List LineValue) (so_far : List FlatValue) (count n : ℕ) (flat : List FlatValue) → LinesGive G chain bytes lines so_far count (Flat flat) n
    → Lined IsFlatFile bytes lines so_far flat
lines_mean G IsFlatFile means chain bytes [] so_far count n flat h = record { rest = []; are = refl; same = flat_is flat so_far h.0 ∙ sym (append-nil so_far) }
lines_mean G IsFlatFile means chain bytes (line ∷ lines) so_far count n flat (inl h) = absurd (stop_no_flat h.0 flat (sym h.2))
lines_mean G IsFlatFile means chain bytes (Formula label from to ∷ lines) so_far count n flat (inr h) =
    let f : FlatValue = record { label = label; bytes = between bytes from to } in
    let k = lines_mean G IsFlatFile means chain bytes lines h.0 h.1 n flat h.3 in
    record {
      rest = f ∷ k.rest;
      are = (k.rest, refl, k.are);
      same = k.same ∙ ap (λ (x : List FlatValue). x ++ k.rest) (added_is so_far (f ∷ []) h.0 (sym h.2.0)) ∙ append_assoc so_far (f ∷ []) k.rest;
    }
lines_mean G IsFlatFile means chain bytes (Include file picks ∷ lines) so_far count n flat (inr h) =
    let j = joined_from so_far h.2.0 h.0 (sym h.2.2) in
    let i = include_means G IsFlatFile means chain count h.1 file picks h.2.0 j.0 h.2.1 j.1 in
    let more : h.0 ≡ so_far ++ picked picks i.whole = added_is so_far j.0 h.0 (ap (joined so_far) (sym j.1) ∙ sym h.2.2) ∙ ap (λ (x : List FlatValue). so_far ++ x) i.same in
    let k = lines_mean G IsFlatFile means chain bytes lines h.0 h.1 n flat h.3 in
    record {
      rest = picked picks i.whole ++ k.rest;
      are = (i.whole, k.rest, i.is_flat, refl, k.are);
      same = k.same ∙ ap (λ (x : List FlatValue). x ++ k.rest) more ∙ append_assoc so_far (picked picks i.whole) k.rest;
    }

file_means : (room : ℕ) (files : List FileValue) → Means (FileGives room files) (IsFlat room files)
file_means zero files chain name count n flat h = h
file_means (suc room) files chain name count n flat (inl h) = absurd (stop_no_flat _ flat (sym h.1))
file_means (suc room) files chain name count n flat (inr h) = by (file_means room files) h.2
  where
    by : Means (FileGives room files) (IsFlat room files) → BytesGive (FileGives room files) chain name h.0 count (Flat flat) n → IsFlat (suc room) files name flat
    by rest (inl k) = absurd (stop_no_flat _ flat (sym k.3))
    by rest (inr k) =
        let l = lines_mean (FileGives room files) (IsFlat room files) rest chain h.0 k.0 [] count n flat k.2 in
        (h.0, k.0, h.1, k.1, subst (AreFlatLines (IsFlat room files) h.0 k.0) (sym l.same) l.are)

pub outcome_is_flat : (files : List FileValue) (main : List ℕ) (flat : List FlatValue) → IsOutcome files main (Flat flat) → IsFlat MAX_CHAIN files main flat
outcome_is_flat files main flat h = file_means MAX_CHAIN files (main ∷ []) main 0 h.0 flat h.1

-- ---- one flat form

abbrev OneFlat : (List ℕ → List FlatValue → Type 0) → (List ℕ → List FlatValue → Type 0) → Type 0
OneFlat P Q = (name : List ℕ) (xs ys : List FlatValue) → P name xs → Q name ys → xs ≡ ys

lines_flat_one : (P Q : List ℕ → List FlatValue → Type 0) → OneFlat P Q → (bytes : List ℕ) (lines : List LineValue) (xs ys : List FlatValue) → AreFlatLines P bytes lines xs → AreFlatLines Q bytes lines ys → xs ≡ ys
lines_flat_one P Q one bytes [] xs ys h k = h ∙ sym k
lines_flat_one P Q one bytes (Formula label from to ∷ lines) xs ys h k =
    h.1 ∙ ap (λ (x : List FlatValue). record { label = label; bytes = between bytes from to } ∷ x) (lines_flat_one P Q one bytes lines h.0 k.0 h.2 k.2) ∙ sym k.1
lines_flat_one P Q one bytes (Include file picks ∷ lines) xs ys h k =
    h.3 ∙ ap (λ (x : List FlatValue). picked picks x ++ h.1) (one file h.0 k.0 h.2 k.2) ∙ ap (λ (x : List FlatValue). picked picks k.0 ++ x) (lines_flat_one P Q one bytes lines h.1 k.1 h.4 k.4) ∙ sym k.3

pub one_flat : (depth deep : ℕ) (files : List FileValue) → OneFlat (IsFlat depth files) (IsFlat deep files)
one_flat zero deep files name xs ys h k = absurd h
one_flat (suc depth) zero files name xs ys h k = absurd k
one_flat (suc depth) (suc deep) files name xs ys h k =
    let bytes : h.0 ≡ k.0 = bytes_is h.0 k.0 (sym h.2 ∙ k.2) in
    let lines : h.1 ≡ k.1 = one_lines h.0 h.1 k.1 h.3 (subst (λ (x : List ℕ). AreLines x k.1) (sym bytes) k.3) in
    lines_flat_one (IsFlat depth files) (IsFlat deep files) (one_flat depth deep files) h.0 h.1 xs ys h.4
    (subst (λ (x : List LineValue). AreFlatLines (IsFlat deep files) h.0 x ys) (sym lines) (subst (λ (x : List ℕ). AreFlatLines (IsFlat deep files) x k.1 ys) (sym bytes) k.4))
