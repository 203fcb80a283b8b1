-- The parse takes just the words that read as settings, each of another option, and finds their values.
use Rattle.std.proofs.Common.{◌≡◌, ◌≢◌, ◌∙◌, ◌+◌, ◌<◌, ◌||◌, ℕ, Bool, true, false, zero, suc, refl, sym, ap, subst, arith, List, [], ◌∷◌, ◌++◌, map, length, Option, Some, None, true≢false, append_assoc, length-append}
use Rattle.std.specs.List.{list_any, slice_index_or, position_or_len}
use Rattle.std.specs.Str.{bytes_eq}
use Rattle.std.proofs.lemmas.Slice.Eq.{bytes_eq-Decides}
use Rattle.std.proofs.lemmas.List.{map-append, get_or_append_left}
use Rattle.std.proofs.lemmas.List.Quantifiers.{all_pairs_push}
use Rattle.clap.specs.Kinds.{Kinds}
use Rattle.clap.specs.Walk.{Row, has_row, settled_rows}
use Rattle.clap.specs.Faults.{settle_fault, use_fault}
use Rattle.clap.specs.declared.error.kind.ErrorKind.{ErrorKind}
use Rattle.darwin_options.specs.Settings.{OptionKind, Name, Depth, From, Weight, Literals, ListWeight, Workers, Share, StartSign, Make, Word, Setting, long_name, AreDifferent}
use Rattle.darwin_options.specs.OptionsCommand.{all_options}
use Rattle.darwin_options.proofs.Turns.{rules, rule, row, Pending, held, pending_fault, pending_rows, use_again, use_first, used_first}

-- ---- settings of different options

abbrev decoded : Word → OptionKind
decoded name = slice_index_or all_options (position_or_len (λ o. bytes_eq (long_name o) name) all_options) Name

decoded-long_name : (o : OptionKind) → decoded (long_name o) ≡ o
decoded-long_name Name = refl
decoded-long_name Depth = refl
decoded-long_name From = refl
decoded-long_name Weight = refl
decoded-long_name Literals = refl
decoded-long_name ListWeight = refl
decoded-long_name Workers = refl
decoded-long_name Share = refl
decoded-long_name StartSign = refl
decoded-long_name Make = refl

pub same_option : (a b : OptionKind) → bytes_eq (long_name a) (long_name b) ≡ true → a ≡ b
same_option a b e = sym (decoded-long_name a) ∙ ap decoded ((bytes_eq-Decides (long_name a) (long_name b)).0 e) ∙ decoded-long_name b

pub different_names : (a b : OptionKind) → a ≢ b → bytes_eq (long_name a) (long_name b) ≡ false
different_names a b other = go (bytes_eq (long_name a) (long_name b)) (same_option a b)
  where
    go : (x : Bool) → (x ≡ true → a ≡ b) → x ≡ false
    go true same = absurd (other (same refl))
    go false same = refl

abbrev pub rows_for : List Setting → List Row
rows_for = map row

abbrev pub pending_for : Option Setting → Pending
pending_for None = None
pending_for (Some s) = Some (long_name s.option, s.value ∷ [])

-- the settings with the one that is still to be noted
abbrev pub noted : List Setting → Option Setting → List Setting
noted done None = done
noted done (Some s) = done ++ s ∷ []

no_row_of : (s : Setting) (xs : List Setting) → ((k : ℕ) (d : Setting) → k < length xs → (slice_index_or xs k d).option ≢ s.option) → has_row (long_name s.option) (rows_for xs) ≡ false
no_row_of s [] h = refl
no_row_of s (x ∷ xs) h = rw (different_names x.option s.option (h 0 x (omega arith))) (no_row_of s xs (λ k d lt. h (suc k) d (omega arith)))

other_than : (s : Setting) (xs : List Setting) → has_row (long_name s.option) (rows_for xs) ≡ false → (k : ℕ) (d : Setting) → k < length xs → (slice_index_or xs k d).option ≢ s.option
other_than s [] e k d lt = absurd (omega arith)
other_than s (x ∷ xs) e zero d lt = λ same. first (bytes_eq (long_name x.option) (long_name s.option)) e ((bytes_eq-Decides (long_name x.option) (long_name s.option)).1 (ap long_name same))
  where
    first : (b : Bool) → (b || has_row (long_name s.option) (rows_for xs)) ≡ false → b ≡ true → ⊥
    first true h t = true≢false h
    first false h t = true≢false (sym t)
other_than s (x ∷ xs) e (suc k) d lt = other_than s xs (rest (bytes_eq (long_name x.option) (long_name s.option)) e) k d (omega arith)
  where
    rest : (b : Bool) → (b || has_row (long_name s.option) (rows_for xs)) ≡ false → has_row (long_name s.option) (rows_for xs) ≡ false
    rest true h = absurd (true≢false h)
    rest false h = h

seam : (xs : List Setting) (s d : Setting) (ys : List Setting) → slice_index_or (xs ++ s ∷ ys) (length xs) d ≡ s
seam [] s d ys = refl
seam (x ∷ xs) s d ys = seam xs s d ys

-- where a setting stands among different ones, those before it are of other options
pub new_here : (xs : List Setting) (s : Setting) (ys : List Setting) → AreDifferent (xs ++ s ∷ ys) → has_row (long_name s.option) (rows_for xs) ≡ false
new_here xs s ys different = no_row_of s xs (λ k d lt same.
    let all : length (xs ++ s ∷ ys) ≡ length xs + length (s ∷ ys) = length-append xs (s ∷ ys) in
    different k (length xs) d lt (omega (arith, all))
    (ap (λ (t : Setting). t.option) (get_or_append_left xs (s ∷ ys) d k lt) ∙ same ∙ ap (λ (t : Setting). t.option) (sym (seam xs s d ys))))

pub one_more : (xs : List Setting) (s : Setting) → AreDifferent xs → has_row (long_name s.option) (rows_for xs) ≡ false → AreDifferent (xs ++ s ∷ [])
one_more xs s different e = all_pairs_push (λ first later. first.option ≢ later.option) xs s different (other_than s xs e)

-- ---- an option that is still to be noted

pub settled_well : (done : List Setting) (last : Option Setting) (rest : List Setting) → AreDifferent (noted done last ++ rest)
    → (settle_fault rules false (held (rows_for done) (pending_for last)) ≡ []) × (settled_rows rules (pending_for last) (rows_for done) ≡ rows_for (noted done last))
settled_well done None rest different = (refl, refl)
settled_well done (Some s) rest different =
    let new = new_here done s rest (subst AreDifferent (append_assoc done (s ∷ []) rest) different) in (
      pending_fault s.option s.value (rows_for done) ∙ use_first s.option s.value (rows_for done) new,
      pending_rows s.option s.value (rows_for done) ∙ used_first s.option s.value (rows_for done) new ∙ sym (map-append row done (s ∷ [])),
    )

pub some_kind : (k : ErrorKind) (ks : Kinds) → k ∷ ks ≡ [] → ⊥
some_kind k ks e = true≢false (ap (λ (xs : Kinds). list_any (λ _. true) xs) e)

-- a use that does not fail is the first
pub used_newly : (o : OptionKind) (v : Word) (rows : List Row) → use_fault false (rule o) (v ∷ []) rows ≡ [] → has_row (long_name o) rows ≡ false
used_newly o v rows none = go (has_row (long_name o) rows) refl
  where
    go : (b : Bool) → has_row (long_name o) rows ≡ b → has_row (long_name o) rows ≡ false
    go true e = absurd (some_kind _ _ (sym (use_again o v rows e) ∙ none))
    go false e = e

pub settled_back : (done : List Setting) (last : Option Setting) → AreDifferent done → settle_fault rules false (held (rows_for done) (pending_for last)) ≡ []
    → AreDifferent (noted done last) × (settled_rows rules (pending_for last) (rows_for done) ≡ rows_for (noted done last))
settled_back done None different none = (different, refl)
settled_back done (Some s) different none =
    let new = used_newly s.option s.value (rows_for done) (sym (pending_fault s.option s.value (rows_for done)) ∙ none) in (
      one_more done s different new,
      pending_rows s.option s.value (rows_for done) ∙ used_first s.option s.value (rows_for done) new ∙ sym (map-append row done (s ∷ [])),
    )
