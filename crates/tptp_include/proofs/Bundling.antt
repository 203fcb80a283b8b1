-- The lines of a bundle, one after another.
use Rattle.std.proofs.Common.{◌≡◌, ◌≢◌, ◌⊎◌, inl, inr, ◌≤◌, ◌<◌, ℕ, suc, ◌+◌, ◌-◌, Bool, true, false, not, List, [], ◌∷◌, ◌++◌, length, map, take, drop, filter, Option, Some, None, Bor, refl, sym, ap, subst, ◌∙◌, append_assoc, take-append-drop, true≢false, arith}
use Rattle.std.proofs.lemmas.List.{append-nil, map-append, length-append}
use Rattle.std.specs.Prelude.{if◌then◌else◌, ◌||◌, ◌==◌, MatchOption}
use Rattle.std.specs.List.{list_any, flat_map, AllByRecursion}
use Rattle.std.specs.Str.{bytes_eq}
use Rattle.std.proofs.lemmas.Grind.{flat_map-append}
use Rattle.std.proofs.lemmas.Bool.Decides.{nat_tests}
use Rattle.std.proofs.lemmas.Slice.Eq.{bytes_eq-Decides}
use Rattle.me_io.specs.declared.source.TheConstants.{MAX_BYTES}
use Rattle.tptp_include.specs.Files.{FileValue, AreSmall}
use Rattle.tptp_include.specs.Bundles.{is_feed, onto, lines_of, text_in, mark, is_marked, is_mark, name_in, is_file_name, names_in, is_none, breaks, KeepRules, unmarked, files_of, IsBundle, BreaksAt}
use Rattle.tptp_include.specs.BundleViews.{IsSplit, BeginsFile, IsBody, IsFirstFile, BeginsNoFile}

-- ---- the first line

pub no_items : (xs : List ℕ) → length xs < 1 → xs ≡ []
no_items [] h = refl
no_items (x ∷ xs) h = absurd (omega (arith, h))

pub none_left : (xs : List ℕ) (b : Bool) → b ≡ (length xs == 0) → b ≡ true → xs ≡ []
none_left [] b e t = refl
none_left (x ∷ xs) b e t = let none : length (x ∷ xs) ≡ 0 = grind (arith, nat_tests, sym e ∙ t) in absurd (omega (arith, none))

pub some_left : (xs : List ℕ) (b : Bool) → b ≡ (length xs == 0) → b ≡ false → xs ≢ []
some_left [] b e f k = true≢false (sym e ∙ f)
some_left (x ∷ xs) b e f k = cc

take_whole : (xs : List ℕ) → take (length xs) xs ≡ xs
take_whole [] = refl
take_whole (x ∷ xs) = ap (λ (ys : List ℕ). x ∷ ys) (take_whole xs)

-- the first byte, and the others
pub record FirstByte (bytes : List ℕ) : Type 0 where
  pub byte : ℕ
  pub others : List ℕ
  pub same : bytes ≡ byte ∷ others
  pub behind : take (length bytes - 1) (drop 1 bytes) ≡ others

pub first_byte : (bytes : List ℕ) → 1 ≤ length bytes → FirstByte bytes
first_byte [] h = absurd (omega (arith, h))
first_byte (x ∷ xs) h = record { byte = x; others = xs; same = refl; behind = ap (λ (n : ℕ). take n xs) (omega arith) ∙ take_whole xs }

-- what stands behind the text of the first line
abbrev behind_text : List ℕ → List ℕ
behind_text [] = []
behind_text (b ∷ bs) = if is_feed b then b ∷ bs else behind_text bs

pub text_drop : (bytes : List ℕ) → drop (length (text_in bytes)) bytes ≡ behind_text bytes
text_drop [] = refl
text_drop (b ∷ bs) = by (is_feed b) (text_drop bs)
  where
    by : (f : Bool) → drop (length (text_in bs)) bs ≡ behind_text bs → drop (length (if f then [] else b ∷ text_in bs)) (b ∷ bs) ≡ (if f then b ∷ bs else behind_text bs)
    by true h = refl
    by false h = h

pub text_take : (bytes : List ℕ) → take (length (text_in bytes)) bytes ≡ text_in bytes
text_take [] = refl
text_take (b ∷ bs) = by (is_feed b) (text_take bs)
  where
    by : (f : Bool) → take (length (text_in bs)) bs ≡ text_in bs → take (length (if f then [] else b ∷ text_in bs)) (b ∷ bs) ≡ (if f then [] else b ∷ text_in bs)
    by true h = refl
    by false h = ap (λ (x : List ℕ). b ∷ x) h

pub text_short : (bytes : List ℕ) → length (text_in bytes) ≤ length bytes
text_short [] = omega arith
text_short (b ∷ bs) = by (is_feed b) (text_short bs)
  where
    by : (f : Bool) → length (text_in bs) ≤ length bs → length (if f then [] else b ∷ text_in bs) ≤ suc (length bs)
    by true h = omega arith
    by false h = omega (arith, h)

-- the text goes on with a byte that is no line feed, and ends at one
pub text_goes : (byte : ℕ) (bytes : List ℕ) → is_feed byte ≡ false → length (text_in (byte ∷ bytes)) ≡ suc (length (text_in bytes))
text_goes byte bytes e = ap (λ (f : Bool). length (if f then [] else byte ∷ text_in bytes)) e

pub text_stops : (byte : ℕ) (bytes : List ℕ) → is_feed byte ≡ true → length (text_in (byte ∷ bytes)) ≡ 0
text_stops byte bytes e = ap (λ (f : Bool). length (if f then [] else byte ∷ text_in bytes)) e

-- the first line with its line feed, and what comes behind it
record FirstLine (bytes behind : List ℕ) : Type 0 where
  line : List ℕ
  lines : lines_of bytes ≡ line ∷ lines_of behind
  same : bytes ≡ line ++ behind
  text : text_in bytes ≡ text_in line
  shorter : length behind < length bytes

first_last : (b : ℕ) → is_feed b ≡ false → FirstLine (b ∷ []) []
first_last b e = record {
  line = b ∷ [];
  lines = ap (λ (f : Bool). if f then (b ∷ []) ∷ [] else onto b []) e;
  same = refl;
  text = refl;
  shorter = omega arith;
}

-- a byte that is no line feed at the front
first_more : (b : ℕ) (bytes behind : List ℕ) → is_feed b ≡ false → FirstLine bytes behind → FirstLine (b ∷ bytes) behind
first_more b bytes behind e h = record {
  line = b ∷ h.line;
  lines = ap (λ (f : Bool). if f then (b ∷ []) ∷ lines_of bytes else onto b (lines_of bytes)) e ∙ ap (onto b) h.lines;
  same = ap (λ (x : List ℕ). b ∷ x) h.same;
  text = ap (λ (x : List ℕ). if is_feed b then [] else b ∷ x) h.text;
  shorter = omega (arith, h.shorter);
}

first_feed : (b : ℕ) (bytes : List ℕ) → is_feed b ≡ true → FirstLine (b ∷ bytes) bytes
first_feed b bytes e = record {
  line = b ∷ [];
  lines = ap (λ (f : Bool). if f then (b ∷ []) ∷ lines_of bytes else onto b (lines_of bytes)) e;
  same = refl;
  text = ap (λ (f : Bool). if f then [] else b ∷ text_in bytes) e ∙ sym (ap (λ (f : Bool). if f then [] else b ∷ []) e);
  shorter = omega arith;
}

ended : (b : ℕ) (bs : List ℕ) → is_feed b ≡ false → (bs ≢ [] → FirstLine bs []) → FirstLine (b ∷ bs) []
ended b [] e h = first_last b e
ended b (c ∷ cs) e h = first_more b (c ∷ cs) [] e (h (λ k. cc))

line_ends : (bytes : List ℕ) → bytes ≢ [] → behind_text bytes ≡ [] → FirstLine bytes []
line_ends [] n e = absurd (n refl)
line_ends (b ∷ bs) n e = by (λ k m. line_ends bs k m) (is_feed b) refl e
  where
    by : (bs ≢ [] → behind_text bs ≡ [] → FirstLine bs []) → (f : Bool) → is_feed b ≡ f → (if f then b ∷ bs else behind_text bs) ≡ [] → FirstLine (b ∷ bs) []
    by h true k m = absurd cc
    by h false k m = ended b bs k (λ n. h n m)

line_feeds : (bytes : List ℕ) (x : ℕ) (rest : List ℕ) → behind_text bytes ≡ x ∷ rest → FirstLine bytes rest
line_feeds [] x rest e = absurd cc
line_feeds (b ∷ bs) x rest e = by (λ m. line_feeds bs x rest m) (is_feed b) refl e
  where
    by : (behind_text bs ≡ x ∷ rest → FirstLine bs rest) → (f : Bool) → is_feed b ≡ f → (if f then b ∷ bs else behind_text bs) ≡ x ∷ rest → FirstLine (b ∷ bs) rest
    by h true k m = let same : bs ≡ rest = cc in subst (FirstLine (b ∷ bs)) same (first_feed b bs k)
    by h false k m = first_more b bs rest k (h m)

split_of : (bytes behind : List ℕ) → FirstLine bytes behind → IsSplit bytes (text_in bytes) behind
split_of bytes behind h = record { line = h.line; lines = h.lines; same = h.same; text_is = h.text; shorter = h.shorter }

pub split_end : (bytes text behind : List ℕ) → bytes ≢ [] → text ≡ take (length (text_in bytes)) bytes → drop (length (text_in bytes)) bytes ≡ [] → behind ≡ [] → IsSplit bytes text behind
split_end bytes text behind n t d e =
    subst (λ (x : List ℕ). IsSplit bytes x behind) (sym (t ∙ text_take bytes)) (subst (IsSplit bytes (text_in bytes)) (sym e) (split_of bytes [] (line_ends bytes n (sym (text_drop bytes) ∙ d))))

pub split_feed : (bytes text : List ℕ) (x : ℕ) (rest : List ℕ) → text ≡ take (length (text_in bytes)) bytes → drop (length (text_in bytes)) bytes ≡ x ∷ rest → IsSplit bytes text rest
split_feed bytes text x rest t d = subst (λ (y : List ℕ). IsSplit bytes y rest) (sym (t ∙ text_take bytes)) (split_of bytes rest (line_feeds bytes x rest (sym (text_drop bytes) ∙ d)))

-- ---- the mark

pub mark_front : (text rest : List ℕ) → text ≡ mark ++ rest → is_marked text ≡ true
mark_front text rest e = ap is_marked e

pub no_mark : (text : List ℕ) → ((rest : List ℕ) → text ≢ mark ++ rest) → is_marked text ≡ false
no_mark text n = by (is_marked text) refl
  where
    by : (f : Bool) → is_marked text ≡ f → is_marked text ≡ false
    by true e = absurd (n (drop (length mark) text) (sym (take-append-drop (length mark) text) ∙ ap (λ (x : List ℕ). x ++ drop (length mark) text) ((bytes_eq-Decides (take (length mark) text) mark).0 e)))
    by false e = e

-- what is behind the mark, if a text begins with it
pub behind_mark : (text : List ℕ) (r : Option (Bor (List ℕ))) → MatchOption r ((rest : List ℕ) → text ≢ mark ++ rest) (λ x. text ≡ mark ++ x.now) → MatchOption r (is_marked text ≡ false) (λ x. (is_marked text ≡ true) × (x.now ≡ drop (length mark) text))
behind_mark text None h = no_mark text h
behind_mark text (Some x) h = (mark_front text x.now h, sym (ap (drop (length mark)) h))

-- ---- lines that begin no file

abbrev AreUnmarked : List (List ℕ) → Type 0
AreUnmarked lines = AllByRecursion (λ line. is_mark line ≡ false) lines

unmarked_push : (lines : List (List ℕ)) (line : List ℕ) → AreUnmarked lines → is_mark line ≡ false → AreUnmarked (lines ++ line ∷ [])
unmarked_push [] line h e = (e, tt)
unmarked_push (l ∷ lines) line h e = (h.0, unmarked_push lines line h.1 e)

-- so many lines that begin no file were passed
pub record Passed (bytes left : List ℕ) (count : ℕ) : Type 0 where
  pub body : List (List ℕ)
  pub lines : lines_of bytes ≡ body ++ lines_of left
  pub same : bytes ≡ flat_map (λ line. line) body ++ left
  pub none : AllByRecursion (λ line. is_mark line ≡ false) body
  pub long : count ≡ length body
  pub few : count + length left ≤ length bytes

pub passed_none : (bytes left : List ℕ) (count : ℕ) → left ≡ bytes → count ≡ 0 → Passed bytes left count
passed_none bytes left count e k =
    subst (λ (x : List ℕ). Passed bytes x count) (sym e) (record { body = []; lines = refl; same = refl; none = tt; long = k; few = omega (arith, k) })

pub passed_more : (bytes left : List ℕ) (count : ℕ) (text behind : List ℕ) (count' : ℕ) → Passed bytes left count → IsSplit left text behind → is_marked text ≡ false → count' ≡ count + 1 → Passed bytes behind count'
passed_more bytes left count text behind count' h s e k = record {
  body = h.body ++ s.line ∷ [];
  lines = h.lines ∙ ap (λ (x : List (List ℕ)). h.body ++ x) s.lines ∙ sym (append_assoc h.body (s.line ∷ []) (lines_of behind));
  same = h.same ∙ ap (λ (x : List ℕ). flat_map (λ line. line) h.body ++ x) s.same
      ∙ sym (append_assoc (flat_map (λ line. line) h.body) s.line behind)
      ∙ ap (λ (x : List ℕ). (flat_map (λ line. line) h.body ++ x) ++ behind) (sym (append-nil s.line))
      ∙ ap (λ (x : List ℕ). x ++ behind) (sym (flat_map-append (λ line. line) h.body (s.line ∷ [])));
  none = unmarked_push h.body s.line h.none (ap is_marked (sym s.text_is) ∙ e);
  long = omega (arith, k, h.long, length-append h.body (s.line ∷ []));
  few = omega (arith, k, h.few, s.shorter);
}

pub body_marked : (bytes left : List ℕ) (count : ℕ) (text behind : List ℕ) → Passed bytes left count → IsSplit left text behind → is_marked text ≡ true → IsBody bytes left count
body_marked bytes left count text behind h s e = record {
  body = h.body;
  lines = h.lines;
  same = h.same;
  none = h.none;
  next = subst BeginsFile (sym s.lines) (ap is_marked (sym s.text_is) ∙ e);
  long = h.long;
  few = h.few;
}

pub body_end : (bytes left : List ℕ) (count : ℕ) → Passed bytes left count → left ≡ [] → IsBody bytes left count
body_end bytes left count h e = record { body = h.body; lines = h.lines; same = h.same; none = h.none; next = subst (λ (x : List ℕ). BeginsFile (lines_of x)) (sym e) tt; long = h.long; few = h.few }

-- ---- rules

-- no line of these breaks the rules behind those
abbrev KeepBehind : List (List ℕ) → List (List ℕ) → Type 0
KeepBehind before [] = Unit {0}
KeepBehind before (line ∷ lines) = (breaks before line ≡ false) × KeepBehind (before ++ line ∷ []) lines

keep_append : (before xs ys : List (List ℕ)) → KeepBehind before xs → KeepBehind (before ++ xs) ys → KeepBehind before (xs ++ ys)
keep_append before [] ys h k = subst (λ (x : List (List ℕ)). KeepBehind x ys) (append-nil before) k
keep_append before (x ∷ xs) ys h k = (h.0, keep_append (before ++ x ∷ []) xs ys h.1 (subst (λ (z : List (List ℕ)). KeepBehind z ys) (sym (append_assoc before (x ∷ []) xs)) k))

none_push : (lines : List (List ℕ)) (line : List ℕ) → is_none (lines ++ line ∷ []) ≡ false
none_push [] line = refl
none_push (l ∷ lines) line = refl

-- whether a line that begins a file breaks a rule
abbrev misnames : List (List ℕ) → List ℕ → Bool
misnames before line = not (is_file_name (name_in line)) || list_any (bytes_eq (name_in line)) (names_in before)

by_mark : (before : List (List ℕ)) (line : List ℕ) (f : Bool) → is_mark line ≡ f → breaks before line ≡ (if f then misnames before line else is_none before)
by_mark before line f e = ap (λ (x : Bool). if x then misnames before line else is_none before) e

by_name : (before : List (List ℕ)) (line : List ℕ) (f : Bool) → is_file_name (name_in line) ≡ f → misnames before line ≡ (not f || list_any (bytes_eq (name_in line)) (names_in before))
by_name before line f e = ap (λ (x : Bool). not x || list_any (bytes_eq (name_in line)) (names_in before)) e

-- lines that begin no file break no rule, where they are not the first ones
body_keeps : (before body : List (List ℕ)) → is_none before ≡ false → AreUnmarked body → KeepBehind before body
body_keeps before [] n h = tt
body_keeps before (line ∷ body) n h = (by_mark before line false h.0 ∙ n, body_keeps (before ++ line ∷ []) body (none_push before line) h.1)

keep_at : (done before : List (List ℕ)) (line : List ℕ) (after : List (List ℕ)) → KeepBehind done (before ++ line ∷ after) → breaks (done ++ before) line ≡ false
keep_at done [] line after h = ap (λ (x : List (List ℕ)). breaks x line) (append-nil done) ∙ h.0
keep_at done (x ∷ before) line after h = ap (λ (z : List (List ℕ)). breaks z line) (sym (append_assoc done (x ∷ []) before)) ∙ keep_at (done ++ x ∷ []) before line after h.1

keeps : (lines : List (List ℕ)) → KeepBehind [] lines → KeepRules lines
keeps lines h = λ before after line e. keep_at [] before line after (subst (KeepBehind []) e h)

-- ---- names and files

names_body : (body : List (List ℕ)) → AreUnmarked body → names_in body ≡ []
names_body [] h = refl
names_body (line ∷ body) h = ap (λ (f : Bool). map name_in (if f then line ∷ filter is_mark body else filter is_mark body)) h.0 ∙ names_body body h.1

names_append : (xs ys : List (List ℕ)) → names_in (xs ++ ys) ≡ names_in xs ++ names_in ys
names_append [] ys = refl
names_append (x ∷ xs) ys = by (is_mark x) (names_append xs ys)
  where
    by : (f : Bool) → map name_in (filter is_mark (xs ++ ys)) ≡ names_in xs ++ names_in ys
        → map name_in (if f then x ∷ filter is_mark (xs ++ ys) else filter is_mark (xs ++ ys)) ≡ map name_in (if f then x ∷ filter is_mark xs else filter is_mark xs) ++ names_in ys
    by true h = ap (λ (z : List (List ℕ)). name_in x ∷ z) h
    by false h = h

names_head : (line : List ℕ) (body : List (List ℕ)) → is_mark line ≡ true → AreUnmarked body → names_in (line ∷ body) ≡ name_in line ∷ []
names_head line body e h = ap (λ (f : Bool). map name_in (if f then line ∷ filter is_mark body else filter is_mark body)) e ∙ ap (λ (x : List (List ℕ)). name_in line ∷ x) (names_body body h)

unmarked_front : (body rest : List (List ℕ)) → AreUnmarked body → BeginsFile rest → unmarked (body ++ rest) ≡ body
unmarked_front [] [] h b = refl
unmarked_front [] (line ∷ rest) h b = ap (λ (f : Bool). if f then [] else line ∷ unmarked rest) b
unmarked_front (line ∷ body) rest h b = ap (λ (f : Bool). if f then [] else line ∷ unmarked (body ++ rest)) h.0 ∙ ap (λ (x : List (List ℕ)). line ∷ x) (unmarked_front body rest h.1 b)

abbrev file_at : List ℕ → List (List ℕ) → FileValue
file_at line body = record { name = name_in line; bytes = flat_map (λ l. l) body }

files_behind : (body rest : List (List ℕ)) → AreUnmarked body → files_of (body ++ rest) ≡ files_of rest
files_behind [] rest h = refl
files_behind (line ∷ body) rest h =
    ap (λ (f : Bool). if f then file_at line (unmarked (body ++ rest)) ∷ files_of (body ++ rest) else files_of (body ++ rest)) h.0 ∙ files_behind body rest h.1

files_head : (line : List ℕ) (body rest : List (List ℕ)) → is_mark line ≡ true → AreUnmarked body → BeginsFile rest → files_of (line ∷ (body ++ rest)) ≡ file_at line body ∷ files_of rest
files_head line body rest e h b =
    ap (λ (f : Bool). if f then file_at line (unmarked (body ++ rest)) ∷ files_of (body ++ rest) else files_of (body ++ rest)) e
    ∙ ap (λ (x : List (List ℕ)). file_at line x ∷ files_of (body ++ rest)) (unmarked_front body rest h b)
    ∙ ap (λ (x : List FileValue). file_at line body ∷ x) (files_behind body rest h)

-- ---- what is read of a bundle

-- these lines were read, and are those of these files; what is left begins with the line of this number
pub record ReadFiles (bytes left : List ℕ) (number : ℕ) (files : List FileValue) : Type 0 where
  pub some : bytes ≢ []
  pub more : left ≢ []
  pub done : List (List ℕ)
  pub lines : lines_of bytes ≡ done ++ lines_of left
  pub place : number ≡ suc (length done)
  pub kept : KeepBehind [] done
  pub names : names_in done ≡ map (λ f. f.name) files
  pub same : files_of (lines_of bytes) ≡ files ++ files_of (lines_of left)
  pub next : (done ≡ []) ⊎ BeginsFile (lines_of left)
  pub few : length done + length left ≤ length bytes
  pub small : AreSmall files

pub read_none : (bytes left : List ℕ) (number : ℕ) (files : List FileValue) → bytes ≢ [] → left ≡ bytes → number ≡ 1 → files ≡ [] → ReadFiles bytes left number files
read_none bytes left number files n e k f =
    subst (λ (x : List ℕ). ReadFiles bytes x number files) (sym e) (subst (ReadFiles bytes bytes number) (sym f) (record {
      some = n;
      more = n;
      done = [];
      lines = refl;
      place = k;
      kept = tt;
      names = refl;
      same = refl;
      next = inl refl;
      few = omega arith;
      small = tt;
    }))

small_push : (files : List FileValue) (file : FileValue) → AreSmall files → length file.bytes ≤ MAX_BYTES → AreSmall (files ++ file ∷ [])
small_push [] file h le = (le, tt)
small_push (f ∷ files) file h le = (h.0, small_push files file h.1 le)

-- ---- the line that comes next breaks a rule

broken_line : (bytes left text behind : List ℕ) (number : ℕ) (files : List FileValue) (h : ReadFiles bytes left number files) (s : IsSplit left text behind) → breaks h.done s.line ≡ true → BreaksAt bytes number
broken_line bytes left text behind number files h s b = inr (record {
  before = h.done;
  line = s.line;
  after = lines_of behind;
  lines = h.lines ∙ ap (λ (x : List (List ℕ)). h.done ++ x) s.lines;
  kept = keeps h.done h.kept;
  broken = b;
  place = h.place;
})

unmarked_line : (bytes left text behind : List ℕ) (number : ℕ) (files : List FileValue) → ReadFiles bytes left number files → IsSplit left text behind → is_marked text ≡ false → BreaksAt bytes number
unmarked_line bytes left text behind number files h s e = broken_line bytes left text behind number files h s (by_mark h.done s.line false off ∙ none h.next)
  where
    off : is_mark s.line ≡ false
    off = ap is_marked (sym s.text_is) ∙ e

    none : (h.done ≡ []) ⊎ BeginsFile (lines_of left) → is_none h.done ≡ true
    none (inl k) = ap is_none k
    none (inr k) = absurd (true≢false (sym (subst BeginsFile s.lines k) ∙ off))

misnamed_line : (bytes left text behind : List ℕ) (number : ℕ) (files : List FileValue) → ReadFiles bytes left number files → IsSplit left text behind → is_marked text ≡ true → is_file_name (drop (length mark) text) ≡ false → BreaksAt bytes number
misnamed_line bytes left text behind number files h s e n =
    broken_line bytes left text behind number files h s
    (by_mark h.done s.line true (ap is_marked (sym s.text_is) ∙ e) ∙ by_name h.done s.line false (ap (λ (x : List ℕ). is_file_name (drop (length mark) x)) (sym s.text_is) ∙ n))

pub no_file : (bytes left : List ℕ) (number : ℕ) (files : List FileValue) → ReadFiles bytes left number files → BeginsNoFile left → BreaksAt bytes number
no_file bytes left number files h b = by b.none
  where
    by : (is_marked b.text ≡ false) ⊎ ((is_marked b.text ≡ true) × (is_file_name (drop (length mark) b.text) ≡ false)) → BreaksAt bytes number
    by (inl e) = unmarked_line bytes left b.text b.behind number files h b.split e
    by (inr e) = misnamed_line bytes left b.text b.behind number files h b.split e.0 e.1

pub repeated_line : (bytes left : List ℕ) (number : ℕ) (files : List FileValue) (name contents next : List ℕ) (lines : ℕ) → ReadFiles bytes left number files → IsFirstFile left name contents next lines → list_any (bytes_eq name) (map (λ f. f.name) files) ≡ true → BreaksAt bytes number
repeated_line bytes left number files name contents next lines h f k =
    let same : name_in f.split.line ≡ name = ap (drop (length mark)) (sym f.split.text_is) ∙ sym f.name_is in
    broken_line bytes left f.text f.behind number files h f.split
    (by_mark h.done f.split.line true (ap is_marked (sym f.split.text_is) ∙ f.marked) ∙ by_name h.done f.split.line true (ap is_file_name same ∙ f.named)
    ∙ ap (λ (x : List ℕ). list_any (bytes_eq x) (names_in h.done)) same ∙ ap (list_any (bytes_eq name)) h.names ∙ k)

-- ---- a file is read

take_front : (xs ys : List ℕ) → take (length (xs ++ ys) - length ys) (xs ++ ys) ≡ xs
take_front xs ys = ap (λ (n : ℕ). take n (xs ++ ys)) (omega (arith, length-append xs ys)) ∙ front xs
  where
    front : (zs : List ℕ) → take (length zs) (zs ++ ys) ≡ zs
    front [] = refl
    front (z ∷ zs) = ap (λ (x : List ℕ). z ∷ x) (front zs)

module _ (bytes left : List ℕ) (number : ℕ) (files : List FileValue) (name contents next : List ℕ) (lines : ℕ) (le : length bytes ≤ MAX_BYTES) (h : ReadFiles bytes left number files) (f : IsFirstFile left name contents next lines) (new : list_any (bytes_eq name) (map (λ f. f.name) files) ≡ false) where
  abbrev line : List ℕ
  line = f.split.line

  abbrev body : List (List ℕ)
  body = f.body.body

  abbrev file : FileValue
  file = record { name = name; bytes = contents }

  abbrev done' : List (List ℕ)
  done' = h.done ++ line ∷ body

  mark_is : is_mark line ≡ true
  mark_is = ap is_marked (sym f.split.text_is) ∙ f.marked

  name_same : name_in line ≡ name
  name_same = ap (drop (length mark)) (sym f.split.text_is) ∙ sym f.name_is

  contents_same : contents ≡ flat_map (λ l. l) body
  contents_same = f.contents_are ∙ ap (λ (x : List ℕ). take (length x - length next) x) f.body.same ∙ take_front (flat_map (λ l. l) body) next

  file_same : file_at line body ≡ file
  file_same = ap (λ (x : List ℕ). record { name = x; bytes = flat_map (λ l. l) body }) name_same ∙ ap (λ (x : List ℕ). record { name = name; bytes = x }) (sym contents_same)

  lines_left : lines_of left ≡ line ∷ (body ++ lines_of next)
  lines_left = f.split.lines ∙ ap (λ (x : List (List ℕ)). line ∷ x) f.body.lines

  lines_all : lines_of bytes ≡ done' ++ lines_of next
  lines_all = h.lines ∙ ap (λ (x : List (List ℕ)). h.done ++ x) lines_left ∙ sym (append_assoc h.done (line ∷ body) (lines_of next))

  files_all : files_of (lines_of bytes) ≡ (files ++ file ∷ []) ++ files_of (lines_of next)
  files_all =
      h.same ∙ ap (λ (x : List (List ℕ)). files ++ files_of x) lines_left
      ∙ ap (λ (x : List FileValue). files ++ x) (files_head line body (lines_of next) mark_is f.body.none f.body.next)
      ∙ ap (λ (x : FileValue). files ++ x ∷ files_of (lines_of next)) file_same
      ∙ sym (append_assoc files (file ∷ []) (files_of (lines_of next)))

  keeps_line : breaks h.done line ≡ false
  keeps_line =
      by_mark h.done line true mark_is ∙ by_name h.done line true (ap is_file_name name_same ∙ f.named)
      ∙ ap (λ (x : List ℕ). list_any (bytes_eq x) (names_in h.done)) name_same ∙ ap (list_any (bytes_eq name)) h.names ∙ new

  kept_all : KeepBehind [] done'
  kept_all = keep_append [] h.done (line ∷ body) h.kept (keeps_line, body_keeps (h.done ++ line ∷ []) body (none_push h.done line) f.body.none)

  names_all : names_in done' ≡ map (λ f. f.name) (files ++ file ∷ [])
  names_all =
      names_append h.done (line ∷ body) ∙ ap (λ (x : List (List ℕ)). x ++ names_in (line ∷ body)) h.names
      ∙ ap (λ (x : List (List ℕ)). map (λ f. f.name) files ++ x) (names_head line body mark_is f.body.none ∙ ap (λ (x : List ℕ). x ∷ []) name_same)
      ∙ sym (map-append (λ f. f.name) files (file ∷ []))

  pub small_all : AreSmall (files ++ file ∷ [])
  small_all = small_push files file h.small (omega (arith, le, h.few, f.split.shorter, ap length contents_same, ap length f.body.same, length-append (flat_map (λ l. l) body) next))

  few_all : length done' + length next ≤ length bytes
  few_all = omega (arith, h.few, f.split.shorter, f.body.few, f.body.long, length-append h.done (line ∷ body))

  pub read_more : (number' : ℕ) (files' : List FileValue) → next ≢ [] → number' ≡ number + lines → files' ≡ files ++ file ∷ [] → ReadFiles bytes next number' files'
  read_more number' files' some n e = subst (ReadFiles bytes next number') (sym e) (record {
    some = h.some;
    more = some;
    done = done';
    lines = lines_all;
    place = omega (arith, n, h.place, f.lines_are, f.body.long, length-append h.done (line ∷ body));
    kept = kept_all;
    names = names_all;
    same = files_all;
    next = inr f.body.next;
    few = few_all;
    small = small_all;
  })

  pub read_all : (files' : List FileValue) → next ≡ [] → files' ≡ files ++ file ∷ [] → IsBundle bytes files'
  read_all files' none e =
      let nil : lines_of next ≡ [] = ap lines_of none in
      record {
        some = h.some;
        kept = keeps (lines_of bytes) (subst (KeepBehind []) (sym (lines_all ∙ ap (λ (x : List (List ℕ)). done' ++ x) nil ∙ append-nil done')) kept_all);
        files_are = e ∙ sym (append-nil (files ++ file ∷ [])) ∙ ap (λ (x : List (List ℕ)). (files ++ file ∷ []) ++ files_of x) (sym nil) ∙ sym files_all;
      }

  pub line_few : number + lines < MAX_BYTES + 3
  line_few = omega (arith, le, h.place, h.few, f.lines_are, f.split.shorter, f.body.few)
