-- Files by their names, as the entries of a map.
use Rattle.std.proofs.Common.{◌≡◌, ◌≤◌, ℕ, Bool, true, false, List, [], ◌∷◌, ◌++◌, map, Option, Some, None, length, refl, sym, ap, subst, ◌∙◌}
use Rattle.std.specs.Prelude.{◌||◌, cond, if◌then◌else◌, slice_get}
use Rattle.std.specs.List.{list_any}
use Rattle.std.specs.Map.{lookup}
use Rattle.std.specs.Str.{bytes_eq}
use Rattle.indexmap.specs.IndexMap.{insert_entry}
use Rattle.me_io.specs.declared.source.TheConstants.{MAX_BYTES}
use Rattle.me_terms.specs.Sequences.{SequenceValue}
use Rattle.tptp_include.specs.Files.{FileValue, bytes_named, AreSmall, main_name}
use Rattle.tptp_include.specs.BundleViews.{entry_file}
use Rattle.tptp_include.specs.Views.{bytes_of}

abbrev pub Entry : Type 0
Entry = SequenceValue ℕ × SequenceValue ℕ

-- how the map compares names
abbrev pub same_name : SequenceValue ℕ → SequenceValue ℕ → Bool
same_name a b = bytes_eq a.items b.items

abbrev pub named : SequenceValue ℕ → List Entry → Option (SequenceValue ℕ)
named name entries = lookup (same_name name) entries

-- a file of a new name goes last
pub insert_new : (entries : List Entry) (name bytes : SequenceValue ℕ) → named name entries ≡ None → map entry_file (insert_entry same_name entries name bytes) ≡ map entry_file entries ++ entry_file (name, bytes) ∷ []
insert_new [] name bytes e = refl
insert_new (x ∷ xs) name bytes e = by (same_name name x.0) e (insert_new xs name bytes)
  where
    by : (b : Bool) → cond b (Some x.1) (named name xs) ≡ None → (named name xs ≡ None → map entry_file (insert_entry same_name xs name bytes) ≡ map entry_file xs ++ entry_file (name, bytes) ∷ [])
        → map entry_file (if b then (x.0, bytes) ∷ xs else x ∷ insert_entry same_name xs name bytes) ≡ entry_file x ∷ (map entry_file xs ++ entry_file (name, bytes) ∷ [])
    by true k h = absurd cc
    by false k h = ap (λ (z : List FileValue). entry_file x ∷ z) (h k)

-- no file has the name
pub new_name : (entries : List Entry) (name : SequenceValue ℕ) → named name entries ≡ None → list_any (bytes_eq name.items) (map (λ f. f.name) (map entry_file entries)) ≡ false
new_name [] name e = refl
new_name (x ∷ xs) name e = by (same_name name x.0) e (new_name xs name)
  where
    by : (b : Bool) → cond b (Some x.1) (named name xs) ≡ None → (named name xs ≡ None → list_any (bytes_eq name.items) (map (λ f. f.name) (map entry_file xs)) ≡ false) → (b || list_any (bytes_eq name.items) (map (λ f. f.name) (map entry_file xs))) ≡ false
    by true k h = absurd cc
    by false k h = h k

-- a file has the name
pub old_name : (entries : List Entry) (name bytes : SequenceValue ℕ) → named name entries ≡ Some bytes → list_any (bytes_eq name.items) (map (λ f. f.name) (map entry_file entries)) ≡ true
old_name [] name bytes e = absurd cc
old_name (x ∷ xs) name bytes e = by (same_name name x.0) e (old_name xs name bytes)
  where
    by : (b : Bool) → cond b (Some x.1) (named name xs) ≡ Some bytes → (named name xs ≡ Some bytes → list_any (bytes_eq name.items) (map (λ f. f.name) (map entry_file xs)) ≡ true) → (b || list_any (bytes_eq name.items) (map (λ f. f.name) (map entry_file xs))) ≡ true
    by true k h = refl
    by false k h = h k

-- the bytes of the file of that name
pub found_bytes : (entries : List Entry) (name : SequenceValue ℕ) → bytes_of (named name entries) ≡ bytes_named (map entry_file entries) name.items
found_bytes [] name = refl
found_bytes (x ∷ xs) name = by (same_name name x.0) (found_bytes xs name)
  where
    by : (b : Bool) → bytes_of (named name xs) ≡ bytes_named (map entry_file xs) name.items → bytes_of (cond b (Some x.1) (named name xs)) ≡ (if b then Some x.1.items else bytes_named (map entry_file xs) name.items)
    by true h = refl
    by false h = h

-- a file that is found is no longer than a file may be
pub named_small : (files : List FileValue) (name bytes : List ℕ) → AreSmall files → bytes_named files name ≡ Some bytes → length bytes ≤ MAX_BYTES
named_small [] name bytes h e = absurd cc
named_small (file ∷ files) name bytes h e = by (bytes_eq name file.name) e (named_small files name bytes h.1)
  where
    by : (b : Bool) → (if b then Some file.bytes else bytes_named files name) ≡ Some bytes → (bytes_named files name ≡ Some bytes → length bytes ≤ MAX_BYTES) → length bytes ≤ MAX_BYTES
    by true k on = let same : file.bytes ≡ bytes = cc in subst (λ (x : List ℕ). length x ≤ MAX_BYTES) same h.0
    by false k on = on k

-- the main file is that of the first entry
pub main_is : (entries : List Entry) (e : Entry) → slice_get entries 0 ≡ Some e → e.0.items ≡ main_name (map entry_file entries)
main_is [] e h = absurd cc
main_is (x ∷ xs) e h = let same : x ≡ e = cc in ap (λ (z : Entry). z.0.items) (sym same)

pub first_is : (entries : List Entry) → slice_get entries 0 ≡ None → entries ≡ []
first_is [] h = refl
first_is (x ∷ xs) h = absurd cc

-- the files once one of a new name is put behind them
pub inserted : (entries later : List Entry) (name bytes : SequenceValue ℕ) (n b : List ℕ) → named name entries ≡ None → later ≡ insert_entry same_name entries name bytes → name.items ≡ n → bytes.items ≡ b → map entry_file later ≡ map entry_file entries ++ record { name = n; bytes = b } ∷ []
inserted entries later name bytes n b e l p q =
    ap (map entry_file) l ∙ insert_new entries name bytes e
    ∙ ap (λ (x : List ℕ). map entry_file entries ++ record { name = x; bytes = bytes.items } ∷ []) p
    ∙ ap (λ (x : List ℕ). map entry_file entries ++ record { name = n; bytes = x } ∷ []) q

pub is_new : (entries : List Entry) (name : SequenceValue ℕ) (n : List ℕ) → named name entries ≡ None → name.items ≡ n → list_any (bytes_eq n) (map (λ f. f.name) (map entry_file entries)) ≡ false
is_new entries name n e p = subst (λ (x : List ℕ). list_any (bytes_eq x) (map (λ f. f.name) (map entry_file entries)) ≡ false) p (new_name entries name e)

pub is_old : (entries : List Entry) (name bytes : SequenceValue ℕ) (n : List ℕ) → named name entries ≡ Some bytes → name.items ≡ n → list_any (bytes_eq n) (map (λ f. f.name) (map entry_file entries)) ≡ true
is_old entries name bytes n e p = subst (λ (x : List ℕ). list_any (bytes_eq x) (map (λ f. f.name) (map entry_file entries)) ≡ true) p (old_name entries name bytes e)

-- there is a file behind files
pub some_entry : (entries : List Entry) (files : List FileValue) (file : FileValue) → map entry_file entries ≡ files ++ file ∷ [] → entries ≡ [] → ⊥
some_entry entries files file e none = by files (sym (ap (map entry_file) none) ∙ e)
  where
    by : (fs : List FileValue) → [] ≡ fs ++ file ∷ [] → ⊥
    by [] k = cc
    by (f ∷ fs) k = cc
