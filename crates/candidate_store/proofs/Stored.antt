-- What is kept as the last entry comes and goes.
use Rattle.std.proofs.Common.{◌≡◌, ℕ, ◌+◌, ◌-◌, ◌<◌, ◌≤◌, Bool, true, false, not, List, [], ◌∷◌, ◌++◌, length, take, slice_get, Some, refl, sym, subst, ap, ◌∙◌, arith}
use Rattle.std.specs.Prelude.{Result, Ok, Err, OnErr}
use Rattle.std.proofs.lemmas.Option.{get_or_from_slice_get, slice_get_within}
use Rattle.std.proofs.lemmas.List.{take_more, take-take, length-take-le, length_push}
use Rattle.me_terms.specs.Values.{ProblemValue, EntryValue}
use Rattle.me_terms.specs.Context.{Context, add}
use Rattle.me_terms.specs.Next.{NextValue, IsNext}
use Rattle.me_terms.specs.declared.bounds.Bounds.{Bounds}
use Rattle.candidate_store.specs.Notes.{NotesValue, AreNotes}
use Rattle.literal_index.specs.Index.{IsIndex}
use Rattle.clause_pairs.specs.Values.{PairsValue}
use Rattle.clause_pairs.specs.Pairs.{ArePairs}
use Rattle.candidate_keys.specs.Keys.{AssertKeyValue}
use Rattle.kept_asserts.specs.Held.{HoldsAsserts}
use Rattle.candidate_store.specs.Kept.{FrameValue, IsFrame, AreFrames, StoreValue, AreAsserts, IsBeside, IsKept, IsNoted, StandsFor}
use Rattle.candidate_store.proofs.Framed.{frames_more, frames_less, top_frame}
use Rattle.candidate_store.proofs.Wholes.{last_entry, entry_at}

-- ---- fronts of a context
pub front_more : (whole : Context) (n : ℕ) (e : EntryValue) → slice_get whole n ≡ Some e → take (n + 1) whole ≡ add (take n whole) e
front_more whole n e at =
    let P : EntryValue → Type 0 = λ z. take (n + 1) whole ≡ take n whole ++ z ∷ [] in
    subst P (get_or_from_slice_get whole n e e at) (take_more whole n e (slice_get_within whole n e at))

pub front_long : (whole : Context) (n : ℕ) → n < length whole → length (take (n + 1) whole) ≡ n + 1
front_long whole n lt = length-take-le (n + 1) whole (omega arith)

pub front_front : (whole : Context) (n : ℕ) → take n (take (n + 1) whole) ≡ take n whole
front_front whole n = take-take n (n + 1) whole (omega arith)

-- ---- answers
pub not_true : (b : Bool) → not b ≡ true → b ≡ false
not_true true h = cc h
not_true false h = refl

pub any_err : {T E : Type 0} (r : Result T E) (P : Type 0) → P → OnErr r P
any_err (Ok x) P h = tt
any_err (Err e) P h = h

-- ---- an entry is noted
pub noted_beside : (problem : ProblemValue) (context noted : Context) (old new : StoreValue) → IsKept problem context old → IsNoted problem noted old new → IsBeside problem context noted new
noted_beside problem context noted old new kept h =
    let P : StoreValue → Type 0 = λ z. IsBeside problem context noted z in
    subst P (sym h.rest) (record { some = kept.some; notes = h.notes; pairs = h.pairs; frames = kept.frames; asserts = kept.asserts })

pub noted_frames : (problem : ProblemValue) (noted : Context) (old new : StoreValue) → IsNoted problem noted old new → new.frames ≡ old.frames
noted_frames problem noted old new h = ap (λ (z : StoreValue). z.frames) h.rest

pub noted_bounds : (problem : ProblemValue) (noted : Context) (old new : StoreValue) → IsNoted problem noted old new → new.bounds ≡ old.bounds
noted_bounds problem noted old new h = ap (λ (z : StoreValue). z.bounds) h.rest

-- ---- its frame is put to the others
pub frame_put : (problem : ProblemValue) (context : Context) (e : EntryValue) (old new : StoreValue) (f : FrameValue) → IsBeside problem context (add context e) old → IsFrame problem old.bounds (add context e) (old.frames ++ f ∷ []) f
    → new.notes ≡ old.notes → new.pairs ≡ old.pairs → new.bounds ≡ old.bounds → new.frames ≡ old.frames ++ f ∷ [] → (new.is_fresh ≡ true → AreAsserts problem (add context e) new) → IsKept problem (add context e) new
frame_put problem context e old new f h frame notes pairs bounds frames asserts =
    let P : NotesValue → Type 0 = λ z. AreNotes (add context e) z in
    let Q : PairsValue → Type 0 = λ z. ArePairs problem (add context e) z in
    let R : Bounds × List FrameValue → Type 0 = λ z. AreFrames problem z.0 (add context e) z.1 in
    let a = sym bounds in
    let b = sym frames in
    record {
      some = (let l = length_push context e in omega (arith, l));
      notes = subst P (sym notes) h.notes;
      pairs = subst Q (sym pairs) h.pairs;
      frames = subst R (λ i. (a i, b i)) (frames_more problem old.bounds context e old.frames f h.frames frame);
      asserts = asserts;
    }

-- ---- the last entry is forgotten
pub without_asserts : (problem : ProblemValue) (context : Context) (s : StoreValue) → 0 < length context → AreNotes context s.notes → ArePairs problem context s.pairs → AreFrames problem s.bounds context s.frames → s.is_fresh ≡ false → IsKept problem context s
without_asserts problem context s some notes pairs frames stale = record {
  some = some;
  notes = notes;
  pairs = pairs;
  frames = frames;
  asserts = λ fresh. absurd (let e : true ≡ false = sym fresh ∙ stale in cc e);
}

-- the frames of what is left
pub left_frames : (problem : ProblemValue) (bounds : Bounds) (context : Context) (e : EntryValue) (old new : List FrameValue) (f : FrameValue) → old ≡ new ++ f ∷ [] → AreFrames problem bounds (add context e) old → AreFrames problem bounds context new
left_frames problem bounds context e old new f is h =
    let P : List FrameValue → Type 0 = λ z. AreFrames problem bounds (add context e) z in
    frames_less problem bounds context e new f (subst P is h)

-- what there is to forget, where there are two entries
pub some_left : (problem : ProblemValue) (context : Context) (s : StoreValue) (most : ℕ) → IsKept problem context s → 1 < length s.frames → length context ≤ most → (before : Context) × (e : EntryValue) × AreNotes (add before e) s.notes × ArePairs problem (add before e) s.pairs × (0 < length before) × (length before ≤ most)
some_left problem context s most h two few =
    let each = h.frames.each in
    let n = length context - 1 in
    let last = last_entry context n (omega (arith, two, each)) in
    let P : Context → Type 0 = λ z. AreNotes z s.notes in
    let Q : Context → Type 0 = λ z. ArePairs problem z s.pairs in
    let long = length-take-le n context (omega arith) in
    (take n context, last.0, subst P last.1 h.notes, subst Q last.1 h.pairs, omega (arith, long, two, each), omega (arith, long, few))

-- ---- the calls of a store
module _ (problem : ProblemValue) (whole : Context) (n : ℕ) (e : EntryValue) (at : slice_get whole n ≡ Some e) where
  -- what is noted is of one entry more
  pub noted : (old new : StoreValue) → n ≡ length old.frames → AreNotes (add (take n whole) e) new.notes → ArePairs problem (add (take n whole) e) new.pairs → new ≡ record old { notes = new.notes; pairs = new.pairs } → IsNoted problem (take (length old.frames + 1) whole) old new
  noted old new is_n notes pairs rest =
      let same : add (take n whole) e ≡ take (length old.frames + 1) whole = sym (front_more whole n e at) ∙ ap (λ z. take (z + 1) whole) is_n in
      let P : Context → Type 0 = λ z. AreNotes z new.notes in
      let Q : Context → Type 0 = λ z. ArePairs problem z new.pairs in
      record { notes = subst P same notes; pairs = subst Q same pairs; rest = rest }

-- the store stands for an entry more
pub entered : (problem : ProblemValue) (bounds : Bounds) (whole : Context) (old noted_one new : StoreValue) → StandsFor problem bounds (take (length old.frames) whole) old → IsNoted problem (take (length old.frames + 1) whole) old noted_one → new.bounds ≡ noted_one.bounds → IsKept problem (take (length noted_one.frames + 1) whole) new → StandsFor problem bounds (take (length old.frames + 1) whole) new
entered problem bounds whole old noted_one new stands noted_is same kept =
    let frames = noted_frames problem (take (length old.frames + 1) whole) old noted_one noted_is in
    let P : ℕ → Type 0 = λ z. IsKept problem (take (z + 1) whole) new in
    record { same_bounds = same ∙ (noted_bounds problem (take (length old.frames + 1) whole) old noted_one noted_is ∙ stands.same_bounds); kept = subst P (ap length frames) kept }

-- what was noted is forgotten
pub forgotten : (problem : ProblemValue) (bounds : Bounds) (whole : Context) (e : EntryValue) (old noted_one refused new : StoreValue) → slice_get whole (length old.frames) ≡ Some e → StandsFor problem bounds (take (length old.frames) whole) old → IsNoted problem (take (length old.frames + 1) whole) old noted_one
    → refused.notes ≡ noted_one.notes → refused.pairs ≡ noted_one.pairs → refused.frames ≡ noted_one.frames → refused.bounds ≡ noted_one.bounds
    → ((context : Context) (x : EntryValue) → AreNotes (add context x) refused.notes → AreNotes context new.notes)
    → ((p : ProblemValue) (context : Context) (x : EntryValue) → ArePairs p (add context x) refused.pairs → 0 < length context → ArePairs p context new.pairs)
    → new.frames ≡ refused.frames → new.bounds ≡ refused.bounds → new.is_fresh ≡ false → StandsFor problem bounds (take (length old.frames) whole) new
forgotten problem bounds whole e old noted_one refused new at stands noted_is a b c d hides pairs frames same stale =
    let context = take (length old.frames) whole in
    let whole_is = front_more whole (length old.frames) e at in
    let P : Context × NotesValue → Type 0 = λ z. AreNotes z.0 z.1 in
    let Q : Context × PairsValue → Type 0 = λ z. ArePairs problem z.0 z.1 in
    let a2 = sym a in
    let b2 = sym b in
    let notes = hides context e (subst P (λ i. (whole_is i, a2 i)) noted_is.notes) in
    let pairing = pairs problem context e (subst Q (λ i. (whole_is i, b2 i)) noted_is.pairs) stands.kept.some in
    let frames_are : new.frames ≡ old.frames = frames ∙ (c ∙ noted_frames problem (take (length old.frames + 1) whole) old noted_one noted_is) in
    let bounds_are : new.bounds ≡ old.bounds = same ∙ (d ∙ noted_bounds problem (take (length old.frames + 1) whole) old noted_one noted_is) in
    let R : Bounds × List FrameValue → Type 0 = λ z. AreFrames problem z.0 context z.1 in
    let x = sym bounds_are in
    let y = sym frames_are in
    record {
      same_bounds = bounds_are ∙ stands.same_bounds;
      kept = without_asserts problem context new stands.kept.some notes pairing (subst R (λ i. (x i, y i)) stands.kept.frames) stale;
    }

-- what there is to forget
pub to_forget : (problem : ProblemValue) (bounds : Bounds) (whole : Context) (e : EntryValue) (old noted_one refused : StoreValue) (most : ℕ) → slice_get whole (length old.frames) ≡ Some e → StandsFor problem bounds (take (length old.frames) whole) old → IsNoted problem (take (length old.frames + 1) whole) old noted_one
    → refused.notes ≡ noted_one.notes → refused.pairs ≡ noted_one.pairs → length whole ≤ most
    → (p : ProblemValue) × (context : Context) × (x : EntryValue) × AreNotes (add context x) refused.notes × ArePairs p (add context x) refused.pairs × (0 < length context) × (length context ≤ most)
to_forget problem bounds whole e old noted_one refused most at stands noted_is a b few =
    let context = take (length old.frames) whole in
    let whole_is = front_more whole (length old.frames) e at in
    let P : Context × NotesValue → Type 0 = λ z. AreNotes z.0 z.1 in
    let Q : Context × PairsValue → Type 0 = λ z. ArePairs problem z.0 z.1 in
    let a2 = sym a in
    let b2 = sym b in
    let lt = slice_get_within whole (length old.frames) e at in
    let long = length-take-le (length old.frames) whole (omega (arith, lt)) in
    (problem, context, e, subst P (λ i. (whole_is i, a2 i)) noted_is.notes, subst Q (λ i. (whole_is i, b2 i)) noted_is.pairs, stands.kept.some, omega (arith, long, lt, few))

-- an entry is left
pub left_one : (problem : ProblemValue) (bounds : Bounds) (context : Context) (e : EntryValue) (old new : StoreValue) (f : FrameValue) → StandsFor problem bounds (add context e) old → 0 < length context → AreNotes context new.notes → ArePairs problem context new.pairs → old.frames ≡ new.frames ++ f ∷ [] → new.bounds ≡ old.bounds → new.is_fresh ≡ false → StandsFor problem bounds context new
left_one problem bounds context e old new f stands some notes pairs frames same stale =
    let x = sym same in
    let R : Bounds → Type 0 = λ z. AreFrames problem z context new.frames in
    record {
      same_bounds = same ∙ stands.same_bounds;
      kept = without_asserts problem context new some notes pairs (subst R x (left_frames problem old.bounds context e old.frames new.frames f frames stands.kept.frames)) stale;
    }

-- a frame that was found is kept
pub frame_kept : (problem : ProblemValue) (whole : Context) (old found new : StoreValue) (f : FrameValue) → length old.frames < length whole → IsBeside problem (take (length old.frames) whole) (take (length old.frames + 1) whole) old → IsFrame problem old.bounds (take (length old.frames + 1) whole) (old.frames ++ f ∷ []) f
    → found.notes ≡ old.notes → found.pairs ≡ old.pairs → found.frames ≡ old.frames → found.bounds ≡ old.bounds → (found.is_fresh ≡ true → AreAsserts problem (take (length old.frames + 1) whole) found) → new ≡ record found { frames = found.frames ++ f ∷ [] } → IsKept problem (take (length old.frames + 1) whole) new
frame_kept problem whole old found new f lt beside frame a b c d asserts is =
    let n = length old.frames in
    let e = entry_at whole n lt in
    let more = front_more whole n e.0 e.1 in
    let P : Context → Type 0 = λ z. IsBeside problem (take n whole) z old in
    let Q : Context → Type 0 = λ z. IsFrame problem old.bounds z (old.frames ++ f ∷ []) f in
    let R : Context → Type 0 = λ z. IsKept problem z (record found { frames = found.frames ++ f ∷ [] }) in
    let S : StoreValue → Type 0 = λ z. IsKept problem (take (n + 1) whole) z in
    let T : Context → Type 0 = λ z. found.is_fresh ≡ true → AreAsserts problem z found in
    subst S (sym is) (subst R (sym more) (frame_put problem (take n whole) e.0 old (record found { frames = found.frames ++ f ∷ [] }) f (subst P more beside) (subst Q more frame) a b d (ap (λ z. z ++ f ∷ []) c) (subst T more asserts)))

-- ---- the first entries as a context of their own
module _ (problem : ProblemValue) (bounds : Bounds) (whole prefix : Context) (frames : List FrameValue) (m : ℕ) (is_m : m ≡ length frames) (lt : length frames < length whole) (is : prefix ≡ take (m + 1) whole) where
  pub prefix_is : prefix ≡ take (length frames + 1) whole
  prefix_is = is ∙ ap (λ z. take (z + 1) whole) is_m

  pub prefix_long : length prefix ≡ length frames + 1
  prefix_long = ap length prefix_is ∙ front_long whole (length frames) lt

  pub prefix_front : take (length frames) prefix ≡ take (length frames) whole
  prefix_front = ap (take (length frames)) prefix_is ∙ front_front whole (length frames)

  pub prefix_pairs : (v : PairsValue) → ArePairs problem (take (length frames + 1) whole) v → ArePairs problem prefix v
  prefix_pairs v h = let P : Context → Type 0 = λ z. ArePairs problem z v in subst P (sym prefix_is) h

  pub prefix_index : (v : NotesValue) → AreNotes (take (length frames + 1) whole) v → IsIndex prefix v.entries
  prefix_index v h = let P : Context → Type 0 = λ z. IsIndex z v.entries in subst P (sym prefix_is) h.entries

  pub prefix_frames : AreFrames problem bounds (take (length frames) whole) frames → AreFrames problem bounds (take (length frames) prefix) frames
  prefix_frames h = let P : Context → Type 0 = λ z. AreFrames problem bounds z frames in subst P (sym prefix_front) h

  pub prefix_asserts : (is_fresh : Bool) (keys : List AssertKeyValue) → (is_fresh ≡ true → HoldsAsserts problem bounds (take (length frames) whole) keys) → is_fresh ≡ true → HoldsAsserts problem bounds (take (length frames) prefix) keys
  prefix_asserts is_fresh keys h fresh = let P : Context → Type 0 = λ z. HoldsAsserts problem bounds z keys in subst P (sym prefix_front) (h fresh)

  pub whole_frame : (f : FrameValue) → IsFrame problem bounds prefix (frames ++ f ∷ []) f → IsFrame problem bounds (take (length frames + 1) whole) (frames ++ f ∷ []) f
  whole_frame f h = let P : Context → Type 0 = λ z. IsFrame problem bounds z (frames ++ f ∷ []) f in subst P prefix_is h

  pub whole_asserts : (keys : List AssertKeyValue) → HoldsAsserts problem bounds prefix keys → HoldsAsserts problem bounds (take (length frames + 1) whole) keys
  whole_asserts keys h = let P : Context → Type 0 = λ z. HoldsAsserts problem bounds z keys in subst P prefix_is h

pub some_frames : (problem : ProblemValue) (bounds : Bounds) (context : Context) (frames : List FrameValue) → 0 < length context → AreFrames problem bounds context frames → 0 < length frames
some_frames problem bounds context frames some h = let each = h.each in omega (arith, some, each)

-- the next step is that of the last frame
pub stored_next : (problem : ProblemValue) (bounds : Bounds) (context : Context) (s : StoreValue) (f : FrameValue) (step : NextValue) → StandsFor problem bounds context s → 0 < length s.frames → slice_get s.frames (length s.frames - 1) ≡ Some f → step ≡ f.step → IsNext problem bounds context step
stored_next problem bounds context s f step stands some at is =
    let top = top_frame problem s.bounds context s.frames f (length s.frames - 1) stands.kept.frames (omega (arith, some)) at in
    let same = stands.same_bounds in
    let back = sym is in
    let P : Bounds × NextValue → Type 0 = λ z. IsNext problem z.0 context z.1 in
    subst P (λ i. (same i, back i)) top.next
