-- Three records, each of which gives the next one away, can be put together.
use Rattle.std.proofs.Common.{◌≡◌, ℕ, zero, suc, true, List, [], ◌∷◌, ◌++◌, Some, slice_get, refl, sym, subst, ap, ◌∙◌}
use Rattle.branch_core.specs.Assemble.{CanAssemble}
use Rattle.branch_core.specs.Filled.{Filled, none_left, own, put, CutsFollowSat}
use Rattle.branch_core.specs.Parts.{PartValue, Closed, Bounded, Sat, Gift, Cut, NoMemory, RecordValue}
use Rattle.branch_core.specs.Paths.{Turns, ProperlyBegins}
use Rattle.walk_tests.specs.ThreeRecords.{IsPlainPart, three_records}
use Rattle.branch_core.specs.Whole.{IsIn}

-- ---- parts without Cuts
abbrev IsNoCut : PartValue → Type 0
IsNoCut (Closed list) = Unit {0}
IsNoCut (Bounded b) = Unit {0}
IsNoCut (Sat context) = Unit {0}
IsNoCut (Gift turns) = Unit {0}
IsNoCut (Cut key) = ⊥
IsNoCut NoMemory = Unit {0}

abbrev HaveNoCut : List PartValue → Type 0
HaveNoCut [] = Unit {0}
HaveNoCut (first ∷ parts) = IsNoCut first × HaveNoCut parts

none_follow : (parts : List PartValue) → HaveNoCut parts → CutsFollowSat parts
none_follow [] h = tt
none_follow (Closed list ∷ parts) h = none_follow parts h.1
none_follow (Bounded b ∷ parts) h = none_follow parts h.1
none_follow (Sat context ∷ parts) h = tt
none_follow (Gift turns ∷ parts) h = none_follow parts h.1
none_follow (Cut key ∷ parts) h = absurd h.0
none_follow (NoMemory ∷ parts) h = none_follow parts h.1

append_no_cut : (xs ys : List PartValue) → HaveNoCut xs → HaveNoCut ys → HaveNoCut (xs ++ ys)
append_no_cut [] ys g h = h
append_no_cut (x ∷ xs) ys g h = (g.0, append_no_cut xs ys g.1 h)

filled_no_cut : {records : List RecordValue} {parts filled : List PartValue} → ((r : RecordValue) → IsIn r records → HaveNoCut r.parts) → Filled records parts filled → HaveNoCut parts → HaveNoCut filled
filled_no_cut each none_left h = tt
filled_no_cut each (own plain later) h = (h.0, filled_no_cut each later h.1)
filled_no_cut each (put {gift = gift} {inner = inner} {outer = outer} is_in inside later) h =
    append_no_cut inner outer (filled_no_cut each inside (each gift is_in)) (filled_no_cut each later h.1)

plain_no_cut : (p : PartValue) → IsPlainPart p → IsNoCut p
plain_no_cut (Closed list) h = tt
plain_no_cut (Bounded b) h = tt
plain_no_cut (Sat context) h = tt
plain_no_cut (Gift turns) h = absurd h
plain_no_cut (Cut key) h = absurd h
plain_no_cut NoMemory h = tt

-- ---- the gifts of a record
no_gift : (p : PartValue) (turns : Turns) → IsPlainPart p → Some p ≡ Some (Gift turns) → ⊥
no_gift p turns h e = let same : p ≡ Gift turns = cc e in subst IsPlainPart same h

-- a plain part and a gift: the gift is that one
one_gift : (p : PartValue) (given turns : Turns) → IsPlainPart p → IsIn (Gift turns) (p ∷ Gift given ∷ []) → given ≡ turns
one_gift p given turns h (zero, e) = absurd (no_gift p turns h e)
one_gift p given turns h (suc zero, e) = cc e
one_gift p given turns h (suc (suc zero), e) = cc e
one_gift p given turns h (suc (suc (suc k)), e) = cc e

none_given : (p : PartValue) (turns : Turns) → IsPlainPart p → IsIn (Gift turns) (p ∷ []) → ⊥
none_given p turns h (zero, e) = no_gift p turns h e
none_given p turns h (suc zero, e) = cc e
none_given p turns h (suc (suc k), e) = cc e

module _ (first second third : PartValue) (f : IsPlainPart first) (g : IsPlainPart second) (h : IsPlainPart third) where
  abbrev records : List RecordValue
  records = three_records first second third

  abbrev root : RecordValue
  root = record { path = []; parts = first ∷ Gift (true ∷ []) ∷ [] }

  abbrev child : RecordValue
  child = record { path = true ∷ []; parts = second ∷ Gift (true ∷ true ∷ []) ∷ [] }

  abbrev grandchild : RecordValue
  grandchild = record { path = true ∷ true ∷ []; parts = third ∷ [] }

  -- what holds of the three holds of each record
  each_of : (P : RecordValue → Type 0) → P root → P child → P grandchild → (r : RecordValue) → IsIn r records → P r
  each_of P a b c r (zero, e) = let same : root ≡ r = cc e in subst P same a
  each_of P a b c r (suc zero, e) = let same : child ≡ r = cc e in subst P same b
  each_of P a b c r (suc (suc zero), e) = let same : grandchild ≡ r = cc e in subst P same c
  each_of P a b c r (suc (suc (suc zero)), e) = cc e
  each_of P a b c r (suc (suc (suc (suc k))), e) = cc e

  has_record : (given gift : Turns) (r : RecordValue) → given ≡ gift → IsIn r records → r.path ≡ given → (other : RecordValue) × IsIn other records × (other.path ≡ gift)
  has_record given gift r e is_in path = (r, is_in, path ∙ e)

  extends_by : (given gift path : Turns) → given ≡ gift → ProperlyBegins path given → ProperlyBegins path gift
  extends_by given gift path e extends = subst (λ (t : Turns). ProperlyBegins path t) e extends

  -- a record's place is the length of its path
  abbrev turns_count : Turns → ℕ
  turns_count [] = 0
  turns_count (t ∷ ts) = suc (turns_count ts)

  at_length : (r : RecordValue) (k : ℕ) → slice_get records k ≡ Some r → k ≡ turns_count r.path
  at_length r zero e = let same : root ≡ r = cc e in ap (λ (z : RecordValue). turns_count z.path) same
  at_length r (suc zero) e = let same : child ≡ r = cc e in ap (λ (z : RecordValue). turns_count z.path) same
  at_length r (suc (suc zero)) e = let same : grandchild ≡ r = cc e in ap (λ (z : RecordValue). turns_count z.path) same
  at_length r (suc (suc (suc zero))) e = cc e
  at_length r (suc (suc (suc (suc k)))) e = cc e

  pub three_can : CanAssemble records
  three_can = record {
    root = (root, (0, refl), refl);
    gifts = λ r gift is_in given.
        each_of (λ (z : RecordValue). IsIn (Gift gift) z.parts → (other : RecordValue) × IsIn other records × (other.path ≡ gift))
        (λ m. has_record (true ∷ []) gift child (one_gift first (true ∷ []) gift f m) (1, refl) refl)
        (λ m. has_record (true ∷ true ∷ []) gift grandchild (one_gift second (true ∷ true ∷ []) gift g m) (2, refl) refl)
        (λ m. absurd (none_given third gift h m)) r is_in given;
    once = λ r s j k at_j at_k e. at_length r j at_j ∙ (ap turns_count e ∙ sym (at_length s k at_k));
    extends = λ r gift is_in given.
        each_of (λ (z : RecordValue). IsIn (Gift gift) z.parts → ProperlyBegins z.path gift)
        (λ m. extends_by (true ∷ []) gift [] (one_gift first (true ∷ []) gift f m) (true, [], refl))
        (λ m. extends_by (true ∷ true ∷ []) gift (true ∷ []) (one_gift second (true ∷ true ∷ []) gift g m) (true, [], refl))
        (λ m. absurd (none_given third gift h m)) r is_in given;
    cuts = λ r filled is_in path fills.
        let each = each_of (λ (z : RecordValue). HaveNoCut z.parts) (plain_no_cut first f, (tt, tt)) (plain_no_cut second g, (tt, tt)) (plain_no_cut third h, tt) in
        none_follow filled (filled_no_cut each fills (each r is_in));
  }
