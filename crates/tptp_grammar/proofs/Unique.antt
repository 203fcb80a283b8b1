-- Tokens are a file, are cut short, or have one refused token, and only one of these.
use Rattle.std.proofs.Common.{◌≡◌, List, [], ◌∷◌, ◌++◌, refl, sym, ap, ◌∙◌}
use Rattle.tptp_grammar.specs.Terminals.{Terminal}
use Rattle.tptp_grammar.specs.Written.{WrittenFormula}
use Rattle.tptp_grammar.specs.Files.{IsFileWithinLimits}
use Rattle.tptp_grammar.specs.Refusals.{IsRefusalOf, IsCutShort}
use Rattle.tptp_grammar.specs.Readings.{Reading, start_reading, Verdict, GoesOn, Refused, on_from}
use Rattle.tptp_grammar.specs.declared.refusal.Refusal.{Refusal}
use Rattle.tptp_grammar.proofs.Fronts.{on-append}
use Rattle.tptp_grammar.proofs.Judgements.{Reads, file_read, found, cut_short_read}

refused_stays : (x : Refusal) (ts : List Terminal) → on_from (Refused x) ts ≡ Refused x
refused_stays x ts = refl

-- behind a refused token the machine stays where it is
refused_all : (before after : List Terminal) (t : Terminal) (x : Refusal) → IsRefusalOf x before t → on_from (GoesOn start_reading) (before ++ t ∷ after) ≡ Refused x
refused_all before after t x h =
    let f = found x before t h in
    on-append (GoesOn start_reading) before (t ∷ after) ∙ ap (λ (v : Verdict). on_from v (t ∷ after)) f.1 ∙ ap (λ (v : Verdict). on_from v after) f.2

goes_or_refused : {A : Type 0} (r : Reading) (x : Refusal) → GoesOn r ≡ Refused x → A
goes_or_refused r x e = absurd cc

pub refused_is_no_file : (before after : List Terminal) (t : Terminal) (x : Refusal) (file : List WrittenFormula) → IsRefusalOf x before t → IsFileWithinLimits (before ++ t ∷ after) file → ⊥
refused_is_no_file before after t x file h f = let k = file_read (before ++ t ∷ after) file f in goes_or_refused k.0 x (sym k.1 ∙ refused_all before after t x h)

pub none_refused : (before after : List Terminal) (t : Terminal) (x : Refusal) → IsCutShort (before ++ t ∷ after) → IsRefusalOf x before t → ⊥
none_refused before after t x c h = let k = cut_short_read (before ++ t ∷ after) c in goes_or_refused k.0 x (sym k.1 ∙ refused_all before after t x h)

same_refusal : (x y : Refusal) → Refused x ≡ Refused y → x ≡ y
same_refusal x y e = cc

-- what was read is not refused
read_on : (ts : List Terminal) (t : Terminal) (us : List Terminal) (r : Reading) (x : Refusal) → Reads (ts ++ t ∷ us) r → on_from (GoesOn start_reading) (ts ++ t ∷ us) ≡ Refused x → ⊥
read_on ts t us r x e h = goes_or_refused r x (sym e ∙ h)

-- one of the two fronts is a front of the other
one_place : (before after others rest : List Terminal) (t u : Terminal) → before ++ t ∷ after ≡ others ++ u ∷ rest
    → ((others_in : (more : List Terminal) → others ≡ before ++ t ∷ more → ⊥) → (before_in : (more : List Terminal) → before ≡ others ++ u ∷ more → ⊥) → (before ≡ others) × (t ≡ u))
one_place [] after [] rest t u e f g = (refl, cc)
one_place [] after (o ∷ others) rest t u e f g = absurd (f others (let k : o ≡ t = cc in ap (λ (x : Terminal). x ∷ others) k))
one_place (b ∷ before) after [] rest t u e f g = absurd (g before (let k : b ≡ u = cc in ap (λ (x : Terminal). x ∷ before) k))
one_place (b ∷ before) after (o ∷ others) rest t u e f g =
    let heads : b ≡ o = cc in
    let tails : before ++ t ∷ after ≡ others ++ u ∷ rest = cc in
    let k = one_place before after others rest t u tails
    (λ more h. f more (ap (λ (x : Terminal). x ∷ others) (sym heads) ∙ ap (λ (x : List Terminal). b ∷ x) h))
    (λ more h. g more (ap (λ (x : Terminal). x ∷ before) heads ∙ ap (λ (x : List Terminal). o ∷ x) h)) in
    (ap (λ (x : Terminal). x ∷ before) heads ∙ ap (λ (x : List Terminal). o ∷ x) k.0, k.1)

not_in : (before others more : List Terminal) (t u : Terminal) (x y : Refusal) → IsRefusalOf x before t → IsRefusalOf y others u → others ≡ before ++ t ∷ more → ⊥
not_in before others more t u x y h k e =
    let f = found y others u k in
    goes_or_refused f.0 x (sym f.1 ∙ ap (on_from (GoesOn start_reading)) e ∙ refused_all before more t x h)

pub one_refusal : (before after others rest : List Terminal) (t u : Terminal) (x y : Refusal) → before ++ t ∷ after ≡ others ++ u ∷ rest → IsRefusalOf x before t → IsRefusalOf y others u → (before ≡ others) × (t ≡ u) × (x ≡ y)
one_refusal before after others rest t u x y e h k =
    let p = one_place before after others rest t u e (λ more i. not_in before others more t u x y h k i) (λ more i. not_in others before more u t y x k h i) in
    (p.0, p.1, same_refusal x y (sym (refused_all before after t x h) ∙ ap (on_from (GoesOn start_reading)) e ∙ refused_all others rest u y k))
