use Rattle.std.proofs.Common.{◌≡◌, ℕ, ◌+◌, ◌<◌, List, length, get_or, nat_eq, Some, refl, subst, ap, ◌∙◌}
use Rattle.std.proofs.lemmas.Option.{slice_get_read}
use Rattle.std.specs.HashMap.{HashMap, Updates}
use Rattle.branch_core.specs.Paths.{Turns, code}
use Rattle.branch_core.specs.Parts.{RecordValue}
use Rattle.branch_core.specs.RecordIndex.{IndexesFirst}
use Rattle.branch_core.proofs.RecordPlaces.{index_more}
use Rattle.branch_core.proofs.assembling.places_of.Goals as goal

more : {S : Type 0} (before after : HashMap ℕ ℕ S) (records : List RecordValue) (i : ℕ) (r : RecordValue) (turns : Turns) (key : ℕ) → i < length records → r ≡ get_or records i r → turns ≡ r.path → key ≡ code turns → Updates nat_eq before after key (Some i) → IndexesFirst i records before → IndexesFirst (i + 1) records after
more before after records i r turns key below is same key_is updates first =
    let e : key ≡ code r.path = key_is ∙ ap code same in
    index_more before after records i r (subst (λ (k : ℕ). Updates nat_eq before after k (Some i)) e updates) (slice_get_read records (length records) i r refl below is) first

pub loop-place-preserved : goal.loop-place-preserved
loop-place-preserved c =
    more c.loop-place.places c.insert.new.self c.args.records.now c.loop-place.place c.index-records-place.result c.record.inside.path c.code_of.result c.loop-place-test.true c.index-records-place.is (ap (λ (r : RecordValue). r.path) c.record.view_is) c.code_of.ensures c.in_ok-insert.ensures.updates c.loop-place.invariant
