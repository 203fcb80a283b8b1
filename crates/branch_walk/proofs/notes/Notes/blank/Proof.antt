use Rattle.branch_walk.proofs.Steps.{◌≡◌, [], ◌∷◌, ℕ, List, refl, proved, emp, Val, vstruct, of_list, fact, fact_i, tables, ‵, raw, ◌⊛◌, ◌$◌, ◌∵◌, !, qed, done, keep, move, use0, split, join, suffices, enter, no_more, returns, alloc_all, pass_all, free_all, look_at, sets, agg, owns, types_at, nothing, alive, Stays, walk_of, ends_at}
use seplogic.Ra.Ura.{Ura}
use base.Logic.{ent}
use types.Logic.{Logic, sem}
use denote.Shadow.{makes_shadow}
use Rattle.branch_walk.specs.contracts.notes.Notes.{the_row as R}
use Rattle.branch_walk.specs.contracts.notes.Notes.blank as f
use Rattle.branch_walk.proofs.notes.Notes.blank.Statement.{statement}
use Rattle.branch_walk.proofs.notes.Notes.blank.Code as code

abbrev stayed : Stays f.ended.signature.params f.ended.kept
stayed = tt

abbrev token_val : Val
token_val = vstruct (of_list [])

made : {M : Type 1} {𝓤 : Ura M} (𝓛 : Logic 𝓤) (keys : List ℕ) → ent 𝓤 (emp 𝓤) (sem 𝓛 (R.own_val (record { keys = keys }) (token_val ∷ [])))
made 𝓛 keys = makes_shadow 𝓛 (R.own_val (record { keys = keys }) (token_val ∷ [])) ((λ uss. (tt, tt)), tt) ((tt, (refl, tt)), tt)

pub blank_spec : {M : Type 1} → statement M
blank_spec 𝓤 𝓛 𝓜 𝓡 wired =
    let c = f.clauses 𝓛 𝓜.mem 𝓡.returns in let W = walk_of 𝓛 f.ended stayed c in let 𝓣 = tables 𝓤 𝓛.H 𝓜 𝓡 𝓡.env in
    proved 𝓛 f.ended stayed c 𝓜 𝓡 tt f.Key.name code.function (code.unfolded 𝓤 𝓛.H 𝓜 𝓡 wired)
    (λ κs. tt) (λ κs. tt) (λ κs qs bounds a gh are.
    let r : R.Denot = record { keys = [] } in
    let Told : Type 0 = r.keys ≡ [] in
    let y : W.Ghost = ((κs, qs, bounds, a, tt), gh) in
    qed 𝓛 ((raw (alive 𝓛 f.ended.signature κs qs) ⊛ ‵ (owns (types_at f.ended.signature.params κs) a y.0.4)) ∷ raw ((c κs a).requires gh) ∷ []) ∵
    split ! $ keep ! (0 ∷ []) $
    use0 𝓛 (‵ (R.own_val r (token_val ∷ []))) (made 𝓛 []) $
    enter ! _ _ _ _ _ $ alloc_all ! (λ l. pass_all ! refl tt $
    sets ! (agg ! (no_more !)) refl (tt, tt) $
    use0 𝓛 (raw (fact 𝓤 Told)) (fact_i 𝓤 Told (emp 𝓤) refl) $ nothing ! $
    returns ! (look_at ! 0 refl) $ free_all ! refl $ keep ! (3 ∷ 0 ∷ 2 ∷ 1 ∷ []) $
    suffices ! _ (ends_at 𝓛 f.ended stayed c y token_val r tt tt) $ move ! (1 ∷ 2 ∷ []) $ join ! $ move ! (1 ∷ 0 ∷ []) $ join ! $ done !))
