use Rattle.branch_walk.proofs.Steps.{◌≡◌, ◌++◌, [], ◌∷◌, ℕ, List, refl, proved, emp, Val, vstruct, of_list, fact, fact_i, tables, ‵, raw, ◌⊛◌, ◌$◌, ◌∵◌, !, qed, done, keep, move, use0, split, join, suffices, enter, no_more, returns, alloc_all, pass_all, free_all, look_at, sets, agg, owns, types_at, plain, yes, nothing, alive, Stays, stay_dropped, Goes-dropped, walk_of, ends_at, fjoin, w16, u16, Is, uint_vals, uint_Tells}
use seplogic.Ra.Ura.{Ura}
use base.Logic.{ent}
use types.Logic.{Logic, sem}
use denote.Shadow.{makes_shadow}
use Rattle.branch_walk.specs.contracts.notes.Notes.{the_row as R}
use Rattle.branch_walk.specs.contracts.notes.Notes.noted as f
use Rattle.branch_walk.proofs.notes.Notes.noted.Statement.{statement}
use Rattle.branch_walk.proofs.notes.Notes.noted.Code as code

abbrev stayed : Stays f.ended.signature.params f.ended.kept
stayed = (stay_dropped (plain (λ _. R)) yes, (stay_dropped (plain (λ _. u16)) yes, tt))

abbrev token_val : Val
token_val = vstruct (of_list [])

made : {M : Type 1} {𝓤 : Ura M} (𝓛 : Logic 𝓤) (keys : List ℕ) → ent 𝓤 (emp 𝓤) (sem 𝓛 (R.own_val (record { keys = keys }) (token_val ∷ [])))
made 𝓛 keys = makes_shadow 𝓛 (R.own_val (record { keys = keys }) (token_val ∷ [])) ((λ uss. (tt, tt)), tt) ((tt, (refl, tt)), tt)

told : (x : R.Denot) (vs : List Val) → Is R x vs → vs ≡ token_val ∷ []
told x vs is = is.0.1.0

pub noted_spec : {M : Type 1} → statement M
noted_spec 𝓤 𝓛 𝓜 𝓡 wired =
    let c = f.clauses 𝓛 𝓜.mem 𝓡.returns in let W = walk_of 𝓛 f.ended stayed c in let 𝓣 = tables 𝓤 𝓛.H 𝓜 𝓡 𝓡.env in
    proved 𝓛 f.ended stayed c 𝓜 𝓡 (Goes-dropped 𝓛 0 (plain (λ _. R)) yes (λ κs x w. refl), (Goes-dropped 𝓛 0 (plain (λ _. u16)) yes (λ κs x w. refl), tt))
    f.Key.name code.function (code.unfolded 𝓤 𝓛.H 𝓜 𝓡 wired)
    (λ κs. ((λ _. token_val ∷ []), (uint_vals w16, tt))) (λ κs. (told, (uint_Tells w16, tt))) (λ κs qs bounds a gh are.
    let r : R.Denot = record { keys = a.0.keys ++ a.1.0 ∷ [] } in
    let Told : Type 0 = r.keys ≡ a.0.keys ++ a.1.0 ∷ [] in
    let y : W.Ghost = ((κs, qs, bounds, a, (token_val ∷ [], (uint_vals w16 a.1.0, tt))), gh) in
    qed 𝓛 ((raw (alive 𝓛 f.ended.signature κs qs) ⊛ ‵ (owns (types_at f.ended.signature.params κs) a y.0.4)) ∷ raw ((c κs a).requires gh) ∷ []) ∵
    split ! $ keep ! (0 ∷ []) $
    use0 𝓛 (‵ (R.own_val r (token_val ∷ []))) (made 𝓛 r.keys) $
    enter ! _ _ _ _ _ $ alloc_all ! (λ l. pass_all ! refl ((tt, tt), ((tt, record { fits = are.1.0.1 }), tt)) $
    sets ! (agg ! (no_more !)) refl (tt, tt) $
    use0 𝓛 (raw (fact 𝓤 Told)) (fact_i 𝓤 Told (emp 𝓤) refl) $ nothing ! $ nothing ! $ nothing ! $ fjoin ! $ move ! (1 ∷ []) $ fjoin ! $
    returns ! (look_at ! 0 refl) $ free_all ! refl $ keep ! (3 ∷ 0 ∷ 2 ∷ 1 ∷ []) $
    suffices ! _ (ends_at 𝓛 f.ended stayed c y token_val r (tt, (tt, tt)) (tt, (tt, tt))) $ move ! (1 ∷ 2 ∷ []) $ join ! $ move ! (1 ∷ 0 ∷ []) $ join ! $ done !))
