-- The walk from a context down to a Split, by Asserts.
use Rattle.std.proofs.Common.{◌≡◌, ℕ, List, [], ◌∷◌, ◌++◌, append-nil, append_assoc, refl, sym, subst, ap, ◌∙◌}
use Rattle.me_terms.specs.Values.{ProblemValue}
use Rattle.me_terms.specs.Context.{Context, add}
use Rattle.me_terms.specs.Grown.{IsGrown, asserted}
use Rattle.me_terms.specs.declared.bounds.Bounds.{Bounds}
use Rattle.branch_core.specs.Hooks.{ExtendsBy, History}
use Rattle.branch_core.proofs.Orderly.{replaced_more}
use Rattle.branch_core.specs.Paths.{Turns}
use Rattle.branch_core.specs.Replaced.{Replaced}
use Rattle.branch_core.specs.SearchTree.{IsSearchTree, asserts}
use Rattle.branch_walk.specs.Jobs.{turns_taken}
use Rattle.branch_core.specs.Portions.{MayBeGiven, sat_keys, MayCut}
use Rattle.branch_walk.specs.Tallies.{IsTally}
use Rattle.branch_walk.specs.Walks.{IsVisited, IsWalked, LeadsTo, GoesOn}
use Rattle.branch_walk.specs.declared.state.State.{State}
use Rattle.branch_walk.specs.declared.state.State.TheVariants.{Going, Cutting, Lost}
use Rattle.branch_walk.specs.declared.state.Visit.TheVariants as visit
use Rattle.branch_walk.specs.declared.tally.Tally.{Tally}
use Rattle.std.specs.List.{All}
use Rattle.branch_walk.proofs.TurnsTaken.{turns_assert}
use Rattle.branch_core.specs.Pieces.{Piece}
use Rattle.branch_walk.proofs.Places.{in_right, may_more}
use Rattle.branch_walk.proofs.Subtrees.{extends_none, extends_more, extends_sent}

-- the node is reached from the context by Asserts, and nothing came to the tally
pub record IsDescending (problem : ProblemValue) (bounds : Bounds) (context node : Context) (history now_history : History) (old new : Tally) : Type 0 where
  pub told : List ℕ
  pub leads : LeadsTo problem bounds context node
  pub extends : ExtendsBy history now_history [] told []
  pub same : new ≡ old
  pub below : (later : Context) × (node ≡ context ++ later)

module _ (problem : ProblemValue) (bounds : Bounds) (context : Context) (history : History) (old : Tally) where
  pub descent_begins : IsGrown problem bounds context → IsDescending problem bounds context context history history old old
  descent_begins grown = record {
    told = [];
    leads = record { grown = grown; turns = refl; tree = λ own h. h };
    extends = extends_none history;
    same = refl;
    below = ([], sym (append-nil context));
  }

  pub descends : (from to : Context) (h now : History) (was new : Tally) (told sent : List ℕ) → IsDescending problem bounds context from history h old was → ExtendsBy h now [] told sent → IsVisited problem bounds from to was new told sent visit.Asserted → IsDescending problem bounds context to history now old new
  descends from to h now was new told sent d extends v =
      let e = v.0 in
      let next = v.1 in
      let is = v.2 in
      let G : Context → Type 0 = λ c. IsGrown problem bounds c in
      record {
        told = d.told ++ told;
        leads = record {
          grown = subst G (sym is) (asserted d.leads.grown next);
          turns = ap turns_taken is ∙ (turns_assert problem bounds from e next ∙ d.leads.turns);
          tree = λ own tree. let S : Context → Type 0 = λ c. IsSearchTree problem bounds c own in d.leads.tree own (asserts next (subst S is tree));
        };
        extends = extends_more d.extends (extends_sent v.4 extends);
        same = v.3 ∙ d.same;
        below = (d.below.0 ++ e ∷ [], is ∙ (ap (λ (c : Context). add c e) d.below.1 ∙ append_assoc context d.below.0 (e ∷ [])));
      }

-- more keys may cut
pub goes_more : (state : State) (told told' : List ℕ) (ps qs : List Piece) (turns : Turns) → ((k : ℕ) (t : Turns) → MayCut told ps k t → MayCut told' qs k t) → sat_keys qs ≡ sat_keys ps → GoesOn state told ps turns → GoesOn state told' qs turns
goes_more Going told told' ps qs turns f same h = same ∙ h
goes_more (Cutting cut_key) told told' ps qs turns f same h = λ other left. f cut_key other (h other left)
goes_more Lost told told' ps qs turns f same h = tt

-- what was walked at the node, which is reached from the context by Asserts, was walked at the context
pub lifted : (problem : ProblemValue) (bounds : Bounds) (context node : Context) (history h now : History) (old was new : Tally) (state : State) (share : ℕ) (told : List ℕ) → LeadsTo problem bounds context node → ExtendsBy history h [] told [] → was ≡ old → IsWalked problem bounds share node state h now was new → IsWalked problem bounds share context state history now old new
lifted problem bounds context node history h now old was new state share told leads extends same w =
    let here = turns_taken context in
    let P : Turns → Type 0 = λ t. Replaced (MayCut w.told w.more) t w.own w.more × All (MayBeGiven share t) w.gave × GoesOn state w.told w.more t in
    let facts = subst P leads.turns (w.replaced, w.lawful, w.goes_on) in
    let all_told = told ++ w.told in
    let f = may_more w.told all_told w.more w.more (λ x i. in_right x told w.told i) (λ p i. i) in
    let T : Tally → Type 0 = λ t. (before : List Piece) → IsTally bounds.list t before → IsTally bounds.list new (before ++ w.more) in
    record {
      own = w.own;
      tree = leads.tree w.own w.tree;
      more = w.more;
      gave = w.gave;
      told = all_told;
      sent = w.sent;
      extends = extends_more extends w.extends;
      replaced = replaced_more f facts.0;
      gifts_are = w.gifts_are;
      lawful = facts.1;
      sent_is = w.sent_is;
      one_sat = w.one_sat;
      goes_on = goes_more state w.told all_told w.more w.more here f refl facts.2;
      tally = subst T same w.tally;
    }
