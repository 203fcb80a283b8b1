-- What passes between a walk and the search around it, and what an answer to a gift says.
use Rattle.std.specs.Prelude.{◌≡◌, ℕ, List, [], ◌∷◌, ◌++◌, ◌↔◌, Option, option_to_list}
use Rattle.branch_core.specs.Paths.{Turns}
use Rattle.branch_core.specs.declared.hook.Give.{Give}
use Rattle.branch_core.specs.declared.hook.Give.TheVariants.{Away, NoRoom, NotNew}

-- What passed between a walk and the search around it, each in order: the paths that were given away, the least keys that the walk was told, and the keys that it posted.
pub record History : Type 0 where
  pub given : List Turns
  pub told : List ℕ
  pub posted : List ℕ

-- The history after a gift of this path was answered: one path more was given away exactly where it went.
abbrev pub after_gift : {J : Type 0} → History → Turns → Give J → History
after_gift history path Away = record history { given = history.given ++ path ∷ [] }
after_gift history path (NoRoom work) = history
after_gift history path (NotNew work word) = history

-- The history after the walk asked for the least key, and was told this one or none.
abbrev pub after_look : History → Option ℕ → History
after_look history least = record history { told = history.told ++ option_to_list least }

-- The history after this key was posted.
abbrev pub after_post : History → ℕ → History
after_post history key = record history { posted = history.posted ++ key ∷ [] }

-- From the one history to the other these paths were given away, these keys were told, and these posted.
pub record ExtendsBy (old new : History) (given : List Turns) (told posted : List ℕ) : Type 0 where
  pub given_are : new.given ≡ old.given ++ given
  pub told_are : new.told ≡ old.told ++ told
  pub posted_are : new.posted ≡ old.posted ++ posted

-- What is handed back is the work that was to be given.
abbrev pub HandsBack : {J : Type 0} → J → Give J → Type 0
HandsBack work Away = Unit {0}
HandsBack work (NoRoom back) = back ≡ work
HandsBack work (NotNew back word) = back ≡ work

-- The word of a path that is not new is not 0.
abbrev pub TellsWord : {J : Type 0} → Give J → Type 0
TellsWord Away = Unit {0}
TellsWord (NoRoom work) = Unit {0}
TellsWord (NotNew work word) = ¬ (word ≡ 0)

-- Both admit the same paths with the same works.
abbrev pub SameGifts : {J : Type 0} → (Turns → J → Type 0) → (Turns → J → Type 0) → Type 0
SameGifts {J} before after = (path : Turns) (work : J) → before path work ↔ after path work
