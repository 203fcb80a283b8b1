-- Where the reader stands in an include, and with what an include goes on there.
use Rattle.std.proofs.Common.{◌≡◌, ◌≢◌, ◌⊎◌, inl, inr, ℕ, List, [], ◌∷◌, ◌++◌, map, Option, Some, None, codes, refl, sym, ap, subst, ◌∙◌, append_assoc}
use Rattle.std.proofs.lemmas.List.{map-append}
use Rattle.std.proofs.lemmas.Grind.{flat_map-append}
use Rattle.me_terms.specs.Values.{LabelValue}
use Rattle.tptp_grammar.specs.Terminals.{Terminal, LowerWord, SingleQuoted, Digits, OpenRound, CloseRound, OpenSquare, CloseSquare, Comma, Dot}
use Rattle.tptp_grammar.specs.Written.{WrittenLabel, Named, Numbered, Bare, Quoted}
use Rattle.tptp_grammar.specs.Printed.{label_terminal}
use Rattle.tptp_cnf.specs.Meaning.{label_of}
use Rattle.tptp_cnf.specs.Rows.{label_as}
use Rattle.tptp_lines.specs.WrittenLines.{Selection, WrittenInclude, commaed, selection_terminals, include_terminals}
use Rattle.tptp_lines.specs.Lines.{LineValue, Include, picks_of}
use Rattle.tptp_lines.specs.Progress.{Progress, some_picks, include_step, include_fed, at_stage}
use Rattle.tptp_lines.specs.declared.stage.Stage.{Stage}
use Rattle.tptp_lines.specs.declared.stage.Stage.TheVariants as stage

-- ---- the fronts of an include

abbrev opened : List Terminal
opened = LowerWord (codes "include") ∷ OpenRound ∷ []

abbrev named : List ℕ → List Terminal
named file = LowerWord (codes "include") ∷ OpenRound ∷ SingleQuoted file ∷ []

abbrev selecting : List ℕ → List Terminal → List Terminal
selecting file ts = LowerWord (codes "include") ∷ OpenRound ∷ SingleQuoted file ∷ Comma ∷ ts

-- some names, of which another comes next
abbrev picking : List WrittenLabel → List Terminal
picking [] = []
picking (l ∷ ls) = label_terminal l ∷ (commaed ls ++ Comma ∷ [])

abbrev picked : WrittenLabel → List WrittenLabel → List Terminal
picked l ls = label_terminal l ∷ commaed ls

-- where the reader stands in an include
abbrev pub IncludePlace : Stage → List Terminal → Progress → Type 0
IncludePlace stage.Formula ts p = ⊥
IncludePlace stage.Included ts p = ts ≡ LowerWord (codes "include") ∷ []
IncludePlace stage.Opened ts p = ts ≡ opened
IncludePlace stage.Named ts p = (ts ≡ named p.file) × (p.picks ≡ [])
IncludePlace stage.Selecting ts p = (ts ≡ selecting p.file []) × (p.picks ≡ [])
IncludePlace stage.Picking ts p = (chosen : List WrittenLabel) × (ts ≡ selecting p.file (OpenSquare ∷ picking chosen)) × (p.picks ≡ map label_of chosen)
IncludePlace stage.Picked ts p = (first : WrittenLabel) × (others : List WrittenLabel) × (ts ≡ selecting p.file (OpenSquare ∷ picked first others)) × (p.picks ≡ label_of first ∷ map label_of others)
IncludePlace stage.Selected ts p = (first : WrittenLabel) × (others : List WrittenLabel) × (ts ≡ selecting p.file (OpenSquare ∷ (picked first others ++ CloseSquare ∷ []))) × (p.picks ≡ label_of first ∷ map label_of others)
IncludePlace stage.Closed ts p = (s : Option Selection) × (ts ≡ named p.file ++ (selection_terminals s ++ CloseRound ∷ [])) × (some_picks p.picks ≡ picks_of s)

-- the include is read whole
pub record IsIncluded (ts : List Terminal) (p q : Progress) : Type 0 where
  pub written : WrittenInclude
  pub same : ts ≡ include_terminals written
  pub line : q.lines ≡ p.lines ++ Include written.file (picks_of written.selection) ∷ []

abbrev pub PlaceAfter : Stage → List Terminal → Progress → Progress → Type 0
PlaceAfter stage.Formula ts p q = IsIncluded ts p q
PlaceAfter s ts p q = IncludePlace s ts q × (q.lines ≡ p.lines)

-- ---- one token more

push : {xs ys : List Terminal} (t : Terminal) → xs ≡ ys → xs ++ t ∷ [] ≡ ys ++ t ∷ []
push t e = ap (λ (x : List Terminal). x ++ t ∷ []) e

-- the place is that of the stage that comes next
abbrev Follows : Option Stage → Stage → List Terminal → Terminal → Progress → Type 0
Follows None s ts t p = Unit {0}
Follows (Some u) s ts t p = PlaceAfter u (ts ++ t ∷ []) p (at_stage u (include_fed s t p))

commaed-push : (ls : List WrittenLabel) (l : WrittenLabel) → commaed ls ++ Comma ∷ label_terminal l ∷ [] ≡ commaed (ls ++ l ∷ [])
commaed-push ls l = sym (flat_map-append (λ label. Comma ∷ label_terminal label ∷ []) ls (l ∷ []))

map-push : (ls : List WrittenLabel) (l : WrittenLabel) → map label_of ls ++ label_of l ∷ [] ≡ map label_of (ls ++ l ∷ [])
map-push ls l = sym (map-append label_of ls (l ∷ []))

-- one name more
name_more : (l : WrittenLabel) (ts : List Terminal) (p : Progress) → IncludePlace stage.Picking ts p → IncludePlace stage.Picked (ts ++ label_terminal l ∷ []) (record { reading = p.reading; stage = stage.Picked; label = p.label; from = p.from; file = p.file; picks = p.picks ++ label_of l ∷ []; lines = p.lines })
name_more l ts p h = by h.0 h.1 h.2
  where
    by : (chosen : List WrittenLabel) → ts ≡ selecting p.file (OpenSquare ∷ picking chosen) → p.picks ≡ map label_of chosen
        → IncludePlace stage.Picked (ts ++ label_terminal l ∷ []) (record { reading = p.reading; stage = stage.Picked; label = p.label; from = p.from; file = p.file; picks = p.picks ++ label_of l ∷ []; lines = p.lines })
    by [] e k = (l, [], push (label_terminal l) e, ap (λ (x : List LabelValue). x ++ label_of l ∷ []) k)
    by (c ∷ cs) e k = (
      c,
      cs ++ l ∷ [],
      push (label_terminal l) e
          ∙ ap (λ (x : List Terminal). selecting p.file (OpenSquare ∷ label_terminal c ∷ x)) (append_assoc (commaed cs) (Comma ∷ []) (label_terminal l ∷ []) ∙ commaed-push cs l),
      ap (λ (x : List LabelValue). x ++ label_of l ∷ []) k ∙ ap (λ (x : List LabelValue). label_of c ∷ x) (map-push cs l),
    )

picks_none : (picks : List LabelValue) → picks ≡ [] → some_picks picks ≡ None
picks_none [] e = refl
picks_none (x ∷ xs) e = absurd cc

picks_some : (picks : List LabelValue) (first : WrittenLabel) (others : List WrittenLabel) → picks ≡ label_of first ∷ map label_of others → some_picks picks ≡ picks_of (Some (record { first = first; others = others }))
picks_some picks first others e = ap some_picks e

included_more : (t : Terminal) (ts : List Terminal) (p : Progress) → IncludePlace stage.Included ts p → Follows (include_step stage.Included t) stage.Included ts t p
included_more OpenRound ts p h = (push OpenRound h, refl)
included_more t ts p h = tt

opened_more : (t : Terminal) (ts : List Terminal) (p : Progress) → IncludePlace stage.Opened ts p → Follows (include_step stage.Opened t) stage.Opened ts t p
opened_more (SingleQuoted text) ts p h = ((push (SingleQuoted text) h, refl), refl)
opened_more t ts p h = tt

named_more : (t : Terminal) (ts : List Terminal) (p : Progress) → IncludePlace stage.Named ts p → Follows (include_step stage.Named t) stage.Named ts t p
named_more Comma ts p h = ((push Comma h.0, h.1), refl)
named_more CloseRound ts p h = ((None, push CloseRound h.0, picks_none p.picks h.1), refl)
named_more t ts p h = tt

selecting_more : (t : Terminal) (ts : List Terminal) (p : Progress) → IncludePlace stage.Selecting ts p → Follows (include_step stage.Selecting t) stage.Selecting ts t p
selecting_more OpenSquare ts p h = (([], push OpenSquare h.0, h.1), refl)
selecting_more t ts p h = tt

picking_more : (t : Terminal) (ts : List Terminal) (p : Progress) → IncludePlace stage.Picking ts p → Follows (include_step stage.Picking t) stage.Picking ts t p
picking_more (LowerWord text) ts p h = (name_more (Named (Bare text)) ts p h, refl)
picking_more (SingleQuoted text) ts p h = (name_more (Named (Quoted text)) ts p h, refl)
picking_more (Digits text) ts p h = (name_more (Numbered text) ts p h, refl)
picking_more t ts p h = tt

picked_more : (t : Terminal) (ts : List Terminal) (p : Progress) → IncludePlace stage.Picked ts p → Follows (include_step stage.Picked t) stage.Picked ts t p
picked_more Comma ts p h = ((h.0 ∷ h.1, push Comma h.2, h.3), refl)
picked_more CloseSquare ts p h = ((h.0, h.1, push CloseSquare h.2, h.3), refl)
picked_more t ts p h = tt

selected_more : (t : Terminal) (ts : List Terminal) (p : Progress) → IncludePlace stage.Selected ts p → Follows (include_step stage.Selected t) stage.Selected ts t p
selected_more CloseRound ts p h = ((Some (record { first = h.0; others = h.1 }), push CloseRound h.2, picks_some p.picks h.0 h.1 h.3), refl)
selected_more t ts p h = tt

closed_more : (t : Terminal) (ts : List Terminal) (p : Progress) → IncludePlace stage.Closed ts p → Follows (include_step stage.Closed t) stage.Closed ts t p
closed_more Dot ts p h = record {
  written = record { file = p.file; selection = h.0 };
  same = push Dot h.1 ∙ ap (λ (x : List Terminal). named p.file ++ x) (append_assoc (selection_terminals h.0) (CloseRound ∷ []) (Dot ∷ []));
  line = ap (λ (x : Option (List LabelValue)). p.lines ++ Include p.file x ∷ []) h.2;
}
closed_more t ts p h = tt

follows : (s : Stage) (t : Terminal) (ts : List Terminal) (p : Progress) → IncludePlace s ts p → Follows (include_step s t) s ts t p
follows stage.Formula t ts p h = absurd h
follows stage.Included t ts p h = included_more t ts p h
follows stage.Opened t ts p h = opened_more t ts p h
follows stage.Named t ts p h = named_more t ts p h
follows stage.Selecting t ts p h = selecting_more t ts p h
follows stage.Picking t ts p h = picking_more t ts p h
follows stage.Picked t ts p h = picked_more t ts p h
follows stage.Selected t ts p h = selected_more t ts p h
follows stage.Closed t ts p h = closed_more t ts p h

pub include_more : (s u : Stage) (t : Terminal) (ts : List Terminal) (p : Progress) → IncludePlace s ts p → include_step s t ≡ Some u → PlaceAfter u (ts ++ t ∷ []) p (at_stage u (include_fed s t p))
include_more s u t ts p h e = subst (λ (x : Option Stage). Follows x s ts t p) e (follows s t ts p h)

-- ---- a token with which no include goes on

-- the include goes on with the token behind these
abbrev GoesOnWith : List Terminal → Terminal → Type 0
GoesOnWith ts t = (written : WrittenInclude) × (others : List Terminal) × (include_terminals written ≡ ts ++ t ∷ others)

no_step : (s u : Stage) (t : Terminal) → include_step s t ≡ None → include_step s t ≡ Some u → ⊥
no_step s u t e k = cc

name_steps : (l : WrittenLabel) → include_step stage.Picking (label_terminal l) ≡ Some stage.Picked
name_steps (Named (Bare text)) = refl
name_steps (Named (Quoted text)) = refl
name_steps (Numbered text) = refl

-- behind the names of a selection come another one, or its end
picks_next : (first c : WrittenLabel) (others cs : List WrittenLabel) (rest us : List Terminal) (t : Terminal) → label_terminal first ∷ (commaed others ++ CloseSquare ∷ rest) ≡ label_terminal c ∷ (commaed cs ++ t ∷ us)
    → (include_step stage.Picked t ≡ Some stage.Picking) ⊎ ((include_step stage.Picked t ≡ Some stage.Selected) × (rest ≡ us))
picks_next first c [] [] rest us t e = let same : t ≡ CloseSquare = cc in inr (ap (include_step stage.Picked) same, cc)
picks_next first c (o ∷ others) [] rest us t e = let same : t ≡ Comma = cc in inl (ap (include_step stage.Picked) same)
picks_next first c [] (d ∷ cs) rest us t e = let no : CloseSquare ≡ Comma = cc in absurd cc
picks_next first c (o ∷ others) (d ∷ cs) rest us t e = let tails : label_terminal o ∷ (commaed others ++ CloseSquare ∷ rest) ≡ label_terminal d ∷ (commaed cs ++ t ∷ us) = cc in picks_next o d others cs rest us t tails

-- behind a comma in a selection comes a name
name_next : (first c : WrittenLabel) (others cs : List WrittenLabel) (rest us : List Terminal) (t : Terminal) → label_terminal first ∷ (commaed others ++ CloseSquare ∷ rest) ≡ label_terminal c ∷ (commaed cs ++ Comma ∷ t ∷ us) → include_step stage.Picking t ≡ Some stage.Picked
name_next first c [] [] rest us t e = let no : CloseSquare ≡ Comma = cc in absurd cc
name_next first c (o ∷ others) [] rest us t e = let same : t ≡ label_terminal o = cc in ap (include_step stage.Picking) same ∙ name_steps o
name_next first c [] (d ∷ cs) rest us t e = let no : CloseSquare ≡ Comma = cc in absurd cc
name_next first c (o ∷ others) (d ∷ cs) rest us t e = let tails : label_terminal o ∷ (commaed others ++ CloseSquare ∷ rest) ≡ label_terminal d ∷ (commaed cs ++ Comma ∷ t ∷ us) = cc in name_next o d others cs rest us t tails

-- behind the end of a selection
end_next : (first c : WrittenLabel) (others cs : List WrittenLabel) (rest us : List Terminal) → label_terminal first ∷ (commaed others ++ CloseSquare ∷ rest) ≡ label_terminal c ∷ (commaed cs ++ CloseSquare ∷ us) → rest ≡ us
end_next first c [] [] rest us e = cc
end_next first c (o ∷ others) [] rest us e = let no : CloseSquare ≡ Comma = cc in absurd cc
end_next first c [] (d ∷ cs) rest us e = let no : CloseSquare ≡ Comma = cc in absurd cc
end_next first c (o ∷ others) (d ∷ cs) rest us e = let tails : label_terminal o ∷ (commaed others ++ CloseSquare ∷ rest) ≡ label_terminal d ∷ (commaed cs ++ CloseSquare ∷ us) = cc in end_next o d others cs rest us tails

abbrev Steps : Stage → Terminal → Type 0
Steps s t = (u : Stage) × (include_step s t ≡ Some u)

-- the tokens behind the name of the file
abbrev rest_of : Option Selection → List Terminal
rest_of s = selection_terminals s ++ CloseRound ∷ Dot ∷ []

selection_row : (s : Selection) → rest_of (Some s) ≡ Comma ∷ OpenSquare ∷ label_terminal s.first ∷ (commaed s.others ++ CloseSquare ∷ CloseRound ∷ Dot ∷ [])
selection_row s = ap (λ (x : List Terminal). Comma ∷ OpenSquare ∷ label_terminal s.first ∷ x) (append_assoc (commaed s.others) (CloseSquare ∷ []) (CloseRound ∷ Dot ∷ []))

-- where the tokens behind the name of the file are these
named_steps : (s : Option Selection) (t : Terminal) (us : List Terminal) → rest_of s ≡ t ∷ us → Steps stage.Named t
named_steps None t us e = let same : t ≡ CloseRound = cc in (stage.Closed, ap (include_step stage.Named) same)
named_steps (Some s) t us e = let same : t ≡ Comma = cc in (stage.Selecting, ap (include_step stage.Named) same)

selecting_steps : (s : Option Selection) (t : Terminal) (us : List Terminal) → rest_of s ≡ Comma ∷ t ∷ us → Steps stage.Selecting t
selecting_steps None t us e = let no : CloseRound ≡ Comma = cc in absurd cc
selecting_steps (Some s) t us e = let same : t ≡ OpenSquare = cc in (stage.Picking, ap (include_step stage.Selecting) same)

picking_steps : (s : Option Selection) (chosen : List WrittenLabel) (t : Terminal) (us : List Terminal) → rest_of s ≡ Comma ∷ OpenSquare ∷ (picking chosen ++ t ∷ us) → Steps stage.Picking t
picking_steps None chosen t us e = let no : CloseRound ≡ Comma = cc in absurd cc
picking_steps (Some s) [] t us e = let same : t ≡ label_terminal s.first = cc in (stage.Picked, ap (include_step stage.Picking) same ∙ name_steps s.first)
picking_steps (Some s) (c ∷ cs) t us e =
    let row = sym (selection_row s) ∙ e ∙ ap (λ (x : List Terminal). Comma ∷ OpenSquare ∷ label_terminal c ∷ x) (append_assoc (commaed cs) (Comma ∷ []) (t ∷ us)) in
    let tails : label_terminal s.first ∷ (commaed s.others ++ CloseSquare ∷ CloseRound ∷ Dot ∷ []) ≡ label_terminal c ∷ (commaed cs ++ Comma ∷ t ∷ us) = cc in
    (stage.Picked, name_next s.first c s.others cs (CloseRound ∷ Dot ∷ []) us t tails)

picked_steps : (s : Option Selection) (c : WrittenLabel) (cs : List WrittenLabel) (t : Terminal) (us : List Terminal) → rest_of s ≡ Comma ∷ OpenSquare ∷ (picked c cs ++ t ∷ us) → Steps stage.Picked t
picked_steps None c cs t us e = let no : CloseRound ≡ Comma = cc in absurd cc
picked_steps (Some s) c cs t us e =
    let row = sym (selection_row s) ∙ e in
    let tails : label_terminal s.first ∷ (commaed s.others ++ CloseSquare ∷ CloseRound ∷ Dot ∷ []) ≡ label_terminal c ∷ (commaed cs ++ t ∷ us) = cc in
    by (picks_next s.first c s.others cs (CloseRound ∷ Dot ∷ []) us t tails)
  where
    by : (include_step stage.Picked t ≡ Some stage.Picking) ⊎ ((include_step stage.Picked t ≡ Some stage.Selected) × (CloseRound ∷ Dot ∷ [] ≡ us)) → Steps stage.Picked t
    by (inl h) = (stage.Picking, h)
    by (inr h) = (stage.Selected, h.0)

ends_same : (s : Selection) (c : WrittenLabel) (cs : List WrittenLabel) (us : List Terminal) → rest_of (Some s) ≡ Comma ∷ OpenSquare ∷ label_terminal c ∷ (commaed cs ++ CloseSquare ∷ us) → CloseRound ∷ Dot ∷ [] ≡ us
ends_same s c cs us e =
    let row = sym (selection_row s) ∙ e in
    let tails : label_terminal s.first ∷ (commaed s.others ++ CloseSquare ∷ CloseRound ∷ Dot ∷ []) ≡ label_terminal c ∷ (commaed cs ++ CloseSquare ∷ us) = cc in
    end_next s.first c s.others cs (CloseRound ∷ Dot ∷ []) us tails

selected_steps : (s : Option Selection) (c : WrittenLabel) (cs : List WrittenLabel) (t : Terminal) (us : List Terminal) → rest_of s ≡ Comma ∷ OpenSquare ∷ ((picked c cs ++ CloseSquare ∷ []) ++ t ∷ us) → Steps stage.Selected t
selected_steps None c cs t us e = let no : CloseRound ≡ Comma = cc in absurd cc
selected_steps (Some s) c cs t us e =
    let tail = ends_same s c cs (t ∷ us) (e ∙ ap (λ (x : List Terminal). Comma ∷ OpenSquare ∷ label_terminal c ∷ x) (append_assoc (commaed cs) (CloseSquare ∷ []) (t ∷ us))) in
    let same : t ≡ CloseRound = cc in
    (stage.Closed, ap (include_step stage.Selected) same)

dot_steps : (t : Terminal) → t ≡ Dot → Steps stage.Closed t
dot_steps t e = (stage.Formula, ap (include_step stage.Closed) e)

closed_steps : (s q : Option Selection) (t : Terminal) (us : List Terminal) → rest_of s ≡ (selection_terminals q ++ CloseRound ∷ []) ++ t ∷ us → Steps stage.Closed t
closed_steps None None t us e = dot_steps t cc
closed_steps None (Some q) t us e = let no : CloseRound ≡ Comma = cc in absurd cc
closed_steps (Some s) None t us e = let no : CloseRound ≡ Comma = cc in absurd cc
closed_steps (Some s) (Some q) t us e =
    let all : (selection_terminals (Some q) ++ CloseRound ∷ []) ++ t ∷ us ≡ Comma ∷ OpenSquare ∷ label_terminal q.first ∷ (commaed q.others ++ CloseSquare ∷ CloseRound ∷ t ∷ us) =
    append_assoc (selection_terminals (Some q)) (CloseRound ∷ []) (t ∷ us) ∙ ap (λ (x : List Terminal). Comma ∷ OpenSquare ∷ label_terminal q.first ∷ x) (append_assoc (commaed q.others) (CloseSquare ∷ []) (CloseRound ∷ t ∷ us)) in
    let tail = ends_same s q.first q.others (CloseRound ∷ t ∷ us) (e ∙ all) in
    dot_steps t cc

-- an include that goes on with the token takes the step
pub steps : (s : Stage) (t : Terminal) (ts : List Terminal) (p : Progress) → IncludePlace s ts p → (written : WrittenInclude) (us : List Terminal) → include_terminals written ≡ ts ++ t ∷ us → Steps s t
steps stage.Formula t ts p h w us e = absurd h
steps stage.Included t ts p h w us e = let all = e ∙ ap (λ (x : List Terminal). x ++ t ∷ us) h in let same : t ≡ OpenRound = cc in (stage.Opened, ap (include_step stage.Included) same)
steps stage.Opened t ts p h w us e = let all = e ∙ ap (λ (x : List Terminal). x ++ t ∷ us) h in let same : t ≡ SingleQuoted w.file = cc in (stage.Named, ap (include_step stage.Opened) same)
steps stage.Named t ts p h w us e = let all = e ∙ ap (λ (x : List Terminal). x ++ t ∷ us) h.0 in let tails : rest_of w.selection ≡ t ∷ us = cc in named_steps w.selection t us tails
steps stage.Selecting t ts p h w us e = let all = e ∙ ap (λ (x : List Terminal). x ++ t ∷ us) h.0 in let tails : rest_of w.selection ≡ Comma ∷ t ∷ us = cc in selecting_steps w.selection t us tails
steps stage.Picking t ts p h w us e = let all = e ∙ ap (λ (x : List Terminal). x ++ t ∷ us) h.1 in let tails : rest_of w.selection ≡ Comma ∷ OpenSquare ∷ (picking h.0 ++ t ∷ us) = cc in picking_steps w.selection h.0 t us tails
steps stage.Picked t ts p h w us e = let all = e ∙ ap (λ (x : List Terminal). x ++ t ∷ us) h.2 in let tails : rest_of w.selection ≡ Comma ∷ OpenSquare ∷ (picked h.0 h.1 ++ t ∷ us) = cc in picked_steps w.selection h.0 h.1 t us tails
steps stage.Selected t ts p h w us e = let all = e ∙ ap (λ (x : List Terminal). x ++ t ∷ us) h.2 in let tails : rest_of w.selection ≡ Comma ∷ OpenSquare ∷ ((picked h.0 h.1 ++ CloseSquare ∷ []) ++ t ∷ us) = cc in selected_steps w.selection h.0 h.1 t us tails
steps stage.Closed t ts p h w us e = let all = e ∙ ap (λ (x : List Terminal). x ++ t ∷ us) h.1 in let tails : rest_of w.selection ≡ (selection_terminals h.0 ++ CloseRound ∷ []) ++ t ∷ us = cc in closed_steps w.selection h.0 t us tails

pub stuck : (s : Stage) (t : Terminal) (ts : List Terminal) (p : Progress) → IncludePlace s ts p → include_step s t ≡ None → (written : WrittenInclude) (us : List Terminal) → include_terminals written ≡ ts ++ t ∷ us → ⊥
stuck s t ts p h e w us k = let u = steps s t ts p h w us k in no_step s u.0 t e u.1

-- ---- an include that goes on

pub record Unfinished (ts : List Terminal) : Type 0 where
  pub begun : ts ≢ []
  pub written : WrittenInclude
  pub next : Terminal
  pub others : List Terminal
  pub front : include_terminals written ≡ ts ++ next ∷ others

abbrev some_name : WrittenLabel
some_name = Named (Bare (codes "a"))

not_nil : (t : Terminal) (xs ys : List Terminal) → ys ≡ t ∷ xs → ys ≢ []
not_nil t xs ys e k = cc

at_front : (ts front : List Terminal) (next : Terminal) (others : List Terminal) → ts ≡ front → front ++ next ∷ others ≡ ts ++ next ∷ others
at_front ts front next others e = ap (λ (x : List Terminal). x ++ next ∷ others) (sym e)

pub unfinished : (s : Stage) (ts : List Terminal) (p : Progress) → IncludePlace s ts p → Unfinished ts
unfinished stage.Formula ts p h = absurd h
unfinished stage.Included ts p h = record { begun = not_nil _ _ ts h; written = record { file = []; selection = None }; next = OpenRound; others = SingleQuoted [] ∷ CloseRound ∷ Dot ∷ []; front = at_front ts _ _ _ h }
unfinished stage.Opened ts p h = record { begun = not_nil _ _ ts h; written = record { file = []; selection = None }; next = SingleQuoted []; others = CloseRound ∷ Dot ∷ []; front = at_front ts _ _ _ h }
unfinished stage.Named ts p h = record { begun = not_nil _ _ ts h.0; written = record { file = p.file; selection = None }; next = CloseRound; others = Dot ∷ []; front = at_front ts _ _ _ h.0 }
unfinished stage.Selecting ts p h = record {
  begun = not_nil _ _ ts h.0;
  written = record { file = p.file; selection = Some (record { first = some_name; others = [] }) };
  next = OpenSquare;
  others = label_terminal some_name ∷ CloseSquare ∷ CloseRound ∷ Dot ∷ [];
  front = at_front ts _ _ _ h.0;
}
unfinished stage.Picking ts p h = by h.0 h.1
  where
    by : (chosen : List WrittenLabel) → ts ≡ selecting p.file (OpenSquare ∷ picking chosen) → Unfinished ts
    by [] e = record {
      begun = not_nil _ _ ts e;
      written = record { file = p.file; selection = Some (record { first = some_name; others = [] }) };
      next = label_terminal some_name;
      others = CloseSquare ∷ CloseRound ∷ Dot ∷ [];
      front = at_front ts _ _ _ e;
    }
    by (c ∷ cs) e =
        let s : Selection = record { first = c; others = cs ++ some_name ∷ [] } in
        let end : List Terminal = CloseSquare ∷ CloseRound ∷ Dot ∷ [] in
        record {
          begun = not_nil _ _ ts e;
          written = record { file = p.file; selection = Some s };
          next = label_terminal some_name;
          others = end;
          front = ap (λ (x : List Terminal). named p.file ++ x) (selection_row s
              ∙ ap (λ (x : List Terminal). Comma ∷ OpenSquare ∷ label_terminal c ∷ x)
              (ap (λ (x : List Terminal). x ++ end) (sym (commaed-push cs some_name)) ∙ append_assoc (commaed cs) (Comma ∷ label_terminal some_name ∷ []) end ∙ sym (append_assoc (commaed cs) (Comma ∷ []) (label_terminal some_name ∷ end))))
              ∙ at_front ts (selecting p.file (OpenSquare ∷ picking (c ∷ cs))) (label_terminal some_name) end e;
        }
unfinished stage.Picked ts p h =
    let s : Selection = record { first = h.0; others = h.1 } in
    record {
      begun = not_nil _ _ ts h.2;
      written = record { file = p.file; selection = Some s };
      next = CloseSquare;
      others = CloseRound ∷ Dot ∷ [];
      front = ap (λ (x : List Terminal). named p.file ++ x) (selection_row s) ∙ at_front ts (selecting p.file (OpenSquare ∷ picked h.0 h.1)) CloseSquare (CloseRound ∷ Dot ∷ []) h.2;
    }
unfinished stage.Selected ts p h =
    let s : Selection = record { first = h.0; others = h.1 } in
    record {
      begun = not_nil _ _ ts h.2;
      written = record { file = p.file; selection = Some s };
      next = CloseRound;
      others = Dot ∷ [];
      front = ap (λ (x : List Terminal). named p.file ++ x) refl ∙ at_front ts (selecting p.file (OpenSquare ∷ (picked h.0 h.1 ++ CloseSquare ∷ []))) CloseRound (Dot ∷ []) h.2;
    }
unfinished stage.Closed ts p h = record {
  begun = not_nil _ _ ts h.1;
  written = record { file = p.file; selection = h.0 };
  next = Dot;
  others = [];
  front = ap (λ (x : List Terminal). named p.file ++ x) (sym (append_assoc (selection_terminals h.0) (CloseRound ∷ []) (Dot ∷ []))) ∙ at_front ts (named p.file ++ (selection_terminals h.0 ++ CloseRound ∷ [])) Dot [] h.1;
}
