-- Where a part of a file may begin, and where an atom may end, by the machine's state.
use Rattle.std.proofs.Common.{◌≡◌, Bool, true, false, List, [], ◌∷◌, ◌++◌, Option, Some, refl, sym, ap, subst, ◌∙◌, ◌⊎◌, inl, inr}
use Rattle.std.specs.Prelude.{not}
use Rattle.tptp_grammar.specs.Terminals.{Terminal, CloseRound}
use Rattle.tptp_grammar.specs.Printed.{Printed, printed_terminals}
use Rattle.tptp_grammar.specs.declared.part.Part.{Part}
use Rattle.tptp_grammar.specs.Files.{IsFileFront}
use Rattle.tptp_grammar.specs.Refusals.{MayBegin, MayEndAtom}
use Rattle.tptp_grammar.specs.Machine.{State, Between, Named, Done, run_on, part_at, is_open_round, ends_at}
use Rattle.tptp_grammar.specs.Readings.{Reading}
use Rattle.tptp_grammar.proofs.Completions.{completion}
use Rattle.tptp_grammar.proofs.Runs.{Runs, file_runs}
use Rattle.tptp_grammar.proofs.Fronts.{Reached}

-- ---- forwards

-- The machine's completion begins with a token that is the first of such a part.
pub record Leads (p : Part → Bool) (s : State) : Type 0 where
  pub token : Terminal
  pub others : List Terminal
  pub next : completion s ≡ token ∷ others
  pub begins : p (part_at s token) ≡ true

head_terminal : (t : Terminal) (ts : List Terminal) (q : Printed) (qs : List Printed) → t ∷ ts ≡ printed_terminals (q ∷ qs) → q.terminal ≡ t
head_terminal t ts q qs e = cc

begin_at : (p : Part → Bool) (ts : List Terminal) (s : State) (front after : List Printed) → IsFileFront ts front after → Runs s after Between → Leads p s → completion s ≡ printed_terminals after → MayBegin p ts
begin_at p ts s front [] f r l e = absurd (no_token l.token l.others (sym l.next ∙ e))
  where
    no_token : (t : Terminal) (us : List Terminal) → t ∷ us ≡ [] → ⊥
    no_token t us k = cc
begin_at p ts s front (q ∷ after) f r l e =
    let head : q.terminal ≡ l.token = head_terminal l.token l.others q after (sym l.next ∙ e) in
    record {
      front = front;
      token = q;
      after = after;
      first = f;
      begins = ap p (r.1.part ∙ ap (part_at s) head) ∙ l.begins;
    }

pub may_begin : (p : Part → Bool) (ts : List Terminal) (r : Reading) → Reached ts r → Leads p r.state → MayBegin p ts
may_begin p ts r h l = begin_at p ts r.state h.front h.after h.first h.walked.runs l h.rest

-- ---- the last token

-- the state behind the tokens, and whether the last of them ends an atom
pub record Last (s : State) (front after : List Printed) (u : State) : Type 0 where
  pub before : List Printed
  pub token : Printed
  pub parts : front ≡ before ++ token ∷ []
  pub ends : token.ends_atom ≡ ends_at u after

pub run_between : (s : State) (front after : List Printed) → Runs s (front ++ after) Between → (u : State) × (run_on (Some s) (printed_terminals front) ≡ Some u) × Runs u after Between
run_between s [] after h = (s, refl, h)
run_between s (p ∷ front) after h =
    let k = run_between h.0 front after h.2 in
    (k.0, ap (λ (o : Option State). run_on o (printed_terminals front)) h.1.goes ∙ k.1, k.2)

last_of : (front after : List Printed) (s : State) (p : Printed) (v : State) → p.ends_atom ≡ ends_at v (front ++ after) → Runs v (front ++ after) Between → (u : State) × (run_on (Some v) (printed_terminals front) ≡ Some u) × Last s (p ∷ front) after u
last_of [] after s p v e h = (v, refl, record { before = []; token = p; parts = refl; ends = e })
last_of (q ∷ front) after s p v e h =
    let k = last_of front after v q h.0 h.1.ends h.2 in (
      k.0,
      ap (λ (o : Option State). run_on o (printed_terminals front)) h.1.goes ∙ k.1,
      record { before = p ∷ k.2.before; token = k.2.token; parts = ap (λ (x : List Printed). p ∷ x) k.2.parts; ends = k.2.ends },
    )

some_is : (s u : State) → Some s ≡ Some u → s ≡ u
some_is s u e = cc

pub last_at : (front after : List Printed) (s u : State) → run_on (Some s) (printed_terminals front) ≡ Some u → Runs s (front ++ after) Between → ((s ≡ u) × (front ≡ [])) ⊎ Last s front after u
last_at [] after s u e h = inl (some_is s u e, refl)
last_at (p ∷ front) after s u e h =
    let k = last_of front after s p h.0 h.1.ends h.2 in
    let same : k.0 ≡ u = some_is k.0 u (sym k.1 ∙ sym (ap (λ (o : Option State). run_on o (printed_terminals front)) h.1.goes) ∙ e) in
    inr (subst (λ (x : State). Last s (p ∷ front) after x) same k.2)

-- behind this state an atom has ended, where no bracket opens next
abbrev pub ends_atom : State → Bool
ends_atom (Named [] b k) = true
ends_atom (Done [] b k) = true
ends_atom s = false

pub no_end : (s : State) (ps : List Printed) → ends_atom s ≡ false → ends_at s ps ≡ false
no_end (Named [] b k) ps e = absurd cc
no_end (Done [] b k) ps e = absurd cc
no_end (Named (n ∷ ns) b k) ps e = refl
no_end (Done (n ∷ ns) b k) ps e = refl
no_end s ps e = refl

not_open_next : (s : State) (ps : List Printed) → ends_atom s ≡ true → completion s ≡ printed_terminals ps → ends_at s ps ≡ true
not_open_next (Named [] true k) [] e c = absurd cc
not_open_next (Named [] false k) [] e c = absurd cc
not_open_next (Named [] true k) (p ∷ ps) e c = let t : p.terminal ≡ CloseRound = cc in ap (λ (x : Terminal). not (is_open_round x)) t
not_open_next (Named [] false k) (p ∷ ps) e c = let t : p.terminal ≡ CloseRound = cc in ap (λ (x : Terminal). not (is_open_round x)) t
not_open_next (Done [] b k) ps e c = refl
not_open_next (Named (n ∷ ns) b k) ps e c = absurd cc
not_open_next (Done (n ∷ ns) b k) ps e c = absurd cc
not_open_next s ps e c = absurd cc

between_ends : (s : State) → Between ≡ s → ends_atom s ≡ true → ⊥
between_ends s e h = let k : false ≡ true = ap ends_atom e ∙ h in cc

pub may_end : (ts : List Terminal) (r : Reading) → Reached ts r → run_on (Some Between) ts ≡ Some r.state → ends_atom r.state ≡ true → MayEndAtom ts
may_end ts r h e k =
    let f = h.first in
    let runs : Runs Between (h.front ++ h.after) Between = subst (λ (x : List Printed). Runs Between x Between) f.parts (file_runs f.file) in
    elim (last_at h.front h.after Between r.state (ap (run_on (Some Between)) (sym f.same) ∙ e) runs) [
      | inl none ↦ absurd (between_ends r.state none.0 k)
      | inr l ↦ record {
        front = l.before;
        token = l.token;
        after = h.after;
        first = subst (λ (x : List Printed). IsFileFront ts x h.after) l.parts f;
        ends = l.ends ∙ not_open_next r.state h.after k h.rest;
      }
    ]

-- ---- backwards

pub state_begins : (p : Part → Bool) (ts : List Terminal) (s : State) → run_on (Some Between) ts ≡ Some s → MayBegin p ts → (t : Terminal) × (p (part_at s t) ≡ true)
state_begins p ts s e m =
    let f = m.first in
    let k = run_between Between m.front (m.token ∷ m.after) (subst (λ (x : List Printed). Runs Between x Between) f.parts (file_runs f.file)) in
    let same : k.0 ≡ s = some_is k.0 s (sym k.1 ∙ ap (run_on (Some Between)) (sym f.same) ∙ e) in
    (m.token.terminal, ap (λ (x : State). p (part_at x m.token.terminal)) (sym same) ∙ ap p (sym k.2.1.part) ∙ m.begins)

ends_by : (b : Bool) (s : State) (ps : List Printed) → ends_atom s ≡ b → true ≡ ends_at s ps → b ≡ true
ends_by true s ps e h = refl
ends_by false s ps e h = let k : true ≡ false = h ∙ no_end s ps e in cc

last_one : (xs ys : List Printed) (p q : Printed) → xs ++ p ∷ [] ≡ ys ++ q ∷ [] → p ≡ q
last_one [] [] p q e = cc
last_one [] (y ∷ []) p q e = absurd cc
last_one [] (y ∷ z ∷ ys) p q e = absurd cc
last_one (x ∷ []) [] p q e = absurd cc
last_one (x ∷ z ∷ xs) [] p q e = absurd cc
last_one (x ∷ xs) (y ∷ ys) p q e = let t : xs ++ p ∷ [] ≡ ys ++ q ∷ [] = cc in last_one xs ys p q t

not_empty : (xs : List Printed) (p : Printed) → xs ++ p ∷ [] ≡ [] → ⊥
not_empty [] p e = cc
not_empty (x ∷ xs) p e = cc

pub state_ends : (ts : List Terminal) (s : State) → run_on (Some Between) ts ≡ Some s → MayEndAtom ts → ends_atom s ≡ true
state_ends ts s e m =
    let f = m.first in
    let front : List Printed = m.front ++ m.token ∷ [] in
    let runs : Runs Between (front ++ m.after) Between = subst (λ (x : List Printed). Runs Between x Between) f.parts (file_runs f.file) in
    elim (last_at front m.after Between s (ap (run_on (Some Between)) (sym f.same) ∙ e) runs) [
      | inl none ↦ absurd (not_empty m.front m.token none.1)
      | inr l ↦
          let t : l.token ≡ m.token = last_one l.before m.front l.token m.token (sym l.parts) in
          ends_by (ends_atom s) s m.after refl (sym (ap (λ (y : Printed). y.ends_atom) t ∙ m.ends) ∙ l.ends)
    ]
