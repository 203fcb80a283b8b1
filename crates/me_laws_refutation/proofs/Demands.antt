-- The entries of an instance are asked for rightly where the unifier left no remainder.
use Rattle.std.proofs.Common.{◌≡◌, ℕ, suc, ◌+◌, ◌<◌, Bool, true, false, not, ◌||◌, List, [], ◌∷◌, map, length, slice_get, Option, Some, None, refl, sym, subst, ap, ◌∙◌, arith}
use Rattle.std.specs.List.{list_any}
use Rattle.std.proofs.lemmas.Option.{slice_get_within}
use Rattle.me_terms.specs.Terms.{TermValue, Var, App, Arguments, AtomValue}
use Rattle.me_terms.specs.Substitutions.{Substitution, Family, apply_term, apply_arguments, apply_atom, apply_literal, followed_by, IsInstance}
use Rattle.me_terms.specs.Variables.{variables_of}
use Rattle.me_terms.specs.Measures.{complement}
use Rattle.me_terms.specs.Values.{ProblemValue, EntryValue}
use Rattle.me_terms.specs.Context.{Context, IsAtomWith}
use Rattle.me_terms.specs.Positions.{StandsAgainst, AreOpposite}
use Rattle.me_terms.specs.Unifier.{IsSolvedBy, Solves, unified}
use Rattle.me_terms.specs.Remainder.{is_variable, is_remaining, remainder}
use Rattle.me_terms.specs.GroundInstances.{is_ground_term, are_ground_terms}
use Rattle.me_terms.specs.ListedInstances.{constant, instance_of}
use Rattle.me_terms.specs.LeafList.{Demand, demands}
use Rattle.me_terms.specs.declared.entry.Kind.{Kind}
use Rattle.me_terms.specs.declared.entry.Kind.TheVariants.{Universal, Parametric}
use Rattle.me_terms.specs.declared.atom.Literal.{Literal}
use Rattle.me_terms.specs.declared.atom.Pattern.{Pattern}
use Rattle.me_terms.specs.declared.atom.Pattern.TheVariants.{Any, Of}
use Rattle.me_laws.proofs.Generality.{arguments_followed, atom_followed}
use Rattle.me_laws.proofs.Renaming.{Each, variables_agree_all}
use Rattle.me_laws.proofs.Lists.{EachOf}
use Rattle.me_laws_refutation.specs.RightDemands.{IsRight}
use Rattle.me_laws_refutation.proofs.Known.{AreKnownLiterals}
use Rattle.me_laws_refutation.proofs.GroundTerms.{all_ground_under}
use Rattle.me_laws_refutation.proofs.NoRemainder.{none_left}

-- ---- an entry holds where it is asked
variable_reads : (m : Substitution) (c t : TermValue) → is_variable t ≡ true → ((y : ℕ) → m y ≡ c) → apply_term m t ≡ c
variable_reads m c (Var y) h reads = reads y
variable_reads m c (App f ts) h reads = cc

either_false : (a b : Bool) → (not a || b) ≡ false → (a ≡ true) × (b ≡ false)
either_false true b h = (refl, h)
either_false false b h = cc

all_read : (t m : Substitution) (c : TermValue) → ((y : ℕ) → m y ≡ c) → (xs : List ℕ) → list_any (λ x. not (is_variable (t x))) xs ≡ false → Each (λ x. c ≡ followed_by t m x) xs
unfolding Each
all_read t m c reads [] h = tt
all_read t m c reads (x ∷ xs) h =
    let parts = either_false (is_variable (t x)) (list_any (λ y. not (is_variable (t y))) xs) h in
    (sym (variable_reads m c (t x) parts.0 reads), all_read t m c reads xs parts.1)

holds_by : (c : TermValue) (kind : Kind) (p : Pattern) (t s m : Substitution) (a : AtomValue) → is_remaining kind p t ≡ false → IsSolvedBy t p s a → (kind ≡ Parametric → (y : ℕ) → m y ≡ c) → IsAtomWith (λ b. IsInstance b (apply_atom m (apply_atom s a)) × (kind ≡ Parametric → apply_atom (λ x. c) b ≡ apply_atom m (apply_atom s a))) p
holds_by c kind Any t s m a free meets reads = cc
holds_by c Universal (Of b) t s m a free meets reads = ((followed_by t m, atom_followed t m b ∙ ap (apply_atom m) meets), λ k. cc k)
holds_by c Parametric (Of b) t s m a free meets reads =
    let whole : apply_atom (followed_by t m) b ≡ apply_atom m (apply_atom s a) = atom_followed t m b ∙ ap (apply_atom m) meets in
    let args : apply_arguments (λ x. c) b.args ≡ apply_arguments (followed_by t m) b.args = variables_agree_all (λ x. c) (followed_by t m) b.args (all_read t m c (reads refl) (variables_of b.args) free) in
    let first : apply_atom (λ x. c) b ≡ apply_atom (followed_by t m) b = λ i. record { pred = b.pred; args = args i } in
    ((followed_by t m, whole), λ k. first ∙ whole)

-- ---- the demands of an instance
pub each_demand : (P : Demand → Type 0) (f : Literal → Literal) (ls : List Literal) (ks : List (Option ℕ)) → ((i k : ℕ) (l : Literal) → slice_get ls i ≡ Some l → slice_get ks i ≡ Some (Some k) → P (k, complement (f l))) → EachOf P (demands (map f ls) ks)
each_demand P f [] ks h = tt
each_demand P f (l ∷ ls) [] h = tt
each_demand P f (l ∷ ls) (None ∷ ks) h = each_demand P f ls ks (λ i k m at pos. h (suc i) k m at pos)
each_demand P f (l ∷ ls) (Some k ∷ ks) h = (h 0 k l refl refl, each_demand P f ls ks (λ i j m at pos. h (suc i) j m at pos))

-- The demand is for an entry below n, and right.
abbrev pub IsRightBelow : ProblemValue → Context → ℕ → Demand → Type 0
IsRightBelow problem context n d = (d.0 < n) × IsRight problem context d

pub right_demands : (problem : ProblemValue) (before context : Context) (literals : List Literal) (positions : List (Option ℕ)) (u : Family) (m : Substitution) → ((k : ℕ) → k < length before → slice_get before k ≡ slice_get context k) → AreOpposite before literals positions → Solves before literals positions u → remainder before positions u ≡ [] → ((i k : ℕ) (l : Literal) (e : EntryValue) → StandsAgainst before literals positions i l k e → e.kind ≡ Parametric → (y : ℕ) → m y ≡ constant problem.c0) → AreKnownLiterals problem.signature literals → ((x : ℕ) → is_ground_term problem (apply_term m (u 0 x)) ≡ true) → EachOf (IsRightBelow problem context (length before)) (demands (instance_of u m literals) positions)
right_demands problem before context literals positions u m agree opposite solves none reads known ground =
    each_demand (IsRightBelow problem context (length before)) (λ l. apply_literal m (unified u l)) literals positions (λ i k l at pos.
    let seen = opposite.visible i k l at pos in
    let e = seen.0 in
    let below : k < length before = slice_get_within before k e seen.1.0 in
    let opposed : StandsAgainst before literals positions i l k e = record { literal = at; position = pos; stands = seen.1.0 } in
    let free = none_left before positions u 0 none i k e pos seen.1.0 i (omega arith) in
    let groundness : are_ground_terms problem (apply_arguments (followed_by (u 0) m) l.atom.args) ≡ true = all_ground_under problem (followed_by (u 0) m) ground l.atom.args (known i l at) in
    let P : Arguments → Type 0 = λ ts. are_ground_terms problem ts ≡ true in
    let right : IsRight problem context (k, complement (apply_literal m (unified u l))) = record {
      entry = e;
      stands = sym (agree k below) ∙ seen.1.0;
      same_sign = seen.2;
      holds = holds_by (constant problem.c0) e.kind e.atom (u (i + 1)) (u 0) m l.atom free (solves i k l e opposed) (reads i k l e opposed);
      ground = subst P (arguments_followed (u 0) m l.atom.args) groundness;
    } in
    (below, right))
