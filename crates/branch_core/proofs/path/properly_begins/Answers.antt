use Rattle.std.proofs.Common.{◌≡◌, ◌<◌, ◌+◌, ◌^◌, ◌++◌, [], ◌∷◌, ℕ, IsTrue, nat_eq, length, length-append, ap, sym, ◌∙◌, refl, arith}
use Rattle.std.proofs.lemmas.Grind.{common_steps}
use Rattle.branch_core.specs.Paths.{Turns, turns_of, code_from, ProperlyBegins}
use Rattle.branch_core.specs.PathLaws.{bits_turns}
use Rattle.branch_core.proofs.PathOrder.{same_bits}
use Rattle.branch_core.proofs.path.properly_begins.Goals as goal

same_tells : (m n : ℕ) → (IsTrue (nat_eq m n) → m ≡ n) × (m ≡ n → IsTrue (nat_eq m n))
same_tells m n = (λ h. grind (arith, common_steps, h), λ h. grind (arith, common_steps, h))

number : (len bits : ℕ) (p : Turns) → turns_of len bits ≡ p → bits < 2 ^ len → code_from 0 p ≡ bits
number len bits p e h = ap (code_from 0) (sym e) ∙ bits_turns len bits h

same_front : (a b c d : Turns) → length a ≡ length b → a ++ c ≡ b ++ d → a ≡ b
same_front [] [] c d h e = refl
same_front [] (y ∷ b) c d h e = absurd (omega (arith, h))
same_front (x ∷ a) [] c d h e = absurd (omega (arith, h))
same_front (x ∷ a) (y ∷ b) c d h e =
    let head : x ≡ y = cc in
    let later : a ++ c ≡ b ++ d = cc in
    let n : length a ≡ length b = omega (arith, h) in
    λ i. head i ∷ same_front a b c d n later i

longer_by : (longer shorter rest : Turns) → longer ≡ shorter ++ rest → length longer ≡ length shorter + length rest
longer_by longer shorter rest e = omega (arith, ap (λ (t : Turns). length t) e, length-append shorter rest)

extends_by : (longer shorter rest : Turns) → longer ≡ shorter ++ rest → length shorter < length longer → ProperlyBegins shorter longer
extends_by longer shorter [] e h = absurd (omega (arith, h, longer_by longer shorter [] e))
extends_by longer shorter (t ∷ rest) e h = (t, rest, e)

fronts : (longer shorter front : Turns) (m n : ℕ) → ((rest : Turns) × (length front ≡ length shorter) × (longer ≡ front ++ rest)) → code_from 0 front ≡ m → code_from 0 shorter ≡ n → length shorter < length longer → (m ≡ n → ProperlyBegins shorter longer) × (ProperlyBegins shorter longer → m ≡ n)
fronts longer shorter front m n f at_front at_shorter h = (
  λ e.
      let same : front ≡ shorter = same_bits front shorter f.1 (at_front ∙ (e ∙ sym at_shorter)) in
      extends_by longer shorter f.0 (f.2 ∙ ap (λ (t : Turns). t ++ f.0) same) h,
  λ x.
      let same : front ≡ shorter = same_front front shorter f.0 (x.0 ∷ x.1) f.1 (sym f.2 ∙ x.2) in
      sym at_front ∙ (ap (code_from 0) same ∙ at_shorter),
)

not_longer : (longer shorter : Turns) → ProperlyBegins shorter longer → length shorter < length longer
not_longer longer shorter x = omega (arith, longer_by longer shorter (x.0 ∷ x.1) x.2)

less_here : (m n : ℕ) (longer shorter : Turns) → m ≡ length shorter → n ≡ length longer → m < n → length shorter < length longer
less_here m n longer shorter e g h = omega (arith, e, g, h)

pub returns-then-turns-turn_count : goal.returns-then-turns-turn_count
returns-then-turns-turn_count c =
    let front = number c.result.inside.len c.result.inside.bits c.first_turns.result c.result.view_is c.result.invariant.1 in
    let short = number c.shorter.inside.len c.shorter.inside.bits c.args.shorter c.shorter.view_is c.shorter.invariant.1 in
    let less = less_here c.turn_count-turns.result c.turn_count.result c.args.longer c.args.shorter c.turn_count-turns.ensures c.turn_count.ensures c.if-turns-turn_count.true in
    let first : (rest : Turns) × (length c.first_turns.result ≡ length c.args.shorter) × (c.args.longer ≡ c.first_turns.result ++ rest) = (c.first_turns.ensures.0, c.first_turns.ensures.1 ∙ c.turn_count-turns.ensures, c.first_turns.ensures.2) in
    let both = fronts c.args.longer c.args.shorter c.first_turns.result c.result.inside.bits c.shorter.inside.bits first front short less in
    let t = same_tells c.result.inside.bits c.shorter.inside.bits in
    (λ h. both.0 (t.0 h), λ h. t.1 (both.1 h))
