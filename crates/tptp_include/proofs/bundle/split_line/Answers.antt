use Rattle.std.proofs.Common.{◌≡◌, ◌≤◌, ◌∙◌, ℕ, List, [], length, take, drop, sym, ap, subst, arith}
use Rattle.tptp_include.specs.BundleViews.{IsSplit}
use Rattle.tptp_include.proofs.Bundling.{text_short, no_items, first_byte, split_end, split_feed}
use Rattle.tptp_include.proofs.bundle.split_line.Goals as goal

pub split_at-requires : goal.split_at-requires
split_at-requires c = subst (λ (n : ℕ). n ≤ length c.args.bytes.now) (sym c.text_len.ensures) (text_short c.args.bytes.now)

pub returns-in-empty : goal.returns-in-empty
returns-in-empty c =
    let bytes = c.args.bytes.now in
    let behind = c.split_at.result.1.now in
    let none : behind ≡ [] = no_items behind (omega (arith, c.in-empty.len_below)) in
    split_end bytes c.split_at.result.0.now behind c.requires (c.split_at.ensures.front ∙ ap (λ (n : ℕ). take n bytes) c.text_len.ensures)
    (ap (λ (n : ℕ). drop n bytes) (sym c.text_len.ensures) ∙ sym c.split_at.ensures.back ∙ none) none

pub returns-in-len1-up : goal.returns-in-len1-up
returns-in-len1-up c =
    let bytes = c.args.bytes.now in
    let behind = c.split_at.result.1.now in
    let first = first_byte behind (omega (arith, c.in-len1-up.len_at_least)) in
    subst (λ (x : List ℕ). IsSplit bytes c.split_at.result.0.now x) (sym first.behind)
    (split_feed bytes c.split_at.result.0.now first.byte first.others (c.split_at.ensures.front ∙ ap (λ (n : ℕ). take n bytes) c.text_len.ensures)
    (ap (λ (n : ℕ). drop n bytes) (sym c.text_len.ensures) ∙ sym c.split_at.ensures.back ∙ first.same))
