use Rattle.std.proofs.Common.{◌≡◌, ◌++◌, ◌∷◌, [], get_or, arith, inl, inr}
use Rattle.std.proofs.lemmas.Grind.{common_steps}
use Rattle.tptp_tokens.proofs.Quotes.{reads_on}
use Rattle.tptp_tokens.proofs.quoted.unescaped.Goals as goal
use Rattle.tptp_tokens.proofs.quoted.unescaped.Goals.{else-not-pending-via-then-not-pending+else-byte-eq92, else-not-pending-via-else-not-pending}

pub bytes-preserved : goal.bytes-preserved
bytes-preserved c =
    let pushed : c.push.new.self.items ≡ c.bytes.text.items ++ get_or c.args.written.now c.bytes.byte-index 0 ∷ [] = grind (arith, common_steps) in
    elim c.else-not-pending.branch [
      | else-not-pending-via-then-not-pending+else-byte-eq92 w ↦ reads_on _ _ _ _ _ c.bytes-test.true c.bytes.invariant (inr w.if-byte-eq92.false) pushed
      | else-not-pending-via-else-not-pending w ↦ reads_on _ _ _ _ _ c.bytes-test.true c.bytes.invariant (inl w.if-not-pending.false) pushed
    ]
