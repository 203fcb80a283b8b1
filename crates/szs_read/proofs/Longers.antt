-- Signatures that grow twice.
use Rattle.std.proofs.Common.{◌≤◌, ◌+◌, ℕ, arith}
use Rattle.me_terms.specs.Values.{SignatureValue}
use Rattle.tptp_cnf.proofs.Numbering.{longer_on as list_longer_on, longer_same as list_longer_same}
use Rattle.szs_read.specs.Longer.{IsLonger}
use Rattle.szs_read.proofs.Symbols.{longer_of, take_of}
use Rattle.szs_read.proofs.Grown.{Wider}

pub longer_on : (a b c : SignatureValue) (m n p q r s : ℕ) → IsLonger a b m n → IsLonger b c p q → s + m + p ≤ r + q + n → IsLonger a c r s
longer_on a b c m n p q r s h k e = record {
  functions = take_of a.functions c.functions (list_longer_on a.functions b.functions c.functions (longer_of a.functions b.functions h.functions) (longer_of b.functions c.functions k.functions));
  predicates = take_of a.predicates c.predicates (list_longer_on a.predicates b.predicates c.predicates (longer_of a.predicates b.predicates h.predicates) (longer_of b.predicates c.predicates k.predicates));
  few = omega (arith, h.few, k.few, e);
}

pub longer_same : (a : SignatureValue) (m n : ℕ) → n ≤ m → IsLonger a a m n
longer_same a m n h = record { functions = take_of a.functions a.functions (list_longer_same a.functions); predicates = take_of a.predicates a.predicates (list_longer_same a.predicates); few = omega (arith, h) }

pub wider_of : (a b : SignatureValue) (m n : ℕ) → IsLonger a b m n → Wider a b
wider_of a b m n h = record { functions = longer_of a.functions b.functions h.functions; predicates = longer_of a.predicates b.predicates h.predicates }
