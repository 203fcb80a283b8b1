use Rattle.std.proofs.Common.{◌≡◌, IfSome, subst}
use Rattle.me_terms.proofs.Distinct.{own_at}
use Rattle.me_terms.specs.Signatures.{number_of}
use Rattle.me_terms.specs.Values.{SignatureValue}
use Rattle.me_terms.proofs.signature.Signature.fun.Goals as goal

pub returns-clause-own : goal.returns-clause-own
returns-clause-own c =
    let P : SignatureValue → Type 0 = λ s. IfSome c.get_index.result (λ symbol. number_of symbol.now s.functions ≡ c.args.f) in
    subst P c.self.view_is (own_at c.self.inside.functions.keys c.self.invariant.2 c.args.f c.get_index.result c.get_index.ensures.key)
