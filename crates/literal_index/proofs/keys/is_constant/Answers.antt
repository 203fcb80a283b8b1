use Rattle.std.proofs.Common.{◌≡◌, sym, subst}
use Rattle.me_terms.specs.TermViews.{term_value}
use Rattle.me_terms.specs.declared.term.Term.{Term}
use Rattle.literal_index.specs.Index.{is_constant as is_constant_term}
use Rattle.literal_index.proofs.Constants.{constant_of}
use Rattle.literal_index.proofs.keys.is_constant.Goals as goal

pub returns-in-App : goal.returns-in-App
returns-in-App c =
    let P : Term → Type 0 = λ z. c.is_empty.result ≡ is_constant_term (term_value z) in
    subst P (sym c.in-App.is) (constant_of c.in-App.f c.in-App.args.items c.is_empty.result c.is_empty.ensures)
