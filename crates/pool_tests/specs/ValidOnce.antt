-- That a problem is valid has one proof at most. A type that keeps a valid problem has to show it.
use Rattle.std.specs.Prelude.{ℕ, List}
use Rattle.std.proofs.Props.{props}
use Rattle.me_terms.specs.Labels.{IsReadableAs, IsFunctionForm}
use Rattle.me_terms.specs.Values.{ProblemValue}
use Rattle.me_terms.specs.Validity.{IsValid}
use Rattle.me_terms.specs.declared.symbol.Form.{Form}
use Rattle.me_terms.specs.declared.symbol.Form.TheVariants.{Word, Distinct, Number}

pub readable_once : (form : Form) (text : List ℕ) → IsProp (IsReadableAs form text)
readable_once Word text = Prim.hlevel props
readable_once Distinct text = Prim.hlevel props
readable_once Number text = Prim.hlevel props

pub function_once : (form : Form) (arity : ℕ) → IsProp (IsFunctionForm form arity)
function_once Word arity = Prim.hlevel props
function_once Distinct arity = Prim.hlevel props
function_once Number arity = Prim.hlevel props

pub valid_once : (problem : ProblemValue) → IsProp (IsValid problem)
valid_once problem = Prim.hlevel (props, readable_once, function_once)
