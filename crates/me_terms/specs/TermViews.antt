-- The program's terms and lists of terms as mathematical trees.
use Rattle.std.specs.Prelude.{◌-◌, map, vec_len, vec_capacity}
use Rattle.std.specs.declared.vec.Vec.{Vec}
use Rattle.std.specs.declared.alloc.Global.{Global}
use Rattle.me_terms.specs.Sequences.{SequenceValue}
use Rattle.me_terms.specs.Terms.{TermValue, Arguments, arguments_of}
use Rattle.me_terms.specs.Terms as tree
use Rattle.me_terms.specs.declared.term.Term.{Term}
use Rattle.me_terms.specs.declared.term.Term.TheVariants.{Var, App}

abbrev pub term_value : Term → TermValue
term_value (Var x) = tree.Var x
term_value (App f args) = tree.App f (arguments_of args.items)

abbrev pub terms_value : Vec Term Global → SequenceValue TermValue
terms_value v = record { items = map term_value v.items; spare = vec_capacity v - vec_len v }
