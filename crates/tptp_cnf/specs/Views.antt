-- What the reader of the code holds.
use Rattle.std.specs.Prelude.{◌≡◌, ℕ, List, map, reverse}
use Rattle.std.specs.declared.vec.Vec.{Vec}
use Rattle.std.specs.declared.alloc.Global.{Global}
use Rattle.me_terms.specs.TermViews.{term_value}
use Rattle.me_terms.specs.Values.{SignatureValue}
use Rattle.me_terms.specs.declared.term.Term.{Term}
use Rattle.me_terms.specs.declared.atom.Literal.{Literal}
use Rattle.tptp_grammar.specs.Views.{terminal_of}
use Rattle.tptp_grammar.specs.Readings.{Verdict, Refused}
use Rattle.tptp_grammar.specs.declared.refusal.Refusal.{Refusal}
use Rattle.tptp_cnf.specs.Causes.{error_of}
use Rattle.tptp_cnf.specs.declared.error.CnfError.{CnfError}
use Rattle.tptp_cnf.specs.declared.error.CnfError.TheVariants as error
use Rattle.tptp_cnf.specs.Rows.{ItemValue, Names, Built, Draft}
use Rattle.tptp_cnf.specs.declared.item.Item.{Item}
use Rattle.tptp_cnf.specs.declared.builder.Builder.{Builder}

abbrev pub item_value : Item → ItemValue
item_value i = record { role = i.role; terminal = terminal_of i.name; arity = i.arity }

abbrev pub stacks : Vec Term Global → Vec Literal Global → Built
stacks terms literals = record { terms = map term_value (reverse terms.items); literals = reverse literals.items }

abbrev pub draft : Builder → Draft
draft b = record { signature = b.signature; clauses = b.clauses.items; number = b.number; label = b.label; is_kept = b.is_kept; items = map item_value b.items.items; open_items = reverse b.open.items }

abbrev pub names : SignatureValue → List (List ℕ) → Names
names signature variables = record { functions = signature.functions; predicates = signature.predicates; variables = variables }

-- the error tells what the grammar's machine says of a token at this place; want of memory is free
abbrev pub TellsAt : ℕ → Verdict → CnfError → Type 0
TellsAt at verdict error.Memory = Unit {0}
TellsAt at verdict e = (why : Refusal) × (verdict ≡ Refused why) × (e ≡ error_of why at)
