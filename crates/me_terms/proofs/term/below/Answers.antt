use Rattle.std.proofs.Common.{map, rules}
use Rattle.me_terms.specs.TermViews.{term_value}
use Rattle.me_terms.specs.Terms.{App, arguments_of}
use Rattle.me_terms.proofs.Dropping.{drop_work_less, replaced_less}
use Rattle.me_terms.proofs.term.below.Goals as goal

pub returns-then-is_empty-2 : goal.returns-then-is_empty-2
returns-then-is_empty-2 c = drop_work_less (map term_value c.args.rest.items) (App c.args.f (arguments_of (map term_value c.args.inner.items)))

pub returns : goal.returns
returns c = replaced_less c.args.f c.args.rest.items c.args.inner.items c.push_reserved.new.self c.replace-first.result c.replace-first.new.dest c.replace.new.dest (search rules) (search rules) (search rules) c.push_reserved.ensures.items c.replace.ensures.after
