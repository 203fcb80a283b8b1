-- The program's reasons as contracts see them.
use Rattle.me_terms.specs.Values.{ReasonValue}
use Rattle.me_terms.specs.Values as pure
use Rattle.me_terms.specs.declared.entry.Reason.{Reason}
use Rattle.me_terms.specs.declared.entry.Reason.TheVariants.{Pseudo, Asserted, SplitLeft, SplitRight}

abbrev pub reason_value : Reason → ReasonValue
reason_value Pseudo = pure.Pseudo
reason_value (Asserted clause place tuple) = pure.Asserted clause place tuple.items
reason_value SplitLeft = pure.SplitLeft
reason_value SplitRight = pure.SplitRight
