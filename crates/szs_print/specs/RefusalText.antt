-- The text of a refusal.
use Rattle.std.specs.Prelude.{ℕ, List, [], ◌++◌, codes, decimal, Option, Some, None}
use Rattle.me_io.specs.declared.source.TheConstants.{MAX_BYTES}
use Rattle.tptp_grammar.specs.declared.refusal.What.{What}
use Rattle.tptp_grammar.specs.declared.refusal.What.TheVariants.{Equality, Language, Include, Number, Defined, Conjecture, Role}
use Rattle.tptp_grammar.specs.declared.refusal.Which.{Which}
use Rattle.tptp_grammar.specs.declared.refusal.Which.TheVariants.{Clauses, Literals, Variables, Arguments, Nesting}
use Rattle.szs_print.specs.StatusText.{status_line, reason_line}
use Rattle.szs_print.specs.declared.refusal.Refusal.{Refusal}
use Rattle.szs_print.specs.declared.refusal.Refusal.TheVariants.{Usage, Syntax, Inappropriate, Limit, Length, Read, Memory}

-- The SZS word of a refusal.
abbrev pub word_text : Refusal → List ℕ
word_text Usage = codes "UsageError"
word_text (Syntax at) = codes "SyntaxError"
word_text (Inappropriate what at) = codes "Inappropriate"
word_text (Limit which at) = codes "ResourceOut"
word_text Length = codes "ResourceOut"
word_text Read = codes "OSError"
word_text Memory = codes "MemoryOut"

abbrev pub what_text : What → List ℕ
what_text Equality = codes "equality"
what_text Language = codes "language"
what_text Include = codes "include"
what_text Number = codes "number"
what_text Defined = codes "defined"
what_text Conjecture = codes "conjecture"
what_text Role = codes "role"

abbrev pub which_text : Which → List ℕ
which_text Clauses = codes "limit clauses"
which_text Literals = codes "limit literals"
which_text Variables = codes "limit variables"
which_text Arguments = codes "limit arguments"
which_text Nesting = codes "limit nesting"

-- The cause of a refusal.
abbrev pub cause_text : Refusal → List ℕ
cause_text Usage = codes "words"
cause_text (Syntax at) = codes "syntax"
cause_text (Inappropriate what at) = what_text what
cause_text (Limit which at) = which_text which
cause_text Length = codes "limit length"
cause_text Read = codes "read"
cause_text Memory = codes "memory"

-- The place that a refusal names.
abbrev pub refusal_place : Refusal → Option ℕ
refusal_place Usage = None
refusal_place (Syntax at) = Some at
refusal_place (Inappropriate what at) = Some at
refusal_place (Limit which at) = Some at
refusal_place Length = Some MAX_BYTES
refusal_place Read = None
refusal_place Memory = None

abbrev pub place_text : Option ℕ → List ℕ
place_text None = []
place_text (Some at) = codes " at " ++ decimal at

-- Two lines: the status, and the reason with the place where there is one.
abbrev pub refusal_text : List ℕ → Refusal → List ℕ
refusal_text name refusal =
    status_line (word_text refusal) name ++ reason_line (cause_text refusal ++ place_text (refusal_place refusal))
