-- What is kept of the entries of a context: which of them are hidden, and where they are listed.
use Rattle.me_terms.specs.Context.{Context}
use Rattle.entry_hiding.specs.Values.{HidingValue}
use Rattle.entry_hiding.specs.Hiding.{IsHidingOf}
use Rattle.literal_index.specs.Index.{IndexValue, IsIndex}

-- By which later entry each entry is hidden first, and the index of the entries.
pub record NotesValue : Type 0 where
  pub hiding : HidingValue
  pub entries : IndexValue

-- Both are of the context.
pub record AreNotes (context : Context) (notes : NotesValue) : Type 0 where
  pub hiding : IsHidingOf context notes.hiding
  pub entries : IsIndex context notes.entries
