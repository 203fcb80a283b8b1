pub mod SplitChoices
