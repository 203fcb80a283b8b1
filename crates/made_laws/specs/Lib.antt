pub mod MadeProblems
