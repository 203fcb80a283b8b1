pub mod ProblemText
