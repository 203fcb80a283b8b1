pub mod AskedEquations
pub mod LeafRefuted
pub mod Queue
pub mod Work
