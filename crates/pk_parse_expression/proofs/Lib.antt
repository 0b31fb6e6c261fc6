pub mod KeptLemmas
pub mod WordLemmas
pub mod RunLemmas
pub mod RunOperators
pub mod RunEnds
pub mod RunOperands
pub mod ExpressionLemmas
