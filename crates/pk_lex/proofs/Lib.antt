mod Examples
pub mod Longest
pub mod NumberLemmas
pub mod StringLemmas
pub mod DigitLemmas
pub mod CommentLemmas
pub mod PunctuatorLemmas
pub mod ConstantLemmas
pub mod CharacterLemmas
pub mod WordLemmas
pub mod WhiteLemmas
pub mod ReadLemmas
pub mod StepLemmas
pub mod LexLemmas
pub mod SpanLemmas
