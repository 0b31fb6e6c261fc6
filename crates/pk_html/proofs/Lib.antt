mod MarkLemmas
mod ReadLemmas
