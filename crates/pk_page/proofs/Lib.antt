mod TableLemmas
mod LineLemmas
mod StandLemmas
mod PieceLemmas
