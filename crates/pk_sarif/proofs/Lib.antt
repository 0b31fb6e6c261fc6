mod FloatLemmas
mod ListLemmas
mod StepLemmas
mod TextLemmas
