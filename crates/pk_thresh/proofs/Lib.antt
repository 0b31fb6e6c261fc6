mod PointLemmas
mod NearLemmas
mod StopLemmas
