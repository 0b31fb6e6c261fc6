-- The frames of the walk.
use Rattle.std.specs.Prelude.{ℕ, List, map}
use Rattle.pk_calls.specs.declared.walk.Frame.{Frame}

-- the functions of frames
abbrev pub path_of : List Frame → List ℕ
path_of = map (λ (f : Frame). f.function)
