-- What holds of an answer gives what follows from it.
use Rattle.std.specs.Prelude.{Result, Ok, Err, OnOk}

pub whatever : {A E : Type 0} (r : Result A E) {Q : Type 0} → Q → OnOk r Q
whatever (Ok v) q = q
whatever (Err e) q = tt
