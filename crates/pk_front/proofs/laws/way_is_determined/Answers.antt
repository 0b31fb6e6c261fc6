use Rattle.pk_front.proofs.WayLemmas.{apart, one_left, one_paths, same_unit}
use Rattle.pk_front.proofs.laws.way_is_determined.Goals as goal

pub returns : goal.returns
returns c =
    let law = c.answers_are_determined.ensures in
    record { unit = same_unit law; paths = one_paths law; left = one_left law; apart = apart law }
