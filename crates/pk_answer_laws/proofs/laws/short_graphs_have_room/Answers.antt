use Rattle.pk_answer_laws.proofs.Rooms.{have_room}
use Rattle.pk_answer_laws.proofs.laws.short_graphs_have_room.Goals as goal

pub returns : goal.returns
returns c = have_room
