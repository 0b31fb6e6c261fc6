use Rattle.std.proofs.Common.{◌∷◌, sym, ap, ◌∙◌}
use Rattle.atomic_table.specs.Table.{rest}
use Rattle.pk_board.proofs.boards.Board.read_slot.Goals as goal

pub slot_mut-requires : goal.slot_mut-requires
slot_mut-requires g c =
    let h = c.requires.has in
    (c.requires.of_board ∙ sym (ap (λ b. b.table) c.self.view_is), (h.0, h.2 ∙ ap (λ t. (c.args.slot, h.0) ∷ t) (sym (ap rest h.2))))
