use Rattle.std.proofs.Common.{ℕ, List, ◌++◌, length, ap, ◌∙◌}
use Rattle.pk_cert.specs.Pieces.{counted, lined}
use Rattle.pk_cert_cells.proofs.Joining.{head_written}
use Rattle.pk_cert_cells.proofs.heads.write_head.Goals as goal

pub returns : goal.returns
returns c =
    c.in_ok-write_lined-2.ensures
    ∙ ap (λ (r : List ℕ). r ++ lined c.args.text.now) c.in_ok-write_lined.ensures
    ∙ ap (λ (r : List ℕ). (r ++ lined c.args.entry.now) ++ lined c.args.text.now) c.in_ok-write_count-2.ensures
    ∙ ap (λ (r : List ℕ). ((r ++ counted 32 c.args.oct) ++ lined c.args.entry.now) ++ lined c.args.text.now) c.in_ok-write_count.ensures
    ∙ ap (λ (r : List ℕ). (((r ++ counted 32 (length c.args.text.now)) ++ counted 32 c.args.oct) ++ lined c.args.entry.now) ++ lined c.args.text.now) c.in_ok-extend_from_slice.ensures.items
    ∙ head_written c.args.bytes.now.items c.args.text.now c.args.entry.now c.args.oct
