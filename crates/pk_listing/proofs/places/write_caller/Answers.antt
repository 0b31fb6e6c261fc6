use Rattle.std.proofs.Common.{List, ℕ, ◌++◌, ◌∙◌, ap}
use Rattle.std.specs.Prelude.{codes}
use Rattle.pk_ctypes.specs.declared.places.Pos.{Pos}
use Rattle.pk_listing.specs.Places.{place_text, function_at, call_at}
use Rattle.pk_listing.proofs.PieceLemmas.{five_pieces}
use Rattle.pk_listing.proofs.places.write_caller.Goals as goal

pub returns : goal.returns
returns c =
    five_pieces (codes ", called from ") (function_at c.args.path.now c.args.k) (codes " (") (place_text c.args.text.now (call_at c.args.path.now c.args.k).at) (codes ")")
    c.args.bytes.now.items c.write.new.bytes.items c.write-2.new.bytes.items c.write-3.new.bytes.items c.write_place.new.bytes.items c.write-4.new.bytes.items
    c.in_ok-write.ensures (c.in_ok-write-2.ensures ∙ ap (λ (f : List ℕ). c.write.new.bytes.items ++ f) c.function_at.ensures) c.in_ok-write-3.ensures (c.in_ok-write_place.ensures ∙ ap (λ (at : Pos). c.write-3.new.bytes.items ++ place_text c.args.text.now at) c.place_of_call.ensures) c.in_ok-write-4.ensures
