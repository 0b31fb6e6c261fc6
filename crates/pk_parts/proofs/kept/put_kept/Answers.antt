use Rattle.std.proofs.Common.{ℕ, ◌≡◌, ◌<◌, ◌∙◌, List, Option, ap, sym, subst, length, arith}
use Rattle.std.specs.Prelude.{All}
use Rattle.std.proofs.lemmas.List.{nil_from_length}
use Rattle.pk_pieces.specs.Pieces.{PieceOf, put_each}
use Rattle.pk_pieces.proofs.Orders.{length_put, put_parts}
use Rattle.pk_pieces.proofs.Told.{first_hold, last_hold}
use Rattle.pk_parts.specs.Kept.{pieces_in}
use Rattle.pk_parts.proofs.Items.{item_last}
use Rattle.pk_parts.proofs.kept.put_kept.Goals as goal

pub loop-item-preserved : goal.loop-item-preserved
loop-item-preserved c =
    let places = c.loop-item.pieces in
    let rest = c.pop.new.self.items in
    let is = item_last c.loop-item.left.items rest c.in-Some.item c.in-Some.ensures.items in
    record {
      placed =
          ap (λ (at : List (Option PieceOf)). put_each at (pieces_in rest)) c.put.ensures
          ∙ sym (put_parts places (pieces_in rest) c.in-Some.item)
          ∙ ap (put_each places) (sym is)
          ∙ c.loop-item.invariant.placed;
      within =
          subst (λ (n : ℕ). All (λ (p : PieceOf). p.point < n) (pieces_in rest)) (sym (ap length c.put.ensures ∙ length_put places c.in-Some.item))
          (first_hold (λ (p : PieceOf). p.point < length places) (pieces_in rest) c.in-Some.item (subst (All (λ (p : PieceOf). p.point < length places)) is c.loop-item.invariant.within));
    }

pub put-requires : goal.put-requires
put-requires c =
    let places = c.loop-item.pieces in
    last_hold (λ (p : PieceOf). p.point < length places) (pieces_in c.pop.new.self.items) c.in-Some.item
    (subst (All (λ (p : PieceOf). p.point < length places)) (item_last c.loop-item.left.items c.pop.new.self.items c.in-Some.item c.in-Some.ensures.items) c.loop-item.invariant.within)

pub returns : goal.returns
returns c =
    let none : length c.loop-item.left.items ≡ 0 = omega (arith, c.in_default.ensures.cases.0) in
    ap (λ (kept : List (List PieceOf)). put_each c.loop-item.pieces (pieces_in kept)) (sym (nil_from_length c.loop-item.left.items none)) ∙ c.loop-item.invariant.placed
