use Rattle.std.proofs.Common.{ℕ, ◌≡◌, ◌<◌, ◌∙◌, List, [], ◌∷◌, Option, Some, ap, sym, subst, length, arith}
use Rattle.std.specs.Prelude.{All}
use Rattle.std.proofs.lemmas.List.{length-set, nil_from_length}
use Rattle.std.proofs.lemmas.List.Elements.{All-pop}
use Rattle.pk_pieces.specs.Pieces.{PieceOf, put_each}
use Rattle.pk_pieces.proofs.Orders.{put_parts}
use Rattle.pk_pieces.proofs.places.Pieces.put_all.Goals as goal

pub loop-piece-preserved : goal.loop-piece-preserved
loop-piece-preserved c =
    let left = c.loop-piece.left.items in
    let rest = c.pop.new.self.items in
    let popped = All-pop (λ (p : PieceOf). p.point < length c.loop-piece.self) left rest (Some c.in-Some.piece) c.in-Some.ensures.items c.loop-piece.invariant.within in
    record {
      placed =
          ap (λ (at : List (Option PieceOf)). put_each at rest) c.put.ensures
          ∙ sym (put_parts c.loop-piece.self rest (c.in-Some.piece ∷ []))
          ∙ ap (put_each c.loop-piece.self) (sym c.in-Some.ensures.items)
          ∙ c.loop-piece.invariant.placed;
      within =
          subst (λ (n : ℕ). All (λ (p : PieceOf). p.point < n) rest)
          (sym (ap length c.put.ensures ∙ length-set c.loop-piece.self c.in-Some.piece.point (Some c.in-Some.piece))) popped.0;
    }

pub put-requires : goal.put-requires
put-requires c =
    (All-pop (λ (p : PieceOf). p.point < length c.loop-piece.self) c.loop-piece.left.items c.pop.new.self.items (Some c.in-Some.piece) c.in-Some.ensures.items c.loop-piece.invariant.within).1

pub returns : goal.returns
returns c =
    let none : length c.loop-piece.left.items ≡ 0 = omega (arith, c.in_default.ensures.cases.0) in
    ap (put_each c.loop-piece.self) (sym (nil_from_length c.loop-piece.left.items none)) ∙ c.loop-piece.invariant.placed
