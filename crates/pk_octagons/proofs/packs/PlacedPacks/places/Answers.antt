use Rattle.std.proofs.Common.{◌≡◌, ap, sym, subst, ◌∙◌, arith, length}
use Rattle.std.specs.Prelude.{All}
use Rattle.pk_octagons.specs.Packs.{places_of, IsPlaceOf}
use Rattle.pk_octagons.proofs.Placing.{places_none, places_are, read_places}
use Rattle.pk_octagons.proofs.packs.PlacedPacks.places.Goals as goal

pub returns-clause-value : goal.returns-clause-value
returns-clause-value c =
    sym (ap (λ ps. places_of ps c.args.x) (sym c.self.view_is) ∙ places_none 0 c.self.inside.packs.items (length c.self.inside.places.items) c.args.x c.self.invariant.0 (omega (arith, c.if-x-len.false, c.len.ensures)))

pub returns-then-x-len-clause-there : goal.returns-then-x-len-clause-there
returns-then-x-len-clause-there c =
    let is : c.as_slice.result.now ≡ places_of c.args.self.now c.args.x =
    c.as_slice.ensures ∙ sym (read_places c.self.inside.places.items c.args.x c.index.result.now (omega (arith, c.if-x-len.true, c.len.ensures)) c.index.ensures)
    ∙ c.self.invariant.1 c.args.x (omega (arith, c.if-x-len.true, c.len.ensures)) ∙ ap (λ ps. places_of ps c.args.x) c.self.view_is in
    subst (λ ls. All (IsPlaceOf c.args.self.now c.args.x) ls) (sym is)
    (subst (λ ps. All (IsPlaceOf ps c.args.x) (places_of ps c.args.x)) c.self.view_is (places_are (length c.self.inside.places.items) c.self.inside.packs.items c.args.x c.self.invariant.0))
