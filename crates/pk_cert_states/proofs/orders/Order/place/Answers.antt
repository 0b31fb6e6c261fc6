use Rattle.std.proofs.Common.{◌≡◌, ◌<◌, ◌∙◌, ℕ, List, length, ap, sym, subst, arith}
use Rattle.std.proofs.lemmas.List.{get_or_read}
use Rattle.pk_cert_states.specs.Parts.{slot_at}
use Rattle.pk_cert_states.proofs.Ordering.{place_is}
use Rattle.pk_cert_states.proofs.orders.Order.place.Goals as goal

pub returns-clause-value : goal.returns-clause-value
returns-clause-value c =
    let slots = c.self.inside.slots.items in
    let places = c.self.inside.places.items in
    let below : c.args.j < length slots = subst (λ (js : List ℕ). c.args.j < length js) (sym c.self.view_is) c.requires in
    let at = place_is slots places c.args.j c.self.invariant.0 c.self.invariant.1 below in
    let read : c.index.result.now ≡ slot_at places c.args.j = get_or_read places c.args.j c.index.result.now (omega (arith, below, c.self.invariant.1.size)) c.index.ensures 0 in
    subst (λ (js : List ℕ). slot_at js c.index.result.now ≡ c.args.j) c.self.view_is (ap (slot_at slots) read ∙ at.0)

pub returns-clause-there : goal.returns-clause-there
returns-clause-there c =
    let slots = c.self.inside.slots.items in
    let places = c.self.inside.places.items in
    let below : c.args.j < length slots = subst (λ (js : List ℕ). c.args.j < length js) (sym c.self.view_is) c.requires in
    let at = place_is slots places c.args.j c.self.invariant.0 c.self.invariant.1 below in
    let read : c.index.result.now ≡ slot_at places c.args.j = get_or_read places c.args.j c.index.result.now (omega (arith, below, c.self.invariant.1.size)) c.index.ensures 0 in
    subst (λ (js : List ℕ). c.index.result.now < length js) c.self.view_is (subst (λ (n : ℕ). n < length slots) (sym read) at.1)
