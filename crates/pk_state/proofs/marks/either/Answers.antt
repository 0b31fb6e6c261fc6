use Rattle.std.proofs.Common.{ℕ, ◌<◌, ◌⊎◌, ◌++◌, ◌∙◌, ap, subst, sym, List}
use Rattle.std.proofs.lemmas.Result.{IfOk-weaker}
use Rattle.pk_octagons.specs.Values.{IsListed}
use Rattle.pk_state.proofs.Loose.{listed_both}
use Rattle.pk_state.proofs.marks.either.Goals as goal

pub returns : goal.returns
returns c =
    let a = c.args.a.now in
    let b = c.args.b.now in
    let both = c.in_ok-extend_from_slice.ensures.items ∙ ap (λ (xs : List ℕ). xs ++ b) c.in_ok-out.ensures.items in
    IfOk-weaker c.at_most.result (λ r. (y : ℕ) → y < c.args.n → IsListed c.extend_from_slice.new.self.items y → IsListed r.items y) (λ r. (y : ℕ) → y < c.args.n → IsListed a y ⊎ IsListed b y → IsListed r.items y)
    (λ r f y p e. f y p (subst (λ zs. IsListed zs y) (sym both) (listed_both a b y e))) c.at_most.ensures
