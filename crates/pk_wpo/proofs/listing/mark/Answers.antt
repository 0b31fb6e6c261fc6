use Rattle.std.proofs.Common.{◌≡◌, ◌<◌, ◌==◌, ◌||◌, ℕ, List, Bool, true, false, inl, inr, length, get_or, ap, sym, ◌∙◌, get_or-set_same, get_or-set_other}
use Rattle.std.proofs.Math.ListN.{set}
use Rattle.std.proofs.lemmas.Bool.Decides.{eqb_tells}
use Rattle.pk_wpo.proofs.listing.mark.Goals as goal

marked_at : (heads : List Bool) (h v : ℕ) → h < length heads → get_or (set heads h true) v false ≡ ((v == h) || get_or heads v false)
marked_at heads h v inside = elim (eqb_tells v h) [
  | inl same ↦ ap (λ (w : ℕ). get_or (set heads h true) w false) same.1 ∙ get_or-set_same heads h true false inside ∙ sym (ap (λ (b : Bool). b || get_or heads v false) same.0)
  | inr other ↦ get_or-set_other heads h v true false other.1 ∙ sym (ap (λ (b : Bool). b || get_or heads v false) other.0)
]

pub returns-in-Vertex-clause-marked : goal.returns-in-Vertex-clause-marked
returns-in-Vertex-clause-marked c = λ v below. rw c.in-Vertex.is

pub returns-in-Head-clause-marked : goal.returns-in-Head-clause-marked
returns-in-Head-clause-marked c = λ v below. rw c.in-Head.is (marked_at c.args.heads.now.items c.in-Head.h v (rw c.in-Head.is at c.requires))

pub returns-in-Exit-clause-marked : goal.returns-in-Exit-clause-marked
returns-in-Exit-clause-marked c = λ v below. rw c.in-Exit.is
