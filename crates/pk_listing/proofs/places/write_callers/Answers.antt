use Rattle.std.proofs.Common.{◌≡◌, ℕ, zero, suc, ◌-◌, ◌<◌, List, ◌++◌, ◌∙◌, refl, sym, ap, append_assoc, arith}
use Rattle.pk_show.specs.Paths.{PathOf}
use Rattle.pk_findings.specs.Texts.{TextOf}
use Rattle.pk_listing.specs.Places.{caller_text, callers_text}
use Rattle.pk_listing.proofs.places.write_callers.Goals as goal

-- the last of so many calls stands first
callers_less : (t : TextOf) (p : PathOf) (left : ℕ) → 0 < left →
    callers_text t p left ≡ caller_text t p (left - 1) ++ callers_text t p (left - 1)
callers_less t p zero h = absurd (omega arith)
callers_less t p (suc k) h = let e : suc k - 1 ≡ k = omega arith in rw e refl

pub loop-left-preserved : goal.loop-left-preserved
loop-left-preserved c =
    let t = c.args.text.now in
    let p = c.args.path.now in
    let left = c.loop-left.left in
    let before = c.loop-left.bytes.items in
    record {
      within = let w = c.loop-left.invariant.within in omega arith;
      text = ap (λ (l : List ℕ). l ++ callers_text t p (left - 1)) c.in_ok-write_caller.ensures
          ∙ append_assoc before (caller_text t p (left - 1)) (callers_text t p (left - 1))
          ∙ ap (λ (l : List ℕ). before ++ l) (sym (callers_less t p left (omega arith)))
          ∙ c.loop-left.invariant.text;
    }
