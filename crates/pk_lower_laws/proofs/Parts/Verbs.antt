-- Points and variables that are added to both, and trees that wait in both.
use Rattle.std.proofs.Common.{◌≡◌, ℕ, ◌+◌, zero, suc, Bool, true, false, if◌then◌else◌, refl, sym, ◌∙◌, ap, subst}
use Rattle.std.proofs.Math.Nat.{add_assoc}
use Rattle.pk_ctypes.specs.declared.types.IntType.{IntType}
use Rattle.pk_draft.specs.Drafts.{DraftOf, Given, all_placed, placed, fresh}
use Rattle.pk_lower_row.specs.declared.shapes.Shape.{Shape}
use Rattle.pk_lower_row.specs.declared.shapes.Waiting.{Waiting}
use Rattle.pk_lower_row.specs.Shapes.{stays}
use Rattle.pk_lower_row.specs.Rows.{stored_unless, held}
use Rattle.pk_lower_laws.specs.Parts.Steps.{Ahead, InStep}

pub pointed : {p v a b c d : ℕ} → (n : ℕ) → Ahead p v a b c d → Ahead p v (a + n) b (c + n) d
pointed {p = p} {c = c} n s = record { points = ap (λ (x : ℕ). x + n) s.points ∙ add_assoc p c n; variables = s.variables }

pub valued : {p v a b c d : ℕ} → (n : ℕ) → Ahead p v a b c d → Ahead p v a (b + n) c (d + n)
valued {v = v} {d = d} n s = record { points = s.points; variables = ap (λ (x : ℕ). x + n) s.variables ∙ add_assoc v d n }

pub either : {V W : Type 0} (p v : ℕ) (b : Bool) (d f : DraftOf V) (e g : DraftOf W) → InStep p v d e → InStep p v f g → InStep p v (if b then d else f) (if b then e else g)
either p v true d f e g s t = s
either p v false d f e g s t = t

unless_same : {V W : Type 0} (p v : ℕ) (b : Bool) (t u : IntType) (r : Given V) (q : Given W) → InStep p v r.1 q.1 → InStep p v (stored_unless b t r).1 (stored_unless b u q).1
unless_same p v true t u r q s = s
unless_same p v false t u r q s = pointed 1 (valued 1 s)

pub unless : {V W : Type 0} (p v : ℕ) (b c : Bool) → b ≡ c → (t u : IntType) (r : Given V) (q : Given W) → InStep p v r.1 q.1 → InStep p v (stored_unless b t r).1 (stored_unless c u q).1
unless p v b c is t u r q s = subst (λ (z : Bool). InStep p v (stored_unless b t r).1 (stored_unless z u q).1) is (unless_same p v b t u r q s)

pub holding : {V W : Type 0} (p v : ℕ) (how why : Waiting) → how ≡ why → (h g : Shape) → h ≡ g → (t u : IntType) (r : Given V) (q : Given W) → InStep p v r.1 q.1 → InStep p v (held how h t r).1 (held why g u q).1
holding p v how why is h g same t u r q s = unless p v (stays how h) (stays why g) (ap (λ (w : Waiting). stays w h) is ∙ ap (stays why) same) t u r q s

-- ---- points that are here

placed_points : {V : Type 0} (n q : ℕ) (d : DraftOf V) → (all_placed n q d).points ≡ d.points
placed_points zero q d = refl
placed_points (suc n) q d = placed_points n (q + 1) (placed q d)

placed_variables : {V : Type 0} (n q : ℕ) (d : DraftOf V) → (all_placed n q d).variables ≡ d.variables
placed_variables zero q d = refl
placed_variables (suc n) q d = placed_variables n (q + 1) (placed q d)

-- n new points, where n isn't known
pub freshened : {V W : Type 0} (p v n : ℕ) (d : DraftOf V) (e : DraftOf W) → InStep p v d e → InStep p v (fresh n d) (fresh n e)
freshened p v n d e s =
    let t : Ahead p v (d.points + n) d.variables (e.points + n) e.variables = pointed n s in
    record { points = t.points; variables = placed_variables n d.points d ∙ (t.variables ∙ ap (λ (x : ℕ). v + x) (sym (placed_variables n e.points e))) }
