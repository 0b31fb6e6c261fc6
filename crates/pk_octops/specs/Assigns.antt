-- Assignments x_k := V(t) + c.
use Rattle.std.specs.Prelude.{◌≡◌, ℕ, ◌+◌, ◌*◌, ◌/◌, ◌%◌, ◌==◌, if◌then◌else◌, ℤ, pos, ◌+ℤ◌, ◌-ℤ◌, neg_ℤ, Option, Some, None}
use Rattle.pk_octmat.specs.Bounds.{plus, capped}
use Rattle.pk_octmat.specs.Octagon.{Octagon, entry, bar, side, written, forgotten, octagon_of}

-- the number that x_k gets: that of the term and c, or any
abbrev pub Gives : (ℕ → ℤ) → Option ℕ → ℤ → ℤ → Type 0
Gives x None c v = Unit {0}
Gives x (Some t) c v = v ≡ (side x t +ℤ c)

-- what V(i) gains where x_k gains c
abbrev pub gain : ℕ → ℤ → ℕ → ℤ
gain k c i = if i == (2 * k) then c else (if i == (2 * k + 1) then neg_ℤ c else pos 0)

-- the place that V(i) is taken from: for t = 2k + 1 the places of k are exchanged
abbrev pub source : ℕ → ℕ → ℕ → ℕ
source k t i = if (i / 2) == k then (if (t % 2) == 0 then i else bar i) else i

-- c added along, after an exchange where t is the negative of x_k
unfoldable pub moved : (ℕ → ℕ → Option ℤ) → ℕ → ℕ → ℤ → ℕ → ℕ → Option ℤ
moved e k t c i j = capped (plus (e (source k t i) (source k t j)) (Some (gain k c j -ℤ gain k c i)))

-- the old bounds on x_k away, and then V(2k) - V(t) = c
unfoldable pub bound_to : (ℕ → ℕ → Option ℤ) → ℕ → ℕ → ℤ → ℕ → ℕ → Option ℤ
bound_to e k t c = written (written (forgotten e k) t (2 * k) (capped (Some c))) (2 * k) t (capped (Some (neg_ℤ c)))

-- the bounds after an assignment
abbrev pub assigned : (ℕ → ℕ → Option ℤ) → ℕ → Option ℕ → ℤ → ℕ → ℕ → Option ℤ
assigned e k None c i j = forgotten e k i j
assigned e k (Some t) c i j = if (t / 2) == k then moved e k t c i j else bound_to e k t c i j

-- the matrix after an assignment
abbrev pub assignment_of : Octagon → ℕ → Option ℕ → ℤ → Octagon
assignment_of m k t c = octagon_of m.vars (assigned (entry m) k t c)
