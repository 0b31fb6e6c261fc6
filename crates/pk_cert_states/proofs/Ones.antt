-- Facts with one octagon.
use Rattle.std.specs.Prelude.{◌≡◌, ℕ, List, [], ◌∷◌, length, slice_set}
use Rattle.std.proofs.Common.{arith, refl, sym, ap, subst}
use Rattle.std.proofs.lemmas.List.Elements.{All-nil, All-cons}
use Rattle.pk_octmat.specs.Octagon.{Octagon, IsOctagon}
use Rattle.pk_octagons.specs.Octagons.{octagon_at, AreOctagons}
use Rattle.pk_octagons.proofs.Sound.{first_of, no_octagons, no_packs}
use Rattle.pk_state.specs.Layouts.{Layout}
use Rattle.pk_state.specs.Facts.{Facts, AreFacts}
use Rattle.pk_cert_states.specs.Lines.{own_pack, HasOne}

pub record AreOne (chosen : List ℕ) (ms : List Octagon) : Type 0 where
  pub vars : (octagon_at ms 0).vars ≡ length chosen
  pub octagon : IsOctagon (octagon_at ms 0)
  pub only : ms ≡ octagon_at ms 0 ∷ []

of_one : (chosen : List ℕ) (ms : List Octagon) → AreOctagons (chosen ∷ []) ms → AreOne chosen ms
of_one c [] h = no_octagons c [] h
of_one c (m ∷ []) h = let own = first_of c [] m [] h in record { vars = own.vars; octagon = own.octagon; only = refl }
of_one c (m ∷ (n ∷ ms)) h = no_packs n ms (first_of c [] m (n ∷ ms) h).rest

-- the octagons of facts are one
pub one_of : (l : Layout) (f : Facts) → HasOne l → AreFacts l f → AreOne (own_pack l) f.octagons
one_of l f one h = of_one (own_pack l) f.octagons (subst (λ (packs : List (List ℕ)). AreOctagons packs f.octagons) one h.octagons)

-- an octagon over the variables is one for each pack
pub one_stands : (l : Layout) (m : Octagon) → HasOne l → m.vars ≡ length (own_pack l) → IsOctagon m → AreOctagons l.packs (m ∷ [])
one_stands l m one e o =
    subst (λ (packs : List (List ℕ)). AreOctagons packs (m ∷ [])) (sym one)
    (record { widths = ap (λ (n : ℕ). n ∷ []) e; each = All-cons IsOctagon m [] o (All-nil IsOctagon) })

-- another in place of the only one
pub put_one : (ms : List Octagon) (m : Octagon) → length ms ≡ 1 → slice_set ms 0 m ≡ m ∷ []
put_one [] m e = absurd (omega (arith, e))
put_one (n ∷ []) m e = refl
put_one (n ∷ (k ∷ ms)) m e = absurd (omega (arith, e))
