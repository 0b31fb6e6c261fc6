-- The members of a stretch, by places.
use Rattle.std.proofs.Common.{◌≡◌, ℕ, ◌<◌, ◌≤◌, ◌+◌, ◌-◌, List, length, get_or, drop, sym, arith, ap, ◌∙◌, Contains}
use Rattle.std.specs.List.{slice_range}
use Rattle.std.proofs.lemmas.List.{get_or_default, get_or-take, get_or-drop, length-take, length-drop}

pub stretch_place : (listing places : List ℕ) (n first end e : ℕ) → length listing ≡ n → ((at : ℕ) → at < n → get_or places (get_or listing at 0) 0 ≡ at) → end ≤ n → Contains (slice_range listing first end) e → (at : ℕ) × (first ≤ at) × (at < end) × (get_or places e 0 ≡ at) × (get_or listing at 0 ≡ e)
stretch_place listing places n first end e long place within has =
    let k = has.0 in
    let short : k < end - first = (
    let taken = length-take (end - first) (drop first listing) in
    omega (arith, has.1, taken)) in
    let at : first + k < n = omega (arith, short, within) in
    let is : get_or listing (first + k) 0 ≡ e = (
    sym (get_or_default listing (first + k) e 0 (omega (arith, at, long)))
    ∙ sym (get_or-drop first listing k e) ∙ sym (get_or-take (end - first) (drop first listing) k e short) ∙ has.2) in
    (first + k, omega arith, omega (arith, short), ap (λ (x : ℕ). get_or places x 0) (sym is) ∙ place (first + k) at, is)

pub stretch_has : (listing : List ℕ) (n first end e at : ℕ) → length listing ≡ n → end ≤ n → first ≤ at → at < end → get_or listing at 0 ≡ e → Contains (slice_range listing first end) e
stretch_has listing n first end e at long within from before is =
    let k = at - first in
    let short : k < end - first = omega (arith, from, before) in
    let same : first + k ≡ at = omega (arith, from) in
    let taken = length-take (end - first) (drop first listing) in
    let dropped = length-drop first listing in (
      k,
      omega (arith, short, taken, dropped, within, long),
      get_or-take (end - first) (drop first listing) k e short ∙ get_or-drop first listing k e ∙ ap (λ (m : ℕ). get_or listing m e) same ∙ get_or_default listing at e 0 (omega (arith, before, within, long)) ∙ is,
    )
