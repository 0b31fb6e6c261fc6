-- Matrices by their bounds.
use Rattle.std.specs.Prelude.{◌≡◌, ℕ, zero, suc, ◌+◌, ◌*◌, ◌/◌, ◌%◌, ◌<◌, ℤ, length, List, Option, None}
use Rattle.std.proofs.Common.{arith, refl, ap, sym, subst, ◌∙◌, get_or}
use Rattle.std.proofs.lemmas.List.{ext_get_or}
use Rattle.std.proofs.lemmas.List.FromFn.{get_or-map-range_with_len, length-map-range_with_len}
use Rattle.std.proofs.lemmas.Nat.{div-mul-add, mod-mul-add}
use Rattle.std.proofs.Math.Nat.{div-add-mod, div-lt_iff_lt-mul, mod-lt}
use Rattle.pk_octmat.specs.Octagon.{Octagon, entry, cell_at, bar, tabled, octagon_of, IsOctagon, HasEntries}
use Rattle.pk_octmat.specs.Laws.{AreBounds, OctagonsAreEntries}
use Rattle.pk_octmat.proofs.Cells.{cell_in, place_in}
use Rattle.pk_octmat.proofs.Bars.{bar_in}
use Rattle.pk_octmat.proofs.Matrices.{matrix_from}

pub tabled_length : (d : ℕ) (f : ℕ → ℕ → Option ℤ) → length (tabled d f) ≡ d * d
tabled_length d f = length-map-range_with_len (λ k. f (k / d) (k % d)) 0 (d * d)

place_below : (d i j : ℕ) → i < d → j < d → i * d + j < d * d
place_below d i j id jd =
    let f : ℕ → ℕ → Option ℤ = λ a b. None in
    subst (λ n. i * d + j < n) (tabled_length d f) (place_in d (tabled d f) i j (tabled_length d f) id jd)

pub tabled_entry : (d : ℕ) (f : ℕ → ℕ → Option ℤ) (i j : ℕ) → i < d → j < d → cell_at d (tabled d f) i j ≡ f i j
tabled_entry d f i j id jd =
    cell_in d (tabled d f) i j id jd
    ∙ get_or-map-range_with_len (λ k. f (k / d) (k % d)) 0 (d * d) (i * d + j) (i * d + j) None (place_below d i j id jd) (omega arith)
    ∙ ap (λ a. f a ((i * d + j) % d)) (div-mul-add i d j jd) ∙ ap (λ a. f i a) (mod-mul-add i d j jd)

some_places : (d k : ℕ) → k < d * d → 0 < d
some_places zero k p = absurd (omega arith)
some_places (suc n) k p = omega arith

div_below : (d k : ℕ) → k < d * d → k / d < d
div_below d k p = (div-lt_iff_lt-mul {k = d} {x = k} {y = d} (some_places d k p)).1 p

-- two lists of cells with the same bounds are one
same_cells : (d : ℕ) (xs ys : List (Option ℤ)) → length xs ≡ d * d → length ys ≡ d * d → ((i j : ℕ) → i < d → j < d → cell_at d xs i j ≡ cell_at d ys i j) → xs ≡ ys
same_cells d xs ys sx sy e = ext_get_or None xs ys (sx ∙ sym sy) (λ k p. at k (subst (λ n. k < n) sx p))
  where
    at : (k : ℕ) → k < d * d → get_or xs k None ≡ get_or ys k None
    at k p =
        let some : 0 < d = some_places d k p in
        let i = k / d in
        let j = k % d in
        let id : i < d = div_below d k p in
        let jd : j < d = mod-lt k some in
        let split : i * d + j ≡ k = omega (arith, div-add-mod k d) in
        let left = cell_in d xs i j id jd ∙ ap (λ n. get_or xs n None) split in
        let right = cell_in d ys i j id jd ∙ ap (λ n. get_or ys n None) split in
        sym left ∙ e i j id jd ∙ right

pub octagon_is : (n : ℕ) (f : ℕ → ℕ → Option ℤ) (m : Octagon) → IsOctagon m → HasEntries n f m → m ≡ octagon_of n f
octagon_is n f m h e =
    let d = 2 * m.vars in
    let same : m.cells ≡ tabled d f = same_cells d m.cells (tabled d f) h.whole.size (tabled_length d f)
    (λ i j id jd. e.each i j (omega (arith, e.vars)) (omega (arith, e.vars)) ∙ sym (tabled_entry d f i j id jd)) in
    ap (λ xs. let o : Octagon = record { vars = m.vars; cells = xs } in o) same ∙ ap (λ k. octagon_of k f) e.vars

pub octagon_one : (a b : Octagon) → IsOctagon a → IsOctagon b → HasEntries b.vars (entry b) a → a ≡ b
octagon_one a b g h e = octagon_is b.vars (entry b) a g e ∙ sym (octagon_is b.vars (entry b) b h (record { vars = refl; each = λ i j id jd. refl }))

pub octagon_entries : (n : ℕ) (f : ℕ → ℕ → Option ℤ) → HasEntries n f (octagon_of n f)
octagon_entries n f = record { vars = refl; each = λ i j id jd. tabled_entry (2 * n) f i j id jd }

pub octagon_from : (n : ℕ) (f : ℕ → ℕ → Option ℤ) → AreBounds n f → IsOctagon (octagon_of n f)
octagon_from n f h = record {
  few = h.few;
  whole =
      matrix_from (2 * n) n (tabled (2 * n) f) refl (tabled_length (2 * n) f) (λ i id. is i i id id ∙ h.zero i id)
      (λ i j id jd. is i j id jd ∙ h.turned i j id jd ∙ sym (is (bar j) (bar i) (bar_in n j jd) (bar_in n i id)))
      (λ i j id jd. rw (is i j id jd) (h.near i j id jd));
}
  where
    is : (i j : ℕ) → i < 2 * n → j < 2 * n → cell_at (2 * n) (tabled (2 * n) f) i j ≡ f i j
    is = tabled_entry (2 * n) f

pub octagons_entries : OctagonsAreEntries
octagons_entries = record { one = octagon_one; is = octagon_is; entries = octagon_entries; octagon = octagon_from }
