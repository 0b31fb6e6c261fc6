-- Edges of a draft by number are edges of its numbered graph.
use Rattle.std.proofs.Common.{◌≡◌, ℕ, suc, ◌⊎◌, List, [], ◌∷◌, Bool, true, false, not, ◌&&◌, cond, nat_eq, refl, sym, ap, ◌∙◌, subst, inl, inr, arith}
use Rattle.std.specs.List.{Contains}
use Rattle.std.proofs.lemmas.List.{get_or-map}
use Rattle.std.proofs.lemmas.Bool.Decides.{eqb_tells}
use Rattle.pk_graph.specs.Graphs.{PathOf, no_point, point_at}
use Rattle.pk_draft.specs.Drafts.{EdgeFrom, DraftOf, nowhere, entry_point}
use Rattle.pk_number.specs.Preorders.{is_among, place_among}
use Rattle.pk_number.specs.Numbering.{is_from, edges_from, ends, reached, edge_of, point_of, numbered}
use Rattle.pk_number.proofs.AmongLemmas.{at_place, place_inside}
use Rattle.pk_number.proofs.ReachedLemmas.{end_among, entry_reached, entry_place, reached_closed}
use Rattle.pk_visits.proofs.Slots.{Among}
use Rattle.pk_number.proofs.NumberedLemmas.{contains_map}

-- a way leads from the entry to the point
abbrev pub IsFound : DraftOf ℕ → ℕ → Type 0
IsFound d p = is_among p (reached d.edges) ≡ true

-- its number in the graph
abbrev pub number_of : DraftOf ℕ → ℕ → ℕ
number_of d p = place_among (reached d.edges) p

pub entry_found : (d : DraftOf ℕ) → IsFound d entry_point
entry_found d = entry_reached d.edges

pub entry_number : (d : DraftOf ℕ) → number_of d entry_point ≡ 0
entry_number d = entry_place d.edges

-- the point has the label's path, place and scope, and the edges that are made from it
pub point_shown : (paths : List PathOf) (d : DraftOf ℕ) (p : ℕ) → IsFound d p → point_at (numbered paths d) (number_of d p) ≡ point_of (reached d.edges) d p
point_shown paths d p h =
    get_or-map (point_of (reached d.edges) d) (reached d.edges) (place_among (reached d.edges) p) 0 no_point (place_inside (reached d.edges) p h)
    ∙ ap (point_of (reached d.edges) d) (at_place (reached d.edges) p 0 h)

same_number : (n : ℕ) → nat_eq n n ≡ true
same_number n = told (eqb_tells n n) where
  told : ((nat_eq n n ≡ true) × (n ≡ n)) ⊎ ((nat_eq n n ≡ false) × (n ≡ n → ⊥)) → nat_eq n n ≡ true
  told (inl e) = e.0
  told (inr e) = absurd (e.1 refl)

other_number : (m n : ℕ) → (m ≡ n → ⊥) → nat_eq m n ≡ false
other_number m n h = told (eqb_tells m n) where
  told : ((nat_eq m n ≡ true) × (m ≡ n)) ⊎ ((nat_eq m n ≡ false) × (m ≡ n → ⊥)) → nat_eq m n ≡ false
  told (inl e) = absurd (h e.1)
  told (inr e) = e.0

is_made : (e : EdgeFrom ℕ) → (e.to ≡ nowhere → ⊥) → is_from e.from e ≡ true
is_made e h = ap (λ b. b && not (nat_eq e.to nowhere)) (same_number e.from) ∙ ap not (other_number e.to nowhere h)

more : (b : Bool) (e x : EdgeFrom ℕ) (fs : List (EdgeFrom ℕ)) → Contains fs e → Contains (cond b (x ∷ fs) fs) e
more true e x fs h = (suc h.0, omega (arith, h.1), h.2)
more false e x fs h = h

made_from : (p : ℕ) (es : List (EdgeFrom ℕ)) (e : EdgeFrom ℕ) → Among e es → is_from p e ≡ true → Contains (edges_from p es) e
made_from p [] e h i = absurd h
made_from p (x ∷ es) e (inl h) i =
    subst (λ b. Contains (cond b (x ∷ edges_from p es) (edges_from p es)) e) (sym i ∙ ap (is_from p) h) (0, omega arith, sym h)
made_from p (x ∷ es) e (inr h) i = more (is_from p x) e x (edges_from p es) (made_from p es e h i)

-- An edge that is made from a found point leads to a found point.
pub end_found : (d : DraftOf ℕ) (e : EdgeFrom ℕ) → Among e d.edges → (e.to ≡ nowhere → ⊥) → IsFound d e.from → IsFound d e.to
end_found d e a n h =
    let c = made_from e.from d.edges e a (is_made e n) in
    reached_closed d.edges e.from e.to h (subst (λ (x : EdgeFrom ℕ). is_among x.to (ends d.edges e.from) ≡ true) c.2 (end_among (edges_from e.from d.edges) c.0 e c.1))

-- It is an edge of the graph, with the same instruction.
pub edge_shown : (paths : List PathOf) (d : DraftOf ℕ) (e : EdgeFrom ℕ) → Among e d.edges → (e.to ≡ nowhere → ⊥) → IsFound d e.from
    → Contains (point_at (numbered paths d) (number_of d e.from)).edges (edge_of (reached d.edges) e)
edge_shown paths d e a n h =
    subst (λ x. Contains x.edges (edge_of (reached d.edges) e)) (sym (point_shown paths d e.from h))
    (contains_map (edge_of (reached d.edges)) (edges_from e.from d.edges) e (made_from e.from d.edges e a (is_made e n)))
