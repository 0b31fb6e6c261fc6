-- The homes of the elements of a nest.
use Rattle.std.proofs.Common.{◌≡◌, ◌≢◌, ℕ, zero, suc, ◌<◌, List, [], ◌∷◌, ◌++◌, ◌⊎◌, inl, inr, length, get_or, sym, subst, arith, ap, refl, ◌∙◌, length-append, Option, Some, None}
use Rattle.std.proofs.lemmas.List.{get_or_append_left}
use Rattle.pk_plan.specs.Nests.{Items, No_items, Vertex_first, Component_first, In, Once, Holds}
use Rattle.pk_wpo.specs.Constraints.{Has, vertex, inner_exit, exit_of}
use Rattle.pk_wpo.specs.Layouts.{elements_of, homes_of, Laid, IsLaid, IsHome, end_number, place_in}
use Rattle.pk_wpo.proofs.Sequences.{Member, Different, member_left, member_right, different_left, different_right, different_apart}
use Rattle.pk_wpo.proofs.Bracketed.{head_in, held_in, vertex_listed, exit_listed, listed_is}
use Rattle.pk_wpo.proofs.Placed.{listed_in, place_below, at_place, at_listed, listed_differ}

-- a component of the items has an element, told along the items
abbrev HasAlong : (ℕ → ℕ) → Items → ℕ → ℕ → Type 0
HasAlong exit No_items k e = ⊥
HasAlong exit (Vertex_first v more) k e = HasAlong exit more k e
HasAlong exit (Component_first head rest more) k e =
    ((k ≡ head) × ((e ≡ head) ⊎ Member (elements_of exit rest) e)) ⊎ (HasAlong exit rest k e ⊎ HasAlong exit more k e)

vertex_along : (exit : ℕ → ℕ) (items : Items) (k u : ℕ) → Holds items k u → HasAlong exit items k u
vertex_along exit No_items k u x = absurd x
vertex_along exit (Vertex_first v more) k u x = vertex_along exit more k u x
vertex_along exit (Component_first head rest more) k u (inl x) = inl (x.0, elim x.1 [ inl e ↦ inl e | inr r ↦ inr (vertex_listed exit rest u r) ])
vertex_along exit (Component_first head rest more) k u (inr (inl x)) = inr (inl (vertex_along exit rest k u x))
vertex_along exit (Component_first head rest more) k u (inr (inr x)) = inr (inr (vertex_along exit more k u x))

exit_along : (exit : ℕ → ℕ) (items : Items) (k j : ℕ) → Once items → Holds items k j → Holds items j j → j ≢ k → HasAlong exit items k (exit j)
exit_along exit No_items k j o x y ne = absurd x
exit_along exit (Vertex_first v more) k j o x y ne = exit_along exit more k j o.1 x y ne
exit_along exit (Component_first head rest more) k j o (inl x) (inl y) ne = absurd (ne (y.0 ∙ sym x.0))
exit_along exit (Component_first head rest more) k j o (inl x) (inr (inl y)) ne = inl (x.0, inr (exit_listed exit rest j j y))
exit_along exit (Component_first head rest more) k j o (inl x) (inr (inr y)) ne = elim x.1 [
  | inl e ↦ absurd (ne (e ∙ sym x.0))
  | inr r ↦ absurd (o.2 j r (head_in more j j y))
]
exit_along exit (Component_first head rest more) k j o (inr (inl x)) (inl y) ne = absurd (o.0 (subst (λ (z : ℕ). In rest z) y.0 (held_in rest k j x).0))
exit_along exit (Component_first head rest more) k j o (inr (inl x)) (inr (inl y)) ne = inr (inl (exit_along exit rest k j o.3 x y ne))
exit_along exit (Component_first head rest more) k j o (inr (inl x)) (inr (inr y)) ne = absurd (o.2 j (held_in rest k j x).0 (head_in more j j y))
exit_along exit (Component_first head rest more) k j o (inr (inr x)) (inl y) ne = absurd (o.1 (subst (λ (z : ℕ). In more z) y.0 (held_in more k j x).0))
exit_along exit (Component_first head rest more) k j o (inr (inr x)) (inr (inl y)) ne = absurd (o.2 j (head_in rest j j y) (held_in more k j x).0)
exit_along exit (Component_first head rest more) k j o (inr (inr x)) (inr (inr y)) ne = inr (inr (exit_along exit more k j o.4 x y ne))

has_along : (exit : ℕ → ℕ) (items : Items) (k e : ℕ) → Once items → Has (Holds items) exit k e → HasAlong exit items k e
has_along exit items k e o (vertex x) = vertex_along exit items k e x
has_along exit items k e o (inner_exit {k = j} x y ne) = exit_along exit items k j o x y ne

has_wider : (exit : ℕ → ℕ) (few more : ℕ → ℕ → Type 0) (k e : ℕ) → ((h u : ℕ) → few h u → more h u) → Has few exit k e → Has more exit k e
has_wider exit few more k e wider (vertex x) = vertex (wider k e x)
has_wider exit few more k e wider (inner_exit {k = j} x y ne) = inner_exit (wider k j x) (wider j j y) ne

along_has : (exit : ℕ → ℕ) (items : Items) (k e : ℕ) → Once items → HasAlong exit items k e → Has (Holds items) exit k e
along_has exit No_items k e o x = absurd x
along_has exit (Vertex_first v more) k e o x = has_wider exit (Holds more) (Holds (Vertex_first v more)) k e (λ h u y. y) (along_has exit more k e o.1 x)
along_has exit (Component_first head rest more) k e o (inl x) = elim x.1 [
  | inl same ↦ vertex (inl (x.0, inl same))
  | inr m ↦ elim (listed_is exit rest e m) [
    | inl i ↦ vertex (inl (x.0, inr i))
    | inr y ↦
        let inside : In rest y.0 = head_in rest y.0 y.0 y.1 in
        subst (λ (a : ℕ). Has (Holds (Component_first head rest more)) exit k a) (sym y.2)
        (inner_exit (inl (x.0, inr inside)) (inr (inl y.1)) (λ same. o.0 (subst (λ (a : ℕ). In rest a) (same ∙ x.0) inside)))
  ]
]
along_has exit (Component_first head rest more) k e o (inr (inl x)) = has_wider exit (Holds rest) (Holds (Component_first head rest more)) k e (λ h u y. inr (inl y)) (along_has exit rest k e o.3 x)
along_has exit (Component_first head rest more) k e o (inr (inr x)) = has_wider exit (Holds more) (Holds (Component_first head rest more)) k e (λ h u y. inr (inr y)) (along_has exit more k e o.4 x)

along_listed : (exit : ℕ → ℕ) (items : Items) (k e : ℕ) → HasAlong exit items k e → Member (elements_of exit items) e
along_listed exit No_items k e x = absurd x
along_listed exit (Vertex_first v more) k e x = inr (along_listed exit more k e x)
along_listed exit (Component_first head rest more) k e (inl x) = elim x.1 [
  | inl same ↦ inl same
  | inr m ↦ inr (member_left (elements_of exit rest) (exit head ∷ elements_of exit more) e m)
]
along_listed exit (Component_first head rest more) k e (inr (inl x)) = inr (member_left (elements_of exit rest) (exit head ∷ elements_of exit more) e (along_listed exit rest k e x))
along_listed exit (Component_first head rest more) k e (inr (inr x)) = inr (member_right (elements_of exit rest) (exit head ∷ elements_of exit more) e (inr (along_listed exit more k e x)))

-- two lists at one place
abbrev Paired : List ℕ → List (Option ℕ) → ℕ → Option ℕ → Type 0
Paired [] ys e o = ⊥
Paired (x ∷ xs) [] e o = ⊥
Paired (x ∷ xs) (y ∷ ys) e o = ((e ≡ x) × (o ≡ y)) ⊎ Paired xs ys e o

paired_at : (xs : List ℕ) (ys : List (Option ℕ)) (k : ℕ) → length xs ≡ length ys → k < length xs → Paired xs ys (get_or xs k 0) (get_or ys k None)
paired_at [] ys k long below = absurd (omega arith)
paired_at (x ∷ xs) [] k long below = absurd (omega (arith, long))
paired_at (x ∷ xs) (y ∷ ys) zero long below = inl (refl, refl)
paired_at (x ∷ xs) (y ∷ ys) (suc k) long below = inr (paired_at xs ys k (omega (arith, long)) (omega arith))

paired_either : (xs zs : List ℕ) (ys ws : List (Option ℕ)) (e : ℕ) (o : Option ℕ) → length xs ≡ length ys → Paired (xs ++ zs) (ys ++ ws) e o → Paired xs ys e o ⊎ Paired zs ws e o
paired_either [] zs [] ws e o long p = inr p
paired_either [] zs (y ∷ ys) ws e o long p = absurd (omega (arith, long))
paired_either (x ∷ xs) zs [] ws e o long p = absurd (omega (arith, long))
paired_either (x ∷ xs) zs (y ∷ ys) ws e o long (inl p) = inl (inl p)
paired_either (x ∷ xs) zs (y ∷ ys) ws e o long (inr p) = elim (paired_either xs zs ys ws e o (omega (arith, long)) p) [ inl a ↦ inl (inr a) | inr b ↦ inr b ]

paired_member : (xs : List ℕ) (ys : List (Option ℕ)) (e : ℕ) (o : Option ℕ) → Paired xs ys e o → Member xs e
paired_member [] ys e o p = absurd p
paired_member (x ∷ xs) [] e o p = absurd p
paired_member (x ∷ xs) (y ∷ ys) e o (inl p) = inl p.0
paired_member (x ∷ xs) (y ∷ ys) e o (inr p) = inr (paired_member xs ys e o p)

pub length-homes_of : (exit : ℕ → ℕ) (home : Option ℕ) (items : Items) → length (elements_of exit items) ≡ length (homes_of home items)
length-homes_of exit home No_items = refl
length-homes_of exit home (Vertex_first v more) = let later = length-homes_of exit home more in omega (arith, later)
length-homes_of exit home (Component_first head rest more) =
    let inner = length-homes_of exit (Some head) rest in
    let later = length-homes_of exit home more in
    let joined = length-append (elements_of exit rest) (exit head ∷ elements_of exit more) in
    let joined' = length-append (homes_of (Some head) rest) (home ∷ homes_of home more) in
    omega (arith, inner, later, joined, joined')

-- the home is what is told from outside, where no component of the items has the element but as its head, or it is the innermost one
abbrev HomeAlong : (ℕ → ℕ) → Items → Option ℕ → ℕ → Option ℕ → Type 0
HomeAlong exit items outside e o =
    ((o ≡ outside) × ((k : ℕ) → HasAlong exit items k e → e ≡ k))
    ⊎ ((h : ℕ) × (o ≡ Some h) × Holds items h h × HasAlong exit items h e × (e ≢ h) × ((k : ℕ) → HasAlong exit items k e → e ≢ k → Holds items k h))

homes_along : (exit : ℕ → ℕ) (items : Items) (outside : Option ℕ) (e : ℕ) (o : Option ℕ) → Once items → Different (elements_of exit items) → Paired (elements_of exit items) (homes_of outside items) e o → HomeAlong exit items outside e o
homes_along exit No_items outside e o once d p = absurd p
homes_along exit (Vertex_first v more) outside e o once d (inl p) =
    inl (p.1, (λ k x. absurd (d.0 (subst (λ (a : ℕ). Member (elements_of exit more) a) p.0 (along_listed exit more k e x)))))
homes_along exit (Vertex_first v more) outside e o once d (inr p) = homes_along exit more outside e o once.1 d.1 p
homes_along exit (Component_first head rest more) outside e o once d p =
    let inner : List ℕ = elements_of exit rest in
    let later : List ℕ = elements_of exit more in
    let tail : Different (exit head ∷ later) = different_right inner (exit head ∷ later) d.1 in
    let not_both : (a : ℕ) → Member inner a → Member (exit head ∷ later) a → ⊥ = (λ a m n. different_apart inner (exit head ∷ later) a d.1 m n) in
    elim p [
      | inl q ↦ inl (
        q.1,
        (λ k x. elim x [
          | inl y ↦ q.0 ∙ sym y.0
          | inr y ↦ elim y [
            | inl z ↦ absurd (d.0 (member_left inner (exit head ∷ later) head (subst (λ (a : ℕ). Member inner a) q.0 (along_listed exit rest k e z))))
            | inr z ↦ absurd (d.0 (member_right inner (exit head ∷ later) head (inr (subst (λ (a : ℕ). Member later a) q.0 (along_listed exit more k e z)))))
          ]
        ]),
      )
      | inr q ↦ elim (paired_either inner (exit head ∷ later) (homes_of (Some head) rest) (outside ∷ homes_of outside more) e o (length-homes_of exit (Some head) rest) q) [
        | inl r ↦
            let here : Member inner e = paired_member inner (homes_of (Some head) rest) e o r in
            let not_head : e ≢ head = (λ same. d.0 (member_left inner (exit head ∷ later) head (subst (λ (a : ℕ). Member inner a) same here))) in
            elim (homes_along exit rest (Some head) e o once.3 (different_left inner (exit head ∷ later) d.1) r) [
              | inl x ↦ inr (
                head,
                x.0,
                inl (refl, inl refl),
                inl (refl, inr here),
                not_head,
                (λ k y ne. elim y [
                  | inl z ↦ inl (z.0, inl refl)
                  | inr z ↦ elim z [
                    | inl w ↦ absurd (ne (x.1 k w))
                    | inr w ↦ absurd (not_both e here (inr (along_listed exit more k e w)))
                  ]
                ]),
              )
              | inr x ↦ inr (
                x.0,
                x.1,
                inr (inl x.2),
                inr (inl x.3),
                x.4,
                (λ k y ne. elim y [
                  | inl z ↦ inl (z.0, inr (head_in rest x.0 x.0 x.2))
                  | inr z ↦ elim z [
                    | inl w ↦ inr (inl (x.5 k w ne))
                    | inr w ↦ absurd (not_both e here (inr (along_listed exit more k e w)))
                  ]
                ]),
              )
            ]
        | inr r ↦ elim r [
          | inl s ↦ inl (
            s.1,
            (λ k x. elim x [
              | inl y ↦ elim y.1 [
                | inl z ↦ absurd (d.0 (member_right inner (exit head ∷ later) head (inl (sym z ∙ s.0))))
                | inr z ↦ absurd (not_both e z (inl s.0))
              ]
              | inr y ↦ elim y [
                | inl z ↦ absurd (not_both e (along_listed exit rest k e z) (inl s.0))
                | inr z ↦ absurd (tail.0 (subst (λ (a : ℕ). Member later a) s.0 (along_listed exit more k e z)))
              ]
            ]),
          )
          | inr s ↦
              let here : Member later e = paired_member later (homes_of outside more) e o s in
              let elsewhere : (k : ℕ) → HasAlong exit (Component_first head rest more) k e → HasAlong exit more k e = (λ k x. elim x [
                | inl y ↦ elim y.1 [
                  | inl z ↦ absurd (d.0 (member_right inner (exit head ∷ later) head (inr (subst (λ (a : ℕ). Member later a) z here))))
                  | inr z ↦ absurd (not_both e z (inr here))
                ]
                | inr y ↦ elim y [
                  | inl z ↦ absurd (not_both e (along_listed exit rest k e z) (inr here))
                  | inr z ↦ z
                ]
              ]) in
              elim (homes_along exit more outside e o once.4 tail.1 s) [
                | inl x ↦ inl (x.0, (λ k y. x.1 k (elsewhere k y)))
                | inr x ↦ inr (x.0, x.1, inr (inr x.2), inr (inr x.3), x.4, (λ k y ne. inr (inr (x.5 k (elsewhere k y) ne))))
              ]
        ]
      ]
    ]

home_by : (exit : ℕ → ℕ) (items : Items) (e : ℕ) (o : Option ℕ) → Once items → HomeAlong exit items None e o → IsHome (Holds items) exit e o
home_by exit items e o once (inl x) = subst (λ (p : Option ℕ). IsHome (Holds items) exit e p) (sym x.0) (λ k y has. x.1 k (has_along exit items k e once has))
home_by exit items e o once (inr x) = subst (λ (p : Option ℕ). IsHome (Holds items) exit e p) (sym x.1)
    (x.2, along_has exit items x.0 e once x.3, x.4, (λ k y has ne. x.5 k (has_along exit items k e once has) ne))

-- the home at an element's place is the element's
pub home_at : (l : Laid) (homes : List (Option ℕ)) (e : ℕ) → IsLaid l → homes ≡ homes_of None l.items ++ None ∷ [] → e < end_number l → IsHome (Holds l.items) (exit_of l.graph l.items) e (get_or homes (place_in l e) None)
home_at l homes e laid are below =
    let k = place_in l e in
    let in_range : k < length (listed_in l) = place_below l e laid below in
    let long : length (listed_in l) ≡ length (homes_of None l.items) = length-homes_of (exit_of l.graph l.items) None l.items in
    let at : get_or homes k None ≡ get_or (homes_of None l.items) k None = ap (λ (xs : List (Option ℕ)). get_or xs k None) are ∙ get_or_append_left (homes_of None l.items) (None ∷ []) None k (omega (arith, in_range, long)) in
    let is : get_or (listed_in l) k 0 ≡ e = sym (at_listed l k laid in_range) ∙ at_place l e laid below in
    let pair : Paired (listed_in l) (homes_of None l.items) (get_or (listed_in l) k 0) (get_or (homes_of None l.items) k None) = paired_at (listed_in l) (homes_of None l.items) k long in_range in
    let along = homes_along (exit_of l.graph l.items) l.items None (get_or (listed_in l) k 0) (get_or (homes_of None l.items) k None) laid.nest.once (listed_differ l laid) pair in
    let home = home_by (exit_of l.graph l.items) l.items (get_or (listed_in l) k 0) (get_or (homes_of None l.items) k None) laid.nest.once along in
    subst (λ (a : ℕ). IsHome (Holds l.items) (exit_of l.graph l.items) a (get_or homes k None)) is
    (subst (λ (o : Option ℕ). IsHome (Holds l.items) (exit_of l.graph l.items) (get_or (listed_in l) k 0) o) (sym at) home)

-- each element has a home, or is in none
pub home_of_each : (l : Laid) (e : ℕ) → IsLaid l → e < end_number l → (o : Option ℕ) × IsHome (Holds l.items) (exit_of l.graph l.items) e o
home_of_each l e laid below = (get_or (homes_of None l.items ++ None ∷ []) (place_in l e) None, home_at l (homes_of None l.items ++ None ∷ []) e laid refl below)
