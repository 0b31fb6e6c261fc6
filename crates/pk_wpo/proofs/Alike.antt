-- Constraints don't depend on which of two nests that hold the same is taken.
use Rattle.std.proofs.Common.{◌≡◌, ℕ, ◌<◌, ◌+◌, Bool, true, false, List, [], length, get_or, map, sym, subst, arith, ap, refl, ◌∙◌, Contains, All, ◌↔◌, count_by}
use Rattle.std.specs.List.{range_with_len}
use Rattle.std.specs.List.Sorted.{IsStrictlyIncreasing}
use Rattle.std.proofs.lemmas.List.{ext_get_or, get_or_default, get_or-map, length-map}
use Rattle.std.proofs.lemmas.List.Elements.{filter_agree}
use Rattle.std.proofs.lemmas.List.Sums.{length-filter}
use Rattle.pk_plan.specs.declared.components.Component.{Component}
use Rattle.pk_plan.specs.Nests.{Items, Holds}
use Rattle.pk_plan.specs.Plans.{PlanView, predecessors_of, Constrains, Inside, is_inside}
use Rattle.pk_plan.specs.Axioms.{Axioms}
use Rattle.pk_plan.proofs.PlanLemmas.{is_inside_tells, constrains_from}
use Rattle.pk_wpo.specs.Constraints.{Top, itself, exit_of_outermost, Has, vertex, inner_exit, EdgeConstraint, forth, back, HeadConstraint, IsElement, a_vertex, an_exit, Constraint, by_edge, by_head, to_end, is_head, exit_of}
use Rattle.pk_wpo.specs.Made.{IsPlanOf}
use Rattle.pk_wpo.specs.Same.{HoldTheSame, PlanIsDetermined}
use Rattle.pk_wpo.proofs.Numbers.{head_holds, holds_head}
use Rattle.pk_wpo.proofs.Sequences.{Member}
use Rattle.pk_wpo.proofs.Rising.{contains_member, member_contains, rising_same, filter_agrees}

-- both hold the same, and number the exits in the same way
pub record Same (holds other : ℕ → ℕ → Type 0) (exit exit' : ℕ → ℕ) : Type 0 where
  pub to : (h u : ℕ) → holds h u → other h u
  pub of : (h u : ℕ) → other h u → holds h u
  pub exits : (h : ℕ) → exit h ≡ exit' h

turned : (holds other : ℕ → ℕ → Type 0) (exit exit' : ℕ → ℕ) → Same holds other exit exit' → Same other holds exit' exit
turned holds other exit exit' s = record { to = s.of; of = s.to; exits = λ h. sym (s.exits h) }

top_moves : (holds other : ℕ → ℕ → Type 0) (exit exit' : ℕ → ℕ) (u v a : ℕ) → Same holds other exit exit' → Top holds exit u v a → Top other exit' u v a
top_moves holds other exit exit' u v a s (itself f) = itself (λ k x. s.to k v (f k (s.of k u x)))
top_moves holds other exit exit' u v a s (exit_of_outermost {h} o) =
    subst (λ (i : ℕ). Top other exit' u v i) (sym (s.exits h)) (exit_of_outermost (record {
      with_one = s.to h u o.with_one;
      without_other = λ x. o.without_other (s.of h v x);
      outermost = λ k x out. s.to h k (o.outermost k (s.of k u x) (λ y. out (s.to k v y)));
    }))

has_moves : (holds other : ℕ → ℕ → Type 0) (exit exit' : ℕ → ℕ) (h e : ℕ) → Same holds other exit exit' → Has holds exit h e → Has other exit' h e
has_moves holds other exit exit' h e s (vertex x) = vertex (s.to h e x)
has_moves holds other exit exit' h e s (inner_exit {k} x y ne) = subst (λ (i : ℕ). Has other exit' h i) (sym (s.exits k)) (inner_exit (s.to h k x) (s.to k k y) ne)

edge_moves : (g : List (List ℕ)) (holds other : ℕ → ℕ → Type 0) (exit exit' : ℕ → ℕ) (a b : ℕ) → Same holds other exit exit' → EdgeConstraint g holds exit a b → EdgeConstraint g other exit' a b
edge_moves g holds other exit exit' a b s (forth {u} e no' t) = forth e (λ x. no' (s.of b u x)) (top_moves holds other exit exit' u b a s t)
edge_moves g holds other exit exit' a b s (back {u} {h} e x t) = subst (λ (i : ℕ). EdgeConstraint g other exit' a i) (sym (s.exits h)) (back e (s.to h u x) (top_moves holds other exit exit' u h a s t))

head_moves : (g : List (List ℕ)) (holds other : ℕ → ℕ → Type 0) (exit exit' : ℕ → ℕ) (h b : ℕ) → Same holds other exit exit' → HeadConstraint g holds exit h b → HeadConstraint g other exit' h b
head_moves g holds other exit exit' h b s c =
    let t = turned holds other exit exit' s in
    record {
      has = has_moves holds other exit exit' h b s c.has;
      another = c.another;
      without_edge = λ a inside e. c.without_edge a (has_moves other holds exit' exit h a t inside) (edge_moves g other holds exit' exit a b t e);
      in_no_inner = λ k ne x inside. c.in_no_inner k ne (s.of h k x) (has_moves other holds exit' exit k b t inside);
    }

element_moves : (g : List (List ℕ)) (holds other : ℕ → ℕ → Type 0) (exit exit' : ℕ → ℕ) (a : ℕ) → Same holds other exit exit' → IsElement g holds exit a → IsElement g other exit' a
element_moves g holds other exit exit' a s (a_vertex v) = a_vertex v
element_moves g holds other exit exit' a s (an_exit {h} x) = subst (λ (i : ℕ). IsElement g other exit' i) (sym (s.exits h)) (an_exit (s.to h h x))

constraint_moves : (g : List (List ℕ)) (holds other : ℕ → ℕ → Type 0) (exit exit' : ℕ → ℕ) (a b : ℕ) → Same holds other exit exit' → Constraint g holds exit a b → Constraint g other exit' a b
constraint_moves g holds other exit exit' a b s (by_edge e) = by_edge (edge_moves g holds other exit exit' a b s e)
constraint_moves g holds other exit exit' a b s (by_head c) = by_head (head_moves g holds other exit exit' a b s c)
constraint_moves g holds other exit exit' a b s (to_end element no_edge no_head) =
    let t = turned holds other exit exit' s in
    subst (λ (i : ℕ). Constraint g other exit' a i) (sym (s.exits (length g)))
    (to_end (element_moves g holds other exit exit' a s element) (λ c e. no_edge c (edge_moves g other holds exit' exit a c t e)) (λ c h. no_head c (head_moves g other holds exit' exit a c t h)))

-- two nests that hold the same number the exits in the same way
head_same : (a b : Items) (v : ℕ) → HoldTheSame a b → is_head a v ≡ is_head b v
head_same a b v same = both (is_head a v) (is_head b v) (λ h. holds_head b v v ((same v v).0 (head_holds a v h))) (λ h. holds_head a v v ((same v v).1 (head_holds b v h)))
  where
    both : (x y : Bool) → (x ≡ true → y ≡ true) → (y ≡ true → x ≡ true) → x ≡ y
    both true y f g = sym (f refl)
    both false true f g = g refl
    both false false f g = refl

nests_same : (g : List (List ℕ)) (a b : Items) → HoldTheSame a b → Same (Holds a) (Holds b) (exit_of g a) (exit_of g b)
nests_same g a b same = record {
  to = λ h u x. (same h u).0 x;
  of = λ h u x. (same h u).1 x;
  exits = λ h. ap (λ (xs : List ℕ). length g + length xs) (filter_agree (is_head a) (is_head b) (λ v. head_same a b v same) (range_with_len 0 h));
}

-- so the plans have the same constraints
constrains_moves : (g : List (List ℕ)) (a b : Items) (p q : PlanView) (x y : ℕ) → HoldTheSame a b → IsPlanOf g a p → IsPlanOf g b q → Constrains p x y → Constrains q x y
constrains_moves g a b p q x y same is is' c =
    is'.constrains x y (constraint_moves g (Holds a) (Holds b) (exit_of g a) (exit_of g b) x y (nests_same g a b same) (is.constraint x y c))

swapped : (a b : Items) → HoldTheSame a b → HoldTheSame b a
swapped a b same h u = ((same h u).1, (same h u).0)

-- the same heads
heads_of : PlanView → List ℕ
heads_of p = map (λ (c : Component). c.head) p.components

head_member : (p : PlanView) (c : Component) → Contains p.components c → Member (map (λ (x : Component). x.head) p.components) c.head
head_member p c of =
    contains_member (map (λ (x : Component). x.head) p.components) c.head (
      of.0,
      (let below = of.1 in let long = length-map p.components (λ (x : Component). x.head) in omega (arith, below, long)),
      get_or-map (λ (x : Component). x.head) p.components of.0 c c.head of.1 ∙ ap (λ (x : Component). x.head) of.2,
    )

member_head : (p : PlanView) (h : ℕ) → Member (map (λ (x : Component). x.head) p.components) h → (c : Component) × Contains p.components c × (c.head ≡ h)
member_head p h m =
    let has = member_contains (map (λ (x : Component). x.head) p.components) h m in
    let long = length-map p.components (λ (x : Component). x.head) in
    let below : has.0 < length p.components = (let inside = has.1 in omega (arith, inside, long)) in
    let d : Component = record { head = 0; exit = 0; first = 0; end = 0 } in (
      get_or p.components has.0 d,
      (has.0, below, get_or_default p.components has.0 (get_or p.components has.0 d) d below),
      sym (get_or-map (λ (x : Component). x.head) p.components has.0 d h below) ∙ has.2,
    )

heads_move : (g : List (List ℕ)) (a b : Items) (p q : PlanView) (h : ℕ) → HoldTheSame a b → IsPlanOf g a p → IsPlanOf g b q → Member (map (λ (x : Component). x.head) p.components) h → Member (map (λ (x : Component). x.head) q.components) h
heads_move g a b p q h same is is' m =
    let c = member_head p h m in
    let x : Holds b h h = (same h h).0 (subst (λ (i : ℕ). Holds a i i) c.2 (is.head c.0 c.1)) in
    let d = is'.component h x in
    subst (λ (i : ℕ). Member (map (λ (x : Component). x.head) q.components) i) d.2 (head_member q d.0 d.1)

heads_alike : (g : List (List ℕ)) (a b : Items) (p q : PlanView) → HoldTheSame a b → Axioms p → Axioms q → IsPlanOf g a p → IsPlanOf g b q → map (λ (x : Component). x.head) p.components ≡ map (λ (x : Component). x.head) q.components
heads_alike g a b p q same axioms axioms' is is' =
    rising_same (map (λ (x : Component). x.head) p.components) (map (λ (x : Component). x.head) q.components) axioms.heads axioms'.heads
    (λ h m. heads_move g a b p q h same is is' m) (λ h m. heads_move g b a q p h (swapped a b same) is' is m)

-- as many elements, and so the same lists
lists_alike : (xs ys : List (List ℕ)) (n : ℕ) → length xs ≡ n → length ys ≡ n → All IsStrictlyIncreasing xs → All IsStrictlyIncreasing ys → ((i x : ℕ) → Contains (get_or xs i []) x → Contains (get_or ys i []) x) → ((i x : ℕ) → Contains (get_or ys i []) x → Contains (get_or xs i []) x) → xs ≡ ys
lists_alike xs ys n long long' rise rise' to of = ext_get_or [] xs ys (long ∙ sym long') (λ i below.
    rising_same (get_or xs i []) (get_or ys i []) (rise i [] below) (rise' i [] (omega (arith, below, long, long')))
    (λ x m. contains_member (get_or ys i []) x (to i x (member_contains (get_or xs i []) x m)))
    (λ x m. contains_member (get_or xs i []) x (of i x (member_contains (get_or ys i []) x m))))

members_move : (g : List (List ℕ)) (a b : Items) (p q : PlanView) (c d : Component) (e : ℕ) → HoldTheSame a b → IsPlanOf g a p → IsPlanOf g b q → Contains p.components c → Contains q.components d → c.head ≡ d.head → Inside p c e → Inside q d e
members_move g a b p q c d e same is is' of of' heads inside =
    let has : Has (Holds b) (exit_of g b) c.head e = has_moves (Holds a) (Holds b) (exit_of g a) (exit_of g b) c.head e (nests_same g a b same) (is.is_member c e of inside) in
    is'.member d e of' (subst (λ (i : ℕ). Has (Holds b) (exit_of g b) i e) heads has)

pub alike : (g : List (List ℕ)) → PlanIsDetermined g
alike g a b p q same axioms axioms' is is' =
    let heads = heads_alike g a b p q same axioms axioms' is is' in
    let many : length p.components ≡ length q.components = (
    let one = length-map p.components (λ (x : Component). x.head) in
    let two = length-map q.components (λ (x : Component). x.head) in
    let both = ap (λ (xs : List ℕ). length xs) heads in
    omega (arith, one, two, both)) in
    let points : p.points ≡ q.points = is.points ∙ sym is'.points in
    let elements : p.elements ≡ q.elements = (let x = axioms.counted in let y = axioms'.counted in omega (arith, x, y, points, many)) in
    let predecessors : p.predecessors ≡ q.predecessors = lists_alike p.predecessors q.predecessors p.elements axioms.predecessor_lists (axioms'.predecessor_lists ∙ sym elements) axioms.predecessors_rise axioms'.predecessors_rise
    (λ y x c. axioms'.to_predecessor x y (constrains_moves g a b p q x y same is is' (axioms.to_successor x y c)))
    (λ y x c. axioms.to_predecessor x y (constrains_moves g b a q p x y (swapped a b same) is' is (axioms'.to_successor x y c))) in
    let members : (c d : Component) (e : ℕ) → Contains p.components c → Contains q.components d → c.head ≡ d.head → Inside p c e ↔ Inside q d e =
    (λ c d e of of' eq. ((λ x. members_move g a b p q c d e same is is' of of' eq x), (λ x. members_move g b a q p d c e (swapped a b same) is' is of' of (sym eq) x))) in
    record {
      points = points;
      predecessors = predecessors;
      successors = lists_alike p.successors q.successors p.elements axioms.successor_lists (axioms'.successor_lists ∙ sym elements) axioms.successors_rise axioms'.successors_rise
          (λ x y c. constrains_moves g a b p q x y same is is' c)
          (λ x y c. constrains_moves g b a q p x y (swapped a b same) is' is c);
      heads = heads;
      exits = axioms.exits ∙ ap (λ (n : ℕ). range_with_len n (length p.components)) points ∙ ap (λ (n : ℕ). range_with_len q.points n) many ∙ sym axioms'.exits;
      members = members;
      inner = λ c d e of of' eq.
          let xs = predecessors_of p e in
          let equal : xs ≡ predecessors_of q e = ap (λ (lists : List (List ℕ)). get_or lists e []) predecessors in
          let tests : (x : ℕ) → Member xs x → is_inside p c x ≡ is_inside q d x = (λ x m.
          let below : x < p.elements = constrains_from p x e axioms (axioms.to_successor x e (member_contains xs x m)) in
          let one = is_inside_tells p c x axioms of below in
          let two = is_inside_tells q d x axioms' of' (omega (arith, below, elements)) in
          both (is_inside p c x) (is_inside q d x) (λ h. two.1 ((members c d x of of' eq).0 (one.0 h))) (λ h. one.1 ((members c d x of of' eq).1 (two.0 h)))) in
          sym (length-filter (is_inside p c) xs)
          ∙ ap (λ (ys : List ℕ). length ys) (filter_agrees (is_inside p c) (is_inside q d) xs tests)
          ∙ length-filter (is_inside q d) xs
          ∙ ap (count_by (is_inside q d)) equal;
    }
  where
    both : (x y : Bool) → (x ≡ true → y ≡ true) → (y ≡ true → x ≡ true) → x ≡ y
    both true y f g = sym (f refl)
    both false true f g = g refl
    both false false f g = refl
