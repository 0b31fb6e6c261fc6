-- The constraints of heads, element by element.
use Rattle.std.proofs.Common.{◌≡◌, ℕ, ◌<◌, ◌≤◌, ◌+◌, List, ◌⊎◌, inl, inr, length, get_or, take, [], ◌∷◌, ◌++◌, Bool, true, false, IsTrue, ◌↔◌, sym, subst, arith, ap, refl, ◌∙◌, Option, Some, None, Contains}
use Rattle.std.proofs.lemmas.Bool.{cases_lt}
use Rattle.std.proofs.lemmas.Bool.Decides.{eqb_tells}
use Rattle.std.proofs.lemmas.List.{take_more, take_all}
use Rattle.std.proofs.lemmas.List.Elements.{Contains-get_or, Contains-push_cases}
use Rattle.pk_plan.specs.Digraphs.{Edge}
use Rattle.pk_plan.specs.Nests.{Holds}
use Rattle.pk_wpo.specs.Constraints.{Top, vertex, EdgeConstraint, forth, back, exit_of}
use Rattle.pk_wpo.specs.Targets.{IsTarget, vertex as plain_vertex, exit_of_head}
use Rattle.pk_wpo.specs.Layouts.{Laid, IsLaid, end_number, place_in}
use Rattle.pk_plan.specs.Reverses.{IsOneMore}
use Rattle.pk_wpo.specs.Edges.{AreEdgeConstraints, IsLed, IsFromHome, IsMoreFrom, HasHeadConstraintsMore, IsEndMore, HasEndConstraintsMore}
use Rattle.pk_wpo.proofs.Placed.{Hold, head_vertex, exit_before_end, hold_same, has_from, has_before, has_head, has_below, hold_by_place}
use Rattle.pk_wpo.proofs.Orders.{HasIn, TopIn, ByHead, HomeIn, top_is_one, edge_from_below, edge_to_below}
use Rattle.pk_plan.proofs.Drawing.{EdgesOf, Rows, RowTo}

-- what an edge gives
abbrev pub Drawn : Laid → ℕ → ℕ → ℕ → ℕ → Type 0
Drawn l u v a b = Top (Holds l.items) (exit_of l.graph l.items) u v a × IsTarget (Holds l.items) (exit_of l.graph l.items) u v b

target_is_one : (l : Laid) (u v a b : ℕ) → IsTarget (Holds l.items) (exit_of l.graph l.items) u v a → IsTarget (Holds l.items) (exit_of l.graph l.items) u v b → a ≡ b
target_is_one l u v a b (plain_vertex no') (plain_vertex no'') = refl
target_is_one l u v a b (plain_vertex no') (exit_of_head x) = absurd (no' x)
target_is_one l u v a b (exit_of_head x) (plain_vertex no') = absurd (no' x)
target_is_one l u v a b (exit_of_head x) (exit_of_head y) = refl

pub drawn_is_one : (l : Laid) (u v a b a' b' : ℕ) → IsLaid l → Drawn l u v a b → Drawn l u v a' b' → (a' ≡ a) × (b' ≡ b)
drawn_is_one l u v a b a' b' laid d e = (top_is_one l u v a' a laid e.0 d.0, target_is_one l u v b' b e.1 d.1)

pub target_below : (l : Laid) (u v b : ℕ) → IsLaid l → v < length l.graph → IsTarget (Holds l.items) (exit_of l.graph l.items) u v b → b < end_number l
target_below l u v b laid inside (plain_vertex no') = omega (arith, inside)
target_below l u v b laid inside (exit_of_head x) = exit_before_end l v u laid x

pub are_edge_constraints : (l : Laid) (c : List (List ℕ)) → EdgesOf (Edge l.graph) (Drawn l) c → AreEdgeConstraints l c
are_edge_constraints l c e = record {
  drawn = λ a b x. by_constraint a b x;
  only = λ a b edge. let o = e.only a b edge in of_drawn a b o.0 o.1 o.2 o.3;
}
  where
    by_constraint : (a b : ℕ) → EdgeConstraint l.graph (Holds l.items) (exit_of l.graph l.items) a b → Edge c a b
    by_constraint a b (forth {u} edge no' t) = e.drawn u b a b edge (t, plain_vertex no')
    by_constraint a b (back {u} {h} edge x t) = e.drawn u h a (exit_of l.graph l.items h) edge (t, exit_of_head x)

    of_target : (a u v b : ℕ) → Edge l.graph u v → TopIn l u v a → IsTarget (Holds l.items) (exit_of l.graph l.items) u v b → EdgeConstraint l.graph (Holds l.items) (exit_of l.graph l.items) a b
    of_target a u v b edge t (plain_vertex no') = forth edge no' t
    of_target a u v b edge t (exit_of_head x) = back edge x t

    of_drawn : (a b u v : ℕ) → Edge l.graph u v → Drawn l u v a b → EdgeConstraint l.graph (Holds l.items) (exit_of l.graph l.items) a b
    of_drawn a b u v edge d = of_target a u v b edge d.0 d.1

-- components that have an element in common lie one in the other
pub has_both : (l : Laid) (h k e : ℕ) → IsLaid l → HasIn l h e → HasIn l k e → Hold l h k ⊎ Hold l k h
has_both l h k e laid x y =
    let from_h = has_from l h e laid x in
    let before_h = has_before l h e laid x in
    let from_k = has_from l k e laid y in
    let before_k = has_before l k e laid y in
    let head_h = has_head l h e laid x in
    let head_k = has_head l k e laid y in
    elim (cases_lt (place_in l k) (place_in l h)) [
      | inl less ↦ inr (hold_by_place l k h laid head_k (head_vertex l h h laid head_h) (omega (arith, less)) (omega (arith, from_h, before_k)))
      | inr more ↦ inl (hold_by_place l h k laid head_h (head_vertex l k k laid head_k) more (omega (arith, from_k, before_h)))
    ]

-- there is one home
pub home_is_one : (l : Laid) (e h k : ℕ) → IsLaid l → HomeIn l e (Some h) → HomeIn l e (Some k) → h ≡ k
home_is_one l e h k laid x y = hold_same l h k laid (y.3 h x.0 x.1 x.2) (x.3 k y.0 y.1 y.2)

pub home_or_none : (l : Laid) (e h : ℕ) → HomeIn l e (Some h) → HomeIn l e None → ⊥
home_or_none l e h x none = x.2 (none h x.0 x.1)

-- a head constrains only what has its component as its home
pub head_is_home : (l : Laid) (h b : ℕ) → IsLaid l → ByHead l h b → HomeIn l b (Some h)
head_is_home l h b laid c =
    let head = has_head l h b laid c.has in (
      head,
      c.has,
      c.another,
      (λ k x has ne. elim (has_both l h k b laid c.has has) [
        | inl inner ↦ elim (eqb_tells k h) [
          | inl same ↦ subst (λ (i : ℕ). Hold l k i) same.1 x
          | inr other ↦ absurd (ne (c.in_no_inner k other.1 inner has))
        ]
        | inr outer ↦ outer
      ]),
    )

-- the constraints of heads for the elements below e
pub record HeadsTo (l : Laid) (old new : List (List ℕ)) (e : ℕ) : Type 0 where
  pub kept : (a b : ℕ) → Edge old a b → Edge new a b
  pub drawn : (h b : ℕ) → b < e → ByHead l h b → Edge new h b
  pub only : (a b : ℕ) → Edge new a b → Edge old a b ⊎ ByHead l a b
  pub led : (b h : ℕ) → b < e → HomeIn l b (Some h) → (a : ℕ) × HasIn l h a × Edge new a b

-- an element that an edge leads into from inside its home needs no other
pub heads_led : (l : Laid) (old now : List (List ℕ)) (e : ℕ) → IsLaid l → AreEdgeConstraints l old → IsLed l old e → HeadsTo l old now e → HeadsTo l old now (e + 1)
heads_led l old now e laid edges led so_far = record {
  kept = so_far.kept;
  drawn = λ h b below c. elim (cases_lt b e) [
    | inl less ↦ so_far.drawn h b less c
    | inr more ↦
        let same : b ≡ e = omega (arith, below, more) in
        let c' : ByHead l h e = subst (λ (i : ℕ). ByHead l h i) same c in
        let home : led.home ≡ h = home_is_one l e led.home h laid led.is_home (head_is_home l h e laid c') in
        absurd (c'.without_edge led.from (subst (λ (i : ℕ). HasIn l i led.from) home led.inside) (edges.only led.from e led.edge))
  ];
  only = so_far.only;
  led = λ b h below x. elim (cases_lt b e) [
    | inl less ↦ so_far.led b h less x
    | inr more ↦
        let same : b ≡ e = omega (arith, below, more) in
        let home : led.home ≡ h = home_is_one l e led.home h laid led.is_home (subst (λ (i : ℕ). HomeIn l i (Some h)) same x) in
        (led.from, subst (λ (i : ℕ). HasIn l i led.from) home led.inside, subst (λ (i : ℕ). Edge now led.from i) (sym same) (so_far.kept led.from e led.edge))
  ];
}

-- one that is in no component, but as its head, has none from a head
pub heads_none : (l : Laid) (old now : List (List ℕ)) (e : ℕ) → IsLaid l → HomeIn l e None → HeadsTo l old now e → HeadsTo l old now (e + 1)
heads_none l old now e laid none so_far = record {
  kept = so_far.kept;
  drawn = λ h b below c. elim (cases_lt b e) [
    | inl less ↦ so_far.drawn h b less c
    | inr more ↦
        let same : b ≡ e = omega (arith, below, more) in
        absurd (home_or_none l e h (head_is_home l h e laid (subst (λ (i : ℕ). ByHead l h i) same c)) none)
  ];
  only = so_far.only;
  led = λ b h below x. elim (cases_lt b e) [
    | inl less ↦ so_far.led b h less x
    | inr more ↦ absurd (home_or_none l e h (subst (λ (i : ℕ). HomeIn l i (Some h)) (omega (arith, below, more)) x) none)
  ];
}

-- another gets one from the head of its home
pub heads_more : (l : Laid) (old now new : List (List ℕ)) (e h : ℕ) → IsLaid l → AreEdgeConstraints l old → (IsLed l old e → ⊥) → HomeIn l e (Some h) → IsOneMore now h e new → HeadsTo l old now e → HeadsTo l old new (e + 1)
heads_more l old now new e h laid edges unled home more so_far = record {
  kept = λ a b edge. more.old a b (so_far.kept a b edge);
  drawn = λ k b below c. elim (cases_lt b e) [
    | inl less ↦ more.old k b (so_far.drawn k b less c)
    | inr past ↦
        let same : b ≡ e = omega (arith, below, past) in
        let equal : h ≡ k = home_is_one l e h k laid home (head_is_home l k e laid (subst (λ (i : ℕ). ByHead l k i) same c)) in
        subst (λ (i : ℕ). Edge new i b) equal (subst (λ (i : ℕ). Edge new h i) (sym same) more.new)
  ];
  only = λ a b edge. elim (more.only a b edge) [
    | inl old' ↦ so_far.only a b old'
    | inr last ↦ inr (subst (λ (i : ℕ). ByHead l i b) (sym last.0) (subst (λ (i : ℕ). ByHead l h i) (sym last.1) (record {
      has = home.1;
      another = home.2;
      without_edge = λ x inside by_edge. unled (record { home = h; is_home = home; from = x; inside = inside; edge = edges.drawn x e by_edge });
      in_no_inner = λ k other inner has. elim (eqb_tells e k) [
        | inl same ↦ same.1
        | inr differ ↦ absurd (other (hold_same l k h laid (home.3 k (has_head l k e laid has) has differ.1) inner))
      ];
    })))
  ];
  led = λ b k below x. elim (cases_lt b e) [
    | inl less ↦ let earlier = so_far.led b k less x in (earlier.0, earlier.1, more.old earlier.0 b earlier.2)
    | inr past ↦
        let same : b ≡ e = omega (arith, below, past) in
        let equal : h ≡ k = home_is_one l e h k laid home (subst (λ (i : ℕ). HomeIn l i (Some k)) same x) in
        (h, subst (λ (i : ℕ). HasIn l i h) equal (vertex home.0), subst (λ (i : ℕ). Edge new h i) (sym same) more.new)
  ];
}

pub heads_end : (l : Laid) (old new : List (List ℕ)) (e : ℕ) → IsLaid l → end_number l ≤ e → HeadsTo l old new e → HasHeadConstraintsMore l old new
heads_end l old new e laid all so_far = record {
  kept = so_far.kept;
  drawn = λ h b c. so_far.drawn h b (let below = has_below l h b laid c.has in omega (arith, below, all)) c;
  only = so_far.only;
  led = λ b h below x. so_far.led b h (omega (arith, below, all)) x;
}

-- constraints to END for the numbers below e, and no other change
pub record EndsTo (end : ℕ) (old new : List (List ℕ)) (e : ℕ) : Type 0 where
  pub kept : (a b : ℕ) → Edge old a b → Edge new a b
  pub drawn : (a : ℕ) → a < e → ((b : ℕ) → Edge old a b → ⊥) → Edge new a end
  pub only : (a b : ℕ) → Edge new a b → Edge old a b ⊎ ((a < e) × ((c : ℕ) → Edge old a c → ⊥) × (b ≡ end))
  pub leads : (a : ℕ) → a < e → (b : ℕ) × Edge new a b

pub ends_more : (end : ℕ) (old now new : List (List ℕ)) (e : ℕ) → IsEndMore now e end new → EndsTo end old now e → EndsTo end old new (e + 1)
ends_more end old now new e more so_far =
    let before : (b : ℕ) → Edge now e b → Edge old e b = (λ b edge. elim (so_far.only e b edge) [ inl x ↦ x | inr x ↦ (let less = x.0 in absurd (omega (arith, less))) ]) in
    record {
      kept = λ a b edge. more.kept a b (so_far.kept a b edge);
      drawn = λ a below none. elim (cases_lt a e) [
        | inl less ↦ more.kept a end (so_far.drawn a less none)
        | inr past ↦
            let same : a ≡ e = omega (arith, below, past) in
            subst (λ (i : ℕ). Edge new i end) (sym same) (more.drawn (λ c edge. none c (subst (λ (i : ℕ). Edge old i c) (sym same) (before c edge))))
      ];
      only = λ a b edge. elim (more.only a b edge) [
        | inl x ↦ elim (so_far.only a b x) [ inl y ↦ inl y | inr y ↦ (let less = y.0 in inr (omega (arith, less), y.1, y.2)) ]
        | inr x ↦ inr ((let same = x.0 in omega (arith, same)), (λ c edge'. x.2 c (so_far.kept e c (subst (λ (i : ℕ). Edge old i c) x.0 edge'))), x.1)
      ];
      leads = λ a below. elim (cases_lt a e) [
        | inl less ↦ let l = so_far.leads a less in (l.0, more.kept a l.0 l.1)
        | inr past ↦
            let same : a ≡ e = omega (arith, below, past) in
            (more.leads.0, subst (λ (i : ℕ). Edge new i more.leads.0) (sym same) more.leads.1)
      ];
    }

pub ends_end : (end : ℕ) (old new : List (List ℕ)) (e : ℕ) → e ≡ end → EndsTo end old new e → HasEndConstraintsMore end old new
ends_end end old new e is so_far = record {
  kept = so_far.kept;
  drawn = λ a below none. so_far.drawn a (omega (arith, below, is)) none;
  only = λ a b edge. elim (so_far.only a b edge) [ inl x ↦ inl x | inr x ↦ (let less = x.0 in inr (omega (arith, less, is), x.1, x.2)) ];
  leads = λ a below. so_far.leads a (omega (arith, below, is));
}

-- what is marked so far: the elements into which an edge that is done leads from inside their homes
pub record LedTo (l : Laid) (c : List (List ℕ)) (done : ℕ → ℕ → Type 0) (marks : List Bool) : Type 0 where
  pub sound : (b : ℕ) → IsTrue (get_or marks b false) → IsLed l c b
  pub complete : (a b : ℕ) → done a b → IsFromHome l a b → IsTrue (get_or marks b false)

pub led_row_begins : (l : Laid) (c : List (List ℕ)) (a : ℕ) (row : List ℕ) (marks : List Bool) → LedTo l c (Rows c a) marks → LedTo l c (RowTo c a row 0) marks
led_row_begins l c a row marks so_far = record {
  sound = so_far.sound;
  complete = λ x b done home. elim done [ inl old ↦ so_far.complete x b old home | inr new ↦ (let below = new.1.1 in absurd (omega (arith, below))) ];
}

pub led_row_more : (l : Laid) (c : List (List ℕ)) (a : ℕ) (row : List ℕ) (j : ℕ) (marks new : List Bool) (yes' : Bool) → row ≡ get_or c a [] → j < length row → IsTrue yes' ↔ IsFromHome l a (get_or row j 0)
    → ((k : ℕ) → IsTrue (get_or marks k false) → IsTrue (get_or new k false))
    → ((k : ℕ) → IsTrue (get_or new k false) → IsTrue (get_or marks k false) ⊎ ((k ≡ get_or row j 0) × IsTrue yes'))
    → (IsTrue yes' → IsTrue (get_or new (get_or row j 0) false))
    → LedTo l c (RowTo c a row j) marks → LedTo l c (RowTo c a row (j + 1)) new
led_row_more l c a row j marks new yes' is below tells kept only marked so_far =
    let taken : take (j + 1) row ≡ take j row ++ get_or row j 0 ∷ [] = take_more row j 0 below in
    record {
      sound = λ b told. elim (only b told) [
        | inl old ↦ so_far.sound b old
        | inr here ↦
            let x = tells.0 here.1 in
            let edge : Edge c a (get_or row j 0) = subst (λ (xs : List ℕ). Contains xs (get_or row j 0)) is (Contains-get_or row j 0 below) in
            subst (λ (i : ℕ). IsLed l c i) (sym here.0) (record { home = x.home; is_home = x.is_home; from = a; inside = x.inside; edge = edge })
      ];
      complete = λ x b done home. elim done [
        | inl old ↦ kept b (so_far.complete x b (inl old) home)
        | inr here ↦ elim (Contains-push_cases (take j row) (get_or row j 0) b (subst (λ (xs : List ℕ). Contains xs b) taken here.1)) [
          | inl old ↦ kept b (so_far.complete x b (inr (here.0, old)) home)
          | inr last ↦ subst (λ (i : ℕ). IsTrue (get_or new i false)) last
              (marked (tells.1 (subst (λ (i : ℕ). IsFromHome l a i) (sym last) (subst (λ (i : ℕ). IsFromHome l i b) here.0 home))))
        ]
      ];
    }

pub led_row_ends : (l : Laid) (c : List (List ℕ)) (a : ℕ) (row : List ℕ) (j : ℕ) (marks : List Bool) → row ≡ get_or c a [] → length row ≤ j → LedTo l c (RowTo c a row j) marks → LedTo l c (Rows c (a + 1)) marks
led_row_ends l c a row j marks is all so_far =
    let whole : take j row ≡ get_or c a [] = take_all j row all ∙ is in
    record {
      sound = so_far.sound;
      complete = λ x b done home. elim (cases_lt x a) [
        | inl less ↦ so_far.complete x b (inl (done.0, less)) home
        | inr more ↦
            let same : x ≡ a = (let below = done.1 in omega (arith, below, more)) in
            so_far.complete x b (inr (same, subst (λ (xs : List ℕ). Contains xs b) (sym whole) (subst (λ (w : ℕ). Edge c w b) same done.0))) home
      ];
    }

pub led_ends : (l : Laid) (c : List (List ℕ)) (a b : ℕ) (marks : List Bool) → IsLaid l → AreEdgeConstraints l c → end_number l ≤ a → LedTo l c (Rows c a) marks → IsTrue (get_or marks b false) ↔ IsLed l c b
led_ends l c a b marks laid edges all so_far = (
  so_far.sound b,
  (λ x. so_far.complete x.from b (x.edge, (let below = edge_from_below l x.from b laid (edges.only x.from b x.edge) in omega (arith, below, all))) (record { home = x.home; is_home = x.is_home; inside = x.inside })),
)

pub row_below : (l : Laid) (c : List (List ℕ)) (a j : ℕ) (row : List ℕ) → IsLaid l → AreEdgeConstraints l c → row ≡ get_or c a [] → j < length row → get_or row j 0 < end_number l
row_below l c a j row laid edges is below =
    edge_to_below l a (get_or row j 0) laid (edges.only a (get_or row j 0) (subst (λ (xs : List ℕ). Contains xs (get_or row j 0)) is (Contains-get_or row j 0 below)))

-- one element more, by its mark
pub heads_step : (l : Laid) (old now new : List (List ℕ)) (e : ℕ) (marked : Bool) (head : Option ℕ) → IsLaid l → AreEdgeConstraints l old → IsTrue marked ↔ IsLed l old e → (IsTrue marked → head ≡ None) → ((IsTrue marked → ⊥) → HomeIn l e head) → IsMoreFrom now head e new → HeadsTo l old now e → HeadsTo l old new (e + 1)
heads_step l old now new e true head laid edges tells none home more so_far =
    let same : now ≡ new = subst (λ (o : Option ℕ). IsMoreFrom now o e new) (none refl) more in
    subst (λ (x : List (List ℕ)). HeadsTo l old x (e + 1)) same (heads_led l old now e laid edges (tells.0 refl) so_far)
heads_step l old now new e false head laid edges tells none home more so_far =
    by_home head (home (λ told. absurd (cc))) more
  where
    by_home : (head : Option ℕ) → HomeIn l e head → IsMoreFrom now head e new → HeadsTo l old new (e + 1)
    by_home None home more = subst (λ (x : List (List ℕ)). HeadsTo l old x (e + 1)) more (heads_none l old now e laid home so_far)
    by_home (Some h) home more = heads_more l old now new e h laid edges (λ x. let told : false ≡ true = tells.1 x in absurd (cc)) home more so_far

pub head_for_below : (l : Laid) (e h : ℕ) (marked : Bool) (head : Option ℕ) → IsLaid l → (IsTrue marked → head ≡ None) → ((IsTrue marked → ⊥) → HomeIn l e head) → head ≡ Some h → h < end_number l
head_for_below l e h true head laid none home is = absurd (let no' = none refl in cc)
head_for_below l e h false head laid none home is =
    let x : HomeIn l e (Some h) = subst (λ (o : Option ℕ). HomeIn l e o) is (home (λ told. absurd (cc))) in
    let below = head_vertex l h h laid x.0 in
    omega (arith, below)
