-- The points that wait, and the turns of the walk.
use Rattle.std.proofs.Common.{◌≡◌, ◌≢◌, ◌<◌, ◌≤◌, ◌+◌, ◌-◌, ℕ, suc, refl, ap, ◌∙◌, sym, subst, Bool, true, false, ◌||◌, ◌⊎◌, inl, inr, nat_eq, List, [], ◌∷◌, ◌++◌, length, map, drop, reverse, replicate, slice_index_or, slice_set, Option, Some, arith, length-set}
use Rattle.std.specs.Option.{option_to_list}
use Rattle.std.proofs.lemmas.Bool.Decides.{eqb_tells}
use Rattle.std.proofs.lemmas.List.{reverse-append, drop_more, drop_all, length-map, get_or-map, get_or-set_same, get_or-set_other, get_or-replicate, length-replicate, get_or_default}
use Rattle.pk_graph.specs.declared.graphs.Edge.{Edge}
use Rattle.pk_graph.specs.Graphs.{EdgeOf, edge_view}
use Rattle.pk_number.specs.Preorders.{is_among, preorder}
use Rattle.pk_number.specs.Rows.{AreBelow}
use Rattle.pk_number.proofs.AmongLemmas.{among_append, among_right, among_here, not_among, below_head, below_tail, below_both, below_one}
use Rattle.pk_number.proofs.WalkLemmas.{out_of_turns, nothing_waits, seen_before, seen_now, AreEndsBelow}

abbrev pub ends_of : List Edge → List ℕ
ends_of row = map (λ (e : EdgeOf). e.to) (map edge_view row)

ends_size : (row : List Edge) → length (ends_of row) ≡ length row
ends_size row = length-map (map edge_view row) (λ (e : EdgeOf). e.to) ∙ length-map row edge_view

end_at : (row : List Edge) (i : ℕ) (d : Edge) → i < length row → slice_index_or (ends_of row) i d.to ≡ (slice_index_or row i d).to
unfolding edge_view
end_at row i d h =
    get_or-map (λ (e : EdgeOf). e.to) (map edge_view row) i (edge_view d) d.to (subst (λ (n : ℕ). i < n) (sym (length-map row edge_view)) h)
    ∙ ap (λ (e : EdgeOf). e.to) (get_or-map edge_view row i d (edge_view d) h)

pub push_begin : (row : List Edge) (ws : List ℕ) → ws ≡ drop (length row - 0) (ends_of row) ++ ws
push_begin row ws = ap (λ (xs : List ℕ). xs ++ ws) (sym (drop_all (length row - 0) (ends_of row) (omega (arith, ends_size row))))

pub push_next : (row : List Edge) (past : ℕ) (d : Edge) (waiting new first : List ℕ) → past < length row → new ≡ waiting ++ (slice_index_or row (length row - 1 - past) d).to ∷ []
    → reverse waiting ≡ drop (length row - past) (ends_of row) ++ first → reverse new ≡ drop (length row - (past + 1)) (ends_of row) ++ first
push_next row past d waiting new first h e f =
    let i : ℕ = length row - 1 - past in
    let at : length row - (past + 1) ≡ length row - 1 - past = omega arith in
    let more : length row - 1 - past + 1 ≡ length row - past = omega (arith, h) in
    ap reverse e
    ∙ reverse-append waiting ((slice_index_or row i d).to ∷ [])
    ∙ ap (λ (x : ℕ). x ∷ reverse waiting) (sym (end_at row i d (omega (arith, h))))
    ∙ ap (λ (xs : List ℕ). slice_index_or (ends_of row) i d.to ∷ xs) f
    ∙ ap (λ (k : ℕ). slice_index_or (ends_of row) i d.to ∷ (drop k (ends_of row) ++ first)) (sym more)
    ∙ ap (λ (xs : List ℕ). xs ++ first) (sym (drop_more (ends_of row) i d.to (omega (arith, h, ends_size row))))
    ∙ ap (λ (k : ℕ). drop k (ends_of row) ++ first) (sym at)

pub push_end : (row : List Edge) (past : ℕ) (waiting first : List ℕ) → length row ≤ past → reverse waiting ≡ drop (length row - past) (ends_of row) ++ first → reverse waiting ≡ ends_of row ++ first
push_end row past waiting first h f =
    let none : length row - past ≡ 0 = omega (arith, h) in f ∙ ap (λ (k : ℕ). drop k (ends_of row) ++ first) none

-- ---- turns

-- a walk from the entry, of which so many turns are done
pub record Walking (ends : ℕ → List ℕ) (n turns turn : ℕ) (marks : List Bool) (waiting order : List ℕ) : Type 0 where
  pub left : preorder ends (turns - turn) (reverse waiting) order ≡ preorder ends turns (1 ∷ []) []
  pub below : AreBelow n (reverse waiting)
  pub size : length marks ≡ n
  pub each : (p : ℕ) → p < n → slice_index_or marks p false ≡ is_among p order

pub walking_begin : (ends : ℕ → List ℕ) (n turns : ℕ) (marks : List Bool) (waiting order : List ℕ) → 1 < n → marks ≡ replicate n false → waiting ≡ 1 ∷ [] → order ≡ [] → Walking ends n turns 0 marks waiting order
walking_begin ends n turns marks waiting order h m w o = record {
  left =
      ap (λ (k : ℕ). preorder ends k (reverse waiting) order) all
      ∙ ap (λ (xs : List ℕ). preorder ends turns (reverse xs) order) w
      ∙ ap (λ (xs : List ℕ). preorder ends turns (1 ∷ []) xs) o;
  below = subst (λ (xs : List ℕ). AreBelow n (reverse xs)) (sym w) (below_one n 1 h);
  size = ap length m ∙ length-replicate n false;
  each = λ p i. ap (λ (bs : List Bool). slice_index_or bs p false) m ∙ get_or-replicate n p false false i ∙ ap (is_among p) (sym o);
}
  where
    all : turns - 0 ≡ turns
    all = omega arith

popped : (rest waiting : List ℕ) (p : ℕ) (r : Option ℕ) → waiting ≡ rest ++ option_to_list r → r ≡ Some p → reverse waiting ≡ p ∷ reverse rest
popped rest waiting p r e f = ap reverse (e ∙ ap (λ (o : Option ℕ). rest ++ option_to_list o) f) ∙ reverse-append rest (p ∷ [])

turn_of : (turns turn : ℕ) → turn < turns → turns - turn ≡ suc (turns - (turn + 1))
turn_of turns turn h = omega (arith, h)

pub walking_point : (ends : ℕ → List ℕ) (n turns turn : ℕ) (marks : List Bool) (waiting rest order : List ℕ) (p : ℕ) (r : Option ℕ) → waiting ≡ rest ++ option_to_list r → r ≡ Some p
    → Walking ends n turns turn marks waiting order → p < n
walking_point ends n turns turn marks waiting rest order p r e f w =
    below_head n p (reverse rest) (subst (λ (xs : List ℕ). AreBelow n xs) (popped rest waiting p r e f) w.below)

-- what the code reads of its mark
pub walking_mark : (n p : ℕ) (marks : List Bool) (b v : Bool) → p < n → length marks ≡ n → b ≡ slice_index_or marks p b → b ≡ v → slice_index_or marks p false ≡ v
walking_mark n p marks b v h s e f = get_or_default marks p false b (subst (λ (m : ℕ). p < m) (sym s) h) ∙ sym e ∙ f

pub walking_seen : (ends : ℕ → List ℕ) (n turns turn : ℕ) (marks : List Bool) (waiting rest order : List ℕ) (p : ℕ) (r : Option ℕ) → turn < turns → waiting ≡ rest ++ option_to_list r → r ≡ Some p
    → slice_index_or marks p false ≡ true → Walking ends n turns turn marks waiting order → Walking ends n turns (turn + 1) marks rest order
walking_seen ends n turns turn marks waiting rest order p r t e f m w = record {
  left =
      sym (seen_before ends (turns - (turn + 1)) p (reverse rest) order (sym (w.each p (walking_point ends n turns turn marks waiting rest order p r e f w)) ∙ m))
      ∙ ap (λ (k : ℕ). preorder ends k (p ∷ reverse rest) order) (sym (turn_of turns turn t))
      ∙ ap (λ (xs : List ℕ). preorder ends (turns - turn) xs order) (sym (popped rest waiting p r e f))
      ∙ w.left;
  below = below_tail n p (reverse rest) (subst (λ (xs : List ℕ). AreBelow n xs) (popped rest waiting p r e f) w.below);
  size = w.size;
  each = w.each;
}

or_true : (b : Bool) → (b || true) ≡ true
or_true true = refl
or_true false = refl

or_false : (b : Bool) → (b || false) ≡ b
or_false true = refl
or_false false = refl

marked : (n p : ℕ) (marks : List Bool) (order : List ℕ) → p < n → length marks ≡ n → ((q : ℕ) → q < n → slice_index_or marks q false ≡ is_among q order) → (q : ℕ) → q < n
    → slice_index_or (slice_set marks p true) q false ≡ is_among q (order ++ p ∷ [])
marked n p marks order h s f q i = told (eqb_tells q p)
  where
    told : ((nat_eq q p ≡ true) × (q ≡ p)) ⊎ ((nat_eq q p ≡ false) × (q ≢ p)) → slice_index_or (slice_set marks p true) q false ≡ is_among q (order ++ p ∷ [])
    told (inl g) =
        ap (λ (k : ℕ). slice_index_or (slice_set marks p true) k false) g.1
        ∙ get_or-set_same marks p true false (subst (λ (m : ℕ). p < m) (sym s) h)
        ∙ sym (among_right q order (p ∷ []) (ap (λ (k : ℕ). is_among k (p ∷ [])) g.1 ∙ among_here p []))
    told (inr g) =
        get_or-set_other marks p q true false g.1
        ∙ f q i
        ∙ sym (among_append q order (p ∷ []) ∙ ap (λ (b : Bool). is_among q order || b) (not_among q p [] refl g.1) ∙ or_false (is_among q order))

pub walking_now : (ends : ℕ → List ℕ) (n turns turn : ℕ) (marks more : List Bool) (waiting rest new order longer : List ℕ) (p : ℕ) (r : Option ℕ) → turn < turns → waiting ≡ rest ++ option_to_list r → r ≡ Some p
    → slice_index_or marks p false ≡ false → more ≡ slice_set marks p true → longer ≡ order ++ p ∷ [] → reverse new ≡ ends p ++ reverse rest → AreEndsBelow ends n
    → Walking ends n turns turn marks waiting order → Walking ends n turns (turn + 1) more new longer
walking_now ends n turns turn marks more waiting rest new order longer p r t e f m s o v b w = record {
  left =
      ap (λ (xs : List ℕ). preorder ends (turns - (turn + 1)) xs longer) v
      ∙ ap (λ (xs : List ℕ). preorder ends (turns - (turn + 1)) (ends p ++ reverse rest) xs) o
      ∙ sym (seen_now ends (turns - (turn + 1)) p (reverse rest) order (sym (w.each p at) ∙ m))
      ∙ ap (λ (k : ℕ). preorder ends k (p ∷ reverse rest) order) (sym (turn_of turns turn t))
      ∙ ap (λ (xs : List ℕ). preorder ends (turns - turn) xs order) (sym (popped rest waiting p r e f))
      ∙ w.left;
  below = subst (λ (xs : List ℕ). AreBelow n xs) (sym v) (below_both n (ends p) (reverse rest) (b p) (below_tail n p (reverse rest) (subst (λ (xs : List ℕ). AreBelow n xs) (popped rest waiting p r e f) w.below)));
  size = ap length s ∙ length-set marks p true ∙ w.size;
  each = λ q i. ap (λ (bs : List Bool). slice_index_or bs q false) s ∙ marked n p marks order at w.size w.each q i ∙ ap (is_among q) (sym o);
}
  where
    at : p < n
    at = walking_point ends n turns turn marks waiting rest order p r e f w

pub walking_none : (ends : ℕ → List ℕ) (n turns turn : ℕ) (marks : List Bool) (waiting order : List ℕ) → waiting ≡ [] → Walking ends n turns turn marks waiting order → order ≡ preorder ends turns (1 ∷ []) []
walking_none ends n turns turn marks waiting order e w =
    sym (nothing_waits ends (turns - turn) order) ∙ ap (λ (xs : List ℕ). preorder ends (turns - turn) (reverse xs) order) (sym e) ∙ w.left

pub walking_out : (ends : ℕ → List ℕ) (n turns turn : ℕ) (marks : List Bool) (waiting order : List ℕ) → turns ≤ turn → Walking ends n turns turn marks waiting order → order ≡ preorder ends turns (1 ∷ []) []
walking_out ends n turns turn marks waiting order h w =
    let none : turns - turn ≡ 0 = omega (arith, h) in
    sym (out_of_turns ends (reverse waiting) order) ∙ ap (λ (k : ℕ). preorder ends k (reverse waiting) order) (sym none) ∙ w.left
