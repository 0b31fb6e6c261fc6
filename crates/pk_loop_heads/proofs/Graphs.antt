-- Where a loop into which nothing jumps begins again is a head, if edges from two points lead there.
use Rattle.std.proofs.Common.{◌≡◌, ℕ, ◌<◌, ◌⊎◌, inl, inr, List, map, slice_index_or, sym, ap, subst, ◌∙◌, arith}
use Rattle.pk_ctypes.specs.declared.places.Pos.{Pos}
use Rattle.pk_typed.specs.Trees.{StatementTree}
use Rattle.pk_calls.specs.Laws.{PathsAreAll}
use Rattle.pk_draft.specs.Drafts.{DraftOf, EdgeFrom, by_number, entry_point}
use Rattle.pk_number.specs.Preorders.{is_among, place_among}
use Rattle.pk_number.specs.Numbering.{reached}
use Rattle.pk_number.proofs.AmongLemmas.{true_or_false, at_place}
use Rattle.pk_number.proofs.ReachedLemmas.{reached_first}
use Rattle.pk_number.proofs.NumberedLemmas.{contains_map}
use Rattle.pk_lower.specs.Parts.{program_draft}
use Rattle.pk_lower.specs.Paths.{path_of}
use Rattle.pk_head_laws.specs.Drafts.{IsEntryFrom}
use Rattle.pk_head_laws.proofs.Drafts.{no_place, led_to_twice}
use Rattle.pk_head_laws.proofs.Heads.{heads_are_led_to_twice, returns_lead_twice}
use Rattle.pk_visits.specs.Turns.{TurnPoint, turning, program_turns}
use Rattle.pk_edge_laws.specs.Edges.{IsLabelIn, IsInLoop}
use Rattle.pk_loop_heads.specs.Laws.{LoopsHaveHeads}
use Rattle.pk_loop_heads.proofs.Enters.{IsEntry}
use Rattle.pk_loop_heads.proofs.Programs.{IsEntered, unit_entered}

entry_from : (d : DraftOf ℕ) (w : StatementTree) (at : Pos) (us : List TurnPoint) (e : IsEntered d.edges w at us) → IsEntryFrom d (IsInLoop (IsLabelIn e.first e.labels w) e.head e.last) e.from e.head
entry_from d w at us e = record {
  entry = record { inside = inside; start = λ i. absurd (let late = behind entry_point i in omega (arith, late)); edges = λ f c i. edge f i (e.edges f c) };
  from = λ f c to. source f to (e.edges f c);
} where
  S : ℕ → Type 0
  S = IsInLoop (IsLabelIn e.first e.labels w) e.head e.last

  inside : S e.head
  inside = inr (omega arith, e.some)

  behind : (x : ℕ) → S x → entry_point < x
  behind x (inl i) = let u = i.3 in let v = e.behind in omega (arith, u, v)
  behind x (inr i) = let u = i.0 in let v = e.low in omega (arith, u, v)

  edge : (f : EdgeFrom ℕ) → S f.to → IsEntry S e.from e.head f → S f.from ⊎ (f.to ≡ e.head)
  edge f i (inl none) = let u = behind f.to i in absurd (omega (arith, u, none))
  edge f i (inr (inl n)) = inl n
  edge f i (inr (inr g)) = inr (g i).1

  source : (f : EdgeFrom ℕ) → f.to ≡ e.head → IsEntry S e.from e.head f → S f.from ⊎ (f.from ≡ e.from)
  source f to (inl none) = let v = e.low in absurd (omega (arith, to, v, none))
  source f to (inr (inl n)) = inl n
  source f to (inr (inr g)) = inr (g (subst S (sym to) inside)).0

-- its point of the graph isn't the first
not_first : (d : DraftOf ℕ) (h : ℕ) → entry_point < h → 0 < place_among (reached d.edges) h
not_first d h low = by (first_or_not (place_among (reached d.edges) h)) where
  found : List ℕ
  found = reached d.edges

  first_or_not : (n : ℕ) → (n ≡ 0) ⊎ (0 < n)
  first_or_not n = grind arith

  by : (place_among found h ≡ 0) ⊎ (0 < place_among found h) → 0 < place_among found h
  by (inr some) = some
  by (inl none) = elim (true_or_false (is_among h found)) [
    | inl k ↦ (let is : h ≡ entry_point = sym (at_place found h 0 k) ∙ ap (λ (n : ℕ). slice_index_or found n 0) none ∙ (reached_first d.edges).1 in
        absurd (omega (arith, is, low)))
    | inr k ↦ (let past = no_place found h k in let some = (reached_first d.edges).0 in omega (arith, past, some))
  ]

pub loops_have_heads : PathsAreAll → LoopsHaveHeads
loops_have_heads law u name paths unit marked has path at plain =
    let entry = has.entry in
    let body = has.is_entry.0.0 in
    let are = law.all u entry has.seen paths has.walks has.is_listing in
    let d = program_draft by_number u paths in
    let us = program_turns by_number u paths path in
    let e = unit_entered u entry paths unit marked body has.is_listing are path at plain in
    let found = reached d.edges in
    let listed = map (path_of u paths) paths in (
      place_among found e.head,
      contains_map (λ (s : TurnPoint). turning s.at (place_among found s.point)) us (turning at e.head) e.told,
      record {
        head = λ p order o twice. (led_to_twice listed d (IsInLoop (IsLabelIn e.first e.labels plain.inner) e.head e.last) e.from e.head (entry_from d plain.inner at us e) twice p order o).listed;
        turned = λ p order o is. heads_are_led_to_twice listed d p order (place_among found e.head) o is (not_first d e.head e.low);
        followed = λ p order o back.
            (led_to_twice listed d (IsInLoop (IsLabelIn e.first e.labels plain.inner) e.head e.last) e.from e.head (entry_from d plain.inner at us e)
            (returns_lead_twice listed d (place_among found e.head) (not_first d e.head e.low) back) p order o).listed;
      },
    )
